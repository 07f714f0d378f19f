-- Demand 2 holds of service (k). Each field is the theorem of `files` or `compare` that docs/PROMISES.md names. Assumes nothing.
use mathlib.Core.Path.{refl}
use Rattle.files.specs.Files.{answers_in, file_cases, file_of}
use Rattle.files.proofs.Records.{file_recorded, file_length, file_in_order}
use Rattle.compare.proofs.Promises.{compare_number, compare_list, same_compared, compared_files, entries_exchanged, entries_empty, entries_in_order, entries_found, entries_read_back, entries_room, listed_neither, listed_first, listed_second, listed_equal, listed_changed, sides_numbered}
use Rattle.compare.proofs.Examples.{before, after, twice, one_byte, falling_unread, three_entries, three_fit, refused_in_order, refused_unread, falling, twice_same}
use Rattle.promises.specs.Compared.{ComparedExactly}

-- PROMISE. Demand 2: record files are compared exactly.
pub compared_exactly : ComparedExactly
unfolding answers_in file_cases file_of
compared_exactly = record {
  file_length = file_length;
  file_reads = λ s rs e. (file_recorded s rs e).reads;
  file_rises = file_in_order;
  file_empty = refl;
  files_there = λ s t n z. let f = compared_files s t n z in (_, _, record { first = f.0; second = f.1 });
  in_neither = λ s t rs qs f. listed_neither s t rs qs f.first f.second;
  in_first_only = λ s t rs qs f. listed_first s t rs qs f.first f.second;
  in_second_only = λ s t rs qs f. listed_second s t rs qs f.first f.second;
  in_both_equal = λ s t rs qs f. listed_equal s t rs qs f.first f.second;
  in_both_changed = λ s t rs qs f. listed_changed s t rs qs f.first f.second;
  sides_numbered = sides_numbered;
  entries_rise = λ s t rs qs f. entries_in_order s t rs qs f.first f.second;
  entries_there = λ s t rs qs f. entries_found s t rs qs f.first f.second;
  same_file = same_compared;
  same_records = λ s t rs qs f. entries_empty s t rs qs f.first f.second;
  files_exchanged = entries_exchanged;
  number_returned = compare_number;
  list_written = compare_list;
  entries_read_back = λ s t rs qs f. entries_read_back s t rs qs f.first f.second;
  list_always_room = λ s t rs qs f. entries_room s t rs qs f.first f.second;
  some_files = (before, after, refl, refl, three_entries, three_fit.0, three_fit.1);
  some_refused = (twice, one_byte, refl, twice_same, refl, refused_in_order.0, refused_in_order.1);
  some_unread = (falling_unread, falling, refused_unread.0, refused_unread.1);
}
