-- Demand 2 holds of service (i). Each field is proved from the theorem of `rescue` that docs/PROMISES.md names. Assumes nothing.
use Prim.Native.Nat.{ℕ, ◌+◌, ◌*◌, ◌≤◌}
use mathlib.Core.Path.{◌≡◌, ap, ◌∙◌}
use mathlib.Core.List.{List}
use native.Mathlib.Omega.{arith}
use lib.ListN.{length}
use borrow.Author.Tests.{le-ltb}
use Rattle.record.specs.Format.{record_length}
use Rattle.record.specs.Records.{is_record}
use Rattle.rescue.specs.Walk.{walk}
use Rattle.rescue.specs.Rescue.{most_bytes, kept_count, ranges_in, passed_count, rescue_of, kept_of, passed_of, rescue_refusal_of}
use Rattle.rescue.proofs.Walks.{walk_ends, walk_keeps, walk_passes}
use Rattle.rescue.proofs.Covers.{every_place, kept_read, passed_unread, bytes_counted}
use Rattle.rescue.proofs.Ranges.{ranges_apart, places_of_ranges}
use Rattle.rescue.proofs.Promises.{rescue_refusal, rescue_numbers, rescue_buffers, rescue_most, kept_whole, list_reads_back}
use Rattle.rescue.proofs.Whole.{whole_kept}
use Rattle.rescue.proofs.Damage.{damaged_lost, others_read, others_kept, one_range, one_lost}
use Rattle.rescue.proofs.Examples.{two, two_whole, two_bytes, none_inside, damaged_answers}
use Rattle.promises.specs.Rescued.{RescuedExactly}

-- the numbers add up, since those of the walk do
add_up : (s : List ℕ) (n m : ℕ) → rescue_refusal_of (rescue_of s n m) ≡ 0 → kept_of (rescue_of s n m) * 30 + passed_of (rescue_of s n m) ≡ length s
add_up s n m z = let e = rescue_numbers s n m z in omega (arith, e.0, e.2, bytes_counted s)

-- none of the refusals applies where both buffers are long enough for any answer
room : (s : List ℕ) → length s ≤ most_bytes → (n m : ℕ) → 65520 ≤ n → 16920 ≤ m → rescue_refusal_of (rescue_of s n m) ≡ 0
room s h n m k l =
    let r = rescue_most s h in
    rescue_refusal s n m
    ∙ simp (le-ltb most_bytes (length s) h, le-ltb n (record_length * kept_count s) (omega (arith, r.0)), le-ltb m (8 * length (ranges_in s)) (omega (arith, r.1)))

-- PROMISE. Demand 2: records are rescued exactly.
pub rescued_exactly : RescuedExactly
unfolding kept_count ranges_in passed_count
rescued_exactly = record {
  walk_ends = walk_ends;
  walk_keeps = λ s i r e. walk_keeps s i (ap is_record e);
  walk_passes = λ s i n h e. walk_passes s i h (ap is_record e);
  every_place = every_place;
  kept_read = λ s. kept_read s 0;
  passed_unread = λ s. passed_unread s 0;
  bytes_counted = bytes_counted;
  ranges_apart = ranges_apart;
  ranges_places = λ s. places_of_ranges (walk s).passed;
  numbers_returned = rescue_numbers;
  numbers_add_up = add_up;
  buffers_written = rescue_buffers;
  records_whole = kept_whole;
  list_reads_back = list_reads_back;
  always_room = room;
  whole_kept = whole_kept;
  damaged_record = λ s n m q b w y h k l d. (damaged_lost s n m q b w y h k l d, others_read s n m q b w y h k l d);
  damaged_alone = λ s n m q b w y h k l d i. (others_kept s n m q b w y h k l d i, one_range s n m q b w y h k l d i, one_lost s n m q b w y h k l d i);
  some_damaged = (two, two_whole, two_bytes, (λ e. absurd (omega arith)), none_inside, damaged_answers.0, damaged_answers.1, damaged_answers.2);
}
