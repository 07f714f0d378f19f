-- What is promised of what the program writes: the records and the report of an accepted input, and of one that is refused; two reports in full.
-- Assumes nothing.
use Prim.Native.Nat.{ℕ, ◌<◌, ◌≤◌}
use mathlib.Core.Path.{◌≡◌, refl}
use mathlib.Core.List.{List, [], ◌∷◌, ◌++◌}
use lib.ListN.{length}
use borrow.Author.Tests.{lt-ltb, le-ltb}
use Rattle.instants.specs.Refusals.{number}
use Rattle.record.specs.Records.{read_of}
use Rattle.rescue.specs.Walk.{ranges_of, stepping, walk_from}
use Rattle.rescue.specs.Rescue.{most_bytes, kept_count, ranges_in, passed_count, counts_of, kept_bytes}
use Rattle.text.specs.Text.{ascii, numeral_in, refusal_text}
use Rattle.rescue_lines.specs.Lines.{line_text, lines_text, totals_text, records_text, report_text}

-- ---- an input of 65,536 bytes or fewer

-- PROMISE. To standard output go the kept records.
pub records_accepted : (s : List ℕ) → length s ≤ most_bytes → records_text s ≡ kept_bytes s
unfolding records_text
records_accepted s h = rw (le-ltb most_bytes (length s) h) refl

-- PROMISE. To standard error goes a line for each range, in their order, and behind them the totals.
pub report_accepted : (s : List ℕ) → length s ≤ most_bytes → report_text s ≡ lines_text (ranges_in s) ++ totals_text (counts_of s)
unfolding report_text
report_accepted s h = rw (le-ltb most_bytes (length s) h) refl

-- ---- a longer one

-- PROMISE. Nothing goes to standard output.
pub records_refused : (s : List ℕ) → most_bytes < length s → records_text s ≡ []
unfolding records_text
records_refused s h = rw (lt-ltb most_bytes (length s) h) refl

-- PROMISE. To standard error goes "refused 25".
pub report_refused : (s : List ℕ) → most_bytes < length s → report_text s ≡ ascii "refused 25\n"
unfolding report_text refusal_text number numeral_in
report_refused s h = rw (lt-ltb most_bytes (length s) h) refl

-- ---- two reports

-- PROMISE. The report of no byte.
pub report_of_none : report_text [] ≡ ascii "kept 0 records, passed 0 bytes in 0 ranges\n"
unfolding report_text totals_text kept_count passed_count ranges_in ranges_of walk_from stepping numeral_in
report_of_none = refl

-- PROMISE. The report of three zeros.
pub report_of_zeros : report_text (0 ∷ 0 ∷ 0 ∷ []) ≡ ascii "passed 3 bytes at 0\nkept 0 records, passed 3 bytes in 1 ranges\n"
unfolding report_text line_text totals_text kept_count passed_count ranges_in ranges_of walk_from stepping read_of numeral_in
report_of_zeros = refl
