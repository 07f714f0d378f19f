-- What is written, case by case. The code asks for a rescue into 65,520 and 16,920 bytes, which hold every answer: only the input can be refused, and then
-- its refusal is what is written; else the records are the walk's, and the list reads back as the ranges whose lines are put. Assumes nothing.
use Prim.Native.Nat.{ℕ, ◌*◌, ◌≤◌}
use mathlib.Core.Path.{◌≡◌, refl, ap, ap₂, sym, ◌∙◌}
use mathlib.Core.List.{List, [], ◌++◌}
use native.Mathlib.Omega.{arith}
use lib.ListN.{length}
use borrow.Author.Tests.{le-ltb, ltb-false}
use Rattle.bigendian.specs.Buffers.{at_front}
use Rattle.bigendian.proofs.Buffers.{front_length}
use Rattle.instants.specs.Refusals.{refused_or}
use Rattle.instants.proofs.FirstRefusal.{in_both_lem, refused_alike}
use Rattle.instants.proofs.Impossible.{impossible}
use Rattle.record.specs.Format.{record_length}
use Rattle.rescue.specs.declared.Counts.{Counts}
use Rattle.rescue.specs.declared.Range.{Range}
use Rattle.rescue.specs.Rescue.{most_bytes, entry_length, kept_count, ranges_in, counts_of, list_bytes, input_cases, rescue_of, records_after, list_after}
use Rattle.rescue.specs.Inner.{Fits}
use Rattle.rescue.specs.Claims.{listed}
use Rattle.rescue.proofs.Entries.{list_length}
use Rattle.rescue.proofs.Rounds.{kept_length}
use Rattle.rescue.proofs.Answers.{given_fits, given_counts, records_given, list_given}
use Rattle.rescue.proofs.Promises.{rescue_most, front_reads_back}
use Rattle.text.specs.Text.{refused_text}
use Rattle.rescue_lines.specs.Lines.{lines_text, totals_text, records_text, report_text}
use Rattle.rescue_lines.proofs.Promises.{records_accepted, report_accepted}
use Rattle.std.specs.Prelude.{Result, Ok, Err}
use Rattle.instants.specs.declared.refusal.Refusal.{Refusal}

-- the bytes of the two buffers that a rescue fills
abbrev records_room : ℕ
records_room = 65520

abbrev list_room : ℕ
list_room = 16920

-- ---- refused

-- into these buffers a rescue is refused for its input alone
roomy : (s : List ℕ) → rescue_of s records_room list_room ≡ refused_or Err (input_cases s) (Ok (counts_of s))
unfolding rescue_of
roomy s =
    in_both_lem (λ (x y : (Result Counts Refusal)). x ≡ y) Err Err (input_cases s) _ _ (λ k. refl)
    (λ h.
    let m = rescue_most s (ltb-false most_bytes (length s) h.0) in
    rw (le-ltb records_room (record_length * kept_count s) m.0, le-ltb list_room (entry_length * length (ranges_in s)) m.1) refl)

module _ (s : List ℕ) (n : Refusal) (e : rescue_of s records_room list_room ≡ Err n) where
  pub none_written : records_text s ≡ []
  unfolding records_text
  none_written = refused_alike Err (λ _. []) (input_cases s) (Ok (counts_of s)) _ n (λ k p. cc) (λ p. impossible (cc)) (sym (roomy s) ∙ e)

  pub refusal_written : refused_text n ≡ report_text s
  unfolding report_text
  refusal_written = sym (refused_alike Err refused_text (input_cases s) (Ok (counts_of s)) _ n (λ k p. cc) (λ p. impossible (cc)) (sym (roomy s) ∙ e))

-- ---- answered

module _ (s : List ℕ) (a : Counts) (e : rescue_of s records_room list_room ≡ Ok a) where
  counts_are : a ≡ counts_of s
  counts_are = given_counts s records_room list_room a e

  fits : Fits s records_room list_room
  fits = given_fits s records_room list_room a e

  -- how many bytes the records have
  pub records_size : record_length * a.kept ≡ length (records_text s)
  records_size = ap (λ (c : Counts). record_length * c.kept) counts_are ∙ (sym (kept_length s) ∙ ap length (sym (records_accepted s fits.few)))

  -- few ranges
  pub ranges_most : entry_length * a.ranges ≤ list_room
  ranges_most = rw counts_are fits.list

  pub kept_most : record_length * a.kept ≤ records_room
  kept_most = rw counts_are fits.records

  -- the buffers after the rescue
  module _ (records list : List ℕ) (r : length records ≡ records_room) (l : length list ≡ list_room) where
    same : rescue_of s (length records) (length list) ≡ Ok a
    same = ap₂ (rescue_of s) r l ∙ e

    pub records_written : records_after s (length list) records ≡ at_front (records_text s) records
    records_written = records_given s records list a same ∙ ap (λ (t : List ℕ). at_front t records) (sym (records_accepted s fits.few))

    pub list_long : length (list_after s (length records) list) ≡ list_room
    list_long =
        ap length (list_given s records list a same)
        ∙ (front_length (list_bytes (ranges_in s)) list (omega (arith, list_length (ranges_in s), l, fits.list)) ∙ l)

    -- the list's lines and the totals are the report
    pub report_written : lines_text (listed a.ranges (list_after s (length records) list)) ++ totals_text a ≡ report_text s
    report_written =
        let b : listed a.ranges (list_after s (length records) list) ≡ ranges_in s =
        ap₂ listed (ap (λ (c : Counts). c.ranges) counts_are) (list_given s records list a same) ∙ front_reads_back s list fits.few in
        ap₂ (λ (rs : List Range) (c : Counts). lines_text rs ++ totals_text c) b counts_are ∙ sym (report_accepted s fits.few)
