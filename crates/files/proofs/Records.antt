-- What the records of a file have: each is what the bytes at its place read as, its instant is accepted and after the one before. Assumes nothing.
use Prim.Native.Nat.{ℕ, zero, suc, ◌+◌, ◌*◌, ◌/◌, ◌%◌}
use mathlib.Core.Path.{◌≡◌, refl, ap, sym, ◌∙◌}
use mathlib.Core.Bool.{Bool, true, false, not, ◌&&◌, ◌||◌, true≢false}
use mathlib.Core.List.{List, [], ◌∷◌}
use native.Mathlib.Omega.{arith}
use lib.Dec.{eqb, ltb}
use lib.ListN.{length, drop}
use lib.Seq.{drop-nil, drop-drop}
use lib.Signed.{lt_z, le_z}
use borrow.Author.Tests.{eqb-true, not-false}
use Rattle.instants.proofs.Impossible.{impossible}
use Rattle.instants.proofs.Accepted.{both_false}
use Rattle.instants.proofs.FirstRefusal.{NoneApplies, none_both, answered_none}
use Rattle.record.specs.declared.Record.{Record}
use Rattle.record.specs.Format.{record_length}
use Rattle.record.specs.Records.{read_of}
use Rattle.record.proofs.Unrefused.{read_accepted, read_day_fits, read_numbers_fit}
use Rattle.files.specs.Files.{most_bytes, answers, answers_in, records_among, when, starts_after, rises, wrong_length, reading_cases, order_cases, file_cases, file_of}
use Rattle.files.specs.Claims.{Each, AcceptedRecord, Fitting}
use Rattle.instants.proofs.Order.{moment_order}
use Rattle.std.specs.Prelude.{Result, Ok, Err}
use Rattle.instants.specs.declared.refusal.Refusal.{Refusal}

-- both hold where their conjunction does
pub both : (a b : Bool) → (a && b) ≡ true → (a ≡ true) × (b ≡ true)
both true b e = (refl, e)
both false b e = (e, absurd (true≢false (sym e)))

-- ---- n records at the front of s

pub record Recorded (n : ℕ) (s : List ℕ) (rs : List Record) : Type 0 where
  pub count : length rs ≡ n
  pub accepted : Each AcceptedRecord rs
  pub fitting : Each Fitting rs
  pub reads : (k : ℕ) (r : Record) (more : List Record) → drop k rs ≡ r ∷ more → read_of (drop (record_length * k) s) ≡ Ok r

recorded : (n : ℕ) (s : List ℕ) → NoneApplies (reading_cases (answers n s)) → Recorded n s (records_among (answers n s))
recorded zero s h = record { count = refl; accepted = tt; fitting = tt; reads = λ k r more e. impossible (nothing k r more e) }
  where
    nothing : (k : ℕ) (r : Record) (more : List Record) → drop k [] ≡ r ∷ more → ◌≡◌ {A = ℕ} 0 1
    nothing k r more e = let v : ◌≡◌ {A = List Record} [] (r ∷ more) = sym (drop-nil k) ∙ e in cc
recorded (suc n) s h = by (read_of s) refl h (recorded n (drop record_length s))
  where
    by : (x : (Result Record Refusal)) → read_of s ≡ x → NoneApplies (reading_cases (x ∷ answers n (drop record_length s)))
        → (NoneApplies (reading_cases (answers n (drop record_length s))) → Recorded n (drop record_length s) (records_among (answers n (drop record_length s))))
        → Recorded (suc n) s (records_among (x ∷ answers n (drop record_length s)))
    by (Err m) p h f = absurd (true≢false h.0)
    by (Ok r) p h f =
        let more : Recorded n (drop record_length s) (records_among (answers n (drop record_length s))) = f h in
        let w = read_numbers_fit s r p in
        record {
          count = ap suc more.count;
          accepted = (read_accepted s r p, more.accepted);
          fitting = (record { day = read_day_fits s r p; ut1 = w.0; lod = w.1; rate = w.2 }, more.fitting);
          reads = at;
        }
      where
        at : (k : ℕ) (q : Record) (qs : List Record) → drop k (r ∷ records_among (answers n (drop record_length s))) ≡ q ∷ qs → read_of (drop (record_length * k) s) ≡ Ok q
        at zero q qs e = let v : r ≡ q = cc in p ∙ ap Ok v
        at (suc k) q qs e =
            let j : record_length * suc k ≡ record_length + record_length * k = omega arith in
            ap (λ (i : ℕ). read_of (drop i s)) j ∙ (ap read_of (sym (drop-drop (record_length * k) record_length s)) ∙ (f h).reads k q qs e)

-- ---- the file

module _ (s : List ℕ) (rs : List Record) (e : file_of s ≡ Ok rs) where
  given : NoneApplies (file_cases s) × (◌≡◌ {A = Result (List Record) Refusal} (Ok (records_among (answers_in s))) (Ok rs))
  unfolding file_of
  given = answered_none Err (file_cases s) (Ok (records_among (answers_in s))) (Ok rs) (λ n p. impossible (cc)) e

  -- no refusal applies
  pub file_none : NoneApplies (file_cases s)
  file_none = given.0

  pub file_are : records_among (answers_in s) ≡ rs
  file_are = let g : ◌≡◌ {A = Result (List Record) Refusal} (Ok (records_among (answers_in s))) (Ok rs) = given.1 in cc

  parts : (wrong_length (length s) ≡ false) × NoneApplies (reading_cases (answers_in s)) × (not (rises (records_among (answers_in s))) ≡ false)
  unfolding file_cases
  parts =
      let b = none_both (reading_cases (answers_in s)) (order_cases (records_among (answers_in s))) file_none.1 in
      (file_none.0, b.0, b.1.0)

  whole : length s % record_length ≡ 0
  whole = eqb-true _ _ (not-false _ (both_false (not (eqb (length s % record_length) 0)) (ltb most_bytes (length s)) parts.0).0)

  -- its records, in their places
  pub file_recorded : Recorded (length s / record_length) s rs
  unfolding answers_in
  file_recorded = rw file_are at (recorded (length s / record_length) s parts.1)

  -- PROMISE. A file is thirty bytes for each of its records.
  pub file_length : length s ≡ record_length * length rs
  file_length = omega (arith, whole, file_recorded.count)

  pub file_rises : rises rs ≡ true
  file_rises = ap rises (sym file_are) ∙ not-false _ parts.2

-- ---- the order of instants

-- each is before the next
pub record_rises : (rs : List Record) → rises rs ≡ true → (k : ℕ) (r q : Record) (more : List Record) → drop k rs ≡ r ∷ q ∷ more → ltb (when r) (when q) ≡ true
record_rises [] h k r q more e = impossible (let v : ◌≡◌ {A = List Record} [] (r ∷ q ∷ more) = sym (drop-nil k) ∙ e in let z : ◌≡◌ {A = ℕ} 0 1 = cc in z)
record_rises (p ∷ rs) h zero r q more e =
    let a : p ≡ r = cc in
    let b : rs ≡ q ∷ more = cc in
    ap (λ (x : Record). ltb (when x) (when q)) (sym a) ∙ (ap (starts_after (when p)) (sym b) ∙ (both (starts_after (when p) rs) (rises rs) h).0)
record_rises (p ∷ rs) h (suc k) r q more e = record_rises rs (both (starts_after (when p) rs) (rises rs) h).1 k r q more e

-- the records from one on
pub each_from : (P : Record → Type 0) (rs : List Record) → Each P rs → (k : ℕ) (r : Record) (more : List Record) → drop k rs ≡ r ∷ more → P r × Each P more
each_from P [] h k r more e = impossible (let v : ◌≡◌ {A = List Record} [] (r ∷ more) = sym (drop-nil k) ∙ e in let z : ◌≡◌ {A = ℕ} 0 1 = cc in z)
each_from P (p ∷ rs) h zero r more e = let a : p ≡ r = cc in let b : rs ≡ more = cc in (rw a at h.0, rw b at h.1)
each_from P (p ∷ rs) h (suc k) r more e = each_from P rs h.1 k r more e

-- records whose instants rise and are accepted are in order: each is on an earlier day than the next, or earlier on the same day
pub in_order : (rs : List Record) → rises rs ≡ true → Each AcceptedRecord rs → (k : ℕ) (r q : Record) (more : List Record) → drop k rs ≡ r ∷ q ∷ more
    → (lt_z r.day q.day || (le_z r.day q.day && ltb r.micros q.micros)) ≡ true
in_order rs h a k r q more e =
    let b = each_from AcceptedRecord rs a k r (q ∷ more) e in
    sym (moment_order r.day r.micros q.day q.micros b.0 b.1.0) ∙ record_rises rs h k r q more e

-- PROMISE. The instants of a file rise.
pub file_in_order : (s : List ℕ) (rs : List Record) → file_of s ≡ Ok rs → (k : ℕ) (r q : Record) (more : List Record) → drop k rs ≡ r ∷ q ∷ more
    → (lt_z r.day q.day || (le_z r.day q.day && ltb r.micros q.micros)) ≡ true
file_in_order s rs e = in_order rs (file_rises s rs e) (file_recorded s rs e).accepted
