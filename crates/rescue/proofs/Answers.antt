-- The answer, case by case: too many bytes, a buffer that is too short, or the counts; and the buffers afterwards. Assumes nothing.
use Prim.Native.Nat.{ℕ, ◌*◌, ◌<◌, ◌≤◌}
use mathlib.Core.Path.{◌≡◌, refl, ap, sym, ◌∙◌}
use mathlib.Core.Bool.{Bool, true, false}
use mathlib.Core.List.{List}
use lib.Dec.{ltb}
use lib.ListN.{length}
use borrow.Author.Tests.{lt-ltb, le-ltb, ltb-false}
use Rattle.bigendian.specs.Buffers.{at_front}
use Rattle.instants.specs.declared.refusal.Refusal.{Refusal}
use Rattle.instants.specs.Refusals.{check}
use Rattle.instants.proofs.Accepted.{both_false}
use Rattle.instants.proofs.Impossible.{impossible}
use Rattle.instants.proofs.FirstRefusal.{NoneApplies, answered_none, none_answered, refused_alike, refused_checked}
use Rattle.record.specs.Format.{record_length}
use Rattle.rescue.specs.declared.Counts.{Counts}
use Rattle.rescue.specs.Rescue.{most_bytes, entry_length, kept_count, ranges_in, counts_of, kept_bytes, list_bytes, short, rescue_cases, rescue_of, records_after, list_after}
use Rattle.rescue.specs.Inner.{Fits}
use Rattle.std.specs.Prelude.{Result, Ok, Err}
use Rattle.instants.specs.declared.refusal.Refusal.TheVariants.{BufferShort, RescueLength}

-- ---- the code's tests

module _ (s : List ℕ) (n m : ℕ) where
  pub too_many : most_bytes < length s → Err RescueLength ≡ rescue_of s n m
  unfolding rescue_of
  too_many h = simp (lt-ltb most_bytes (length s) h)

  -- the test of the buffers, with the counts of the code
  pub tested : (a : Counts) (b : Bool) → a ≡ counts_of s → short a n m ≡ b → short (counts_of s) n m ≡ b
  tested a b p e = ap (λ (x : Counts). short x n m) (sym p) ∙ e

  pub too_short : length s ≤ most_bytes → short (counts_of s) n m ≡ true → Err BufferShort ≡ rescue_of s n m
  unfolding rescue_of
  too_short h e = rw (le-ltb most_bytes (length s) h, e) refl

  pub counted : length s ≤ most_bytes → short (counts_of s) n m ≡ false → Ok (counts_of s) ≡ rescue_of s n m
  unfolding rescue_of
  counted h e = rw (le-ltb most_bytes (length s) h, e) refl

-- ---- an answer that was given

module _ (s : List ℕ) (n m : ℕ) (a : Counts) (e : rescue_of s n m ≡ Ok a) where
  given : NoneApplies (rescue_cases s n m) × (◌≡◌ {A = Result Counts Refusal} (Ok (counts_of s)) (Ok a))
  unfolding rescue_of
  given = answered_none Err (rescue_cases s n m) (Ok (counts_of s)) (Ok a) (λ k p. impossible (cc)) e

  -- both buffers hold the whole answer
  pub given_fits : Fits s n m
  given_fits =
      let t = both_false (ltb n (record_length * kept_count s)) (ltb m (entry_length * length (ranges_in s))) given.0.1.0 in
      record { few = ltb-false most_bytes (length s) given.0.0; records = ltb-false n (record_length * kept_count s) t.0; list = ltb-false m (entry_length * length (ranges_in s)) t.1 }

  pub passed : check (rescue_cases s n m) ≡ Ok tt
  passed = none_answered Err (rescue_cases s n m) (Ok tt) given.0

  pub given_counts : a ≡ counts_of s
  given_counts = let g : ◌≡◌ {A = Result Counts Refusal} (Ok (counts_of s)) (Ok a) = given.1 in cc

-- the buffers after it
module _ (s records list : List ℕ) (a : Counts) (e : rescue_of s (length records) (length list) ≡ Ok a) where
  pub records_given : records_after s (length list) records ≡ at_front (kept_bytes s) records
  unfolding records_after
  records_given = none_answered (λ _. records) (rescue_cases s (length records) (length list)) _ (given s _ _ a e).0

  pub list_given : list_after s (length records) list ≡ at_front (list_bytes (ranges_in s)) list
  unfolding list_after
  list_given = none_answered (λ _. list) (rescue_cases s (length records) (length list)) _ (given s _ _ a e).0

-- and after a refusal
module _ (s records list : List ℕ) (n : Refusal) (e : rescue_of s (length records) (length list) ≡ Err n) where
  pub checked : check (rescue_cases s (length records) (length list)) ≡ Err n
  unfolding rescue_of
  checked = refused_alike Err Err (rescue_cases s (length records) (length list)) _ _ n (λ k p. cc) (λ p. impossible (cc)) e

  pub records_refused : records_after s (length list) records ≡ records
  unfolding records_after
  records_refused = refused_checked (λ _. records) (rescue_cases s (length records) (length list)) _ n checked

  pub list_refused : list_after s (length records) list ≡ list
  unfolding list_after
  list_refused = refused_checked (λ _. list) (rescue_cases s (length records) (length list)) _ n checked
