-- The refusal number of a buffer's service is that of the first case that applies, also where the day number goes through its 64 bits. Assumes nothing.
use Prim.Native.Nat.{ℕ}
use mathlib.Core.Path.{◌≡◌, ap, sym, ◌∙◌}
use mathlib.Core.List.{List}
use mir.Syntax.{w64}
use mir.Val.{SFits, to_z, of_z}
use mir.Facts.{to_z-of_z}
use Rattle.std.specs.Prelude.{ℤ}
use Rattle.instants.specs.Refusals.{check, refusal_of}
use Rattle.instants.proofs.FirstRefusal.{first_checked}
use Rattle.record.specs.Records.{write_cases, write_refusal}
use Rattle.run.specs.Run.{run_cases, run_refusal}
use Rattle.run.proofs.Refusals.{run_checked}
use Rattle.rescue.specs.Rescue.{rescue_cases, rescue_of, rescue_refusal_of}
use Rattle.rescue.proofs.Promises.{rescue_refusal}

pub write_number : (d : ℤ) (m n : ℕ) → SFits w64 d → refusal_of (check (write_cases (to_z w64 (of_z w64 d)) m n)) ≡ write_refusal d m n
unfolding write_refusal
write_number d m n f = ap (λ (z : ℤ). refusal_of (check (write_cases z m n))) (to_z-of_z f) ∙ first_checked (write_cases d m n)

pub run_number : (d : ℤ) (m count step n : ℕ) → SFits w64 d → refusal_of (check (run_cases (to_z w64 (of_z w64 d)) m count step n)) ≡ run_refusal d m count step n
run_number d m count step n f = ap (λ (z : ℤ). refusal_of (check (run_cases z m count step n))) (to_z-of_z f) ∙ run_checked d m count step n

pub rescue_number : (s : List ℕ) (n m : ℕ) → refusal_of (check (rescue_cases s n m)) ≡ rescue_refusal_of (rescue_of s n m)
rescue_number s n m = first_checked (rescue_cases s n m) ∙ sym (rescue_refusal s n m)
