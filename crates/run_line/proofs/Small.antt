-- The numbers of a line are below 10^10: a digit more makes a number ten times as large and adds at most nine, and there are at most ten.
-- Assumes nothing.
use Prim.Native.Nat.{ℕ, ◌+◌, ◌-◌, ◌*◌, ◌^◌, ◌<◌}
use mathlib.Core.Path.{◌≡◌, refl}
use mathlib.Core.Bool.{Bool, true, false}
use mathlib.Core.List.{List, [], ◌∷◌}
use native.Mathlib.Nat.{lt_of_lt_of_le, pow-le-pow_right, add-zero, zero-add}
use native.Mathlib.Omega.{arith}
use lib.Dec.{lit<}
use lib.ListN.{length}
use Rattle.line.specs.declared.Line.{Line}
use Rattle.line.specs.Lines.{is_digit, digits, decimal_from, line_of}
use Rattle.line.specs.Grammar.{Writes, IsLine}
use Rattle.line.proofs.Scanning.{IsDigit, is_digit_lem, digits_more, digits_none, below_more}
use Rattle.line.proofs.Grammar.{parsed_exactly}
use Rattle.std.specs.Prelude.{Some}

-- digits after those of a number below 10^c
decimal_small : (s : List ℕ) (c v : ℕ) → v < 10 ^ c → decimal_from v (digits s) < 10 ^ (c + length (digits s))
unfolding digits decimal_from
decimal_small [] c v h = rw (add-zero c) h
decimal_small (x ∷ s) c v h = by (is_digit x) refl (λ w k. decimal_small s (c + 1) w k)
  where
    by : (t : Bool) → is_digit x ≡ t → ((w : ℕ) → w < 10 ^ (c + 1) → decimal_from w (digits s) < 10 ^ (c + 1 + length (digits s)))
        → decimal_from v (digits (x ∷ s)) < 10 ^ (c + length (digits (x ∷ s)))
    by false p f = rw (digits_none x s p, add-zero c) h
    by true p f =
        let d : IsDigit x = is_digit_lem x p in
        let e : c + 1 + length (digits s) ≡ c + length (x ∷ digits s) = omega arith in
        rw (digits_more x s p, ← e) (f (v * 10 + (x - 48)) (below_more c v (x - 48) h (omega (arith, d.high))))

-- a number that is written with 1 to 10 digits
written_small : (ds : List ℕ) (v : ℕ) → Writes ds v → v < 10 ^ 10
written_small ds v w =
    let h : v < 10 ^ length ds = rw (w.every, w.value, zero-add) at (decimal_small ds 0 0 (lit< tt)) in
    lt_of_lt_of_le h (pow-le-pow_right {n = 10} (omega arith) w.few)

-- the step of a line
pub step_small : (s : List ℕ) (l : Line) → line_of s ≡ Some l → l.step < 10 ^ 10
step_small s l e = let i : IsLine s l = (parsed_exactly s l).0 e in written_small i.step l.step i.is_step
