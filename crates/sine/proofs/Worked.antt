-- Worked values, computed: ours at angles of each quarter and at their ends, and the exact sine and cosine at twelfths of a turn, to thirty digits.
-- Assumes nothing.
use mathlib.Core.Bool.{Bool, true, ◌&&◌}
use mathlib.Core.List.{List, [], ◌∷◌}
use Prim.Native.Nat.{ℕ, ◌*◌, ◌^◌}
use lib.Dec.{T}
use lib.IntN.{ℤ, pos, ◌*ℤ◌, pow, one}
use lib.Signed.{quot_z}
use Rattle.algebra.specs.Integers.{+◌, −◌}
use Rattle.algebra.proofs.Polynomial.{eqℤ}
use Rattle.sine.specs.Exact.{S, sine_den, whole_turn, exact_sine, exact_cosine}
use Rattle.sine.specs.Ours.{alternating, sine_quarter, quarter_turn, our_sine, our_cosine}

record Row : Type 0 where
  angle : ℕ
  sine : ℤ
  cosine : ℤ

abbrev row : ℕ → ℤ → ℤ → Row
row b s c = record { angle = b; sine = s; cosine = c }

ours : List Row → Bool
ours [] = true
ours (r ∷ rs) = eqℤ (our_sine r.angle) r.sine && (eqℤ (our_cosine r.angle) r.cosine && ours rs)

our_values : T (ours (
    row 0 (+ 0) (+ 2147483649)
    ∷ row 123456789012 (+ 741908911) (+ 2015256108)
    ∷ row (2 ^ 39) (+ 2147483649) (+ 0)
    ∷ row 549755814665 (+ 2147483649) (− 3)
    ∷ row 1000000000000 (+ 602401727) (− 2061261308)
    ∷ row (2 ^ 40) (+ 0) (− 2147483649)
    ∷ row 1500000000000 (− 1955113805) (− 888378312)
    ∷ row (3 * 2 ^ 39) (− 2147483649) (+ 0)
    ∷ row 2199023201231 (− 333) (+ (2 ^ 31))
    ∷ []))
unfolding ours our_sine our_cosine whole_turn quarter_turn sine_quarter alternating
our_values = tt

-- A of Q, and its sine and cosine in units of 10^-30, towards zero
exacts : ℕ → List Row → Bool
exacts Q [] = true
exacts Q (r ∷ rs) =
    eqℤ (quot_z (exact_sine Q r.angle *ℤ pos (10 ^ 30)) (pos (sine_den Q))) r.sine
    && (eqℤ (quot_z (exact_cosine Q r.angle *ℤ pos (10 ^ 30)) (pos (sine_den Q))) r.cosine && exacts Q rs)

exact_values : T (exacts 12 (
    row 1 (+ 500000000000000000000000016847) (+ 866025403784438646763722986318)
    ∷ row 3 (+ 999999999999999999994861613889) (+ 0)
    ∷ row 5 (+ 500000000000000000000000016847) (− 866025403784438646763722986318)
    ∷ row 7 (− 500000000000000000000000016847) (− 866025403784438646763722986318)
    ∷ row 11 (− 500000000000000000000000016847) (+ 866025403784438646763722986318)
    ∷ []))
unfolding exacts exact_sine exact_cosine whole_turn S sine_den pow one
exact_values = tt
