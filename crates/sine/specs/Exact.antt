-- The exact sine and cosine of A / Q turns, in whole numbers: each is a numerator over `sine_den Q`.
-- Q is a multiple of 4, and A is below Q, since whole turns are removed.
use Rattle.std.specs.Prelude.{cond, ℕ, ◌+◌, ◌*◌, ◌-◌, ◌/◌, ◌%◌, ◌^◌, leb, ℤ, pos, neg_ℤ}
use Rattle.sine.specs.Series.{factorial, series}

-- a turn in radians: the fraction turn_num / turn_den
abbrev pub turn_num : ℕ
turn_num = 6283185307179586476925287

abbrev pub turn_den : ℕ
turn_den = 10 ^ 24

-- S: the first twelve terms of x - x^3/3! + x^5/5! - .. at x = A * turn_num / (Q * turn_den), over sine_den Q
unfoldable pub S : ℕ → ℕ → ℤ
S Q A = series (pos (A * turn_num)) (pos (Q * turn_den))

-- the denominator of S, and of the sine and the cosine
unfoldable pub sine_den : ℕ → ℕ
sine_den Q = (Q * turn_den) ^ 23 * factorial 23

-- up to 1/4 the value at A, and from there to 1/2 that at Q/2 - A; f is given up to 1/4
abbrev pub half_turn : (ℕ → ℤ) → ℕ → ℕ → ℤ
half_turn f Q A = cond (leb (4 * A) Q) (f A) (f (Q / 2 - A))

-- above 1/2 minus the value at A - Q/2
unfoldable pub whole_turn : (ℕ → ℤ) → ℕ → ℕ → ℤ
whole_turn f Q A = cond (leb (2 * A) Q) (half_turn f Q A) (neg_ℤ (half_turn f Q (A - Q / 2)))

-- the sine, by these cases of S
unfoldable pub exact_sine : ℕ → ℕ → ℤ
exact_sine Q A = whole_turn (S Q) Q A

-- the cosine: the sine of a quarter more, whole turns removed
unfoldable pub exact_cosine : ℕ → ℕ → ℤ
exact_cosine Q A = exact_sine Q ((A + Q / 4) % Q)
