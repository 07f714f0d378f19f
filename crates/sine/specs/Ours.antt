-- Our sine and cosine in whole numbers. An angle b is in units of 2^-41 turn, below 2^41; the answer is in units of 2^-31.
use Rattle.std.specs.Prelude.{List, [], ◌∷◌, ℕ, ◌+◌, ◌*◌, ◌-◌, ◌/◌, ◌%◌, ◌^◌, ℤ, pos}
use Rattle.sine.specs.Exact.{whole_turn}

-- (pi/2)^(2k+1) / (2k+1)! in units of 2^-31, to nearest, for k from 0 to 7: the first, and the others
abbrev pub first_constant : ℕ
first_constant = 3373259426

abbrev pub other_constants : List ℕ
other_constants = 1387197337 ∷ 171138612 ∷ 10053990 ∷ 344545 ∷ 7728 ∷ 122 ∷ 1 ∷ []

-- c - z*(d - z*(..)) in units of 1 / F, each product rounded down
unfoldable pub alternating : ℕ → ℕ → ℕ → List ℕ → ℕ
alternating F z c [] = c
alternating F z c (d ∷ ds) = c - z * alternating F z d ds / F

-- the parts of a quarter turn that an angle is cut to
abbrev pub quarter_parts : ℕ
quarter_parts = 2 ^ 30

-- one of them, in units of 2^-41 turn
abbrev pub one_part : ℕ
one_part = 2 ^ 39 / quarter_parts

-- how many squares of such a part are a unit of 2^-31
abbrev pub unit_squares : ℕ
unit_squares = quarter_parts * quarter_parts / 2 ^ 31

-- the sine of q parts of a quarter turn; q*q / unit_squares is the square of q / quarter_parts in units of 2^-31
unfoldable pub sine_quarter : ℕ → ℕ
sine_quarter q = q * alternating (2 ^ 31) (q * q / unit_squares) first_constant other_constants / quarter_parts

-- the sine of r of 2^41 parts of a turn, up to a quarter, cut to these parts
unfoldable pub quarter_turn : ℕ → ℤ
quarter_turn r = pos (sine_quarter (r / one_part))

-- by the cases of the exact sine
unfoldable pub our_sine : ℕ → ℤ
our_sine b = whole_turn quarter_turn (2 ^ 41) b

-- the sine of a quarter turn more, whole turns removed
unfoldable pub our_cosine : ℕ → ℤ
our_cosine b = our_sine ((b + 2 ^ 39) % 2 ^ 41)
