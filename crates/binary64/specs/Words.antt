-- The words for binary64 numbers. Each operation is that of `lib.Ieee`: the binary64 nearest to the exact result.
use Rattle.std.specs.Prelude.{ℕ, ◌^◌, Bool, false, true, ℤ, pos, Float}
use Rattle.std.specs.Float.Ieee as Ieee
use Rattle.std.specs.Float.{binary64, fin}
use Rattle.std.specs.Float.Ieee.{round}

infixl 6 ◌⊕◌ ◌⊖◌
infixl 7 ◌⊗◌ ◌⊘◌
-- sum, difference, product and quotient
abbrev pub ◌⊕◌ : Float → Float → Float
a ⊕ b = Ieee.add binary64 a b

abbrev pub ◌⊖◌ : Float → Float → Float
a ⊖ b = Ieee.sub binary64 a b

abbrev pub ◌⊗◌ : Float → Float → Float
a ⊗ b = Ieee.mul binary64 a b

abbrev pub ◌⊘◌ : Float → Float → Float
a ⊘ b = Ieee.div binary64 a b

-- the whole number z
abbrev pub whole : ℤ → Float
whole z = Ieee.of_int binary64 z

-- +0
abbrev pub zero64 : Float
zero64 = fin false 0 (pos 0)

-- A decimal constant: its number of places, then its digits with _ for the point. So plus 10 134_9634025100 is the binary64 nearest to
-- 134.9634025100, minus 6 0_010325 the one nearest to -0.010325, and 3.03e-4 is plus (2 + 4) 3_03.
unfoldable pub decimal64 : Bool → (places digits : ℕ) → Float
unfolding round
decimal64 negative places digits = round binary64 negative digits (10 ^ places)

abbrev pub plus : (places digits : ℕ) → Float
plus places digits = decimal64 false places digits

abbrev pub minus : (places digits : ℕ) → Float
minus places digits = decimal64 true places digits
