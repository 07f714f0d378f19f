-- A number reduced to a range that begins at 0 and ends below a period, in three steps.
-- Derived from the IERS routines TDFRPH and ARG2; not IERS Conventions software (NOTICE, docs/DIFFERENCES.md).
use Rattle.std.specs.Prelude.{cond, Float}
use Rattle.std.specs.Float.Ieee as Ieee
use Rattle.std.specs.Float.{binary64}
use Rattle.binary64.specs.Words.{◌⊕◌, zero64}

-- the period is added to a remainder below zero
unfoldable pub raised : (period r : Float) → Float
raised period r = cond (Ieee.lt r zero64) (r ⊕ period) r

-- what is not below the period becomes +0, and so does a zero of either sign
unfoldable pub settled : (period q : Float) → Float
settled period q = cond (Ieee.lt q period) (cond (Ieee.eq q zero64) zero64 q) zero64

-- the remainder by the period (C's fmod), raised and settled
unfoldable pub reduced : (period x : Float) → Float
unfolding raised settled
reduced period x = settled period (raised period (Ieee.rem binary64 x period))
