-- The rules of docs/RULES.md for the eleven angles at a year and a day of the year, which is 1 at 0 h of 1 January.
use Rattle.std.specs.Prelude.{ℕ, ◌+◌, ◌-◌, Bool, not, ◌&&◌, ◌||◌, List, [], ◌∷◌, pos, nat_lt, Float, Result, Ok, Err}
use Rattle.std.specs.Float.Ieee as Ieee
use Rattle.instants.specs.Refusals.{Case, case, refused_or, refusal_of}
use Rattle.calendar.specs.Dates.{year_length}
use Rattle.binary64.specs.Words.{whole, zero64}
use Rattle.schwiderski.specs.Formula.{angles_of}
use Rattle.schwiderski.specs.declared.Angles.{Angles}
use Rattle.instants.specs.declared.refusal.Refusal.{Refusal}
use Rattle.instants.specs.declared.refusal.Refusal.TheVariants.{Year, DayOfYear}

-- the years, and the year from which the formula counts
abbrev pub first_year : ℕ
first_year = 1974

abbrev pub last_year : ℕ
last_year = 2100

abbrev pub formula_year : ℕ
formula_year = 1900

-- a day of the year is at least 1 and below the number of its days plus 1: no NaN and no infinity is
unfoldable pub in_year : (year : ℕ) (day : Float) → Bool
in_year year day = Ieee.le (whole (pos 1)) day && Ieee.lt day (whole (pos (year_length year + 1)))

-- the refusals of a year and a day of the year
abbrev pub angles_cases : (year : ℕ) (day : Float) → List Case
angles_cases year day =
    case Year (nat_lt year first_year || nat_lt last_year year)
    ∷ case DayOfYear (not (in_year year day))
    ∷ []

-- the eleven angles, or the refusal
unfoldable pub schwiderski_of : (year : ℕ) (day : Float) → Result Angles Refusal
schwiderski_of year day = refused_or Err (angles_cases year day) (Ok (angles_of (year - formula_year) day))

-- the eleven numbers in their order: M2, S2, N2, K2, K1, O1, P1, Q1, Mf, Mm, Ssa
abbrev pub in_order : Angles → List Float
in_order a = a.m2 ∷ a.s2 ∷ a.n2 ∷ a.k2 ∷ a.k1 ∷ a.o1 ∷ a.p1 ∷ a.q1 ∷ a.mf ∷ a.mm ∷ a.ssa ∷ []

-- those of an answer, or z where it is a refusal: what the call of the whole answer leaves where z was
abbrev pub angles_or : List Float → Result Angles Refusal → List Float
angles_or z (Ok a) = in_order a
angles_or z (Err n) = z

-- what the call of one number gives, `which` of the eleven: +0 beside a refusal
abbrev pub angle_of : (Angles → Float) → Result Angles Refusal → Float
angle_of which (Ok a) = which a
angle_of which (Err n) = zero64

-- the refusal number, 0 for none
abbrev pub angles_refusal_of : Result Angles Refusal → ℕ
angles_refusal_of = refusal_of
