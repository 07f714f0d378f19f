-- The eleven angles of a day of the year, for the year 1900 + y: the constants and the order of operations of the IERS routine ARG2, whose names stand
-- in the comments. Each operation is rounded once. Derived from that routine; not IERS Conventions software (NOTICE, docs/DIFFERENCES.md).
use Rattle.std.specs.Prelude.{ℕ, ◌+◌, ℤ, pos, ◌+ℤ◌, ◌-ℤ◌, ◌*ℤ◌, int_div, Float}
use Rattle.std.specs.Float.Ieee as Ieee
use Rattle.std.specs.Float.Ieee.{neg}
use Rattle.binary64.specs.Words.{◌⊕◌, ◌⊖◌, ◌⊗◌, ◌⊘◌, whole, plus, minus}
use Rattle.binary64.specs.Reduction.{reduced}
use Rattle.schwiderski.specs.declared.Angles.{Angles}
use Rattle.schwiderski.specs.declared.Longitudes.{Longitudes}

-- TWOPI, and DTR, the radians of a degree
unfoldable pub two_pi : Float
two_pi = plus 24 6_283185307179586476925287

unfoldable pub degree : Float
degree = plus (12 + 1) 0_174532925199

-- ID: the day of the year without its fraction
unfoldable pub whole_day : Float → ℕ
whole_day day = Ieee.to_unsigned 64 day

-- FDAY: the seconds of that day
unfoldable pub seconds : Float → Float
seconds day = (day ⊖ whole (pos (whole_day day))) ⊗ plus 0 86400

-- the leap days in ICAPD: a quotient that is cut toward zero
unfoldable pub leap_days : ℕ → ℤ
leap_days y = int_div (pos y -ℤ pos 73) (pos 4)

-- ICAPD: the days from the last of 1974 on; before 1973 up to one more
unfoldable pub day_count : (y d : ℕ) → ℤ
day_count y d = pos d +ℤ pos 365 *ℤ (pos y -ℤ pos 75) +ℤ leap_days y

-- CAPT: Julian centuries from noon of 1899-12-31
unfoldable pub centuries : ℤ → Float
centuries n = (plus 6 27392_500528 ⊕ plus 9 1_000000035 ⊗ whole n) ⊘ plus 0 36525

-- H0, S0 and P0: the mean longitudes of the Sun, of the Moon and of its perigee at the beginning of the day, in radians
unfoldable pub sun : Float → Float
unfolding degree
sun t = (plus 5 279_69668 ⊕ (plus 9 36000_768930485 ⊕ plus (2 + 4) 3_03 ⊗ t) ⊗ t) ⊗ degree

unfoldable pub moon : Float → Float
unfolding degree
moon t = (((plus (1 + 6) 1_9 ⊗ t ⊖ plus 6 0_001133) ⊗ t ⊕ plus 8 481267_88314137) ⊗ t ⊕ plus 6 270_434358) ⊗ degree

unfoldable pub perigee : Float → Float
unfolding degree
perigee t = (((neg (plus (1 + 5) 1_2 ⊗ t) ⊖ plus 6 0_010325) ⊗ t ⊕ plus 10 4069_0340329577) ⊗ t ⊕ plus 6 334_329653) ⊗ degree

-- the four numbers that every angle is made of
unfoldable pub longitudes : (y : ℕ) (day : Float) → Longitudes
longitudes y day =
    let t = centuries (day_count y (whole_day day)) in
    record { seconds = seconds day; sun = sun t; moon = moon t; perigee = perigee t }

-- ANGLE before it is reduced, from SPEED in radians a second and the four factors of ANGFAC
unfoldable pub angle_sum : Longitudes → (speed h s p turns : Float) → Float
angle_sum l speed h s p turns = speed ⊗ l.seconds ⊕ h ⊗ l.sun ⊕ s ⊗ l.moon ⊕ p ⊗ l.perigee ⊕ turns ⊗ two_pi

-- all eleven
unfoldable pub sums : Longitudes → Angles
sums l = record {
  m2 = angle_sum l (plus (5 + 4) 1_40519) (plus 0 2) (minus 0 2) (plus 0 0) (plus 0 0);
  s2 = angle_sum l (plus (5 + 4) 1_45444) (plus 0 0) (plus 0 0) (plus 0 0) (plus 0 0);
  n2 = angle_sum l (plus (5 + 4) 1_37880) (plus 0 2) (minus 0 3) (plus 0 1) (plus 0 0);
  k2 = angle_sum l (plus (5 + 4) 1_45842) (plus 0 2) (plus 0 0) (plus 0 0) (plus 0 0);
  k1 = angle_sum l (plus (5 + 4) 0_72921) (plus 0 1) (plus 0 0) (plus 0 0) (plus 2 0_25);
  o1 = angle_sum l (plus (5 + 4) 0_67598) (plus 0 1) (minus 0 2) (plus 0 0) (minus 2 0_25);
  p1 = angle_sum l (plus (5 + 4) 0_72523) (minus 0 1) (plus 0 0) (plus 0 0) (minus 2 0_25);
  q1 = angle_sum l (plus (5 + 4) 0_64959) (plus 0 1) (minus 0 3) (plus 0 1) (minus 2 0_25);
  mf = angle_sum l (plus (6 + 4) 0_053234) (plus 0 0) (plus 0 2) (plus 0 0) (plus 0 0);
  mm = angle_sum l (plus (6 + 4) 0_026392) (plus 0 0) (plus 0 1) (minus 0 1) (plus 0 0);
  ssa = angle_sum l (plus (6 + 4) 0_003982) (plus 0 2) (plus 0 0) (plus 0 0) (plus 0 0);
}

-- each reduced by two-pi
unfoldable pub reduced_each : Angles → Angles
reduced_each a = record {
  m2 = reduced two_pi a.m2;
  s2 = reduced two_pi a.s2;
  n2 = reduced two_pi a.n2;
  k2 = reduced two_pi a.k2;
  k1 = reduced two_pi a.k1;
  o1 = reduced two_pi a.o1;
  p1 = reduced two_pi a.p1;
  q1 = reduced two_pi a.q1;
  mf = reduced two_pi a.mf;
  mm = reduced two_pi a.mm;
  ssa = reduced two_pi a.ssa;
}

-- the formula: the eleven angles at a day of the year 1900 + y
unfoldable pub angles_of : (y : ℕ) (day : Float) → Angles
angles_of y day = reduced_each (sums (longitudes y day))
