-- Time as one number: n, the microseconds since J2000.0, at which the exact zonal sums and the nutation's exact angle are taken; x = n + 5 N, which is
-- never negative, at which ours are, and in which the rows of a table are dated.
-- J2000.0 is day 51544 at noon.
use Rattle.std.specs.Prelude.{ℕ, ◌+◌, ◌*◌, ◌-◌, ℤ, pos, ◌+ℤ◌, ◌-ℤ◌, ◌*ℤ◌}
use Rattle.instants.specs.Limits.{day_micros, days_covered}
use Rattle.instants.specs.Instants.{day_index}

-- n: of the day number d and the microseconds m of that day
abbrev pub since_j2000 : ℤ → ℕ → ℤ
since_j2000 d m = (d -ℤ pos 51544) *ℤ pos day_micros +ℤ pos m -ℤ pos 43_200_000_000

-- N: the microseconds of a century; the centuries are n / N
abbrev pub century : ℕ
century = 3_155_760_000_000_000

-- x: of the day of index i and the microseconds m of that day. Five centuries of 36525 days before J2000.0 are 36527 days and a half before
-- 1600-01-01 0 h, from which i counts.
abbrev pub moment : ℕ → ℕ → ℕ
moment i m = (i + 36527) * day_micros + 43_200_000_000 + m

-- x of the instant d, m
abbrev pub moment_of : ℤ → ℕ → ℕ
moment_of d m = moment (day_index d) m

-- n of the moment x
unfoldable pub since : ℕ → ℤ
since x = pos x -ℤ pos 5 *ℤ pos century

-- the last moment of the days that are covered
abbrev pub latest : ℕ
latest = moment (days_covered - 1) (day_micros - 1)
