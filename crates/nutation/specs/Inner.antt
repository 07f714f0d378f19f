-- What only the contracts of the code's own functions cite.
use Rattle.std.specs.Prelude.{ℕ, ◌+◌, ◌*◌, ◌-◌, ◌^◌, ◌≤◌, ◌<◌, ℤ, nat_abs}
use Rattle.instants.specs.Limits.{day_micros}
use Rattle.rows.specs.declared.Place.{Place}
use Rattle.rows.specs.Table.{last_row_day, largest}
use Rattle.nutation.specs.declared.Amplitudes.{Amplitudes}
use Rattle.nutation.specs.Exact.{round_up}
use Rattle.nutation.specs.Ours.{our_Xc, our_Xs}

-- ---- the steps to the offsets

-- both amplitudes at a place
unfoldable pub amplitudes : Place → ℕ → Amplitudes
amplitudes p x = record { xc = our_Xc p x; xs = our_Xs p x }

-- a moment `after` microseconds after a row, before another row that is `days` later
pub record OnTheWay (days after : ℕ) : Type 0 where
  pub days_positive : 0 < days
  pub days_few : days ≤ last_row_day
  pub less : after < days * day_micros

-- two rows' amplitudes, and a factor
pub record MixBounds (c d : ℤ) (l : ℕ) : Type 0 where
  pub from : nat_abs c ≤ largest
  pub to : nat_abs d ≤ largest
  pub part : l ≤ 2 ^ 27

-- the largest of our amplitudes
abbrev pub widest : ℕ
widest = largest * 2 ^ 10

-- two amplitudes, a cosine and a sine
pub record OffsetBounds (c s cos sin : ℤ) : Type 0 where
  pub c_small : nat_abs c ≤ widest
  pub s_small : nat_abs s ≤ widest
  pub cos_small : nat_abs cos < 2 ^ 32
  pub sin_small : nat_abs sin < 2 ^ 32

-- ---- a step to the uncertainty: twice what is between u and v, n of w on the way, rounded up
unfoldable pub twice_between : (u v w n : ℕ) → ℕ
twice_between u v w n = round_up (20 * (u * (w - n) + v * n)) w
