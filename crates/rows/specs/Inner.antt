-- What only the contracts of the code's own functions cite, here and in nutation.
use Rattle.std.specs.Prelude.{ℕ, ◌≤◌, ◌<◌, nat_abs}
use Rattle.rows.specs.declared.Row.{Row}
use Rattle.rows.specs.declared.Place.{Place}
use Rattle.rows.specs.declared.Place.TheVariants.{End, Between}
use Rattle.rows.specs.Table.{first_row_day, last_row_day, largest}
use Rattle.rows.specs.Places.{row_moment}

-- what a row of an accepted table has: its date, both amplitudes and its uncertainty, which is above 0, are within their limits
pub record AcceptedRow (r : Row) : Type 0 where
  pub from : first_row_day ≤ r.day
  pub to : r.day ≤ last_row_day
  pub xc_small : nat_abs r.xc ≤ largest
  pub xs_small : nat_abs r.xs ≤ largest
  pub uncertainty_positive : 0 < r.uncertainty
  pub uncertainty_small : r.uncertainty ≤ largest

-- ---- where x is among the rows

-- x is at or after the date of the row a, and before that of b
pub record Inside (a b : Row) (x : ℕ) : Type 0 where
  pub low : row_moment a ≤ x
  pub high : x < row_moment b

-- what the place of x among accepted rows has
abbrev pub Placed : Place → ℕ → Type 0
Placed (End r) x = AcceptedRow r
Placed (Between a b) x = AcceptedRow a × AcceptedRow b × Inside a b x
