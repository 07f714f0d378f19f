-- The words of what is proved of uncertainties (proofs/Interpolated.antt).
use Rattle.std.specs.Prelude.{ℕ, ℤ, pos}
use Rattle.rows.specs.declared.Place.{Place}
use Rattle.rows.specs.Places.{interpolated}

-- the rows' uncertainties interpolated as the amplitudes are, to a number that could have either sign: over `parts`
abbrev pub interpolated_uncertainty : Place → ℕ → ℤ
interpolated_uncertainty p x = interpolated (λ r. pos r.uncertainty) p x
