-- Every reference value holds of the definitions. Assumes nothing.
use mathlib.Core.Path.{◌≡◌, refl}
use Rattle.instants.specs.Instants.{outside, day_index, acceptance, day_at_index}
use Rattle.calendar.specs.Dates.{leap_year, month_lengths, month_length, sum, year_length, days_of_years, days_before, date_index, day_of}
use Rattle.instants.specs.declared.Instant.{Instant}
use Rattle.utc.specs.Table.{first_step, later_steps, begun, tai_minus_utc, is_eve, has_second60}
use Rattle.utc.specs.Conversions.{tt_of, utc_of}
use Rattle.utc.specs.declared.Reading.{Reading}
use Rattle.utc.proofs.Inverse.{reading_there_and_back}
use Rattle.clock.specs.Words.{split_of, join_of}
use Rattle.bigendian.specs.Numbers.{word_sum}
use Rattle.record.specs.Format.{record_bytes}
use Rattle.record.specs.Records.{read_of}
use Rattle.record.specs.Inner.{form_of}
use Rattle.rows.specs.BuiltIn.{built_in}
use Rattle.rows.specs.Places.{started, place, span, interpolated}
use Rattle.nutation.specs.Exact.{u_value, u_parts, uncertainty_at}
use Rattle.nutation.specs.Ours.{offsets_at, nutation_of}
use Rattle.reference.specs.Rows.{Says, EveryRow, rows}
use Rattle.std.specs.Prelude.{Ok}
use Rattle.instants.specs.Refusals.{number}
use Rattle.instants.specs.declared.refusal.Refusal.TheVariants.{Year, DayOfMonth, Second, WordsDisagree, UtcEarly, UtcExpired}

-- a row that holds, before the others
infixr 20 ◌▹◌
◌▹◌ : {A B : Type 0} → A → B → A × B
a ▹ b = (a, b)

-- the reading of an instant follows from the instant of the reading
there_and_back : {r : Reading} {t : Instant} → tt_of r ≡ Ok t → (tt_of r ≡ Ok t) × (utc_of t.day t.micros ≡ Ok r)
there_and_back {r} {t} e = (e, reading_there_and_back r t e)

-- PROMISE. Every row of the list of reference values holds.
pub every_row : EveryRow rows
unfolding EveryRow Says rows outside day_index acceptance leap_year month_lengths month_length sum year_length days_of_years days_before date_index day_at_index day_of split_of join_of word_sum record_bytes form_of number read_of built_in started place span interpolated u_value u_parts uncertainty_at offsets_at nutation_of tt_of tai_minus_utc begun first_step later_steps has_second60 is_eve
every_row =
    refl ▹ refl ▹ refl ▹ refl ▹ refl
    ▹ (DayOfMonth, refl, refl) ▹ (DayOfMonth, refl, refl) ▹ (Year, refl, refl) ▹ (Year, refl, refl)
    ▹ refl ▹ (WordsDisagree, refl, refl) ▹ (refl, refl)
    ▹ refl ▹ refl ▹ refl ▹ refl
    ▹ there_and_back refl ▹ there_and_back refl
    ▹ (Second, refl, refl) ▹ (Second, refl, refl) ▹ (UtcEarly, refl, refl) ▹ (Second, refl, refl) ▹ (UtcExpired, refl, refl)
    ▹ tt
