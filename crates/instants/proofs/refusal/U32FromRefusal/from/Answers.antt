-- The numbers are those of the source, case by case.
use Rattle.std.proofs.Common.{◌≡◌, ◌+◌, refl}
use denote.Enum.Declared.{tag_of}
use Rattle.instants.specs.contracts.refusal.Refusal.{the_type}
use Rattle.instants.specs.Refusals.{number}
use Rattle.instants.specs.declared.refusal.Refusal.{Refusal}
use Rattle.instants.specs.declared.refusal.Refusal.TheVariants.{Year, Month, DayOfMonth, Hour, Minute, Second, Microsecond, Day, Micros, WordsDisagree, Multiplier, BufferShort, RecordLength, RecordVersion, RecordZero, RecordSum, RunCount, RunStep, UtcEarly, UtcExpired, RowsLength, RowsVersion, RowsDay, RowsSize, RescueLength, DayOfYear, FileLength, FileOrder}
use Rattle.instants.proofs.refusal.U32FromRefusal.from.Goals as goal

-- a refusal's place in the source, counted from 1, is its number
counted : (r : Refusal) → tag_of the_type r + 1 ≡ number r
unfolding number
counted Year = refl
counted Month = refl
counted DayOfMonth = refl
counted Hour = refl
counted Minute = refl
counted Second = refl
counted Microsecond = refl
counted Day = refl
counted Micros = refl
counted WordsDisagree = refl
counted Multiplier = refl
counted BufferShort = refl
counted RecordLength = refl
counted RecordVersion = refl
counted RecordZero = refl
counted RecordSum = refl
counted RunCount = refl
counted RunStep = refl
counted UtcEarly = refl
counted UtcExpired = refl
counted RowsLength = refl
counted RowsVersion = refl
counted RowsDay = refl
counted RowsSize = refl
counted RescueLength = refl
counted DayOfYear = refl
counted FileLength = refl
counted FileOrder = refl

pub returns : goal.returns
returns c = counted c.args.refusal
