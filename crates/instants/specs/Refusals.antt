-- Refusals, their numbers, and their order: of several conditions, each with its refusal, the first that applies.
use Rattle.std.specs.Prelude.{ℕ, Bool, cond, List, [], ◌∷◌, Result, Ok, Err, ⊤}
use Rattle.instants.specs.declared.refusal.Refusal.{Refusal}
use Rattle.instants.specs.declared.refusal.Refusal.TheVariants.{Year, Month, DayOfMonth, Hour, Minute, Second, Microsecond, Day, Micros, WordsDisagree, Multiplier, BufferShort, RecordLength, RecordVersion, RecordZero, RecordSum, RunCount, RunStep, UtcEarly, UtcExpired, RowsLength, RowsVersion, RowsDay, RowsSize, RescueLength, DayOfYear, FileLength, FileOrder}

-- the number of a refusal
unfoldable pub number : Refusal → ℕ
number Year = 1
number Month = 2
number DayOfMonth = 3
number Hour = 4
number Minute = 5
number Second = 6
number Microsecond = 7
number Day = 8
number Micros = 9
number WordsDisagree = 10
number Multiplier = 11
number BufferShort = 12
number RecordLength = 13
number RecordVersion = 14
number RecordZero = 15
number RecordSum = 16
number RunCount = 17
number RunStep = 18
number UtcEarly = 19
number UtcExpired = 20
number RowsLength = 21
number RowsVersion = 22
number RowsDay = 23
number RowsSize = 24
number RescueLength = 25
number DayOfYear = 26
number FileLength = 27
number FileOrder = 28

-- a refusal, and whether its condition applies
pub record Case : Type 0 where
  pub refusal : Refusal
  pub applies : Bool

-- refusal r, where b holds
abbrev pub case : Refusal → Bool → Case
case r b = record { refusal = r; applies = b }

-- the refusal of the first case that applies, or the answer if none does
abbrev pub refused_or : {A : Type 0} → (Refusal → A) → List Case → A → A
refused_or refuse [] answer = answer
refused_or refuse (c ∷ cs) answer = cond c.applies (refuse c.refusal) (refused_or refuse cs answer)

-- the number of the first that applies, or 0
abbrev pub first_refusal : List Case → ℕ
first_refusal cs = refused_or number cs 0

-- a test: the refusal of the first that applies, or nothing
abbrev pub check : List Case → Result ⊤ Refusal
check cs = refused_or Err cs (Ok tt)

-- the refusal number of an answer, 0 for none
abbrev pub refusal_of : {A : Type 0} → Result A Refusal → ℕ
refusal_of (Ok a) = 0
refusal_of (Err r) = number r
