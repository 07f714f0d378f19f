-- Service (c): an instant split into a day word and a time word, and the two joined again.
use Rattle.std.specs.Prelude.{ℕ, ◌+◌, ◌-◌, ◌*◌, ◌/◌, ◌%◌, not, List, [], ◌∷◌, ◌++◌, eqb, ℤ, pos, negsuc, Result, Ok, Err}
use Rattle.instants.specs.Refusals.{Case, case, refused_or, refusal_of}
use Rattle.instants.specs.Instants.{instant, instant_cases}
use Rattle.clock.specs.declared.ClockWords.{ClockWords}
use Rattle.instants.specs.declared.Instant.{Instant}
use Rattle.instants.specs.declared.refusal.Refusal.{Refusal}
use Rattle.instants.specs.declared.refusal.Refusal.TheVariants.{WordsDisagree}

-- what one mark weighs in a time word: 2^37, more than the microseconds of a day
abbrev pub mark_unit : ℕ
mark_unit = 137_438_953_472

-- the mark of a day number: its least remainder by 8 that is not negative
abbrev pub mark : ℤ → ℕ
mark (pos n) = n % 8
mark (negsuc n) = 7 - n % 8

-- the microseconds, with the day's mark above them
abbrev pub time_word : ℤ → ℕ → ℕ
time_word d m = m + mark d * mark_unit

-- a day word and a time word
abbrev pub words : ℤ → ℕ → ClockWords
words d t = record { day = d; time = t }

-- the words of an instant, or its refusal
unfoldable pub split_of : ℤ → ℕ → Result ClockWords Refusal
split_of d m = refused_or Err (instant_cases d m) (Ok (words d (time_word d m)))

-- the refusal of words whose marks differ
abbrev pub mark_cases : ℤ → ℕ → List Case
mark_cases d t = case WordsDisagree (not (eqb (t / mark_unit) (mark d))) ∷ []

-- the refusals of a day word d and a time word t: of the instant, and of the marks
abbrev pub join_cases : ℤ → ℕ → List Case
join_cases d t = instant_cases d (t % mark_unit) ++ mark_cases d t

-- the instant of the two words, or its refusal
unfoldable pub join_of : ℤ → ℕ → Result Instant Refusal
join_of d t = refused_or Err (join_cases d t) (Ok (instant d (t % mark_unit)))

-- the numbers of an answer, or z where it is a refusal: what the call of the whole answer leaves where z was
abbrev pub day_word_or : ℤ → Result ClockWords Refusal → ℤ
day_word_or z (Ok w) = w.day
day_word_or z (Err n) = z

abbrev pub time_word_or : ℕ → Result ClockWords Refusal → ℕ
time_word_or z (Ok w) = w.time
time_word_or z (Err n) = z

abbrev pub joined_day_or : ℤ → Result Instant Refusal → ℤ
joined_day_or z (Ok t) = t.day
joined_day_or z (Err n) = z

abbrev pub joined_micros_or : ℕ → Result Instant Refusal → ℕ
joined_micros_or z (Ok t) = t.micros
joined_micros_or z (Err n) = z

-- what the call of one number gives: 0 beside a refusal
abbrev pub day_word_of : Result ClockWords Refusal → ℤ
day_word_of = day_word_or (pos 0)

abbrev pub time_word_of : Result ClockWords Refusal → ℕ
time_word_of = time_word_or 0

abbrev pub joined_day_of : Result Instant Refusal → ℤ
joined_day_of = joined_day_or (pos 0)

abbrev pub joined_micros_of : Result Instant Refusal → ℕ
joined_micros_of = joined_micros_or 0

-- the refusal number, 0 for none
abbrev pub split_refusal_of : Result ClockWords Refusal → ℕ
split_refusal_of = refusal_of

abbrev pub join_refusal_of : Result Instant Refusal → ℕ
join_refusal_of = refusal_of
