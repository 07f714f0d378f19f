-- What is promised of what the program writes: which refusals a line can have, how many bytes there are at most, that a refusal's digits are its number's,
-- and which bytes of the input decide. Assumes nothing.
use Prim.Native.Nat.{ℕ, ◌+◌, ◌*◌, ◌/◌, ◌%◌, ◌≤◌, ◌<◌}
use mathlib.Core.Path.{◌≡◌, refl, ap, sym, ◌∙◌}
use mathlib.Core.Bool.{true}
use mathlib.Core.List.{List, [], ◌∷◌, ◌++◌}
use native.Mathlib.Omega.{arith}
use lib.ListN.{length, take, get_or}
use borrow.Author.Tests.{le-ltb, le-leb}
use Rattle.instants.specs.Refusals.{case, refused_or, first_refusal}
use Rattle.calendar.specs.Dates.{date, leap_year, month_lengths, month_length, sum, year_length, days_of_years, days_before, date_index, date_cases, day_of}
use Rattle.instants.proofs.FirstRefusal.{NoneApplies, in_both_lem, in_each, none_both, none_answered, first_below}
use Rattle.calendar.proofs.Inverse.{there_and_back, date_range}
use Rattle.line.specs.declared.Line.{Line}
use Rattle.line.specs.Lines.{newline, is_digit, digits, decimal_from, read_number, line_of}
use Rattle.line.specs.Grammar.{Writes, IsLine}
use Rattle.line.proofs.Grammar.{parsed_exactly, first_bytes, no_newline}
use Rattle.line.proofs.Newline.{after_newline}
use Rattle.line.proofs.Scanning.{digits_more}
use Rattle.record.specs.Format.{record_length}
use Rattle.run.specs.Run.{most_records, bad_count}
use Rattle.instants.specs.Instants.{day_at_index}
use Rattle.instants.proofs.Accepted.{between}
use Rattle.run.proofs.Records.{run_length}
use Rattle.calendar.specs.Limits.{second_micros}
use Rattle.text.specs.Text.{ascii, numeral, refused_text}
use Rattle.text.proofs.Numerals.{by_digits, numeral_one, numeral_more, refused_most}
use Rattle.run_line.specs.Words.{bad_text}
use Rattle.run_line.specs.Answer.{room, line_day, day_run_text, line_text, answer_text}
use Rattle.run_line.specs.Claims.{short_run_cases, short_cases, line_run}
use Rattle.run_line.proofs.Answers.{bad}
use Rattle.std.specs.Prelude.{Ok, Err, Option, Some, None}
use Rattle.instants.specs.declared.refusal.Refusal.{Refusal}
use Rattle.instants.specs.declared.refusal.Refusal.TheVariants.{RunCount}

-- ---- the refusals

-- PROMISE. For a line of five numbers the program writes the first of these refusals that applies: 1, 2 and 3 for the date, 17 for the count, 18 for the
-- step, and 8 for a last instant past the last day; or else the run's records, from 0 h of the line's date on.
pub line_answer : (s : List ℕ) (l : Line) → line_of s ≡ Some l → answer_text s ≡ refused_or refused_text (short_cases l) (line_run l)
unfolding answer_text day_run_text day_of
line_answer s l e =
    rw e
    (in_both_lem (λ (x y : List ℕ). x ≡ y) refused_text refused_text (date_cases l.year l.month l.day) _ _ (λ k. refl)
    (λ h.
    let z = line_day l in
    let o = (date_range z (date l.year l.month l.day) (there_and_back l.year l.month l.day z (none_answered Err (date_cases l.year l.month l.day) (Ok z) h))).0 in
    in_both_lem (λ (x y : List ℕ). x ≡ y) refused_text refused_text (case RunCount (bad_count l.count) ∷ []) _ _ (λ k. refl)
    (λ p. let b = between l.count 1 most_records p.0 in rw (o, le-ltb room (record_length * l.count) (omega arith)) refl)))

-- a digit's byte
is_digit_lem : (d : ℕ) → d < 10 → is_digit (48 + d) ≡ true
is_digit_lem d h = rw (le-leb 48 (48 + d) (omega arith), le-leb (48 + d) 57 (omega arith)) refl

-- the numeral of a number below 100 writes it
numeral_writes : (n : ℕ) → n < 100 → Writes (numeral n) n
unfolding digits decimal_from
numeral_writes n h = by_digits n one two
  where
    one : n < 10 → Writes (numeral n) n
    one l = rw (numeral_one n l) (record { every = digits_more (48 + n) [] (is_digit_lem n l); least = omega arith; few = omega arith; value = omega arith })

    two : 10 ≤ n → Writes (numeral n) n
    two l =
        rw (numeral_more n l (omega arith), numeral_one (n / 10) (omega arith))
        (record {
          every = rw (digits_more (48 + n / 10) ((48 + n % 10) ∷ []) (is_digit_lem (n / 10) (omega arith)), digits_more (48 + n % 10) [] (is_digit_lem (n % 10) (omega arith))) refl;
          least = omega arith;
          few = omega arith;
          value = omega arith;
        })

-- PROMISE. The numeral in the text of a line's refusal writes the refusal's number.
pub refusal_number : (l : Line) → Writes (numeral (first_refusal (short_cases l))) (first_refusal (short_cases l))
refusal_number l = numeral_writes (first_refusal (short_cases l)) (omega (arith, first_below (short_cases l)))

-- ---- how much is written

-- a refusal's text is shorter than a day's run
refusal_short : (n : Refusal) → length (refused_text n) ≤ 2880
refusal_short n = omega (arith, refused_most n)

-- PROMISE. The program writes 2,880 bytes at most.
pub answer_most : (s : List ℕ) → length (answer_text s) ≤ 2880
unfolding bad_text
answer_most s = by (line_of s) refl
  where
    by : (a : (Option Line)) → line_of s ≡ a → length (answer_text s) ≤ 2880
    by None e = rw (← bad s e) (omega arith)
    by (Some l) e =
        rw (line_answer s l e)
        (in_each refused_text (λ (x : List ℕ). length x ≤ 2880) (short_cases l) (line_run l) refusal_short
        (λ h.
        let b = between l.count 1 most_records (none_both (date_cases l.year l.month l.day) (short_run_cases l) h).1.0 in
        omega (arith, run_length (line_day l) 0 (l.step * second_micros) l.count, b.1)))

-- a day of quarter hours, as bytes and as numbers
abbrev a_day : List ℕ
a_day = ascii "2007 12 31 96 900\n"

abbrev its_line : Line
its_line = record { year = 2007; month = 12; day = 31; count = 96; step = 900 }

day_parsed : line_of a_day ≡ Some its_line
unfolding line_of read_number digits decimal_from
day_parsed = refl

day_accepted : NoneApplies (short_cases its_line)
unfolding leap_year month_lengths month_length sum year_length days_of_years days_before date_index day_at_index
day_accepted = (refl, (refl, (refl, (refl, (refl, (refl, tt))))))

-- PROMISE. A line that is answered by a run exists: a day of quarter hours, 2,880 bytes of records.
pub some_line : length (answer_text a_day) ≡ 2880
some_line =
    ap length (line_answer a_day its_line day_parsed ∙ none_answered refused_text (short_cases its_line) (line_run its_line) day_accepted)
    ∙ run_length (line_day its_line) 0 (its_line.step * second_micros) 96

-- ---- which bytes of the input decide

alike : (s u : List ℕ) → line_of s ≡ line_of u → answer_text s ≡ answer_text u
unfolding answer_text
alike s u e = ap line_text e

-- PROMISE. The first 55 bytes of the input decide.
pub first_decide : (s : List ℕ) → answer_text (take 55 s) ≡ answer_text s
first_decide s = alike (take 55 s) s (first_bytes s)

-- PROMISE. Bytes behind the first newline change nothing.
pub newline_ends : (s t u : List ℕ) → answer_text (s ++ newline ∷ t) ≡ answer_text (s ++ newline ∷ u)
newline_ends s t u = alike (s ++ newline ∷ t) (s ++ newline ∷ u) (after_newline t u s)

-- PROMISE. Input that does not begin with such a line is a bad line.
pub other_bad : (s : List ℕ) → ((l : Line) → IsLine s l → ⊥) → answer_text s ≡ bad_text
other_bad s h = by (line_of s) refl
  where
    by : (a : (Option Line)) → line_of s ≡ a → answer_text s ≡ bad_text
    by None e = sym (bad s e)
    by (Some l) e = absurd (h l ((parsed_exactly s l).0 e))

-- PROMISE. Input without a newline is a bad line.
pub no_newline_bad : (s : List ℕ) → ((i : ℕ) → get_or s i 0 ≡ newline → ⊥) → answer_text s ≡ bad_text
unfolding answer_text
no_newline_bad s h = ap line_text (no_newline s h)
