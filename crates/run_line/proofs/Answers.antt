-- What is written, case by case. The code asks for the line, then for its date's day number, then for the run; the definition has the date's refusals
-- before those of the run. So a refused date ends the list at its front, and past an accepted date the run's text is left. Assumes nothing.
use Prim.Native.Nat.{ℕ, ◌*◌}
use mathlib.Core.Path.{◌≡◌, refl, sym}
use lib.IntN.{ℤ}
use lib.ListN.{length}
use mathlib.Core.List.{List}
use Rattle.instants.specs.declared.refusal.Refusal.{Refusal}
use Rattle.instants.specs.Refusals.{refused_or, check}
use Rattle.calendar.specs.Dates.{date_cases, day_of}
use Rattle.instants.proofs.Impossible.{impossible}
use Rattle.instants.proofs.FirstRefusal.{refused_alike, answered_none, none_answered, refused_checked, passed_none}
use Rattle.line.specs.declared.Line.{Line}
use Rattle.line.specs.Lines.{line_of}
use Rattle.record.specs.Format.{record_length}
use Rattle.run.specs.Run.{run_written, run_bytes}
use Rattle.run.proofs.Records.{run_length}
use Rattle.calendar.specs.Limits.{second_micros}
use Rattle.text.specs.Text.{refused_text}
use Rattle.text.proofs.Pieces.{Puts}
use Rattle.run_line.specs.Words.{bad_text}
use Rattle.run_line.specs.Answer.{room, line_day, day_run_cases, day_run_text, answer_text}
use Rattle.std.specs.Prelude.{Ok, Err, Some, None, ⊤}

-- ---- the run of a day

module _ (d : ℤ) (count step : ℕ) where
  module _ (old : List ℕ) (long : length old ≡ room) where
    -- a run that is refused leaves the buffer to its refusal's text
    pub no_run : (r : Refusal) → check (day_run_cases d count step) ≡ Err r → (refused_text r ≡ day_run_text d count step) × (run_written d 0 count (step * second_micros) old ≡ old)
    unfolding day_run_text run_written
    no_run r e = (
      sym (refused_checked refused_text (day_run_cases d count step) _ r e),
      rw long (refused_checked (λ _. old) (day_run_cases d count step) _ r e),
    )

    -- and one that is not refused is what is written
    pub a_run : (u : ⊤) → check (day_run_cases d count step) ≡ Ok u → Puts (day_run_text d count step) old (record_length * count) (run_written d 0 count (step * second_micros) old)
    unfolding day_run_text run_written
    a_run u e =
        let n = passed_none (day_run_cases d count step) u e in
        let t : refused_or refused_text (day_run_cases d count step) (run_bytes d 0 (step * second_micros) count) ≡ run_bytes d 0 (step * second_micros) count =
        none_answered refused_text (day_run_cases d count step) _ n in
        rw (t, long) (sym (run_length d 0 (step * second_micros) count), none_answered (λ _. old) (day_run_cases d count step) _ n)

-- ---- a line

module _ (s : List ℕ) where
  pub bad : line_of s ≡ None → bad_text ≡ answer_text s
  unfolding answer_text
  bad e = rw e refl

  module _ (l : Line) (e : line_of s ≡ Some l) where
    pub no_date : (n : Refusal) → day_of l.year l.month l.day ≡ Err n → refused_text n ≡ answer_text s
    unfolding answer_text day_of
    no_date n f =
        rw e (sym (refused_alike Err refused_text (date_cases l.year l.month l.day) (Ok (line_day l)) _ n (λ k p. cc) (λ p. impossible (cc)) f))

    pub on_date : (d : ℤ) → day_of l.year l.month l.day ≡ Ok d → day_run_text d l.count l.step ≡ answer_text s
    unfolding answer_text day_of
    on_date d f =
        let cs = date_cases l.year l.month l.day in
        let r = answered_none Err cs (Ok (line_day l)) (Ok d) (λ n p. impossible (cc)) f in
        let g : Ok (line_day l) ≡ Ok d = r.1 in
        let h : d ≡ line_day l = cc in
        rw (e, h) (sym (none_answered refused_text cs _ r.0))
