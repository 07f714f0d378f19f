-- Each of the three ways out is a law of Answers.
use Rattle.std.proofs.Common.{◌∙◌, ap, sym, ℕ, ℤ, List, length, arith, rules, SFits, w64, to_z-of_z}
use Rattle.bigendian.specs.Buffers.{at_front}
use Rattle.text.proofs.Numerals.{refused_most}
use Rattle.run_line.specs.Answer.{day_run_text}
use Rattle.run_line.proofs.Small.{step_small}
use Rattle.run_line.proofs.Words.{bad_line}
use Rattle.run_line.proofs.Answers.{bad, no_date, on_date}
use Rattle.run_line.proofs.answer.Goals as goal

pub refuse_by-requires : goal.refuse_by-requires
refuse_by-requires c = omega (arith, refused_most c.in-Err.refused, c.fits-buffer)

pub day_run-requires-clause-step : goal.day_run-requires-clause-step
day_run-requires-clause-step c = step_small c.args.s.now c.in-Some.l (sym c.in-Some.ensures)

pub returns-in_default-clause-size : goal.returns-in_default-clause-size
returns-in_default-clause-size c = c.copy.ensures.size ∙ ap length (bad_line ∙ bad c.args.s.now (sym c.parse.ensures ∙ c.in_default.is))

pub returns-in_default-clause-buffer : goal.returns-in_default-clause-buffer
returns-in_default-clause-buffer c =
    c.copy.ensures.buffer ∙ ap (λ (b : List ℕ). at_front b c.args.buffer.now) (bad_line ∙ bad c.args.s.now (sym c.parse.ensures ∙ c.in_default.is))

pub returns-in-Err-clause-size : goal.returns-in-Err-clause-size
returns-in-Err-clause-size c =
    c.refuse_by.ensures.size ∙ ap length (no_date c.args.s.now c.in-Some.l (sym c.in-Some.ensures) c.in-Err.refused (sym c.in-Err.ensures))

pub returns-in-Err-clause-buffer : goal.returns-in-Err-clause-buffer
returns-in-Err-clause-buffer c =
    c.refuse_by.ensures.buffer
    ∙ ap (λ (b : List ℕ). at_front b c.args.buffer.now) (no_date c.args.s.now c.in-Some.l (sym c.in-Some.ensures) c.in-Err.refused (sym c.in-Err.ensures))

pub returns-in-Ok-clause-size : goal.returns-in-Ok-clause-size
returns-in-Ok-clause-size c =
    let l = c.in-Some.l in
    let f : SFits w64 c.in-Ok.day = search rules in
    c.day_run.ensures.size
    ∙ ap length (ap (λ (z : ℤ). day_run_text z l.count l.step) (to_z-of_z f) ∙ on_date c.args.s.now l (sym c.in-Some.ensures) c.in-Ok.day (sym c.in-Ok.ensures))

pub returns-in-Ok-clause-buffer : goal.returns-in-Ok-clause-buffer
returns-in-Ok-clause-buffer c =
    let l = c.in-Some.l in
    let f : SFits w64 c.in-Ok.day = search rules in
    c.day_run.ensures.buffer
    ∙ ap (λ (b : List ℕ). at_front b c.args.buffer.now)
    (ap (λ (z : ℤ). day_run_text z l.count l.step) (to_z-of_z f) ∙ on_date c.args.s.now l (sym c.in-Some.ensures) c.in-Ok.day (sym c.in-Ok.ensures))
