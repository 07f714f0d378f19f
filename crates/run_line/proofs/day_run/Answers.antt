-- A run that `run::write` refuses leaves the buffer to the refusal's text, and one that it writes is the answer.
use Rattle.std.proofs.Common.{◌≡◌, ◌∙◌, ap, sym, List, ℕ, ◌*◌, length, arith, to_z-of_z}
use Rattle.bigendian.specs.Buffers.{at_front}
use Rattle.instants.specs.Refusals.{check}
use Rattle.calendar.specs.Limits.{second_micros}
use Rattle.run.specs.Run.{run_written}
use Rattle.run.proofs.Records.{run_keeps}
use Rattle.text.specs.Text.{refused_text}
use Rattle.text.proofs.Numerals.{refused_most}
use Rattle.run_line.specs.Answer.{day_run_cases}
use Rattle.run_line.proofs.Answers.{no_run, a_run}
use Rattle.run_line.proofs.day_run.Goals as goal

pub refuse_by-requires : goal.refuse_by-requires
refuse_by-requires c =
    let a = c.args in
    let fills : c.write.new.buffer ≡ run_written a.day 0 a.count (a.step * second_micros) a.buffer.now = rw (to_z-of_z c.ranges.day) at c.write.ensures.buffer in
    omega (arith, ap length fills, (run_keeps a.day 0 a.count (a.step * second_micros) a.buffer.now).size, refused_most c.in-Err.r)

pub returns-in-Err-clause-size : goal.returns-in-Err-clause-size
returns-in-Err-clause-size c =
    let a = c.args in
    let says : c.write.result ≡ check (day_run_cases a.day a.count a.step) = rw (to_z-of_z c.ranges.day, c.requires.room) at c.write.ensures.refusal in
    c.refuse_by.ensures.size ∙ ap length (no_run a.day a.count a.step a.buffer.now c.requires.room c.in-Err.r (sym says ∙ c.in-Err.is)).0

pub returns-in-Err-clause-buffer : goal.returns-in-Err-clause-buffer
returns-in-Err-clause-buffer c =
    let a = c.args in
    let says : c.write.result ≡ check (day_run_cases a.day a.count a.step) = rw (to_z-of_z c.ranges.day, c.requires.room) at c.write.ensures.refusal in
    let fills : c.write.new.buffer ≡ run_written a.day 0 a.count (a.step * second_micros) a.buffer.now = rw (to_z-of_z c.ranges.day) at c.write.ensures.buffer in
    let p = no_run a.day a.count a.step a.buffer.now c.requires.room c.in-Err.r (sym says ∙ c.in-Err.is) in
    c.refuse_by.ensures.buffer ∙ (ap (λ (b : List ℕ). at_front (refused_text c.in-Err.r) b) (fills ∙ p.1) ∙ ap (λ (b : List ℕ). at_front b a.buffer.now) p.0)

pub returns-in-Ok-clause-size : goal.returns-in-Ok-clause-size
returns-in-Ok-clause-size c =
    let a = c.args in
    let says : c.write.result ≡ check (day_run_cases a.day a.count a.step) = rw (to_z-of_z c.ranges.day, c.requires.room) at c.write.ensures.refusal in
    (a_run a.day a.count a.step a.buffer.now c.requires.room _ (sym says ∙ c.in-Ok.is)).0

pub returns-in-Ok-clause-buffer : goal.returns-in-Ok-clause-buffer
returns-in-Ok-clause-buffer c =
    let a = c.args in
    let says : c.write.result ≡ check (day_run_cases a.day a.count a.step) = rw (to_z-of_z c.ranges.day, c.requires.room) at c.write.ensures.refusal in
    let fills : c.write.new.buffer ≡ run_written a.day 0 a.count (a.step * second_micros) a.buffer.now = rw (to_z-of_z c.ranges.day) at c.write.ensures.buffer in
    fills ∙ (a_run a.day a.count a.step a.buffer.now c.requires.room _ (sym says ∙ c.in-Ok.is)).1
