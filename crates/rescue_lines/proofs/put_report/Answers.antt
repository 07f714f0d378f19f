-- The lines are put first, and the totals behind them.
use Rattle.std.proofs.Common.{List, ℕ, ◌++◌, ◌≤◌, length, ap, ◌∙◌, length-append, arith}
use Rattle.bigendian.specs.Buffers.{at_front}
use Rattle.rescue.specs.Claims.{listed}
use Rattle.text.proofs.Pieces.{Puts, put_room, more_put}
use Rattle.rescue_lines.specs.Lines.{lines_text, totals_text}
use Rattle.rescue_lines.proofs.Lines.{totals_most_lem, front_count, front_lines}
use Rattle.rescue_lines.proofs.put_report.Goals as goal

pub put_lines-end-requires : goal.put_lines-end-requires
put_lines-end-requires c = rw (front_count c.args.c.ranges c.args.list.now c.requires.entries) (omega arith)

pub put_totals-requires : goal.put_totals-requires
put_totals-requires c =
    let e = c.put_lines-end.ensures in
    let q = front_lines c.args.c.ranges c.args.list.now c.requires.entries in
    let n = front_count c.args.c.ranges c.args.list.now c.requires.entries in
    let lines = lines_text (listed c.args.c.ranges c.args.list.now) in
    let most = rw n at e.most in
    let fits : length (lines ++ totals_text c.args.c) ≤ length c.args.buffer.now =
    omega (arith, length-append lines (totals_text c.args.c), totals_most_lem c.args.c, ap length q) in
    put_room lines _ _ _ (e.size ∙ ap length q, e.buffer ∙ ap (λ (t : List ℕ). at_front t c.args.buffer.now) q) (totals_text c.args.c) fits

pub overflow_add-result : goal.overflow_add-result
overflow_add-result c =
    let most = rw (front_count c.args.c.ranges c.args.list.now c.requires.entries) at c.put_lines-end.ensures.most in
    omega (arith, totals_most_lem c.args.c)

pub returns-clause-size : goal.returns-clause-size
returns-clause-size c =
    let e = c.put_lines-end.ensures in
    let f = c.put_totals.ensures in
    let q = front_lines c.args.c.ranges c.args.list.now c.requires.entries in
    omega (arith, e.size, f.size, ap length q, length-append (lines_text (listed c.args.c.ranges c.args.list.now)) (totals_text c.args.c))

pub returns-clause-buffer : goal.returns-clause-buffer
returns-clause-buffer c =
    let e = c.put_lines-end.ensures in
    let f = c.put_totals.ensures in
    let q = front_lines c.args.c.ranges c.args.list.now c.requires.entries in
    let lines : Puts (lines_text (listed c.args.c.ranges c.args.list.now)) c.args.buffer.now _ _ =
    (e.size ∙ ap length q, e.buffer ∙ ap (λ (t : List ℕ). at_front t c.args.buffer.now) q) in
    (more_put _ _ _ _ lines _ _ _ (f.size, f.buffer)).1
