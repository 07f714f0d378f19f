-- Each return has the tests that led there.
use Rattle.std.proofs.Common.{ap, true, false, ◌∙◌, arith}
use Rattle.rescue.specs.declared.Counts.{Counts}
use Rattle.rescue.proofs.Ranges.{ranges_few}
use Rattle.rescue.proofs.Rounds.{kept_few}
use Rattle.rescue.proofs.Answers.{too_many, tested, too_short, counted}
use Rattle.rescue.proofs.rescue_of.Goals as goal
use Rattle.std.specs.Prelude.{Ok}

pub returns-then-s-gt-MOST_BYTES : goal.returns-then-s-gt-MOST_BYTES
returns-then-s-gt-MOST_BYTES c = too_many c.args.s.now c.args.records c.args.list c.if-s-gt-MOST_BYTES.true

pub overflow_mul-c : goal.overflow_mul-c
overflow_mul-c c = omega (arith, ap (λ (x : Counts). x.kept) c.count-c.ensures, kept_few c.args.s.now)

pub overflow_mul-c-2 : goal.overflow_mul-c-2
overflow_mul-c-2 c = omega (arith, ap (λ (x : Counts). x.ranges) c.count-c.ensures, ranges_few c.args.s.now)

pub returns-then-records-c : goal.returns-then-records-c
returns-then-records-c c =
    let a = c.args in
    let t = tested a.s.now a.records a.list c.count-c.result true c.count-c.ensures c.if-records-c.true in
    too_short a.s.now a.records a.list c.if-s-gt-MOST_BYTES.false t

pub returns : goal.returns
returns c =
    let a = c.args in
    let t = tested a.s.now a.records a.list c.count-c.result false c.count-c.ensures c.if-records-c.false in
    ap Ok c.count-c.ensures ∙ counted a.s.now a.records a.list c.if-s-gt-MOST_BYTES.false t
