-- Each return has the tests that led there.
use Rattle.std.proofs.Common.{ap, ap₂, sym, ◌∙◌, ◌||◌, arith, Ok}
use Rattle.compare.proofs.Answers.{Counted, counted, refused_files, length_refused, count_refused, too_short, long_enough}
use Rattle.compare.proofs.compare_of.Goals.{In-Some}
use Rattle.compare.proofs.compare_of.Goals as goal

pub refusal-requires : goal.refusal-requires
refusal-requires c = length_refused _ _ (sym (ap₂ ◌||◌ c.wrong_length.ensures c.wrong_length-2.ensures) ∙ c.if-wrong_length.true)

pub returns-then-wrong_length : goal.returns-then-wrong_length
returns-then-wrong_length c = refused_files _ _ _ _ c.refusal.ensures

pub refusal-requires-in_default : goal.refusal-requires-in_default
refusal-requires-in_default c = count_refused _ _ (sym c.in_default.ensures)

pub returns-in_default : goal.returns-in_default
returns-in_default c = refused_files _ _ _ _ c.refusal-in_default.ensures

both : (c : In-Some) → Counted c.args.s.now c.args.t.now c.in-Some.n
both c = counted _ _ _ (sym (ap₂ ◌||◌ c.wrong_length.ensures c.wrong_length-2.ensures) ∙ c.if-wrong_length.false) (sym c.in-Some.ensures)

pub overflow_mul-n : goal.overflow_mul-n
overflow_mul-n c = let k = both c in omega (arith, k.few)

pub returns-then-room-n : goal.returns-then-room-n
returns-then-room-n c =
    let k = both (goal.at.returns-then-room-n c).In-Some in
    too_short _ _ k.first k.second _ (omega (arith, k.is, c.if-room-n.true))

pub returns : goal.returns
returns c =
    let k = both (goal.at.returns c).In-Some in
    ap Ok k.is ∙ long_enough _ _ k.first k.second _ (omega (arith, k.is, c.if-room-n.false))
