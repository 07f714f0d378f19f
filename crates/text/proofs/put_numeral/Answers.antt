use Rattle.std.proofs.Common.{◌≡◌, suc, ◌-◌, arith}
use Rattle.text.proofs.LastFirst.{fill_none, fill_more, fill_all}
use Rattle.text.proofs.put_numeral.Goals as goal

pub loop-k-init : goal.loop-k-init
loop-k-init c = fill_none _ _ _ c.digits-size.ensures

pub loop-k-preserved : goal.loop-k-preserved
loop-k-preserved c =
    let e : c.loop-k.k ≡ suc (c.loop-k.k - 1) = omega arith in
    fill_more (omega (arith, c.loop-k.invariant.same, c.digits-size.ensures)) (rw e at c.loop-k.invariant)

pub returns-clause-buffer : goal.returns-clause-buffer
returns-clause-buffer c = let e : c.loop-k.k ≡ 0 = omega arith in fill_all c.digits-size.ensures (rw e at c.loop-k.invariant)
