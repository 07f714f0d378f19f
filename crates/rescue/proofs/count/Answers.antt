use Rattle.std.proofs.Common.{ℕ, ◌≡◌, ◌≤◌, nat_lt, length, refl, ap, ◌∙◌, arith}
use Rattle.std.specs.Int.{from_bool}
use Rattle.rescue.specs.Inner.{Turned}
use Rattle.rescue.proofs.Rounds.{turn_within, counted_none, counted_more, counted_few, counted_all}
use Rattle.rescue.proofs.count.Goals as goal

pub loop-t-init : goal.loop-t-init
loop-t-init c = rw c.into_iter-t-iterator.ensures.into_iter_gives (refl, counted_none c.args.s.now)

pub overflow_add-ranges : goal.overflow_add-ranges
overflow_add-ranges c =
    let x = c.in-Some.ensures.steps in
    let i = c.loop-t.invariant in
    let t : Turned c.args.s.now c.loop-t.t-iterator.at c.in-Some.t.from c.in-Some.t.end = rw (← i.0) x.1.2 in
    let m = counted_more _ _ _ i.1 t refl in
    let e : c.from-ranges.result ≡ from_bool (nat_lt c.loop-t.t-iterator.at c.in-Some.t.from) =
    c.from-ranges.ensures ∙ ap (λ (a : ℕ). from_bool (nat_lt a c.in-Some.t.from)) x.1.0 in
    omega (arith, e, (counted_few m).1)

pub overflow_sub-result : goal.overflow_sub-result
overflow_sub-result c = (counted_few c.loop-t.invariant.1).0

pub overflow_add-kept : goal.overflow_add-kept
overflow_add-kept c =
    let x = c.in-Some.ensures.steps in
    let i = c.loop-t.invariant in
    let t : Turned c.args.s.now c.loop-t.t-iterator.at c.in-Some.t.from c.in-Some.t.end = rw (← i.0) x.1.2 in
    let w : c.in-Some.t.end ≤ length c.args.s.now = turn_within c.args.s.now _ _ _ t in
    omega (arith, (counted_few i.1).0)

pub loop-t-preserved : goal.loop-t-preserved
loop-t-preserved c =
    let x = c.in-Some.ensures.steps in
    let i = c.loop-t.invariant in
    let t : Turned c.args.s.now c.loop-t.t-iterator.at c.in-Some.t.from c.in-Some.t.end = rw (← i.0) x.1.2 in
    let r : c.from-ranges.result ≡ from_bool (nat_lt c.loop-t.t-iterator.at c.in-Some.t.from) =
    c.from-ranges.ensures ∙ ap (λ (a : ℕ). from_bool (nat_lt a c.in-Some.t.from)) x.1.0 in
    rw (x.0, x.1.1) (i.0, counted_more _ _ _ i.1 t r)

pub returns : goal.returns
returns c =
    let i = c.loop-t.invariant in
    let e = counted_all i.1 (rw (← i.0) c.in-None.ensures.steps.1) in
    rw (← e.0, ← e.1, ← e.2) refl
