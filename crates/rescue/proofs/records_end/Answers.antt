use Rattle.std.proofs.Common.{◌≡◌, ◌-◌, length, drop, true, sym, ◌∙◌, arith, length-drop, length-append, ap}
use lib.Seq.{take_all}
use Rattle.std.specs.Slice.Iter.{chunks_exact_rest}
use Rattle.std.specs.Prelude.{is_err}
use Rattle.rescue.specs.Walk.{has_record}
use Rattle.rescue.proofs.Hops.{linked_none, linked_on, linked_end, none_behind, chunk_reads, chunk_headless, chunk_on}
use Rattle.rescue.proofs.records_end.Goals as goal

pub loop-r-init : goal.loop-r-init
loop-r-init c =
    let e = c.into_iter-r-iterator.ensures.into_iter_gives in
    let k = c.chunks_exact-r-items.ensures in
    (linked_none c.args.s.now c.args.from c.requires, rw e (k.rest ∙ take_all (length c.args.s.now - c.args.from) (drop c.args.from c.args.s.now) (omega (arith, length-drop c.args.from c.args.s.now))), rw e k.size)

pub returns-then-is_err : goal.returns-then-is_err
returns-then-is_err c =
    let i = c.loop-r.invariant in
    let x = c.in-Some.ensures.steps in
    linked_end i.0 (chunk_headless c.args.s.now _ _ c.loop-r.at (sym i.1 ∙ x.1.0) (x.1.1 ∙ i.2) (sym (ap is_err c.head.ensures) ∙ (sym c.is_err.ensures.value ∙ c.if-is_err.true)))

pub returns-then-not-reads_behind : goal.returns-then-not-reads_behind
returns-then-not-reads_behind c =
    let i = c.loop-r.invariant in
    let x = c.in-Some.ensures.steps in
    linked_end i.0 (sym (c.reads_behind.ensures ∙ chunk_reads c.args.s.now _ _ c.loop-r.at (sym i.1 ∙ x.1.0) (x.1.1 ∙ i.2)) ∙ c.if-not-reads_behind.true)

pub overflow_add-at : goal.overflow_add-at
overflow_add-at c =
    let i = c.loop-r.invariant in
    let x = c.in-Some.ensures.steps in
    let l = ap length (sym i.1 ∙ x.1.0) in
    let m : length c.in-Some.r.now ≡ 30 = x.1.1 ∙ i.2 in
    omega (arith, l, m, length-drop c.loop-r.at c.args.s.now, length-append c.in-Some.r.now (chunks_exact_rest c.next.new.self), i.0.within)

pub loop-r-preserved : goal.loop-r-preserved
loop-r-preserved c =
    let i = c.loop-r.invariant in
    let x = c.in-Some.ensures.steps in
    let e : has_record c.args.s.now c.loop-r.at ≡ true =
    sym (c.reads_behind.ensures ∙ chunk_reads c.args.s.now _ _ c.loop-r.at (sym i.1 ∙ x.1.0) (x.1.1 ∙ i.2)) ∙ c.if-not-reads_behind.false in
    (linked_on i.0 e, chunk_on c.args.s.now _ _ c.loop-r.at (sym i.1 ∙ x.1.0) (x.1.1 ∙ i.2), x.0 ∙ i.2)

pub returns : goal.returns
returns c =
    let i = c.loop-r.invariant in
    let x = c.in-None.ensures.steps in
    linked_end i.0 (none_behind c.args.s.now c.loop-r.at (rw (← i.1, ← i.2) x.1.0))
