use Rattle.std.proofs.Common.{◌≡◌, ◌+◌, ◌++◌, length, refl, ap, sym, ◌∙◌, add-one, arith, length-take, length-drop}
use Rattle.std.proofs.lemmas.List.{length_push}
use Rattle.bigendian.proofs.Buffers.{front_none}
use Rattle.rescue.specs.declared.Range.{Range}
use Rattle.rescue.specs.Claims.{listed}
use Rattle.text.proofs.Pieces.{more_put}
use Rattle.rescue_lines.specs.Lines.{line_text, lines_text}
use Rattle.rescue_lines.proofs.Lines.{line_most_lem, entry_there, entry_behind, chunk_within, all_entries, lines_more}
use Rattle.rescue_lines.proofs.put_lines.Goals as goal

pub loop-entry-init : goal.loop-entry-init
loop-entry-init c =
    let e = c.into_iter-entry-iterator.ensures.into_iter_gives in
    let k = c.chunks_exact-entry-items.ensures in
    record { few = omega arith; left = ap (λ i. i.rest.now) e ∙ k.rest; size = ap (λ i. i.size) e ∙ k.size; short = omega arith; put = (refl, sym (front_none _)) }

pub put_line-end-requires : goal.put_line-end-requires
put_line-end-requires c =
    let i = c.loop-entry.invariant in
    let x = c.in-Some.ensures.steps in
    let w = chunk_within c.args.list.now _ _ (length c.loop-entry.yielded) (sym i.left ∙ x.1.0) (x.1.1 ∙ i.size) in
    simp (length-take, length-drop) (omega (arith, line_most_lem, w))

pub overflow_add-end : goal.overflow_add-end
overflow_add-end c =
    let i = c.loop-entry.invariant in
    let x = c.in-Some.ensures.steps in
    let w = chunk_within c.args.list.now _ _ (length c.loop-entry.yielded) (sym i.left ∙ x.1.0) (x.1.1 ∙ i.size) in
    omega (arith, line_most_lem, w)

pub loop-entry-preserved : goal.loop-entry-preserved
loop-entry-preserved c =
    let i = c.loop-entry.invariant in
    let x = c.in-Some.ensures.steps in
    let k = length c.loop-entry.yielded in
    let w = chunk_within c.args.list.now _ _ (length c.loop-entry.yielded) (sym i.left ∙ x.1.0) (x.1.1 ∙ i.size) in
    let short = line_most_lem c.read.result c.read.ensures.start_below c.read.ensures.size_below in
    let there = c.read.ensures.range ∙ entry_there c.args.list.now _ _ k (sym i.left ∙ x.1.0) (x.1.1 ∙ i.size) in
    let next : lines_text (listed k c.args.list.now) ++ line_text c.read.result ≡ lines_text (listed (k + 1) c.args.list.now) =
    rw (add-one k) (ap (λ (r : Range). lines_text (listed k c.args.list.now) ++ line_text r) there ∙ sym (lines_more k c.args.list.now)) in
    let e = c.put_line-end.ensures in
    rw (length_push c.loop-entry.yielded c.in-Some.entry)
    (record {
      few = w;
      left = entry_behind c.args.list.now _ _ k (sym i.left ∙ x.1.0) (x.1.1 ∙ i.size);
      size = x.0 ∙ i.size;
      short = omega (arith, short);
      put = rw (← next) (more_put _ _ _ _ i.put _ _ _ (e.size, e.buffer));
    })

pub returns-clause-most : goal.returns-clause-most
returns-clause-most c =
    let i = c.loop-entry.invariant in
    let all = all_entries c.args.list.now _ i.few (rw (← i.left, ← i.size) c.in-None.ensures.steps.1.0) in
    rw (← all) i.short

pub returns-clause-size : goal.returns-clause-size
returns-clause-size c =
    let i = c.loop-entry.invariant in
    let all = all_entries c.args.list.now _ i.few (rw (← i.left, ← i.size) c.in-None.ensures.steps.1.0) in
    rw (← all) i.put.0

pub returns-clause-buffer : goal.returns-clause-buffer
returns-clause-buffer c =
    let i = c.loop-entry.invariant in
    let all = all_entries c.args.list.now _ i.few (rw (← i.left, ← i.size) c.in-None.ensures.steps.1.0) in
    rw (← all) i.put.1
