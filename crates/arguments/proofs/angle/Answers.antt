-- Each column adds its own part of the whole sum, and after the last one nothing is left.
use Rattle.std.proofs.Common.{rules, arith, ℕ, ◌≡◌, ◌%◌, ◌^◌, ◌∙◌, ap, ap₂, pos, length, w8}
use Rattle.std.proofs.Math.Facts.{to_z-of_z}
use Rattle.std.proofs.lemmas.Slice.Zip.{zip_turn, zip_end}
use Rattle.std.proofs.lemmas.List.{length_push}
use Rattle.arguments.specs.Ours.{column, columns}
use Rattle.arguments.proofs.Rows.{columns_all, columns_next, columns_end}
use Rattle.arguments.proofs.angle.Goals as goal

pub loop-k-init : goal.loop-k-init
loop-k-init c = record { within = omega arith; fits = omega arith; whole = omega (arith, columns_all c.args.row.now c.args.a.now) }

pub loop-k-preserved : goal.loop-k-preserved
loop-k-preserved c =
    let ks = c.args.row.now in
    let xs = c.args.a.now in
    let long : length ks ≡ 5 = search rules in
    let long₂ : length xs ≡ 5 = search rules in
    let j = length c.loop-k.yielded in
    let t = zip_turn ks xs c.loop-k.yielded c.into_iter-k-iterator.result c.loop-k.k-iterator c.next.new.self _ (search rules) (search rules) c.loop-k.yielded_by _ c.in-Some.is c.next.ensures.steps in
    let more = length_push c.loop-k.yielded (c.in-Some.k, c.in-Some.x) in
    record {
      within = omega (arith, more);
      fits = omega (arith, more);
      whole = rw more (columns_next ks xs c.loop-k.sum c.column-sum.result (columns ks xs) j long long₂ (omega arith)
          (c.column-sum.ensures.value ∙ ap₂ column (to_z-of_z {w = w8} (search rules) ∙ t.2 (pos 0)) (t.3 0)) c.loop-k.invariant.whole);
    }

pub returns : goal.returns
returns c =
    let ks = c.args.row.now in
    let xs = c.args.a.now in
    let long : length ks ≡ 5 = search rules in
    let long₂ : length xs ≡ 5 = search rules in
    let e = zip_end ks xs c.loop-k.yielded c.into_iter-k-iterator.result c.loop-k.k-iterator c.next.new.self _ (search rules) (search rules) c.loop-k.yielded_by c.in-None.is c.next.ensures.steps in
    ap (λ (n : ℕ). n % 2 ^ 41) (omega (arith, columns_end ks xs (length c.loop-k.yielded) (omega arith)))
