-- A row's angle, sine and cosine are those of the definition, and the sum with one row more stays within its bound, so that it is read back as it is.
use Rattle.std.proofs.Common.{rules, arith, ◌≡◌, ℕ, suc, ◌+◌, ◌%◌, ◌^◌, ◌≤◌, ◌<◌, ℤ, pos, ◌+ℤ◌, nat_abs, List, [], get_or, length, sym, ◌∙◌, ap, ap₂, subst, add-one}
use Rattle.std.proofs.Math.Nat.{le_trans, le_of_eq, le_of_lt, lt_of_le_of_lt, mod-eq_of_lt}
use Rattle.std.proofs.Math.Dec.{lit≤}
use Rattle.std.proofs.lemmas.Slice.Zip.{zip_turn, zip_end}
use Rattle.std.proofs.lemmas.List.{length_push}
use Rattle.arguments.specs.Table.{multipliers}
use Rattle.arguments.specs.Inner.{Multiplier}
use Rattle.arguments.specs.Ours.{our_row_angle, our_arguments, columns}
use Rattle.arguments.proofs.Rows.{row_range}
use Rattle.arguments.proofs.Distance.{our_angle_less}
use Rattle.sine.specs.Ours.{our_sine, our_cosine}
use Rattle.sine.proofs.Sizes.{sine_most}
use Rattle.zonal.specs.Coefficients.{coefficients}
use Rattle.zonal.specs.declared.Sums.{Sums}
use Rattle.zonal.specs.Exact.{row_count}
use Rattle.zonal.specs.Ours.{row_sine, row_cosine}
use Rattle.zonal.specs.Inner.{row_term, sum_most, RowBounds, sums_at}
use Rattle.zonal.proofs.Coefficients.{coefficient_small}
use Rattle.zonal.proofs.Weighted.{weighted, weighted_zero, weighted_next, ut1_is, lod_is, rate_is}
use Rattle.zonal.proofs.Sizes.{sine_most_lem, cosine_most, weighted_most}
use Rattle.algebra.proofs.Bits.{read_back, read_as}
use Rattle.zonal.proofs.sums_at.Goals as goal

-- ---- one more row of a sum: v is the sum before, cs the row, and y and z are what its coefficients go with

module _ (p q : ℕ → ℤ) (j r : ℕ) (hp : (r : ℕ) → nat_abs (p r) ≤ sine_most) (hq : (r : ℕ) → nat_abs (q r) ≤ sine_most) (h : r < row_count)
    {v y z : ℤ} {cs : List ℤ} (ec : cs ≡ get_or coefficients r []) (ev : v ≡ weighted p q j r) (ey : y ≡ p r) (ez : z ≡ q r) where
  before : read_back v ≡ weighted p q j r
  before = read_as sum_most ev (weighted_most p q j hp hq r (le_of_lt h)) (lit≤ tt)

  below : {b : ℕ} {x w : ℤ} → x ≡ w → nat_abs w ≤ b → nat_abs x ≤ b
  below e l = le_trans (le_of_eq (ap nat_abs e)) l

  ready : j < 5 → RowBounds cs j (read_back v) y z
  ready l = record {
    coefficients = λ i. below (ap (λ (l : List ℤ). get_or l i (pos 0)) ec) (coefficient_small r h i);
    column = l;
    sum = below before (weighted_most p q j hp hq r (le_of_lt h));
    first = lt_of_le_of_lt (below ey (hp r)) (lit≤ tt);
    second = lt_of_le_of_lt (below ez (hq r)) (lit≤ tt);
  }

  next : {s : ℤ} → s ≡ read_back v +ℤ row_term cs j y z → read_back s ≡ weighted p q j (r + 1)
  next {s} e =
      read_as sum_most (e ∙ ap₂ ◌+ℤ◌ before (ap (λ (l : List ℤ). row_term l j y z) ec ∙ ap₂ (row_term (get_or coefficients r []) j) ey ez) ∙ sym (weighted_next p q j r))
      (weighted_most p q j hp hq (suc r) h) (lit≤ tt)
      ∙ ap (weighted p q j) (sym (add-one r))

-- ---- the angle b, the sine and the cosine of the row ks

module _ {ks : List ℤ} {a : List ℕ} (x r b : ℕ) (ek : ks ≡ get_or multipliers r []) (ea : a ≡ our_arguments x) (eb : b ≡ columns ks a % 2 ^ 41) where
  angle_is : b % 2 ^ 41 ≡ our_row_angle r x
  angle_is = ap (λ (n : ℕ). n % 2 ^ 41) (eb ∙ ap₂ (λ (l : List ℤ) (m : List ℕ). columns l m % 2 ^ 41) ek ea) ∙ mod-eq_of_lt (our_angle_less r x)

  sine_is : {s : ℤ} → s ≡ our_sine (b % 2 ^ 41) → read_back s ≡ row_sine x r
  sine_is i = read_as sine_most (i ∙ ap our_sine angle_is) (sine_most_lem x r) (lit≤ tt)

  cosine_is : {s : ℤ} → s ≡ our_cosine (b % 2 ^ 41) → read_back s ≡ row_cosine x r
  cosine_is i = read_as sine_most (i ∙ ap our_cosine angle_is) (cosine_most x r) (lit≤ tt)

-- ---- the goals

pub loop-multipliers-init : goal.loop-multipliers-init
loop-multipliers-init c =
    let x = c.args.at in
    record {
      within = lit≤ tt;
      ut1 = sym (weighted_zero (row_sine x) (row_cosine x) 0);
      lod = sym (weighted_zero (row_cosine x) (row_sine x) 2);
      rate = sym (weighted_zero (row_cosine x) (row_sine x) 4);
    }

pub angle-b-requires-clause-multipliers : goal.angle-b-requires-clause-multipliers
angle-b-requires-clause-multipliers c =
    let l = c.loop-multipliers in
    let t = zip_turn multipliers coefficients l.yielded c.into_iter-multipliers-iterator.result l.multipliers-iterator c.next.new.self _ (search rules) (search rules) l.yielded_by _ c.in-Some.is c.next.ensures.steps in
    λ j. subst (λ (ks : List ℤ). Multiplier (get_or ks j (pos 0))) (sym (t.2 [])) (row_range (length l.yielded) t.0 j)

pub add_row-requires : goal.add_row-requires
add_row-requires c =
    let l = c.loop-multipliers in
    let t = zip_turn multipliers coefficients l.yielded c.into_iter-multipliers-iterator.result l.multipliers-iterator c.next.new.self _ (search rules) (search rules) l.yielded_by _ c.in-Some.is c.next.ensures.steps in
    let x = c.args.at in
    let r = length l.yielded in
    let s = sine_is x r c.angle-b.result (t.2 []) c.arguments-a.ensures c.angle-b.ensures c.sine-s.ensures in
    let o = cosine_is x r c.angle-b.result (t.2 []) c.arguments-a.ensures c.angle-b.ensures c.cosine-c.ensures in
    ready (row_sine x) (row_cosine x) 0 r (sine_most_lem x) (cosine_most x) t.0 (t.3 []) l.invariant.ut1 s o (lit≤ tt)

pub add_row-requires-in-loop-multipliers : goal.add_row-requires-in-loop-multipliers
add_row-requires-in-loop-multipliers c =
    let l = c.loop-multipliers in
    let t = zip_turn multipliers coefficients l.yielded c.into_iter-multipliers-iterator.result l.multipliers-iterator c.next.new.self _ (search rules) (search rules) l.yielded_by _ c.in-Some.is c.next.ensures.steps in
    let x = c.args.at in
    let r = length l.yielded in
    let s = sine_is x r c.angle-b.result (t.2 []) c.arguments-a.ensures c.angle-b.ensures c.sine-s.ensures in
    let o = cosine_is x r c.angle-b.result (t.2 []) c.arguments-a.ensures c.angle-b.ensures c.cosine-c.ensures in
    ready (row_cosine x) (row_sine x) 2 r (cosine_most x) (sine_most_lem x) t.0 (t.3 []) l.invariant.lod o s (lit≤ tt)

pub add_row-requires-in-loop-multipliers-2 : goal.add_row-requires-in-loop-multipliers-2
add_row-requires-in-loop-multipliers-2 c =
    let l = c.loop-multipliers in
    let t = zip_turn multipliers coefficients l.yielded c.into_iter-multipliers-iterator.result l.multipliers-iterator c.next.new.self _ (search rules) (search rules) l.yielded_by _ c.in-Some.is c.next.ensures.steps in
    let x = c.args.at in
    let r = length l.yielded in
    let s = sine_is x r c.angle-b.result (t.2 []) c.arguments-a.ensures c.angle-b.ensures c.sine-s.ensures in
    let o = cosine_is x r c.angle-b.result (t.2 []) c.arguments-a.ensures c.angle-b.ensures c.cosine-c.ensures in
    ready (row_cosine x) (row_sine x) 4 r (cosine_most x) (sine_most_lem x) t.0 (t.3 []) l.invariant.rate o s (lit≤ tt)

pub loop-multipliers-preserved : goal.loop-multipliers-preserved
loop-multipliers-preserved c =
    let l = c.loop-multipliers in
    let t = zip_turn multipliers coefficients l.yielded c.into_iter-multipliers-iterator.result l.multipliers-iterator c.next.new.self _ (search rules) (search rules) l.yielded_by _ c.in-Some.is c.next.ensures.steps in
    let x = c.args.at in
    let r = length l.yielded in
    let s = sine_is x r c.angle-b.result (t.2 []) c.arguments-a.ensures c.angle-b.ensures c.sine-s.ensures in
    let o = cosine_is x r c.angle-b.result (t.2 []) c.arguments-a.ensures c.angle-b.ensures c.cosine-c.ensures in
    let more = length_push l.yielded (c.in-Some.multipliers, c.in-Some.row) in
    record {
      within = omega (arith, more, t.0);
      ut1 = rw more (next (row_sine x) (row_cosine x) 0 r (sine_most_lem x) (cosine_most x) t.0 (t.3 []) l.invariant.ut1 s o c.add_row.ensures);
      lod = rw more (next (row_cosine x) (row_sine x) 2 r (cosine_most x) (sine_most_lem x) t.0 (t.3 []) l.invariant.lod o s c.add_row-in-loop-multipliers.ensures);
      rate = rw more (next (row_cosine x) (row_sine x) 4 r (cosine_most x) (sine_most_lem x) t.0 (t.3 []) l.invariant.rate o s c.add_row-in-loop-multipliers-2.ensures);
    }

same : {a b c a' b' c' : ℤ} → a ≡ a' → b ≡ b' → c ≡ c' → ◌≡◌ {A = Sums} (record { ut1 = a; lod = b; rate = c }) (record { ut1 = a'; lod = b'; rate = c' })
same p q r = cc

pub returns : goal.returns
unfolding sums_at
returns c =
    let l = c.loop-multipliers in
    let x = c.args.at in
    let i = l.invariant in
    let done : length l.yielded ≡ row_count = zip_end multipliers coefficients l.yielded c.into_iter-multipliers-iterator.result l.multipliers-iterator c.next.new.self _ (search rules) (search rules) l.yielded_by c.in-None.is c.next.ensures.steps in
    same (i.ut1 ∙ ap (weighted (row_sine x) (row_cosine x) 0) done ∙ sym (ut1_is (row_sine x) (row_cosine x)))
    (i.lod ∙ ap (weighted (row_cosine x) (row_sine x) 2) done ∙ sym (lod_is (row_sine x) (row_cosine x)))
    (i.rate ∙ ap (weighted (row_cosine x) (row_sine x) 4) done ∙ sym (rate_is (row_sine x) (row_cosine x)))
