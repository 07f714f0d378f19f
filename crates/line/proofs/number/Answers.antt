-- The digits' end is found or not, and the value goes digit by digit.
use Rattle.std.proofs.Common.{ℕ, List, ◌≡◌, ◌^◌, ◌<◌, inl, inr, take, refl, sym, get_or, length, arith}
use Rattle.std.proofs.lemmas.List.{take_rest, get_or-take, length-take-le}
use Rattle.line.specs.Lines.{decimal_from}
use Rattle.line.proofs.Scanning.{without_end, not_ended, ended, found, one_more, below_more, is_digit_at, is_digit_lem, IsDigit, nine}
use Rattle.line.proofs.number.Goals.{then-n-eq0-via-then-n-eq0, then-n-eq0-via-else-n-eq0+then-s-n, In-loop-x}
use Rattle.line.proofs.number.Goals as goal

pub returns-in_err-n : goal.returns-in_err-n
returns-in_err-n c = rw c.from_residual.ensures (without_end c.args.end c.args.s.now (sym c.in_err-n.ensures))

pub returns-then-n-eq0 : goal.returns-then-n-eq0
returns-then-n-eq0 c =
    not_ended c.args.end c.args.s.now c.in_ok-n.n (sym c.in_ok-n.ensures)
    (elim c.then-n-eq0.branch [ then-n-eq0-via-then-n-eq0 w ↦ inl w.if-n-eq0.true | then-n-eq0-via-else-n-eq0+then-s-n w ↦ inr w.if-s-n.true ])

-- the byte in hand is a digit, one of at most ten, and a value of nine digits is small
record Hand (s : List ℕ) (n k v : ℕ) : Type 0 where
  digit : IsDigit (get_or (take n s) k 0)
  same : get_or (take n s) k 0 ≡ get_or s k 0
  inside : k < length s
  small : v < 10 ^ 9

hand : (c : In-loop-x) → Hand c.args.s.now c.in_ok-n.n c.loop-x.x-index c.loop-x.value
hand c =
    let f = found 11 c.args.s.now c.in_ok-n.n (sym c.in_ok-n.ensures) in
    let size : length (take c.in_ok-n.n c.args.s.now) ≡ c.in_ok-n.n = length-take-le _ _ (omega (arith, f.0.inside)) in
    let h : c.loop-x.x-index < c.in_ok-n.n = omega arith in
    let same : get_or (take c.in_ok-n.n c.args.s.now) c.loop-x.x-index 0 ≡ get_or c.args.s.now c.loop-x.x-index 0 = get_or-take _ _ _ _ h in
    record {
      digit = rw same (is_digit_lem _ (is_digit_at c.args.s.now c.loop-x.x-index (omega (arith, f.0.size))));
      same = same;
      inside = omega (arith, f.0.inside);
      small = nine c.loop-x.x-index c.loop-x.value (omega (arith, f.1)) c.loop-x.invariant.below;
    }

pub loop-x-init : goal.loop-x-init
unfolding decimal_from
loop-x-init c = record { below = omega arith; value = refl }

pub overflow_mul-value : goal.overflow_mul-value
overflow_mul-value c = let h = hand c in omega (arith, h.small)

pub overflow_sub-x : goal.overflow_sub-x
overflow_sub-x c = (hand (goal.at.overflow_sub-x c).In-loop-x).digit.low

pub overflow_add-value : goal.overflow_add-value
overflow_add-value c =
    let h = hand (goal.at.overflow_add-value c).In-loop-x in
    omega (arith, h.small, h.digit.high, c.from.ensures)

pub loop-x-preserved : goal.loop-x-preserved
loop-x-preserved c =
    let h = hand (goal.at.loop-x-preserved c).In-loop-x in
    record {
      below = below_more _ _ _ c.loop-x.invariant.below (omega (arith, h.digit.high, h.digit.low, c.from.ensures));
      value = rw (one_more c.args.s.now c.loop-x.x-index h.inside, ← c.loop-x.invariant.value, ← h.same) (omega (arith, c.from.ensures));
    }

pub returns : goal.returns
returns c =
    let f = found 11 c.args.s.now c.in_ok-n.n (sym c.in_ok-n.ensures) in
    let size : length (take c.in_ok-n.n c.args.s.now) ≡ c.in_ok-n.n = length-take-le _ _ (omega (arith, f.0.inside)) in
    let k : c.loop-x.x-index ≡ c.in_ok-n.n = omega arith in
    rw (take_rest, c.loop-x.invariant.value, k) (ended c.args.end c.args.s.now c.in_ok-n.n (sym c.in_ok-n.ensures) c.if-n-eq0.false c.if-s-n.false)
