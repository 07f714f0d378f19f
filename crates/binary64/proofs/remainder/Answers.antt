-- `binary64::remainder` meets its contract: the remainder of the units is that of the numbers. A number of the smaller shift is below the divisor.
use Prim.Native.Nat.{◌-◌, ◌*◌, ◌^◌}
use native.Mathlib.Nat.{mod-lt}
use lib.Ieee.{binary64, round, of_bits}
use Rattle.std.proofs.Common.{ℕ, ◌<◌, ap, sym, ◌∙◌, arith}
use Rattle.binary64.proofs.WholeUnits.{rem_none, some_remainder, rem_infinite, some_digits, rem_small, rem_shifted}
use Rattle.binary64.proofs.remainder.Goals as goal

pub doubled-digits-requires-clause-some : goal.doubled-digits-requires-clause-some
unfolding of_bits
doubled-digits-requires-clause-some c =
    let h = rw (c.is_finite.ensures.value, c.is_nan.ensures.value) at c.if-is_finite-is_nan.false in
    some_digits _ _ _ _ (some_remainder c.args.x c.args.y h).2 c.of-b.ensures.value

pub invariant_of-number : goal.invariant_of-number
unfolding of_bits
invariant_of-number c =
    let h = rw (c.is_finite.ensures.value, c.is_nan.ensures.value) at c.if-is_finite-is_nan.false in
    let some : 0 < c.of-b.result.digits = some_digits _ _ _ _ (some_remainder c.args.x c.args.y h).2 c.of-b.ensures.value in
    record {
      few = omega (arith, c.doubled-digits.ensures, mod-lt (c.of-a.result.digits * 2 ^ (c.of-a.result.shift - c.of-b.result.shift)) some, c.of-b.result.few);
      near = c.of-b.result.near;
    }

pub returns-then-is_finite-is_nan : goal.returns-then-is_finite-is_nan
unfolding of_bits
returns-then-is_finite-is_nan c = rem_none c.args.x c.args.y (rw (c.is_finite.ensures.value, c.is_nan.ensures.value) at c.if-is_finite-is_nan.true)

pub returns-then-not-is_finite : goal.returns-then-not-is_finite
unfolding of_bits
returns-then-not-is_finite c =
    let h = rw (c.is_finite.ensures.value, c.is_nan.ensures.value) at c.if-is_finite-is_nan.false in
    let k = some_remainder c.args.x c.args.y h in
    rem_infinite c.args.x c.args.y k.0 k.1 (sym c.is_finite-else-is_finite-is_nan.ensures.value ∙ c.if-not-is_finite.true)

pub returns-then-a-b : goal.returns-then-a-b
returns-then-a-b c =
    let a = c.of-a in
    let b = c.of-b in
    c.number.ensures ∙ sym (rem_small c.args.x c.args.y _ _ _ _ _ _ a.result.few c.if-a-b.true (b.ensures.leading (omega arith)) a.ensures.value b.ensures.value)

pub returns-else-a-b : goal.returns-else-a-b
unfolding of_bits
returns-else-a-b c =
    let a = c.of-a in
    let b = c.of-b in
    let h = rw (c.is_finite.ensures.value, c.is_nan.ensures.value) at c.if-is_finite-is_nan.false in
    let some : 0 < b.result.digits = some_digits _ _ _ _ (some_remainder c.args.x c.args.y h).2 b.ensures.value in
    c.number-else-a-b.ensures
    ∙ ap (λ (z : ℕ). round binary64 a.result.negative (z * 2 ^ b.result.shift) (2 ^ 1074)) c.doubled-digits.ensures
    ∙ sym (rem_shifted c.args.x c.args.y _ _ _ _ _ _ c.if-a-b.false some a.ensures.value b.ensures.value)
