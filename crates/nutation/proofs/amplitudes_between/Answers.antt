-- The factor is that of the definition, and each amplitude itself as an i64.
use Rattle.std.proofs.Common.{◌≡◌, ℕ, ◌-◌, ◌*◌, ◌/◌, ◌^◌, sym, ap, ◌∙◌, rules}
use Rattle.instants.specs.Limits.{day_micros}
use Rattle.nutation.specs.Ours.{factor, amplitude}
use Rattle.nutation.specs.Inner.{amplitudes}
use Rattle.nutation.proofs.Sizes.{factor_is}
use Rattle.nutation.proofs.amplitudes_between.Goals as goal

pub returns : goal.returns
unfolding amplitudes amplitude
returns c =
    let a = c.args.a in
    let b = c.args.b in
    let l : c.factor_of-l.result ≡ factor a b c.args.x =
    c.factor_of-l.ensures.factor ∙ ap (λ (k : ℕ). (c.args.x - k) * 2 ^ 27 / ((b.day - a.day) * day_micros)) c.moment.ensures
    ∙ sym (factor_is a b c.args.x c.requires.2) in
    search rules
