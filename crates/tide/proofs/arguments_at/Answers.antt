-- `tide::arguments_at` meets its contract: the parts are those of an instant for phases, so binary64 has the day number and both numbers of microseconds.
use Rattle.std.proofs.Common.{◌≡◌, ℕ, ◌*◌, ◌<◌, T, ℤ, le_trans, arith, lit≤, lit<}
use lib.Ieee.{Float, binary64, in_float}
use Rattle.algebra.proofs.Bits.{read_back, bits_given}
use Rattle.instants.specs.Limits.{day_micros}
use Rattle.instants.specs.declared.Instant.{Instant}
use Rattle.instants.proofs.Accepted.{accepted_at}
use Rattle.utc.specs.PhaseInstants.{PhaseInstant}
use Rattle.utc.specs.Inner.{parts_of, Together}
use Rattle.utc.specs.declared.PhaseParts.{PhaseParts}
use Rattle.utc.proofs.PhaseInstants.{together_accepted}
use Rattle.tide.specs.declared.Arguments.{Arguments}
use Rattle.tide.specs.Tidal.{day_fraction, centuries, arguments_of, arguments_at}
use Rattle.binary64.proofs.Bounded.{size_in_float}
use Rattle.tide.proofs.Signed.{day_most, accepted_size}
use Rattle.tide.proofs.arguments_at.Goals as goal

-- what the parts have
record Sized (x : PhaseParts) : Type 0 where
  day : T (in_float binary64 x.tt.day)
  back : read_back x.tt.day ≡ x.tt.day
  tt : x.tt.micros < 2 * day_micros
  utc : x.utc.micros < 2 * day_micros

sized : (x : PhaseParts) → Together x → Sized x
sized x t =
    let a = together_accepted x t in
    let d = accepted_size x.tt.day x.tt.micros a.0 in
    record {
      day = size_in_float x.tt.day (le_trans d (lit≤ tt));
      back = (bits_given x.tt.day day_most d (lit< tt)).is;
      tt = omega (arith, (accepted_at x.tt.day x.tt.micros _ a.0).less);
      utc = omega (arith, a.1);
    }

pub day_fraction-requires : goal.day_fraction-requires
day_fraction-requires c = rw c.tt-tt.ensures (sized c.args.p c.requires).tt

pub julian_centuries-t-requires : goal.julian_centuries-t-requires
julian_centuries-t-requires c = rw (c.tt-tt.ensures, (sized c.args.p c.requires).back) (sized c.args.p c.requires).day

pub day_fraction-requires-2 : goal.day_fraction-requires-2
day_fraction-requires-2 c = rw c.utc_micros-utc_micros.ensures (sized c.args.p c.requires).utc

-- what the calls give, put together
composed : (p : PhaseParts) (i : Instant) (u : ℕ) (d : ℤ) (f t g : Float) (r : Arguments) → i ≡ p.tt → u ≡ p.utc.micros → d ≡ i.day → f ≡ day_fraction i.micros → t ≡ centuries d f
    → g ≡ day_fraction u → r ≡ arguments_of g t → (a : PhaseInstant) → p ≡ parts_of a → r ≡ arguments_at a
unfolding arguments_at
composed p i u d f t g r ei eu ed ef et eg er a ea = rw (er, eg, et, ef, ed, ei, eu, ea)

pub returns : goal.returns
returns c =
    composed _ _ _ _ _ _ _ _ c.tt-tt.ensures c.utc_micros-utc_micros.ensures (rw c.tt-tt.ensures (sized c.args.p c.requires).back) c.day_fraction.ensures
    c.julian_centuries-t.ensures c.day_fraction-2.ensures c.arguments_of.ensures
