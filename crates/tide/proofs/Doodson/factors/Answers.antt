-- `tide::Doodson::factors` meets its contract: a multiplier in range is read back from its bits, and binary64 holds it.
use Rattle.std.proofs.Common.{◌≡◌, T, ℤ, le_trans, lit≤, lit<}
use lib.Ieee.{binary64, in_float}
use Rattle.algebra.proofs.Bits.{read_back, bits_given}
use Rattle.binary64.proofs.Bounded.{size_in_float}
use Rattle.tide.specs.Tidal.{in_range}
use Rattle.tide.proofs.Signed.{range_size, each}
use Rattle.tide.proofs.Doodson.factors.Goals as goal

back : (z : ℤ) → T (in_range z) → read_back z ≡ z
back z h = (bits_given z 12 (range_size z h) (lit< tt)).is

held : (z : ℤ) → T (in_range z) → T (in_float binary64 (read_back z))
held z h = rw (back z h) (size_in_float z (le_trans (range_size z h) (lit≤ tt)))

pub int_to_float-result : goal.int_to_float-result
int_to_float-result c = held c.args.self.k1 (each c.args.self c.requires).k1

pub int_to_float-result-2 : goal.int_to_float-result-2
int_to_float-result-2 c = held c.args.self.k2 (each c.args.self c.requires).k2

pub int_to_float-result-3 : goal.int_to_float-result-3
int_to_float-result-3 c = held c.args.self.k3 (each c.args.self c.requires).k3

pub int_to_float-result-4 : goal.int_to_float-result-4
int_to_float-result-4 c = held c.args.self.k4 (each c.args.self c.requires).k4

pub int_to_float-result-5 : goal.int_to_float-result-5
int_to_float-result-5 c = held c.args.self.k5 (each c.args.self c.requires).k5

pub int_to_float-result-6 : goal.int_to_float-result-6
int_to_float-result-6 c = held c.args.self.k6 (each c.args.self c.requires).k6

pub returns : goal.returns
returns c =
    let e = each c.args.self c.requires in
    rw (
      back c.args.self.k1 e.k1,
      back c.args.self.k2 e.k2,
      back c.args.self.k3 e.k3,
      back c.args.self.k4 e.k4,
      back c.args.self.k5 e.k5,
      back c.args.self.k6 e.k6,
    )
