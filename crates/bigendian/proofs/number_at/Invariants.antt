-- The value is the number of the bytes read, and below 256^k after k bytes, so that up to seven bytes leave room for one more.
use Rattle.std.proofs.Common.{◌≡◌, ◌^◌, ◌<◌}
use Rattle.bigendian.specs.Numbers.{number_at}
use Rattle.bigendian.proofs.number_at.Given as goal

abbrev pub invariant-loop-x : goal.invariant-loop-x
invariant-loop-x l = record { value : l.value ≡ number_at l.s l.at l.x-index; below : l.value < 256 ^ l.x-index }
