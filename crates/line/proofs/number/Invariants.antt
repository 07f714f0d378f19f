-- The value is that of the digits so far, and below a power of ten.
use Rattle.std.proofs.Common.{◌≡◌, ◌^◌, ◌<◌, take}
use Rattle.line.specs.Lines.{decimal}
use Rattle.line.proofs.number.Given as goal

abbrev pub invariant-loop-x : goal.invariant-loop-x
invariant-loop-x l = record {
  below : l.value < 10 ^ l.x-index;
  value : l.value ≡ decimal (take l.x-index l.s);
}
