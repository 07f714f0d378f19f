-- After i doublings r is the remainder of a * 2^i.
use Rattle.std.proofs.Common.{◌≡◌, ◌*◌, ◌%◌, ◌^◌}
use Rattle.binary64.proofs.doubled.Given as goal

abbrev pub invariant-loop-i : goal.invariant-loop-i
invariant-loop-i l = l.r ≡ l.fn.a * 2 ^ l.i % l.fn.b
