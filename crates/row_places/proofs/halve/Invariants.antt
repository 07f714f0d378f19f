-- The loop's invariant: from where the code is the rule gives what it gives from the start. A round is a probe, and between neighbours the rule gives the
-- bracket itself.
use Rattle.std.proofs.Common.{◌≡◌, ◌+◌, ◌-◌, ◌≤◌}
use Rattle.row_bytes.specs.Form.{table_in}
use Rattle.row_places.specs.Lookup.{bracket, halving}
use Rattle.row_places.proofs.halve.Given as goal

abbrev pub invariant-loop-lower : goal.invariant-loop-lower
invariant-loop-lower l =
    (l.lower ≤ l.upper) × (l.upper ≤ l.last) × (l.probes + (l.upper - l.lower) ≤ l.last)
    × (halving (table_in l.t.bytes.now) l.x (bracket l.lower l.upper l.probes) ≡ halving (table_in l.t.bytes.now) l.x (bracket 0 l.last 0))

abbrev pub decreases-loop-lower : goal.decreases-loop-lower
decreases-loop-lower l = l.upper - l.lower
