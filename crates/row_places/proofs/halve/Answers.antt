use Rattle.std.proofs.Common.{◌≡◌, ◌<◌, ◌+◌, ◌/◌, ℕ, List, length, sym, ap, ◌∙◌, arith}
use Rattle.rows.specs.declared.Row.{Row}
use Rattle.rows.specs.Table.{row_at}
use Rattle.rows.specs.Places.{row_moment}
use Rattle.rows.proofs.Accepted.{accepted_row}
use Rattle.row_bytes.specs.Form.{table_in}
use Rattle.row_places.specs.declared.Bracket.{Bracket}
use Rattle.row_places.specs.Lookup.{bracket, probed, halving}
use Rattle.row_places.proofs.Halving.{probed_up, probed_down, halving_done, halving_goes_on}
use Rattle.row_places.proofs.halve.Goals as goal

-- a probe: the rule goes on from what it leaves
goes_on : (rows : List Row) (x : ℕ) (b q t : Bracket) → b.lower + 1 < b.upper → halving rows x b ≡ t → probed rows x b ≡ q → halving rows x q ≡ t
goes_on rows x b q t h k e = ap (halving rows x) (sym e) ∙ sym (halving_goes_on rows x b h) ∙ k

pub moment-requires : goal.moment-requires
moment-requires c =
    let rows = table_in c.args.t.bytes.now in
    let l : (c.loop-lower.lower + c.loop-lower.upper) / 2 < length rows = omega (arith, c.loop-lower.invariant, c.loop-lower-test.true, c.requires) in
    rw c.row.ensures (accepted_row rows c.args.t.lent.accepted _ l)

pub loop-lower-preserved-then-moment-x : goal.loop-lower-preserved-then-moment-x
loop-lower-preserved-then-moment-x c =
    let rows = table_in c.args.t.bytes.now in
    let b : Bracket = bracket c.loop-lower.lower c.loop-lower.upper c.loop-lower.probes in
    let d : c.moment.result ≡ row_moment (row_at rows ((c.loop-lower.lower + c.loop-lower.upper) / 2)) = c.moment.ensures ∙ ap row_moment c.row.ensures in (
      omega arith,
      omega arith,
      omega arith,
      goes_on rows c.args.x b _ _ c.loop-lower-test.true c.loop-lower.invariant.3 (probed_up rows c.args.x b (omega (arith, d))),
    )

pub loop-lower-preserved : goal.loop-lower-preserved
loop-lower-preserved c =
    let rows = table_in c.args.t.bytes.now in
    let b : Bracket = bracket c.loop-lower.lower c.loop-lower.upper c.loop-lower.probes in
    let d : c.moment.result ≡ row_moment (row_at rows ((c.loop-lower.lower + c.loop-lower.upper) / 2)) = c.moment.ensures ∙ ap row_moment c.row.ensures in (
      omega arith,
      omega arith,
      omega arith,
      goes_on rows c.args.x b _ _ c.loop-lower-test.true c.loop-lower.invariant.3 (probed_down rows c.args.x b (omega (arith, d))),
    )

pub returns : goal.returns
returns c =
    sym (halving_done (table_in c.args.t.bytes.now) c.args.x (bracket c.loop-lower.lower c.loop-lower.upper c.loop-lower.probes) (omega (arith, c.loop-lower-test.false)))
    ∙ c.loop-lower.invariant.3
