-- By the three cases of the definition: the first row, the last, and what halving leaves of both.
use Rattle.std.proofs.Common.{◌≡◌, ◌-◌, ℕ, length, sym, ap, ◌∙◌, arith}
use Rattle.rows.specs.Table.{row_at}
use Rattle.rows.specs.Places.{row_moment}
use Rattle.rows.proofs.Accepted.{accepted_row}
use Rattle.row_bytes.specs.Form.{table_in}
use Rattle.row_places.specs.Lookup.{bracket, halving}
use Rattle.row_places.proofs.Probes.{lookup_first, lookup_last, lookup_amid}
use Rattle.row_places.proofs.lookup.Goals as goal

pub moment-requires : goal.moment-requires
moment-requires c =
    let a = c.args.t.lent.accepted in
    rw c.row.ensures (accepted_row (table_in c.args.t.bytes.now) a 0 (omega (arith, a.fewest)))

pub returns-then-x-moment : goal.returns-then-x-moment
returns-then-x-moment c =
    let rows = table_in c.args.t.bytes.now in
    let d : c.moment.result ≡ row_moment (row_at rows 0) = c.moment.ensures ∙ ap row_moment c.row.ensures in
    sym (lookup_first rows c.args.x (omega (arith, d)))

pub moment-requires-2 : goal.moment-requires-2
moment-requires-2 c =
    let a = c.args.t.lent.accepted in
    rw c.row-2.ensures (accepted_row (table_in c.args.t.bytes.now) a _ (omega (arith, a.fewest, c.count-last.ensures)))

pub returns-then-moment-x : goal.returns-then-moment-x
returns-then-moment-x c =
    let rows = table_in c.args.t.bytes.now in
    let i : c.count-last.result - 1 ≡ length rows - 1 = omega (arith, c.count-last.ensures) in
    let d : c.moment.result ≡ row_moment (row_at rows 0) = c.moment.ensures ∙ ap row_moment c.row.ensures in
    let e : c.moment-2.result ≡ row_moment (row_at rows (length rows - 1)) = c.moment-2.ensures ∙ ap row_moment (c.row-2.ensures ∙ ap (row_at rows) i) in
    ap (λ (i : ℕ). bracket i i 0) i ∙ sym (lookup_last rows c.args.x (omega (arith, d)) (omega (arith, e)))

pub returns : goal.returns
returns c =
    let rows = table_in c.args.t.bytes.now in
    let i : c.count-last.result - 1 ≡ length rows - 1 = omega (arith, c.count-last.ensures) in
    let d : c.moment.result ≡ row_moment (row_at rows 0) = c.moment.ensures ∙ ap row_moment c.row.ensures in
    let e : c.moment-2.result ≡ row_moment (row_at rows (length rows - 1)) = c.moment-2.ensures ∙ ap row_moment (c.row-2.ensures ∙ ap (row_at rows) i) in
    c.halve.ensures ∙ ap (λ (i : ℕ). halving rows c.args.x (bracket 0 i 0)) i ∙ sym (lookup_amid rows c.args.x (omega (arith, d)) (omega (arith, e)))
