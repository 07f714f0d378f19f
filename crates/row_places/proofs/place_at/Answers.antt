-- The rows that the lookup finds are those of the place.
use Rattle.std.proofs.Common.{◌≡◌, ◌<◌, ℕ, List, length, refl, sym, ap, ap₂, ◌∙◌, subst}
use borrow.Author.Tests.{eq-eqb, ne_eqb}
use Rattle.rows.specs.declared.Row.{Row}
use Rattle.rows.specs.declared.Place.TheVariants.{End, Between}
use Rattle.rows.specs.Table.{row_at, AcceptedTable}
use Rattle.rows.specs.Places.{place}
use Rattle.row_bytes.specs.Form.{table_in}
use Rattle.row_places.specs.declared.Bracket.{Bracket}
use Rattle.row_places.specs.Lookup.{lookup_of, place_in}
use Rattle.row_places.proofs.Probes.{lookup_within, lookup_place}
use Rattle.row_places.proofs.place_at.Goals as goal

-- what was found has its rows in the table, and is the place
module _ (rows : List Row) (x : ℕ) (b : Bracket) (a : AcceptedTable rows) (e : b ≡ lookup_of rows x) where
  within : (b.lower < length rows) × (b.upper < length rows)
  within = subst (λ (b : Bracket). (b.lower < length rows) × (b.upper < length rows)) (sym e) (lookup_within rows x a.fewest)

  placed : place_in rows b ≡ place rows x
  placed = ap (place_in rows) e ∙ sym (lookup_place rows x a)

-- one row, and two
one : (rows : List Row) (b : Bracket) → b.lower ≡ b.upper → End (row_at rows b.lower) ≡ place_in rows b
one rows b e = rw (eq-eqb b.lower b.upper e) refl

both : (rows : List Row) (b : Bracket) → (b.lower ≡ b.upper → ⊥) → Between (row_at rows b.lower) (row_at rows b.upper) ≡ place_in rows b
both rows b h = rw (ne_eqb b.lower b.upper h) refl

pub row-lower-requires : goal.row-lower-requires
row-lower-requires c = (within (table_in c.args.t.bytes.now) c.args.x c.lookup-b.result c.args.t.lent.accepted c.lookup-b.ensures).0

pub returns-then-b : goal.returns-then-b
returns-then-b c =
    let rows = table_in c.args.t.bytes.now in
    ap End c.row-lower.ensures ∙ one rows c.lookup-b.result c.if-b.true ∙ placed rows c.args.x c.lookup-b.result c.args.t.lent.accepted c.lookup-b.ensures

pub row-requires : goal.row-requires
row-requires c = (within (table_in c.args.t.bytes.now) c.args.x c.lookup-b.result c.args.t.lent.accepted c.lookup-b.ensures).1

pub returns : goal.returns
returns c =
    let rows = table_in c.args.t.bytes.now in
    ap₂ Between c.row-lower.ensures c.row.ensures ∙ both rows c.lookup-b.result c.if-b.false
    ∙ placed rows c.args.x c.lookup-b.result c.args.t.lent.accepted c.lookup-b.ensures
