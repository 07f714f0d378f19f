-- A row's bytes stand behind the head and the rows before it.
use Rattle.std.proofs.Common.{◌≡◌, ℕ, ◌+◌, ◌-◌, ◌*◌, List, length, take, drop, sym, ap, ◌∙◌, arith}
use Rattle.rows.specs.declared.Row.{Row}
use Rattle.row_bytes.specs.Form.{head_length, row_length, row_in}
use Rattle.row_bytes.proofs.Reading.{part_all, table_at}
use Rattle.row_bytes.proofs.Rows.row.Goals as goal

-- what is read from the place n on, where n is the place m
from : (s : List ℕ) {r : Row} {n : ℕ} → r ≡ row_in (take (length s - n) (drop n s)) → (m : ℕ) → n ≡ m → r ≡ row_in (drop m s)
from s e m q = e ∙ (ap row_in (part_all _ s) ∙ ap (λ (k : ℕ). row_in (drop k s)) q)

pub returns : goal.returns
returns c =
    let s : List ℕ = c.args.self.bytes.now in
    from s c.row_in.ensures (head_length + row_length * c.args.i) (omega arith) ∙ sym (table_at s c.args.i c.requires)
