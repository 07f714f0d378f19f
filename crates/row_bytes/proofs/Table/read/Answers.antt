-- The form is refused, or it is right and the rows decide.
use Rattle.std.proofs.Common.{sym}
use Rattle.row_bytes.proofs.Forms.{rows_lent}
use Rattle.row_bytes.proofs.Table.read.Goals as goal

pub invariant_of-result : goal.invariant_of-result
invariant_of-result c =
    record { lent = rows_lent c.args.s.now c.in_ok-form.field-0 (sym c.in_ok-form.ensures) (sym c.if-days_wrong.ensures) (sym c.if-numbers_wrong.ensures) }
