use Rattle.std.proofs.Common.{◌≡◌, ℕ, Bool, true, false, List, length, refl, sym, ◌∙◌, arith, rules}
use Rattle.std.proofs.lemmas.Iterator.{cases_from_any, YieldsList-from_range}
use Rattle.rows.specs.Table.{row_at, number_out, numbers_wrong}
use Rattle.row_bytes.specs.Form.{table_in}
use Rattle.row_bytes.proofs.Reading.{table_count}
use Rattle.row_bytes.proofs.Scans.{any_below}
use Rattle.row_bytes.proofs.Rows.numbers_wrong.Goals as goal

-- a row's test
abbrev wrong : List ℕ → ℕ → Bool
wrong s = λ i. number_out (row_at (table_in s) i)

pub returns : goal.returns
unfolding numbers_wrong
returns c =
    let s = c.args.self.bytes.now in
    let n : c.count.result ≡ length (table_in s) = c.count.ensures ∙ sym (table_count s) in
    any_below (wrong s) (length (table_in s)) c.any.result
    (cases_from_any _ _ _ (λ i. wrong s i ≡ true) (λ i. wrong s i ≡ false) c.any.ensures.ran (YieldsList-from_range 0 c.count.result (length (table_in s)) refl (omega (arith, n))) (λ x q k. search rules) (λ x q k. search rules))
