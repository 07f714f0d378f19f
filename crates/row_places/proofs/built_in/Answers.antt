-- The bytes of the code are those of the built-in rows.
use Rattle.std.proofs.Common.{refl}
use Rattle.rows.specs.BuiltIn.{built_in}
use Rattle.row_bytes.specs.Form.{row_bytes, all_bytes, table_bytes}
use Rattle.row_places.proofs.built_in.Goals as goal

pub returns : goal.returns
unfolding table_bytes all_bytes row_bytes built_in
returns c = refl
