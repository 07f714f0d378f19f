-- What only the contracts of the code's own functions cite.
use Rattle.std.specs.Prelude.{ℕ, ◌+◌, List, ◌++◌, take, drop}
use Rattle.bigendian.specs.declared.Field.{Field}
use Rattle.bigendian.specs.Fields.{in_field}

-- s with the number n in a field
abbrev pub with_field : List ℕ → Field → ℕ → List ℕ
with_field s f n = take f.at s ++ (in_field f n ++ drop (f.at + f.size) s)
