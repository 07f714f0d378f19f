-- What only the contracts of the code's own functions cite.
use Rattle.std.specs.Prelude.{ℕ}

-- the most bytes of a line whose two numbers have four bytes each
abbrev pub line_most : ℕ
line_most = 38

-- the most bytes of the totals
abbrev pub totals_most : ℕ
totals_most = 100
