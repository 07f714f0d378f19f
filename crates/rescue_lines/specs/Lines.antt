-- What the program writes for its input s: the kept records to standard output; to standard error a line for each range of passed bytes, and the totals.
use Rattle.std.specs.Prelude.{ℕ, List, [], ◌∷◌, ◌++◌}
use Rattle.instants.specs.Refusals.{refused_or}
use Rattle.rescue.specs.declared.Counts.{Counts}
use Rattle.rescue.specs.declared.Range.{Range}
use Rattle.rescue.specs.Rescue.{ranges_in, counts_of, kept_bytes, input_cases}
use Rattle.text.specs.Text.{ascii, numeral, refused_text}

-- the line of a range: how many bytes it has, and the place of the first
unfoldable pub line_text : Range → List ℕ
line_text r = ascii "passed " ++ numeral r.size ++ ascii " bytes at " ++ numeral r.start ++ ascii "\n"

-- the lines of ranges, in their order
abbrev pub lines_text : List Range → List ℕ
lines_text [] = []
lines_text (r ∷ rs) = line_text r ++ lines_text rs

-- the line of the totals
unfoldable pub totals_text : Counts → List ℕ
totals_text c =
    ascii "kept " ++ numeral c.kept ++ ascii " records, passed " ++ numeral c.passed ++ ascii " bytes in " ++ numeral c.ranges ++ ascii " ranges\n"

-- what goes to standard output: the kept records, or nothing beside a refusal
unfoldable pub records_text : List ℕ → List ℕ
records_text s = refused_or (λ _. []) (input_cases s) (kept_bytes s)

-- what goes to standard error: the lines and the totals, or the refusal
unfoldable pub report_text : List ℕ → List ℕ
report_text s = refused_or refused_text (input_cases s) (lines_text (ranges_in s) ++ totals_text (counts_of s))
