-- The program's line (docs/RULES.md): year, month, day, count and step in seconds, as decimal numbers.
use Rattle.std.specs.Prelude.{ℕ, ◌+◌, ◌-◌, ◌*◌, Bool, cond, ◌&&◌, List, [], ◌∷◌, eqb, ltb, leb, length, drop, Option, Some, None}
use Rattle.line.specs.declared.Line.{Line}

-- a byte that is a decimal digit
abbrev pub is_digit : ℕ → Bool
is_digit x = leb 48 x && leb x 57

-- the digits that a list begins with
unfoldable pub digits : List ℕ → List ℕ
digits [] = []
digits (x ∷ s) = cond (is_digit x) (x ∷ digits s) []

-- the number that digits write, where those before them write v
unfoldable pub decimal_from : ℕ → List ℕ → ℕ
decimal_from v [] = v
decimal_from v (x ∷ ds) = decimal_from (v * 10 + (x - 48)) ds

-- the number that digits write
abbrev pub decimal : List ℕ → ℕ
decimal ds = decimal_from 0 ds

-- what a list begins with: a number, with the bytes that follow its end; or no number
pub data Start : Type 0 where
  Number : ℕ → List ℕ → Start
  NoNumber : Start

-- the number v, if the byte `end` comes next
abbrev pub ended_by : ℕ → ℕ → List ℕ → Start
ended_by end v [] = NoNumber
ended_by end v (x ∷ s) = cond (eqb x end) (Number v s) NoNumber

-- a number of 1 to 10 digits with the byte `end` after it
unfoldable pub read_number : ℕ → List ℕ → Start
read_number end s =
    cond (ltb (length (digits s)) 1) NoNumber
    (cond (ltb 10 (length (digits s))) NoNumber
    (ended_by end (decimal (digits s)) (drop (length (digits s)) s)))

-- what f makes of a number and the bytes after it; with no number, a bad line
abbrev pub and_then : Start → (ℕ → List ℕ → (Option Line)) → Option Line
and_then (Number v s) f = f v s
and_then NoNumber f = None

-- the byte that ends each of the first four numbers
abbrev pub space : ℕ
space = 32

-- the byte that ends the last number
abbrev pub newline : ℕ
newline = 10

-- the line at the front of s: five numbers, a space after each of the first four and a newline after the last
unfoldable pub line_of : List ℕ → Option Line
line_of s =
    and_then (read_number space s) (λ year s₁.
    and_then (read_number space s₁) (λ month s₂.
    and_then (read_number space s₂) (λ day s₃.
    and_then (read_number space s₃) (λ count s₄.
    and_then (read_number newline s₄) (λ step s₅.
    Some (record { year = year; month = month; day = day; count = count; step = step }))))))
