-- The line's grammar: which bytes are a line, said without a scan.
use Rattle.std.specs.Prelude.{ℕ, ◌≤◌, ◌≡◌, List, ◌∷◌, ◌++◌, length}
use Rattle.line.specs.declared.Line.{Line}
use Rattle.line.specs.Lines.{digits, decimal, space, newline}

-- ds is 1 to 10 bytes, all of them digits, and writes v
pub record Writes (ds : List ℕ) (v : ℕ) : Type 0 where
  pub every : digits ds ≡ ds
  pub least : 1 ≤ length ds
  pub few : length ds ≤ 10
  pub value : decimal ds ≡ v

-- s is five numbers, a space between each two and a newline after them, and then anything
pub record IsLine (s : List ℕ) (l : Line) : Type 0 where
  pub year : List ℕ
  pub month : List ℕ
  pub day : List ℕ
  pub count : List ℕ
  pub step : List ℕ
  pub rest : List ℕ
  pub bytes : s ≡ year ++ space ∷ month ++ space ∷ day ++ space ∷ count ++ space ∷ step ++ newline ∷ rest
  pub is_year : Writes year l.year
  pub is_month : Writes month l.month
  pub is_day : Writes day l.day
  pub is_count : Writes count l.count
  pub is_step : Writes step l.step
