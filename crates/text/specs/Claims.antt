-- What a decimal numeral is, said by how it is read.
use Rattle.std.specs.Prelude.{ℕ, ◌+◌, ◌-◌, ◌*◌, ◌≤◌, ◌<◌, ◌≡◌, List, [], ◌∷◌, length, get_or}

-- the number that the digits ds write, where those before them write v
unfoldable pub value_from : ℕ → List ℕ → ℕ
value_from v [] = v
value_from v (x ∷ ds) = value_from (v * 10 + (x - 48)) ds

-- ds is the decimal numeral of n: one digit or more, which write it; and only 0 itself starts with a 0
pub record IsNumeral (ds : List ℕ) (n : ℕ) : Type 0 where
  pub least : 1 ≤ length ds
  pub digits : (i : ℕ) → i < length ds → (48 ≤ get_or ds i 0) × (get_or ds i 0 ≤ 57)
  pub value : value_from 0 ds ≡ n
  pub first : get_or ds 0 0 ≡ 48 → ds ≡ 48 ∷ []
