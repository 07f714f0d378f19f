-- The program's own words, byte by byte. Assumes nothing.
use Prim.Native.Nat.{ℕ}
use mathlib.Core.Path.{◌≡◌, refl}
use mathlib.Core.List.{List, [], ◌∷◌}
use Rattle.run_line.specs.Words.{bad_text}

-- "bad line"
abbrev pub bad_bytes : List ℕ
bad_bytes = 98 ∷ 97 ∷ 100 ∷ 32 ∷ 108 ∷ 105 ∷ 110 ∷ 101 ∷ 10 ∷ []

pub bad_line : bad_bytes ≡ bad_text
unfolding bad_text
bad_line = refl
