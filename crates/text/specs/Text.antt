-- The programs' words: a text as bytes, decimal numerals, and what is written of a refusal.
use Rattle.std.specs.Prelude.{ℕ, zero, suc, ◌+◌, ◌/◌, ◌%◌, cond, List, [], ◌∷◌, ◌++◌, ltb}
use Prim.Native.Char.{code}
use Rattle.instants.specs.declared.refusal.Refusal.{Refusal}
use Rattle.instants.specs.Refusals.{number}
use Prim.Native.String.{String, [] as noText, ◌∷◌ as ◌before◌}

-- the bytes of a text, in ASCII
abbrev pub ascii : String → List ℕ
ascii noText = []
ascii (c before s) = code c ∷ ascii s

-- the byte of a decimal digit
abbrev pub digit : ℕ → ℕ
digit d = 48 + d

-- the decimal digits of n without leading zeros, the k lowest at most
unfoldable pub numeral_in : ℕ → ℕ → List ℕ
numeral_in zero n = []
numeral_in (suc k) n = cond (ltb n 10) (digit n ∷ []) (numeral_in k (n / 10) ++ digit (n % 10) ∷ [])

-- the decimal numeral of a number below 10^20
abbrev pub numeral : ℕ → List ℕ
numeral n = numeral_in 20 n

-- a refusal number: the word, the number and a newline
unfoldable pub refusal_text : ℕ → List ℕ
refusal_text n = ascii "refused " ++ numeral n ++ ascii "\n"

-- a refusal, by its number
abbrev pub refused_text : Refusal → List ℕ
refused_text r = refusal_text (number r)
