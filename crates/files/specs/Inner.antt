-- What only the contracts of the code's own functions cite, here and in compare.
use Rattle.std.specs.Prelude.{ℕ, ◌≤◌, ◌≡◌, Bool, true, false, cond, ◌&&◌, List, [], ◌∷◌, ltb, length, drop, Result, Ok, Err}
use Rattle.files.specs.Files.{answers_in, when}
use Rattle.record.specs.declared.Record.{Record}
use Rattle.instants.specs.declared.refusal.Refusal.{Refusal}

-- past every moment: where a file ends
abbrev pub at_end : ℕ
at_end = 0x4000_0000_0000_0000

-- and past that: where the next record does not read or is not after the one before
abbrev pub unsound : ℕ
unsound = 0x8000_0000_0000_0000

-- the moment of an answer's record, which is to be after t
abbrev pub moment_in : ℕ → Result Record Refusal → ℕ
moment_in t (Err n) = unsound
moment_in t (Ok r) = cond (ltb t (when r)) (when r) unsound

-- that of the first of answers
abbrev pub next_moment : ℕ → List (Result Record Refusal) → ℕ
next_moment t [] = at_end
next_moment t (x ∷ xs) = moment_in t x

-- all are records, and their instants rise, the first from after t on
abbrev pub sound_after : ℕ → List (Result Record Refusal) → Bool
sound_after t [] = true
sound_after t (Err n ∷ xs) = false
sound_after t (Ok r ∷ xs) = ltb t (when r) && sound_after (when r) xs

-- the answers from place i of s on
abbrev pub answers_from : List ℕ → ℕ → List (Result Record Refusal)
answers_from s i = answers_in (drop i s)

-- every record of s reads, and the instants rise
unfoldable pub sound : List ℕ → Bool
sound s = sound_after 0 (answers_in s)

-- place i of s, and the moment m of the record there: the file is sound if what is left of it is, from after the record before
pub record Standing (s : List ℕ) (i m : ℕ) : Type 0 where
  pub within : i ≤ length s
  pub last : ℕ
  pub moment : m ≡ next_moment last (answers_from s i)
  pub rest : sound s ≡ sound_after last (answers_from s i)
