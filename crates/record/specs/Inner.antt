-- What only the contracts of the code's own functions cite.
use Rattle.std.specs.Prelude.{ℕ, List, Result, ⊤}
use Rattle.instants.specs.Refusals.{check}
use Rattle.instants.specs.declared.refusal.Refusal.{Refusal}
use Rattle.record.specs.Records.{head_cases, form_cases}

-- the tests of the head, and of the bytes' form
unfoldable pub head_of : List ℕ → Result ⊤ Refusal
head_of s = check (head_cases s)

unfoldable pub form_of : List ℕ → Result ⊤ Refusal
form_of s = check (form_cases s)
