-- The answers of a file, one after the other: the first is that of its front, the others are those of what is behind it. Assumes nothing.
use Prim.Native.Nat.{ℕ, suc, ◌+◌, ◌-◌, ◌/◌, ◌≤◌, ◌<◌}
use mathlib.Core.Path.{◌≡◌, ap, sym, ◌∙◌}
use mathlib.Core.List.{List, [], ◌∷◌}
use native.Mathlib.Omega.{arith}
use lib.ListN.{length, take, drop, length-drop}
use lib.Seq.{drop-drop, take_all}
use Rattle.record.specs.Format.{record_length}
use Rattle.record.specs.Records.{read_of}
use Rattle.files.specs.Files.{answers, answers_in}
use Rattle.files.specs.Inner.{answers_from}

one_less : (n : ℕ) → record_length ≤ n → n / record_length ≡ suc ((n - record_length) / record_length)
one_less n h = omega arith

none_left : (n : ℕ) → n < record_length → n / record_length ≡ 0
none_left n h = omega arith

pub answers_step : (s : List ℕ) → record_length ≤ length s → answers_in s ≡ read_of s ∷ answers_in (drop record_length s)
unfolding answers_in
answers_step s h =
    ap (λ (n : ℕ). answers n s) (one_less (length s) h)
    ∙ ap (λ (n : ℕ). read_of s ∷ answers (n / record_length) (drop record_length s)) (sym (length-drop record_length s))

pub answers_end : (s : List ℕ) → length s < record_length → answers_in s ≡ []
unfolding answers_in
answers_end s h = ap (λ (n : ℕ). answers n s) (none_left (length s) h)

-- from a place on
module _ (s : List ℕ) (i : ℕ) where
  pub from_step : i + record_length ≤ length s → answers_from s i ≡ read_of (drop i s) ∷ answers_from s (i + record_length)
  from_step h =
      answers_step (drop i s) (omega (arith, length-drop i s))
      ∙ ap (λ (l : List ℕ). read_of (drop i s) ∷ answers_in l) (drop-drop record_length i s)

  pub from_end : length s < i + record_length → i ≤ length s → answers_from s i ≡ []
  from_end h k = answers_end (drop i s) (omega (arith, length-drop i s))

  -- what a call is lent from a place on
  pub lent : take (length s - i) (drop i s) ≡ drop i s
  lent = take_all (length s - i) (drop i s) (omega (arith, length-drop i s))
