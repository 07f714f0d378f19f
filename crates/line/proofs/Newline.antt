-- Bytes behind the first newline change nothing: each of the five numbers either ends before it, or is the last that is read. Assumes nothing.
use Prim.Native.Nat.{ℕ, suc, ◌≤◌}
use mathlib.Core.Path.{◌≡◌, refl, ap}
use mathlib.Core.Bool.{Bool, true, false, cond}
use mathlib.Core.List.{List, [], ◌∷◌, ◌++◌}
use native.Mathlib.Omega.{arith}
use lib.Dec.{eqb, ltb}
use lib.ListN.{length, drop}
use lib.Seq.{drop-append-le}
use Rattle.line.specs.Lines.{is_digit, digits, decimal, Start, Number, NoNumber, ended_by, read_number, and_then, space, newline, line_of}
use Rattle.line.proofs.Scanning.{digits_more, digits_none}
use Rattle.std.specs.Prelude.{Option}
use Rattle.line.specs.declared.Line.{Line}

-- a list's digits, with a newline after the list
digits_newline : (s t : List ℕ) → (digits (s ++ newline ∷ t) ≡ digits s) × (length (digits s) ≤ length s)
unfolding digits
digits_newline [] t = (refl, omega arith)
digits_newline (x ∷ s) t = by (is_digit x) refl (digits_newline s t)
  where
    by : (a : Bool) → is_digit x ≡ a → (digits (s ++ newline ∷ t) ≡ digits s) × (length (digits s) ≤ length s) → (digits (x ∷ s ++ newline ∷ t) ≡ digits (x ∷ s)) × (length (digits (x ∷ s)) ≤ suc (length s))
    by true p r = simp (digits_more x (s ++ newline ∷ t) p, digits_more x s p) (ap (λ (l : List ℕ). x ∷ l) r.0, omega arith)
    by false p r = simp (digits_none x (s ++ newline ∷ t) p, digits_none x s p) (refl, omega arith)

-- what a list begins with, from its digits and what follows them
begin : ℕ → List ℕ → List ℕ → Start
begin end ds s = cond (ltb (length ds) 1) NoNumber (cond (ltb 10 (length ds)) NoNumber (ended_by end (decimal ds) s))

number_newline : (end : ℕ) (s t : List ℕ) → read_number end (s ++ newline ∷ t) ≡ begin end (digits s) (drop (length (digits s)) s ++ newline ∷ t)
unfolding read_number begin
number_newline end s t =
    let d = digits_newline s t in
    rw (d.0, drop-append-le (length (digits s)) s (newline ∷ t) d.1)

pick : (v : ℕ) (x y : List ℕ) (f g : ℕ → List ℕ → (Option Line)) → f v x ≡ g v y → (a : Bool) → and_then (cond a (Number v x) NoNumber) f ≡ and_then (cond a (Number v y) NoNumber) g
pick v x y f g h true = h
pick v x y f g h false = refl

module _ (t u : List ℕ) where
  -- two ways on that agree, whether the newline ends the number or comes later
  step : (end : ℕ) (s : List ℕ) (f g : ℕ → List ℕ → (Option Line)) → ((v : ℕ) → and_then (ended_by end v (newline ∷ t)) f ≡ and_then (ended_by end v (newline ∷ u)) g)
      → ((v : ℕ) (r : List ℕ) → f v (r ++ newline ∷ t) ≡ g v (r ++ newline ∷ u)) → and_then (read_number end (s ++ newline ∷ t)) f ≡ and_then (read_number end (s ++ newline ∷ u)) g
  unfolding begin
  step end s f g k h =
      rw (number_newline end s t, number_newline end s u)
      (by (ltb (length (digits s)) 1) (ltb 10 (length (digits s))) (decimal (digits s)) (drop (length (digits s)) s))
    where
      by : (a b : Bool) (v : ℕ) (s : List ℕ) → and_then (cond a NoNumber (cond b NoNumber (ended_by end v (s ++ newline ∷ t)))) f ≡ and_then (cond a NoNumber (cond b NoNumber (ended_by end v (s ++ newline ∷ u)))) g
      by true b v s = refl
      by false true v s = refl
      by false false v [] = k v
      by false false v (x ∷ s) = pick v (s ++ newline ∷ t) (s ++ newline ∷ u) f g (h v s) (eqb x end)

  -- bytes behind the first newline change nothing
  pub after_newline : (s : List ℕ) → line_of (s ++ newline ∷ t) ≡ line_of (s ++ newline ∷ u)
  unfolding line_of
  after_newline s =
      step space s _ _ (λ v. refl) λ year s₁.
      step space s₁ _ _ (λ v. refl) λ month s₂.
      step space s₂ _ _ (λ v. refl) λ day s₃.
      step space s₃ _ _ (λ v. refl) λ count s₄.
      step newline s₄ _ _ (λ v. refl) λ step s₅. refl
