-- The bytes of entries: put field by field they compute to those of the definition; lists of them, one behind the other. Assumes nothing.
use Prim.Native.Nat.{ℕ, ◌*◌, ◌≤◌}
use mathlib.Core.Path.{◌≡◌, refl, ap, sym, ◌∙◌}
use mathlib.Core.List.{List, [], ◌∷◌, ◌++◌, append-nil, append_assoc}
use native.Mathlib.Omega.{arith}
use lib.ListN.{length, replicate, length-append}
use Rattle.bigendian.specs.Numbers.{twos_complement}
use Rattle.bigendian.specs.Buffers.{at_front}
use Rattle.bigendian.specs.Inner.{with_field}
use Rattle.bigendian.proofs.Buffers.{front_none}
use Rattle.compare.specs.declared.Entry.{Entry}
use Rattle.compare.specs.Walk.{side_number}
use Rattle.compare.specs.Compare.{entry_length, side_field, day_field, micros_field, ut1_field, lod_field, rate_field, entry_bytes, list_bytes}

pub entry_length_lem : (e : Entry) → length (entry_bytes e) ≡ entry_length
unfolding entry_bytes
entry_length_lem e = refl

pub list_length : (es : List Entry) → length (list_bytes es) ≡ entry_length * length es
list_length [] = refl
list_length (e ∷ es) = length-append (entry_bytes e) (list_bytes es) ∙ omega (arith, entry_length_lem e, list_length es)

pub list_append : (es fs : List Entry) → list_bytes (es ++ fs) ≡ list_bytes es ++ list_bytes fs
list_append [] fs = refl
list_append (e ∷ es) fs = ap (λ (l : List ℕ). entry_bytes e ++ l) (list_append es fs) ∙ sym (append_assoc (entry_bytes e) (list_bytes es) (list_bytes fs))

pub all_fields : (e : Entry) (l₁ l₂ l₃ l₄ l₅ l₆ : List ℕ) (n d a b c : ℕ)
    → l₁ ≡ with_field (replicate entry_length 0) side_field n
    → l₂ ≡ with_field l₁ day_field d
    → l₃ ≡ with_field l₂ micros_field e.micros
    → l₄ ≡ with_field l₃ ut1_field a
    → l₅ ≡ with_field l₄ lod_field b
    → l₆ ≡ with_field l₅ rate_field c
    → n ≡ side_number e.side
    → d ≡ twos_complement 4 e.day
    → a ≡ twos_complement 8 e.ut1
    → b ≡ twos_complement 8 e.lod
    → c ≡ twos_complement 8 e.rate
    → l₆ ≡ entry_bytes e
unfolding entry_bytes
all_fields e l₁ l₂ l₃ l₄ l₅ l₆ n d a b c p₁ p₂ p₃ p₄ p₅ p₆ q q₁ q₂ q₃ q₄ = rw (p₆, p₅, p₄, p₃, p₂, p₁, q, q₁, q₂, q₃, q₄) refl

-- ---- a list of one entry, or of none

module _ (e : Entry) (es : List Entry) (q : es ≡ e ∷ []) where
  one_bytes : list_bytes es ≡ entry_bytes e
  one_bytes = ap list_bytes q ∙ append-nil (entry_bytes e)

  pub one_room : (n : ℕ) → length (list_bytes es) ≤ n → entry_length ≤ n
  one_room n h = omega (arith, ap length one_bytes, entry_length_lem e)

  pub one_put : (r : ℕ) (old new : List ℕ) → r ≡ entry_length → new ≡ at_front (entry_bytes e) old → (r ≡ length (list_bytes es)) × (new ≡ at_front (list_bytes es) old)
  one_put r old new x y = (x ∙ sym (ap length one_bytes ∙ entry_length_lem e), y ∙ ap (λ (l : List ℕ). at_front l old) (sym one_bytes))

pub none_put : (es : List Entry) (old : List ℕ) → es ≡ [] → (0 ≡ length (list_bytes es)) × (old ≡ at_front (list_bytes es) old)
none_put es old e = (sym (ap (λ (x : List Entry). length (list_bytes x)) e), sym (ap (λ (x : List Entry). at_front (list_bytes x) old) e ∙ front_none old))
