-- A number that a byte form has in a field is read back from there, and the number in a field has the bytes that stand there. Assumes nothing.
use Rattle.std.proofs.Common.{◌≡◌, ℕ, ◌+◌, ◌^◌, ◌<◌, ◌≤◌, List, ◌++◌, length, take, drop, ℤ, sym, ap, ◌∙◌, ap₂, mod-eq_of_lt, take-add}
use Rattle.bigendian.specs.declared.Field.{Field}
use Rattle.bigendian.specs.Numbers.{Bytes, number_at, twos_complement, signed_of}
use Rattle.bigendian.specs.Fields.{field_at, signed_at, in_field, signed_in}
use Rattle.bigendian.specs.Inner.{with_field}
use Rattle.bigendian.proofs.Numbers.{bytes_number, number_bytes}
use Rattle.bigendian.proofs.Signs.{FitsBytes, read_signed, signed_bytes}

-- s has the number n in a field
pub record Has (s : List ℕ) (f : Field) (n : ℕ) : Type 0 where
  pub starts : length (take f.at s) ≡ f.at
  pub is : s ≡ with_field s f n

-- ---- a number that was put there

module _ (s : List ℕ) (f : Field) where
  stands : (n : ℕ) → Has s f n → field_at s f ≡ number_at (with_field s f n) (length (take f.at s)) f.size
  stands n h = ap₂ (λ (l : List ℕ) (i : ℕ). number_at l i f.size) h.is (sym h.starts)

  pub number_back : (n : ℕ) → Has s f n → n < 256 ^ f.size → field_at s f ≡ n
  number_back n h l = stands n h ∙ (number_bytes (take f.at s) f.size n (drop (f.at + f.size) s) ∙ mod-eq_of_lt l)

  pub signed_back : (z : ℤ) → Has s f (twos_complement f.size z) → FitsBytes f.size z → signed_at s f ≡ z
  signed_back z h l = ap (signed_of f.size) (stands _ h) ∙ read_signed (take f.at s) f.size z (drop (f.at + f.size) s) l

-- ---- the bytes of a field

module _ (s : List ℕ) (g : Field) where
  pub field_bytes_lem : {n : ℕ} → Bytes s → g.at + g.size ≤ length s → n ≡ field_at s g → in_field g n ≡ take g.size (drop g.at s)
  field_bytes_lem b h e = ap (in_field g) e ∙ bytes_number s g.at g.size b h

  pub signed_field : {z : ℤ} → Bytes s → g.at + g.size ≤ length s → z ≡ signed_at s g → signed_in g z ≡ take g.size (drop g.at s)
  signed_field b h e = ap (signed_in g) e ∙ signed_bytes s g.at g.size b h

  -- behind those before it
  pub field_on : {l x : List ℕ} → l ≡ take g.at s → x ≡ take g.size (drop g.at s) → l ++ x ≡ take (g.at + g.size) s
  field_on p q = ap₂ ◌++◌ p q ∙ sym (take-add g.at g.size s)
