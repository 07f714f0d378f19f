-- Two's complement over the number k of bytes. A number fits k bytes when its magnitude (n of pos n and of negsuc n) is below half of 256^k.
-- Assumes nothing.
use Rattle.std.proofs.Common.{◌≡◌, ℕ, suc, ◌+◌, ◌-◌, ◌/◌, ◌^◌, ◌<◌, ◌≤◌, Bool, true, false, cond, ltb, List, ◌++◌, length, take, drop, ℤ, pos, negsuc, refl, ap, ◌∙◌, mod-eq_of_lt, arith, le-ltb, lt-ltb}
use lib.Signed.{mag}
use Rattle.bigendian.specs.Numbers.{Bytes, bytes_of, number_at, twos_complement, signed_of}
use Rattle.bigendian.proofs.Numbers.{number_below, bytes_number, number_bytes}

-- a signed number that k bytes hold
abbrev pub FitsBytes : ℕ → ℤ → Type 0
FitsBytes k z = mag z < 256 ^ k / 2

pub twos_below : (k : ℕ) (z : ℤ) → FitsBytes k z → twos_complement k z < 256 ^ k
twos_below k (pos n) h = omega arith
twos_below k (negsuc n) h = omega arith

twos_signed : (k n : ℕ) → n < 256 ^ k → twos_complement k (signed_of k n) ≡ n
twos_signed k n h = by (ltb n (256 ^ k / 2)) refl
  where
    by : (t : Bool) → ltb n (256 ^ k / 2) ≡ t → twos_complement k (cond t (pos n) (negsuc (256 ^ k - 1 - n))) ≡ n
    by true e = refl
    by false e = omega arith

signed_twos : (k : ℕ) (z : ℤ) → FitsBytes k z → signed_of k (twos_complement k z) ≡ z
signed_twos k (pos n) h = simp (lt-ltb n (256 ^ k / 2) h)
signed_twos k (negsuc n) h =
    let e : 256 ^ k - 1 - (256 ^ k - suc n) ≡ n = omega arith in
    simp (le-ltb (256 ^ k - suc n) (256 ^ k / 2) (omega arith)) (ap negsuc e)

-- the bytes of a number that fits them read back as it
pub read_signed : (p : List ℕ) (k : ℕ) (z : ℤ) (t : List ℕ) → FitsBytes k z → signed_of k (number_at (p ++ (bytes_of k (twos_complement k z) ++ t)) (length p) k) ≡ z
read_signed p k z t h = ap (signed_of k) (number_bytes p k (twos_complement k z) t ∙ mod-eq_of_lt (twos_below k z h)) ∙ signed_twos k z h

-- the bytes of the signed number at a place are those at the place
pub signed_bytes : (s : List ℕ) (i k : ℕ) → Bytes s → i + k ≤ length s → bytes_of k (twos_complement k (signed_of k (number_at s i k))) ≡ take k (drop i s)
signed_bytes s i k b h = ap (bytes_of k) (twos_signed k (number_at s i k) (number_below s i k b)) ∙ bytes_number s i k b h
