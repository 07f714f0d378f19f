-- A record with one byte changed does not read: were both to read, both sums of words would wrap to 0; the lists differ in the byte's word only, so that
-- word is the same, and with it the byte. Assumes nothing.
use Rattle.std.proofs.Common.{◌≡◌, ℕ, ◌+◌, ◌*◌, ◌/◌, ◌%◌, ◌<◌, List, length, get_or, set, sym, ◌∙◌, ap₂, arith, get_or-set_other, get_or-set_same}
use native.Mathlib.Decide.{ℕ_discrete}
use Rattle.bigendian.specs.Numbers.{Bytes, number_at}
use Rattle.bigendian.proofs.Sums.{one_word}
use Rattle.record.specs.declared.Record.{Record}
use Rattle.record.specs.Format.{record_length}
use Rattle.record.specs.Records.{read_of}
use Rattle.record.proofs.Forms.{WasRead, was_read}
use Rattle.std.specs.Prelude.{Ok}

module _ (s : List ℕ) (i b : ℕ) (h : i < length s) where
  abbrev t : List ℕ
  t = set s i b

  -- the other words are as they were
  other : (m : ℕ) → (m ≡ i / 2 → ⊥) → number_at s (2 * m) 2 ≡ number_at t (2 * m) 2
  other m n =
      ap₂ (λ (x y : ℕ). (0 * 256 + x) * 256 + y)
      (sym (get_or-set_other s i (2 * m + 0) b 0 (omega (arith, n))))
      (sym (get_or-set_other s i (2 * m + 1) b 0 (omega (arith, n))))

  changed_bytes : Bytes s → b < 256 → Bytes t
  changed_bytes p l = record { byte = λ j. by j (ℕ_discrete j i) }
    where
      by : (j : ℕ) → Dec (j ≡ i) → get_or t j 0 < 256
      by j (yes e) = rw (e, get_or-set_same s i b 0 h) l
      by j (no e) = rw (get_or-set_other s i j b 0 e) (p.byte j)

  -- where the word is as it was, the byte is
  same_byte : Bytes s → b < 256 → number_at s (2 * (i / 2)) 2 ≡ number_at t (2 * (i / 2)) 2 → get_or s i 0 ≡ b
  same_byte p l e = by (ℕ_discrete (i % 2) 0)
    where
      two : (x y u v : ℕ) → y < 256 → v < 256 → (0 * 256 + x) * 256 + y ≡ (0 * 256 + u) * 256 + v → (x ≡ u) × (y ≡ v)
      two x y u v k m e = (omega arith, omega arith)

      both : (get_or s (2 * (i / 2) + 0) 0 ≡ get_or t (2 * (i / 2) + 0) 0) × (get_or s (2 * (i / 2) + 1) 0 ≡ get_or t (2 * (i / 2) + 1) 0)
      both = two _ _ _ _ (p.byte (2 * (i / 2) + 1)) ((changed_bytes p l).byte (2 * (i / 2) + 1)) e

      at : (k : ℕ) → k ≡ i → get_or s k 0 ≡ get_or t k 0 → get_or s i 0 ≡ b
      at k q r = (rw q at r) ∙ get_or-set_same s i b 0 h

      by : Dec (i % 2 ≡ 0) → get_or s i 0 ≡ b
      by (yes q) = at (2 * (i / 2) + 0) (omega arith) both.0
      by (no q) = at (2 * (i / 2) + 1) (omega (arith, q)) both.1

-- PROMISE. In a record that reads, one byte changed, as by a flipped bit, is refused.
pub changed_byte : (s : List ℕ) (r : Record) (i b : ℕ) → Bytes s → read_of s ≡ Ok r → i < record_length → b < 256 → (get_or s i 0 ≡ b → ⊥) → (q : Record) → read_of (set s i b) ≡ Ok q → ⊥
changed_byte s r i b p e h l n q f =
    let v : WasRead s r = was_read s r e in
    let w : WasRead (set s i b) q = was_read (set s i b) q f in
    let k : i < length s = omega (arith, v.form.long) in
    n (same_byte s i b k p l (one_word s (set s i b) (i / 2) (other s i b k) 15 (omega arith) p (changed_bytes s i b k p l) (v.form.zero_sum ∙ sym w.form.zero_sum)))
