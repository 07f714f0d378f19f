-- The thirty bytes, put field by field: the places and sizes of the fields are numbers, so the list that is put together computes to the one
-- that Format writes. Assumes nothing.
use Rattle.std.proofs.Common.{◌≡◌, ℕ, ◌+◌, ◌%◌, ◌<◌, List, [], ◌∷◌, ◌++◌, replicate, ℤ, sym, refl, ap, ◌∙◌, arith}
use Rattle.bigendian.specs.Numbers.{word_sum, twos_complement}
use Rattle.bigendian.proofs.Numbers.{sum_take}
use Rattle.clock.specs.declared.ClockWords.{ClockWords}
use Rattle.bigendian.specs.Fields.{in_field}
use Rattle.bigendian.specs.Inner.{with_field}
use Rattle.record.specs.Format.{record_length, version, length_field, version_field, day_field, time_field, ut1_field, lod_field, rate_field, check_field, field_bytes, negated, record_bytes}

pub all_fields : (w : ClockWords) (ut1 lod rate : ℤ) (l₁ l₂ l₃ l₄ l₅ l₆ l₇ : List ℕ) (d a b c : ℕ)
    → l₁ ≡ with_field (replicate record_length 0) length_field record_length
    → l₂ ≡ with_field l₁ version_field version
    → l₃ ≡ with_field l₂ day_field d
    → l₄ ≡ with_field l₃ time_field w.time
    → l₅ ≡ with_field l₄ ut1_field a
    → l₆ ≡ with_field l₅ lod_field b
    → l₇ ≡ with_field l₆ rate_field c
    → d ≡ twos_complement 4 w.day
    → a ≡ twos_complement 4 ut1
    → b ≡ twos_complement 4 lod
    → c ≡ twos_complement 4 rate
    → l₇ ≡ field_bytes w ut1 lod rate ++ 0 ∷ 0 ∷ []
all_fields w ut1 lod rate l₁ l₂ l₃ l₄ l₅ l₆ l₇ d a b c p₁ p₂ p₃ p₄ p₅ p₆ p₇ q₁ q₂ q₃ q₄ = rw (p₇, p₆, p₅, p₄, p₃, p₂, p₁, q₁, q₂, q₃, q₄) refl

-- the two zeros take no part in the sum, and the word that makes it 0 is put in their place
pub checked : (w : ClockWords) (ut1 lod rate : ℤ) (l m : List ℕ) (sum n : ℕ) → l ≡ field_bytes w ut1 lod rate ++ 0 ∷ 0 ∷ [] → sum ≡ word_sum l 14 % 0x1_0000 → (n + sum) % 0x1_0000 ≡ 0 → n < 0x1_0000
    → m ≡ with_field l check_field n → m ≡ record_bytes w ut1 lod rate
unfolding record_bytes
checked w ut1 lod rate l m sum n p q e h r =
    let f : List ℕ = field_bytes w ut1 lod rate in
    let s : sum ≡ word_sum f 14 % 0x1_0000 = q ∙ (ap (λ (k : List ℕ). word_sum k 14 % 0x1_0000) p ∙ same) in
    let g : n ≡ negated (word_sum f 14) = negation (word_sum f 14) sum n s e h in
    r ∙ (ap (λ (k : List ℕ). with_field k check_field n) p ∙ ap (λ (x : ℕ). f ++ in_field check_field x) g)
  where
    same : word_sum (field_bytes w ut1 lod rate ++ 0 ∷ 0 ∷ []) 14 % 0x1_0000 ≡ word_sum (field_bytes w ut1 lod rate) 14 % 0x1_0000
    same = ap (λ (x : ℕ). x % 0x1_0000) (sym (sum_take (field_bytes w ut1 lod rate ++ 0 ∷ 0 ∷ []) check_field.at 14 (omega arith)))

    negation : (x sum n : ℕ) → sum ≡ x % 0x1_0000 → (n + sum) % 0x1_0000 ≡ 0 → n < 0x1_0000 → n ≡ negated x
    negation x sum n p e h = omega arith
