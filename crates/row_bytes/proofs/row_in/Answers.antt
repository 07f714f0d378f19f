-- Each number is that of its field's four bytes.
use Rattle.std.proofs.Common.{◌≡◌, ℕ, ℤ, pos, List, w32, w64, SFits, to_z, of_z, ap, ◌∙◌, arith, rules}
use Rattle.std.proofs.Math.Facts.{to_z-of_z}
use Rattle.std.specs.Int.{int_max}
use lib.IntN.{negsuc, nat_abs}
use Rattle.bigendian.specs.Numbers.{signed_of}
use Rattle.bigendian.specs.Fields.{field_at, signed_at}
use Rattle.row_bytes.specs.Form.{day_field, xc_field, xs_field, uncertainty_field, at_least0, row_in}
use Rattle.row_bytes.proofs.row_in.Goals as goal

-- two's complement by the library and by the definition
word_is : (n : ℕ) → to_z w32 n ≡ signed_of 4 n
word_is n = search rules

-- a signed word, as it is read and handed on
signed : (z y : ℤ) {n : ℕ} (k : ℕ) → SFits w32 z → SFits w64 y → z ≡ to_z w32 n → y ≡ to_z w32 (of_z w32 z) → n ≡ k → to_z w64 (of_z w64 y) ≡ signed_of 4 k
signed z y {n} k h f e q p = to_z-of_z f ∙ (q ∙ (to_z-of_z h ∙ (e ∙ (word_is n ∙ ap (signed_of 4) p))))

-- one below 0 gives 0
cut : (z m : ℤ) {n : ℕ} (k : ℕ) → SFits w32 z → SFits w32 m → z ≡ to_z w32 n → m ≡ int_max (to_z w32 (of_z w32 z)) (pos 0) → n ≡ k
    → nat_abs (to_z w32 (of_z w32 m)) ≡ at_least0 (signed_of 4 k)
cut z m {n} k h f e q p =
    ap nat_abs (to_z-of_z f ∙ q) ∙ (most (to_z w32 (of_z w32 z)) ∙ ap at_least0 (to_z-of_z h ∙ (e ∙ (word_is n ∙ ap (signed_of 4) p))))
  where
    most : (z : ℤ) → nat_abs (int_max z (pos 0)) ≡ at_least0 z
    most (pos n) = search rules
    most (negsuc n) = search rules

pub returns : goal.returns
unfolding row_in
returns c =
    let s : List ℕ = c.args.s.now in
    let day : c.from.result ≡ field_at s day_field = omega (arith, c.from_be_bytes.ensures, c.from.ensures) in
    let xc : to_z w64 (of_z w64 c.from-2.result) ≡ signed_at s xc_field =
    signed c.from_be_bytes-2.result c.from-2.result (field_at s xc_field) (search rules) (search rules) c.from_be_bytes-2.ensures c.from-2.ensures (omega arith) in
    let xs : to_z w64 (of_z w64 c.from-3.result) ≡ signed_at s xs_field =
    signed c.from_be_bytes-3.result c.from-3.result (field_at s xs_field) (search rules) (search rules) c.from_be_bytes-3.ensures c.from-3.ensures (omega arith) in
    let uncertainty : nat_abs (to_z w32 (of_z w32 c.max.result)) ≡ at_least0 (signed_at s uncertainty_field) =
    cut c.from_be_bytes-4.result c.max.result (field_at s uncertainty_field) (search rules) (search rules) c.from_be_bytes-4.ensures c.max.ensures.value (omega arith) in
    search rules
