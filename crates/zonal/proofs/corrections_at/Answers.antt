-- Each sum fits 64 bits and each number 32, so they are read back from their bits as they were.
use Rattle.std.proofs.Common.{◌≡◌, ℕ, ◌≤◌, ℤ, pos, ◌*ℤ◌, nat_abs, w32, to_z, of_z, ◌∙◌, ap}
use Rattle.std.proofs.Math.Nat.{le_trans, le_of_eq}
use Rattle.std.proofs.Math.Dec.{lit≤}
use Rattle.std.proofs.Math.Facts.{to_z-of_z}
use Rattle.zonal.specs.declared.Sums.{Sums}
use Rattle.zonal.specs.Exact.{ut1_sum, lod_sum, rate_sum}
use Rattle.zonal.specs.Ours.{row_sine, row_cosine, rounded, corrections}
use Rattle.zonal.specs.Inner.{sum_most, product_most, sums_at, corrections_then}
use Rattle.zonal.proofs.Sizes.{Small, ut1_small, lod_small, rate_small, rounded_fits}
use Rattle.algebra.proofs.Bits.{read_back, read_as}
use Rattle.zonal.proofs.corrections_at.Goals as goal

-- one number: y is a sum that is returned, and z the sum that it is
module _ (f : ℕ) {y z : ℤ} (e : y ≡ z) (h : Small f z) where
  read : read_back y ≡ z
  read = read_as sum_most e h.sum (lit≤ tt)

  ready : nat_abs (pos f *ℤ read_back y) ≤ product_most
  ready = le_trans (le_of_eq (ap (λ (v : ℤ). nat_abs (pos f *ℤ v)) read)) h.product

  number : {n : ℤ} → n ≡ rounded (pos f) (read_back y) → to_z w32 (of_z w32 n) ≡ rounded (pos f) z
  number i = ap (λ (m : ℤ). to_z w32 (of_z w32 m)) (i ∙ ap (rounded (pos f)) read) ∙ to_z-of_z {w = w32} (rounded_fits (pos f) z h.product)

-- the sums v at the moment x
module _ {v : Sums} (x : ℕ) (e : v ≡ sums_at x) where
  ut1 : v.ut1 ≡ ut1_sum (row_sine x) (row_cosine x)
  unfolding sums_at
  ut1 = ap (λ (s : Sums). s.ut1) e

  lod : v.lod ≡ lod_sum (row_sine x) (row_cosine x)
  unfolding sums_at
  lod = ap (λ (s : Sums). s.lod) e

  rate : v.rate ≡ rate_sum (row_sine x) (row_cosine x)
  unfolding sums_at
  rate = ap (λ (s : Sums). s.rate) e

pub rounded-requires : goal.rounded-requires
rounded-requires c = ready 10 (ut1 _ c.sums_at-v.ensures) (ut1_small c.args.at)

pub rounded-requires-2 : goal.rounded-requires-2
rounded-requires-2 c = ready 1000 (lod _ c.sums_at-v.ensures) (lod_small c.args.at)

pub rounded-requires-3 : goal.rounded-requires-3
rounded-requires-3 c = ready 100 (rate _ c.sums_at-v.ensures) (rate_small c.args.at)

same : {a b c a' b' c' : ℤ} → a ≡ a' → b ≡ b' → c ≡ c' → corrections a b c ≡ corrections a' b' c'
same p q r = cc

pub returns : goal.returns
unfolding corrections_then
returns c =
    let x = c.args.at in
    same (number 10 (ut1 _ c.sums_at-v.ensures) (ut1_small x) c.rounded.ensures)
    (number 1000 (lod _ c.sums_at-v.ensures) (lod_small x) c.rounded-2.ensures)
    (number 100 (rate _ c.sums_at-v.ensures) (rate_small x) c.rounded-3.ensures)
