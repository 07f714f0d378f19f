-- Moments are in the order of instants: of two accepted instants the moment of one is the lesser exactly when its day number is, or its microseconds are on
-- the same day; and equal moments are of one instant. Accepted day numbers are not below 0, so that they compare as natural numbers. Assumes nothing.
use Prim.Native.Nat.{ℕ, ◌+◌, ◌-◌, ◌≤◌, ◌<◌}
use mathlib.Core.Path.{◌≡◌, refl, ap, ap₂, sym, ◌∙◌}
use mathlib.Core.Bool.{◌&&◌, ◌||◌}
use native.Mathlib.Omega.{arith}
use native.Mathlib.Decide.{dec_le}
use lib.Dec.{ltb, leb}
use lib.IntN.{ℤ, pos, ◌-ℤ◌}
use lib.Signed.{lt_z, le_z}
use borrow.Author.Tests.{lt-ltb, le-ltb, le-leb, lt-leb}
use Rattle.instants.specs.Limits.{day_micros, index_offset}
use Rattle.instants.specs.Instants.{day_index, IsAccepted}
use Rattle.instants.specs.Moments.{moment, moment_of}
use Rattle.instants.proofs.Signs.{day_natural}
use Rattle.instants.proofs.Accepted.{AcceptedAt, accepted_at}

-- the same of days and microseconds that are natural numbers
in_order : (d e m n : ℕ) → m < day_micros → n < day_micros → ltb (moment (d + index_offset) m) (moment (e + index_offset) n) ≡ ltb d e || (leb d e && ltb m n)
in_order d e m n h k = by (dec_le e d) (dec_le d e) (dec_le n m)
  where
    x : ℕ
    x = moment (d + index_offset) m

    y : ℕ
    y = moment (e + index_offset) n

    by : Dec (e ≤ d) → Dec (d ≤ e) → Dec (n ≤ m) → ltb x y ≡ ltb d e || (leb d e && ltb m n)
    by (no p) q r = rw (lt-ltb d e (omega (arith, p)), lt-ltb x y (omega (arith, p))) refl
    by (yes p) (no q) r = rw (le-ltb d e p, lt-leb d e (omega (arith, q)), le-ltb x y (omega (arith, q))) refl
    by (yes p) (yes q) (yes r) = rw (le-ltb d e p, le-leb d e q, le-ltb m n r, le-ltb x y (omega (arith, p, r))) refl
    by (yes p) (yes q) (no r) = rw (le-ltb d e p, le-leb d e q, lt-ltb m n (omega (arith, r)), lt-ltb x y (omega (arith, q, r))) refl

-- the day number of an accepted instant, as a natural number
record Natural (d : ℤ) : Type 0 where
  it : ℕ
  is : d ≡ pos it
  index : day_index d ≡ it + index_offset

natural : (d : ℤ) (m : ℕ) → AcceptedAt d m (day_index d) → Natural d
natural d m k = record { it = day_index d - index_offset; is = k.is ∙ day_natural (day_index d) (omega (arith, k.low)); index = omega (arith, k.low) }

module _ (d : ℤ) (m : ℕ) (e : ℤ) (n : ℕ) (a : IsAccepted d m) (b : IsAccepted e n) where
  at : AcceptedAt d m (day_index d)
  at = accepted_at d m (day_index d) a

  bt : AcceptedAt e n (day_index e)
  bt = accepted_at e n (day_index e) b

  -- by day, and on one day by microsecond
  pub moment_order : ltb (moment_of d m) (moment_of e n) ≡ (lt_z d e || (le_z d e && ltb m n))
  moment_order =
      let p = natural d m at in
      let q = natural e n bt in
      ap₂ (λ (i j : ℕ). ltb (moment i m) (moment j n)) p.index q.index
      ∙ (in_order p.it q.it m n at.less bt.less ∙ sym (ap₂ (λ (d e : ℤ). lt_z d e || (le_z d e && ltb m n)) p.is q.is))

  -- one moment is one instant's
  pub moment_one : moment_of d m ≡ moment_of e n → (d ≡ e) × (m ≡ n)
  moment_one q =
      let k : day_index d ≡ day_index e = omega (arith, at.less, bt.less, q) in
      (at.is ∙ (ap (λ (x : ℕ). pos x -ℤ pos index_offset) k ∙ sym bt.is), omega (arith, q, k))
