-- What acceptance and a day's index tell: a day number is in range exactly where it has an index, an instant is accepted exactly where neither case
-- applies, and a service that asks for acceptance first is refused by the same cases. Assumes nothing.
use Prim.Native.Nat.{ℕ, ◌≤◌, ◌<◌}
use mathlib.Core.Path.{◌≡◌, refl, ap, sym, ◌∙◌}
use mathlib.Core.Bool.{Bool, true, false, cond, ◌||◌}
use native.Mathlib.Omega.{arith}
use lib.Dec.{leb, ltb}
use lib.IntN.{ℤ, pos, ◌-ℤ◌, nat_abs}
use lib.Signed.{lt_z}
use borrow.Author.Tests.{leb-false, lt-leb, ltb-false}
use Rattle.instants.proofs.Impossible.{impossible}
use Rattle.instants.proofs.FirstRefusal.{NoneApplies, handed_on, none_answered, answered_none, refused_alike, first_none}
use Rattle.instants.specs.declared.refusal.Refusal.{Refusal}
use Rattle.instants.specs.Limits.{first_day, last_day, day_micros, index_offset}
use Rattle.instants.specs.Refusals.{refused_or, first_refusal, refusal_of}
use Rattle.instants.specs.Instants.{outside, day_index, instant_cases, acceptance}
use Rattle.instants.specs.Inner.{index_answer}
use Rattle.instants.proofs.Signs.{first_index, last_index, DayInRange, day_in_range}
use Rattle.std.specs.Prelude.{Ok, Err, Some, None}

-- a day number without an index is outside
pub index_outside : (z : ℤ) → index_answer z ≡ None → outside z ≡ true
unfolding index_answer
index_outside z e = by (outside z) e
  where
    by : (b : Bool) → cond b None (Some (day_index z)) ≡ None → b ≡ true
    by true e = refl
    by false e = impossible (cc)

-- a day number that has the index n
pub record HasIndex (z : ℤ) (n : ℕ) : Type 0 where
  pub inside : outside z ≡ false
  pub index : day_index z ≡ n
  pub low : first_index ≤ n
  pub high : n ≤ last_index
  pub is : z ≡ pos n -ℤ pos index_offset

-- where either test would have been enough, neither held
pub both_false : (a b : Bool) → a || b ≡ false → (a ≡ false) × (b ≡ false)
both_false false b e = (refl, e)
both_false true b e = (e, impossible (cc))

-- neither end of a range is passed
pub between : (x low high : ℕ) → ltb x low || ltb high x ≡ false → (low ≤ x) × (x ≤ high)
between x low high e = let p = both_false (ltb x low) (ltb high x) e in (ltb-false x low p.0, ltb-false high x p.1)

-- a day number that is not outside, by its index
pub range : (z : ℤ) → outside z ≡ false → DayInRange z
unfolding outside
range z p =
    let q : (lt_z z first_day ≡ false) × (lt_z last_day z ≡ false) = both_false (lt_z z first_day) (lt_z last_day z) p in
    day_in_range z q.0 q.1

pub index_of : (z : ℤ) → (b : DayInRange z) → day_index z ≡ b.it
unfolding day_index
index_of z b = ap nat_abs b.up

-- a day number that is not outside has its index
pub inside_index : (z : ℤ) → outside z ≡ false → HasIndex z (day_index z)
inside_index z p =
    let b : DayInRange z = range z p in
    let j : b.it ≡ day_index z = sym (index_of z b) in
    record { inside = p; index = refl; low = omega (arith, b.low, j); high = omega (arith, b.high, j); is = b.is ∙ ap (λ (k : ℕ). pos k -ℤ pos index_offset) j }

-- one with an index has that index
pub index_at : (z : ℤ) (n : ℕ) → index_answer z ≡ Some n → HasIndex z n
unfolding index_answer
index_at z n e = by (outside z) refl e
  where
    by : (b : Bool) → outside z ≡ b → cond b None (Some (day_index z)) ≡ Some n → HasIndex z n
    by true p e = impossible (cc)
    by false p e = let i : day_index z ≡ n = cc in rw i at (inside_index z p)

-- What holds of an accepted instant whose day has the index i.
pub record AcceptedAt (d : ℤ) (m i : ℕ) : Type 0 where
  pub inside : outside d ≡ false
  pub within : leb day_micros m ≡ false
  pub less : m < day_micros
  pub index : day_index d ≡ i
  pub low : first_index ≤ i
  pub high : i ≤ last_index
  pub is : d ≡ pos i -ℤ pos index_offset

-- an instant of which no case applies has all that
pub none_accepted : (d : ℤ) (m : ℕ) → NoneApplies (instant_cases d m) → AcceptedAt d m (day_index d)
none_accepted d m r =
    let h : HasIndex d (day_index d) = inside_index d r.0 in
    record { inside = r.0; within = r.1.0; less = leb-false _ _ r.1.0; index = refl; low = h.low; high = h.high; is = h.is }

-- and so has one that was accepted
pub accepted_at : (d : ℤ) (m i : ℕ) → acceptance d m ≡ Ok i → AcceptedAt d m i
unfolding acceptance
accepted_at d m i e =
    let r = answered_none Err (instant_cases d m) (Ok (day_index d)) (Ok i) (λ n p. impossible (cc)) e in
    let g : Ok (day_index d) ≡ Ok i = r.1 in
    let f : day_index d ≡ i = cc in
    rw f at (none_accepted d m r.0)

-- an instant of which no case applies is accepted
pub accepted_none : (d : ℤ) (m : ℕ) → NoneApplies (instant_cases d m) → acceptance d m ≡ Ok (day_index d)
unfolding acceptance
accepted_none d m h = none_answered Err (instant_cases d m) _ h

-- a day number in range with microseconds below a day's
pub accepted : (d : ℤ) (m : ℕ) → outside d ≡ false → m < day_micros → acceptance d m ≡ Ok (day_index d)
accepted d m o h = accepted_none d m (o, (lt-leb day_micros m h, tt))

-- ---- a service that asks for acceptance and hands its refusals on

module _ {A : Type 0} (refuse : Refusal → A) (answer : A) (d : ℤ) (m : ℕ) where
  -- where the instant is refused
  pub refused_too : {n : Refusal} → acceptance d m ≡ Err n → refuse n ≡ refused_or refuse (instant_cases d m) answer
  unfolding acceptance
  refused_too {n} e = sym (refused_alike Err refuse (instant_cases d m) _ answer n (λ k p. cc) (λ p. impossible (cc)) e)

  -- and where it is accepted
  pub answered_too : {i : ℕ} → acceptance d m ≡ Ok i → answer ≡ refused_or refuse (instant_cases d m) answer
  unfolding acceptance
  answered_too {i} e = sym (none_answered refuse (instant_cases d m) answer (answered_none Err (instant_cases d m) _ (Ok i) (λ n p. impossible (cc)) e).0)

-- an instant is refused by the first of its cases that applies
pub acceptance_refusal : (d : ℤ) (m : ℕ) → refusal_of (acceptance d m) ≡ first_refusal (instant_cases d m)
unfolding acceptance
acceptance_refusal d m = handed_on Err refusal_of (λ n. refl) (instant_cases d m) _

-- and one with no refusal is accepted
pub unrefused_accepted : (d : ℤ) (m : ℕ) → refusal_of (acceptance d m) ≡ 0 → acceptance d m ≡ Ok (day_index d)
unrefused_accepted d m e = accepted_none d m (first_none (instant_cases d m) (sym (acceptance_refusal d m) ∙ e))
