-- Laws of the refusals in their order, by induction on the list: a case applies, and then its refusal is the answer on both sides, or it does not, and
-- the rest of the list decides. Assumes nothing.
use Prim.Native.Nat.{ℕ, ◌<◌}
use mathlib.Core.Path.{◌≡◌, refl, ap, sym, ◌∙◌}
use mathlib.Core.Bool.{Bool, true, false, cond}
use mathlib.Core.List.{List, [], ◌∷◌, ◌++◌}
use native.Mathlib.Omega.{arith}
use Rattle.std.specs.Prelude.{Result, Ok, Err, ⊤}
use Rattle.instants.specs.declared.refusal.Refusal.{Refusal}
use Rattle.instants.specs.declared.refusal.Refusal.TheVariants.{Year, Month, DayOfMonth, Hour, Minute, Second, Microsecond, Day, Micros, WordsDisagree, Multiplier, BufferShort, RecordLength, RecordVersion, RecordZero, RecordSum, RunCount, RunStep, UtcEarly, UtcExpired, RowsLength, RowsVersion, RowsDay, RowsSize, RescueLength, DayOfYear, FileLength, FileOrder}
use Rattle.instants.specs.Refusals.{Case, refused_or, first_refusal, check, number, refusal_of}
use Rattle.instants.proofs.Impossible.{impossible}

-- no case applies
abbrev pub NoneApplies : List Case → Type 0
NoneApplies [] = Unit {0}
NoneApplies (c ∷ cs) = (c.applies ≡ false) × NoneApplies cs

-- of two lists one behind the other, no case of either applies
pub none_both : (cs ds : List Case) → NoneApplies (cs ++ ds) → NoneApplies cs × NoneApplies ds
none_both [] ds h = (tt, h)
none_both (c ∷ cs) ds h = let r = none_both cs ds h.1 in ((h.0, r.0), r.1)

-- and the other way round
pub none_append : (cs ds : List Case) → NoneApplies cs → NoneApplies ds → NoneApplies (cs ++ ds)
none_append [] ds h k = k
none_append (c ∷ cs) ds h k = (h.0, none_append cs ds h.1 k)

-- The case analysis behind the laws below that speak of answers: what holds of two answers at every refusal, and where no case applies.
pub in_both_lem : {A B : Type 0} (P : A → B → Type 0) (refuse : Refusal → A) (refuse' : Refusal → B) (cs : List Case) (a : A) (b : B)
    → ((n : Refusal) → P (refuse n) (refuse' n)) → (NoneApplies cs → P a b) → P (refused_or refuse cs a) (refused_or refuse' cs b)
in_both_lem P refuse refuse' [] a b h k = k tt
in_both_lem P refuse refuse' (c ∷ cs) a b h k = by c.applies refl (in_both_lem P refuse refuse' cs a b h)
  where
    by : (x : Bool) → c.applies ≡ x → ((NoneApplies cs → P a b) → P (refused_or refuse cs a) (refused_or refuse' cs b))
        → P (cond x (refuse c.refusal) (refused_or refuse cs a)) (cond x (refuse' c.refusal) (refused_or refuse' cs b))
    by true p f = h c.refusal
    by false p f = f (λ n. k (p, n))

-- one refusal by the same cases tells another
refused_alike_lem : {A B : Type 0} (refuse : Refusal → A) (refuse' : Refusal → B) (cs : List Case) (a : A) (b : B) (n : Refusal) → ((k : Refusal) → refuse k ≡ refuse n → k ≡ n) → (a ≡ refuse n → ⊥)
    → refused_or refuse cs a ≡ refuse n → refused_or refuse' cs b ≡ refuse' n
refused_alike_lem {A} {B} refuse refuse' cs a b n i h =
    in_both_lem (λ (x : A) (y : B). x ≡ refuse n → y ≡ refuse' n) refuse refuse' cs a b (λ k e. ap refuse' (i k e)) (λ _ e. absurd (h e))

-- a test gives the number of the first that applies
pub first_checked : (cs : List Case) → refusal_of (check cs) ≡ first_refusal cs
first_checked cs = in_both_lem (λ (x : Result ⊤ Refusal) (k : ℕ). refusal_of x ≡ k) Err number cs (Ok tt) 0 (λ r. refl) (λ h. refl)

-- a number is one of the 28
number_counts : (r : Refusal) → (0 < number r) × (number r < 29)
unfolding number
number_counts Year = (omega arith, omega arith)
number_counts Month = (omega arith, omega arith)
number_counts DayOfMonth = (omega arith, omega arith)
number_counts Hour = (omega arith, omega arith)
number_counts Minute = (omega arith, omega arith)
number_counts Second = (omega arith, omega arith)
number_counts Microsecond = (omega arith, omega arith)
number_counts Day = (omega arith, omega arith)
number_counts Micros = (omega arith, omega arith)
number_counts WordsDisagree = (omega arith, omega arith)
number_counts Multiplier = (omega arith, omega arith)
number_counts BufferShort = (omega arith, omega arith)
number_counts RecordLength = (omega arith, omega arith)
number_counts RecordVersion = (omega arith, omega arith)
number_counts RecordZero = (omega arith, omega arith)
number_counts RecordSum = (omega arith, omega arith)
number_counts RunCount = (omega arith, omega arith)
number_counts RunStep = (omega arith, omega arith)
number_counts UtcEarly = (omega arith, omega arith)
number_counts UtcExpired = (omega arith, omega arith)
number_counts RowsLength = (omega arith, omega arith)
number_counts RowsVersion = (omega arith, omega arith)
number_counts RowsDay = (omega arith, omega arith)
number_counts RowsSize = (omega arith, omega arith)
number_counts RescueLength = (omega arith, omega arith)
number_counts DayOfYear = (omega arith, omega arith)
number_counts FileLength = (omega arith, omega arith)
number_counts FileOrder = (omega arith, omega arith)

-- no number is 0
pub number_positive : (r : Refusal) → 0 < number r
number_positive r = omega (arith, number_counts r)

-- a first refusal of 0 says that no case applies
pub first_none : (cs : List Case) → first_refusal cs ≡ 0 → NoneApplies cs
first_none [] e = tt
first_none (c ∷ cs) e = by c.applies refl e (first_none cs)
  where
    by : (b : Bool) → c.applies ≡ b → cond b (number c.refusal) (first_refusal cs) ≡ 0
        → (first_refusal cs ≡ 0 → NoneApplies cs) → (c.applies ≡ false) × NoneApplies cs
    by true p e f = let v : ⊥ = omega (arith, number_positive c.refusal) in absurd v
    by false p e f = (p, f e)

-- what is answered where the first case that applies has the refusal `it`
pub record Refused {A : Type 0} (refuse : Refusal → A) (cs : List Case) (answer : A) : Type 0 where
  pub it : Refusal
  pub checked : check cs ≡ Err it
  pub refused : answer ≡ refuse it
  pub number_is : first_refusal cs ≡ number it

-- where a test passes no case applies
pub passed_none : (cs : List Case) (u : ⊤) → check cs ≡ Ok u → NoneApplies cs
passed_none cs u e = first_none cs (sym (first_checked cs) ∙ ap refusal_of e)

module _ {A : Type 0} (refuse : Refusal → A) where
  -- the same of one answer
  pub in_each : (P : A → Type 0) (cs : List Case) (a : A) → ((n : Refusal) → P (refuse n)) → (NoneApplies cs → P a) → P (refused_or refuse cs a)
  in_each P cs a h k = in_both_lem (λ (x y : A). P x) refuse refuse cs a a h k

  -- a function that hands each refusal on leaves the cases as they are
  pub handed_on : {B : Type 0} {refuse' : Refusal → B} (g : A → B) → ((n : Refusal) → g (refuse n) ≡ refuse' n) → (cs : List Case) (a : A)
      → g (refused_or refuse cs a) ≡ refused_or refuse' cs (g a)
  handed_on {B} {refuse'} g h cs a = in_both_lem (λ (x : A) (y : B). g x ≡ y) refuse refuse' cs a (g a) h (λ _. refl)

  -- one refusal by the same cases tells another
  pub refused_alike : {B : Type 0} (refuse' : Refusal → B) (cs : List Case) (a : A) (b : B) (n : Refusal) → ((k : Refusal) → refuse k ≡ refuse n → k ≡ n) → (a ≡ refuse n → ⊥)
      → refused_or refuse cs a ≡ refuse n → refused_or refuse' cs b ≡ refuse' n
  refused_alike refuse' cs a b n i h = refused_alike_lem refuse refuse' cs a b n i h

  -- what is no refusal is the answer, and no case applies
  pub answered_none : (cs : List Case) (a b : A) → ((n : Refusal) → refuse n ≡ b → ⊥) → refused_or refuse cs a ≡ b → NoneApplies cs × (a ≡ b)
  answered_none cs a b h = in_each (λ (x : A). x ≡ b → NoneApplies cs × (a ≡ b)) cs a (λ n e. absurd (h n e)) (λ k e. (k, e))

  -- where no case applies there is the answer
  pub none_answered : (cs : List Case) (a : A) → NoneApplies cs → refused_or refuse cs a ≡ a
  none_answered [] a h = refl
  none_answered (c ∷ cs) a h = rw h.0 (none_answered cs a h.1)

  -- one list behind the other
  pub refused_append : (cs ds : List Case) (a : A) → refused_or refuse (cs ++ ds) a ≡ refused_or refuse cs (refused_or refuse ds a)
  refused_append [] ds a = refl
  refused_append (c ∷ cs) ds a = ap (λ (x : A). cond c.applies (refuse c.refusal) x) (refused_append cs ds a)

  -- the first that applies refuses every service with these cases
  pub refused_checked : (cs : List Case) (a : A) (r : Refusal) → check cs ≡ Err r → refused_or refuse cs a ≡ refuse r
  refused_checked cs a r e = refused_alike_lem {A = Result ⊤ Refusal} Err refuse cs (Ok tt) a r same (λ p. impossible (cc)) e
    where
      same : (k : Refusal) → ◌≡◌ {A = Result ⊤ Refusal} (Err k) (Err r) → k ≡ r
      same k p = cc

  -- where a case applies there is a first
  pub refused_first : (cs : List Case) (a : A) → (first_refusal cs ≡ 0 → ⊥) → Refused refuse cs (refused_or refuse cs a)
  refused_first cs a h = by (check cs) refl
    where
      by : (c : Result ⊤ Refusal) → check cs ≡ c → Refused refuse cs (refused_or refuse cs a)
      by (Err r) e = record { it = r; checked = e; refused = refused_checked cs a r e; number_is = sym (first_checked cs) ∙ ap refusal_of e }
      by (Ok u) e = absurd (h (sym (first_checked cs) ∙ ap refusal_of e))

-- what answers every refusal alike
pub refused_same : {A : Type 0} (x : A) (cs : List Case) (a : A) → (first_refusal cs ≡ 0 → ⊥) → refused_or (λ _. x) cs a ≡ x
refused_same x cs a h = (refused_first (λ _. x) cs a h).refused

-- lists that agree where no case before them applies agree behind those cases
pub first_behind : (cs ds es : List Case) → (NoneApplies cs → first_refusal ds ≡ first_refusal es) → first_refusal (cs ++ ds) ≡ first_refusal (cs ++ es)
first_behind [] ds es h = h tt
first_behind (c ∷ cs) ds es h = by c.applies refl (first_behind cs ds es)
  where
    by : (b : Bool) → c.applies ≡ b → ((NoneApplies cs → first_refusal ds ≡ first_refusal es) → first_refusal (cs ++ ds) ≡ first_refusal (cs ++ es))
        → cond b (number c.refusal) (first_refusal (cs ++ ds)) ≡ cond b (number c.refusal) (first_refusal (cs ++ es))
    by true p f = refl
    by false p f = f (λ n. h (p, n))

-- every number is below 29
pub number_below : (r : Refusal) → number r < 29
number_below r = omega (arith, number_counts r)

-- and so is the first refusal
pub first_below : (cs : List Case) → first_refusal cs < 29
first_below cs = in_both_lem (λ (x : ⊤) (k : ℕ). k < 29) (λ r. tt) number cs tt 0 number_below (λ h. omega arith)
