-- The days before the later rows, as dates: a day has a second 60 exactly when it is one of the dates that a computed test finds to be those days. Assumes
-- nothing.
use Prim.Native.Nat.{ℕ, ◌+◌, ◌≤◌, ◌<◌}
use mathlib.Core.Path.{◌≡◌, refl, sym, ◌∙◌, subst}
use mathlib.Core.Bool.{Bool, true, false}
use mathlib.Core.List.{List, [], ◌∷◌}
use native.Mathlib.Omega.{arith}
use lib.Dec.{T, eqb, eqb→eq}
use borrow.Author.Tests.{eqb-true, eqb-false, eq-eqb, ne_eqb}
use mathlib.Core.Logic.{⊎_elim}
use native.Mathlib.Decide.{dec_le}
use mir.Facts.{and_yes, or_yes}
use Rattle.instants.proofs.FirstRefusal.{none_answered, first_none}
use Rattle.instants.specs.Refusals.{first_refusal, number}
use Rattle.calendar.specs.Dates.{date, date_index, date_cases}
use Rattle.calendar.specs.Claims.{same, one_of}
use Rattle.calendar.specs.declared.Date.{Date}
use Rattle.calendar.proofs.Dates.{Valid}
use Rattle.calendar.proofs.Order.{same_index}
use Rattle.calendar.proofs.Inverse.{none_date, valid, in_range}
use Rattle.utc.specs.Table.{Step, later_steps, tai_minus_utc, is_eve, has_second60}
use Rattle.utc.specs.Claims.{eve_of, eves_of}
use Rattle.utc.specs.Readings.{reading, reading_index, reading_cases, AcceptedReading}
use Rattle.utc.specs.declared.Reading.{Reading}
use Rattle.utc.proofs.Steps.{next_tai, tai_most, tai_first, tai_last}
use Rattle.utc.proofs.Readings.{LastSecond, usual, longer, last_second_lem, Held, none_held, held_none}

record Tied (t : Date) (r : Step) : Type 0 where
  real : Valid t
  index : date_index t + 1 ≡ date_index r.from

tied : (t : Date) (r : Step) → T (eve_of t r) → Tied t r
unfolding eve_of
tied t r h =
    let a : _ × _ = and_yes (eqb (first_refusal (date_cases t.year t.month t.day)) 0) _ h in
    record { real = valid _ _ _ (none_date _ _ _ (first_none (date_cases t.year t.month t.day) (eqb→eq _ _ a.0))); index = eqb→eq _ _ a.1 }

one_more : (a b : ℕ) → eqb (a + 1) (b + 1) ≡ eqb a b
one_more a b = by (eqb a b) refl
  where
    by : (x : Bool) → eqb a b ≡ x → eqb (a + 1) (b + 1) ≡ x
    by true e = eq-eqb (a + 1) (b + 1) (omega (arith, eqb-true a b e))
    by false e = ne_eqb (a + 1) (b + 1) (λ f. eqb-false a b e (omega (arith, f)))

before_eves : (ts : List Date) (rs : List Step) → T (eves_of ts rs) → (s : Date) → Valid s → is_eve rs (date_index s) ≡ one_of s.year s.month s.day ts
unfolding eves_of is_eve one_of
before_eves [] [] h s v = refl
before_eves (t ∷ ts) (r ∷ rs) h s v =
    let a : _ × _ = and_yes (eve_of t r) _ h in
    let e : Tied t r = tied t r a.0 in
    rw (← e.index, one_more (date_index s) (date_index t), same_index s t v e.real, before_eves ts rs a.1 s v) refl
before_eves [] (r ∷ rs) h s v = elim h [ ]
before_eves (t ∷ ts) [] h s v = elim h [ ]

-- Where the dates ts are the days before the later rows, a date has a second 60 exactly when it is one of them.
pub has_second_60 : (ts : List Date) → T (eves_of ts later_steps) → (s : Date) → Valid s → has_second60 (date_index s) ≡ one_of s.year s.month s.day ts
unfolding has_second60
has_second_60 ts h s v = before_eves ts later_steps h s v

-- ---- second 60 is accepted there and nowhere else

-- a day that has a second 60 is covered by the list: TAI - UTC is a second more on the next day, so it is neither 10 there nor 37 before
sixty_grows : (n : ℕ) → has_second60 n ≡ true → tai_minus_utc (n + 1) ≡ tai_minus_utc n + 1
sixty_grows n h = rw h at (next_tai n)

sixty_from : (n : ℕ) → has_second60 n ≡ true → 135870 ≤ n
sixty_from n h = by (dec_le 135870 n)
  where
    by : Dec (135870 ≤ n) → 135870 ≤ n
    by (yes p) = p
    by (no p) = omega (arith, sixty_grows n h, tai_first n (omega (arith, p)), tai_first (n + 1) (omega (arith, p)))

sixty_to : (n : ℕ) → has_second60 n ≡ true → n < 155407
sixty_to n h = by (dec_le 155407 n)
  where
    by : Dec (155407 ≤ n) → n < 155407
    by (yes p) = omega (arith, sixty_grows n h, tai_last n (omega (arith, p)), tai_most (n + 1))
    by (no p) = omega (arith, p)

-- each of the dates is a date of the calendar
one_valid : (ts : List Date) (rs : List Step) → T (eves_of ts rs) → (y m d : ℕ) → T (one_of y m d ts) → Valid (date y m d)
unfolding eves_of one_of
one_valid [] rs h y m d o = elim o [ ]
one_valid (t ∷ ts) [] h y m d o = elim h [ ]
one_valid (t ∷ ts) (r ∷ rs) h y m d o =
    let a : _ × _ = and_yes (eve_of t r) _ h in
    ⊎_elim (λ p. is t (tied t r a.0).real y m d p) (λ p. one_valid ts rs a.1 y m d p) (or_yes (same y m d t) _ o)
  where
    is : (t : Date) → Valid t → (y m d : ℕ) → T (same y m d t) → Valid (date y m d)
    is t v y m d p =
        let a : _ × _ = and_yes (eqb y t.year) _ p in
        let b : _ × _ = and_yes (eqb m t.month) _ a.1 in
        rw (eqb→eq y _ a.0, eqb→eq m _ b.0, eqb→eq d _ b.1) v

is_true : (b : Bool) → T b → b ≡ true
is_true true t = refl
is_true false t = elim t [ ]

module _ (ts : List Date) (eves : T (eves_of ts later_steps)) where
  -- PROMISE. A second past 59 that is accepted is second 60 at 23:59 of one of these dates.
  pub sixty_only : (r : Reading) → AcceptedReading r → 59 < r.second → (r.second ≡ 60) × (r.hour ≡ 23) × (r.minute ≡ 59) × T (one_of r.year r.month r.day ts)
  sixty_only r a h =
      let k : Held r = none_held r (first_none (reading_cases r) a) in
      by (last_second_lem (reading_index r) r.hour r.minute) k.seconds (has_second_60 ts eves _ (valid _ _ _ k.on))
    where
      by : {l : ℕ} → LastSecond (reading_index r) r.hour r.minute l → r.second ≤ l → has_second60 (reading_index r) ≡ one_of r.year r.month r.day ts
          → (r.second ≡ 60) × (r.hour ≡ 23) × (r.minute ≡ 59) × T (one_of r.year r.month r.day ts)
      by usual k e = let v : ⊥ = omega (arith, h, k) in absurd v
      by (longer p q s) k e = (omega (arith, h, k), p, q, subst T (sym s ∙ e) tt)

  -- PROMISE. And it is accepted there.
  pub sixty_there : (y m d u : ℕ) → T (one_of y m d ts) → u ≤ 999_999 → AcceptedReading (reading y m d 23 59 60 u)
  sixty_there y m d u o h =
      let v : Valid (date y m d) = one_valid ts later_steps eves y m d o in
      let s : has_second60 (date_index (date y m d)) ≡ true = has_second_60 ts eves (date y m d) v ∙ is_true _ o in
      let from = sixty_from _ s in
      let to = sixty_to _ s in
      none_answered number (reading_cases (reading y m d 23 59 60 u)) 0
      (held_none (reading y m d 23 59 60 u)
      (record { on = in_range (date y m d) v (omega (arith, from)) (omega (arith, to)); hours = omega arith; minutes = omega arith; seconds = rw s (omega arith); microseconds = h; from = from; to = to }))
