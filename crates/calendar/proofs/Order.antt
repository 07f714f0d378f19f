-- Dates in their order: one is before another by year, month and day exactly when its index is less, and is that date exactly when its index is the same.
-- Assumes nothing.
use Prim.Native.Nat.{ℕ, ◌<◌, ◌≤◌}
use mathlib.Core.Path.{◌≡◌, refl, ap, ◌∙◌, subst}
use mathlib.Core.Bool.{Bool, true, false, ◌&&◌, ◌||◌}
use native.Mathlib.Omega.{arith}
use native.Mathlib.Decide.{dec_le}
use lib.Dec.{eqb, ltb}
use borrow.Author.Tests.{lt-ltb, le-ltb, eq-eqb, ne_eqb, eqb-true, eqb-false}
use Rattle.calendar.specs.declared.Date.{Date}
use Rattle.calendar.specs.Dates.{date, date_index}
use Rattle.calendar.specs.Claims.{earlier, same}
use Rattle.calendar.proofs.Dates.{Valid, unique, index_low, index_high, years_apart}
use Rattle.calendar.proofs.Months.{month_apart}

-- an earlier year ends before a later one begins, and so does an earlier month of the same year
year_before : (s t : Date) → Valid s → s.year < t.year → date_index s < date_index t
year_before s t v h = omega (arith, index_high s v, years_apart s.year t.year v.late h, index_low t)

month_before : (y m d k e : ℕ) → Valid (date y m d) → Valid (date y k e) → m < k → date_index (date y m d) < date_index (date y k e)
unfolding date_index
month_before y m d k e v w h = omega (arith, month_apart y m k v.one h w.twelve, v.first, v.last, w.first)

in_month : (y m d e : ℕ) → 1 ≤ d → 1 ≤ e → ltb (date_index (date y m d)) (date_index (date y m e)) ≡ ltb d e
unfolding date_index
in_month y m d e h k = by (dec_le e d)
  where
    by : Dec (e ≤ d) → ltb (date_index (date y m d)) (date_index (date y m e)) ≡ ltb d e
    by (yes p) = rw (le-ltb d e p) (le-ltb (date_index (date y m d)) (date_index (date y m e)) (omega (arith, p)))
    by (no p) = rw (lt-ltb d e (omega (arith, p))) (lt-ltb (date_index (date y m d)) (date_index (date y m e)) (omega (arith, p)))

in_year_lem : (y m d k e : ℕ) → Valid (date y m d) → Valid (date y k e) → ltb (date_index (date y m d)) (date_index (date y k e)) ≡ ltb m k || (eqb m k && ltb d e)
in_year_lem y m d k e v w = by (dec_le k m) (dec_le m k)
  where
    by : Dec (k ≤ m) → Dec (m ≤ k) → ltb (date_index (date y m d)) (date_index (date y k e)) ≡ ltb m k || (eqb m k && ltb d e)
    by (no p) q = rw (lt-ltb m k (omega (arith, p))) (lt-ltb _ _ (month_before y m d k e v w (omega (arith, p))))
    by (yes p) (no q) =
        let h : date_index (date y k e) < date_index (date y m d) = month_before y k e m d w v (omega (arith, q)) in
        rw (le-ltb m k p, ne_eqb m k (λ f. q (omega (arith, f)))) (le-ltb (date_index (date y m d)) (date_index (date y k e)) (omega (arith, h)))
    by (yes p) (yes q) =
        let f : m ≡ k = omega (arith, p, q) in
        rw (le-ltb m k p, eq-eqb m k f, f) (in_month y k d e v.first w.first)

pub earlier_index : (s t : Date) → Valid s → Valid t → ltb (date_index s) (date_index t) ≡ earlier s.year s.month s.day t
earlier_index s t v w = by (dec_le t.year s.year) (dec_le s.year t.year)
  where
    by : Dec (t.year ≤ s.year) → Dec (s.year ≤ t.year) → ltb (date_index s) (date_index t) ≡ earlier s.year s.month s.day t
    by (no p) k = rw (lt-ltb s.year t.year (omega (arith, p))) (lt-ltb _ _ (year_before s t v (omega (arith, p))))
    by (yes p) (no k) =
        let h : date_index t < date_index s = year_before t s w (omega (arith, k)) in
        rw (le-ltb s.year t.year p, ne_eqb s.year t.year (λ e. k (omega (arith, e)))) (le-ltb (date_index s) (date_index t) (omega (arith, h)))
    by (yes p) (yes k) =
        let e : s.year ≡ t.year = omega (arith, p, k) in
        let f : s ≡ date t.year s.month s.day = ap (λ (y : ℕ). date y s.month s.day) e in
        rw (le-ltb s.year t.year p, eq-eqb s.year t.year e)
        (ap (λ (q : Date). ltb (date_index q) (date_index t)) f ∙ in_year_lem t.year s.month s.day t.month t.day (subst Valid f v) w)

pub same_index : (s t : Date) → Valid s → Valid t → eqb (date_index s) (date_index t) ≡ same s.year s.month s.day t
same_index s t v w = by (eqb (date_index s) (date_index t)) refl
  where
    equal : s ≡ t → true ≡ same s.year s.month s.day t
    equal e = rw (e, eq-eqb t.year t.year refl, eq-eqb t.month t.month refl, eq-eqb t.day t.day refl) refl

    other : (a b c : Bool) → eqb s.year t.year ≡ a → eqb s.month t.month ≡ b → eqb s.day t.day ≡ c → (s ≡ t → ⊥) → false ≡ a && (b && c)
    other false b c p q r n = refl
    other true false c p q r n = refl
    other true true false p q r n = refl
    other true true true p q r n =
        let y : s.year ≡ t.year = eqb-true _ _ p in
        let m : s.month ≡ t.month = eqb-true _ _ q in
        let d : s.day ≡ t.day = eqb-true _ _ r in
        absurd (n (ap (λ (k : ℕ). date k s.month s.day) y ∙ (ap (λ (k : ℕ). date t.year k s.day) m ∙ ap (date t.year t.month) d)))

    by : (b : Bool) → eqb (date_index s) (date_index t) ≡ b → b ≡ same s.year s.month s.day t
    by true e = equal (unique s t v w (eqb-true _ _ e))
    by false e = other _ _ _ refl refl refl (λ f. eqb-false _ _ e (ap date_index f))
