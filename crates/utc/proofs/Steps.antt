-- The table. Its rule is one computed test. From it, by induction on the rows: TAI - UTC is a second more on the day after exactly the days that have a
-- second 60, is 10 to 37, and is 10 and the number of rows that have begun. Assumes nothing.
use Prim.Native.Nat.{ℕ, zero, suc, ◌+◌, ◌≤◌, ◌<◌}
use mathlib.Core.Path.{◌≡◌, refl, ap, sym, ◌∙◌, subst}
use mathlib.Core.Bool.{Bool, true, false, cond, ◌||◌}
use mathlib.Core.List.{List, [], ◌∷◌}
use native.Mathlib.Omega.{arith}
use native.Mathlib.Decide.{dec_le}
use lib.Dec.{T, eqb, ltb, eqb→eq, ltb→lt}
use lib.ListN.{length, get_or}
use borrow.Author.Tests.{lt-ltb, le-ltb, eq-eqb, ne_eqb}
use mir.Facts.{and_yes}
use Rattle.calendar.specs.Dates.{leap_year, month_lengths, sum, year_length, days_of_years, days_before, date_index}
use Rattle.utc.specs.Table.{Step, first_step, later_steps, begun, tai_minus_utc, is_eve, has_second60}
use Rattle.utc.specs.Claims.{rising, last_seconds, table_rule}
use Rattle.utc.specs.Inner.{LastBegun}

-- PROMISE. The table keeps its rule.
pub table_rule_lem : T table_rule
unfolding table_rule last_seconds rising first_step later_steps date_index days_of_years days_before year_length sum month_lengths leap_year
table_rule_lem = tt

rises : T (rising first_step later_steps)
unfolding table_rule
rises =
    let a : _ × _ = and_yes (eqb (length (first_step ∷ later_steps)) 28) _ table_rule_lem in
    let b : _ × _ = and_yes (eqb first_step.seconds 10) _ a.1 in
    (and_yes (eqb (last_seconds first_step later_steps) 37) _ b.1).1

-- ---- of any rows that rise

record Rises (r q : Step) (qs : List Step) : Type 0 where
  later : date_index r.from < date_index q.from
  more : q.seconds ≡ r.seconds + 1
  on : T (rising q qs)

rises_on : (r q : Step) (qs : List Step) → T (rising r (q ∷ qs)) → Rises r q qs
unfolding rising
rises_on r q qs t =
    let a : _ × _ = and_yes (ltb (date_index r.from) (date_index q.from)) _ t in
    let b : _ × _ = and_yes (eqb q.seconds (r.seconds + 1)) _ a.1 in
    record { later = ltb→lt _ _ a.0; more = eqb→eq _ _ b.0; on = b.1 }

-- by a row's day no later row has begun; and no day before it is the day before a later row
not_begun : (r : Step) (rs : List Step) → T (rising r rs) → (s n : ℕ) → n ≤ date_index r.from → begun s rs n ≡ s
unfolding begun
not_begun r [] t s n h = refl
not_begun r (q ∷ qs) t s n h = rw (lt-ltb n (date_index q.from) (omega (arith, (rises_on r q qs t).later))) refl

none_before : (r : Step) (rs : List Step) → T (rising r rs) → (n : ℕ) → n < date_index r.from → is_eve rs n ≡ false
unfolding is_eve
none_before r [] t n h = refl
none_before r (q ∷ qs) t n h =
    let a : Rises r q qs = rises_on r q qs t in
    rw (ne_eqb (n + 1) (date_index q.from) (λ e. omega (arith, e, a.later))) (none_before q qs a.on n (omega (arith, a.later)))

-- a day later TAI - UTC is a second more where that day is the day of a row, and else the same
abbrev pub extra : Bool → ℕ
extra b = cond b 1 0

pub extra_most : (b : Bool) → extra b ≤ 1
extra_most true = omega arith
extra_most false = omega arith

next_begun : (r : Step) (rs : List Step) → T (rising r rs) → (n : ℕ) → begun r.seconds rs (n + 1) ≡ begun r.seconds rs n + extra (is_eve rs n)
unfolding begun is_eve
next_begun r [] t n = omega arith
next_begun r (q ∷ qs) t n = by (next_begun q qs a.on n) (dec_le i n) (dec_le i (n + 1))
  where
    i : ℕ
    i = date_index q.from

    a : Rises r q qs
    a = rises_on r q qs t

    by : begun q.seconds qs (n + 1) ≡ begun q.seconds qs n + extra (is_eve qs n) → Dec (i ≤ n) → Dec (i ≤ n + 1)
        → cond (ltb (n + 1) i) r.seconds (begun q.seconds qs (n + 1)) ≡ cond (ltb n i) r.seconds (begun q.seconds qs n) + extra (eqb (n + 1) i || is_eve qs n)
    by f (yes p) k = rw (le-ltb n i p, le-ltb (n + 1) i (omega (arith, p)), ne_eqb (n + 1) i (λ e. omega (arith, e, p))) f
    by f (no p) (yes k) =
        rw (lt-ltb n i (omega (arith, p)), le-ltb (n + 1) i k, eq-eqb (n + 1) i (omega (arith, p, k)))
        (not_begun q qs a.on q.seconds (n + 1) (omega (arith, p)) ∙ a.more)
    by f (no p) (no k) =
        rw (lt-ltb n i (omega (arith, p)), lt-ltb (n + 1) i (omega (arith, k)), ne_eqb (n + 1) i (λ e. k (omega (arith, e))), none_before q qs a.on n (omega (arith, p)))
        (omega arith)

-- at most a second for each row
begun_most : (r : Step) (rs : List Step) → T (rising r rs) → (n : ℕ) → begun r.seconds rs n ≤ r.seconds + length rs
unfolding begun
begun_most r [] t n = omega arith
begun_most r (q ∷ qs) t n = by (begun_most q qs a.on n) (ltb n (date_index q.from))
  where
    a : Rises r q qs
    a = rises_on r q qs t

    by : begun q.seconds qs n ≤ q.seconds + length qs → (b : Bool) → cond b r.seconds (begun q.seconds qs n) ≤ r.seconds + suc (length qs)
    by f true = omega arith
    by f false = omega (arith, f, a.more)

-- the days of rows, in order
unfoldable pub days : List Step → List ℕ
days [] = []
days (r ∷ rs) = date_index r.from ∷ days rs

-- every later row is of a later day than the first
days_rise : (r : Step) (rs : List Step) → T (rising r rs) → (k : ℕ) → k < length (days rs) → date_index r.from < get_or (days rs) k 0
unfolding days
days_rise r [] t k h = omega arith
days_rise r (q ∷ qs) t zero h = (rises_on r q qs t).later
days_rise r (q ∷ qs) t (suc k) h =
    let a : Rises r q qs = rises_on r q qs t in
    omega (arith, a.later, days_rise q qs a.on k (omega (arith, h)))

-- where k of the rows have begun
begun_count : (r : Step) (rs : List Step) → T (rising r rs) → (n k : ℕ) → LastBegun (days rs) n k → begun r.seconds rs n ≡ r.seconds + k
unfolding begun days
begun_count r [] t n k b = omega (arith, b.most)
begun_count r (q ∷ qs) t n zero b = rw (lt-ltb n (date_index q.from) (b.high (omega arith))) (omega arith)
begun_count r (q ∷ qs) t n (suc k) b =
    rw (le-ltb n (date_index q.from) (first k (b.low k refl) b.most))
    (begun_count q qs a.on n k (record { most = omega (arith, b.most); low = λ j e. b.low (suc j) (ap suc e); high = λ h. b.high (omega (arith, h)) }) ∙ more)
  where
    a : Rises r q qs
    a = rises_on r q qs t

    more : q.seconds + k ≡ r.seconds + suc k
    more = omega (arith, a.more)

    first : (k : ℕ) → get_or (date_index q.from ∷ days qs) k 0 ≤ n → suc k ≤ suc (length (days qs)) → date_index q.from ≤ n
    first zero h m = h
    first (suc k) h m = omega (arith, h, days_rise q qs a.on k (omega (arith, m)))

-- ---- of the table

-- TAI - UTC grows by a second after a day that has a second 60, and after no other.
pub next_tai : (n : ℕ) → tai_minus_utc (n + 1) ≡ tai_minus_utc n + extra (has_second60 n)
unfolding tai_minus_utc has_second60
next_tai n = next_begun first_step later_steps rises n

pub tai_most : (n : ℕ) → tai_minus_utc n ≤ 37
unfolding tai_minus_utc first_step later_steps
tai_most n = begun_most first_step later_steps rises n

-- the table of the code
unfoldable pub step_days : List ℕ
step_days =
    136052 ∷ 136236 ∷ 136601 ∷ 136966 ∷ 137331 ∷ 137697 ∷ 138062 ∷ 138427 ∷ 138792 ∷ 139339 ∷ 139704 ∷ 140069 ∷ 140800 ∷ 141714 ∷ 142445 ∷ 142810 ∷ 143357 ∷ 143722 ∷ 144087
    ∷ 144636 ∷ 145183 ∷ 145732 ∷ 148289 ∷ 149385 ∷ 150662 ∷ 151757 ∷ 152307 ∷ []

step_days_lem : step_days ≡ days later_steps
unfolding step_days days later_steps date_index days_of_years days_before year_length sum month_lengths leap_year
step_days_lem = refl

pub tai_count : (n k : ℕ) → LastBegun step_days n k → 10 + k ≡ tai_minus_utc n
unfolding tai_minus_utc first_step
tai_count n k b = sym (begun_count first_step later_steps rises n k (subst (λ (t : List ℕ). LastBegun t n k) step_days_lem b))

-- before the first of these steps, and from the last on
pub tai_first : (n : ℕ) → n < 136052 → tai_minus_utc n ≡ 10
unfolding step_days
tai_first n h = sym (tai_count n 0 (record { most = omega arith; low = λ j e. omega (arith, e); high = λ _. h }))

pub tai_last : (n : ℕ) → 152307 ≤ n → tai_minus_utc n ≡ 37
unfolding step_days
tai_last n h = sym (tai_count n 27 (record { most = omega arith; low = λ j e. let f : j ≡ 26 = omega (arith, e) in rw f h; high = λ l. omega (arith, l) }))
