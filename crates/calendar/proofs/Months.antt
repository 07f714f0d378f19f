-- What holds of a year's months. There are two kinds of year and twelve months, so each rule is a test that antt computes for every month of both
-- kinds (for every day of both, where the month of a day is found); the laws below the tests say what they mean of a year. Assumes nothing.
use Prim.Native.Nat.{ℕ, zero, suc, ◌+◌, ◌-◌, ◌/◌, ◌%◌, ◌<◌, ◌≤◌}
use mathlib.Core.Path.{◌≡◌, refl}
use mathlib.Core.Bool.{Bool, true, false, cond, ◌&&◌, ◌||◌}
use mathlib.Core.List.{List, [], ◌∷◌}
use native.Mathlib.Omega.{arith}
use lib.Dec.{T, eqb, leb, ltb, eqb→eq, leb→le, ltb→lt}
use lib.ListN.{take, get_or}
use mathlib.Core.Logic.{⊎_elim}
use mir.Facts.{and_yes, or_yes}
use Rattle.calendar.specs.Dates.{leap_year, month_lengths, sum, month_length, days_before}
use Rattle.calendar.specs.Inner.{leap_day, twelfths_at}
use Rattle.calendar.proofs.Below.{all_below, below}

-- of a leap year or another: its extra day, the days before a month, a month's length
abbrev pub day : Bool → ℕ
day b = cond b 1 0

abbrev before : Bool → ℕ → ℕ
before b m = sum (take (m - 1) (month_lengths b))

abbrev len : Bool → ℕ → ℕ
len b m = get_or (month_lengths b) (m - 1) 0

-- the tables of the code, at an index from 0
abbrev pub befores : List ℕ
befores = 0 ∷ 31 ∷ 59 ∷ 90 ∷ 120 ∷ 151 ∷ 181 ∷ 212 ∷ 243 ∷ 273 ∷ 304 ∷ 334 ∷ []

abbrev pub commons : List ℕ
commons = 31 ∷ 28 ∷ 31 ∷ 30 ∷ 31 ∷ 30 ∷ 31 ∷ 31 ∷ 30 ∷ 31 ∷ 30 ∷ 31 ∷ []

-- ---- the tests, at the month suc i

starts : Bool → ℕ → Bool
starts b i = eqb (get_or befores (suc i - 1) 0 + cond (leb (suc i) 2) 0 (day b)) (before b (suc i))

longs : Bool → ℕ → Bool
longs b i = eqb (get_or commons (suc i - 1) 0 + cond (eqb (suc i) 2) (day b) 0) (len b (suc i))

follow : Bool → ℕ → Bool
follow b i = eqb (before b (suc i + 1)) (before b (suc i) + len b (suc i))

inside : Bool → ℕ → Bool
inside b i = leb (before b (suc i) + len b (suc i)) (365 + day b)

least : Bool → ℕ → Bool
least b i = leb 1 (len b (suc i))

short : Bool → ℕ → Bool
short b i = ltb (len b (suc i)) 32

-- an earlier month ends before a later one
apart : Bool → ℕ → ℕ → Bool
apart b i j = leb j i || leb (before b (suc i) + len b (suc i)) (before b (suc j))

-- the month of a day e, and the day of that month
found : Bool → ℕ → (m d : ℕ) → Bool
found b e m d = leb 1 m && (leb m 12 && (leb 1 d && (leb d (len b m) && eqb (before b m + d) (e + 1))))

-- those that the twelfths give
found_at : Bool → ℕ → Bool
found_at b e = let w = twelfths_at (day b) e in found b e (w / 367) (w % 367 / 12 + 1)

-- f at every place of both kinds of year
both : (Bool → ℕ → Bool) → ℕ → Type 0
both f n = (b : Bool) → T (all_below (f b) n)

all_starts : both starts 12
unfolding both starts sum month_lengths
all_starts true = tt
all_starts false = tt

all_longs : both longs 12
unfolding both longs sum month_lengths
all_longs true = tt
all_longs false = tt

all_short : both short 12
unfolding both short sum month_lengths
all_short true = tt
all_short false = tt

all_least : both least 12
unfolding both least sum month_lengths
all_least true = tt
all_least false = tt

all_follow : both follow 11
unfolding both follow sum month_lengths
all_follow true = tt
all_follow false = tt

all_inside : both inside 12
unfolding both inside sum month_lengths
all_inside true = tt
all_inside false = tt

all_apart : (b : Bool) → T (all_below (λ i. all_below (apart b i) 12) 12)
unfolding apart sum month_lengths
all_apart true = tt
all_apart false = tt

all_found : (b : Bool) → T (all_below (found_at b) (365 + day b))
unfolding found_at found sum month_lengths
all_found true = tt
all_found false = tt

-- ---- what they say of a month of a year

pub before_table : (y m : ℕ) → 1 ≤ m → m ≤ 12 → get_or befores (m - 1) 0 + cond (leb m 2) 0 (leap_day y) ≡ days_before y m
unfolding days_before leap_day starts both
before_table y zero h k = omega arith
before_table y (suc i) h k = eqb→eq _ _ (below (starts (leap_year y)) 12 (all_starts (leap_year y)) i k)

pub length_table : (y m : ℕ) → 1 ≤ m → m ≤ 12 → get_or commons (m - 1) 0 + cond (eqb m 2) (leap_day y) 0 ≡ month_length y m
unfolding month_length leap_day longs both
length_table y zero h k = omega arith
length_table y (suc i) h k = eqb→eq _ _ (below (longs (leap_year y)) 12 (all_longs (leap_year y)) i k)

pub month_next : (y m : ℕ) → 1 ≤ m → m < 12 → days_before y (m + 1) ≡ days_before y m + month_length y m
unfolding days_before month_length follow both
month_next y zero h k = omega arith
month_next y (suc i) h k = eqb→eq _ _ (below (follow (leap_year y)) 11 (all_follow (leap_year y)) i (omega arith))

pub month_inside : (y m : ℕ) → 1 ≤ m → m ≤ 12 → days_before y m + month_length y m ≤ 365 + leap_day y
unfolding days_before month_length leap_day inside both
month_inside y zero h k = omega arith
month_inside y (suc i) h k = leb→le _ _ (below (inside (leap_year y)) 12 (all_inside (leap_year y)) i k)

pub month_least : (y m : ℕ) → 1 ≤ m → m ≤ 12 → 1 ≤ month_length y m
unfolding month_length least both
month_least y zero h k = omega arith
month_least y (suc i) h k = leb→le _ _ (below (least (leap_year y)) 12 (all_least (leap_year y)) i k)

pub month_short : (y m : ℕ) → 1 ≤ m → m ≤ 12 → month_length y m < 32
unfolding month_length short both
month_short y zero h k = omega arith
month_short y (suc i) h k = ltb→lt _ _ (below (short (leap_year y)) 12 (all_short (leap_year y)) i k)

end_by : (b : Bool) → before b 12 + len b 12 ≡ 365 + day b
unfolding sum month_lengths
end_by true = refl
end_by false = refl

pub month_last : (y : ℕ) → days_before y 12 + month_length y 12 ≡ 365 + leap_day y
unfolding days_before month_length leap_day
month_last y = end_by (leap_year y)

apart_of : (b : Bool) (i j : ℕ) → i < j → T (apart b i j) → before b (suc i) + len b (suc i) ≤ before b (suc j)
unfolding apart
apart_of b i j h t = ⊎_elim (λ p. let q : j ≤ i = leb→le _ _ p in omega arith) (λ p. leb→le _ _ p) (or_yes (leb j i) (leb (before b (suc i) + len b (suc i)) (before b (suc j))) t)

pub month_apart : (y m k : ℕ) → 1 ≤ m → m < k → k ≤ 12 → days_before y m + month_length y m ≤ days_before y k
unfolding days_before month_length
month_apart y zero k h p q = omega arith
month_apart y (suc i) zero h p q = omega arith
month_apart y (suc i) (suc j) h p q =
    apart_of (leap_year y) i j (omega arith)
    (below (apart (leap_year y) i) 12 (below (λ i. all_below (apart (leap_year y) i) 12) 12 (all_apart (leap_year y)) i (omega arith)) j q)

-- The day e of the year y, counted from 0, is the day d of the month m.
pub record Has (y e m d : ℕ) : Type 0 where
  pub one : 1 ≤ m
  pub twelve : m ≤ 12
  pub first : 1 ≤ d
  pub last : d ≤ month_length y m
  pub counts : days_before y m + d ≡ e + 1

has : (y e m d : ℕ) → T (found (leap_year y) e m d) → Has y e m d
unfolding found days_before month_length
has y e m d t =
    let a : _ × _ = and_yes (leb 1 m) _ t in
    let b : _ × _ = and_yes (leb m 12) _ a.1 in
    let f : _ × _ = and_yes (leb 1 d) _ b.1 in
    let l : _ × _ = and_yes (leb d (len (leap_year y) m)) _ f.1 in
    record { one = leb→le _ _ a.0; twelve = leb→le _ _ b.0; first = leb→le _ _ f.0; last = leb→le _ _ l.0; counts = eqb→eq _ _ l.1 }

pub month_found : (y e w : ℕ) → e < 365 + leap_day y → w ≡ twelfths_at (leap_day y) e → Has y e (w / 367) (w % 367 / 12 + 1)
unfolding leap_day found_at
month_found y e w h p = rw p (has y e _ _ (below (found_at (leap_year y)) (365 + day (leap_year y)) (all_found (leap_year y)) e h))
