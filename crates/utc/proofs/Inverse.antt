-- UTC readings and instants are inverse. A moment x is in the UTC day n that has begun by x and whose next day has not; a reading's instant is as long
-- after the beginning of its UTC day as the reading says, and in that day. So the day, and with it the reading, is found again. Assumes nothing.
use Prim.Native.Nat.{ℕ, ◌+◌, ◌-◌, ◌*◌, ◌/◌, ◌%◌, ◌≤◌, ◌<◌}
use mathlib.Core.Path.{◌≡◌, refl, sym, ◌∙◌, ap, subst}
use mathlib.Core.List.{◌++◌}
use native.Mathlib.Omega.{arith}
use native.Mathlib.Decide.{dec_le}
use lib.IntN.{ℤ}
use borrow.Author.Tests.{ltb-false, leb-false, lt-ltb, le-ltb, lt-leb}
use Rattle.instants.specs.Limits.{day_micros}
use Rattle.instants.specs.Instants.{instant, day_index, day_at_index, instant_cases}
use Rattle.instants.specs.Moments.{moment, moment_of}
use Rattle.instants.specs.declared.Instant.{Instant}
use Rattle.instants.proofs.FirstRefusal.{none_both, none_answered, answered_none}
use Rattle.instants.proofs.Impossible.{impossible}
use Rattle.instants.proofs.Signs.{first_index, last_index}
use Rattle.instants.proofs.Accepted.{AcceptedAt, none_accepted}
use Rattle.calendar.specs.Dates.{date, date_index, date_after}
use Rattle.calendar.specs.declared.Date.{Date}
use Rattle.calendar.proofs.Dates.{Found, after, after_index}
use Rattle.calendar.proofs.Inverse.{valid, in_range, number_inside, number_index}
use Rattle.utc.specs.Table.{first_step, expiry, tt_minus_utc}
use Rattle.utc.specs.Readings.{reading, reading_index, reading_micros, reading_cases}
use Rattle.utc.specs.Conversions.{tt_at, tt_of, day_begins, moment_cases, utc_index, minute_of_day, reading_at, reading_on, utc_of}
use Rattle.utc.specs.declared.Reading.{Reading}
use Rattle.utc.proofs.Steps.{tai_most}
use Rattle.utc.proofs.Days.{first_index_lem, expiry_index, day_length, next_begins, begins_from, begins_to, begins_later}
use Rattle.utc.proofs.Readings.{Held, none_held, held_none, held_less, minute_back, Minute, minute_of, second_at}
use Rattle.std.specs.Prelude.{Ok, Err}

-- ---- the UTC day of a moment

-- x is a moment of the UTC day n
record Within (n x : ℕ) : Type 0 where
  begun : day_begins n ≤ x
  before : x < day_begins (n + 1)

-- the microseconds since the day's beginning are fewer than the day has
within_less : (n x : ℕ) → Within n x → x - day_begins n < day_length n
within_less n x w = omega (arith, w.before, w.begun, next_begins n)

-- the UTC day that the definition finds for a moment of the TT day i
index_within : (i m : ℕ) → 1 ≤ i → m < day_micros → Within (utc_index i (moment i m)) (moment i m)
index_within i m one h = by (dec_le (day_begins i) (moment i m))
  where
    by : Dec (day_begins i ≤ moment i m) → Within (utc_index i (moment i m)) (moment i m)
    by (yes p) = rw (le-ltb (moment i m) (day_begins i) p) (record { begun = p; before = omega (arith, begins_from (i + 1)) })
    by (no p) =
        let e : i - 1 + 1 ≡ i = omega arith in
        rw (lt-ltb (moment i m) (day_begins i) (omega (arith, p)))
        (record { begun = omega (arith, begins_to (i - 1)); before = rw e (omega (arith, p)) })

-- a moment is in one UTC day only
within_one : (n k x : ℕ) → Within n x → Within k x → n ≤ k
within_one n k x v w = by (dec_le n k)
  where
    by : Dec (n ≤ k) → n ≤ k
    by (yes p) = p
    by (no p) = omega (arith, p, begins_later (k + 1) n (omega (arith, p)), w.before, v.begun)

within_same : (n k x : ℕ) → Within n x → Within k x → n ≡ k
within_same n k x v w = omega (arith, within_one n k x v w, within_one k n x w v)

-- the UTC day of a moment that the list covers is covered
covered_from : (n x : ℕ) → Within n x → day_begins (date_index first_step.from) ≤ x → 135870 ≤ n
covered_from n x w h = by (dec_le 135870 n)
  where
    by : Dec (135870 ≤ n) → 135870 ≤ n
    by (yes p) = p
    by (no p) = omega (arith, p, begins_later (n + 1) (date_index first_step.from) (omega (arith, p, first_index_lem)), w.before, h)

covered_to : (n x : ℕ) → Within n x → x < day_begins (date_index expiry) → n < 155407
covered_to n x w h = by (dec_le 155407 n)
  where
    by : Dec (155407 ≤ n) → n < 155407
    by (yes p) = omega (arith, begins_later (date_index expiry) n (omega (arith, p, expiry_index)), w.begun, h)
    by (no p) = omega (arith, p)

-- ---- the instant of a time

-- the instant u microseconds after the beginning of the UTC day n has the moment that many after it
pub moment_at : (n u : ℕ) →
    let s = u + tt_minus_utc n in
    moment (n + s / day_micros) (s % day_micros) ≡ day_begins n + u
unfolding day_begins
moment_at n u = sums n u (tt_minus_utc n)
  where
    sums : (n u t : ℕ) → (n + (u + t) / day_micros + 36527) * day_micros + 43_200_000_000 + (u + t) % day_micros ≡ (n + 36527) * day_micros + 43_200_000_000 + t + u
    sums n u t = omega arith

-- ---- the reading of a time

-- the reading of the UTC day n is on the date of that index
on_date : (n u : ℕ) → reading_index (reading_at n u) ≡ n
on_date n u = (after n).index

-- its microseconds are those of the time
micros_at : (n u : ℕ) → reading_micros (reading_at n u) ≡ u
micros_at n u = by (minute_of_day u) (minute_of u)
  where
    by : (w : ℕ) → Minute u w → ((w / 60 * 60 + w % 60) * 60 + (u / 1_000_000 - w * 60)) * 1_000_000 + u % 1_000_000 ≡ u
    by w h = omega (arith, h.from)

-- a time of a covered day is read as an accepted reading
held_at : (n u : ℕ) → 135870 ≤ n → n < 155407 → u < day_length n → Held (reading_at n u)
held_at n u from to less =
    let f : Found n (date_after n) = after n in
    record {
      on = in_range (date_after n) f.valid (omega (arith, f.index)) (omega (arith, f.index));
      hours = omega (arith, (minute_of u).below);
      minutes = omega arith;
      seconds = rw f.index (second_at n u less);
      microseconds = omega arith;
      from = omega (arith, f.index);
      to = omega (arith, f.index);
    }

-- ---- the two ways

-- the reading of an accepted reading's time is that reading
reading_back : (r : Reading) → Held r → reading_at (reading_index r) (reading_micros r) ≡ r
reading_back r h = by (date_after (reading_index r)) (after_index (date r.year r.month r.day) (valid _ _ _ h.on)) (minute_of_day (reading_micros r)) minute
  where
    minute : minute_of_day (reading_micros r) ≡ r.hour * 60 + r.minute
    minute = minute_back (reading_index r) r.hour r.minute r.second r.microsecond h.hours h.minutes h.microseconds h.seconds

    hour_is : (r.hour * 60 + r.minute) / 60 ≡ r.hour
    hour_is = omega (arith, h.minutes)

    minute_is : (r.hour * 60 + r.minute) % 60 ≡ r.minute
    minute_is = omega (arith, h.minutes)

    second_is : reading_micros r / 1_000_000 - (r.hour * 60 + r.minute) * 60 ≡ r.second
    second_is = omega (arith, h.microseconds)

    microsecond_is : reading_micros r % 1_000_000 ≡ r.microsecond
    microsecond_is = omega (arith, h.microseconds)

    by : (t : Date) → t ≡ date r.year r.month r.day → (w : ℕ) → w ≡ r.hour * 60 + r.minute
        → reading t.year t.month t.day (w / 60) (w % 60) (reading_micros r / 1_000_000 - w * 60) (reading_micros r % 1_000_000) ≡ r
    by t e w f = rw (e, f, hour_is, minute_is, second_is, microsecond_is) refl

-- the reading at the TT day i and its microseconds m, where this is u microseconds after the beginning of the UTC day n
read_at : (i m n u : ℕ) → i ≤ last_index → m < day_micros → moment i m ≡ day_begins n + u → u < day_length n → 135870 ≤ n → n < 155407
    → utc_of (day_at_index i) m ≡ Ok (reading_at n u)
unfolding utc_of
read_at i m n u high h e less from to =
    rw (number_inside i low high, lt-leb day_micros m h, number_index i low, le-ltb (moment i m) (day_begins (date_index first_step.from)) after_first, lt-leb (day_begins (date_index expiry)) (moment i m) before_expiry, same, rest)
    refl
  where
    low : first_index ≤ i
    low = omega (arith, begins_from n)

    x_within : Within n (moment i m)
    x_within = record { begun = omega (arith, e); before = omega (arith, e, less, next_begins n) }

    same : utc_index i (moment i m) ≡ n
    same = within_same _ n (moment i m) (index_within i m (omega (arith, low)) h) x_within

    rest : moment i m - day_begins n ≡ u
    rest = omega (arith, e)

    after_first : day_begins (date_index first_step.from) ≤ moment i m
    after_first = omega (arith, e, begins_later (date_index first_step.from) n (omega (arith, first_index_lem, from)))

    before_expiry : moment i m < day_begins (date_index expiry)
    before_expiry = omega (arith, x_within.before, begins_later (n + 1) (date_index expiry) (omega (arith, expiry_index, to)))

-- an accepted reading's instant is read as that reading
held_back : (r : Reading) → Held r →
    let t = tt_at (reading_index r) (reading_micros r) in
    utc_of t.day t.micros ≡ Ok r
held_back r h =
    let n = reading_index r in
    let u = reading_micros r in
    let l = held_less r h in
    read_at (n + (u + tt_minus_utc n) / day_micros) ((u + tt_minus_utc n) % day_micros) n u (omega (arith, h.to, l.1, tai_most n)) (omega arith) (moment_at n u) l.0 h.from h.to
    ∙ ap Ok (reading_back r h)

-- a reading that has an instant is accepted, and the instant is that of its time
pub answered_held : (r : Reading) (t : Instant) → tt_of r ≡ Ok t → Held r × (tt_at (reading_index r) (reading_micros r) ≡ t)
unfolding tt_of
answered_held r t e =
    let a = answered_none Err (reading_cases r) (Ok (tt_at (reading_index r) (reading_micros r))) (Ok t) (λ n p. impossible (cc)) e in
    let g : Ok (tt_at (reading_index r) (reading_micros r)) ≡ Ok t = a.1 in
    (none_held r a.0, cc)

-- PROMISE. The reading of an accepted reading's instant is that reading.
pub reading_there_and_back : (r : Reading) (t : Instant) → tt_of r ≡ Ok t → utc_of t.day t.micros ≡ Ok r
reading_there_and_back r t e =
    let a = answered_held r t e in
    subst (λ (t : Instant). utc_of t.day t.micros ≡ Ok r) a.1 (held_back r a.0)

-- an accepted reading has its instant
pub held_instant : (r : Reading) → Held r → tt_of r ≡ Ok (tt_at (reading_index r) (reading_micros r))
unfolding tt_of
held_instant r h = none_answered Err (reading_cases r) _ (held_none r h)

-- the instant of the time u of the UTC day n, where that is at the microseconds m of the TT day i
pub instant_at : (i m n u : ℕ) → m < day_micros → moment i m ≡ day_begins n + u → tt_at n u ≡ instant (day_at_index i) m
unfolding day_begins
instant_at i m n u h e =
    let q : n + (u + tt_minus_utc n) / day_micros ≡ i = omega (arith, e) in
    let p : (u + tt_minus_utc n) % day_micros ≡ m = omega (arith, e) in
    rw (q, p) refl

-- PROMISE. The instant of an answered instant's reading is that instant.
pub instant_there_and_back : (d : ℤ) (m : ℕ) (r : Reading) → utc_of d m ≡ Ok r → tt_of r ≡ Ok (instant d m)
unfolding utc_of day_at_index
instant_there_and_back d m r e =
    let x = moment_of d m in
    let a = answered_none Err (instant_cases d m ++ moment_cases x) (Ok (reading_on (day_index d) x)) (Ok r) (λ n p. impossible (cc)) e in
    let b = none_both (instant_cases d m) (moment_cases x) a.0 in
    let k : AcceptedAt d m (day_index d) = none_accepted d m b.0 in
    let w = index_within (day_index d) m (omega (arith, k.low)) k.less in
    let n = utc_index (day_index d) x in
    let u = x - day_begins n in
    let h : Held (reading_at n u) = held_at n u (covered_from n x w (ltb-false _ _ b.1.0)) (covered_to n x w (leb-false _ _ b.1.1.0)) (within_less n x w) in
    let g : Ok (reading_on (day_index d) x) ≡ Ok r = a.1 in
    let f : reading_at n u ≡ r = cc in
    let z : x ≡ day_begins n + u = omega (arith, w.begun) in
    ap tt_of (sym f) ∙ (held_instant (reading_at n u) h ∙ ap Ok (ap (λ (k : ℕ). tt_at k (reading_micros (reading_at n u))) (on_date n u)
    ∙ (ap (tt_at n) (micros_at n u) ∙ (instant_at (day_index d) m n u k.less z ∙ ap (λ (d : ℤ). instant d m) (sym k.is)))))
