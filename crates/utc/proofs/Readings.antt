-- What an accepted reading has, and its time of day: its microseconds are fewer than its day has, and the hour, minute, second and microsecond of these
-- are its own; by whether the second is 60. Assumes nothing.
use Prim.Native.Nat.{ℕ, ◌+◌, ◌-◌, ◌*◌, ◌/◌, ◌%◌, ◌≤◌, ◌<◌}
use mathlib.Core.Path.{◌≡◌, refl, sym, ◌∙◌, ap}
use mathlib.Core.Bool.{Bool, true, false, true≢false, cond, ◌&&◌}
use mathlib.Core.List.{◌++◌}
use native.Mathlib.Omega.{arith}
use native.Mathlib.Decide.{dec_le}
use lib.Dec.{eqb}
use borrow.Author.Tests.{ltb-false, leb-false, eqb-true, lt-ltb, le-ltb, lt-leb}
use Rattle.instants.specs.Limits.{day_micros, days_covered}
use Rattle.instants.proofs.FirstRefusal.{NoneApplies, none_both, answered_none}
use Rattle.instants.proofs.Impossible.{impossible}
use Rattle.calendar.specs.Limits.{second_micros}
use Rattle.calendar.specs.Dates.{date_index, date_cases}
use Rattle.calendar.specs.Times.{micros_of_time, time_cases}
use Rattle.calendar.proofs.Inverse.{AcceptedDate, none_date, date_none}
use Rattle.utc.specs.Table.{first_step, expiry, has_second60}
use Rattle.utc.specs.Readings.{reading_index, reading_micros, last_second, cover_cases, reading_cases}
use Rattle.utc.specs.Conversions.{minute_of_day}
use Rattle.utc.specs.Inner.{utc_time, reading_acceptance}
use Rattle.utc.specs.declared.Reading.{Reading}
use Rattle.utc.specs.declared.UtcTime.{UtcTime}
use Rattle.utc.proofs.Steps.{extra, extra_most}
use Rattle.utc.proofs.Days.{first_index_lem, expiry_index, day_length}
use Rattle.std.specs.Prelude.{Ok, Err}

-- ---- the last second of a minute

-- it is 59, or 60 in the last minute of a day that has a second 60
pub data LastSecond (n hour minute : ℕ) : ℕ → Type 0 where
  usual : LastSecond n hour minute 59
  longer : hour ≡ 23 → minute ≡ 59 → has_second60 n ≡ true → LastSecond n hour minute 60

pub last_second_lem : (n hour minute : ℕ) → LastSecond n hour minute (last_second n hour minute)
last_second_lem n hour minute = by (eqb hour 23) (eqb minute 59) (has_second60 n) refl refl refl
  where
    by : (a b c : Bool) → eqb hour 23 ≡ a → eqb minute 59 ≡ b → has_second60 n ≡ c → LastSecond n hour minute (cond ((a && b) && c) 60 59)
    by false b c p q r = usual
    by true false c p q r = usual
    by true true false p q r = usual
    by true true true p q r = longer (eqb-true hour 23 p) (eqb-true minute 59 q) r

-- in the last minute of a day
pub last_minute : (n hour minute : ℕ) → eqb hour 23 && eqb minute 59 ≡ true → last_second n hour minute ≡ 59 + extra (has_second60 n)
last_minute n hour minute e = rw e (by (has_second60 n))
  where
    by : (b : Bool) → cond b 60 59 ≡ 59 + extra b
    by true = refl
    by false = refl

-- ---- what an accepted reading has

pub record Held (r : Reading) : Type 0 where
  pub on : AcceptedDate r.year r.month r.day
  pub hours : r.hour ≤ 23
  pub minutes : r.minute ≤ 59
  pub seconds : r.second ≤ last_second (reading_index r) r.hour r.minute
  pub microseconds : r.microsecond ≤ 999_999
  pub from : 135870 ≤ reading_index r
  pub to : reading_index r < 155407

pub none_held : (r : Reading) → NoneApplies (reading_cases r) → Held r
none_held r h =
    let times = time_cases (last_second (reading_index r) r.hour r.minute) r.hour r.minute r.second r.microsecond in
    let a = none_both (date_cases r.year r.month r.day) (times ++ cover_cases (reading_index r)) h in
    let b = none_both times (cover_cases (reading_index r)) a.1 in
    let t = b.0 in
    record {
      on = none_date _ _ _ a.0;
      hours = ltb-false _ _ t.0;
      minutes = ltb-false _ _ t.1.0;
      seconds = ltb-false _ _ t.1.1.0;
      microseconds = ltb-false _ _ t.1.1.1.0;
      from = omega (arith, ltb-false (reading_index r) (date_index first_step.from) b.1.0, first_index_lem);
      to = omega (arith, leb-false (date_index expiry) (reading_index r) b.1.1.0, expiry_index);
    }

pub held_none : (r : Reading) → Held r → NoneApplies (reading_cases r)
held_none r h =
    let d = date_none _ _ _ h.on in (
      d.0,
      (
        d.1.0,
        (
          d.1.1.0,
          (
            le-ltb _ _ h.hours,
            (
              le-ltb _ _ h.minutes,
              (
                le-ltb _ _ h.seconds,
                (
                  le-ltb _ _ h.microseconds,
                  (le-ltb (reading_index r) (date_index first_step.from) (omega (arith, h.from, first_index_lem)), (lt-leb (date_index expiry) (reading_index r) (omega (arith, h.to, expiry_index)), tt)),
                ),
              ),
            ),
          ),
        ),
      ),
    )

-- one that was accepted by its time
pub accepted_held : (r : Reading) (t : UtcTime) → reading_acceptance r ≡ Ok t → Held r × (t ≡ utc_time (reading_index r) (reading_micros r))
unfolding reading_acceptance
accepted_held r t e =
    let a = answered_none Err (reading_cases r) (Ok (utc_time (reading_index r) (reading_micros r))) (Ok t) (λ n p. impossible (cc)) e in
    let g : Ok (utc_time (reading_index r) (reading_micros r)) ≡ Ok t = a.1 in
    (none_held r a.0, cc)

-- ---- its time of day

-- the microseconds of a time, by its last second
module _ (n hour minute second microsecond : ℕ) (hours : hour ≤ 23) (minutes : minute ≤ 59) (microseconds : microsecond ≤ 999_999) where
  abbrev micros : ℕ
  micros = micros_of_time hour minute second microsecond

  pub micros_less : second ≤ last_second n hour minute → micros < day_length n
  micros_less h = by (has_second60 n) refl (last_second_lem n hour minute) h
    where
      by : (b : Bool) → has_second60 n ≡ b → {l : ℕ} → LastSecond n hour minute l → second ≤ l → micros < day_micros + cond b 1 0 * second_micros
      by b e usual k = omega arith
      by true e (longer p q s) k = omega (arith, p, q)
      by false e (longer p q s) k = absurd (true≢false (sym s ∙ e))

  pub minute_back : second ≤ last_second n hour minute → minute_of_day micros ≡ hour * 60 + minute
  minute_back h = by (last_second_lem n hour minute) h
    where
      early : second ≤ 59 → minute_of_day micros ≡ hour * 60 + minute
      early k = let e : micros / 60_000_000 ≡ hour * 60 + minute = omega arith in rw (e, lt-ltb (hour * 60 + minute) 1440 (omega arith)) refl

      by : {l : ℕ} → LastSecond n hour minute l → second ≤ l → minute_of_day micros ≡ hour * 60 + minute
      by usual k = early k
      by (longer p q s) k = late (dec_le second 59)
        where
          late : Dec (second ≤ 59) → minute_of_day micros ≡ hour * 60 + minute
          late (yes x) = early x
          late (no x) = let e : micros / 60_000_000 ≡ 1440 = omega (arith, p, q, x, k) in rw (e, p, q) refl

-- of an accepted reading
pub held_less : (r : Reading) → Held r → (reading_micros r < day_length (reading_index r)) × (reading_micros r < day_micros + second_micros)
held_less r h =
    let l = micros_less (reading_index r) r.hour r.minute r.second r.microsecond h.hours h.minutes h.microseconds h.seconds in
    (l, omega (arith, l, extra_most (has_second60 (reading_index r))))

-- a second past 59 is second 60 of the day's last minute: the microseconds are those of a whole day, and the reading's own
pub sixty_micros : (r : Reading) → Held r → 59 < r.second → reading_micros r ≡ day_micros + r.microsecond
sixty_micros r h past = by (last_second_lem (reading_index r) r.hour r.minute) h.seconds
  where
    by : {l : ℕ} → LastSecond (reading_index r) r.hour r.minute l → r.second ≤ l → reading_micros r ≡ day_micros + r.microsecond
    by usual k = let v : ⊥ = omega (arith, past, k) in absurd v
    by (longer p q s) k = omega (arith, p, q, past, k)

-- such a time fits the sums of the code
pub accepted_small : (r : Reading) (t : UtcTime) → reading_acceptance r ≡ Ok t → (t.index < days_covered) × (t.micros < 2 * day_micros)
accepted_small r t e =
    let a = accepted_held r t e in
    (omega (arith, a.0.to, ap (λ (t : UtcTime). t.index) a.1), omega (arith, (held_less r a.0).1, ap (λ (t : UtcTime). t.micros) a.1))

-- w is a minute of the day, and has begun u microseconds after 0 h
pub record Minute (u w : ℕ) : Type 0 where
  pub below : w < 1440
  pub from : w * 60_000_000 ≤ u

pub minute_of : (u : ℕ) → Minute u (minute_of_day u)
minute_of u = by (dec_le 1440 (u / 60_000_000))
  where
    by : Dec (1440 ≤ u / 60_000_000) → Minute u (minute_of_day u)
    by (yes p) = rw (le-ltb (u / 60_000_000) 1440 p) (record { below = omega arith; from = omega (arith, p) })
    by (no p) = rw (lt-ltb (u / 60_000_000) 1440 (omega (arith, p))) (record { below = omega (arith, p); from = omega arith })

-- the second of a time of the UTC day n is not past the last of its minute
pub second_at : (n u : ℕ) → u < day_length n → u / second_micros - minute_of_day u * 60 ≤ last_second n (minute_of_day u / 60) (minute_of_day u % 60)
second_at n u less = by (dec_le 1440 (u / 60_000_000))
  where
    longer_day : (b : Bool) → day_micros ≤ u → u < day_micros + extra b * second_micros → b ≡ true
    longer_day true h k = refl
    longer_day false h k = let v : ⊥ = omega arith in absurd v

    usual_least : {l : ℕ} (h m : ℕ) → LastSecond n h m l → 59 ≤ l
    usual_least h m usual = omega arith
    usual_least h m (longer p q s) = omega arith

    by : Dec (1440 ≤ u / 60_000_000) → u / second_micros - minute_of_day u * 60 ≤ last_second n (minute_of_day u / 60) (minute_of_day u % 60)
    by (yes p) = rw (le-ltb (u / 60_000_000) 1440 p, longer_day (has_second60 n) (omega (arith, p)) less) (omega (arith, less, extra_most (has_second60 n)))
    by (no p) =
        rw (lt-ltb (u / 60_000_000) 1440 (omega (arith, p)))
        (omega (arith, usual_least _ _ (last_second_lem n (u / 60_000_000 / 60) (u / 60_000_000 % 60))))
