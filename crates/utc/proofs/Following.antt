-- A second later. Within a minute, an hour or a day the microseconds of the day grow by a second; at the end of a day the next UTC day begins, as long
-- after the day's beginning as the day is. So the moment grows by a second each time, and with it the instant. Assumes nothing.
use Prim.Native.Nat.{ℕ, suc, ◌+◌, ◌-◌, ◌/◌, ◌%◌, ◌≤◌, ◌<◌}
use mathlib.Core.Path.{◌≡◌, refl, sym, ◌∙◌, ap, subst}
use mathlib.Core.Bool.{Bool, true, false, cond}
use mathlib.Core.Logic.{◌⊎◌, inl, inr}
use native.Mathlib.Omega.{arith}
use native.Mathlib.Decide.{dec_le}
use lib.Dec.{ltb}
use lib.IntN.{ℤ, pos, ◌+ℤ◌}
use borrow.Author.Tests.{ltb-true, ltb-false, le-ltb, le-leb}
use Rattle.instants.specs.Limits.{day_micros, index_offset}
use Rattle.instants.specs.Instants.{instant, day_at_index, later_day, later_micros}
use Rattle.instants.specs.Moments.{moment}
use Rattle.instants.specs.declared.Instant.{Instant}
use Rattle.instants.proofs.Signs.{first_index}
use Rattle.calendar.specs.Limits.{second_micros}
use Rattle.calendar.specs.Dates.{date, date_index, next}
use Rattle.calendar.specs.Times.{micros_of_time}
use Rattle.calendar.specs.declared.Date.{Date}
use Rattle.calendar.proofs.Dates.{Steps, step}
use Rattle.calendar.proofs.Inverse.{AcceptedDate, date_none, valid, in_range, number_pos}
use Rattle.utc.specs.Table.{first_step, expiry, tt_minus_utc, has_second60}
use Rattle.utc.specs.Readings.{reading, reading_index, reading_micros, last_second}
use Rattle.utc.specs.Conversions.{tt_at, tt_of, day_begins}
use Rattle.utc.specs.Claims.{instant_second_later, next_second}
use Rattle.utc.specs.declared.Reading.{Reading}
use Rattle.utc.proofs.Steps.{extra}
use Rattle.utc.proofs.Days.{first_index_lem, expiry_index, next_begins}
use Rattle.utc.proofs.Readings.{LastSecond, usual, longer, last_second_lem, last_minute, Held}
use Rattle.utc.proofs.Inverse.{moment_at, instant_at, held_instant, answered_held}
use Rattle.std.specs.Prelude.{Ok, Err}
use Rattle.instants.specs.declared.refusal.Refusal.TheVariants.{UtcExpired}

-- ---- the instant a second later

-- the instant t microseconds after the microseconds m of the TT day i
later_at : (i m t : ℕ) → first_index ≤ i → instant (later_day (day_at_index i) m t) (later_micros m t) ≡ instant (day_at_index (i + (m + t) / day_micros)) ((m + t) % day_micros)
later_at i m t h =
    let q = (m + t) / day_micros in
    let e : i - index_offset + q ≡ i + q - index_offset = omega arith in
    ap (λ (d : ℤ). instant d ((m + t) % day_micros))
    (ap (λ (d : ℤ). d +ℤ pos q) (number_pos i h) ∙ (ap pos e ∙ sym (number_pos (i + q) (omega arith))))

-- where the moment grows by t, the instant is t later
grown : (n u k v t : ℕ) → 135870 ≤ n → day_begins k + v ≡ day_begins n + u + t
    → tt_at k v ≡ instant (later_day (tt_at n u).day (tt_at n u).micros t) (later_micros (tt_at n u).micros t)
grown n u k v t h e =
    let s = u + tt_minus_utc n in
    let i = n + s / day_micros in
    let m = s % day_micros in
    let z : moment (i + (m + t) / day_micros) ((m + t) % day_micros) ≡ day_begins k + v = sums i m t ∙ (ap (λ (x : ℕ). x + t) (moment_at n u) ∙ sym e) in
    instant_at (i + (m + t) / day_micros) ((m + t) % day_micros) k v (omega arith) z ∙ sym (later_at i m t (omega (arith, h)))
  where
    sums : (i m t : ℕ) → moment (i + (m + t) / day_micros) ((m + t) % day_micros) ≡ moment i m + t
    sums i m t = omega arith

-- ---- the reading a second later

-- what is to be shown of the reading q after r
abbrev Follows : Reading → Reading → Type 0
Follows r q = (tt_of q ≡ Ok (instant_second_later (tt_at (reading_index r) (reading_micros r)))) ⊎ (tt_of q ≡ Err UtcExpired)

-- where q is accepted, and its moment is a second later
follows : (r q : Reading) → Held r → Held q → day_begins (reading_index q) + reading_micros q ≡ day_begins (reading_index r) + reading_micros r + second_micros → Follows r q
follows r q h k e = inl (held_instant q k ∙ ap Ok (grown (reading_index r) (reading_micros r) (reading_index q) (reading_micros q) second_micros h.from e))

-- on the day on which the list expires
expired : (q : Reading) → AcceptedDate q.year q.month q.day → q.hour ≤ 23 → q.minute ≤ 59 → q.second ≡ 0 → q.microsecond ≤ 999_999 → reading_index q ≡ 155407 → tt_of q ≡ Err UtcExpired
unfolding tt_of
expired q on hours minutes seconds microseconds e =
    let d = date_none _ _ _ on in
    rw (
      d.0,
      d.1.0,
      d.1.1.0,
      le-ltb 23 q.hour hours,
      le-ltb 59 q.minute minutes,
      le-ltb (last_second (reading_index q) q.hour q.minute) q.second (omega (arith, seconds)),
      le-ltb 999_999 q.microsecond microseconds,
      le-ltb (reading_index q) (date_index first_step.from) (omega (arith, e, first_index_lem)),
      le-leb (date_index expiry) (reading_index q) (omega (arith, e, expiry_index)),
    )
    refl

module _ (r : Reading) (h : Held r) where
  abbrev last : ℕ
  last = last_second (reading_index r) r.hour r.minute

  -- before the last minute of the day the last second is 59
  plain : {l : ℕ} → LastSecond (reading_index r) r.hour r.minute l → (r.hour ≡ 23 → r.minute ≡ 59 → ⊥) → l ≡ 59
  plain usual f = refl
  plain (longer p q s) f = absurd (f p q)

  next_day : r.hour ≡ 23 → r.minute ≡ 59 → r.second ≡ last →
      let t = next (date r.year r.month r.day) in
      Follows r (reading t.year t.month t.day 0 0 0 r.microsecond)
  next_day p q s = by (dec_le 155407 (suc (reading_index r)))
    where
      t : Date
      t = next (date r.year r.month r.day)

      st : Steps (date r.year r.month r.day) t
      st = step _ (valid _ _ _ h.on)

      tomorrow : AcceptedDate t.year t.month t.day
      tomorrow = in_range t st.valid (omega (arith, st.more, h.from)) (omega (arith, st.more, h.to))

      second : r.second ≡ 59 + extra (has_second60 (reading_index r))
      second = s ∙ last_minute (reading_index r) r.hour r.minute (rw (p, q) refl)

      grows : day_begins (date_index t) + micros_of_time 0 0 0 r.microsecond ≡ day_begins (reading_index r) + reading_micros r + second_micros
      grows =
          let a : suc (reading_index r) ≡ reading_index r + 1 = omega arith in
          rw (st.more, a, next_begins (reading_index r), p, q, second) (omega arith)

      by : Dec (155407 ≤ suc (reading_index r)) → Follows r (reading t.year t.month t.day 0 0 0 r.microsecond)
      by (yes k) = inr (expired _ tomorrow (omega arith) (omega arith) refl h.microseconds (omega (arith, st.more, h.to, k)))
      by (no k) =
          follows r _ h
          (record { on = tomorrow; hours = omega arith; minutes = omega arith; seconds = omega arith; microseconds = h.microseconds; from = omega (arith, st.more, h.from); to = omega (arith, st.more, k) })
          grows

  held_next : Follows r (next_second r)
  unfolding next_second
  held_next = by_second (ltb r.second last) refl
    where
      t : Date
      t = next (date r.year r.month r.day)

      day : Reading
      day = reading t.year t.month t.day 0 0 0 r.microsecond

      hour : Reading
      hour = reading r.year r.month r.day (r.hour + 1) 0 0 r.microsecond

      minute : Reading
      minute = reading r.year r.month r.day r.hour (r.minute + 1) 0 r.microsecond

      second : Reading
      second = reading r.year r.month r.day r.hour r.minute (r.second + 1) r.microsecond

      by_hour : r.second ≡ last → r.minute ≡ 59 → (b : Bool) → ltb r.hour 23 ≡ b → Follows r (cond b hour day)
      by_hour s m true e =
          let k : r.hour < 23 = ltb-true _ _ e in
          let l : last ≡ 59 = plain (last_second_lem (reading_index r) r.hour r.minute) (λ p q. omega (arith, p, k)) in
          follows r hour h
          (record { on = h.on; hours = omega (arith, k); minutes = omega arith; seconds = omega arith; microseconds = h.microseconds; from = h.from; to = h.to })
          (omega (arith, s, m, l))
      by_hour s m false e = next_day (omega (arith, ltb-false r.hour 23 e, h.hours)) m s

      by_minute : r.second ≡ last → (b : Bool) → ltb r.minute 59 ≡ b → Follows r (cond b minute (cond (ltb r.hour 23) hour day))
      by_minute s true e =
          let k : r.minute < 59 = ltb-true _ _ e in
          let l : last ≡ 59 = plain (last_second_lem (reading_index r) r.hour r.minute) (λ p q. omega (arith, q, k)) in
          follows r minute h
          (record { on = h.on; hours = h.hours; minutes = omega (arith, k); seconds = omega arith; microseconds = h.microseconds; from = h.from; to = h.to })
          (omega (arith, s, l))
      by_minute s false e = by_hour s (omega (arith, ltb-false r.minute 59 e, h.minutes)) (ltb r.hour 23) refl

      by_second : (b : Bool) → ltb r.second last ≡ b → Follows r (cond b second (cond (ltb r.minute 59) minute (cond (ltb r.hour 23) hour day)))
      by_second true e =
          let k : r.second < last = ltb-true _ _ e in
          follows r second h
          (record { on = h.on; hours = h.hours; minutes = h.minutes; seconds = omega (arith, k); microseconds = h.microseconds; from = h.from; to = h.to })
          (omega arith)
      by_second false e = by_minute (omega (arith, ltb-false r.second last e, h.seconds)) (ltb r.minute 59) refl

-- PROMISE. The reading a second after an accepted one has the instant a second later, or is refused because the list expires there.
pub next_second_lem : (r : Reading) (t : Instant) → tt_of r ≡ Ok t → (tt_of (next_second r) ≡ Ok (instant_second_later t)) ⊎ (tt_of (next_second r) ≡ Err UtcExpired)
next_second_lem r t e =
    let a = answered_held r t e in
    subst (λ (t : Instant). (tt_of (next_second r) ≡ Ok (instant_second_later t)) ⊎ (tt_of (next_second r) ≡ Err UtcExpired)) a.1 (held_next r a.0)
