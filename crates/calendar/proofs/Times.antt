-- The instant of a date and a time is accepted: no case of the date applies, so its day number has a date and is in range; none of the time applies,
-- so its microseconds are fewer than a day's. Assumes nothing.
use Prim.Native.Nat.{ℕ, ◌≤◌, ◌<◌}
use mathlib.Core.Path.{◌≡◌, sym}
use mathlib.Core.List.{◌++◌}
use native.Mathlib.Omega.{arith}
use borrow.Author.Tests.{ltb-false}
use Rattle.instants.proofs.Impossible.{impossible}
use Rattle.instants.proofs.FirstRefusal.{none_both, none_answered, answered_none}
use Rattle.instants.specs.declared.Instant.{Instant}
use Rattle.instants.specs.Limits.{day_micros}
use Rattle.instants.specs.Instants.{instant, IsAccepted, day_at_index}
use Rattle.calendar.specs.Dates.{date, date_index, date_cases, day_of}
use Rattle.calendar.specs.Times.{micros_of_time, time_cases, instant_of}
use Rattle.instants.proofs.Accepted.{accepted}
use Rattle.calendar.proofs.Inverse.{there_and_back, date_range}
use Rattle.std.specs.Prelude.{Ok, Err}

time_less : (h n s u : ℕ) → h ≤ 23 → n ≤ 59 → s ≤ 59 → u ≤ 999999 → micros_of_time h n s u < day_micros
time_less h n s u p q r w = omega arith

-- PROMISE. The instant of an accepted date and time is accepted, on the date's day.
pub instant_accepted : (y m d h n s u : ℕ) (t : Instant) → instant_of y m d h n s u ≡ Ok t → (day_of y m d ≡ Ok t.day) × IsAccepted t.day t.micros
unfolding instant_of day_of
instant_accepted y m d h n s u t e =
    let z = day_at_index (date_index (date y m d)) in
    let r = answered_none Err (date_cases y m d ++ time_cases 59 h n s u) (Ok (instant z (micros_of_time h n s u))) (Ok t) (λ n p. impossible (cc)) e in
    let q = none_both (date_cases y m d) (time_cases 59 h n s u) r.0 in
    let g : Ok (instant z (micros_of_time h n s u)) ≡ Ok t = r.1 in
    let i : instant z (micros_of_time h n s u) ≡ t = cc in
    let f : day_of y m d ≡ Ok z = none_answered Err (date_cases y m d) (Ok z) q.0 in
    let k = q.1 in
    let l : micros_of_time h n s u < day_micros = time_less h n s u (ltb-false _ _ k.0) (ltb-false _ _ k.1.0) (ltb-false _ _ k.1.1.0) (ltb-false _ _ k.1.1.1.0) in
    rw (sym i) (f, accepted z (micros_of_time h n s u) (date_range z (date y m d) (there_and_back y m d z f)).0 l)
