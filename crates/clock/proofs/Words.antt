-- What splitting and joining promise of each other. A time word's microseconds are below its unit, so quotient and remainder give back the mark and
-- them. Two days less than eight apart with one mark have indices that are equal modulo 8, and so are one day. Assumes nothing.
use Prim.Native.Nat.{ℕ, zero, suc, ◌+◌, ◌-◌, ◌*◌, ◌/◌, ◌%◌, ◌<◌, ◌≤◌}
use mathlib.Core.Path.{◌≡◌, refl, ap, ◌∙◌, sym, subst}
use mathlib.Core.Bool.{Bool, true, false, cond}
use native.Mathlib.Omega.{arith}
use lib.Dec.{ltb}
use lib.IntN.{ℤ, pos, negsuc, neg_ℤ, ◌+ℤ◌, ◌-ℤ◌, nat_abs, neg_ℤ-+ℤ, +ℤ_comm, +ℤ_assoc, +ℤ_invr, +ℤ_idl}
use borrow.Author.Tests.{eq-eqb, ne_eqb, ltb-true, ltb-false, eqb-true, not-false}
use Rattle.instants.proofs.Impossible.{impossible}
use Rattle.instants.specs.declared.Instant.{Instant}
use Rattle.instants.specs.Limits.{day_micros, index_offset}
use Rattle.instants.specs.Instants.{instant, day_index, instant_cases, IsAccepted}
use Rattle.instants.proofs.Signs.{index_up}
use Rattle.instants.proofs.FirstRefusal.{none_both, answered_none}
use Rattle.instants.proofs.Accepted.{AcceptedAt, accepted_at, none_accepted, accepted, answered_too}
use Rattle.clock.specs.declared.ClockWords.{ClockWords}
use Rattle.clock.specs.Words.{mark_unit, mark, time_word, words, split_of, mark_cases, join_cases, join_of}
use Rattle.clock.proofs.Mark.{mark_index}
use Rattle.std.specs.Prelude.{Ok, Err}
use Rattle.instants.specs.declared.refusal.Refusal.TheVariants.{WordsDisagree}

low_part : (m k : ℕ) → m < day_micros → (m + k * mark_unit) % mark_unit ≡ m
low_part m k h = omega arith

high_part : (m k : ℕ) → m < day_micros → (m + k * mark_unit) / mark_unit ≡ k
high_part m k h = omega arith

-- what it means that an instant was split
pub record WasSplit (d : ℤ) (m : ℕ) (w : ClockWords) : Type 0 where
  pub accepted : AcceptedAt d m (day_index d)
  pub is : w ≡ words d (time_word d m)

pub was_split : (d : ℤ) (m : ℕ) (w : ClockWords) → split_of d m ≡ Ok w → WasSplit d m w
unfolding split_of
was_split d m w e =
    let r = answered_none Err (instant_cases d m) (Ok (words d (time_word d m))) (Ok w) (λ n p. impossible (cc)) e in
    let g : Ok (words d (time_word d m)) ≡ Ok w = r.1 in
    record { accepted = none_accepted d m r.0; is = cc }

-- PROMISE. An accepted instant is split.
pub split_accepted : (d : ℤ) (m : ℕ) → IsAccepted d m → split_of d m ≡ Ok (words d (time_word d m))
unfolding split_of
split_accepted d m a = sym (answered_too Err _ d m a)

-- what it means that two words were joined
record WasJoined (d : ℤ) (t : ℕ) (i : Instant) : Type 0 where
  accepted : AcceptedAt d (t % mark_unit) (day_index d)
  marked : t / mark_unit ≡ mark d
  is : i ≡ instant d (t % mark_unit)

was_joined : (d : ℤ) (t : ℕ) (i : Instant) → join_of d t ≡ Ok i → WasJoined d t i
unfolding join_of
was_joined d t i e =
    let r = answered_none Err (join_cases d t) (Ok (instant d (t % mark_unit))) (Ok i) (λ n p. impossible (cc)) e in
    let g : Ok (instant d (t % mark_unit)) ≡ Ok i = r.1 in
    let n = none_both (instant_cases d (t % mark_unit)) (mark_cases d t) r.0 in
    record { accepted = none_accepted d (t % mark_unit) n.0; marked = eqb-true _ _ (not-false _ n.1.0); is = cc }

-- PROMISE. Splitting an accepted instant and joining the words gives the instant back.
pub split_then_join : (d : ℤ) (m : ℕ) → IsAccepted d m → join_of d (time_word d m) ≡ Ok (instant d m)
unfolding join_of
split_then_join d m a =
    let k : AcceptedAt d m (day_index d) = accepted_at d m (day_index d) a in
    simp (low_part m (mark d) k.less, high_part m (mark d) k.less, k.inside, k.within, eq-eqb (mark d) (mark d) refl)

-- words that are joined are those that their instant is split into
pub join_then_split : (d : ℤ) (t : ℕ) (i : Instant) → join_of d t ≡ Ok i → split_of i.day i.micros ≡ Ok (words d t)
join_then_split d t i e =
    let j : WasJoined d t i = was_joined d t i e in
    let w : time_word d (t % mark_unit) ≡ t = omega (arith, j.marked) in
    let s : split_of d (t % mark_unit) ≡ Ok (words d (time_word d (t % mark_unit))) = split_accepted d (t % mark_unit) (accepted d (t % mark_unit) j.accepted.inside j.accepted.less) in
    rw j.is (s ∙ ap (λ (k : ℕ). Ok (words d k)) w)

-- ---- two moments whose day numbers differ by less than eight

shift : (a b c : ℤ) → (a +ℤ c) -ℤ (b +ℤ c) ≡ a -ℤ b
shift a b c =
    ap (λ (x : ℤ). (a +ℤ c) +ℤ x) (neg_ℤ-+ℤ b c ∙ +ℤ_comm (neg_ℤ b) (neg_ℤ c))
    ∙ (+ℤ_assoc a c (neg_ℤ c +ℤ neg_ℤ b)
    ∙ ap (λ (x : ℤ). a +ℤ x) (sym (+ℤ_assoc c (neg_ℤ c) (neg_ℤ b)) ∙ (ap (λ (x : ℤ). x +ℤ neg_ℤ b) (+ℤ_invr c) ∙ +ℤ_idl (neg_ℤ b))))

distance : (a b : ℕ) (t : Bool) → ltb a b ≡ t → nat_abs (cond t (negsuc (b - suc a)) (pos (a - b))) < 8 → (a < b + 8) × (b < a + 8)
distance a b true p h = let q : a < b = ltb-true a b p in (omega arith, omega arith)
distance a b false p h = let q : b ≤ a = ltb-false a b p in (omega arith, omega arith)

same_index : (a b : ℕ) → a < b + 8 → b < a + 8 → (a + 7) % 8 ≡ (b + 7) % 8 → a ≡ b
same_index a b h k e = omega arith

apart : (d e : ℤ) (i j : ℕ) → d ≡ pos i -ℤ pos index_offset → e ≡ pos (suc j) -ℤ pos index_offset → nat_abs (d -ℤ e) < 8 → nat_abs (pos i -ℤ pos (suc j)) < 8
apart d e i j p q n = subst (λ (x : ℤ). nat_abs x < 8) (sym (shift d e (pos index_offset)) ∙ (ap (λ (x : ℤ). x -ℤ (e +ℤ pos index_offset)) (index_up d i p) ∙ ap (λ (x : ℤ). pos i -ℤ x) (index_up e (suc j) q))) n

same_mark : (d e : ℤ) (i j : ℕ) → 1 ≤ j → d ≡ pos i -ℤ pos index_offset → e ≡ pos j -ℤ pos index_offset → nat_abs (d -ℤ e) < 8 → mark e ≡ mark d → d ≡ e
same_mark d e i zero l p q n m = let v : ⊥ = omega arith in absurd v
same_mark d e i (suc j) l p q n m =
    let r : (i < suc j + 8) × (suc j < i + 8) = distance i (suc j) (ltb i (suc j)) refl (apart d e i j p q n) in
    let k : i ≡ suc j = same_index i (suc j) r.0 r.1 (sym (mark_index d i p) ∙ (sym m ∙ mark_index e (suc j) q)) in
    p ∙ (ap (λ (x : ℕ). pos x -ℤ pos index_offset) k ∙ sym q)

-- what joining the day word of the day d with the time word of the moment m of the day e gives
pub record JoinedExactly (d e : ℤ) (m : ℕ) : Type 0 where
  pub same : d ≡ e → join_of d (time_word e m) ≡ Ok (instant e m)
  pub other : (d ≡ e → ⊥) → join_of d (time_word e m) ≡ Err WordsDisagree

-- PROMISE. The day word of one accepted moment and the time word of another, whose day numbers differ by less than eight, are joined exactly when
-- both moments are of one day, and then give the moment of the time word. Otherwise they are refused by number 10.
pub joined_exactly : (d e : ℤ) (k m : ℕ) → IsAccepted d k → IsAccepted e m → nat_abs (d -ℤ e) < 8 → JoinedExactly d e m
unfolding join_of
joined_exactly d e k m a b n =
    let p : AcceptedAt d k (day_index d) = accepted_at d k (day_index d) a in
    let q : AcceptedAt e m (day_index e) = accepted_at e m (day_index e) b in
    record {
      same = λ s. subst (λ (x : ℤ). join_of x (time_word e m) ≡ Ok (instant e m)) (sym s) (split_then_join e m b);
      other = λ x.
          simp (
            low_part m (mark e) q.less,
            high_part m (mark e) q.less,
            p.inside,
            q.within,
            ne_eqb (mark e) (mark d) (λ f. x (same_mark d e (day_index d) (day_index e) (omega (arith, q.low)) p.is q.is n f)),
          );
    }
