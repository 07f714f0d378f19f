-- Where a walk stands: the earlier of the two records, or both, are there, with what is behind them; the walk lists what is to be listed there and goes on
-- behind them. Assumes nothing.
use Prim.Native.Nat.{ℕ, ◌+◌, ◌-◌, ◌*◌, ◌≤◌, ◌<◌}
use mathlib.Core.Path.{◌≡◌, refl, ap, ap₂, sym, subst, ◌∙◌}
use mathlib.Core.Bool.{Bool, true, false, cond, ◌||◌, true≢false}
use mathlib.Core.List.{List, [], ◌∷◌, ◌++◌}
use native.Mathlib.Omega.{arith}
use native.Mathlib.Decide.{ℕ_discrete, dec_lt}
use lib.Dec.{ltb}
use lib.ListN.{length, drop, length-append}
use borrow.Author.Tests.{ltb-true, ltb-false, lt-ltb, le-ltb}
use mir.Syntax.{w32}
use mir.Val.{SFits}
use Rattle.record.specs.declared.Record.{Record}
use Rattle.record.specs.Format.{record_length}
use Rattle.record.specs.Records.{read_of, is_record}
use Rattle.record.proofs.Unrefused.{read_day_fits}
use Rattle.files.specs.Files.{when, starts_after, records_among}
use Rattle.files.specs.Inner.{at_end, sound_after, answers_from, sound, Standing}
use Rattle.files.proofs.Places.{Found, standing_front, standing_found, found_rest, standing_on, past_sound, past_unsound}
use Rattle.compare.specs.declared.Entry.{Entry}
use Rattle.compare.specs.declared.Place.{Place}
use Rattle.compare.specs.declared.Side.TheVariants.{FirstOnly, SecondOnly}
use Rattle.compare.specs.Walk.{alone, same_numbers, changed, differing, walk}
use Rattle.compare.specs.Inner.{record_at, records_from, record_in, place, start_of, behind, next_place, here, Going, count_of}
use Rattle.compare.proofs.Walks.{walk_first, walk_second, walk_both, walk_none, few_differing}
use Rattle.std.specs.Prelude.{Result, Some, None}
use Rattle.instants.specs.declared.refusal.Refusal.{Refusal}

-- ---- a file at a place

-- the records from a record on
module _ {s : List ℕ} {i m last : ℕ} (f : Found s i m last) where
  pub found_records : records_from s i ≡ f.it ∷ records_from s (i + record_length)
  found_records = ap records_among f.answers

  pub found_at : record_at s i ≡ f.it
  found_at = ap record_in f.reads

  pub found_reads : is_record (read_of (drop i s)) ≡ true
  found_reads = ap is_record f.reads

  -- its day number fits four bytes
  pub found_day : SFits w32 (record_at s i).day
  found_day = subst (λ (r : Record). SFits w32 r.day) (sym found_at) (read_day_fits _ _ f.reads)

-- in a sound file what is past the end is nothing
pub none_left : {s : List ℕ} {i m : ℕ} → Standing s i m → sound s ≡ true → at_end ≤ m → records_from s i ≡ []
none_left {s} {i} {m} p e h = by (ℕ_discrete m at_end)
  where
    by : Dec (m ≡ at_end) → records_from s i ≡ []
    by (yes y) = ap records_among (past_sound p h y).1
    by (no n) = absurd (true≢false (sym e ∙ past_unsound p h n))

-- in a sound file the next record, if there is one, is after every earlier moment
starts_later : {s : List ℕ} {i m : ℕ} → Standing s i m → sound s ≡ true → (t : ℕ) → t < m → starts_after t (records_from s i) ≡ true
starts_later {s} {i} {m} p e t h = by (dec_lt m at_end)
  where
    by : Dec (m < at_end) → starts_after t (records_from s i) ≡ true
    by (yes y) = let f = standing_found p y in ap (starts_after t) (found_records f) ∙ lt-ltb t (when f.it) (omega (arith, f.is))
    by (no n) = ap (starts_after t) (none_left p e (omega (arith, n)))

-- ---- a walk at a place

-- one of two moments is before the end, so the lesser is
lesser : (m n : ℕ) → (ltb m at_end || ltb n at_end) ≡ true → m ≤ n → m < at_end
lesser m n e h = by (ltb m at_end) refl e
  where
    by : (b : Bool) → ltb m at_end ≡ b → (b || ltb n at_end) ≡ true → m < at_end
    by true p e = ltb-true m at_end p
    by false p e = omega (arith, ltb-true n at_end e)

greater : (m n : ℕ) → (ltb m at_end || ltb n at_end) ≡ true → n ≤ m → n < at_end
greater m n e h = by (ltb m at_end) refl e
  where
    by : (b : Bool) → ltb m at_end ≡ b → (b || ltb n at_end) ≡ true → n < at_end
    by true p e = omega (arith, ltb-true m at_end p)
    by false p e = ltb-true n at_end e

module _ {s t : List ℕ} {p : Place} {known : Bool} (g : Going s t p known) where
  -- the record of the first file, where it is not the later
  module _ (h : p.m ≤ p.n) where
    pub first_before : p.m < at_end
    first_before = lesser p.m p.n g.going h

    pub first_found : Found s p.first p.m g.first.last
    first_found = standing_found g.first first_before

    pub first_room : p.first + record_length ≤ length s
    first_room = first_found.room

    pub first_known : known ≡ true → sound_after p.m (answers_from s (p.first + record_length)) ≡ true
    first_known k = sym (found_rest g.first first_before) ∙ (g.sounds k).0

    first_on : Standing s (p.first + record_length) (behind s p.first p.m)
    first_on = standing_on g.first _ first_before refl

  -- that of the second
  module _ (h : p.n ≤ p.m) where
    pub second_before : p.n < at_end
    second_before = greater p.m p.n g.going h

    pub second_found : Found t p.second p.n g.second.last
    second_found = standing_found g.second second_before

    pub second_room : p.second + record_length ≤ length t
    second_room = second_found.room

    pub second_known : known ≡ true → sound_after p.n (answers_from t (p.second + record_length)) ≡ true
    second_known k = sym (found_rest g.second second_before) ∙ (g.sounds k).1

    second_on : Standing t (p.second + record_length) (behind t p.second p.n)
    second_on = standing_on g.second _ second_before refl

-- The case analysis behind the laws of a step: what holds of the next place and of the entries here in each of the three cases.
module _ (s t : List ℕ) (p : Place) where
  pub in_step : (P : Place → List Entry → Type 0)
      → (p.m < p.n → P (place (p.first + record_length) p.second (behind s p.first p.m) p.n) (alone FirstOnly (record_at s p.first) ∷ []))
      → (p.n < p.m → P (place p.first (p.second + record_length) p.m (behind t p.second p.n)) (alone SecondOnly (record_at t p.second) ∷ []))
      → (p.m ≡ p.n → P (place (p.first + record_length) (p.second + record_length) (behind s p.first p.m) (behind t p.second p.n)) (differing (record_at s p.first) (record_at t p.second)))
      → P (next_place s t p) (here s t p)
  in_step P a b c = by (ltb p.m p.n) refl (ltb p.n p.m) refl
    where
      by : (x : Bool) → ltb p.m p.n ≡ x → (y : Bool) → ltb p.n p.m ≡ y
          → P (cond x (place (p.first + record_length) p.second (behind s p.first p.m) p.n)
          (cond y (place p.first (p.second + record_length) p.m (behind t p.second p.n))
          (place (p.first + record_length) (p.second + record_length) (behind s p.first p.m) (behind t p.second p.n))))
          (cond x (alone FirstOnly (record_at s p.first) ∷ [])
          (cond y (alone SecondOnly (record_at t p.second) ∷ []) (differing (record_at s p.first) (record_at t p.second))))
      by true d y e = a (ltb-true _ _ d)
      by false d true e = b (ltb-true _ _ e)
      by false d false e = c (omega (arith, ltb-false p.m p.n d, ltb-false p.n p.m e))

  -- what is listed here, in each case
  pub here_first : p.m < p.n → here s t p ≡ alone FirstOnly (record_at s p.first) ∷ []
  here_first h = rw (lt-ltb p.m p.n h) refl

  pub here_second : p.n < p.m → here s t p ≡ alone SecondOnly (record_at t p.second) ∷ []
  here_second h = rw (le-ltb p.m p.n (omega arith), lt-ltb p.n p.m h) refl

  module _ (h : p.n ≤ p.m) (k : p.m ≤ p.n) where
    here_both : here s t p ≡ differing (record_at s p.first) (record_at t p.second)
    here_both = rw (le-ltb p.m p.n h, le-ltb p.n p.m k) refl

    pub here_same : same_numbers (record_at s p.first) (record_at t p.second) ≡ true → here s t p ≡ []
    here_same e = here_both ∙ rw e refl

    pub here_changed : same_numbers (record_at s p.first) (record_at t p.second) ≡ false → here s t p ≡ changed (record_at s p.first) (record_at t p.second) ∷ []
    here_changed e = here_both ∙ rw e refl

-- ---- a step

-- both files at the next place, which is nearer to their ends, and at most one entry for a record
pub record Stepped (s t : List ℕ) (p q : Place) (es : List Entry) : Type 0 where
  pub first : Standing s q.first q.m
  pub second : Standing t q.second q.n
  pub few : record_length * length es + (p.first + p.second) ≤ q.first + q.second
  pub on : p.first + p.second < q.first + q.second
  pub lists : sound s ≡ true → sound t ≡ true
      → walk (records_from s p.first) (records_from t p.second) ≡ es ++ walk (records_from s q.first) (records_from t q.second)

module _ {s t : List ℕ} {p : Place} {known : Bool} (g : Going s t p known) where
  pub stepped : Stepped s t p (next_place s t p) (here s t p)
  stepped = in_step s t p (Stepped s t p)
      (λ h.
      let l : p.m ≤ p.n = omega arith in
      let f = first_found g l in
      record {
        first = first_on g l;
        second = g.second;
        few = omega arith;
        on = omega arith;
        lists = λ a b.
            ap (λ (rs : List Record). walk rs (records_from t p.second)) (found_records f)
            ∙ (walk_first f.it _ _ (ap (λ (k : ℕ). starts_after k (records_from t p.second)) f.is ∙ starts_later g.second b p.m h)
            ∙ ap (λ (r : Record). alone FirstOnly r ∷ walk (records_from s (p.first + record_length)) (records_from t p.second)) (sym (found_at f)));
      })
      (λ h.
      let l : p.n ≤ p.m = omega arith in
      let f = second_found g l in
      record {
        first = g.first;
        second = second_on g l;
        few = omega arith;
        on = omega arith;
        lists = λ a b.
            ap (λ (qs : List Record). walk (records_from s p.first) qs) (found_records f)
            ∙ (walk_second f.it _ _ (ap (λ (k : ℕ). starts_after k (records_from s p.first)) f.is ∙ starts_later g.first a p.n h)
            ∙ ap (λ (r : Record). alone SecondOnly r ∷ walk (records_from s p.first) (records_from t (p.second + record_length))) (sym (found_at f)));
      })
      (λ h.
      let l : p.m ≤ p.n = omega arith in
      let k : p.n ≤ p.m = omega arith in
      let f = first_found g l in
      let e = second_found g k in
      record {
        first = first_on g l;
        second = second_on g k;
        few = omega (arith, few_differing (record_at s p.first) (record_at t p.second));
        on = omega arith;
        lists = λ a b.
            ap₂ walk (found_records f) (found_records e)
            ∙ (walk_both f.it e.it _ _ (f.is ∙ (h ∙ sym e.is))
            ∙ ap₂ (λ (r q : Record). differing r q ++ walk (records_from s (p.first + record_length)) (records_from t (p.second + record_length))) (sym (found_at f)) (sym (found_at e)));
      })

  -- so a walk ends
  pub step_less : (q : Place) → q ≡ next_place s t p → length s + length t - (q.first + q.second) < length s + length t - (p.first + p.second)
  step_less q e = rw e (omega (arith, stepped.on, stepped.first.within, stepped.second.within))

-- ---- counting

-- the entries that are counted, and those that the walk still lists, are all
pub record Counting (s t : List ℕ) (p : Place) (n : ℕ) : Type 0 where
  pub first : Standing s p.first p.m
  pub second : Standing t p.second p.n
  pub few : record_length * n ≤ p.first + p.second
  pub all : sound s ≡ true → sound t ≡ true
      → n + length (walk (records_from s p.first) (records_from t p.second)) ≡ length (walk (records_from s 0) (records_from t 0))

module _ (s t : List ℕ) where
  pub first_standing : (p : Place) → p ≡ start_of s t → Standing s p.first p.m
  first_standing p e = rw e (standing_front s _ refl)

  pub second_standing : (p : Place) → p ≡ start_of s t → Standing t p.second p.n
  second_standing p e = rw e (standing_front t _ refl)

  pub counting_none : (p : Place) → p ≡ start_of s t → Counting s t p 0
  counting_none p e = record { first = first_standing p e; second = second_standing p e; few = omega arith; all = λ a b. rw e (omega arith) }

module _ {s t : List ℕ} {p : Place} {n : ℕ} (c : Counting s t p n) where
  pub counting_going : (ltb p.m at_end || ltb p.n at_end) ≡ true → Going s t p false
  counting_going e = record { first = c.first; second = c.second; going = e; sounds = λ k. absurd (true≢false (sym k)) }

  pub counting_more : (e : (ltb p.m at_end || ltb p.n at_end) ≡ true) → (k : ℕ) (q : Place) → k ≡ length (here s t p) → q ≡ next_place s t p → Counting s t q (n + k)
  counting_more e k q x y =
      let z = stepped (counting_going e) in
      rw y record {
        first = z.first;
        second = z.second;
        few = omega (arith, c.few, z.few, x);
        all = λ a b. omega (arith, c.all a b, ap length (z.lists a b), length-append (here s t p) (walk (records_from s (next_place s t p).first) (records_from t (next_place s t p).second)), x);
      }

  -- at most one for each record
  pub counting_most : n ≤ length s + length t
  counting_most = omega (arith, c.few, c.first.within, c.second.within)

  -- where both files have ended
  pub counting_all : p.m ≡ at_end → p.n ≡ at_end → (sound s ≡ true) × (sound t ≡ true) × (n ≡ length (walk (records_from s 0) (records_from t 0)))
  counting_all x y =
      let a = past_sound c.first (omega (arith, x)) x in
      let b = past_sound c.second (omega (arith, y)) y in
      let w : length (walk (records_from s p.first) (records_from t p.second)) ≡ 0 = ap₂ (λ (f g : List (Result Record Refusal)). length (walk (records_among f) (records_among g))) a.1 b.1 ∙ ap length walk_none in
      (a.0, b.0, omega (arith, w, c.all a.0 b.0))

  -- one that is not sound
  pub counting_first : at_end ≤ p.m → (p.m ≡ at_end → ⊥) → None ≡ count_of s t
  unfolding count_of
  counting_first h x = rw (past_unsound c.first h x) refl

  pub counting_second : p.m ≡ at_end → at_end ≤ p.n → (p.n ≡ at_end → ⊥) → None ≡ count_of s t
  unfolding count_of
  counting_second x h y = rw ((past_sound c.first (omega (arith, x)) x).0, past_unsound c.second h y) refl

  pub counting_done : p.m ≡ at_end → p.n ≡ at_end → Some n ≡ count_of s t
  unfolding count_of
  counting_done x y = let a = counting_all x y in rw (a.0, a.1, a.2) refl
