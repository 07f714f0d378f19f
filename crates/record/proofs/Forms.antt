-- Bytes are of the right form exactly when none of the cases of the form applies; then the cases of reading that are left are those of the clock words,
-- so reading refuses or answers as joining the words does. Assumes nothing.
use Rattle.std.proofs.Common.{◌≡◌, ℕ, ◌%◌, ◌≤◌, false, List, length, ℤ, pos, sym, ap, ◌∙◌, ltb-false, le-ltb, eq-eqb, ne_eqb, eqb-true, true≢false}
use borrow.Author.Tests.{not-false}
use Rattle.bigendian.specs.Numbers.{word_sum}
use Rattle.instants.specs.declared.Instant.{Instant}
use Rattle.instants.specs.Refusals.{refused_or}
use Rattle.instants.specs.Instants.{instant}
use Rattle.instants.proofs.Impossible.{impossible}
use Rattle.instants.proofs.FirstRefusal.{NoneApplies, none_both, answered_none, none_answered, refused_alike, refused_checked, passed_none}
use Rattle.clock.specs.Words.{mark_unit, join_cases, join_of}
use Rattle.record.specs.declared.Record.{Record}
use Rattle.bigendian.specs.Fields.{field_at}
use Rattle.record.specs.Format.{record_length, version, length_field, version_field, zero_field, day_field, time_field}
use Rattle.record.specs.Records.{record_with, head_cases, form_cases, read_cases, record_of, read_of, is_record}
use Rattle.record.specs.Inner.{head_of, form_of}
use Rattle.std.specs.Prelude.{Result, ⊤, Ok, Err}
use Rattle.std.specs.Result.{is_ok}
use Rattle.instants.specs.declared.refusal.Refusal.{Refusal}
use Rattle.instants.specs.declared.refusal.Refusal.TheVariants.{RecordSum}

-- bytes of the right form
pub record Formed (s : List ℕ) : Type 0 where
  pub long : record_length ≤ length s
  pub version : field_at s version_field ≡ version
  pub size : field_at s length_field ≡ record_length
  pub zero_byte : field_at s zero_field ≡ 0
  pub zero_sum : word_sum s 15 % 0x1_0000 ≡ 0

none_formed : (s : List ℕ) → NoneApplies (form_cases s) → Formed s
none_formed s h = record {
  long = ltb-false _ _ h.0;
  version = eqb-true _ _ (not-false _ h.1.0);
  size = eqb-true _ _ (not-false _ h.1.1.0);
  zero_byte = eqb-true _ _ (not-false _ h.1.1.1.0);
  zero_sum = eqb-true _ _ (not-false _ h.1.1.1.1.0);
}

pub formed : (s : List ℕ) → form_of s ≡ Ok tt → Formed s
unfolding form_of
formed s e = none_formed s (passed_none (form_cases s) tt e)

pub form_right : (s : List ℕ) → Formed s → form_of s ≡ Ok tt
unfolding form_of
form_right s f =
    simp (le-ltb (length s) record_length f.long, eq-eqb _ _ f.version, eq-eqb _ _ f.size, eq-eqb _ _ f.zero_byte, eq-eqb _ _ f.zero_sum)

-- what it means that bytes were read as a record
pub record WasRead (s : List ℕ) (r : Record) : Type 0 where
  pub form : Formed s
  pub instant : Instant
  pub join : join_of (pos (field_at s day_field)) (field_at s time_field) ≡ Ok instant
  pub is : r ≡ record_of instant s

pub was_read : (s : List ℕ) (r : Record) → read_of s ≡ Ok r → WasRead s r
unfolding read_of join_of
was_read s r e =
    let d = pos (field_at s day_field) in
    let t = field_at s time_field in
    let q = answered_none Err (read_cases s) (Ok (record_of (instant d (t % mark_unit)) s)) (Ok r) (λ n p. impossible (cc)) e in
    let n = none_both (form_cases s) (join_cases d t) q.0 in
    let g : Ok (record_of (instant d (t % mark_unit)) s) ≡ Ok r = q.1 in
    record {
      form = none_formed s n.0;
      instant = instant d (t % mark_unit);
      join = none_answered Err (join_cases d t) _ n.1;
      is = cc;
    }

-- ---- the tests of the code

module _ (s : List ℕ) where
  -- a head that is refused
  pub head_refused : (r : Refusal) → head_of s ≡ Err r → form_of s ≡ Err r
  unfolding head_of form_of
  head_refused r e = refused_checked Err (head_cases s) _ r e

  -- without a head nothing reads
  pub head_needed : (r : Refusal) → head_of s ≡ Err r → is_record (read_of s) ≡ false
  unfolding head_of read_of
  head_needed r e = let q : read_of s ≡ Err r = refused_checked Err (head_cases s) _ r e in ap is_record q

  -- and without a form
  pub form_refused : (r : Refusal) → form_of s ≡ Err r → read_of s ≡ Err r
  unfolding form_of read_of
  form_refused r e = refused_checked Err (form_cases s) _ r e

  pub headless : (x : Result ⊤ Refusal) → head_of s ≡ x → is_ok x ≡ false → is_ok x ≡ is_record (read_of s)
  headless (Ok u) e f = absurd (true≢false f)
  headless (Err r) e f = sym (head_needed r e)

  -- one that is not, and the sum behind it
  module _ (e : head_of s ≡ Ok tt) where
    none : NoneApplies (head_cases s)
    unfolding head_of
    none = passed_none (head_cases s) tt e

    pub head_long : record_length ≤ length s
    head_long = ltb-false _ _ none.0

    pub sum_refused : (word_sum s 15 % 0x1_0000 ≡ 0 → ⊥) → form_of s ≡ Err RecordSum
    unfolding form_of
    sum_refused h = none_answered Err (head_cases s) _ none ∙ simp (ne_eqb _ _ h)

    pub sum_needed : (word_sum s 15 % 0x1_0000 ≡ 0 → ⊥) → is_record (read_of s) ≡ false
    unfolding read_of
    sum_needed h = let r : read_of s ≡ Err RecordSum = none_answered Err (head_cases s) _ none ∙ simp (ne_eqb _ _ h) in ap is_record r

    pub form_accepted : word_sum s 15 % 0x1_0000 ≡ 0 → form_of s ≡ Ok tt
    unfolding form_of
    form_accepted h = none_answered Err (head_cases s) _ none ∙ simp (eq-eqb _ _ h)

-- what bytes of the right form give: the refusal of the clock words, or a record
module _ (s : List ℕ) (e : form_of s ≡ Ok tt) where
  abbrev day : ℤ
  day = pos (field_at s day_field)

  abbrev time : ℕ
  time = field_at s time_field

  words_read : read_of s ≡ refused_or Err (join_cases day time) (Ok (record_of (instant day (time % mark_unit)) s))
  unfolding read_of form_of
  words_read = none_answered Err (form_cases s) _ (passed_none (form_cases s) tt e)

  pub read_refused : (n : Refusal) → join_of day time ≡ Err n → read_of s ≡ Err n
  unfolding join_of
  read_refused n j = words_read ∙ refused_alike Err Err (join_cases day time) _ _ n (λ k p. cc) (λ p. impossible (cc)) j

  pub read_joined : (i : Instant) → join_of day time ≡ Ok i → read_of s ≡ Ok (record_of i s)
  unfolding join_of
  read_joined i j =
      let q = answered_none Err (join_cases day time) (Ok (instant day (time % mark_unit))) (Ok i) (λ n p. impossible (cc)) j in
      let g : Ok (instant day (time % mark_unit)) ≡ Ok i = q.1 in
      let f : instant day (time % mark_unit) ≡ i = cc in
      words_read ∙ (none_answered Err (join_cases day time) _ q.0 ∙ ap (λ (x : Instant). Ok (record_of x s)) f)

  -- and so it is a record exactly where they are joined
  pub read_is : (x : Result Instant Refusal) → join_of day time ≡ x → is_ok x ≡ is_record (read_of s)
  read_is (Ok i) j = sym (ap is_record (read_joined i j))
  read_is (Err n) j = sym (ap is_record (read_refused n j))

-- records with equal numbers
pub alike : (d : ℤ) (m : ℕ) {x x' y y' u u' : ℤ} → x ≡ x' → y ≡ y' → u ≡ u'
    → ◌≡◌ {A = Result Record Refusal} (Ok (record_with d m x y u)) (Ok (record_with d m x' y' u'))
alike d m p q r = simp (p, q, r)
