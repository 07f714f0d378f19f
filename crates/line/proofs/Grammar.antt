-- What is parsed is what the grammar says, and how much of the bytes decides it. A number that is written is the digits up to the first byte that is
-- none, so it is found, and one that is found was written; five of them in turn are a line. A line has at most 55 bytes, and ends in a newline.
-- Assumes nothing.
use Prim.Native.Nat.{ℕ, suc, ◌+◌, ◌-◌, ◌≤◌}
use mathlib.Core.Path.{◌≡◌, refl, ap, ◌∙◌, sym}
use mathlib.Core.Bool.{Bool, true, false, cond}
use mathlib.Core.List.{List, [], ◌∷◌, ◌++◌, append_assoc}
use mathlib.Core.Logic.{◌↔◌}
use native.Mathlib.Omega.{arith}
use lib.Dec.{eqb, ltb}
use lib.ListN.{length, get_or, take, drop, length-append, take-append-drop}
use lib.Seq.{take-append-add, drop-append_seam, get_or-append_seam}
use borrow.Author.Tests.{le-ltb, eq-eqb, ltb-false, eqb-true}
use Rattle.line.specs.declared.Line.{Line}
use Rattle.line.specs.Lines.{is_digit, digits, decimal, Start, Number, NoNumber, ended_by, read_number, and_then, space, newline, line_of}
use Rattle.line.specs.Grammar.{Writes, IsLine}
use Rattle.line.proofs.Scanning.{impossible, digits_more, digits_none}
use Rattle.std.specs.Prelude.{Option, Some, None}

-- ---- a number

all_digits : (d : ℕ) (ds : List ℕ) → digits (d ∷ ds) ≡ d ∷ ds → (is_digit d ≡ true) × (digits ds ≡ ds)
all_digits d ds e = by (is_digit d) refl
  where
    by : (t : Bool) → is_digit d ≡ t → (is_digit d ≡ true) × (digits ds ≡ ds)
    by true p = (p, cc (digits_more d ds p))
    by false p = impossible (cc (digits_none d ds p))

-- digits end at a byte that is none
digits_end : (ds : List ℕ) (x : ℕ) (r : List ℕ) → digits ds ≡ ds → is_digit x ≡ false → digits (ds ++ x ∷ r) ≡ ds
digits_end [] x r e n = digits_none x r n
digits_end (d ∷ ds) x r e n =
    let a = all_digits d ds e in
    digits_more d (ds ++ x ∷ r) a.0 ∙ ap (λ (l : List ℕ). d ∷ l) (digits_end ds x r a.1 n)

-- a number that is written is found
number_is : (end : ℕ) (ds : List ℕ) {v : ℕ} → is_digit end ≡ false → Writes ds v → (r : List ℕ) → read_number end (ds ++ end ∷ r) ≡ Number v r
unfolding read_number
number_is end ds n w r =
    rw (digits_end ds end r w.every n)
    (simp (le-ltb (length ds) 1 w.least, le-ltb 10 (length ds) w.few, drop-append_seam ds (end ∷ r), eq-eqb end end refl, w.value))

digits_split : (s : List ℕ) → digits s ++ drop (length (digits s)) s ≡ s
unfolding digits
digits_split [] = refl
digits_split (x ∷ s) = by (is_digit x) refl (digits_split s)
  where
    by : (t : Bool) → is_digit x ≡ t → digits s ++ drop (length (digits s)) s ≡ s → digits (x ∷ s) ++ drop (length (digits (x ∷ s))) (x ∷ s) ≡ x ∷ s
    by true p e = rw (digits_more x s p) (ap (λ (l : List ℕ). x ∷ l) e)
    by false p e = rw (digits_none x s p) refl

digits_all : (s : List ℕ) → digits (digits s) ≡ digits s
unfolding digits
digits_all [] = refl
digits_all (x ∷ s) = by (is_digit x) refl (digits_all s)
  where
    by : (t : Bool) → is_digit x ≡ t → digits (digits s) ≡ digits s → digits (digits (x ∷ s)) ≡ digits (x ∷ s)
    by true p e = rw (digits_more x s p) (digits_more x (digits s) p ∙ ap (λ (l : List ℕ). x ∷ l) e)
    by false p e = rw (digits_none x s p) refl

-- the bytes are a number that writes v, the byte `end`, and then r
record Begins (end : ℕ) (s : List ℕ) (v : ℕ) (r : List ℕ) : Type 0 where
  bytes : s ≡ digits s ++ end ∷ r
  writes : Writes (digits s) v

-- a number that is found is written
begins : (end : ℕ) (s : List ℕ) (v : ℕ) (r : List ℕ) → read_number end s ≡ Number v r → Begins end s v r
unfolding read_number
begins end s v r e = by (ltb (length (digits s)) 1) (ltb 10 (length (digits s))) (drop (length (digits s)) s) refl refl refl e
  where
    ends : (t : List ℕ) → ended_by end (decimal (digits s)) t ≡ Number v r → (t ≡ end ∷ r) × (decimal (digits s) ≡ v)
    ends [] e = impossible (cc)
    ends (x ∷ t) e = at (eqb x end) refl e
      where
        at : (a : Bool) → eqb x end ≡ a → cond a (Number (decimal (digits s)) t) NoNumber ≡ Number v r → (x ∷ t ≡ end ∷ r) × (decimal (digits s) ≡ v)
        at true p e = let q : x ≡ end = eqb-true x end p in (cc, cc)
        at false p e = impossible (cc)

    by : (a b : Bool) (t : List ℕ) → ltb (length (digits s)) 1 ≡ a → ltb 10 (length (digits s)) ≡ b → drop (length (digits s)) s ≡ t
        → cond a NoNumber (cond b NoNumber (ended_by end (decimal (digits s)) t)) ≡ Number v r → Begins end s v r
    by true b t p q d e = impossible (cc)
    by false true t p q d e = impossible (cc)
    by false false t p q d e =
        let f = ends t e in
        record {
          bytes = sym (digits_split s) ∙ ap (λ (l : List ℕ). digits s ++ l) (d ∙ f.0);
          writes = record { every = digits_all s; least = ltb-false (length (digits s)) 1 p; few = ltb-false 10 (length (digits s)) q; value = f.1 };
        }

-- ---- a line

-- a line that goes on has found its number
record Went (a : Start) (f : ℕ → List ℕ → (Option Line)) (l : Line) : Type 0 where
  number : ℕ
  left : List ℕ
  found : a ≡ Number number left
  then : f number left ≡ Some l

went : (a : Start) (f : ℕ → List ℕ → (Option Line)) (l : Line) → and_then a f ≡ Some l → Went a f l
went (Number v r) f l e = record { number = v; left = r; found = refl; then = e }
went NoNumber f l e = impossible (cc)

regroup : (a b c d e f : List ℕ) → a ++ b ++ c ++ d ++ e ++ f ≡ a ++ (b ++ (c ++ (d ++ (e ++ f))))
regroup a b c d e f = simp append_assoc

-- five numbers, of which each is followed by the rest of the line
apart : (a b c d e r : List ℕ) → a ++ space ∷ b ++ space ∷ c ++ space ∷ d ++ space ∷ e ++ newline ∷ r ≡ a ++ space ∷ (b ++ space ∷ (c ++ space ∷ (d ++ space ∷ (e ++ newline ∷ r))))
apart a b c d e r = regroup a (space ∷ b) (space ∷ c) (space ∷ d) (space ∷ e) (newline ∷ r)

on : {s : List ℕ} (a : List ℕ) {r t : List ℕ} → s ≡ a ++ space ∷ r → r ≡ t → s ≡ a ++ space ∷ t
on a p q = p ∙ ap (λ (t : List ℕ). a ++ space ∷ t) q

whole : (s s₁ s₂ s₃ s₄ s₅ : List ℕ) (y m d c e : ℕ) → Begins space s y s₁ → Begins space s₁ m s₂ → Begins space s₂ d s₃ → Begins space s₃ c s₄ → Begins newline s₄ e s₅
    → IsLine s (record { year = y; month = m; day = d; count = c; step = e })
whole s s₁ s₂ s₃ s₄ s₅ y m d c e p₁ p₂ p₃ p₄ p₅ =
    record {
      year = digits s;
      month = digits s₁;
      day = digits s₂;
      count = digits s₃;
      step = digits s₄;
      rest = s₅;
      bytes = on (digits s) p₁.bytes (on (digits s₁) p₂.bytes (on (digits s₂) p₃.bytes (on (digits s₃) p₄.bytes p₅.bytes))) ∙ sym (apart (digits s) (digits s₁) (digits s₂) (digits s₃) (digits s₄) s₅);
      is_year = p₁.writes;
      is_month = p₂.writes;
      is_day = p₃.writes;
      is_count = p₄.writes;
      is_step = p₅.writes;
    }

is_line : (s : List ℕ) (l : Line) → line_of s ≡ Some l → IsLine s l
unfolding line_of
is_line s l e =
    let a = went (read_number space s) _ l e in
    let b = went (read_number space a.left) _ l a.then in
    let c = went (read_number space b.left) _ l b.then in
    let d = went (read_number space c.left) _ l c.then in
    let f = went (read_number newline d.left) _ l d.then in
    let q : record { year = a.number; month = b.number; day = c.number; count = d.number; step = f.number } ≡ l = cc f.then in
    rw q at
    (whole s a.left b.left c.left d.left f.left a.number b.number c.number d.number f.number
    (begins space s _ _ a.found)
    (begins space a.left _ _ b.found)
    (begins space b.left _ _ c.found)
    (begins space c.left _ _ d.found)
    (begins newline d.left _ _ f.found))

is_parsed : (s : List ℕ) (l : Line) → IsLine s l → line_of s ≡ Some l
unfolding line_of
is_parsed s l w =
    rw (w.bytes, apart)
    (simp (
      number_is space w.year refl w.is_year,
      number_is space w.month refl w.is_month,
      number_is space w.day refl w.is_day,
      number_is space w.count refl w.is_count,
      number_is newline w.step refl w.is_step,
    ))

-- PROMISE. Bytes are parsed as five numbers exactly when they are those numbers, each of 1 to 10 digits (leading zeros are
-- digits too), with one space between and a newline after, whatever follows. All other bytes are a bad line.
pub parsed_exactly : (s : List ℕ) (l : Line) → line_of s ≡ Some l ↔ IsLine s l
parsed_exactly s l = (is_line s l, is_parsed s l)

-- ---- how much of the bytes decides

same_lines : (s t : List ℕ) → ((l : Line) → line_of s ≡ Some l → line_of t ≡ Some l) → ((l : Line) → line_of t ≡ Some l → line_of s ≡ Some l) → line_of s ≡ line_of t
same_lines s t f g = by (line_of s) (line_of t) f g
  where
    by : (a b : (Option Line)) → ((l : Line) → a ≡ Some l → b ≡ Some l) → ((l : Line) → b ≡ Some l → a ≡ Some l) → a ≡ b
    by (Some l) b f g = sym (f l refl)
    by None (Some k) f g = g k refl
    by None None f g = refl

-- the same line with other bytes after it
with_rest : {s : List ℕ} {l : Line} (w : IsLine s l) (t r : List ℕ) → t ≡ w.year ++ space ∷ w.month ++ space ∷ w.day ++ space ∷ w.count ++ space ∷ w.step ++ newline ∷ r → line_of t ≡ Some l
with_rest {s} {l} w t r e =
    is_parsed t l
    (record {
      year = w.year;
      month = w.month;
      day = w.day;
      count = w.count;
      step = w.step;
      rest = r;
      bytes = e;
      is_year = w.is_year;
      is_month = w.is_month;
      is_day = w.is_day;
      is_count = w.is_count;
      is_step = w.is_step;
    })

-- the first 55 bytes decide: five times ten digits, four spaces and the newline
pub first_bytes : (s : List ℕ) → line_of (take 55 s) ≡ line_of s
first_bytes s = same_lines (take 55 s) s longer shorter
  where
    longer : (l : Line) → line_of (take 55 s) ≡ Some l → line_of s ≡ Some l
    longer l e =
        let w = is_line (take 55 s) l e in
        let p : List ℕ = w.year ++ space ∷ w.month ++ space ∷ w.day ++ space ∷ w.count ++ space ∷ w.step in
        with_rest w s (w.rest ++ drop 55 s) (sym (take-append-drop 55 s) ∙ (ap (λ (t : List ℕ). t ++ drop 55 s) w.bytes ∙ append_assoc p (newline ∷ w.rest) (drop 55 s)))

    shorter : (l : Line) → line_of s ≡ Some l → line_of (take 55 s) ≡ Some l
    shorter l e =
        let w = is_line s l e in
        let p : List ℕ = w.year ++ space ∷ w.month ++ space ∷ w.day ++ space ∷ w.count ++ space ∷ w.step in
        let n : length p ≤ 54 = simp length-append (omega (arith, w.is_year.few, w.is_month.few, w.is_day.few, w.is_count.few, w.is_step.few)) in
        let k : 55 ≡ length p + suc (54 - length p) = omega arith in
        with_rest w (take 55 s) (take (54 - length p) w.rest)
        (ap (take 55) w.bytes ∙ (ap (λ (j : ℕ). take j (p ++ newline ∷ w.rest)) k ∙ take-append-add p (newline ∷ w.rest) (suc (54 - length p))))

-- bytes with no newline among them are a bad line
pub no_newline : (s : List ℕ) → ((i : ℕ) → get_or s i 0 ≡ newline → ⊥) → line_of s ≡ None
no_newline s none = by (line_of s) refl
  where
    by : (a : (Option Line)) → line_of s ≡ a → a ≡ None
    by None e = refl
    by (Some l) e =
        let w = is_line s l e in
        let p : List ℕ = w.year ++ space ∷ w.month ++ space ∷ w.day ++ space ∷ w.count ++ space ∷ w.step in
        absurd (none (length p) (ap (λ (t : List ℕ). get_or t (length p) 0) w.bytes ∙ get_or-append_seam p newline w.rest 0))
