-- The refusals of record files, in the figures of specs/AnyInput.antt: those of reading one after the other, and an instant that is not before the next.
-- Assumes nothing.
use Prim.Native.Nat.{ℕ, zero, suc, ◌+◌, ◌-◌, ◌*◌, ◌/◌}
use mathlib.Core.Path.{◌≡◌, refl, ap, ap₂, sym, ◌∙◌}
use mathlib.Core.Bool.{Bool, true, false, cond, not, ◌&&◌, ◌||◌, true≢false}
use mathlib.Core.List.{List, [], ◌∷◌, ◌++◌, append_assoc}
use native.Mathlib.Omega.{arith}
use lib.Dec.{eqb, ltb}
use lib.ListN.{length, drop}
use lib.Seq.{drop-drop}
use borrow.Author.Tests.{ne_eqb}
use Rattle.instants.specs.Refusals as named
use Rattle.instants.specs.Refusals.{number}
use Rattle.instants.proofs.FirstRefusal.{NoneApplies, number_positive}
use Rattle.promises.specs.Figures.{Case, case, first_refusal}
use Rattle.promises.proofs.Figures.{figures, in_figures}
use Rattle.record.specs.Format.{record_length}
use Rattle.record.specs.Records.{read_of, read_refusal_of}
use Rattle.record.proofs.Unrefused.{read_accepted}
use Rattle.files.specs.Files.{answers, answers_in, records_among, when, rises, length_cases, reading_cases, order_cases, file_cases}
use Rattle.rows.specs.Table.{some_below}
use Rattle.rows.proofs.Accepted.{some_same}
use Rattle.instants.proofs.Order.{moment_order}
use Rattle.compare.specs.Compare.{entry_length, entries_of, compare_of, compare_refusal_of}
use Rattle.compare.proofs.Promises.{compare_refusal}
use Rattle.promises.specs.AnyInput.{refusal12, cases_below, read_at, record_refusals, not_before, refusal28, file_refusals}
use Rattle.std.specs.Prelude.{Result, Ok, Err}
use Rattle.record.specs.declared.Record.{Record}
use Rattle.instants.specs.declared.refusal.Refusal.{Refusal}
use Rattle.instants.specs.declared.refusal.Refusal.TheVariants.{BufferShort}

-- ---- by place

-- what is read one record on
next_read : (s : List ℕ) (k : ℕ) → read_at s (suc k) ≡ read_at (drop 30 s) k
next_read s k =
    let e : 30 * suc k ≡ 30 + 30 * k = omega arith in
    ap (λ (i : ℕ). read_of (drop i s)) e ∙ ap read_of (sym (drop-drop (30 * k) 30 s))

-- a test at one of the first places is that at the front, or at one of the others
some_front : (n : ℕ) (f : ℕ → Bool) → some_below (suc n) f ≡ (f 0 || some_below n (λ k. f (suc k)))
some_front zero f = refl
some_front (suc n) f = ap (λ (b : Bool). f (suc n) || b) (some_front n f) ∙ swap (f (suc n)) (f 0) (some_below n (λ k. f (suc k)))
  where
    swap : (a b c : Bool) → (a || (b || c)) ≡ (b || (a || c))
    swap true true c = refl
    swap true false c = refl
    swap false b c = refl

cases_same : (n : ℕ) (f g : ℕ → Case) → ((k : ℕ) → f k ≡ g k) → cases_below n f ≡ cases_below n g
cases_same zero f g h = refl
cases_same (suc n) f g h = ap₂ (λ (c : Case) (cs : List Case). c ∷ cs) (h 0) (cases_same n (λ k. f (suc k)) (λ k. g (suc k)) (λ k. h (suc k)))

-- ---- reading

positive : (r : Refusal) → number r ≡ 0 → ⊥
positive r e = omega (arith, number_positive r)

-- the case of an answer, by its refusal number
abbrev case_of : Result Record Refusal → Case
case_of a = case (read_refusal_of a) (not (eqb (read_refusal_of a) 0))

-- an answer that is a record has no case; another has one that applies
reading : (n : ℕ) (s : List ℕ) (es : List Case) → first_refusal (figures (reading_cases (answers n s)) ++ es) ≡ first_refusal (cases_below n (λ k. case_of (read_at s k)) ++ es)
reading zero s es = refl
reading (suc n) s es =
    by (read_of s)
    (reading n (drop record_length s) es
    ∙ ap (λ (cs : List Case). first_refusal (cs ++ es)) (cases_same n (λ k. case_of (read_at (drop 30 s) k)) (λ k. case_of (read_at s (suc k))) (λ k. ap case_of (sym (next_read s k)))))
  where
    rest : List Case
    rest = cases_below n (λ k. case_of (read_at s (suc k)))

    by : (a : Result Record Refusal)
        → first_refusal (figures (reading_cases (answers n (drop record_length s))) ++ es) ≡ first_refusal (rest ++ es)
        → first_refusal (figures (reading_cases (a ∷ answers n (drop record_length s))) ++ es) ≡ first_refusal (case_of a ∷ (rest ++ es))
    by (Ok r) h = h
    by (Err m) h =
        let p : not (eqb (number m) 0) ≡ true = ap not (ne_eqb (number m) 0 (λ e. positive m e)) in
        ap (λ (b : Bool). cond b (number m) (first_refusal (rest ++ es))) (sym p)

-- ---- the order

neither : (a b : Bool) → not (a && b) ≡ (not a || not b)
neither true b = refl
neither false b = refl

-- where all records read, one is not before the next exactly when they do not rise
order : (n : ℕ) (s : List ℕ) → NoneApplies (reading_cases (answers n s)) → not (rises (records_among (answers n s))) ≡ some_below (n - 1) (λ k. not_before (read_at s k) (read_at s (suc k)))
order zero s h = refl
order (suc zero) s h = by (read_of s) h
  where
    by : (a : (Result Record Refusal)) → NoneApplies (reading_cases (a ∷ [])) → not (rises (records_among (a ∷ []))) ≡ false
    by (Ok r) h = refl
    by (Err m) h = refl
order (suc (suc n)) s h = by (read_of s) refl (read_of (drop record_length s)) refl h (order (suc n) (drop record_length s))
  where
    f : ℕ → Bool
    f k = not_before (read_at s k) (read_at s (suc k))

    g : ℕ → Bool
    g k = not_before (read_at (drop record_length s) k) (read_at (drop record_length s) (suc k))

    one_on : (k : ℕ) → g k ≡ f (suc k)
    one_on k = ap₂ not_before (sym (next_read s k)) (sym (next_read s (suc k)))

    less : (k : ℕ) → suc k - 1 ≡ k
    less k = omega arith

    more : List (Result Record Refusal)
    more = answers n (drop record_length (drop record_length s))

    by : (a : (Result Record Refusal)) → read_of s ≡ a → (b : (Result Record Refusal)) → read_of (drop record_length s) ≡ b → NoneApplies (reading_cases (a ∷ b ∷ more))
        → (NoneApplies (reading_cases (b ∷ more)) → not (rises (records_among (b ∷ more))) ≡ some_below (suc n - 1) g) → not (rises (records_among (a ∷ b ∷ more))) ≡ some_below (suc (suc n) - 1) f
    by (Err m) p b q h i = absurd (true≢false h.0)
    by (Ok r) p (Err m) q h i = absurd (true≢false h.0)
    by (Ok r) p (Ok u) q h i =
        let o = moment_order r.day r.micros u.day u.micros (read_accepted s r p) (read_accepted (drop record_length s) u q) in
        neither (ltb (when r) (when u)) (rises (u ∷ records_among more))
        ∙ (ap₂ ◌||◌ (ap not o ∙ sym (ap₂ not_before p q)) (i h ∙ (ap (λ (k : ℕ). some_below k g) (less n) ∙ some_same g (λ k. f (suc k)) n (λ k _. one_on k)))
        ∙ (sym (some_front n f) ∙ ap (λ (k : ℕ). some_below k f) (sym (less (suc n)))))

-- ---- a file

pub file_figures : (s : List ℕ) (more : List named.Case) (more' : List Case) → named.first_refusal more ≡ first_refusal more'
    → named.first_refusal (file_cases s ++ more) ≡ first_refusal (file_refusals s ++ more')
unfolding file_cases answers_in number
file_figures s more more' e =
    let n : ℕ = length s / record_length in
    let R : List named.Case = reading_cases (answers n s) in
    let O : List named.Case = order_cases (records_among (answers n s)) in
    in_figures (length_cases (length s)) ((R ++ O) ++ more) ((record_refusals s ++ refusal28 s ∷ []) ++ more')
    (λ _.
    ap named.first_refusal (append_assoc R O more)
    ∙ (in_figures R (O ++ more) (refusal28 s ∷ more') (λ h. ap₂ (λ (b : Bool) (k : ℕ). cond b 28 k) (order n s h) e)
    ∙ (reading n s (refusal28 s ∷ more') ∙ ap first_refusal (sym (append_assoc (record_refusals s) (refusal28 s ∷ []) more')))))

-- ---- two files

pub compare : (s t : List ℕ) (n : ℕ) → compare_refusal_of (compare_of s t n) ≡ first_refusal (file_refusals s ++ (file_refusals t ++ refusal12 n (37 * length (entries_of s t)) ∷ []))
unfolding number
compare s t n =
    let room : List named.Case = named.case BufferShort (ltb n (entry_length * length (entries_of s t))) ∷ [] in
    let room' : List Case = refusal12 n (37 * length (entries_of s t)) ∷ [] in
    compare_refusal s t n ∙ file_figures s (file_cases t ++ room) (file_refusals t ++ room') (file_figures t room room' refl)
