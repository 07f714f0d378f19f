-- Laws that documents name and that no proof needs today: of refusals below a bound, of a file's readings, of rows, of the table of multipliers, of two's complement
-- and of numbers by their bits. Assumes nothing.
use Rattle.std.proofs.Common.{◌≡◌, ℕ, suc, ◌+◌, ◌-◌, ◌^◌, ◌<◌, ◌≤◌, Bool, true, false, cond, ltb, List, [], ◌∷◌, length, drop, ℤ, pos, negsuc, ◌-ℤ◌, refl, ap, sym, ◌∙◌, true≢false, arith, to_z-of_z, w32, w64, SFits, to_z, of_z, Ok}
use mathlib.Core.Bool.{not, ◌&&◌, ◌||◌}
use native.Mathlib.Decide.{ℕ_discrete}
use lib.Dec.{T, eqb, eqb→eq, leb}
use lib.IntN.{nat_abs}
use lib.ListN.{get_or}
use lib.Signed.{lt_z, mag}
use mir.Facts.{to_z_pos, sfits_widen}
use borrow.Author.Tests.{ltb-true, lt-ltb, le-ltb, eq-eqb, ne_eqb}
use Rattle.instants.specs.Refusals.{Case, number, first_refusal}
use Rattle.algebra.proofs.Tests.{each}
use Rattle.arguments.specs.Table.{multipliers}
use Rattle.bigendian.specs.Numbers.{twos_complement}
use Rattle.bigendian.specs.Fields.{field_at}
use Rattle.record.specs.declared.Record.{Record}
use Rattle.record.specs.Format.{record_length}
use Rattle.record.specs.Records.{read_of}
use Rattle.files.specs.Files.{reading_cases}
use Rattle.files.specs.Inner.{answers_from}
use Rattle.files.proofs.Answers.{from_step}
use Rattle.rows.specs.declared.Row.{Row}
use Rattle.rows.specs.Table.{row_at, largest, day_out, not_after, number_out}
use Rattle.row_bytes.specs.Form.{version_field, version}
use Rattle.compare.specs.Walk.{equal}
use Rattle.compare.proofs.Numbers.{equal_same, equal_is}
use Rattle.promises.specs.Figures as figures
use Rattle.promises.specs.AnyInput.{refusal22}

-- ---- refusals

-- every number is below b
abbrev pub numbers_below : ℕ → List Case → Bool
numbers_below b [] = true
numbers_below b (c ∷ cs) = ltb (number c.refusal) b && numbers_below b cs

-- and so is the first refusal
pub first_below : (b : ℕ) (cs : List Case) → 0 < b → T (numbers_below b cs) → first_refusal cs < b
first_below b [] h k = h
first_below b (c ∷ cs) h k = by c.applies (ltb (number c.refusal) b) refl k (first_below b cs h)
  where
    by : (applies x : Bool) → ltb (number c.refusal) b ≡ x → T (x && numbers_below b cs) → (T (numbers_below b cs) → first_refusal cs < b)
        → cond applies (number c.refusal) (first_refusal cs) < b
    by true true p k f = ltb-true (number c.refusal) b p
    by false true p k f = f k
    by false false p k f = elim k [ ]
    by true false p k f = elim k [ ]

-- the version of rows, by its figures
pub versions : (s : List ℕ) → figures.case 22 (not (eqb (field_at s version_field) version)) ≡ refusal22 s
versions s = refl

-- ---- a file: behind a record the readings go on

module _ (s : List ℕ) (i : ℕ) where
  pub reading_on_lem : (r : Record) → i + record_length ≤ length s → read_of (drop i s) ≡ Ok r
      → first_refusal (reading_cases (answers_from s i)) ≡ first_refusal (reading_cases (answers_from s (i + record_length)))
  reading_on_lem r h e = rw (from_step s i h, e) refl

-- ---- rows

module _ (rows : List Row) (i : ℕ) where
  abbrev wrong : Bool
  wrong = day_out (row_at rows i) || not_after rows i

  pub first_day_lem : day_out (row_at rows i) ≡ false → i ≡ 0 → false ≡ wrong
  first_day_lem e z = rw (e, z) refl

  pub later_day_lem : day_out (row_at rows i) ≡ false → (j : ℕ) → i ≡ suc j → leb (row_at rows i).day (row_at rows j).day ≡ wrong
  later_day_lem e j s = rw (e, s) refl

module _ (r : Row) where
  abbrev xc_out : Bool
  xc_out = ltb largest (nat_abs r.xc)

  abbrev xs_out : Bool
  xs_out = ltb largest (nat_abs r.xs)

  pub xc_out_lem : xc_out ≡ true → true ≡ number_out r
  xc_out_lem e = rw e refl

  pub xs_out_lem : xc_out ≡ false → xs_out ≡ true → true ≡ number_out r
  xs_out_lem e f = rw (e, f) refl

-- ---- the table of multipliers: each of its rows has five

abbrev five : List ℤ → Bool
five ks = eqb (length ks) 5

pub row_length_lem : (r : ℕ) → r < 62 → length (get_or multipliers r []) ≡ 5
row_length_lem r h = eqb→eq (length (get_or multipliers r [])) 5 (each five multipliers tt [] r h)

-- ---- two's complement, as a machine of 64 bits adds and subtracts

-- one below 0 in 64 bits: what is taken from -1
pub record Mirrored (x : ℤ) : Type 0 where
  pub fits : SFits w64 (negsuc 0 -ℤ to_z w64 (of_z w64 x))
  pub reads : to_z w64 (of_z w64 (negsuc 0 -ℤ to_z w64 (of_z w64 x))) ≡ pos (mag x)
  pub small : mag x < 2 ^ 63
  pub twos : 256 ^ 8 - 1 - mag x ≡ twos_complement 8 x

pub mirrored : (x : ℤ) → SFits w64 x → lt_z x (pos 0) ≡ true → Mirrored x
mirrored (pos n) g h = let q : n < 0 = ltb-true n 0 h in let v : ⊥ = omega arith in absurd v
mirrored (negsuc n) g h =
    let l : n < 2 ^ 63 = g.sfits in
    let d : suc n - 1 ≡ n = omega arith in
    let e : negsuc 0 -ℤ to_z w64 (of_z w64 (negsuc n)) ≡ pos n = ap (λ (z : ℤ). negsuc 0 -ℤ z) (to_z-of_z g) ∙ simp (le-ltb (suc n) 1 (omega arith)) (ap pos d) in
    let s : SFits w64 (pos n) = record { sfits = l } in
    record { fits = rw e s; reads = rw e (to_z-of_z s); small = l; twos = omega arith }

-- a number that is not below 0
pub above : (k : ℕ) (x : ℤ) → SFits w64 x → lt_z x (pos 0) ≡ false → to_z w64 (of_z w64 x) ≡ pos (twos_complement k x)
above k (negsuc n) g h = absurd (true≢false h)
above k (pos n) g h = to_z-of_z g

-- bits from the half on, read as a number below 0
module _ (n : ℕ) (h : 2 ^ 31 ≤ n) (k : n < 256 ^ 4) where
  is_minus : to_z w64 n -ℤ pos (256 ^ 4) ≡ negsuc (256 ^ 4 - 1 - n)
  is_minus =
      let p : n < 2 ^ 63 = omega arith in
      let e : 256 ^ 4 - suc n ≡ 256 ^ 4 - 1 - n = omega arith in
      ap (λ (z : ℤ). z -ℤ pos (256 ^ 4)) (to_z_pos w64 p) ∙ simp (lt-ltb n (256 ^ 4) k) (ap negsuc e)

  pub minus_32 : SFits w32 (negsuc (256 ^ 4 - 1 - n))
  minus_32 = record { sfits = omega arith }

  minus_64 : SFits w64 (negsuc (256 ^ 4 - 1 - n))
  minus_64 = sfits_widen tt minus_32

  pub minus_fits : SFits w64 (to_z w64 n -ℤ pos (256 ^ 4))
  minus_fits = rw is_minus minus_64

  pub minus_read : to_z w64 (of_z w64 (to_z w64 n -ℤ pos (256 ^ 4))) ≡ negsuc (256 ^ 4 - 1 - n)
  minus_read = rw is_minus (to_z-of_z minus_64)

-- ---- two numbers of 32 bits are equal exactly where their bits are

pub equal_bits : (a b : ℤ) → SFits w32 a → SFits w32 b → eqb (of_z w32 a) (of_z w32 b) ≡ equal a b
equal_bits a b f g = by (ℕ_discrete (of_z w32 a) (of_z w32 b))
  where
    same : of_z w32 a ≡ of_z w32 b → a ≡ b
    same e = sym (to_z-of_z f) ∙ (ap (to_z w32) e ∙ to_z-of_z g)

    not_equal : (t : Bool) → equal a b ≡ t → (a ≡ b → ⊥) → t ≡ false
    not_equal true e n = absurd (n (equal_is a b e))
    not_equal false e n = refl

    by : Dec (of_z w32 a ≡ of_z w32 b) → eqb (of_z w32 a) (of_z w32 b) ≡ equal a b
    by (yes e) = eq-eqb _ _ e ∙ sym (ap (equal a) (sym (same e)) ∙ equal_same a)
    by (no n) = ne_eqb _ _ n ∙ sym (not_equal (equal a b) refl (λ e. n (ap (of_z w32) e)))
