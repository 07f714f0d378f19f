-- Two records one behind the other, of which the first has one damaged byte: computed. So what is promised of damage has a case, and each refusal of a
-- buffer has one. Assumes nothing.
use Prim.Native.Nat.{ℕ, zero, suc, ◌+◌, ◌-◌, ◌*◌, ◌<◌, ◌≤◌}
use mathlib.Core.Path.{◌≡◌, refl, ap, subst, ◌∙◌}
use mathlib.Core.Bool.{Bool, true, false, not}
use mathlib.Core.List.{List, [], ◌∷◌, ◌++◌}
use native.Mathlib.Omega.{arith}
use native.Mathlib.Decide.{dec_lt}
use lib.Dec.{T, ltb, ltb→lt}
use lib.ListN.{length, get_or, set, get_or-eq_default}
use Rattle.bigendian.specs.Numbers.{Bytes, word_sum}
use Rattle.algebra.proofs.Tests.{every, each}
use Rattle.instants.specs.Instants.{outside}
use Rattle.record.specs.Format.{record_length}
use Rattle.record.specs.Records.{read_of}
use Rattle.rescue.specs.Walk.{has_record, stepping, walk_from, ranges_of}
use Rattle.rescue.specs.Rescue.{kept_count, ranges_in, passed_count, rescue_of}
use Rattle.rescue.specs.Claims.{places_from, WholeRecords}
use Rattle.std.specs.Prelude.{Ok, Err}
use Rattle.instants.specs.declared.refusal.Refusal.TheVariants.{BufferShort}

-- a record of day 54465, 0 h
abbrev one : List ℕ
one =
    0 ∷ 30 ∷ 1 ∷ 0 ∷ 0 ∷ 0 ∷ 212 ∷ 193 ∷ 0 ∷ 0 ∷ 0 ∷ 32 ∷ 0 ∷ 0 ∷ 0 ∷ 0 ∷ 0 ∷ 0 ∷ 0 ∷ 1 ∷ 255 ∷ 255 ∷ 255 ∷ 255 ∷ 0 ∷ 0 ∷ 0 ∷ 0 ∷ 42 ∷ 2 ∷ []

-- two of them, and the same with 7 for a 0 at place 16
abbrev pub two : List ℕ
two = one ++ one

abbrev pub damaged : List ℕ
damaged = set two 16 7

-- ---- tests, computed

-- a list of bytes
bytes_of : (s : List ℕ) → T (every (λ x. ltb x 256) s) → Bytes s
bytes_of s t = record { byte = λ i. by i (dec_lt i (length s)) }
  where
    by : (i : ℕ) → Dec (i < length s) → get_or s i 0 < 256
    by i (yes h) = ltb→lt (get_or s i 0) 256 (each (λ x. ltb x 256) s t 0 i h)
    by i (no h) = rw (get_or-eq_default s 0 {n = i} (omega (arith, h))) (omega arith)

-- a test at n places from i on
place_there : (n i j : ℕ) → j < n → get_or (places_from i n) j 0 ≡ i + j
place_there zero i j h = absurd (omega arith)
place_there (suc n) i zero h = omega arith
place_there (suc n) i (suc j) h = place_there n (i + 1) j (omega arith) ∙ omega arith

place_count : (n i : ℕ) → length (places_from i n) ≡ n
place_count zero i = refl
place_count (suc n) i = ap suc (place_count n (i + 1))

at_places : (f : ℕ → Bool) (i n : ℕ) → T (every f (places_from i n)) → (k : ℕ) → i ≤ k → k < i + n → T (f k)
at_places f i n t k l h =
    let e : i + (k - i) ≡ k = omega arith in
    subst (λ (x : ℕ). T (f x)) (place_there n i (k - i) (omega arith) ∙ e) (each f (places_from i n) t 0 (k - i) (omega (arith, place_count n i)))

-- ---- what holds of them

pub two_bytes : Bytes two
two_bytes = bytes_of two tt

pub two_whole : WholeRecords two 2
unfolding read_of word_sum outside
two_whole = record { size = refl; reads = by }
  where
    by : (k : ℕ) → k < 2 → has_record two (record_length * k) ≡ true
    by zero h = refl
    by (suc zero) h = refl
    by (suc (suc k)) h = absurd (omega arith)

-- nothing reads at the places inside the damaged record
pub none_inside : (k : ℕ) → 0 < k → k < record_length → has_record damaged k ≡ false
unfolding read_of word_sum outside
none_inside k l h = not_true (has_record damaged k) (at_places (λ i. not (has_record damaged i)) 1 29 tt k l (omega arith))
  where
    not_true : (b : Bool) → T (not b) → b ≡ false
    not_true false t = refl
    not_true true t = absurd t

-- PROMISE. One record is kept and thirty bytes are passed, in one range; a byte less in either buffer is refused.
pub damaged_answers :
    (rescue_of damaged 30 8 ≡ Ok (record { kept = 1; ranges = 1; passed = 30 }))
    × (rescue_of damaged 29 8 ≡ Err BufferShort)
    × (rescue_of damaged 30 7 ≡ Err BufferShort)
unfolding read_of word_sum outside stepping walk_from ranges_of kept_count ranges_in passed_count rescue_of
damaged_answers = (refl, refl, refl)
