-- Bytes and numbers are inverse at every width, by induction on the number of bytes: the last byte is the remainder by 256, those before it are the
-- quotient. A number and a sum of words depend on their own bytes only. Assumes nothing.
use Rattle.std.proofs.Common.{◌≡◌, ℕ, zero, suc, ◌+◌, ◌*◌, ◌/◌, ◌%◌, ◌^◌, ◌<◌, ◌≤◌, List, [], ◌∷◌, ◌++◌, length, get_or, take, drop, sym, refl, ap, ◌∙◌, ap₂, append_assoc, pow-suc, arith, length-append, length-drop, get_or-drop, get_or-take, take-suc, get_or-append-add}
use native.Mathlib.Nat.{one-le-pow}
use lib.Arith.{mod-mul}
use lib.Seq.{get_or_at}
use Rattle.bigendian.specs.Numbers.{Bytes, bytes_of, number_at, word_sum}

length_bytes : (k n : ℕ) → length (bytes_of k n) ≡ k
length_bytes zero n = refl
length_bytes (suc k) n = length-append (bytes_of k (n / 256)) (n % 256 ∷ []) ∙ (ap (λ (i : ℕ). i + 1) (length_bytes k (n / 256)) ∙ omega arith)

pub number_below : (s : List ℕ) (i k : ℕ) → Bytes s → number_at s i k < 256 ^ k
number_below s i zero b = omega arith
number_below s i (suc k) b =
    let h : number_at s i k < 256 ^ k = number_below s i k b in
    rw pow-suc (omega (arith, b.byte (i + k)))

-- the bytes of the number at a place are those at the place
pub bytes_number : (s : List ℕ) (i k : ℕ) → Bytes s → i + k ≤ length s → bytes_of k (number_at s i k) ≡ take k (drop i s)
bytes_number s i zero b h = refl
bytes_number s i (suc k) b h =
    let v : ℕ = number_at s i k in
    let x : ℕ = get_or s (i + k) 0 in
    let l : x < 256 = b.byte (i + k) in
    let q : (v * 256 + x) / 256 ≡ v = omega arith in
    let r : (v * 256 + x) % 256 ≡ x = omega arith in
    let d : k < length (drop i s) = rw length-drop (omega arith) in
    rw (q, r, bytes_number s i k b (omega arith)) (sym (take-suc (drop i s) k 0 d ∙ ap (λ (y : ℕ). take k (drop i s) ++ y ∷ []) (get_or-drop i s k 0)))

-- the number of the bytes of n is n, without what is above them
pub number_bytes : (p : List ℕ) (k n : ℕ) (t : List ℕ) → number_at (p ++ (bytes_of k n ++ t)) (length p) k ≡ n % 256 ^ k
number_bytes p zero n t = omega arith
number_bytes p (suc k) n t =
    let b : List ℕ = bytes_of k (n / 256) in
    let x : ℕ = n % 256 in
    ap (λ (l : List ℕ). number_at (p ++ l) (length p) (suc k)) (append_assoc b (x ∷ []) t)
    ∙ (ap₂ (λ (v y : ℕ). v * 256 + y) (number_bytes p k (n / 256) (x ∷ t)) (get_or-append-add p (b ++ x ∷ t) k 0 ∙ get_or_at b x t 0 k (length_bytes k (n / 256)))
    ∙ (sym (mod-mul n (one-le-pow k 256 (omega arith)) (omega arith)) ∙ ap (λ (m : ℕ). n % m) (sym (pow-suc 256 k))))

-- a number depends on its own bytes
pub number_take : (s : List ℕ) (m i k : ℕ) → i + k ≤ m → number_at (take m s) i k ≡ number_at s i k
number_take s m i zero h = refl
number_take s m i (suc k) h =
    ap₂ (λ (v y : ℕ). v * 256 + y) (number_take s m i k (omega arith)) (get_or-take m s (i + k) 0 (omega arith))

pub number_drop : (m : ℕ) (s : List ℕ) (i k : ℕ) → number_at (drop m s) i k ≡ number_at s (m + i) k
number_drop m s i zero = refl
number_drop m s i (suc k) =
    ap₂ (λ (v y : ℕ). v * 256 + y) (number_drop m s i k) (get_or-drop m s (i + k) 0 ∙ ap (λ (j : ℕ). get_or s j 0) (omega arith))

pub sum_next : (s : List ℕ) (k : ℕ) → word_sum s (suc k) ≡ word_sum s k + number_at s (2 * k) 2
unfolding word_sum
sum_next s k = refl

pub sum_take : (s : List ℕ) (m k : ℕ) → 2 * k ≤ m → word_sum (take m s) k ≡ word_sum s k
unfolding word_sum
sum_take s m zero h = refl
sum_take s m (suc k) h = ap₂ (λ (v y : ℕ). v + y) (sum_take s m k (omega arith)) (number_take s m (2 * k) 2 (omega arith))
