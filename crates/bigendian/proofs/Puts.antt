-- Bytes put into a list, the last one first: the bytes of `rest` that are still to come, and what stands behind them, are at each step what is to stand
-- there in the end. Assumes nothing.
use Rattle.std.proofs.Common.{◌≡◌, ℕ, suc, ◌+◌, ◌/◌, ◌%◌, ◌<◌, ◌≤◌, List, [], ◌∷◌, ◌++◌, length, take, drop, set, sym, ap, ◌∙◌, append_assoc, add-zero, add-suc, arith, length-set, take-append-drop, drop-cons, get_or-set_same, drop-set-lt, lt-length-set}
use lib.Seq.{take-set-le}
use Rattle.bigendian.specs.Numbers.{bytes_of}

-- of the size bytes of n those above the k lowest places are put, and `rest` is what is left of n
pub record Putting (old : List ℕ) (at size n : ℕ) (s : List ℕ) (rest k : ℕ) : Type 0 where
  pub fits : k ≤ size
  pub same : length s ≡ length old
  pub front : take at s ≡ take at old
  pub whole : bytes_of k rest ++ drop (at + k) s ≡ bytes_of size n ++ drop (at + size) old

-- a byte that is set stands there
pub stored : (s : List ℕ) (i b : ℕ) → i < length s → drop i (set s i b) ≡ b ∷ drop (suc i) s
stored s i b h =
    drop-cons (set s i b) i 0 (lt-length-set s i b h)
    ∙ (ap (λ (x : ℕ). x ∷ drop (suc i) (set s i b)) (get_or-set_same s i b 0 h) ∙ ap (λ (l : List ℕ). b ∷ l) (drop-set-lt (suc i) s i b (omega arith)))

pub put_more : {old : List ℕ} {at size n : ℕ} {s : List ℕ} {rest j : ℕ} → at + j < length s → Putting old at size n s rest (suc j) → Putting old at size n (set s (at + j) (rest % 256)) (rest / 256) j
put_more {at = at} {s = s} {rest = rest} {j = j} h p =
    record {
      fits = omega (arith, p.fits);
      same = length-set s (at + j) (rest % 256) ∙ p.same;
      front = take-set-le at s (at + j) (rest % 256) (omega arith) ∙ p.front;
      whole =
          ap (λ (l : List ℕ). bytes_of j (rest / 256) ++ l) (stored s (at + j) (rest % 256) h)
          ∙ (sym (append_assoc (bytes_of j (rest / 256)) (rest % 256 ∷ []) (drop (suc (at + j)) s))
          ∙ rw add-suc at p.whole);
    }

pub put_all : {old : List ℕ} {at size n : ℕ} {s : List ℕ} {rest : ℕ} → Putting old at size n s rest 0 → s ≡ take at old ++ (bytes_of size n ++ drop (at + size) old)
put_all {old = old} {at = at} {s = s} p =
    sym (take-append-drop at s)
    ∙ (ap (λ (l : List ℕ). l ++ drop at s) p.front ∙ ap (λ (l : List ℕ). take at old ++ l) (rw add-zero at p.whole))
