-- Numbers as bytes, the highest byte first; signed numbers in two's complement; sums of 16-bit words.
use Rattle.std.specs.Prelude.{ℕ, zero, suc, ◌+◌, ◌-◌, ◌*◌, ◌/◌, ◌%◌, ◌^◌, ◌<◌, cond, List, [], ◌∷◌, ◌++◌, ℤ, pos, negsuc, nat_lt, slice_index}

-- every element of s is a byte
pub record Bytes (s : List ℕ) : Type 0 where
  pub byte : (i : ℕ) → slice_index s i < 256

-- the k lowest bytes of n, the highest of them first
abbrev pub bytes_of : ℕ → ℕ → List ℕ
bytes_of zero n = []
bytes_of (suc k) n = bytes_of k (n / 256) ++ n % 256 ∷ []

-- the number whose k bytes stand at place i of s, the highest first
abbrev pub number_at : List ℕ → ℕ → ℕ → ℕ
number_at s i zero = 0
number_at s i (suc k) = number_at s i k * 256 + slice_index s (i + k)

-- the sum of the first k words of s, each of two bytes
unfoldable pub word_sum : List ℕ → ℕ → ℕ
word_sum s zero = 0
word_sum s (suc k) = word_sum s k + number_at s (2 * k) 2

-- two's complement in k bytes: a number itself, or 256^k more than a negative number (negsuc n is -1 - n)
abbrev pub twos_complement : ℕ → ℤ → ℕ
twos_complement k (pos n) = n
twos_complement k (negsuc n) = 256 ^ k - suc n

-- the signed number that has the two's complement n in k bytes: below half of 256^k it is n, from there on n - 256^k
abbrev pub signed_of : ℕ → ℕ → ℤ
signed_of k n = cond (nat_lt n (256 ^ k / 2)) (pos n) (negsuc (256 ^ k - 1 - n))
