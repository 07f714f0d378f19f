-- What is written reads back: the bytes have each field's number at the field's place, and the check word makes the sum 0. Assumes nothing.
use Rattle.std.proofs.Common.{◌≡◌, ℕ, ◌+◌, ◌-◌, ◌%◌, ◌^◌, ◌<◌, ◌≤◌, List, ◌++◌, length, drop, ℤ, pos, negsuc, sym, refl, ap, ◌∙◌, ap₂, arith, w32, SFits}
use Rattle.bigendian.specs.Numbers.{word_sum, twos_complement}
use Rattle.bigendian.proofs.Numbers.{number_bytes, sum_next, sum_take}
use Rattle.bigendian.proofs.Fields.{number_back, signed_back}
use Rattle.bigendian.proofs.Buffers.{front_is}
use Rattle.instants.specs.Instants.{instant, day_index, IsAccepted}
use Rattle.instants.proofs.Signs.{day_natural}
use Rattle.instants.proofs.Accepted.{AcceptedAt, accepted_at}
use Rattle.clock.specs.declared.ClockWords.{ClockWords}
use Rattle.clock.specs.Words.{mark, time_word, words}
use Rattle.clock.proofs.Words.{split_then_join}
use Rattle.bigendian.specs.Fields.{field_at, signed_at, in_field}
use Rattle.record.specs.Format.{record_length, day_field, time_field, ut1_field, lod_field, rate_field, check_field, field_bytes, negated, record_bytes}
use Rattle.record.specs.Records.{record_with, written, read_of}
use Rattle.record.proofs.Written.{written_is, record_length_lem}
use Rattle.instants.specs.Limits.{index_offset}
use Rattle.record.proofs.Forms.{Formed, form_right, read_joined, alike}
use Rattle.std.specs.Prelude.{Ok}

-- the words of a record add to 0, wrapped
zero_sum : (x : ℕ) → (x + negated x % 0x1_0000) % 0x1_0000 ≡ 0
zero_sum x = omega arith

-- the bytes of a record, with any bytes after them
module _ (w : ClockWords) (ut1 lod rate : ℤ) (rest : List ℕ) where
  abbrev F : List ℕ
  F = field_bytes w ut1 lod rate

  abbrev S : List ℕ
  S = F ++ in_field check_field (negated (word_sum F 14)) ++ rest

  sum_is : word_sum S 15 ≡ word_sum F 14 + negated (word_sum F 14) % 0x1_0000
  sum_is = sum_next S 14 ∙ ap₂ ◌+◌ (sym (sum_take S check_field.at 14 (omega arith))) (number_bytes F check_field.size (negated (word_sum F 14)) rest)

  formed_written : Formed S
  formed_written = record { long = omega arith; version = refl; size = refl; zero_byte = refl; zero_sum = ap (λ (x : ℕ). x % 0x1_0000) sum_is ∙ zero_sum (word_sum F 14) }

  day_back : twos_complement 4 w.day < 256 ^ 4 → field_at S day_field ≡ twos_complement 4 w.day
  day_back h = number_back S day_field _ (record { starts = refl; is = refl }) h

  time_back : w.time < 256 ^ 8 → field_at S time_field ≡ w.time
  time_back h = number_back S time_field _ (record { starts = refl; is = refl }) h

  ut1_back : SFits w32 ut1 → signed_at S ut1_field ≡ ut1
  ut1_back f = signed_back S ut1_field ut1 (record { starts = refl; is = refl }) f.sfits

  lod_back : SFits w32 lod → signed_at S lod_field ≡ lod
  lod_back f = signed_back S lod_field lod (record { starts = refl; is = refl }) f.sfits

  rate_back : SFits w32 rate → signed_at S rate_field ≡ rate
  rate_back f = signed_back S rate_field rate (record { starts = refl; is = refl }) f.sfits

-- an accepted day number is not negative, so its bits are itself
day_bits : (d : ℤ) (m i : ℕ) → AcceptedAt d m i → d ≡ pos (i - index_offset)
day_bits d m i a = a.is ∙ day_natural i (omega (arith, a.low))

mark_small : (d : ℤ) → mark d < 8
mark_small (pos n) = omega arith
mark_small (negsuc n) = omega arith

-- The bytes of a record of an accepted instant read as that record, whatever follows them.
pub read_back_lem : (d : ℤ) (m : ℕ) (ut1 lod rate : ℤ) (rest : List ℕ) → IsAccepted d m → SFits w32 ut1 → SFits w32 lod → SFits w32 rate
    → read_of (record_bytes (words d (time_word d m)) ut1 lod rate ++ rest) ≡ Ok (record_with d m ut1 lod rate)
unfolding record_bytes
read_back_lem d m ut1 lod rate rest a f g h =
    let t : AcceptedAt d m (day_index d) = accepted_at d m (day_index d) a in
    let e : d ≡ pos (day_index d - index_offset) = day_bits d m (day_index d) t in
    let p : twos_complement 4 d < 256 ^ 4 = rw e (let k : day_index d - index_offset < 256 ^ 4 = omega (arith, t.high) in k) in
    let q : pos (twos_complement 4 d) ≡ d = rw e refl in
    let l : time_word d m < 256 ^ 8 = omega (arith, t.less, mark_small d) in
    let w : ClockWords = words d (time_word d m) in
    read_joined (S w ut1 lod rate rest) (form_right _ (formed_written w ut1 lod rate rest)) (instant d m) (rw (day_back w ut1 lod rate rest p, time_back w ut1 lod rate rest l, q) (split_then_join d m a))
    ∙ (alike d m (ut1_back w ut1 lod rate rest f) (lod_back w ut1 lod rate rest g) (rate_back w ut1 lod rate rest h))

-- PROMISE. A record written into thirty bytes or more reads back as the instant and the three numbers, whatever stood there.
pub read_written : (d : ℤ) (m : ℕ) (ut1 lod rate : ℤ) (old : List ℕ) → IsAccepted d m → record_length ≤ length old → SFits w32 ut1 → SFits w32 lod → SFits w32 rate
    → read_of (written d m ut1 lod rate old) ≡ Ok (record_with d m ut1 lod rate)
read_written d m ut1 lod rate old a l f g h = rw (written_is d m ut1 lod rate old a l, front_is _ old record_length (record_length_lem (words d (time_word d m)) ut1 lod rate)) (read_back_lem d m ut1 lod rate (drop record_length old) a f g h)
