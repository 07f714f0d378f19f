-- Two files, computed: an instant that the first alone has, one that both have with other numbers, one with the same, and one that the second alone has. So
-- what is promised of each has a case; and so have 27, 28, 12 and a refusal of reading. Assumes nothing.
use Prim.Native.Nat.{ℕ}
use mathlib.Core.Path.{◌≡◌, refl}
use mathlib.Core.Bool.{true, ◌&&◌, ◌||◌}
use mathlib.Core.List.{List, [], ◌∷◌, ◌++◌}
use lib.Dec.{ltb}
use lib.IntN.{pos, negsuc}
use lib.ListN.{drop}
use lib.Signed.{lt_z, le_z}
use Rattle.bigendian.specs.Numbers.{word_sum}
use Rattle.instants.specs.Instants.{outside, day_index}
use Rattle.record.specs.Records.{read_of, record_day_of, record_micros_of}
use Rattle.files.specs.Files.{answers_in, file_cases, file_of}
use Rattle.compare.specs.Walk.{entry, walk}
use Rattle.compare.specs.Compare.{entries_of, compare_of}
use Rattle.std.specs.Prelude.{Ok, Err}
use Rattle.instants.specs.declared.refusal.Refusal.TheVariants.{BufferShort, RecordVersion, FileLength, FileOrder}

-- ---- records

-- of day 54465, 0 h, with the numbers 1, -1 and 0
abbrev early_alone : List ℕ
early_alone = 0 ∷ 30 ∷ 1 ∷ 0 ∷ 0 ∷ 0 ∷ 212 ∷ 193 ∷ 0 ∷ 0 ∷ 0 ∷ 32 ∷ 0 ∷ 0 ∷ 0 ∷ 0 ∷ 0 ∷ 0 ∷ 0 ∷ 1 ∷ 255 ∷ 255 ∷ 255 ∷ 255 ∷ 0 ∷ 0 ∷ 0 ∷ 0 ∷ 42 ∷ 2 ∷ []

-- a quarter of an hour later, with -2147483648, 5 and 7
abbrev changed_before : List ℕ
changed_before = 0 ∷ 30 ∷ 1 ∷ 0 ∷ 0 ∷ 0 ∷ 212 ∷ 193 ∷ 0 ∷ 0 ∷ 0 ∷ 32 ∷ 53 ∷ 164 ∷ 233 ∷ 0 ∷ 128 ∷ 0 ∷ 0 ∷ 0 ∷ 0 ∷ 0 ∷ 0 ∷ 5 ∷ 0 ∷ 0 ∷ 0 ∷ 7 ∷ 139 ∷ 81 ∷ []

-- half an hour later, with 4, 4 and 4
abbrev unchanged : List ℕ
unchanged = 0 ∷ 30 ∷ 1 ∷ 0 ∷ 0 ∷ 0 ∷ 212 ∷ 193 ∷ 0 ∷ 0 ∷ 0 ∷ 32 ∷ 107 ∷ 73 ∷ 210 ∷ 0 ∷ 0 ∷ 0 ∷ 0 ∷ 4 ∷ 0 ∷ 0 ∷ 0 ∷ 4 ∷ 0 ∷ 0 ∷ 0 ∷ 4 ∷ 236 ∷ 172 ∷ []

-- of the second one's instant, with 2147483647, 5 and 6
abbrev changed_after : List ℕ
changed_after = 0 ∷ 30 ∷ 1 ∷ 0 ∷ 0 ∷ 0 ∷ 212 ∷ 193 ∷ 0 ∷ 0 ∷ 0 ∷ 32 ∷ 53 ∷ 164 ∷ 233 ∷ 0 ∷ 127 ∷ 255 ∷ 255 ∷ 255 ∷ 0 ∷ 0 ∷ 0 ∷ 5 ∷ 0 ∷ 0 ∷ 0 ∷ 6 ∷ 139 ∷ 84 ∷ []

-- of the next day, 0 h, with 9, 9 and 9
abbrev late_alone : List ℕ
late_alone = 0 ∷ 30 ∷ 1 ∷ 0 ∷ 0 ∷ 0 ∷ 212 ∷ 194 ∷ 0 ∷ 0 ∷ 0 ∷ 64 ∷ 0 ∷ 0 ∷ 0 ∷ 0 ∷ 0 ∷ 0 ∷ 0 ∷ 9 ∷ 0 ∷ 0 ∷ 0 ∷ 9 ∷ 0 ∷ 0 ∷ 0 ∷ 9 ∷ 41 ∷ 197 ∷ []

-- half an hour later, with another version
abbrev unread : List ℕ
unread = 0 ∷ 30 ∷ 2 ∷ 0 ∷ 0 ∷ 0 ∷ 212 ∷ 193 ∷ 0 ∷ 0 ∷ 0 ∷ 32 ∷ 107 ∷ 73 ∷ 210 ∷ 0 ∷ 0 ∷ 0 ∷ 0 ∷ 4 ∷ 0 ∷ 0 ∷ 0 ∷ 4 ∷ 0 ∷ 0 ∷ 0 ∷ 4 ∷ 236 ∷ 172 ∷ []

-- ---- files

-- three instants
abbrev pub before : List ℕ
before = early_alone ++ (changed_before ++ unchanged)

-- the second instant with other numbers, the third as it is, and one more
abbrev pub after : List ℕ
after = changed_after ++ (unchanged ++ late_alone)

-- one byte, which is no record
abbrev pub one_byte : List ℕ
one_byte = 0 ∷ []

-- one instant twice
abbrev pub twice : List ℕ
twice = early_alone ++ early_alone

-- two instants, the later first, and a record that does not read
abbrev pub falling_unread : List ℕ
falling_unread = changed_before ++ (early_alone ++ unread)

-- PROMISE. Three entries: one of each side, in their order.
pub three_entries : entries_of before after
    ≡ entry 1 (pos 54465) 0 (pos 0) (pos 0) (pos 0)
    ∷ entry 3 (pos 54465) 900_000_000 (pos 4_294_967_295) (pos 0) (negsuc 0)
    ∷ entry 2 (pos 54466) 0 (pos 0) (pos 0) (pos 0)
    ∷ []
unfolding read_of word_sum outside day_index answers_in file_cases file_of walk entries_of
three_entries = refl

-- PROMISE. 111 bytes hold them, and 110 do not.
pub three_fit : (compare_of before after 111 ≡ Ok 3) × (compare_of before after 110 ≡ Err BufferShort)
unfolding read_of word_sum outside day_index answers_in file_cases file_of walk entries_of compare_of
three_fit = (refl, refl)

-- PROMISE. Equal instants are refused by 28, and the first file's refusal comes before the second's.
pub refused_in_order : (compare_of twice one_byte 0 ≡ Err FileOrder) × (compare_of one_byte twice 0 ≡ Err FileLength)
unfolding read_of word_sum outside day_index answers_in file_cases file_of walk entries_of compare_of
refused_in_order = (refl, refl)

-- PROMISE. A record that does not read decides before the order, in either file.
pub refused_unread : (compare_of falling_unread [] 0 ≡ Err RecordVersion) × (compare_of [] falling_unread 0 ≡ Err RecordVersion)
unfolding read_of word_sum outside day_index answers_in file_cases file_of walk entries_of compare_of
refused_unread = (refl, refl)

-- PROMISE. Two empty files have no entries.
pub empty_compared : compare_of [] [] 0 ≡ Ok 0
unfolding answers_in file_cases file_of walk entries_of compare_of
empty_compared = refl

-- its second instant is before its first
pub falling : let a = read_of (drop 30 falling_unread) in let b = read_of falling_unread in
    (lt_z (record_day_of a) (record_day_of b) || (le_z (record_day_of a) (record_day_of b) && ltb (record_micros_of a) (record_micros_of b))) ≡ true
unfolding read_of word_sum outside
falling = refl

-- the two records of the file with one instant twice are one
pub twice_same : read_of twice ≡ read_of (drop 30 twice)
unfolding read_of word_sum outside
twice_same = refl
