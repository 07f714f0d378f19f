-- Demand 2, of service (k): what differs between two record files. First what a file is, then which instants are listed, with which entry, and in which order;
-- then the number and the list of an answer.
use Rattle.std.specs.Prelude.{ℕ, ◌*◌, ◌≤◌, ◌≡◌, true, List, [], ◌∷◌, ◌++◌, map, ℤ, pos, negsuc, ◌-ℤ◌, length, drop, Ok, Err}
use Rattle.record.specs.declared.Record.{Record}
use Rattle.record.specs.Records.{read_of, record_day_of, record_micros_of}
use Rattle.files.specs.Files.{file_of, file_refusal_of}
use Rattle.compare.specs.declared.Entry.{Entry}
use Rattle.compare.specs.Walk.{side_number, entry}
use Rattle.compare.specs.Compare.{entries_of, list_bytes, compare_of, list_after, entries_number_of, compare_refusal_of}
use Rattle.compare.specs.Claims.{There, Nowhere, record_of_instant, entry_of_instant, exchanged, listed}
use Rattle.promises.specs.AnyInput.{instant_before}
use Rattle.instants.specs.declared.refusal.Refusal.TheVariants.{BufferShort, RecordVersion, FileLength, FileOrder}

-- the files s and t have the records rs and qs
pub record Files (s t : List ℕ) (rs qs : List Record) : Type 0 where
  pub first : file_of s ≡ Ok rs
  pub second : file_of t ≡ Ok qs

pub record ComparedExactly : Type 0 where
  -- a file is thirty bytes for each record, which is what they read as; its instants rise; an empty one is accepted
  pub file_length : (s : List ℕ) (rs : List Record) → file_of s ≡ Ok rs → length s ≡ 30 * length rs
  pub file_reads : (s : List ℕ) (rs : List Record) → file_of s ≡ Ok rs → (k : ℕ) (r : Record) (more : List Record) → drop k rs ≡ r ∷ more → read_of (drop (30 * k) s) ≡ Ok r
  pub file_rises : (s : List ℕ) (rs : List Record) → file_of s ≡ Ok rs → (k : ℕ) (r q : Record) (more : List Record) → drop k rs ≡ r ∷ q ∷ more
      → instant_before r.day r.micros q.day q.micros ≡ true
  pub file_empty : file_of [] ≡ Ok []
  -- an answer without a refusal is of two files
  pub files_there : (s t : List ℕ) (n : ℕ) → compare_refusal_of (compare_of s t n) ≡ 0 → (rs : List Record) × (qs : List Record) × Files s t rs qs
  -- what is listed at the instant d, m: nothing where neither file has it, or both with equal numbers; else one entry, with side, instant and differences
  pub in_neither : (s t : List ℕ) (rs qs : List Record) → Files s t rs qs → (d : ℤ) (m : ℕ) → record_of_instant d m rs ≡ Nowhere → record_of_instant d m qs ≡ Nowhere
      → entry_of_instant d m (entries_of s t) ≡ Nowhere
  pub in_first_only : (s t : List ℕ) (rs qs : List Record) → Files s t rs qs → (d : ℤ) (m : ℕ) (r : Record) → record_of_instant d m rs ≡ There r → record_of_instant d m qs ≡ Nowhere
      → entry_of_instant d m (entries_of s t) ≡ There (entry 1 d m (pos 0) (pos 0) (pos 0))
  pub in_second_only : (s t : List ℕ) (rs qs : List Record) → Files s t rs qs → (d : ℤ) (m : ℕ) (q : Record) → record_of_instant d m rs ≡ Nowhere → record_of_instant d m qs ≡ There q
      → entry_of_instant d m (entries_of s t) ≡ There (entry 2 d m (pos 0) (pos 0) (pos 0))
  pub in_both_equal : (s t : List ℕ) (rs qs : List Record) → Files s t rs qs → (d : ℤ) (m : ℕ) (r q : Record) → record_of_instant d m rs ≡ There r → record_of_instant d m qs ≡ There q
      → r.ut1 ≡ q.ut1 → r.lod ≡ q.lod → r.rate ≡ q.rate → entry_of_instant d m (entries_of s t) ≡ Nowhere
  pub in_both_changed : (s t : List ℕ) (rs qs : List Record) → Files s t rs qs → (d : ℤ) (m : ℕ) (r q : Record) → record_of_instant d m rs ≡ There r → record_of_instant d m qs ≡ There q
      → ((r.ut1 ≡ q.ut1) × (r.lod ≡ q.lod) × (r.rate ≡ q.rate) → ⊥)
      → entry_of_instant d m (entries_of s t) ≡ There (entry 3 d m (q.ut1 -ℤ r.ut1) (q.lod -ℤ r.lod) (q.rate -ℤ r.rate))
  -- the numbers of these sides
  pub sides_numbered : (d : ℤ) (m : ℕ) (x y z : ℤ) → (side_number (entry 1 d m x y z).side ≡ 1) × (side_number (entry 2 d m x y z).side ≡ 2) × (side_number (entry 3 d m x y z).side ≡ 3)
  -- entries rise by instant, so each entry of the list is the one at its instant
  pub entries_rise : (s t : List ℕ) (rs qs : List Record) → Files s t rs qs → (k : ℕ) (e f : Entry) (more : List Entry) → drop k (entries_of s t) ≡ e ∷ f ∷ more
      → instant_before e.day e.micros f.day f.micros ≡ true
  pub entries_there : (s t : List ℕ) (rs qs : List Record) → Files s t rs qs → (k : ℕ) (e : Entry) (more : List Entry) → drop k (entries_of s t) ≡ e ∷ more
      → entry_of_instant e.day e.micros (entries_of s t) ≡ There e
  -- a file and itself give an empty list, whatever the list's room; and an empty list says that the records are the same
  pub same_file : (s : List ℕ) (n : ℕ) → file_refusal_of (file_of s) ≡ 0 → compare_of s s n ≡ Ok 0
  pub same_records : (s t : List ℕ) (rs qs : List Record) → Files s t rs qs → entries_of s t ≡ [] → rs ≡ qs
  -- the files exchanged: sides exchanged and differences negated, entry by entry
  pub files_exchanged : (s t : List ℕ) → entries_of t s ≡ map exchanged (entries_of s t)
  -- an answer that is not refused has the number of the entries, and the list has them at its front, and behind them what was there
  pub number_returned : (s t : List ℕ) (n : ℕ) → compare_refusal_of (compare_of s t n) ≡ 0 → entries_number_of (compare_of s t n) ≡ length (entries_of s t)
  pub list_written : (s t list : List ℕ) → compare_refusal_of (compare_of s t (length list)) ≡ 0
      → list_after s t list ≡ list_bytes (entries_of s t) ++ drop (37 * length (entries_of s t)) list
  -- the entries read back from the list, whatever is behind them
  pub entries_read_back : (s t : List ℕ) (rs qs : List Record) → Files s t rs qs → (behind : List ℕ) → listed (length (entries_of s t)) (list_bytes (entries_of s t) ++ behind) ≡ entries_of s t
  -- 161,616 bytes hold every list
  pub list_always_room : (s t : List ℕ) (rs qs : List Record) → Files s t rs qs → (n : ℕ) → 161616 ≤ n → compare_refusal_of (compare_of s t n) ≡ 0
  -- there are such files, of three records each: with an entry of each side, a difference that 32 bits do not hold, and room for them or a byte less
  pub some_files : (s : List ℕ) × (t : List ℕ) × (length s ≡ 90) × (length t ≡ 90)
      × (entries_of s t ≡ entry 1 (pos 54465) 0 (pos 0) (pos 0) (pos 0) ∷ entry 3 (pos 54465) 900_000_000 (pos 4_294_967_295) (pos 0) (negsuc 0) ∷ entry 2 (pos 54466) 0 (pos 0) (pos 0) (pos 0) ∷ [])
      × (compare_of s t 111 ≡ Ok 3) × (compare_of s t 110 ≡ Err BufferShort)
  -- and such as are refused: one record twice is refused by 28, and one byte by 27, whichever comes first
  pub some_refused : (s : List ℕ) × (t : List ℕ) × (length s ≡ 60) × (read_of s ≡ read_of (drop 30 s)) × (length t ≡ 1)
      × (compare_of s t 0 ≡ Err FileOrder) × (compare_of t s 0 ≡ Err FileLength)
  -- and one whose first two instants fall and whose third record has another version, by 14
  pub some_unread : (s : List ℕ) × (instant_before (record_day_of (read_of (drop 30 s))) (record_micros_of (read_of (drop 30 s))) (record_day_of (read_of s)) (record_micros_of (read_of s)) ≡ true)
      × (compare_of s [] 0 ≡ Err RecordVersion) × (compare_of [] s 0 ≡ Err RecordVersion)
