-- Demand 2, of service (i): records rescued from damaged bytes. What is kept and passed is said of the walk, for any bytes; then of the numbers and buffers
-- of an answer.
use Rattle.std.specs.Prelude.{ℕ, suc, ◌+◌, ◌*◌, ◌≤◌, ◌<◌, ◌≡◌, true, false, not, ◌&&◌, List, [], ◌∷◌, ◌++◌, ltb, length, take, drop, get_or, set, Ok, Err}
use Rattle.bigendian.specs.Numbers.{Bytes}
use Rattle.record.specs.declared.Record.{Record}
use Rattle.record.specs.Records.{read_of}
use Rattle.rescue.specs.Walk.{range, has_record, ended, keeping, passing, walk_from, walk, ranges_of}
use Rattle.rescue.specs.Rescue.{kept_bytes, list_bytes, rescue_of, records_after, list_after, kept_of, ranges_number_of, passed_of, rescue_refusal_of}
use Rattle.rescue.specs.Claims.{Each, among, in_record, places_of, Apart, listed, WholeRecords}
use Rattle.instants.specs.declared.refusal.Refusal.{Refusal}
use Rattle.instants.specs.declared.refusal.Refusal.TheVariants.{BufferShort}

pub record RescuedExactly : Type 0 where
  -- the rule: at the end the walk has ended; where the next thirty bytes read as a record it is kept, and the walk goes on thirty bytes on; elsewhere one
  -- byte is passed
  pub walk_ends : (s : List ℕ) (i : ℕ) → length s ≤ i → walk_from s i ≡ ended
  pub walk_keeps : (s : List ℕ) (i : ℕ) (r : Record) → read_of (drop i s) ≡ Ok r → walk_from s i ≡ keeping i (walk_from s (i + 30))
  pub walk_passes : (s : List ℕ) (i : ℕ) (n : Refusal) → i < length s → read_of (drop i s) ≡ Err n → walk_from s i ≡ passing i (walk_from s (i + 1))
  -- every place of the bytes is passed or in a kept record, and not both; each kept place has a record, and no passed place has one
  pub every_place : (s : List ℕ) (p : ℕ) → among p (walk s).passed ≡ (ltb p (length s) && not (in_record p (walk s).kept))
  pub kept_read : (s : List ℕ) → Each (λ i. has_record s i ≡ true) (walk s).kept
  pub passed_unread : (s : List ℕ) → Each (λ i. has_record s i ≡ false) (walk s).passed
  -- the kept records times thirty and the passed bytes are the length
  pub bytes_counted : (s : List ℕ) → length (walk s).kept * 30 + length (walk s).passed ≡ length s
  -- the ranges are in order, each of a byte or more and with a byte or more before the next; together they are the passed places
  pub ranges_apart : (s : List ℕ) → Apart (ranges_of (walk s).passed)
  pub ranges_places : (s : List ℕ) → places_of (ranges_of (walk s).passed) ≡ (walk s).passed
  -- an answer that is not refused has the numbers of the walk, so that they add up to the length
  pub numbers_returned : (s : List ℕ) (n m : ℕ) → rescue_refusal_of (rescue_of s n m) ≡ 0
      → (kept_of (rescue_of s n m) ≡ length (walk s).kept) × (ranges_number_of (rescue_of s n m) ≡ length (ranges_of (walk s).passed)) × (passed_of (rescue_of s n m) ≡ length (walk s).passed)
  pub numbers_add_up : (s : List ℕ) (n m : ℕ) → rescue_refusal_of (rescue_of s n m) ≡ 0 → kept_of (rescue_of s n m) * 30 + passed_of (rescue_of s n m) ≡ length s
  -- its buffers have the kept records and the list at their fronts, and behind them what was there
  pub buffers_written : (s records list : List ℕ) → rescue_refusal_of (rescue_of s (length records) (length list)) ≡ 0
      → (records_after s (length list) records ≡ kept_bytes s ++ drop (30 * length (walk s).kept) records)
      × (list_after s (length records) list ≡ list_bytes (ranges_of (walk s).passed) ++ drop (8 * length (ranges_of (walk s).passed)) list)
  -- what is written are whole records, as many as are kept, and of an input that is not too long a list that reads back as the ranges
  pub records_whole : (s : List ℕ) → WholeRecords (kept_bytes s) (length (walk s).kept)
  pub list_reads_back : (s : List ℕ) → length s ≤ 65536
      → listed (length (ranges_of (walk s).passed)) (list_bytes (ranges_of (walk s).passed)) ≡ ranges_of (walk s).passed
  -- buffers of 65,520 and 16,920 bytes hold every answer
  pub always_room : (s : List ℕ) → length s ≤ 65536 → (n m : ℕ) → 65520 ≤ n → 16920 ≤ m → rescue_refusal_of (rescue_of s n m) ≡ 0
  -- whole records with nothing between are all kept
  pub whole_kept : (s : List ℕ) (n : ℕ) → WholeRecords s n → (length (walk s).kept ≡ n) × (kept_bytes s ≡ s) × ((walk s).passed ≡ [])
  -- n whole records of which record m, counted from 0, has another byte at its place q: it reads no more, and every other one reads; where no thirty bytes
  -- that start inside it read either, all others are kept as they stood and it alone is passed, as one range
  pub damaged_record : (s : List ℕ) (n m q b : ℕ) → WholeRecords s n → Bytes s → m < n → q < 30 → b < 256 → (get_or s (30 * m + q) 0 ≡ b → ⊥)
      → (has_record (set s (30 * m + q) b) (30 * m) ≡ false) × ((k : ℕ) → k < n → (k ≡ m → ⊥) → has_record (set s (30 * m + q) b) (30 * k) ≡ true)
  pub damaged_alone : (s : List ℕ) (n m q b : ℕ) → WholeRecords s n → Bytes s → m < n → q < 30 → b < 256 → (get_or s (30 * m + q) 0 ≡ b → ⊥)
      → ((k : ℕ) → 0 < k → k < 30 → has_record (set s (30 * m + q) b) (30 * m + k) ≡ false)
      → (kept_bytes (set s (30 * m + q) b) ≡ take (30 * m) s ++ drop (30 * m + 30) s) × (ranges_of (walk (set s (30 * m + q) b)).passed ≡ range (30 * m) 30 ∷ [])
      × (suc (length (walk (set s (30 * m + q) b)).kept) ≡ n)
  -- there is such a case: two records of which the first has 7 in place of another byte, with nothing that reads inside it; and a byte less in either buffer
  -- is refused
  pub some_damaged : (s : List ℕ) × WholeRecords s 2 × Bytes s × (get_or s 16 0 ≡ 7 → ⊥) × ((k : ℕ) → 0 < k → k < 30 → has_record (set s 16 7) k ≡ false)
      × (rescue_of (set s 16 7) 30 8 ≡ Ok (record { kept = 1; ranges = 1; passed = 30 })) × (rescue_of (set s 16 7) 29 8 ≡ Err BufferShort) × (rescue_of (set s 16 7) 30 7 ≡ Err BufferShort)
