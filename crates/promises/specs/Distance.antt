-- Demand 3: distance. At every accepted instant the corrections are within 5 nanoseconds, 50 picoseconds and 5 * 10^-20 radian per second of the
-- exact sums over all 62 rows, in service (e) and in a run, and both offsets within 2 nanoarcseconds of the exact ones, with the built-in rows and
-- with the caller's. The sine and cosine that they are made of are within 20 units of 2^-31 of the exact ones. A distance is over a denominator
-- that is above 0.
use Rattle.std.specs.Prelude.{ℕ, ◌*◌, ◌^◌, ◌≤◌, ◌<◌, ◌≡◌, List, [], ◌∷◌, ℤ, pos, neg_ℤ, length, take, drop, Ok}
use Rattle.instants.specs.Instants.{IsAccepted, later_day, later_micros}
use Rattle.instants.specs.Moments.{since_j2000, moment_of, since}
use Rattle.sine.specs.Within.{sine_distance, SineWithin}
use Rattle.zonal.specs.Within.{distances, promised, Within, Answered}
use Rattle.zonal.specs.declared.Corrections.{Corrections}
use Rattle.record.specs.Format.{record_length}
use Rattle.run.specs.Run.{run_refusal, run_written}
use Rattle.run.specs.ReadBack.{ReadsAt}
use Rattle.rows.specs.Table.{row}
use Rattle.rows.specs.BuiltIn.{built_in}
use Rattle.rows.specs.Places.{row_moment}
use Rattle.rows.specs.declared.Row.{Row}
use Rattle.row_bytes.specs.Form.{table_in, AcceptedBytes}
use Rattle.nutation.specs.Ours.{nutation_of, nutation_rows_of}
use Rattle.nutation.specs.Exact.{exact_x, exact_y, exact_den}
use Rattle.nutation.specs.Claims as nutation
use Rattle.nutation.specs.Claims.{OffsetsNear}
use Rattle.nutation.specs.declared.Offsets.{Offsets}

-- two rows as bytes: of the first day, with no amplitude and the least uncertainty; of the last, with the largest amplitudes, XC below 0 and XS above,
-- and the largest uncertainty
abbrev pub two_rows : List ℕ
two_rows =
    0 ∷ 35 ∷ 1
    ∷ 0 ∷ 0 ∷ 58 ∷ 172 ∷ 0 ∷ 0 ∷ 0 ∷ 0 ∷ 0 ∷ 0 ∷ 0 ∷ 0 ∷ 0 ∷ 0 ∷ 0 ∷ 1
    ∷ 0 ∷ 1 ∷ 89 ∷ 113 ∷ 255 ∷ 254 ∷ 121 ∷ 96 ∷ 0 ∷ 1 ∷ 134 ∷ 160 ∷ 0 ∷ 1 ∷ 134 ∷ 160 ∷ []

pub record Distance : Type 0 where
  -- the promised distances in figures: of the corrections, of the offsets, and of the sine and cosine
  pub in_figures : (promised ≡ distances 5 50 5) × (nutation.distance ≡ 2) × (sine_distance ≡ 20)
  -- the sine and the cosine at every angle, in units of 2^-41 turn, are within their distance of the exact ones
  pub sine_near : (b : ℕ) → b < 2 ^ 41 → SineWithin b
  -- an accepted instant exists: the instant of RG_ZONT2's own case
  pub some_instant : IsAccepted (pos 54465) 0
  -- (e) every accepted instant is answered by three numbers within the promised 5 ns, 50 ps and 5 units of the exact sums
  pub corrections_near : (d : ℤ) (m : ℕ) → IsAccepted d m → Answered promised d m
  -- no constant answer, zeros among them, would do: the numbers of two days a day apart differ
  pub corrections_vary : (c c' : Corrections) → Within promised (since_j2000 (pos 54465) 0) c → Within promised (since_j2000 (pos 54466) 0) c'
      → (c.ut1 ≡ c'.ut1 → ⊥) × (c.lod ≡ c'.lod → ⊥) × (c.rate ≡ c'.rate → ⊥)
  -- the run: record k of a run that is not refused reads back as the instant k steps after the start, with numbers within the same distances there
  pub run_near : (d : ℤ) (m count step : ℕ) (old : List ℕ) → run_refusal d m count step (length old) ≡ 0 → (k : ℕ) → k < count
      → ReadsAt (later_day d m (k * step)) (later_micros m (k * step)) (take record_length (drop (record_length * k) (run_written d m count step old)))
  -- a run that is not refused exists: ninety-six records a quarter of an hour apart, and a day apart, from day 54465 on
  pub some_run : (n : ℕ) → record_length * 96 ≤ n → (run_refusal (pos 54465) 0 96 900_000_000 n ≡ 0) × (run_refusal (pos 54465) 0 96 86_400_000_000 n ≡ 0)
  -- the moment x that the offsets are taken at stands for n: at every accepted instant it is n + 5 N
  pub moment_counts : (d : ℤ) (m : ℕ) → IsAccepted d m → since (moment_of d m) ≡ since_j2000 d m
  -- and the moment that a row of the table is dated at stands for 0 h of its day
  pub row_dates : (r : Row) → since (row_moment r) ≡ since_j2000 (pos r.day) 0
  -- (f) every accepted instant is answered by two offsets within 2 nanoarcseconds of the exact ones, and the exact uncertainty
  pub offsets_near : (d : ℤ) (m : ℕ) → IsAccepted d m → (o : Offsets) × (nutation_of d m ≡ Ok o) × OffsetsNear built_in (moment_of d m) o
  -- and so with the rows of any accepted bytes, by those rows
  pub rows_near : (s : List ℕ) → AcceptedBytes s → (d : ℤ) (m : ℕ) → IsAccepted d m
      → (o : Offsets) × (nutation_rows_of s d m ≡ Ok o) × OffsetsNear (table_in s) (moment_of d m) o
  -- accepted bytes exist, and hold these rows
  pub some_rows : AcceptedBytes two_rows × (table_in two_rows ≡ row 15020 (pos 0) (pos 0) 1 ∷ row 88433 (neg_ℤ (pos 100_000)) (pos 100_000) 100_000 ∷ [])
  -- no constant offset would do
  pub offsets_vary : (c : ℤ)
      → (((d : ℤ) (m : ℕ) → IsAccepted d m → nutation.OffsetWithin c (exact_x built_in (moment_of d m)) (exact_den built_in (moment_of d m))) → ⊥)
      × (((d : ℤ) (m : ℕ) → IsAccepted d m → nutation.OffsetWithin c (exact_y built_in (moment_of d m)) (exact_den built_in (moment_of d m))) → ⊥)
