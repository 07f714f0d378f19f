-- What only the contracts of the code's own functions cite.
use Rattle.std.specs.Prelude.{ℕ, List, ℤ}
use Rattle.record.specs.Records.{written}
use Rattle.zonal.specs.Ours.{zonal_of, ut1_of, lod_of, rate_of}

-- the buffer after the record of the instant d, m has been written with the numbers of its corrections
unfoldable pub written_at : ℤ → ℕ → List ℕ → List ℕ
written_at d m old = written d m (ut1_of (zonal_of d m)) (lod_of (zonal_of d m)) (rate_of (zonal_of d m)) old
