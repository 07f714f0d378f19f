-- What reads as a record is thirty bytes long.
use Rattle.std.proofs.Common.{◌≡◌, ℕ, ◌≤◌, List, true, length, drop, length-drop, rules, arith}
use Rattle.record.specs.Format.{record_length}
use Rattle.record.specs.Records.{read_of, is_record}
use Rattle.record.proofs.Unrefused.{is_record_lem, read_long}
use Rattle.compare.proofs.record_at.Goals as goal

room : (s : List ℕ) (i : ℕ) → is_record (read_of (drop i s)) ≡ true → i ≤ length s
room s i e =
    let r = is_record_lem (read_of (drop i s)) e in
    let l : record_length ≤ length (drop i s) = read_long _ r.0 r.1 in
    omega (arith, length-drop i s)

pub slice_bounds-known-count : goal.slice_bounds-known-count
slice_bounds-known-count c = room _ _ c.requires

pub slice_bounds-known-start : goal.slice_bounds-known-start
slice_bounds-known-start c = let h : c.args.i ≤ length c.args.s.now = room _ _ c.requires in search rules
