-- Bytes that read as a record give the one of their fields.
use Rattle.std.proofs.Common.{◌^◌, ◌<◌, ◌≤◌, length, sym, ap, ◌∙◌, arith, w64}
use mir.Facts.{to_z_pos}
use Rattle.record.specs.Format.{record_length}
use Rattle.record.proofs.Unrefused.{is_record_lem, known_record, read_long}
use Rattle.record.proofs.known.Goals as goal
use Rattle.std.specs.Prelude.{Ok}

pub read-day-requires-clause-within : goal.read-day-requires-clause-within
read-day-requires-clause-within c =
    let r = is_record_lem _ c.requires in
    let l : record_length ≤ length c.args.s.now = read_long c.args.s.now r.0 r.1 in
    omega arith

pub read-micros-requires-clause-within : goal.read-micros-requires-clause-within
read-micros-requires-clause-within c =
    let r = is_record_lem _ c.requires in
    let l : record_length ≤ length c.args.s.now = read_long c.args.s.now r.0 r.1 in
    omega arith

pub record_of-requires : goal.record_of-requires
record_of-requires c = let r = is_record_lem _ c.requires in read_long c.args.s.now r.0 r.1

pub returns : goal.returns
returns c =
    let l : c.read-day.result < 2 ^ 63 = omega (arith, c.read-day.ensures.below) in
    ap Ok (c.record_of.ensures ∙ rw (to_z_pos w64 l) (simp (c.read-day.ensures.number, c.read-micros.ensures.number))) ∙ sym (known_record _ c.requires)
