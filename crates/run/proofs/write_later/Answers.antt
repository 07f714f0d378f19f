-- The later instant's corrections are asked for, and its record is written with them; without corrections there is no record.
use Rattle.std.proofs.Common.{rules, ◌≡◌, ◌∙◌, ap, sym, w32, w64, to_z, of_z}
use Rattle.std.proofs.Math.Facts.{to_z-of_z}
use Rattle.std.specs.Prelude.{Result}
use Rattle.instants.specs.declared.Instant.{Instant}
use Rattle.instants.specs.declared.refusal.Refusal.{Refusal}
use Rattle.instants.specs.Instants.{later_day}
use Rattle.instants.proofs.LaterInstants.{day_fits}
use Rattle.zonal.specs.declared.Corrections.{Corrections}
use Rattle.zonal.specs.Ours.{zonal_of}
use Rattle.run.proofs.Records.{written_refused, written_given}
use Rattle.run.proofs.write_later.Goals as goal

-- the corrections of an instant
abbrev zonal_at : Instant → Result Corrections Refusal
zonal_at i = zonal_of i.day i.micros

pub returns-in_default : goal.returns-in_default
returns-in_default c = written_refused _ _ _ c.args.buffer.now (sym (c.zonal_of.ensures ∙ ap zonal_at c.later-i.ensures) ∙ c.in_default.is)

pub returns-in-Ok : goal.returns-in-Ok
returns-in-Ok c =
    let g = c.in-Ok.c in
    let d = later_day c.args.start.day c.args.start.micros c.args.t in
    let k : to_z w64 (of_z w64 d) ≡ d = to_z-of_z {w = w64} (day_fits _ _ _ c.requires.accepted c.requires.few) in
    let u : to_z w32 (of_z w32 g.ut1) ≡ g.ut1 = to_z-of_z {w = w32} (search rules) in
    let l : to_z w32 (of_z w32 g.lod) ≡ g.lod = to_z-of_z {w = w32} (search rules) in
    let r : to_z w32 (of_z w32 g.rate) ≡ g.rate = to_z-of_z {w = w32} (search rules) in
    c.write.ensures.buffer ∙ rw (c.later-i.ensures, k, u, l, r) (written_given _ _ g c.args.buffer.now (sym (c.in-Ok.ensures ∙ ap zonal_at c.later-i.ensures)))
