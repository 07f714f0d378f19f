-- Six fields put into zeros.
use Rattle.std.proofs.Common.{ap, ◌∙◌, rules, FitsSigned, w64, to_z-of_z}
use Rattle.bigendian.specs.Numbers.{twos_complement}
use Rattle.compare.proofs.Entries.{all_fields}
use Rattle.compare.proofs.Entry.bytes.Goals as goal

pub returns : goal.returns
returns c =
    let e = c.args.self in
    let d : FitsSigned w64 e.day = search rules in
    let f : FitsSigned w64 e.ut1 = search rules in
    let g : FitsSigned w64 e.lod = search rules in
    let h : FitsSigned w64 e.rate = search rules in
    all_fields e _ _ _ _ _ _ _ _ _ _ _
    c.put.ensures c.put-2.ensures c.put-3.ensures c.put-4.ensures c.put-5.ensures c.put-6.ensures
    c.from.ensures
    (c.twos_complement.ensures.number ∙ ap (twos_complement 4) (to_z-of_z d))
    (c.twos_complement_64.ensures ∙ ap (twos_complement 8) (to_z-of_z f))
    (c.twos_complement_64-2.ensures ∙ ap (twos_complement 8) (to_z-of_z g))
    (c.twos_complement_64-3.ensures ∙ ap (twos_complement 8) (to_z-of_z h))
