-- The file ends, or the record at the place is known or tested.
use Rattle.std.proofs.Common.{rules, ◌≡◌, true, ap, ◌∙◌, ◌+◌, ◌≤◌, List, ℕ, length, arith}
use Rattle.record.specs.Format.{record_length}
use Rattle.record.specs.Records.{read_of}
use Rattle.files.specs.Inner.{moment_in, sound_after, answers_from}
use Rattle.files.proofs.Answers.{lent}
use Rattle.files.proofs.Places.{moment_none, moment_there, known_reads, known_there}
use Rattle.files.proofs.moment_at.Goals as goal

pub returns-then-s-at-lt-LENGTH : goal.returns-then-s-at-lt-LENGTH
returns-then-s-at-lt-LENGTH g c = moment_none c.args.s.now c.args.at c.args.last (omega arith) c.requires.place

pub known_moment-requires : goal.known_moment-requires
known_moment-requires g c =
    let room : c.args.at + record_length ≤ length c.args.s.now = omega arith in
    let sound : sound_after c.args.last (answers_from c.args.s.now c.args.at) ≡ true = search rules in
    rw (lent c.args.s.now c.args.at) (known_reads c.args.s.now c.args.at c.args.last room sound)

pub returns-then-this-ne0 : goal.returns-then-this-ne0
returns-then-this-ne0 g c =
    let room : c.args.at + record_length ≤ length c.args.s.now = omega arith in
    let sound : sound_after c.args.last (answers_from c.args.s.now c.args.at) ≡ true = search rules in
    c.known_moment.ensures
    ∙ (ap (λ (l : List ℕ). moment_in 0 (read_of l)) (lent c.args.s.now c.args.at) ∙ known_there c.args.s.now c.args.at c.args.last room sound)

pub returns : goal.returns
returns g c =
    let room : c.args.at + record_length ≤ length c.args.s.now = omega arith in
    c.moment_in.ensures ∙ (ap (λ (l : List ℕ). moment_in c.args.last (read_of l)) (lent c.args.s.now c.args.at) ∙ moment_there c.args.s.now c.args.at c.args.last room)
