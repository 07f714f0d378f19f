-- The instant is refused, the buffer is short, or the record's bytes are copied over its front.
use Rattle.std.proofs.Common.{rules, ◌≡◌, ap, ◌∙◌, Ok, Err}
use Rattle.std.proofs.lemmas.Result.{err_from_is_err_and}
use Rattle.clock.specs.Words.{split_of}
use Rattle.record.proofs.Written.{refused, short, done, day_fits}
use Rattle.record.proofs.Record.write.Goals as goal

pub returns-in_err-w-clause-refusal : goal.returns-in_err-w-clause-refusal
returns-in_err-w-clause-refusal c =
    let n : c.split.result ≡ Err c.in_err-w.field-0.0 = search rules in
    let e : split_of c.args.self.day c.args.self.micros ≡ Err c.in_err-w.field-0.0 = search (rules, c.split.ensures, c.instant.ensures) in
    let p = err_from_is_err_and c.from_residual.result c.from_residual.ensures.1 in
    p.1 ∙ (ap Err p.2 ∙ (refused _ _ c.args.self.ut1 c.args.self.lod c.args.self.rate c.args.buffer.now _ e).0)

pub returns-in_err-w-clause-buffer : goal.returns-in_err-w-clause-buffer
returns-in_err-w-clause-buffer c =
    let n : c.split.result ≡ Err c.in_err-w.field-0.0 = search rules in
    let e : split_of c.args.self.day c.args.self.micros ≡ Err c.in_err-w.field-0.0 = search (rules, c.split.ensures, c.instant.ensures) in
    (refused _ _ c.args.self.ut1 c.args.self.lod c.args.self.rate c.args.buffer.now _ e).1

pub returns-then-buffer-lt-LENGTH-clause-refusal : goal.returns-then-buffer-lt-LENGTH-clause-refusal
returns-then-buffer-lt-LENGTH-clause-refusal c =
    let n : c.split.result ≡ Ok c.in_ok-w.w = search rules in
    let e : split_of c.args.self.day c.args.self.micros ≡ Ok c.in_ok-w.w = search (rules, c.split.ensures, c.instant.ensures) in
    (short _ _ c.args.self.ut1 c.args.self.lod c.args.self.rate c.args.buffer.now _ e c.if-buffer-lt-LENGTH.true).0

pub returns-then-buffer-lt-LENGTH-clause-buffer : goal.returns-then-buffer-lt-LENGTH-clause-buffer
returns-then-buffer-lt-LENGTH-clause-buffer c =
    let n : c.split.result ≡ Ok c.in_ok-w.w = search rules in
    let e : split_of c.args.self.day c.args.self.micros ≡ Ok c.in_ok-w.w = search (rules, c.split.ensures, c.instant.ensures) in
    (short _ _ c.args.self.ut1 c.args.self.lod c.args.self.rate c.args.buffer.now _ e c.if-buffer-lt-LENGTH.true).1

pub bytes-requires : goal.bytes-requires
bytes-requires c =
    let n : c.split.result ≡ Ok c.in_ok-w.w = search rules in
    let e : split_of c.args.self.day c.args.self.micros ≡ Ok c.in_ok-w.w = search (rules, c.split.ensures, c.instant.ensures) in
    day_fits _ _ _ e

pub returns-clause-refusal : goal.returns-clause-refusal
returns-clause-refusal c =
    let n : c.split.result ≡ Ok c.in_ok-w.w = search rules in
    let e : split_of c.args.self.day c.args.self.micros ≡ Ok c.in_ok-w.w = search (rules, c.split.ensures, c.instant.ensures) in
    (done _ _ _ _ _ c.args.buffer.now _ _ e c.if-buffer-lt-LENGTH.false c.bytes.ensures).0

pub returns-clause-buffer : goal.returns-clause-buffer
returns-clause-buffer c =
    let n : c.split.result ≡ Ok c.in_ok-w.w = search rules in
    let e : split_of c.args.self.day c.args.self.micros ≡ Ok c.in_ok-w.w = search (rules, c.split.ensures, c.instant.ensures) in
    c.copy.ensures.buffer ∙ (done _ _ _ _ _ c.args.buffer.now _ _ e c.if-buffer-lt-LENGTH.false c.bytes.ensures).1
