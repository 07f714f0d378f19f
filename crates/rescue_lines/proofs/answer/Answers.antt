-- A refused input leaves the records alone and has its refusal written, any other is rescued and reported. Each way out is a law of Answers.
use Rattle.std.proofs.Common.{◌≡◌, ℕ, List, ◌++◌, length, replicate, ap, sym, ◌∙◌, arith}
use lib.ListN.{length-replicate}
use Rattle.bigendian.specs.Buffers.{at_front}
use Rattle.bigendian.proofs.Buffers.{front_none}
use Rattle.rescue.specs.Claims.{listed}
use Rattle.text.proofs.Numerals.{refused_most}
use Rattle.rescue_lines.specs.Lines.{lines_text, totals_text}
use Rattle.rescue_lines.proofs.Answers.{none_written, refusal_written, records_size, ranges_most, kept_most, records_written, list_long, report_written}
use Rattle.rescue_lines.proofs.answer.Goals as goal

-- the list as it is given to the rescue
abbrev zeros : List ℕ
zeros = replicate 16920 0

zeros_long : length zeros ≡ 16920
zeros_long = length-replicate {A = ℕ} 16920 0

pub refuse_by-requires : goal.refuse_by-requires
refuse_by-requires c = omega (arith, c.told-report, refused_most)

pub overflow_mul-result : goal.overflow_mul-result
overflow_mul-result c = omega (arith, kept_most _ _ (sym c.in-Ok.ensures))

pub put_report-requires-clause-entries : goal.put_report-requires-clause-entries
put_report-requires-clause-entries c =
    let e = sym c.in-Ok.ensures in
    let l = ap length c.rescue.ensures.list ∙ list_long _ _ e c.args.records.now zeros c.told-records zeros_long in
    omega (arith, l, ranges_most _ _ e)

pub put_report-requires-clause-room : goal.put_report-requires-clause-room
put_report-requires-clause-room c = omega (arith, c.told-report, ranges_most _ _ (sym c.in-Ok.ensures))

pub returns-in-Err-clause-sizes : goal.returns-in-Err-clause-sizes
returns-in-Err-clause-sizes c =
    let e = sym c.in-Err.ensures in
    (sym (ap length (none_written _ _ e)), c.refuse_by.ensures.size ∙ ap length (refusal_written _ _ e))

pub returns-in-Err-clause-records : goal.returns-in-Err-clause-records
returns-in-Err-clause-records c =
    let old = c.args.records.now in
    sym (ap (λ (t : List ℕ). at_front t old) (none_written _ _ (sym c.in-Err.ensures)) ∙ front_none old)

pub returns-in-Err-clause-report : goal.returns-in-Err-clause-report
returns-in-Err-clause-report c =
    let old = c.args.report.now in
    c.refuse_by.ensures.buffer ∙ ap (λ (t : List ℕ). at_front t old) (refusal_written _ _ (sym c.in-Err.ensures))

pub returns-in-Ok-clause-sizes : goal.returns-in-Ok-clause-sizes
returns-in-Ok-clause-sizes c =
    let e = sym c.in-Ok.ensures in
    let a = c.in-Ok.c in
    let text =
    ap (λ (l : List ℕ). lines_text (listed a.ranges l) ++ totals_text a) c.rescue.ensures.list
    ∙ report_written _ _ e c.args.records.now zeros c.told-records zeros_long in
    (records_size _ _ e, c.put_report.ensures.size ∙ ap length text)

pub returns-in-Ok-clause-records : goal.returns-in-Ok-clause-records
returns-in-Ok-clause-records c =
    c.rescue.ensures.records ∙ records_written _ _ (sym c.in-Ok.ensures) c.args.records.now zeros c.told-records zeros_long

pub returns-in-Ok-clause-report : goal.returns-in-Ok-clause-report
returns-in-Ok-clause-report c =
    let e = sym c.in-Ok.ensures in
    let a = c.in-Ok.c in
    let old = c.args.report.now in
    let text =
    ap (λ (l : List ℕ). lines_text (listed a.ranges l) ++ totals_text a) c.rescue.ensures.list
    ∙ report_written _ _ e c.args.records.now zeros c.told-records zeros_long in
    c.put_report.ensures.buffer ∙ ap (λ (t : List ℕ). at_front t old) text
