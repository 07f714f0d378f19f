-- The form is refused, or the clock words are, or neither.
use Rattle.std.proofs.Common.{rules, ◌≡◌, sym, ap, ◌∙◌, Ok, Err}
use Rattle.std.proofs.lemmas.Result.{err_from_is_err_and}
use Rattle.record.proofs.Forms.{formed, form_refused, read_refused, read_joined}
use Rattle.record.proofs.read.Goals as goal

pub returns-in_err-form : goal.returns-in_err-form
returns-in_err-form c =
    let n : c.form.result ≡ Err c.in_err-form.field-0.0 = search rules in
    let p = err_from_is_err_and c.from_residual.result c.from_residual.ensures.1 in
    p.1 ∙ (ap Err p.2 ∙ sym (form_refused _ _ (sym c.form.ensures ∙ n)))

pub join_words-requires : goal.join_words-requires
join_words-requires c =
    let e : c.form.result ≡ Ok c.in_ok-form.field-0 = search rules in
    (formed _ (sym c.form.ensures ∙ e)).long

pub returns-in_err-t : goal.returns-in_err-t
returns-in_err-t c =
    let e : c.form.result ≡ Ok c.in_ok-form.field-0 = search rules in
    let n : c.join_words.result ≡ Err c.in_err-t.field-0.0 = search rules in
    let p = err_from_is_err_and c.from_residual-in_err-t.result c.from_residual-in_err-t.ensures.1 in
    p.1 ∙ (ap Err p.2 ∙ sym (read_refused _ (sym c.form.ensures ∙ e) _ (sym c.join_words.ensures ∙ n)))

pub record_of-requires : goal.record_of-requires
record_of-requires c =
    let e : c.form.result ≡ Ok c.in_ok-form.field-0 = search rules in
    (formed _ (sym c.form.ensures ∙ e)).long

pub returns : goal.returns
returns c =
    let e : c.form.result ≡ Ok c.in_ok-form.field-0 = search rules in
    let t : c.join_words.result ≡ Ok c.in_ok-t.t = search rules in
    ap Ok c.record_of.ensures ∙ sym (read_joined _ (sym c.form.ensures ∙ e) _ (sym c.join_words.ensures ∙ t))
