-- Behind a head bytes read exactly where their sum is 0 and their clock words join.
use Rattle.std.proofs.Common.{sym, ◌∙◌, ne_eqb}
use Rattle.record.proofs.Forms.{head_long, sum_needed, form_accepted, read_is}
use Rattle.record.proofs.reads_behind.Goals as goal

pub word_sum-requires : goal.word_sum-requires
word_sum-requires c = head_long _ c.requires

pub join_words-requires : goal.join_words-requires
join_words-requires c = head_long _ c.requires

pub returns-then-word_sum-eq0 : goal.returns-then-word_sum-eq0
returns-then-word_sum-eq0 c = c.is_ok.ensures.value ∙ read_is _ (form_accepted _ c.requires (sym c.word_sum.ensures ∙ c.if-word_sum-eq0.true)) _ (sym c.join_words.ensures)

pub returns-else-word_sum-eq0 : goal.returns-else-word_sum-eq0
returns-else-word_sum-eq0 c = ne_eqb _ _ c.if-word_sum-eq0.false ∙ sym (sum_needed _ c.requires (λ q. c.if-word_sum-eq0.false (c.word_sum.ensures ∙ q)))
