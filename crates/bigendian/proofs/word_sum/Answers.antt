use Rattle.std.proofs.Common.{◌∙◌, sym, refl, ℕ, length, arith, rules}
use Rattle.std.proofs.lemmas.List.{length_push}
use Rattle.bigendian.specs.Numbers.{word_sum}
use Rattle.bigendian.proofs.Scanning.{NextWord, next_word, sum_more}
use Rattle.bigendian.proofs.word_sum.Goals as goal

pub loop-word-init : goal.loop-word-init
unfolding word_sum
loop-word-init c = record { two = search rules; rest = search rules; within = omega arith; sum = refl }

pub loop-word-preserved : goal.loop-word-preserved
loop-word-preserved c =
    let k : ℕ = length c.loop-word.yielded in
    let w : NextWord c.args.s.now c.args.count k c.in-Some.word.now c.next.new.self.rest.now =
    next_word c.args.s.now c.args.count k c.in-Some.word.now c.next.new.self.rest.now (c.in-Some.ensures.steps.1.1 ∙ c.loop-word.invariant.two)
    (sym c.loop-word.invariant.rest ∙ c.in-Some.ensures.steps.1.0) in
    rw length_push record {
      two = c.in-Some.ensures.steps.0 ∙ c.loop-word.invariant.two;
      rest = w.rest;
      within = omega arith;
      sum = sum_more c.args.s.now k _ _ _ c.loop-word.invariant.sum (c.number_at.ensures.number ∙ w.number) refl;
    }
