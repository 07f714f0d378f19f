-- The word with the numeral behind it, and a newline, are put one behind the other.
use Rattle.std.proofs.Common.{◌≡◌, ℕ, ◌+◌, List, [], ◌∷◌, ◌++◌, length, append_assoc, arith, length-append}
use Rattle.text.specs.Text.{ascii, numeral, refusal_text}
use Rattle.text.proofs.Numerals.{refusal_length, numeral_most}
use Rattle.text.proofs.Pieces.{put_length, byte_put}
use Rattle.text.proofs.refuse.Goals as goal

-- what stands before the newline
abbrev counted : ℕ → List ℕ
counted n = ascii "refused " ++ numeral n

counted_length : (n : ℕ) → length (counted n) ≡ 8 + length (numeral n)
counted_length n = length-append (ascii "refused ") (numeral n)

-- the text as it is put together
pieces : (n : ℕ) → counted n ++ 10 ∷ [] ≡ refusal_text n
unfolding refusal_text
pieces n = append_assoc (ascii "refused ") (numeral n) (10 ∷ [])

pub put_counted-end-requires : goal.put_counted-end-requires
put_counted-end-requires c = omega (arith, refusal_length c.args.number, counted_length c.args.number)

pub bounds-buffer-end : goal.bounds-buffer-end
bounds-buffer-end c =
    let n = c.args.number in
    let e = c.put_counted-end.ensures in
    let k = put_length _ _ _ _ (e.size, e.buffer) (omega (arith, refusal_length n, counted_length n)) in
    omega (arith, k, refusal_length n, counted_length n)

pub overflow_add-result : goal.overflow_add-result
overflow_add-result c = omega (arith, counted_length c.args.number, numeral_most c.args.number)

pub returns-clause-size : goal.returns-clause-size
returns-clause-size c = omega (arith, refusal_length c.args.number, counted_length c.args.number)

pub returns-clause-buffer : goal.returns-clause-buffer
returns-clause-buffer c =
    let n = c.args.number in
    let e = c.put_counted-end.ensures in
    let k = put_length _ _ _ _ (e.size, e.buffer) (omega (arith, refusal_length n, counted_length n)) in
    rw (← pieces n) (byte_put _ _ _ _ (e.size, e.buffer) 10 (omega (arith, k, refusal_length n, counted_length n))).1
