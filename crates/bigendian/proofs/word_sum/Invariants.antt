-- The sum is that of the words read, wrapped, and the words that are left begin behind them.
use Rattle.std.proofs.Common.{◌≡◌, ◌*◌, ◌%◌, ◌≤◌, length, take, drop}
use Rattle.bigendian.specs.Numbers.{word_sum}
use Rattle.bigendian.proofs.word_sum.Given as goal

abbrev pub invariant-loop-word : goal.invariant-loop-word
invariant-loop-word l =
    record {
      two : l.word-iterator.size ≡ 2;
      rest : l.word-iterator.rest.now ≡ drop (2 * length l.yielded) (take (2 * l.count) l.s);
      within : length l.yielded ≤ l.count;
      sum : l.sum ≡ word_sum l.s (length l.yielded) % 0x1_0000;
    }
