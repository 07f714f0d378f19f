-- A buffer that is filled from its front on.
use Rattle.std.specs.Prelude.{ℕ, List, ◌++◌, length, drop}

-- the bytes b at the front of a buffer, and behind them what the buffer held there
unfoldable pub at_front : List ℕ → List ℕ → List ℕ
at_front b old = b ++ drop (length b) old
