-- The words of run_day alone.
use Rattle.std.specs.Prelude.{ℕ, List}
use Rattle.text.specs.Text.{ascii}

-- a bad line
unfoldable pub bad_text : List ℕ
bad_text = ascii "bad line\n"
