-- Document 02, S-13: "The program prints active size, passive size and how many end there, for 0 0, 0 1, 1 0 and 1 1."
-- Assumes nothing.
use Rattle.std.specs.Prelude.{ℕ, List, ◌++◌}
use Rattle.run_text.specs.Numbers.{field}
use Rattle.run_text.specs.Lines.{space, newline}
use Rattle.endings.specs.declared.Ends.{Ends}

unfoldable pub ends_line : ℕ → ℕ → ℕ → List ℕ
ends_line a p n = field a space ++ (field p space ++ field n newline)

unfoldable pub ends_text : Ends → List ℕ
ends_text c = ends_line 0 0 c.neither ++ (ends_line 0 1 c.passive ++ (ends_line 1 0 c.active ++ ends_line 1 1 c.both))
