-- Document 01, "The run program": the lines of an event.
-- Assumes nothing.
use Rattle.std.specs.Prelude.{ℕ, List, [], ◌∷◌, ◌++◌}
use Rattle.record.specs.Walk.{headers}
use Rattle.record.specs.declared.Header.{Header}
use Rattle.run_text.specs.Numbers.{field}

-- a space, the end of a line, and `=`, as bytes
abbrev pub space : ℕ
space = 32

abbrev pub newline : ℕ
newline = 10

abbrev pub equals : ℕ
equals = 61

-- four numbers with spaces between them, and what follows the last
unfoldable pub four : ℕ → ℕ → ℕ → ℕ → ℕ → List ℕ
four a b c d after = field a space ++ (field b space ++ (field c space ++ field d after))

-- "Each output record prints event index, kind, message, peer, second, ttl, number, node count."
unfoldable pub record_line : ℕ → Header → List ℕ
record_line i h = four i h.kind h.message h.peer space ++ four h.second h.ttl h.number h.nodes newline

-- "Each event ends with `=`, code, draws used."
unfoldable pub end_line : ℕ → ℕ → List ℕ
end_line code draws = equals ∷ space ∷ (field code space ++ field draws newline)

unfoldable pub record_lines : ℕ → List Header → List ℕ
record_lines i [] = []
record_lines i (h ∷ hs) = record_line i h ++ record_lines i hs

-- all lines of the i-th event
unfoldable pub event_text : ℕ → ℕ → ℕ → List ℕ → List ℕ
event_text i code draws out = record_lines i (headers out) ++ end_line code draws
