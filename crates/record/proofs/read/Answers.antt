-- By cases on the test: a record that is well formed is long enough for its header; any other bytes are malformed.
use Prim.Native.Nat.{ℕ, ◌≤◌}
use mathlib.Core.Path.{◌≡◌, sym, ◌∙◌}
use mathlib.Core.Bool.{Bool, true}
use mathlib.Core.List.{List}
use lib.ListN.{length}
use Rattle.record.specs.Format.{peer_length, header_length}
use Rattle.record.specs.Read.{well_formed}
use Rattle.record.proofs.Laws.{well_formed_long, answer_record, answer_malformed}
use Rattle.record.proofs.read.Goals as goal

long : (b : List ℕ) (t : Bool) → t ≡ well_formed b → t ≡ true → header_length ≤ length b
long b t p q = well_formed_long peer_length b (sym p ∙ q)

pub read_header-requires : goal.read_header-requires
read_header-requires c = search long

pub returns-then-well_formed : goal.returns-then-well_formed
returns-then-well_formed c = search answer_record

pub returns-else-well_formed : goal.returns-else-well_formed
returns-else-well_formed c = search answer_malformed
