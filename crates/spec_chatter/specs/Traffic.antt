-- What a reader of a station's traffic sees, in order: each accepted event, and after it each record of its output. It has no state and no stored sum.
-- Assumes nothing.
use Rattle.std.specs.Prelude.{ℕ, List, [], ◌∷◌, ◌++◌, map, eqb}
use Rattle.base_lists.specs.Lists.{choose}
use Rattle.record.specs.declared.Header.{Header}
use Rattle.record.specs.Read.{header_of}
use Rattle.record.specs.Walk.{headers}
use Rattle.spec_history.specs.Calls.{Call, Machine, code_of, state_of, output_of}

-- an event that came, or a record that went
pub data Item : Type 0 where
  came : Header → Item
  went : Header → Item

-- of one call; a refused one has no items
unfoldable pub items_of : List ℕ → ℕ → List ℕ → List Item
items_of b code out = choose (eqb code 0) (came (header_of b) ∷ map went (headers out)) []

-- of a list of calls
unfoldable pub traffic : {G S : Type 0} → Machine G S → List Call → S → List Item
traffic m [] s = []
traffic m (v ∷ vs) s = items_of v.event (code_of m v s) (output_of m v s) ++ traffic m vs (state_of m v s)
