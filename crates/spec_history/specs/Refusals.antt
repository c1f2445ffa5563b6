-- 02, S-5: "Code 8 stays in the table and is proved never to occur after a new station".
-- Assumes nothing.
use Rattle.std.specs.Prelude.{false, List, ◌≡◌}
use Rattle.base_lists.specs.Lists.{mem}
use Rattle.spec_history.specs.Calls.{Call, Machine, AfterNew, codes, definition}

-- of every list of calls to a new station; of one call at any station that keeps the rules it is `never_eight` of `spec_hyparview`
abbrev pub NeverEightOf : {G S : Type 0} → Machine G S → Type 0
NeverEightOf m = AfterNew m (λ me c s. (vs : List Call) → mem 8 (codes m vs s) ≡ false)

-- of the definition
abbrev pub NeverEightAfter : Type 0
NeverEightAfter = NeverEightOf definition
