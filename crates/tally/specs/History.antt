-- The tally over a station's whole history.
-- Assumes nothing.
use Rattle.std.specs.Prelude.{ℕ, ◌≤◌, true, List, [], ◌∷◌, ◌≡◌}
use Rattle.spec_history.specs.Ledger.{empty_ledger}
use Rattle.spec_history.specs.Calls.{Call, narrow_draws, Machine, AfterNew, code_of, state_of, output_of, ledger_after, definition}
use Rattle.tally.specs.declared.Tally.{Tally}
use Rattle.tally.specs.Counts.{top, raised}
use Rattle.tally.specs.Sum.{total}

unfoldable pub no_messages : Tally
no_messages = record { join = 0; forward_join = 0; shuffle = 0; shuffle_reply = 0; neighbor = 0; disconnect = 0 }

-- the tally, raised after each call to a machine
unfoldable pub tally_after : {G S : Type 0} → Machine G S → List Call → S → Tally → Tally
tally_after m [] s t = t
tally_after m (v ∷ vs) s t = tally_after m vs (state_of m v s) (raised (code_of m v s) (output_of m v s) t)

-- the six counts together are the messages that the ledger has read, while these are below 2^64
abbrev pub CountsAll : {G S : Type 0} → Machine G S → ℕ → List Call → S → Type 0
CountsAll m a vs s = (ledger_after m a vs s empty_ledger).sent ≤ top → total (tally_after m vs s no_messages) ≡ (ledger_after m a vs s empty_ledger).sent

-- of every list of calls to a new station
abbrev pub CountsOf : {G S : Type 0} → Machine G S → Type 0
CountsOf m = AfterNew m (λ me c s. (vs : List Call) → narrow_draws vs ≡ true → CountsAll m c.active_view_capacity vs s)

-- of the definition
abbrev pub EveryMessageCounted : Type 0
EveryMessageCounted = CountsOf definition
