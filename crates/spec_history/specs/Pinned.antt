-- Document 02, S-14, what two towers on one hill want: once pinned, a neighbour stays one.
-- Assumes nothing.
use Rattle.std.specs.Prelude.{ℕ, Bool, true, not, ◌&&◌, List, [], ◌∷◌, ◌++◌, ◌≡◌}
use Rattle.base_lists.specs.Lists.{mem}
use Rattle.record.specs.Read.{rec_of}
use Rattle.spec_hyparview.specs.Station.{Station}
use Rattle.spec_hyparview.specs.Pins.{is_parting}
use Rattle.spec_history.specs.Calls.{Call, Machine, AfterNew, state_after, definition}

-- none of these calls brings a Disconnect from p, its closed connection or a Quit
unfoldable pub no_partings : ℕ → List Call → Bool
no_partings p [] = true
no_partings p (v ∷ vs) = not (is_parting p (rec_of v.event)) && no_partings p vs

-- of a new station: who has a pin after the calls vs has it, and is a neighbour, after any further calls ws without a parting of its own:
-- no arrival of others and no timer costs it its place
abbrev pub PinsStayOf : {G S : Type 0} → Machine G S → (S → Station) → Type 0
PinsStayOf m station =
    AfterNew m (λ me c s. (vs ws : List Call) (p : ℕ) → mem p (station (state_after m vs s)).pins ≡ true → no_partings p ws ≡ true
    → (mem p (station (state_after m (vs ++ ws) s)).pins ≡ true) × (mem p (station (state_after m (vs ++ ws) s)).active ≡ true))

-- of the definition
abbrev pub PinsStay : Type 0
PinsStay = PinsStayOf definition (λ s. s)
