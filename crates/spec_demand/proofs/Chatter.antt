-- The program's words are the definition's stations, packed, and so its traffic is the definition's.
-- Assumes nothing.
use Prim.Native.Nat.{ℕ}
use mathlib.Core.List.{List}
use Rattle.spec_history.specs.Calls.{state_after}
use Rattle.spec_chatter.specs.Traffic.{traffic}
use Rattle.spec_chatter.specs.Claims.{Chatter}
use Rattle.spec_chatter.proofs.Packed.{chatter_packed}
use Rattle.hyparview_state.specs.Unpack.{unpack}
use Rattle.hyparview.specs.Made.{pack_made}
use Rattle.spec_demand.specs.Program.{program, made_state, value_program}
use Rattle.spec_demand.specs.Chatter as C
use Rattle.spec_demand.proofs.Program.{packs, from_new, value_packs}

pub chatter_holds : C.ChatterHolds
chatter_holds me g c t z vs =
    from_new (λ (s : List ℕ). Chatter (traffic program vs s) (unpack (state_after program vs s))) me g c z (λ e. chatter_packed packs me (program.own g) c t e vs)

pub chatter_holds_by_value : C.ChatterHoldsByValue
unfolding made_state pack_made
chatter_holds_by_value me g c t z vs = chatter_packed value_packs me (value_program.own g) c t z vs
