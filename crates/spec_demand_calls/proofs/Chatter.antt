-- The calls from C have the program's traffic: the tally beside the words changes no answer.
-- Assumes nothing.
use mathlib.Core.Path.{◌≡◌, refl, sym, ap, subst}
use mathlib.Core.List.{List, [], ◌∷◌, ◌++◌}
use Rattle.spec_history.specs.Calls.{Call, code_of, state_of, output_of, state_after}
use Rattle.spec_chatter.specs.Traffic.{Item, items_of, traffic}
use Rattle.spec_chatter.specs.Claims.{Chatter}
use Rattle.hyparview_state.specs.Unpack.{unpack}
use Rattle.controller.specs.Calls.{with_tally, begun, tallied, called}
use Rattle.spec_demand.specs.Program as D
use Rattle.spec_demand.specs.Program.{program}
use Rattle.spec_demand.proofs.Chatter as program
use Rattle.spec_demand_calls.specs.Memory.{LentMemory, memory_made, memory_outcome, c_calls}
use Rattle.spec_demand_calls.specs.Chatter as C
use Rattle.spec_demand_calls.proofs.Memory.{lent_by, states_follow}

traffic_follows : (vs : List Call) (x : LentMemory) → traffic c_calls vs x ≡ traffic program vs x.words
unfolding traffic memory_outcome D.program_outcome called tallied
traffic_follows [] x = refl
traffic_follows (v ∷ vs) x =
    ap (λ (xs : List Item). items_of v.event (code_of c_calls v x) (output_of c_calls v x) ++ xs) (traffic_follows vs (state_of c_calls v x))

pub chatter_holds : C.ChatterHolds
unfolding memory_made begun with_tally D.program_made
chatter_holds me g c t z vs =
    let start = c_calls.new_state me g c in
    subst (λ (xs : List Item). Chatter xs (unpack (state_after c_calls vs start).words)) (sym (traffic_follows vs start))
    (subst (λ (y : LentMemory). Chatter (traffic program vs start.words) (unpack y.words)) (sym (states_follow vs start)) (program.chatter_holds me (lent_by g) c t z vs))
