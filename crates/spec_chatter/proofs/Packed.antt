-- The claims hold of a machine that packs its stations, as the program does.
-- Assumes nothing.
use Prim.Native.Nat.{ℕ}
use mathlib.Core.Path.{◌≡◌, refl, sym, ap, subst, ◌∙◌}
use mathlib.Core.Bool.{Bool, true, ◌&&◌}
use mathlib.Core.List.{List, [], ◌∷◌, ◌++◌}
use Rattle.base_lists.proofs.Choice.{choose_yes, and_left, and_right}
use Rattle.base_timing.specs.Timing.{in_range}
use Rattle.base_timing.specs.declared.Config.{Config}
use Rattle.base_peer.specs.Data.{Data}
use Rattle.spec_hyparview.specs.Station.{Station}
use Rattle.spec_hyparview.specs.Rules.{short_data}
use Rattle.spec_hyparview.specs.Handle.{Made, new, new_station}
use Rattle.spec_hyparview.proofs.Tested.{rules_of}
use Rattle.spec_history.specs.Ledger.{Ledger}
use Rattle.spec_history.specs.Calls.{Call, NewGiven, Machine, state_of, result_of, state_after, definition}
use Rattle.spec_history.specs.Packing.{Packs}
use Rattle.spec_history.proofs.Kept.{Kept, fine_answer, kept_new, accepted_new, demand_3}
use Rattle.spec_history.proofs.Packing.{states_packed}
use Rattle.spec_chatter.specs.Traffic.{Item, items_of, traffic}
use Rattle.spec_chatter.specs.Claims.{Chatter}
use Rattle.spec_chatter.proofs.Whole.{chatter_holds}

module _ {G S : Type 0} {m : Machine G S} {pack : Station → S} {station : S → Station} {ok : S → Bool} (k : Packs m pack station ok) where
  traffic_follows : {c : Config} {me : ℕ} → in_range c ≡ true → (vs : List Call) {l : Ledger} {g : Station} → Kept c me l g → traffic m vs (pack g) ≡ traffic definition vs g
  unfolding traffic
  traffic_follows ranges [] h = refl
  traffic_follows ranges (v ∷ vs) {g = g} h =
      let t = rules_of g ranges h in
      let rest : traffic m vs (state_of m v (pack g)) ≡ traffic definition vs (result_of v g).state = ap (traffic m vs) (k.state v g t) ∙ traffic_follows ranges vs (fine_answer ranges v h).kept in
      (λ i. items_of v.event (k.code v g t i) (k.output v g t i) ++ rest i)

  module _ (me : ℕ) (d : Data) (c : Config) (given : NewGiven me d) (z : (new me d c).code ≡ 0) (vs : List Call) where
    same_traffic : traffic m vs (pack (new me d c).state) ≡ traffic definition vs (new me d c).state
    unfolding new
    same_traffic =
        let t = accepted_new me d c z in
        let r = and_left (in_range c) (short_data d) t in
        let e : (new me d c).state ≡ new_station me d c = ap (λ (x : Made). x.state) (choose_yes (in_range c && short_data d) _ _ t) in
        subst (λ (s : Station). traffic m vs (pack s) ≡ traffic definition vs s) (sym e) (traffic_follows r vs (kept_new me d c given r (and_right (in_range c) (short_data d) t)))

    same_station : station (state_after m vs (pack (new me d c).state)) ≡ state_after definition vs (new me d c).state
    same_station = ap station (states_packed k me d c given z vs) ∙ k.stands _ (demand_3 me d c given z vs).rules_hold

    -- from a new station that was packed
    pub chatter_packed : Chatter (traffic m vs (pack (new me d c).state)) (station (state_after m vs (pack (new me d c).state)))
    chatter_packed =
        subst (Chatter (traffic m vs (pack (new me d c).state))) (sym same_station)
        (subst (λ (xs : List Item). Chatter xs (state_after definition vs (new me d c).state)) (sym same_traffic) (chatter_holds me d c given z vs))
