-- What holds of every list of calls to the definition holds of a machine that packs its stations.
-- Assumes nothing.
use Prim.Native.Nat.{ℕ}
use mathlib.Core.Path.{◌≡◌, refl, sym, ap, subst, ◌∙◌}
use mathlib.Core.Bool.{Bool, true, false, ◌&&◌}
use mathlib.Core.List.{List, [], ◌∷◌}
use lib.Dec.{eqb}
use Rattle.base_lists.specs.Lists.{choose, mem}
use Rattle.base_lists.proofs.Choice.{choose_yes, and_left, and_right}
use Rattle.base_timing.specs.Timing.{in_range}
use Rattle.base_timing.specs.declared.Config.{Config}
use Rattle.base_peer.specs.Data.{Data}
use Rattle.record.specs.Walk.{kind_in}
use Rattle.spec_hyparview.specs.Station.{Station}
use Rattle.spec_hyparview.specs.Rules.{station_ok, short_data}
use Rattle.spec_hyparview.specs.Handle.{Made, new, new_station}
use Rattle.base_lists.proofs.Members.{mem_no}
use Rattle.spec_hyparview.proofs.Tested.{rules_of}
use Rattle.spec_history.specs.Ledger.{Ledger, empty_ledger, feed}
use Rattle.spec_history.specs.Calls.{Call, NewGiven, narrow_draws, Machine, state_of, result_of, state_after, codes, ledger_after, definition}
use Rattle.spec_history.specs.Demand.{Views, Booked, Demand3}
use Rattle.spec_history.specs.Outputs.{ReadsBack, OutputsRead}
use Rattle.spec_history.specs.Packing.{Packs}
use Rattle.spec_history.specs.Rejoin.{is_tick, ticks, Promised}
use Rattle.spec_history.proofs.Kept.{Kept, fine_answer, none_eight, kept_new, accepted_new, demand_3}
use Rattle.spec_history.proofs.Rejoined.{rejoin_promise}
use Rattle.spec_history.proofs.Outputs.{outputs_read}

module _ {G S : Type 0} {m : Machine G S} {pack : Station → S} {station : S → Station} {ok : S → Bool} (k : Packs m pack station ok) where
  module _ {c : Config} {me : ℕ} (ranges : in_range c ≡ true) where
    states_follow : (vs : List Call) {l : Ledger} {g : Station} → Kept c me l g → state_after m vs (pack g) ≡ pack (state_after definition vs g)
    unfolding state_after
    states_follow [] h = refl
    states_follow (v ∷ vs) {g = g} h = ap (state_after m vs) (k.state v g (rules_of g ranges h)) ∙ states_follow vs (fine_answer ranges v h).kept

    codes_follow : (vs : List Call) {l : Ledger} {g : Station} → Kept c me l g → codes m vs (pack g) ≡ codes definition vs g
    unfolding codes
    codes_follow [] h = refl
    codes_follow (v ∷ vs) {g = g} h =
        let t = rules_of g ranges h in
        (λ i. k.code v g t i ∷ codes m vs (k.state v g t i)) ∙ ap (λ (cs : List ℕ). (result_of v g).code ∷ cs) (codes_follow vs (fine_answer ranges v h).kept)

    ledgers_follow : (a : ℕ) (vs : List Call) {l : Ledger} {g : Station} → Kept c me l g → (b : Ledger) → ledger_after m a vs (pack g) b ≡ ledger_after definition a vs g b
    unfolding ledger_after
    ledgers_follow a [] h b = refl
    ledgers_follow a (v ∷ vs) {g = g} h b =
        let t = rules_of g ranges h in
        (λ i. ledger_after m a vs (k.state v g t i) (feed a v.event (k.code v g t i) (k.output v g t i) b)) ∙ ledgers_follow a vs (fine_answer ranges v h).kept _

    ticks_follow : (vs : List Call) {l : Ledger} {g : Station} → Kept c me l g → ticks m station vs (pack g) ≡ ticks definition (λ s. s) vs g
    unfolding ticks is_tick
    ticks_follow [] h = refl
    ticks_follow (v ∷ vs) {g = g} h =
        let t = rules_of g ranges h in
        let rest : ticks m station vs (state_of m v (pack g)) ≡ ticks definition (λ s. s) vs (result_of v g).state = ap (ticks m station vs) (k.state v g t) ∙ ticks_follow vs (fine_answer ranges v h).kept in
        (λ i. choose (eqb (kind_in v.event) 2 && eqb (k.code v g t i) 0) (record { met = k.stands g t i; output = k.output v g t i } ∷ rest i) (rest i))

    outputs_follow : (vs : List Call) {l : Ledger} {g : Station} → Kept c me l g → OutputsRead definition vs g → OutputsRead m vs (pack g)
    unfolding OutputsRead
    outputs_follow [] h o = tt
    outputs_follow (v ∷ vs) {g = g} h o =
        let t = rules_of g ranges h in (
          (λ z. subst ReadsBack (sym (k.output v g t)) (o.0 (sym (k.code v g t) ∙ z))),
          subst (OutputsRead m vs) (sym (k.state v g t)) (outputs_follow vs (fine_answer ranges v h).kept o.1),
        )

    packed_demand : {g : Station} → Kept c me empty_ledger g → (vs : List Call) → Demand3 definition (λ s. s) station_ok me c g vs → Demand3 m station ok me c (pack g) vs
    packed_demand {g} h vs d =
        let after = state_after definition vs g in
        let e = states_follow vs h in
        let same : station (state_after m vs (pack g)) ≡ after = ap station e ∙ k.stands after d.rules_hold in
        record {
          none_is_two = ap (mem 2) (codes_follow vs h) ∙ d.none_is_two;
          rules_hold = ap ok e ∙ k.passes after d.rules_hold;
          views = subst (Views me c) (sym same) d.views;
          booked = subst (λ (s : Station). Booked s (ledger_after m c.active_view_capacity vs (pack g) empty_ledger)) (sym same)
              (subst (Booked after) (sym (ledgers_follow c.active_view_capacity vs h empty_ledger)) d.booked);
        }

  module _ (me : ℕ) (d : Data) (c : Config) (given : NewGiven me d) (z : (new me d c).code ≡ 0) (vs : List Call) where
    -- demand 3, from a new station that was packed
    pub demand_packed : Demand3 m station ok me c (pack (new me d c).state) vs
    unfolding new
    demand_packed =
        let t = accepted_new me d c z in
        let r = and_left (in_range c) (short_data d) t in
        let e : (new me d c).state ≡ new_station me d c = ap (λ (x : Made). x.state) (choose_yes (in_range c && short_data d) _ _ t) in
        subst (λ (s : Station). Demand3 m station ok me c (pack s) vs) (sym e)
        (packed_demand r (kept_new me d c given r (and_right (in_range c) (short_data d) t)) vs (subst (λ (s : Station). Demand3 definition (λ x. x) station_ok me c s vs) e (demand_3 me d c given z vs)))

    -- 02, S-5: no call is answered 8
    pub eight_packed : mem 8 (codes m vs (pack (new me d c).state)) ≡ false
    unfolding new
    eight_packed =
        let t = accepted_new me d c z in
        let r = and_left (in_range c) (short_data d) t in
        let e : (new me d c).state ≡ new_station me d c = ap (λ (x : Made). x.state) (choose_yes (in_range c && short_data d) _ _ t) in
        let k₀ = kept_new me d c given r (and_right (in_range c) (short_data d) t) in
        subst (λ (s : Station). mem 8 (codes m vs (pack s)) ≡ false) (sym e) (ap (mem 8) (codes_follow r vs k₀) ∙ mem_no 8 _ (none_eight r vs k₀))

    -- the state after the list is the definition's, packed
    pub states_packed : state_after m vs (pack (new me d c).state) ≡ pack (state_after definition vs (new me d c).state)
    unfolding new
    states_packed =
        let t = accepted_new me d c z in
        let r = and_left (in_range c) (short_data d) t in
        let e : (new me d c).state ≡ new_station me d c = ap (λ (x : Made). x.state) (choose_yes (in_range c && short_data d) _ _ t) in
        subst (λ (s : Station). state_after m vs (pack s) ≡ pack (state_after definition vs s)) (sym e) (states_follow r vs (kept_new me d c given r (and_right (in_range c) (short_data d) t)))

    -- and the rejoin promise
    pub rejoin_packed : Promised (ticks m station vs (pack (new me d c).state))
    unfolding new
    rejoin_packed =
        let t = accepted_new me d c z in
        let r = and_left (in_range c) (short_data d) t in
        let e : (new me d c).state ≡ new_station me d c = ap (λ (x : Made). x.state) (choose_yes (in_range c && short_data d) _ _ t) in
        let k₀ = kept_new me d c given r (and_right (in_range c) (short_data d) t) in
        let same : ticks m station vs (pack (new me d c).state) ≡ ticks definition (λ s. s) vs (new me d c).state = ap (λ (s : Station). ticks m station vs (pack s)) e ∙ (ticks_follow r vs k₀ ∙ ap (ticks definition (λ s. s) vs) (sym e)) in
        λ before twelve after q. rejoin_promise me d c given z vs before twelve after (sym same ∙ q)

    -- and that outputs are read back
    pub outputs_packed : narrow_draws vs ≡ true → OutputsRead m vs (pack (new me d c).state)
    unfolding new
    outputs_packed n =
        let t = accepted_new me d c z in
        let r = and_left (in_range c) (short_data d) t in
        let e : (new me d c).state ≡ new_station me d c = ap (λ (x : Made). x.state) (choose_yes (in_range c && short_data d) _ _ t) in
        let k₀ = kept_new me d c given r (and_right (in_range c) (short_data d) t) in
        subst (λ (s : Station). OutputsRead m vs (pack s)) (sym e) (outputs_follow r vs k₀ (outputs_read r vs n k₀))
