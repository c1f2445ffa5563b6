-- 02, S-14: each call leaves the pin, so a list of them does; and after every list the rules hold, by which a pin is on a neighbour.
-- Assumes nothing.
use Prim.Native.Nat.{ℕ}
use mathlib.Core.Bool.{Bool, true, not}
use mathlib.Core.List.{List, [], ◌∷◌, ◌++◌}
use mathlib.Core.Path.{◌≡◌, refl, sym, ap, subst, ◌∙◌}
use native.Mathlib.Omega.{arith}
use lib.ListN.{length}
use borrow.Author.Tests.{not-true}
use Rattle.base_lists.specs.Lists.{mem}
use Rattle.base_lists.proofs.Choice.{and_left, and_right}
use Rattle.base_lists.proofs.Count.{mem_true}
use Rattle.base_lists.proofs.Members.{mem_yes}
use Rattle.base_peer.specs.Data.{Data}
use Rattle.base_timing.specs.declared.Config.{Config}
use Rattle.record.specs.Read.{rec_of}
use Rattle.spec_hyparview.specs.Station.{Station}
use Rattle.spec_hyparview.specs.Rules.{station_ok}
use Rattle.spec_hyparview.specs.Pins.{is_parting}
use Rattle.spec_hyparview.specs.Handle.{refusal, new}
use Rattle.spec_hyparview.proofs.Sides.{by_side}
use Rattle.spec_hyparview.proofs.Stays.{pin_kept}
use Rattle.spec_hyparview.proofs.Tested.{between_of}
use Rattle.spec_history.specs.Calls.{Call, Machine, NewGiven, state_of, state_after, definition, answered}
use Rattle.spec_history.specs.Packing.{Packs}
use Rattle.spec_history.specs.Pinned.{no_partings, PinsStay}
use Rattle.spec_history.proofs.Kept.{demand_3}
use Rattle.spec_history.proofs.Packing.{states_packed}

after_both : {G S : Type 0} (m : Machine G S) (vs ws : List Call) (s : S) → state_after m (vs ++ ws) s ≡ state_after m ws (state_after m vs s)
unfolding state_after
after_both m [] ws s = refl
after_both m (v ∷ vs) ws s = after_both m vs ws (state_of m v s)

pin_after : (p : ℕ) (ws : List Call) (s : Station) → no_partings p ws ≡ true → mem p s.pins ≡ true → mem p (state_after definition ws s).pins ≡ true
unfolding state_after no_partings answered refusal
pin_after p [] s n m = m
pin_after p (v ∷ ws) s n m =
    let here = is_parting p (rec_of v.event) in
    pin_after p ws _ (and_right (not here) _ n) (by_side (λ x. mem p x.state.pins ≡ true) v.side s v.event v.draws (length v.output) m (pin_kept p s v.event _ (length v.output) (not-true here (and_left (not here) _ n)) m))

pinned_active : (p : ℕ) (s : Station) → station_ok s ≡ true → mem p s.pins ≡ true → mem p s.active ≡ true
pinned_active p s ok m = mem_yes p s.active (omega (arith, (between_of s ok).law.pins_ok.among p, mem_true p s.pins m))

pub pins_stay : PinsStay
pins_stay me d c given z vs ws p m n =
    let s = (new me d c).state in
    let kept = subst (λ (x : Station). mem p x.pins ≡ true) (sym (after_both definition vs ws s)) (pin_after p ws (state_after definition vs s) n m) in
    (kept, pinned_active p _ (demand_3 me d c given z (vs ++ ws)).rules_hold kept)

-- of a machine whose states are packed stations
module _ {G S : Type 0} {m : Machine G S} {pack : Station → S} {station : S → Station} {ok : S → Bool} (k : Packs m pack station ok)
    (me : ℕ) (d : Data) (c : Config) (given : NewGiven me d) (z : (new me d c).code ≡ 0) where
  abbrev first : S
  first = pack (new me d c).state

  same : (us : List Call) → station (state_after m us first) ≡ state_after definition us (new me d c).state
  same us = ap station (states_packed k me d c given z us) ∙ k.stands _ (demand_3 me d c given z us).rules_hold

  pub pins_packed : (vs ws : List Call) (p : ℕ) → mem p (station (state_after m vs first)).pins ≡ true → no_partings p ws ≡ true
      → (mem p (station (state_after m (vs ++ ws) first)).pins ≡ true) × (mem p (station (state_after m (vs ++ ws) first)).active ≡ true)
  pins_packed vs ws p e n =
      subst (λ (x : Station). (mem p x.pins ≡ true) × (mem p x.active ≡ true)) (sym (same (vs ++ ws)))
      (pins_stay me d c given z vs ws p (subst (λ (x : Station). mem p x.pins ≡ true) (same vs) e) n)
