-- S-11 holds of a machine that packs its stations, as the program does.
-- Assumes nothing.
use Prim.Native.Nat.{ℕ}
use mathlib.Core.Path.{◌≡◌, refl, sym, ap, subst, ◌∙◌}
use mathlib.Core.Bool.{Bool, true, ◌&&◌}
use mathlib.Core.List.{List, [], ◌∷◌, ◌++◌}
use lib.ListN.{drop}
use lib.Dec.{eqb}
use Rattle.base_lists.specs.Lists.{choose, null}
use Rattle.base_lists.specs.Tests.{every}
use Rattle.base_lists.proofs.Choice.{choose_yes, and_left, and_right}
use Rattle.base_timing.specs.Timing.{in_range}
use Rattle.base_timing.specs.declared.Config.{Config}
use Rattle.base_peer.specs.Data.{Data}
use Rattle.record.specs.Kinds.{is_event_kind}
use Rattle.record.specs.Walk.{kind_in, headers}
use Rattle.spec_hyparview.specs.Station.{Station}
use Rattle.spec_hyparview.specs.Rules.{station_ok, short_data}
use Rattle.spec_hyparview.specs.Handle.{Made, new, new_station}
use Rattle.spec_hyparview.proofs.Tested.{rules_of}
use Rattle.spec_history.specs.Ledger.{Ledger}
use Rattle.spec_history.specs.Calls.{NewGiven, Machine, state_of, result_of, definition}
use Rattle.spec_history.specs.Packing.{Packs}
use Rattle.spec_history.proofs.Kept.{Kept, fine_answer, kept_new, accepted_new}
use Rattle.shuffle_times.specs.Histories.{Brought, timer_delays, after, set_by, shuffles_due, counts, start_of, fires, is_first, on_time, punctual, every_timer_fires, timer_kinds, none_asked, none_numbered, numbered_kinds}
use Rattle.shuffle_times.specs.Claims.{Timed}
use Rattle.shuffle_times.proofs.Carried.{timed_carried}
use Rattle.shuffle_times.proofs.Claims.{shuffles_timed}

module _ {G S : Type 0} {m : Machine G S} {pack : Station → S} {station : S → Station} {ok : S → Bool} (k : Packs m pack station ok) where
  set_follows : (n : ℕ) (v : Brought) (g : Station) → station_ok g ≡ true → set_by n m v (pack g) ≡ set_by n definition v g
  unfolding set_by
  set_follows n v g t = ap (λ (o : List ℕ). after v.at (timer_delays n (headers o))) (k.output v.call g t)

  module _ {c : Config} {me : ℕ} (ranges : in_range c ≡ true) where
    shuffles_follow : (vs : List Brought) {l : Ledger} {g : Station} → Kept c me l g → shuffles_due m vs (pack g) ≡ shuffles_due definition vs g
    unfolding shuffles_due
    shuffles_follow [] h = refl
    shuffles_follow (v ∷ vs) {g = g} h =
        let t = rules_of g ranges h in
        let rest : shuffles_due m vs (state_of m v.call (pack g)) ≡ shuffles_due definition vs (result_of v.call g).state =
        ap (shuffles_due m vs) (k.state v.call g t) ∙ shuffles_follow vs (fine_answer ranges v.call h).kept in
        (λ i. set_follows 1 v g t i ++ rest i)

    start_follows : (vs : List Brought) {l : Ledger} {g : Station} → Kept c me l g → start_of m vs (pack g) ≡ start_of definition vs g
    unfolding start_of counts
    start_follows [] h = refl
    start_follows (v ∷ vs) {g = g} h =
        let t = rules_of g ranges h in
        let rest : start_of m vs (state_of m v.call (pack g)) ≡ start_of definition vs (result_of v.call g).state =
        ap (start_of m vs) (k.state v.call g t) ∙ start_follows vs (fine_answer ranges v.call h).kept in
        (λ i. choose (is_event_kind (kind_in v.call.event) && eqb (k.code v.call g t i) 0) v.at (rest i))

    on_time_follows : (vs : List Brought) {l : Ledger} {g : Station} → Kept c me l g → (waiting : List ℕ) → on_time m vs (pack g) waiting ≡ on_time definition vs g waiting
    unfolding on_time fires
    on_time_follows [] h waiting = refl
    on_time_follows (v ∷ vs) {g = g} h waiting =
        let t = rules_of g ranges h in
        let rest : (w : List ℕ) → on_time m vs (state_of m v.call (pack g)) w ≡ on_time definition vs (result_of v.call g).state w =
        λ w. ap (λ (s : S). on_time m vs s w) (k.state v.call g t) ∙ on_time_follows vs (fine_answer ranges v.call h).kept w in
        let after_set : (w : List ℕ) → on_time m vs (state_of m v.call (pack g)) (w ++ set_by 1 m v (pack g)) ≡ on_time definition vs (result_of v.call g).state (w ++ set_by 1 definition v g) =
        λ w. ap (λ (x : List ℕ). on_time m vs (state_of m v.call (pack g)) (w ++ x)) (set_follows 1 v g t) ∙ rest (w ++ set_by 1 definition v g) in
        (λ i. choose (eqb (kind_in v.call.event) 1 && eqb (k.code v.call g t i) 0) (is_first v.at waiting && after_set (drop 1 waiting) i) (after_set waiting i))

    punctual_follows : (n : ℕ) (vs : List Brought) {l : Ledger} {g : Station} → Kept c me l g → (waiting : List ℕ) → punctual n m vs (pack g) waiting ≡ punctual n definition vs g waiting
    unfolding punctual fires
    punctual_follows n [] h waiting = refl
    punctual_follows n (v ∷ vs) {g = g} h waiting =
        let t = rules_of g ranges h in
        let rest : (w : List ℕ) → punctual n m vs (state_of m v.call (pack g)) w ≡ punctual n definition vs (result_of v.call g).state w =
        λ w. ap (λ (s : S). punctual n m vs s w) (k.state v.call g t) ∙ punctual_follows n vs (fine_answer ranges v.call h).kept w in
        let after_set : (w : List ℕ) → punctual n m vs (state_of m v.call (pack g)) (w ++ set_by n m v (pack g)) ≡ punctual n definition vs (result_of v.call g).state (w ++ set_by n definition v g) =
        λ w. ap (λ (x : List ℕ). punctual n m vs (state_of m v.call (pack g)) (w ++ x)) (set_follows n v g t) ∙ rest (w ++ set_by n definition v g) in
        rw (k.code v.call g t, after_set (drop 1 waiting), after_set waiting)

    every_follows : (vs : List Brought) {l : Ledger} {g : Station} → Kept c me l g → every_timer_fires m vs (pack g) ≡ every_timer_fires definition vs g
    unfolding every_timer_fires
    every_follows vs h = λ i. every (λ n. punctual_follows n vs h [] i) timer_kinds

    asked_follows : (n : ℕ) (vs : List Brought) {l : Ledger} {g : Station} → Kept c me l g → none_asked n m vs (pack g) ≡ none_asked n definition vs g
    unfolding none_asked
    asked_follows n [] h = refl
    asked_follows n (v ∷ vs) {g = g} h =
        let t = rules_of g ranges h in
        let rest : none_asked n m vs (state_of m v.call (pack g)) ≡ none_asked n definition vs (result_of v.call g).state =
        ap (λ (s : S). none_asked n m vs s) (k.state v.call g t) ∙ asked_follows n vs (fine_answer ranges v.call h).kept in
        (λ i. null (set_follows n v g t i) && rest i)

    numbered_follow : (vs : List Brought) {l : Ledger} {g : Station} → Kept c me l g → none_numbered m vs (pack g) ≡ none_numbered definition vs g
    unfolding none_numbered
    numbered_follow vs h = λ i. every (λ n. asked_follows n vs h i) numbered_kinds

    packed : {l : Ledger} {g : Station} → Kept c me l g → Timed definition c g → Timed m c (pack g)
    packed h = timed_carried (λ vs. shuffles_follow vs h) (λ vs. start_follows vs h) (λ vs. on_time_follows vs h []) (λ vs. every_follows vs h) (λ vs. numbered_follow vs h) c

  -- from a new station that was packed
  pub timed_packed : (me : ℕ) (d : Data) (c : Config) → NewGiven me d → (new me d c).code ≡ 0 → Timed m c (pack (new me d c).state)
  unfolding new
  timed_packed me d c given z =
      let t = accepted_new me d c z in
      let r = and_left (in_range c) (short_data d) t in
      let e : (new me d c).state ≡ new_station me d c = ap (λ (x : Made). x.state) (choose_yes (in_range c && short_data d) _ _ t) in
      subst (λ (s : Station). Timed m c (pack s)) (sym e)
      (packed r (kept_new me d c given r (and_right (in_range c) (short_data d) t)) (subst (Timed definition c) e (shuffles_timed me d c given z)))
