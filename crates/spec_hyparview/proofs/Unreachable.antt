-- The Rust's `unreachable!` in `on_forward_join` is never reached: a walk that goes on has another neighbour to go to.
-- Assumes nothing.
use mathlib.Core.Path.{◌≡◌, refl, sym, ap, subst, ◌∙◌}
use mathlib.Core.Bool.{true, false}
use mathlib.Core.List.{List}
use mathlib.Core.Option.{Option, none, some}
use Prim.Native.Nat.{ℕ}
use native.Mathlib.Omega.{arith}
use lib.ListN.{length}
use borrow.Author.Tests.{leb-false}
use Rattle.record.specs.Kinds.{Evicted, output_byte}
use Rattle.base_lists.specs.Lists.{null, count, without}
use Rattle.base_lists.proofs.Choice.{by_choice, split, or_right}
use Rattle.base_lists.proofs.Count.{length_without}
use Rattle.base_timing.specs.Timing.{expired}
use Rattle.base_peer.specs.Data.{Node}
use Rattle.spec_hyparview.specs.Station.{Station, is_last_hop, in_active}
use Rattle.spec_hyparview.specs.Run.{Run, draw_one_of, notice}
use Rattle.spec_hyparview.specs.Peers as P
use Rattle.spec_hyparview.specs.Messages.{ends_here, learn_joiner}
use Rattle.spec_hyparview.specs.Rules.{station_ok}
use Rattle.spec_hyparview.specs.Handle.{start}
use Rattle.base_lists.proofs.Members.{null_yes}
use Rattle.spec_hyparview.proofs.Keeping.{one_of_station, emit_station}
use Rattle.spec_hyparview.proofs.Entering.{on_same, same_after_info}
use Rattle.spec_hyparview.proofs.Tested.{between_of}

-- what goes into the passive view leaves the active view alone
abbrev neighbours : Station → List ℕ
neighbours s = s.active

forget_keeps : (p : ℕ) (r : Run) → (P.forget_peer p r).station.active ≡ r.station.active
unfolding P.forget_peer P.drop_traces P.drop_mark P.drop_data
forget_keeps p r = by_choice (λ (w : Run). w.station.active ≡ r.station.active) _ (λ e. refl) (λ e. on_same neighbours _ (λ s. refl) r)

evict_keeps : (i : ℕ) (r : Run) → (P.evict_at i r).station.active ≡ r.station.active
unfolding P.evict_at P.shift_passive
evict_keeps i r = forget_keeps _ _ ∙ on_same neighbours _ (λ s. refl) r

tell_keeps : (x : Option ℕ) (r : Run) → (P.tell_evicted x r).station.active ≡ r.station.active
unfolding P.tell_evicted
tell_keeps none r = refl
tell_keeps (some p) r = ap neighbours (emit_station (notice (output_byte Evicted) p) r)

room_keeps : (r : Run) → (P.make_room r).station.active ≡ r.station.active
unfolding P.make_room P.evict
room_keeps r =
    tell_keeps (P.evicted r) (P.evict r)
    ∙ by_choice (λ (w : Run). w.station.active ≡ r.station.active) (P.must_evict r.station)
    (λ e. evict_keeps _ (draw_one_of (length r.station.passive) r) ∙ ap neighbours (one_of_station (length r.station.passive) r)) (λ e. refl)

enter_keeps : (p : ℕ) (r : Run) → (P.enter_passive p r).station.active ≡ r.station.active
unfolding P.enter_passive P.push_passive
enter_keeps p r =
    by_choice (λ (w : Run). w.station.active ≡ r.station.active) _
    (λ e. on_same neighbours _ (λ s. refl) (P.make_room r) ∙ room_keeps r) (λ e. refl)

learn_keeps : (n : Node) (ttl : ℕ) (r : Run) → (learn_joiner n ttl r).station.active ≡ r.station.active
unfolding learn_joiner P.add_passive
learn_keeps n ttl r =
    by_choice (λ (w : Run). w.station.active ≡ r.station.active) _
    (λ e. enter_keeps n.id _ ∙ same_after_info neighbours (λ x s. refl) n.id n.data_of r) (λ e. refl)

-- two neighbours or more, and no repeats: one of them is not `from`
others : (s : Station) → station_ok s ≡ true → (from : ℕ) → is_last_hop s ≡ false → null (without from s.active) ≡ false
unfolding is_last_hop count
others s e from l =
    let h = (between_of s e).core in
    split (null (without from s.active))
    (λ n. absurd (omega (arith, null_yes (without from s.active) n, length_without from s.active, h.seats.one from, leb-false (length s.active) 1 l)))
    (λ n. n)

-- A ForwardJoin that a station neither answers nor drops finds a neighbour other than its sender: whatever the station, if it passes the rules.
pub never_unreachable : (s : Station) → station_ok s ≡ true → (ds : List ℕ) (room from : ℕ) (n : Node) (ttl : ℕ) → ends_here n.id ttl s ≡ false
    → null (without from (learn_joiner n ttl (start s ds room)).station.active) ≡ false
unfolding ends_here
never_unreachable s e ds room from n ttl f =
    subst (λ (a : List ℕ). null (without from a) ≡ false) (sym (learn_keeps n ttl (start s ds room)))
    (others s e from (or_right (expired ttl) (is_last_hop s) (or_right (in_active n.id s) _ f)))
