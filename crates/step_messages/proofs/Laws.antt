-- Laws of the messages received that several proofs cite.
-- Assumes nothing.
use Rattle.std.specs.Prelude as prelude
use Prim.Native.Nat.{ℕ, ◌≤◌, ◌<◌}
use mathlib.Core.Path.{◌≡◌, refl, sym, ap, ◌∙◌, subst}
use mathlib.Core.Bool.{Bool, true, false, not, ◌&&◌, ◌||◌}
use mathlib.Core.List.{List, [], ◌∷◌}
use mathlib.Core.Option.{Option}
use native.Mathlib.Omega.{arith}
use lib.ListN.{length, take, drop, get_or}
use lib.Dec.{eqb, ltb}
use borrow.Author.Tests.{eq-eqb, ne_eqb, eqb-true, eqb-false}
use Rattle.base_lists.specs.Lists.{mem, without, insert}
use Rattle.base_lists.proofs.Choice.{split, by_choice, choose_yes, choose_no, and_left, and_right, clash}
use Rattle.base_util.specs.Chances.{pick}
use Rattle.base_peer.specs.Data.{Node}
use Rattle.base_peer.specs.Held.{data_in, node_in}
use Rattle.base_peer.specs.declared.PeerData.{PeerData}
use Rattle.base_util.specs.Section.{items_at, HoldsSet, working_places}
use Rattle.base_peer.specs.declared.PeerInfo.{PeerInfo}
use Rattle.base_timing.specs.Timing.{next, expired}
use Rattle.base_timing.proofs.Ranges.{ranges}
use Rattle.spec_hyparview.specs.Station.{Station, is_me, is_requested, in_passive, in_active, active_is_full, is_last_hop}
use Rattle.spec_hyparview.specs.Run.{Run, guard, on, emit, to_draw, one_of, draw_one_of, require, picked, node, emit_all, message}
use Rattle.spec_hyparview.specs.Peers.{insert_peer_info, forget_peer, add_passive, drop_passive}
use Rattle.spec_hyparview.specs.Sending.{send_neighbor, send_disconnect}
use Rattle.spec_hyparview.specs.Refill.{refill_active_from_passive}
use Rattle.spec_hyparview.specs.Active.{mark_alive, accepts}
use Rattle.spec_hyparview.specs.Messages.{forward_join_to, ends_here, ask_joiner, learn_joiner, forward_join_on, walk_on, on_forward_join}
use Rattle.spec_hyparview.specs.Messages.{forward_joins, refuse_neighbor}
use Rattle.spec_hyparview.specs.Messages.{drop_recent, forget_recent, refused_fits, add_refused, note_refused, note_refusal, mark_passive, left_topic, disconnect_other}
use Rattle.base_lists.proofs.Members.{length_insert}
use Rattle.work.specs.declared.Work.{Work}
use Rattle.step_peers.specs.declared.Added.{Added}
use Rattle.step_peers.specs.Answer.{Adds}
use Rattle.hyparview_state.specs.Layout.{active_part, refused_part, active_random_walk_length, passive_random_walk_length, active_places, alive_places, refused_places}
use Rattle.hyparview_state.specs.Unpack.{unpack, station_of, settings_at, PackedState}
use Rattle.hyparview_state.specs.Work.{Held, work_of, run, run_of, Changes, ChangesAny, DrawsAny, Tells, TellsAny, Fine, Does}
use Rattle.hyparview_state.proofs.Access.{of_refused, of_settings}
use Rattle.hyparview_state.proofs.Any.{required_at, then_one_of, then_tell_any}
use Rattle.work.proofs.Any.{drew_none_of}
use Rattle.step_sending.proofs.Sets.{lent_items}
use Rattle.hyparview_state.proofs.Bridge.{on_passed, unchanged, change_by, change_then, change_yes, change_no, tell_then, require_said, by, still, then, then_tell, seq, taken, left, holds_at}
use Rattle.step_active.specs.Sane.{FreeMark}

-- ---- joins that are forwarded

pub others_held : (xs t u : List ℕ) (p : ℕ) → HoldsSet working_places t (items_at active_places (active_part xs)) → HoldsSet working_places u (without p (items_at working_places t)) → HoldsSet working_places u (without p (unpack xs).active)
unfolding unpack station_of
others_held xs t u p h k = record { valid = k.valid; items = k.items ∙ ap (without p) h.items }

pub join_forwarded : (w r : Work) (out o : List ℕ) (n : Node) (ttl q : ℕ)
    → TellsAny (emit (message 1 q 0 0 ttl (n ∷ []))) w r out o → TellsAny (emit (forward_join_to n ttl q)) w r out o
unfolding forward_join_to
join_forwarded w r out o n ttl q k = k

pub joiner_asked : (w a r : Held) (out o₁ o : List ℕ) (n : PeerInfo) → Tells (send_neighbor n.id true) a r o₁ o → Tells (insert_peer_info n.id (data_in n.data)) w a out o₁ → Tells (ask_joiner (node_in n)) w r out o
unfolding ask_joiner node_in
joiner_asked w a r out o₁ o n k₂ k₁ = tell_then _ (λ ds. refl) k₂ k₁

module _ (w : Work) (xs ds out : List ℕ) (n : PeerInfo) (ttl : ℕ) where
  walk_is : (run (work_of w xs) ds out).station.config.passive_random_walk_length ≡ passive_random_walk_length xs
  unfolding run_of unpack station_of settings_at
  walk_is = refl

  pub joiner_learned : (m : Added) (ys o : List ℕ) (x : Option ℕ) → ttl ≡ passive_random_walk_length xs → Adds m ys ds o (add_passive n.id (data_in n.data) (run (work_of w xs) ds out)) x
      → Does (work_of m.work ys) ds o (learn_joiner (node_in n) ttl (run (work_of w xs) ds out))
  unfolding learn_joiner node_in
  joiner_learned m ys o x h d = taken _ _ (eq-eqb _ _ (h ∙ sym walk_is)) d.does

  pub joiner_unlearned : Fine (work_of w xs) ds out → (ttl ≡ passive_random_walk_length xs → ⊥) → Does (work_of w xs) ds out (learn_joiner (node_in n) ttl (run (work_of w xs) ds out))
  unfolding learn_joiner
  joiner_unlearned v h = left _ _ (ne_eqb _ _ (λ e. h (e ∙ walk_is))) (still v)

-- one of no peers is 0
none_picked : (ps ds : List ℕ) (k : ℕ) → k ≡ length ps → k ≡ 0 → 0 ≡ get_or ps (pick (length ps) ds) 0
none_picked [] ds k e h = refl
none_picked (p ∷ ps) ds k e h = absurd (omega (arith, e, h))

module _ (w : Work) (xs ds out ps : List ℕ) (n : Node) (ttl k u : ℕ) (v : Fine (work_of w xs) ds out) (c : k ≡ length ps) (y : u ≡ next ttl) where
  join_on_is : (q : ℕ) → q ≡ get_or ps (pick (length ps) (drop w.drawn ds)) 0
      → forward_join_on ps n ttl (run (work_of w xs) ds out) ≡ emit (forward_join_to n u q) (draw_one_of (length ps) (run (work_of w xs) ds out))
  unfolding forward_join_on picked one_of to_draw run_of
  join_on_is q p = λ i. emit (forward_join_to n (sym y i) (sym p i)) (draw_one_of (length ps) (run (work_of w xs) ds out))

  join_on : (a r : Work) (o : List ℕ) (q : ℕ) → q ≡ get_or ps (pick (length ps) (drop w.drawn ds)) 0 → TellsAny (emit (forward_join_to n u q)) a r out o → DrawsAny (draw_one_of (length ps)) w a ds
      → Does (work_of r xs) ds o (forward_join_on ps n ttl (run (work_of w xs) ds out))
  join_on a r o q p k₂ k₁ = by _ (join_on_is q p) (then_tell_any _ k₂ (then_one_of _ k₁ (still v)))

  pub join_on_none : (r : Work) (o : List ℕ) → k ≡ 0 → TellsAny (emit (forward_join_to n u 0)) w r out o → Does (work_of r xs) ds o (forward_join_on ps n ttl (run (work_of w xs) ds out))
  join_on_none r o h d = join_on w r o 0 (none_picked ps (drop w.drawn ds) k c h) d (drew_none_of w w ds (length ps) v.ready.drawn (omega (arith, c, h)))

  pub join_on_one : (a r : Work) (o : List ℕ) (q i : ℕ) → i ≡ pick k (drop w.drawn ds) → q ≡ get_or ps i 0 → TellsAny (emit (forward_join_to n u q)) a r out o → DrawsAny (draw_one_of k) w a ds
      → Does (work_of r xs) ds o (forward_join_on ps n ttl (run (work_of w xs) ds out))
  join_on_one a r o q i p e k₂ k₁ = join_on a r o q (e ∙ rw (p, c)) k₂ (subst (λ (m : ℕ). DrawsAny (draw_one_of m) w a ds) c k₁)

module _ (w : Work) (xs ds out : List ℕ) (from : ℕ) (n : PeerInfo) (ttl : ℕ) (t : Bool) (e : t ≡ is_requested n.id (unpack xs)) where
  pub walk_stopped : Fine (work_of w xs) ds out → t ≡ true → Does (work_of w xs) ds out (walk_on from (node_in n) ttl (run (work_of w xs) ds out))
  unfolding walk_on node_in
  walk_stopped v h = taken _ _ (holds_at (work_of w xs) ds out (is_requested n.id) e h) (still v)

  module _ (v : List ℕ) (p : HoldsSet working_places v (without from (unpack xs).active)) where
    rest_are : without from (run (work_of w xs) ds out).station.active ≡ items_at working_places v
    unfolding run_of
    rest_are = sym p.items

    pub walked_on : (r : Held) (o : List ℕ) → t ≡ false → Does r ds o (forward_join_on (items_at working_places v) (node_in n) ttl (run (work_of w xs) ds out)) → Does r ds o (walk_on from (node_in n) ttl (run (work_of w xs) ds out))
    unfolding walk_on node_in
    walked_on r o h d =
        left _ _ (holds_at (work_of w xs) ds out (is_requested n.id) e h) (by _ (ap (λ (l : List ℕ). forward_join_on l (node_in n) ttl (run (work_of w xs) ds out)) rest_are) d)

pub end_known : (s : Station) (p ttl : ℕ) (a b c : Bool) → a ≡ in_active p s → b ≡ expired ttl → c ≡ is_last_hop s → (a || (b || c)) ≡ ends_here p ttl s
unfolding ends_here
end_known s p ttl a b c x y z = λ i. x i || (y i || z i)

module _ (w r : Held) (ds out o : List ℕ) (from : ℕ) (n : PeerInfo) (ttl : ℕ) (t : Bool) (e : t ≡ ends_here n.id ttl (unpack w.state)) where
  pub walk_ended : Fine w ds out → t ≡ true → Tells (ask_joiner (node_in n)) w r out o → Does r ds o (on_forward_join from (node_in n) ttl (run w ds out))
  unfolding on_forward_join node_in
  walk_ended v h k = taken _ _ (holds_at w ds out (ends_here n.id ttl) e h) (then_tell k (still v))

  pub walk_goes_on : (a : Held) (o₁ : List ℕ) → t ≡ false → Does r ds o (walk_on from (node_in n) ttl (run a ds o₁)) → Does a ds o₁ (learn_joiner (node_in n) ttl (run w ds out))
      → Does r ds o (on_forward_join from (node_in n) ttl (run w ds out))
  unfolding on_forward_join node_in
  walk_goes_on a o₁ h k₂ k₁ = left _ _ (holds_at w ds out (ends_here n.id ttl) e h) (seq (walk_on from (node_in n) ttl) k₂ k₁)

-- ---- joins and neighbors

pub walk_fits : (xs : List ℕ) → PackedState xs → active_random_walk_length xs < 65536
unfolding settings_at
walk_fits xs v = omega (arith, (ranges (settings_at xs) (of_settings xs v)).active_walk.most)

module _ (w r : Work) (xs ds out o : List ℕ) (p : ℕ) (d : prelude.Option PeerData) where
  pub joins_forwarded : (v : List ℕ) (k : ℕ) → HoldsSet working_places v (without p (unpack xs).active) → k ≡ length (items_at working_places v)
      → Does (work_of r xs) ds o (emit_all (forward_join_to (node_in (record { id = p; «data» = d })) (active_random_walk_length xs)) (take k v) (run (work_of w xs) ds out))
      → Does (work_of r xs) ds o (forward_joins p (data_in d) (run (work_of w xs) ds out))
  unfolding forward_joins node_in run_of unpack station_of settings_at
  joins_forwarded v k h e t =
      by _ (ap (λ (l : List ℕ). emit_all (forward_join_to (node p (data_in d)) (active_random_walk_length xs)) l (run (work_of w xs) ds out)) (sym (lent_items v k h.valid e ∙ h.items))) t

pub accept_known : (s : Station) (p : ℕ) (high a b c : Bool) → a ≡ is_me p s → b ≡ in_active p s → c ≡ active_is_full s → (not a && (b || (high || not c))) ≡ accepts p high s
unfolding accepts
accept_known s p high a b c x y z = λ i. not (x i) && (y i || (high || not (z i)))

pub neighbor_refused : (w a r : Held) (ds out o : List ℕ) (p : ℕ) → Changes (forget_peer p) a r → Does a ds o (send_disconnect p true (run w ds out)) → Does r ds o (refuse_neighbor p (run w ds out))
unfolding refuse_neighbor
neighbor_refused w a r ds out o p k₂ k₁ = then k₂ k₁

-- ---- disconnects

module _ (w : Held) (p : ℕ) (alive : Bool) where
  recent_dropped : (r : Held) → alive ≡ false → Changes (on (drop_recent p)) w r → Changes (forget_recent p alive) w r
  unfolding forget_recent
  recent_dropped r h k = change_by _ (λ ds out. choose_no _ _ _ h) k

  -- what the test said: p went away for good, and the run goes on
  pub recent_code : (not alive && eqb w.code 0) ≡ true → w.code ≡ 0
  recent_code h = eqb-true _ _ (and_right (not alive) _ h)

  pub recent_gone : (r : Held) → (not alive && eqb w.code 0) ≡ true → Changes (on (drop_recent p)) w r → Changes (forget_recent p alive) w r
  recent_gone r h k = recent_dropped r (split alive (λ t. clash (not alive) (and_left (not alive) _ h) (ap not t)) (λ t. t)) k

  pub recent_kept : PackedState w.state → (not alive && eqb w.code 0) ≡ false → Changes (forget_recent p alive) w w
  unfolding forget_recent
  recent_kept v h =
      split alive
      (λ t. unchanged (forget_recent p alive) v (λ ds out. choose_yes _ _ _ t))
      (λ t. recent_dropped w t (on_passed w v (drop_recent p) (eqb-false _ _ (sym (ap (λ (b : Bool). not b && eqb w.code 0) t) ∙ h))))

-- the same words
pub words_as : (f : Run → Run) (w : Held) (a : Work) (xs ys : List ℕ) → ys ≡ xs → Changes f w (work_of a xs) → Changes f w (work_of a ys)
words_as f w a xs ys e k = subst (λ (l : List ℕ). Changes f w (work_of a l)) (sym e) k

pub fits_known : (xs : List ℕ) (p n : ℕ) (a : Bool) → n ≡ length (items_at refused_places (refused_part xs)) → a ≡ mem p (items_at refused_places (refused_part xs)) → (a || ltb n refused_places) ≡ refused_fits p (unpack xs)
unfolding refused_fits unpack station_of
fits_known xs p n a x y = λ i. y i || ltb (x i) refused_places

pub refused_place : (w a : Work) (xs : List ℕ) (p : ℕ) (t : Bool) → PackedState xs → t ≡ refused_fits p (unpack xs) → ChangesAny (require 7 t) w a → a.code ≡ 0 → length (insert p (items_at refused_places (refused_part xs))) ≤ refused_places
unfolding unpack station_of refused_fits
refused_place w a xs p t v e k z =
    let f = of_refused xs v in
    let h = sym e ∙ (require_said (work_of w xs) (work_of a xs) 7 t (omega arith) (required_at xs v _ _ k) z).1 in
    length_insert p refused_places (items_at refused_places (refused_part xs)) h (omega (arith, f.fits, f.counted))

pub refusal_noted : (w a r : Work) (xs ys : List ℕ) (p : ℕ) (t : Bool) → PackedState xs → t ≡ refused_fits p (unpack xs) → Changes (on (add_refused p)) (work_of a xs) (work_of r ys) → ChangesAny (require 7 t) w a
    → Changes (note_refused p) (work_of w xs) (work_of r ys)
unfolding note_refused run_of
refusal_noted w a r xs ys p t v e k₂ k₁ = change_then _ (λ ds out. rw e) k₂ (required_at xs v _ _ k₁)

module _ (w : Held) (p : ℕ) (requested : Bool) where
  pub refusal_there : (r : Held) → requested ≡ true → Changes (note_refused p) w r → Changes (note_refusal p requested) w r
  unfolding note_refusal
  refusal_there r h k = change_by _ (λ ds out. choose_yes _ _ _ h) k

  pub refusal_none : PackedState w.state → requested ≡ false → Changes (note_refusal p requested) w w
  unfolding note_refusal
  refusal_none v h = unchanged (note_refusal p requested) v (λ ds out. choose_no _ _ _ h)

-- unless a code is set, there is a place for the mark of p where p is a passive peer
pub record FreePassiveMark (p code : ℕ) (s : Station) : Type 0 where
  pub free : code ≡ 0 → in_passive p s ≡ true → length (insert p s.alive) ≤ alive_places

pub mark_place : (xs : List ℕ) (p code : ℕ) (t : Bool) → t ≡ in_passive p (unpack xs) → t ≡ true → FreePassiveMark p code (unpack xs) → FreeMark p code (unpack xs)
mark_place xs p code t e h f = record { free = λ z. f.free z (sym e ∙ h) }

module _ (w : Held) (p : ℕ) (t : Bool) (e : t ≡ in_passive p (unpack w.state)) where
  pub passive_marked : (r : Held) → t ≡ true → Changes (on (mark_alive p)) w r → Changes (mark_passive p) w r
  unfolding mark_passive
  passive_marked r h k = change_yes (in_passive p) e _ h k

  pub passive_unmarked : PackedState w.state → t ≡ false → Changes (mark_passive p) w w
  unfolding mark_passive
  passive_unmarked v h = change_no (in_passive p) e _ h (unchanged (λ g. g) v (λ ds out. refl))

module _ (w a : Held) (ds out : List ℕ) (p : ℕ) (requested : Bool) (v : Fine w ds out) (k : Changes (drop_passive p) w a) where
  pub topic_refilled : (r : Held) (o : List ℕ) → requested ≡ true → Does r ds o (refill_active_from_passive (p ∷ []) (run a ds out)) → Does r ds o (left_topic p requested (run w ds out))
  unfolding left_topic
  topic_refilled r o h d = taken _ _ h (seq (refill_active_from_passive (p ∷ [])) d (then k (still v)))

  pub topic_left : requested ≡ false → Does a ds out (left_topic p requested (run w ds out))
  unfolding left_topic
  topic_left h = left _ _ h (then k (still v))

abbrev Markable : ℕ → Run → Type 0
Markable p g = FreePassiveMark p g.code g.station

noted_mark : (p : ℕ) (requested : Bool) (g : Run) → Markable p g → Markable p (note_refusal p requested g)
unfolding note_refusal note_refused on require guard add_refused in_passive
noted_mark p requested g h =
    by_choice (Markable p) requested
    (λ e. by_choice (Markable p) _ (λ f. on_marked (require 7 (refused_fits p g.station) g) (checked h)) (λ f. checked h))
    (λ e. h)
  where
    on_marked : (x : Run) → Markable p x → FreePassiveMark p x.code (add_refused p x.station)
    on_marked x m = record { free = m.free }

    checked : Markable p g → Markable p (require 7 (refused_fits p g.station) g)
    checked m =
        by_choice (Markable p) (eqb g.code 0)
        (λ e. by_choice (Markable p) (refused_fits p g.station) (λ f. m) (λ f. record { free = λ z. absurd (omega (arith, z)) }))
        (λ e. m)

pub still_markable : (w a : Work) (xs ys : List ℕ) (p : ℕ) (requested : Bool) → FreePassiveMark p w.code (unpack xs) → Changes (note_refusal p requested) (work_of w xs) (work_of a ys) → FreePassiveMark p a.code (unpack ys)
unfolding run_of
still_markable w a xs ys p requested h k = subst (Markable p) (sym (k.same [] [])) (noted_mark p requested (run (work_of w xs) [] []) h)

pub other_alive : (w a r : Held) (ds out : List ℕ) (p : ℕ) (alive requested : Bool) → Fine w ds out → alive ≡ true → Changes (mark_passive p) a r → Changes (note_refusal p requested) w a → Does r ds out (disconnect_other p alive requested (run w ds out))
unfolding disconnect_other
other_alive w a r ds out p alive requested v h k₂ k₁ = taken _ _ h (then k₂ (then k₁ (still v)))

pub other_left : (w r : Held) (ds out o : List ℕ) (p : ℕ) (alive requested : Bool) → alive ≡ false → Does r ds o (left_topic p requested (run w ds out)) → Does r ds o (disconnect_other p alive requested (run w ds out))
unfolding disconnect_other
other_left w r ds out o p alive requested h d = left _ _ h d
