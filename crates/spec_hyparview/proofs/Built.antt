-- Every step of the definition is made in a few ways: what each of these keeps holds of all steps.
-- Assumes nothing.
use mathlib.Core.Path.{◌≡◌, refl, sym, ap}
use mathlib.Core.Bool.{Bool, true, false, not, ◌&&◌, ◌||◌}
use mathlib.Core.List.{List, [], ◌∷◌, ◌++◌}
use mathlib.Core.Option.{Option, none, some}
use Prim.Native.Nat.{ℕ, ◌-◌, ◌≤◌}
use native.Mathlib.Omega.{arith}
use lib.ListN.{length, take, drop, get_or}
use lib.Dec.{ltb, eqb}
use borrow.Author.Tests.{ne_eqb}
use Rattle.base_lists.specs.Lists.{choose, null, index_of, without, without_all}
use Rattle.base_lists.specs.Maps.{lookup}
use Rattle.base_lists.proofs.Choice.{choose_yes, choose_no, split}
use Rattle.base_lists.proofs.Count.{length_without, length_without_all}
use Rattle.base_timing.specs.Timing.{join_retry_delay, maintenance_interval, next, backoff_due, delay}
use Rattle.base_peer.specs.Data.{Data, Node}
use Rattle.record.specs.Kinds.{EventKind, Message, DoShuffle, DoMaintenance, PendingNeighborRequest, RetryJoin, PeerDisconnected, RequestJoin, UpdatePeerData, Quit, Pin, NeighborUp, NeighborDown, Evicted, output_byte, kind_byte}
use Rattle.record.proofs.ByKind.{by_kind}
use Rattle.record.specs.Format.{Rec, size, size_by}
use Rattle.base_util.specs.Chances.{pick}
use Rattle.spec_hyparview.specs.Station.{Station, Refill, recovery, is_me, in_active, in_passive, in_view, is_requested, is_alone, active_is_full, passive_is_full, is_short, without_pin, is_pinned}
use Rattle.spec_hyparview.specs.Invariant.{Roomy}
use Rattle.spec_hyparview.specs.Run.{Run, on, emit, draw, require, drawn, to_draw, one_of, draw_one_of, picked, shuffled, draw_shuffle, emit_all, node, message, timer, notice, data_notice, flag, peer_infos}
use Rattle.spec_hyparview.specs.Peers as P
use Rattle.spec_hyparview.specs.Sending as S
use Rattle.spec_hyparview.specs.Refill as F
use Rattle.spec_hyparview.specs.Active as A
use Rattle.spec_hyparview.specs.Active.{Reason, connection_closed, disconnect_received, random}
use Rattle.spec_hyparview.specs.Messages as M
use Rattle.spec_hyparview.specs.Events as E
use Rattle.spec_hyparview.specs.Timers as T
use Rattle.spec_hyparview.specs.Handle as H
use Rattle.spec_hyparview.proofs.Timed.{told_station}

-- the place that a choice of one of n decides, and 0 where n is 0
abbrev pub place : ℕ → Run → ℕ
place n r = choose (eqb n 0) 0 (pick n (drop r.used r.draws))

-- Q is kept by every way in which the definition makes a step: so it holds of all of them
pub record Built (Q : (Run → Run) → Type 0) : Type 0 where
  pub same_step : {f g : Run → Run} → ((w : Run) → g w ≡ f w) → Q f → Q g
  pub by_station : (f : Station → Run → Run) → ((s : Station) → Q (f s)) → Q (λ r. f r.station r)
  pub idle : Q (λ r. r)
  pub either : {f g : Run → Run} (b : Bool) → Q f → Q g → Q (λ r. choose b (f r) (g r))
  pub thens : {f g : Run → Run} → Q f → Q g → Q (λ r. g (f r))
  pub changes : (f : Station → Station) → Q (on f)
  -- a test that refuses with another code than 5
  pub tests : (c : ℕ) (b : Bool) → (c ≡ 5 → ⊥) → Q (require c b)
  pub told : {f : Run → Run} → Q f → (e : Rec) → Q (λ r. emit e (f r))
  -- a choice of an item, and of a place, from a list that is short where views are
  pub picks_item : (xs : Station → List ℕ) → ((s : Station) → Roomy s → length (xs s) ≤ 32) → (g : Station → ℕ → Run → Run) → ((s : Station) (i : ℕ) → Q (g s i))
      → Q (λ r. g r.station (picked (xs r.station) r) (draw_one_of (length (xs r.station)) r))
  pub picks_place : (xs : Station → List ℕ) → ((s : Station) → Roomy s → length (xs s) ≤ 32) → (g : Station → ℕ → Run → Run) → ((s : Station) (i : ℕ) → Q (g s i))
      → Q (λ r. g r.station (place (length (xs r.station)) r) (draw_one_of (length (xs r.station)) r))
  pub shuffles : (xs : Station → List ℕ) → ((s : Station) → Roomy s → length (xs s) ≤ 32) → (g : Station → List ℕ → Run → Run) → ((s : Station) (ys : List ℕ) → Q (g s ys))
      → Q (λ r. g r.station (shuffled (xs r.station) r) (draw_shuffle (xs r.station) r))
  -- a delay, which the record written tells and no step goes by
  pub delayed : (e : Station → ℕ → Rec) → ((s : Station) (c d : ℕ) → size (e s d) ≡ size (e s c)) → (f : Station → Station)
      → Q (λ r. emit (e r.station (drawn r)) (draw 1 (on f r)))

place_is : (n : ℕ) (r : Run) → (n ≡ 0 → ⊥) → one_of n r ≡ place n r
unfolding one_of to_draw
place_is n r h = sym (choose_no (eqb n 0) 0 _ (ne_eqb n 0 h))

-- the place is that of a peer, since the view is full and not empty
evicts : Run → Run
evicts r = emit (notice (output_byte Evicted) (get_or r.station.passive (place (length r.station.passive) r) 0)) (P.evict_at (place (length r.station.passive) r) (draw_one_of (length r.station.passive) r))

not_empty : (xs : List ℕ) (b : Bool) → (b && not (null xs)) ≡ true → length xs ≡ 0 → ⊥
unfolding null
not_empty [] true e z = let y : ◌≡◌ {A = ℕ} 0 1 = cc in omega arith
not_empty [] false e z = let y : ◌≡◌ {A = ℕ} 0 1 = cc in omega arith
not_empty (x ∷ xs) b e z = omega (arith, z)

makes_room : (r : Run) → P.make_room r ≡ choose (P.must_evict r.station) (evicts r) r
unfolding P.make_room P.evicted P.evict P.tell_evicted evicts picked P.must_evict
makes_room r =
    let n = length r.station.passive in
    let t = passive_is_full r.station && not (null r.station.passive) in
    split t
    (λ e. let q = place_is n r (not_empty r.station.passive (passive_is_full r.station) e) in
    rw (choose_yes t (some (get_or r.station.passive (one_of n r) 0)) none e, choose_yes t (P.evict_at (one_of n r) (draw_one_of n r)) r e, choose_yes t (evicts r) r e, q) refl)
    (λ e. rw (choose_no t (some (get_or r.station.passive (one_of n r) 0)) none e, choose_no t (P.evict_at (one_of n r) (draw_one_of n r)) r e, choose_no t (evicts r) r e) refl)

few_candidates : (skip : List ℕ) (s : Station) → Roomy s → length (F.candidates skip s) ≤ 32
unfolding F.candidates
few_candidates skip s o = omega (arith, length_without_all (F.skipped skip s) s.passive, o.passive_few)

few_free : (s : Station) → Roomy s → length (without_pin s) ≤ 32
unfolding without_pin
few_free s o = omega (arith, length_without_all s.pins s.active, o.active_few)

few_others : (p : ℕ) (s : Station) → Roomy s → length (without p s.active) ≤ 32
few_others p s o = omega (arith, length_without p s.active, o.active_few)

-- whether a peer was new is known as the nodes are gone through
replied : ℕ → Bool → List Node → Run → Run
replied from new ns r = M.after_reply from (new || P.any_new ns r) (P.add_nodes ns r)

or_assoc : (a b c : Bool) → ((a || b) || c) ≡ (a || (b || c))
or_assoc true b c = refl
or_assoc false b c = refl

or_false : (a : Bool) → (a || false) ≡ a
or_false true = refl
or_false false = refl

module _ (Q : (Run → Run) → Type 0) (built : Built Q) where
  open built use {same_step, by_station, idle, either, thens, changes, tests, told, picks_item, picks_place, shuffles, delayed}

  -- what several steps share
  of_emit_all : (f : ℕ → Rec) (ps : List ℕ) → Q (emit_all f ps)
  unfolding emit_all
  of_emit_all f [] = idle
  of_emit_all f (p ∷ ps) = thens (told idle (f p)) (of_emit_all f ps)

  -- Peers
  of_insert : (p : ℕ) (d : Data) → Q (P.insert_peer_info p d)
  unfolding P.insert_peer_info P.insert_data P.announce_data P.keep_data
  of_insert p none = idle
  of_insert p (some b) =
      by_station (λ s r. choose (P.is_known p b s) r (on (P.store_data p b) (require 8 (P.data_fits p (choose (null b) r (emit (data_notice p b) r)).station) (choose (null b) r (emit (data_notice p b) r)))))
      (λ s. either (P.is_known p b s) idle
      (thens (either (null b) idle (told idle (data_notice p b))) (thens (by_station (λ s r. require 8 (P.data_fits p s) r) (λ s. tests 8 (P.data_fits p s) (λ e. omega (arith, e)))) (changes (P.store_data p b)))))

  of_forget : (p : ℕ) → Q (P.forget_peer p)
  unfolding P.forget_peer
  of_forget p = by_station (λ s r. choose (in_view p s) r (on (P.drop_traces p) r)) (λ s. either (in_view p s) idle (changes (P.drop_traces p)))

  of_evict_at : (i : ℕ) → Q (P.evict_at i)
  unfolding P.evict_at
  of_evict_at i = by_station (λ s r. P.forget_peer (get_or s.passive i 0) (on (P.shift_passive i) r)) (λ s. thens (changes (P.shift_passive i)) (of_forget (get_or s.passive i 0)))

  of_evicts : Q evicts
  unfolding evicts
  of_evicts = picks_place (λ s. s.passive) (λ s o. o.passive_few) (λ s i r. emit (notice (output_byte Evicted) (get_or s.passive i 0)) (P.evict_at i r)) (λ s i. told (of_evict_at i) (notice (output_byte Evicted) (get_or s.passive i 0)))

  of_make_room : Q P.make_room
  of_make_room = same_step makes_room (by_station (λ s r. choose (P.must_evict s) (evicts r) r) (λ s. either (P.must_evict s) of_evicts idle))

  of_enter_passive : (p : ℕ) → Q (P.enter_passive p)
  unfolding P.enter_passive
  of_enter_passive p = by_station (λ s r. choose (P.is_newcomer p s) (on (P.push_passive p) (P.make_room r)) r) (λ s. either (P.is_newcomer p s) (thens of_make_room (changes (P.push_passive p))) idle)

  of_add_passive : (p : ℕ) (d : Data) → Q (P.add_passive p d)
  unfolding P.add_passive
  of_add_passive p d = thens (of_insert p d) (of_enter_passive p)

  of_add_nodes : (ns : List Node) → Q (P.add_nodes ns)
  unfolding P.add_nodes
  of_add_nodes [] = idle
  of_add_nodes (n ∷ ns) = thens (of_add_passive n.id n.data_of) (of_add_nodes ns)

  of_drop_passive : (p : ℕ) → Q (P.drop_passive p)
  unfolding P.drop_passive
  of_drop_passive p = thens (changes (P.remove_passive p)) (of_forget p)

  -- Sending
  of_join : (p : ℕ) → Q (S.join p)
  unfolding S.join
  of_join p = by_station (λ s r. emit (S.join_to s.own_data p) r) (λ s. told idle (S.join_to s.own_data p))

  of_send_nodes : (to : ℕ) (ps : List ℕ) → Q (S.send_nodes to ps)
  unfolding S.send_nodes
  of_send_nodes to ps = by_station (λ s r. emit (message 3 to 0 0 0 (peer_infos s ps)) r) (λ s. told idle (message 3 to 0 0 0 (peer_infos s ps)))

  of_send_filled : (to len : ℕ) (ps : List ℕ) → Q (S.send_filled to len ps)
  unfolding S.send_filled S.fill_active
  of_send_filled to len ps =
      shuffles (λ s. s.active) (λ s o. o.active_few) (λ s ys r. S.send_nodes to (ps ++ take (len - length ps) ys) r) (λ s ys. of_send_nodes to (ps ++ take (len - length ps) ys))

  of_send_shuffle_reply : (to len : ℕ) → Q (S.send_shuffle_reply to len)
  unfolding S.send_shuffle_reply S.reply_with
  of_send_shuffle_reply to len =
      shuffles (λ s. s.passive) (λ s o. o.passive_few) (λ s ys r. choose (ltb (length (take len ys)) len) (S.send_filled to len (take len ys) r) (S.send_nodes to (take len ys) r))
      (λ s ys. either (ltb (length (take len ys)) len) (of_send_filled to len (take len ys)) (of_send_nodes to (take len ys)))

  of_send_disconnect : (p : ℕ) (alive : Bool) → Q (S.send_disconnect p alive)
  unfolding S.send_disconnect
  of_send_disconnect p alive =
      by_station (λ s r. emit (message 5 p (flag alive) 0 0 []) (S.send_shuffle_reply p (S.reply_length s) r)) (λ s. told (of_send_shuffle_reply p (S.reply_length s)) (message 5 p (flag alive) 0 0 []))

  of_tell_request : (p : ℕ) (high : Bool) (id : ℕ) → Q (S.tell_request p high id)
  unfolding S.tell_request
  of_tell_request p high id =
      by_station (λ s r. emit (timer (kind_byte PendingNeighborRequest) p s.config.neighbor_request_timeout id) (emit (S.neighbor_to s.own_data high p) r))
      (λ s. told (told idle (S.neighbor_to s.own_data high p)) (timer (kind_byte PendingNeighborRequest) p s.config.neighbor_request_timeout id))

  of_open_request : (p : ℕ) → Q (λ r. S.open_request p (S.count_request r))
  unfolding S.open_request S.count_request
  of_open_request p =
      thens (by_station (λ s r. require 10 (S.request_counts s) r) (λ s. tests 10 (S.request_counts s) (λ e. omega (arith, e))))
      (thens (by_station (λ s r. require 6 (S.request_fits s) r) (λ s. tests 6 (S.request_fits s) (λ e. omega (arith, e)))) (changes (S.note_request p)))

  of_send_neighbor : (p : ℕ) (high : Bool) → Q (S.send_neighbor p high)
  unfolding S.send_neighbor
  of_send_neighbor p high =
      by_station (λ s r. choose (is_requested p s) r (S.tell_request p high s.next_request (S.open_request p (S.count_request r))))
      (λ s. either (is_requested p s) idle (thens (of_open_request p) (of_tell_request p high s.next_request)))

  of_reply_neighbor : (reply : Bool) (p : ℕ) (high : Bool) → Q (S.reply_neighbor reply p high)
  unfolding S.reply_neighbor
  of_reply_neighbor reply p high = either reply (of_send_neighbor p high) idle

  -- Refill
  of_refill_limited : (skip : List ℕ) → Q (F.refill_limited skip)
  unfolding F.refill_limited F.ask_one F.ask_picked
  of_refill_limited skip =
      by_station (λ s r. choose (null (F.candidates skip s)) (on F.end_recovery r) (on F.use_request (S.send_neighbor (picked (F.candidates skip r.station) r) (is_alone r.station) (draw_one_of (length (F.candidates skip r.station)) r))))
      (λ s. either (null (F.candidates skip s)) (changes F.end_recovery)
      (picks_item (F.candidates skip) (few_candidates skip) (λ s i r. on F.use_request (S.send_neighbor i (is_alone s) r)) (λ s i. thens (of_send_neighbor i (is_alone s)) (changes F.use_request))))

  of_refill : (skip : List ℕ) → Q (F.refill_active_from_passive skip)
  unfolding F.refill_active_from_passive
  of_refill skip = by_station (λ s r. choose (F.needs_none s) r (F.refill_limited skip (on F.limit_short r))) (λ s. either (F.needs_none s) idle (thens (changes F.limit_short) (of_refill_limited skip)))

  of_start_refill : (limit : Refill) (skip : List ℕ) → Q (F.start_refill limit skip)
  unfolding F.start_refill
  of_start_refill limit skip = thens (changes (F.begin_refill limit)) (of_refill skip)

  -- Active
  of_drop_active : (i : ℕ) → Q (A.drop_active i)
  unfolding A.drop_active
  of_drop_active i = by_station (λ s r. emit (notice (output_byte NeighborDown) (get_or s.active i 0)) (on (A.swap_active i) r)) (λ s. told (changes (A.swap_active i)) (notice (output_byte NeighborDown) (get_or s.active i 0)))

  of_demote : (p : ℕ) → Q (A.demote p)
  unfolding A.demote
  of_demote p = by_station (λ s r. P.add_passive p (lookup p s.peer_data) (on (P.drop_data p) r)) (λ s. thens (changes (P.drop_data p)) (of_add_passive p (lookup p s.peer_data)))

  of_demote_alive : (p : ℕ) → Q (A.demote_alive p)
  unfolding A.demote_alive
  of_demote_alive p = thens (of_demote p) (changes (A.mark_alive p))

  of_settle : (why : Reason) (p : ℕ) → Q (A.settle why p)
  unfolding A.settle A.settle_closed
  of_settle connection_closed p =
      by_station (λ s r. choose (P.is_marked p s) (A.demote p (on (P.drop_mark p) r)) (P.forget_peer p r)) (λ s. either (P.is_marked p s) (thens (changes (P.drop_mark p)) (of_demote p)) (of_forget p))
  of_settle (disconnect_received true) p = of_demote_alive p
  of_settle (disconnect_received false) p = of_forget p
  of_settle random p = thens (of_send_disconnect p true) (of_demote_alive p)

  of_remove_at : (i : ℕ) (why : Reason) → Q (A.remove_active_by_index i why)
  unfolding A.remove_active_by_index
  of_remove_at i why = by_station (λ s r. A.settle why (get_or s.active i 0) (A.drop_active i r)) (λ s. thens (of_drop_active i) (of_settle why (get_or s.active i 0)))

  of_remove_active : (p : ℕ) (why : Reason) → Q (A.remove_active p why)
  unfolding A.remove_active A.refill_after
  of_remove_active p why =
      by_station (λ s r. choose (in_active p s) (F.start_refill recovery (p ∷ []) (on A.clear_refused (A.remove_active_by_index (index_of p s.active) why r))) r)
      (λ s. either (in_active p s) (thens (of_remove_at (index_of p s.active) why) (thens (changes A.clear_refused) (of_start_refill recovery (p ∷ [])))) idle)

  of_free : Q A.free_random_slot_in_active_view
  unfolding A.free_random_slot_in_active_view A.remove_picked
  of_free =
      by_station
      (λ s r. choose (null (without_pin s)) r (A.remove_active_by_index (index_of (picked (without_pin r.station) r) r.station.active) random (draw_one_of (length (without_pin r.station)) r)))
      (λ s. either (null (without_pin s)) idle
      (picks_item without_pin few_free (λ s i r. A.remove_active_by_index (index_of i s.active) random r) (λ s i. of_remove_at (index_of i s.active) random)))

  of_enter_active : (p : ℕ) → Q (A.enter_active p)
  unfolding A.enter_active
  of_enter_active p = thens (told (changes (A.move_in p)) (notice (output_byte NeighborUp) p)) (changes A.gain_neighbor)

  of_unchecked : (p : ℕ) (high reply : Bool) → Q (A.add_active_unchecked p high reply)
  unfolding A.add_active_unchecked
  of_unchecked p high reply = thens (of_enter_active p) (of_reply_neighbor reply p high)

  of_add_active : (p : ℕ) (d : Data) (high reply : Bool) → Q (A.add_active p d high reply)
  unfolding A.add_active A.admit A.admit_new A.admit_full
  of_add_active p d high reply =
      by_station (λ s r. choose (is_me p s) r (A.admit p high reply (P.insert_peer_info p d r)))
      (λ s. either (is_me p s) idle (thens (of_insert p d)
      (by_station (λ s r. choose (in_active p s) (S.reply_neighbor reply p high r) (choose (active_is_full s) (choose high (A.add_active_unchecked p high reply (A.free_random_slot_in_active_view r)) r) (A.add_active_unchecked p high reply r)))
      (λ s. either (in_active p s) (of_reply_neighbor reply p high) (either (active_is_full s) (either high (thens of_free (of_unchecked p high reply)) idle) (of_unchecked p high reply))))))

  -- Messages
  of_drop_pending : (p : ℕ) → Q (M.drop_pending p)
  unfolding M.drop_pending
  of_drop_pending p = thens (changes (M.drop_join p)) (changes (M.drop_request p))

  of_on_join : (p : ℕ) (d : Data) → Q (M.on_join p d)
  unfolding M.on_join M.forward_joins
  of_on_join p d =
      thens (thens (of_drop_pending p) (of_add_active p d true true))
      (by_station (λ s r. emit_all (M.forward_join_to (node p d) s.config.active_random_walk_length) (without p s.active) r)
      (λ s. of_emit_all (M.forward_join_to (node p d) s.config.active_random_walk_length) (without p s.active)))

  of_walk_on : (from : ℕ) (n : Node) (ttl : ℕ) → Q (M.walk_on from n ttl)
  unfolding M.walk_on M.forward_join_on
  of_walk_on from n ttl =
      by_station (λ s r. choose (is_requested n.id s) r (emit (M.forward_join_to n (next ttl) (picked (without from r.station.active) r)) (draw_one_of (length (without from r.station.active)) r)))
      (λ s. either (is_requested n.id s) idle
      (picks_item (λ s. without from s.active) (few_others from) (λ s i r. emit (M.forward_join_to n (next ttl) i) r) (λ s i. told idle (M.forward_join_to n (next ttl) i))))

  of_on_forward_join : (from : ℕ) (n : Node) (ttl : ℕ) → Q (M.on_forward_join from n ttl)
  unfolding M.on_forward_join M.ask_joiner M.learn_joiner
  of_on_forward_join from n ttl =
      by_station (λ s r. choose (M.ends_here n.id ttl s) (S.send_neighbor n.id true (P.insert_peer_info n.id n.data_of r)) (M.walk_on from n ttl (choose (eqb ttl s.config.passive_random_walk_length) (P.add_passive n.id n.data_of r) r)))
      (λ s. either (M.ends_here n.id ttl s) (thens (of_insert n.id n.data_of) (of_send_neighbor n.id true))
      (thens (either (eqb ttl s.config.passive_random_walk_length) (of_add_passive n.id n.data_of) idle) (of_walk_on from n ttl)))

  of_on_shuffle : (from origin : ℕ) (ns : List Node) (ttl : ℕ) → Q (M.on_shuffle from origin ns ttl)
  unfolding M.on_shuffle M.answer_shuffle M.forward_shuffle
  of_on_shuffle from origin ns ttl =
      let others : Station → List ℕ = (λ s. without_all (origin ∷ from ∷ []) s.active) in
      by_station (λ s r. choose (M.answers_shuffle ttl s) (S.send_shuffle_reply origin (length ns) (P.add_nodes ns r))
      (choose (null (others s)) r (emit (message 2 (picked (others r.station) r) 0 origin (next ttl) ns) (draw_one_of (length (others r.station)) r))))
      (λ s. either (M.answers_shuffle ttl s) (thens (of_add_nodes ns) (of_send_shuffle_reply origin (length ns)))
      (either (null (others s)) idle
      (picks_item others (λ s o. omega (arith, length_without_all (origin ∷ from ∷ []) s.active, o.active_few)) (λ s i r. emit (message 2 i 0 origin (next ttl) ns) r) (λ s i. told idle (message 2 i 0 origin (next ttl) ns)))))

  of_after_reply : (from : ℕ) (new : Bool) → Q (M.after_reply from new)
  unfolding M.after_reply M.refill_with
  of_after_reply from new =
      by_station (λ s r. choose (M.stops_at_refusal from s) r (choose (M.renews_limit from new s) (F.start_refill F.few_requests [] r) (F.refill_active_from_passive [] r)))
      (λ s. either (M.stops_at_refusal from s) idle (either (M.renews_limit from new s) (of_start_refill F.few_requests []) (of_refill [])))

  of_replied : (from : ℕ) (new : Bool) (ns : List Node) → Q (replied from new ns)
  unfolding replied P.any_new P.add_nodes
  of_replied from new [] = same_step (λ r. ap (λ (b : Bool). M.after_reply from b r) (or_false new)) (of_after_reply from new)
  of_replied from new (n ∷ ns) =
      by_station (λ s r. M.after_reply from (new || (P.is_newcomer n.id s || P.any_new ns (P.add_passive n.id n.data_of r))) (P.add_nodes ns (P.add_passive n.id n.data_of r)))
      (λ s. same_step (λ r. ap (λ (b : Bool). M.after_reply from b (P.add_nodes ns (P.add_passive n.id n.data_of r))) (sym (or_assoc new (P.is_newcomer n.id s) (P.any_new ns (P.add_passive n.id n.data_of r)))))
      (thens (of_add_passive n.id n.data_of) (of_replied from (new || P.is_newcomer n.id s) ns)))

  of_on_shuffle_reply : (from : ℕ) (ns : List Node) → Q (M.on_shuffle_reply from ns)
  unfolding M.on_shuffle_reply replied
  of_on_shuffle_reply from ns = of_replied from false ns

  of_on_neighbor : (p : ℕ) (d : Data) (high : Bool) → Q (M.on_neighbor p d high)
  unfolding M.on_neighbor M.answer_neighbor M.refuse_neighbor
  of_on_neighbor p d high =
      by_station (λ s r. M.answer_neighbor p d high (not (is_requested p s)) (M.drop_pending p r))
      (λ s. let reply = not (is_requested p s) in thens (of_drop_pending p)
      (by_station (λ s r. choose (A.accepts p high s) (A.add_active p d high reply r) (P.forget_peer p (S.send_disconnect p true (A.add_active p d high reply r))))
      (λ s. either (A.accepts p high s) (of_add_active p d high reply) (thens (of_add_active p d high reply) (thens (of_send_disconnect p true) (of_forget p))))))

  of_left_topic : (p : ℕ) (requested : Bool) → Q (M.left_topic p requested)
  unfolding M.left_topic
  of_left_topic p requested = either requested (thens (of_drop_passive p) (of_refill (p ∷ []))) (of_drop_passive p)

  of_note_refusal : (p : ℕ) (requested : Bool) → Q (M.note_refusal p requested)
  unfolding M.note_refusal M.note_refused
  of_note_refusal p requested =
      either requested (thens (by_station (λ s r. require 7 (M.refused_fits p s) r) (λ s. tests 7 (M.refused_fits p s) (λ e. omega (arith, e)))) (changes (M.add_refused p))) idle

  of_disconnected : (p : ℕ) (alive requested : Bool) → Q (M.disconnected p alive requested)
  unfolding M.disconnected M.disconnect_other M.mark_passive
  of_disconnected p alive requested =
      by_station (λ s r. choose (in_active p s) (A.remove_active p (disconnect_received alive) r) (choose alive (M.mark_passive p (M.note_refusal p requested r)) (M.left_topic p requested r)))
      (λ s. either (in_active p s) (of_remove_active p (disconnect_received alive))
      (either alive (thens (of_note_refusal p requested) (by_station (λ s r. choose (in_passive p s) (on (A.mark_alive p) r) r) (λ s. either (in_passive p s) (changes (A.mark_alive p)) idle))) (of_left_topic p requested)))

  of_on_disconnect : (p : ℕ) (alive : Bool) → Q (M.on_disconnect p alive)
  unfolding M.on_disconnect M.forget_recent
  of_on_disconnect p alive =
      by_station (λ s r. M.disconnected p alive (is_requested p s) (on (M.drop_request p) (choose alive (on (M.drop_join p) r) (on (M.drop_recent p) (on (M.drop_join p) r)))))
      (λ s. thens (thens (thens (changes (M.drop_join p)) (either alive idle (changes (M.drop_recent p)))) (changes (M.drop_request p))) (of_disconnected p alive (is_requested p s)))

  -- Events
  of_handle_join : (p : ℕ) → Q (E.handle_join p)
  unfolding E.handle_join E.join_new E.join_other E.await_join E.open_join
  of_handle_join p =
      thens (changes (E.push_bootstrap p))
      (by_station (λ s r. choose (in_active p s) r (choose (is_me p s) (S.join p r) (E.await_join p (S.join p r))))
      (λ s. either (in_active p s) idle (either (is_me p s) (of_join p) (thens (of_join p)
      (by_station (λ s r. emit (timer (kind_byte RetryJoin) p join_retry_delay s.next_join) (on (E.note_join p) (require 10 (E.join_counts s) r)))
      (λ s. told (thens (tests 10 (E.join_counts s) (λ e. omega (arith, e))) (changes (E.note_join p))) (timer (kind_byte RetryJoin) p join_retry_delay s.next_join)))))))

  of_lose_passive : (p : ℕ) → Q (E.lose_passive p)
  unfolding E.lose_passive
  of_lose_passive p = by_station (λ s r. choose (P.is_marked p s) (on (P.drop_mark p) r) (on (E.drop_dead p) r)) (λ s. either (P.is_marked p s) (changes (P.drop_mark p)) (changes (E.drop_dead p)))

  of_closed : (p : ℕ) → Q (E.handle_connection_closed p)
  unfolding E.handle_connection_closed E.lose E.lose_other
  of_closed p =
      by_station (λ s r. E.lose p (is_requested p s) (on (M.drop_request p) r))
      (λ s. let asked = is_requested p s in thens (changes (M.drop_request p))
      (by_station (λ s r. choose (in_active p s) (A.remove_active p connection_closed r) (choose asked (F.refill_active_from_passive (p ∷ []) (E.lose_passive p r)) (E.lose_passive p r)))
      (λ s. either (in_active p s) (of_remove_active p connection_closed) (either asked (thens (of_lose_passive p) (of_refill (p ∷ []))) (of_lose_passive p)))))

  of_pin : (p : ℕ) → Q (E.handle_pin p)
  unfolding E.handle_pin E.require_neighbor E.pin_neighbor
  of_pin p =
      thens (by_station (λ s r. require 17 (in_active p s) r) (λ s. tests 17 (in_active p s) (λ e. omega (arith, e))))
      (thens (by_station (λ s r. require 18 (is_pinned p s || E.pins_left s) r) (λ s. tests 18 (is_pinned p s || E.pins_left s) (λ e. omega (arith, e)))) (changes (E.note_pin p)))

  of_quit_all : (ps : List ℕ) → Q (E.quit_all ps)
  unfolding E.quit_all E.quit_one
  of_quit_all [] = idle
  of_quit_all (p ∷ ps) = thens (thens (changes (E.remove_neighbor p)) (of_send_disconnect p false)) (of_quit_all ps)

  of_quit : Q E.handle_quit
  unfolding E.handle_quit
  of_quit = by_station (λ s r. on E.clear_all (E.quit_all s.active r)) (λ s. thens (of_quit_all s.active) (changes E.clear_all))

  -- Timers
  of_neighbor_timer : (p id : ℕ) → Q (T.handle_pending_neighbor_timer p id)
  unfolding T.handle_pending_neighbor_timer T.request_failed
  of_neighbor_timer p id =
      by_station (λ s r. choose (T.request_is p id s) (F.refill_active_from_passive [] (P.drop_passive p (on (M.drop_request p) r))) r)
      (λ s. either (T.request_is p id s) (thens (changes (M.drop_request p)) (thens (of_drop_passive p) (of_refill []))) idle)

  of_retry_join : (p id : ℕ) → Q (T.retry_join p id)
  unfolding T.retry_join
  of_retry_join p id = by_station (λ s r. choose (T.join_is p id s) (S.join p (on (M.drop_join p) r)) r) (λ s. either (T.join_is p id s) (thens (changes (M.drop_join p)) (of_join p)) idle)

  -- the delay drawn stands in the record, and does not change its length
  of_schedule_shuffle : Q T.schedule_shuffle
  unfolding T.schedule_shuffle size_by
  of_schedule_shuffle = delayed (λ s d. timer (kind_byte DoShuffle) 0 (delay s.next_interval d) 0) (λ s c d. refl) T.double_interval

  of_send_shuffle : (to : ℕ) (ps : List ℕ) → Q (T.send_shuffle to ps)
  unfolding T.send_shuffle
  of_send_shuffle to ps =
      by_station (λ s r. emit (message 2 to 0 s.me s.config.shuffle_random_walk_length (T.shuffle_nodes ps s)) r) (λ s. told idle (message 2 to 0 s.me s.config.shuffle_random_walk_length (T.shuffle_nodes ps s)))

  of_shuffle_passive : (to : ℕ) (acts : List ℕ) → Q (T.shuffle_passive to acts)
  unfolding T.shuffle_passive T.passive_sample
  of_shuffle_passive to acts =
      shuffles (λ s. without to s.passive) (λ s o. omega (arith, length_without to s.passive, o.passive_few)) (λ s ys r. T.send_shuffle to (acts ++ take s.config.shuffle_passive_view_count ys) r)
      (λ s ys. of_send_shuffle to (acts ++ take s.config.shuffle_passive_view_count ys))

  of_shuffle_with : (to : ℕ) → Q (T.shuffle_with to)
  unfolding T.shuffle_with T.active_sample
  of_shuffle_with to =
      shuffles (λ s. without to s.active) (few_others to) (λ s ys r. T.shuffle_passive to (take s.config.shuffle_active_view_count ys) r)
      (λ s ys. of_shuffle_passive to (take s.config.shuffle_active_view_count ys))

  of_shuffle_timer : Q T.handle_shuffle_timer
  unfolding T.handle_shuffle_timer T.shuffle_any
  of_shuffle_timer =
      thens (by_station (λ s r. choose (is_alone s) r (T.shuffle_with (picked r.station.active r) (draw_one_of (length r.station.active) r)))
      (λ s. either (is_alone s) idle (picks_item (λ s. s.active) (λ s o. o.active_few) (λ s i r. T.shuffle_with i r) (λ s i. of_shuffle_with i)))) of_schedule_shuffle

  of_rejoin : Q T.rejoin
  unfolding T.rejoin T.rejoin_recent T.rejoin_bootstrap T.other_recent
  of_rejoin =
      let after : Run → Run = (λ r. emit_all (S.join_to r.station.own_data) r.station.bootstrap r) in
      let others : Station → List ℕ = (λ s. without_all s.bootstrap s.recent) in
      let join_one : Run → Run = (λ r. choose (null (others r.station)) r (S.join (picked (others r.station) r) (draw_one_of (length (others r.station)) r))) in
      same_step (λ r. ap (λ (s : Station). choose (null (others s)) (after r) (S.join (picked (others s) (after r)) (draw_one_of (length (others s)) (after r)))) (sym (told_station (S.join_to r.station.own_data) r.station.bootstrap r)))
      (thens (by_station (λ s r. emit_all (S.join_to s.own_data) s.bootstrap r) (λ s. of_emit_all (S.join_to s.own_data) s.bootstrap))
      (by_station (λ s r. choose (null (others s)) r (S.join (picked (others r.station) r) (draw_one_of (length (others r.station)) r)))
      (λ s. either (null (others s)) idle (picks_item others (λ s o. omega (arith, length_without_all s.bootstrap s.recent, o.recent_few)) (λ s i r. S.join i r) (λ s i. of_join i)))))

  of_maintain : Q T.maintain
  unfolding T.maintain T.pass_alone T.rejoin_if_due T.count_alone T.pass_known T.pass_neighbors T.pass_short T.refill_if_due T.refill_anew T.count_short
  of_maintain =
      by_station (λ s r. choose (T.knows_none s) (T.pass_alone r) (T.pass_known (on T.not_alone r)))
      (λ s. either (T.knows_none s)
      (thens (thens (by_station (λ s r. require 10 (T.alone_counts s) r) (λ s. tests 10 (T.alone_counts s) (λ e. omega (arith, e)))) (changes T.add_alone))
      (by_station (λ s r. choose (backoff_due s.passes_alone) (T.rejoin r) r) (λ s. either (backoff_due s.passes_alone) of_rejoin idle)))
      (thens (changes T.not_alone)
      (by_station (λ s r. choose (is_alone s) (F.start_refill recovery [] r) (T.pass_neighbors r))
      (λ s. either (is_alone s) (of_start_refill recovery [])
      (by_station (λ s r. choose (is_short s) (T.pass_short r) (on A.clear_refused r))
      (λ s. either (is_short s)
      (by_station (λ s r. choose (T.in_recovery s) r (T.refill_if_due (T.count_short r)))
      (λ s. either (T.in_recovery s) idle
      (thens (thens (by_station (λ s r. require 10 (T.short_counts s) r) (λ s. tests 10 (T.short_counts s) (λ e. omega (arith, e)))) (changes T.add_short))
      (by_station (λ s r. choose (backoff_due s.passes_short) (F.start_refill F.few_requests [] (on A.clear_refused r)) r)
      (λ s. either (backoff_due s.passes_short) (thens (changes A.clear_refused) (of_start_refill F.few_requests [])) idle)))))
      (changes A.clear_refused)))))))

  of_schedule_maintenance : Q T.schedule_maintenance
  unfolding T.schedule_maintenance
  of_schedule_maintenance = told idle (timer (kind_byte DoMaintenance) 0 maintenance_interval 0)

  of_maintenance_timer : Q T.handle_maintenance_timer
  unfolding T.handle_maintenance_timer
  of_maintenance_timer = thens (thens (changes T.remember_all) of_maintain) of_schedule_maintenance

  -- Handle
  of_message : (e : Rec) → Q (H.handle_message e)
  unfolding H.handle_message
  of_message e =
      either (eqb e.message 0) (of_on_join e.peer (H.first_data e))
      (either (eqb e.message 1) (of_on_forward_join e.peer (H.first_node e.nodes) e.ttl)
      (either (eqb e.message 2) (of_on_shuffle e.peer e.second e.nodes e.ttl)
      (either (eqb e.message 3) (of_on_shuffle_reply e.peer e.nodes)
      (either (eqb e.message 4) (of_on_neighbor e.peer (H.first_data e) (H.is_high e))
      (of_on_disconnect e.peer (H.says_alive e))))))

  of_kind : (e : Rec) (k : EventKind) → Q (H.handle_kind (some k) e)
  unfolding H.handle_kind
  of_kind e Message = of_message e
  of_kind e DoShuffle = of_shuffle_timer
  of_kind e DoMaintenance = of_maintenance_timer
  of_kind e PendingNeighborRequest = of_neighbor_timer e.peer e.number
  of_kind e RetryJoin = of_retry_join e.peer e.number
  of_kind e PeerDisconnected = of_closed e.peer
  of_kind e RequestJoin = of_handle_join e.peer
  of_kind e UpdatePeerData = changes (E.update_own_data (H.first_data e))
  of_kind e Quit = of_quit
  of_kind e Pin = of_pin e.peer

  of_dispatch : (e : Rec) → Q (H.dispatch e)
  unfolding H.dispatch
  of_dispatch e = by_kind (λ (o : Option EventKind). Q (H.handle_kind o e)) e.kind (λ _. idle) (λ k _. of_kind e k)

  of_first_timers : Q H.first_timers
  unfolding H.first_timers
  of_first_timers =
      by_station (λ s r. choose s.scheduled r (T.schedule_maintenance (T.schedule_shuffle (on H.note_scheduled r))))
      (λ s. either s.scheduled idle (thens (thens (changes H.note_scheduled) of_schedule_shuffle) of_schedule_maintenance))

  pub of_steps : (e : Rec) → Q (H.steps e)
  unfolding H.steps
  of_steps e = thens (thens (of_dispatch e) of_first_timers) (changes H.forget_declined)
