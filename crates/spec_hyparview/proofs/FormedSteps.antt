-- The steps that handlers share keep `Formed`: data, the passive view, messages sent, refills, the active view.
-- Assumes nothing.
use mathlib.Core.Path.{◌≡◌, refl, sym, subst}
use mathlib.Core.Bool.{Bool, true, false}
use mathlib.Core.List.{List, [], ◌∷◌, ◌++◌, append_assoc, append-nil}
use mathlib.Core.Option.{Option, none, some}
use Prim.Native.Nat.{ℕ, ◌-◌, ◌≤◌}
use native.Mathlib.Omega.{arith}
use lib.ListN.{length, take, length-append}
use lib.Dec.{ltb}
use borrow.Author.Tests.{ltb-true}
use Rattle.base_lists.specs.Lists.{choose}
use Rattle.base_lists.specs.Tests.{All}
use Rattle.base_lists.proofs.Choice.{by_choice}
use Rattle.base_lists.proofs.Entries.{all_shift_remove}
use Rattle.base_peer.specs.Data.{Data, Node, bytes_of}
use Rattle.spec_hyparview.specs.Station.{Station, Refill, top_counter}
use Rattle.spec_hyparview.specs.Run as R
use Rattle.spec_hyparview.specs.Run.{Run, on, require}
use Rattle.spec_hyparview.specs.Peers as P
use Rattle.spec_hyparview.specs.Sending as S
use Rattle.spec_hyparview.specs.Refill as F
use Rattle.spec_hyparview.specs.Active as A
use Rattle.spec_hyparview.specs.Active.{Reason, connection_closed, disconnect_received, random}
use Rattle.spec_hyparview.specs.Evictions.{listed, by_adding, by_nodes, by_demoting, by_settling, by_removing_at, by_removing, by_freeing, by_admitting, by_entering}
use Rattle.base_lists.proofs.Members.{each_cut, each_put, length_cut_to}
use Rattle.spec_hyparview.proofs.Told.{length_infos}
use Rattle.spec_hyparview.proofs.Among.{all_append, all_take, all_get, all_without, all_without_all, all_insert, all_more, all_renew, all_keys_cut, all_keys_put, all_swap_remove, all_remove}
use Rattle.spec_hyparview.proofs.Narrow as N
use Rattle.spec_hyparview.proofs.Narrow.{Peer, Peers, no_peer, no_peers, HeldData, Named, Narrow, at, change, change_held, change_next_request, held_lookup, named_infos}
use Rattle.spec_hyparview.proofs.Forms.{form_join, form_reply, form_neighbor, form_disconnect, form_request_timer, form_up, form_down, form_evicted, form_data}
use Rattle.spec_hyparview.proofs.Keeping.{six, eight, ten, require_fine}
use Rattle.spec_hyparview.proofs.Formed.{Formed, either, either_way, alter, asked, claim, drew_one_of, drew_shuffle, wrote, wrote_evicted, picked_peer, shuffled_peers}

-- what is held of a peer, and its mark
pub drop_data_narrow : (p : ℕ) (s : Station) → Narrow s → Narrow (P.drop_data p s)
unfolding P.drop_data
drop_data_narrow p s w =
    change_held (change w N.peer_data _ (all_keys_cut Peer p s.peer_data (at w N.peer_data))) (each_cut HeldData p s.peer_data w.held)

pub drop_mark_narrow : (p : ℕ) (s : Station) → Narrow s → Narrow (P.drop_mark p s)
unfolding P.drop_mark
drop_mark_narrow p s w = change w N.alive _ (all_without Peer p s.alive (at w N.alive))

pub remove_passive_narrow : (p : ℕ) (s : Station) → Narrow s → Narrow (P.remove_passive p s)
unfolding P.remove_passive
remove_passive_narrow p s w = change w N.passive _ (all_remove Peer no_peer p s.passive (at w N.passive))

pub mark_alive_narrow : (p : ℕ) (s : Station) → Peer p → Narrow s → Narrow (A.mark_alive p s)
unfolding A.mark_alive
mark_alive_narrow p s l w = change w N.alive _ (all_insert Peer p s.alive l (at w N.alive))

move_in_narrow : (p : ℕ) (s : Station) → Peer p → Narrow s → Narrow (A.move_in p s)
unfolding A.move_in A.remember_neighbor A.push_active P.drop_mark P.remove_passive
move_in_narrow p s l w =
    change (change (change (change w N.passive _ (all_remove Peer no_peer p s.passive (at w N.passive))) N.alive _ (all_without Peer p s.alive (at w N.alive)))
    N.active _ (all_more Peer s.active p l (at w N.active))) N.recent _ (all_renew Peer 8 p s.recent l (at w N.recent))

-- nobody is evicted
nobody : {ds es : List ℕ} {r : Run} → Formed ds es r → Formed ds (es ++ []) r
nobody {ds} {es} {r} k = subst (λ (l : List ℕ). Formed ds l r) (sym (append-nil es)) k

-- one who is no newcomer evicts nobody
newcomer : {ds es : List ℕ} (test : Bool) (x : Option ℕ) {v w : Run} → Formed ds (es ++ listed x) v → Formed ds es w → Formed ds (es ++ listed (choose test x none)) (choose test v w)
unfolding choose listed
newcomer true x g j = g
newcomer false x g j = nobody j

module _ {ds es : List ℕ} where
  -- data of a peer
  pub formed_insert_peer_info : (p : ℕ) (d : Data) {r : Run} → Peer p → HeldData (bytes_of d) → Formed ds es r → Formed ds es (P.insert_peer_info p d r)
  unfolding P.insert_peer_info P.insert_data P.announce_data P.keep_data P.store_data bytes_of
  formed_insert_peer_info p none l h k = k
  formed_insert_peer_info p (some b) l h k =
      either _ k
      (claim eight _ (P.store_data p b) (λ z e w. change_held (change w N.peer_data _ (all_keys_put Peer p b _ l (at w N.peer_data))) (each_put HeldData p b _ h w.held))
      (either _ k (wrote _ refl (form_data b l h) k)))

  pub formed_forget : (p : ℕ) {r : Run} → Formed ds es r → Formed ds es (P.forget_peer p r)
  unfolding P.forget_peer P.drop_traces
  formed_forget p k = either _ k (alter (P.drop_traces p) (λ w. drop_mark_narrow p _ (drop_data_narrow p _ w)) k)

  -- the passive view
  formed_evict : {r : Run} → Formed ds es r → Formed ds es (P.evict r)
  unfolding P.evict P.evict_at P.shift_passive
  formed_evict k =
      either _ (formed_forget _ (alter (P.shift_passive _) (λ w. change w N.passive _ (all_shift_remove Peer _ _ (at w N.passive))) (drew_one_of _ k))) k

  formed_make_room : {r : Run} → Formed ds es r → Formed ds (es ++ listed (P.evicted r)) (P.make_room r)
  unfolding P.make_room P.evicted P.tell_evicted listed
  formed_make_room {r} k =
      by_choice (λ (x : Option ℕ). Formed ds (es ++ listed x) (P.tell_evicted x (P.evict r))) (P.must_evict r.station)
      (λ e. wrote_evicted _ (form_evicted (picked_peer r.station.passive r (at k.narrow N.passive))) (formed_evict k))
      (λ e. nobody (formed_evict k))

  pub formed_add_passive : (p : ℕ) (d : Data) {r : Run} → Peer p → HeldData (bytes_of d) → Formed ds es r → Formed ds (es ++ by_adding p d r) (P.add_passive p d r)
  unfolding P.add_passive P.enter_passive P.push_passive by_adding P.evicted_by P.evicted_for
  formed_add_passive p d {r} l h k =
      let j : Formed ds es (P.insert_peer_info p d r) = formed_insert_peer_info p d l h k in
      let g = alter (P.push_passive p) (λ w. change w N.passive _ (all_more Peer _ p l (at w N.passive))) (formed_make_room j) in
      newcomer (P.is_newcomer p (P.insert_peer_info p d r).station) (P.evicted (P.insert_peer_info p d r)) g j

  pub formed_drop_passive : (p : ℕ) {r : Run} → Formed ds es r → Formed ds es (P.drop_passive p r)
  unfolding P.drop_passive
  formed_drop_passive p k = formed_forget p (alter (P.remove_passive p) (remove_passive_narrow p _) k)

  -- messages sent
  pub formed_join : (p : ℕ) {r : Run} → Peer p → Formed ds es r → Formed ds es (S.join p r)
  unfolding S.join S.join_to
  formed_join p {r} l k = wrote _ refl (form_join r.station.own_data k.narrow.mine l) k

  formed_send_nodes : (to : ℕ) (ps : List ℕ) {r : Run} → Peer to → length ps ≤ 32 → Peers ps → Formed ds es r → Formed ds es (S.send_nodes to ps r)
  unfolding S.send_nodes
  formed_send_nodes to ps {r} l n a k =
      wrote _ refl (form_reply _ l (omega (arith, n, length_infos r.station ps)) (named_infos r.station ps k.narrow.held a)) k

  pub formed_send_shuffle_reply : (to len : ℕ) {r : Run} → Peer to → len ≤ 32 → Formed ds es r → Formed ds es (S.send_shuffle_reply to len r)
  unfolding S.send_shuffle_reply S.reply_with S.send_filled S.fill_active
  formed_send_shuffle_reply to len {r} l n k =
      let w = R.draw_shuffle r.station.passive r in
      let ps = take len (R.shuffled r.station.passive r) in
      let ys = R.shuffled w.station.active w in
      let j : Formed ds es w = drew_shuffle _ k in
      let a : Peers ps = all_take Peer len _ (shuffled_peers r.station.passive r (at k.narrow N.passive)) in
      let f : length ps ≤ len = length_cut_to len _ in
      either _
      (formed_send_nodes to (ps ++ take (len - length ps) ys) l (omega (arith, f, length-append ps (take (len - length ps) ys), length_cut_to (len - length ps) ys))
      (all_append Peer ps _ a (all_take Peer (len - length ps) ys (shuffled_peers w.station.active w (at j.narrow N.active)))) (drew_shuffle _ j))
      (formed_send_nodes to ps l (omega arith) a j)

  pub formed_send_disconnect : (p : ℕ) (alive : Bool) {r : Run} → Peer p → Formed ds es r → Formed ds es (S.send_disconnect p alive r)
  unfolding S.send_disconnect S.reply_length
  formed_send_disconnect p alive {r} l k =
      let c = k.narrow.settings in
      wrote _ refl (form_disconnect alive l) (formed_send_shuffle_reply p _ l (omega (arith, c.few_active, c.few_passive)) k)

  formed_open_request : (p : ℕ) {r : Run} → Peer p → Formed ds es r → Formed ds es (S.open_request p (S.count_request r))
  unfolding S.open_request S.count_request S.note_request S.request_counts
  formed_open_request p {r} l k =
      let test = ltb r.station.next_request top_counter in
      let counts : (require 10 test r).code ≡ 0 → ltb (require 10 test r).station.next_request top_counter ≡ true =
      (λ z. let e = require_fine ten test r z in subst (λ (w : Run). ltb w.station.next_request top_counter ≡ true) (sym e.0) e.1) in
      claim six _ (S.note_request p) (λ z e w. change_next_request (change w N.requests _ (all_keys_put Peer p _ _ l (at w N.requests))) (omega (arith, ltb-true (require 10 test r).station.next_request top_counter (counts z)))) (asked 10 test k)

  pub formed_send_neighbor : (p : ℕ) (high : Bool) {r : Run} → Peer p → Formed ds es r → Formed ds es (S.send_neighbor p high r)
  unfolding S.send_neighbor S.tell_request S.neighbor_to
  formed_send_neighbor p high {r} l k =
      let j : Formed ds es (S.open_request p (S.count_request r)) = formed_open_request p l k in
      either _ k (wrote _ refl (form_request_timer l (omega (arith, j.narrow.settings.short_wait)) k.narrow.requests_top) (wrote _ refl (form_neighbor _ high j.narrow.mine l) j))

  formed_reply_neighbor : (reply : Bool) (p : ℕ) (high : Bool) {r : Run} → Peer p → Formed ds es r → Formed ds es (S.reply_neighbor reply p high r)
  unfolding S.reply_neighbor
  formed_reply_neighbor reply p high l k = either _ (formed_send_neighbor p high l k) k

  -- refills
  formed_end_recovery : {r : Run} → Formed ds es r → Formed ds es (on F.end_recovery r)
  unfolding F.end_recovery
  formed_end_recovery k = alter F.end_recovery (λ w. w) k

  formed_ask_one : (from : List ℕ) {r : Run} → Peers from → Formed ds es r → Formed ds es (F.ask_one from r)
  unfolding F.ask_one F.ask_picked F.use_request
  formed_ask_one from {r} a k =
      either _ (formed_end_recovery k) (alter F.use_request (λ w. w) (formed_send_neighbor _ _ (picked_peer from r a) (drew_one_of _ k)))

  pub formed_refill : (skip : List ℕ) {r : Run} → Formed ds es r → Formed ds es (F.refill_active_from_passive skip r)
  unfolding F.refill_active_from_passive F.refill_limited F.limit_short F.candidates
  formed_refill skip {r} k =
      let j : Formed ds es (on F.limit_short r) = alter F.limit_short (λ w. w) k in
      either _ k (formed_ask_one _ (all_without_all Peer _ _ (at j.narrow N.passive)) j)

  pub formed_start_refill : (limit : Refill) (skip : List ℕ) {r : Run} → Formed ds es r → Formed ds es (F.start_refill limit skip r)
  unfolding F.start_refill F.begin_refill
  formed_start_refill limit skip k = formed_refill skip (alter (F.begin_refill limit) (λ w. w) k)

-- a message's nodes
pub formed_add_nodes : {ds es : List ℕ} (ns : List Node) {r : Run} → All Named ns → Formed ds es r → Formed ds (es ++ by_nodes ns r) (P.add_nodes ns r)
unfolding P.add_nodes by_nodes All
formed_add_nodes [] a k = nobody k
formed_add_nodes {ds} {es} (n ∷ ns) {r} a k =
    subst (λ (l : List ℕ). Formed ds l (P.add_nodes ns (P.add_passive n.id n.data_of r))) (append_assoc es (by_adding n.id n.data_of r) (by_nodes ns (P.add_passive n.id n.data_of r)))
    (formed_add_nodes {es = es ++ by_adding n.id n.data_of r} ns a.1 (formed_add_passive n.id n.data_of a.0.id a.0.held k))

module _ {ds : List ℕ} where
  -- out of the active view
  formed_demote : (p : ℕ) {r : Run} → Peer p → Formed ds [] r → Formed ds (by_demoting p r) (A.demote p r)
  unfolding A.demote by_demoting
  formed_demote p {r} l k =
      formed_add_passive p _ l (held_lookup p r.station.peer_data k.narrow.held) (alter (P.drop_data p) (drop_data_narrow p _) k)

  formed_demote_alive : (p : ℕ) {r : Run} → Peer p → Formed ds [] r → Formed ds (by_demoting p r) (A.demote_alive p r)
  unfolding A.demote_alive
  formed_demote_alive p l k = alter (A.mark_alive p) (mark_alive_narrow p _ l) (formed_demote p l k)

  formed_settle : (why : Reason) (p : ℕ) {r : Run} → Peer p → Formed ds [] r → Formed ds (by_settling why p r) (A.settle why p r)
  unfolding A.settle A.settle_closed by_settling
  formed_settle connection_closed p l k = either_way _ (formed_demote p l (alter (P.drop_mark p) (drop_mark_narrow p _) k)) (formed_forget p k)
  formed_settle (disconnect_received true) p l k = formed_demote_alive p l k
  formed_settle (disconnect_received false) p l k = formed_forget p k
  formed_settle random p l k = formed_demote_alive p l (formed_send_disconnect p true l k)

  formed_remove_at : (i : ℕ) (why : Reason) {r : Run} → Formed ds [] r → Formed ds (by_removing_at i why r) (A.remove_active_by_index i why r)
  unfolding A.remove_active_by_index A.drop_active A.swap_active A.leave_active by_removing_at
  formed_remove_at i why {r} k =
      let l = all_get Peer r.station.active i 0 no_peer (at k.narrow N.active) in
      formed_settle why _ l (wrote _ refl (form_down l) (alter (A.swap_active i) (λ w. change (change w N.pins _ (all_without Peer _ _ (at w N.pins))) N.active _ (all_swap_remove Peer no_peer i _ (at w N.active))) k))

module _ {ds es : List ℕ} where
  pub formed_clear_refused : {r : Run} → Formed ds es r → Formed ds es (on A.clear_refused r)
  unfolding A.clear_refused
  formed_clear_refused k = alter A.clear_refused (λ w. change w N.refused _ no_peers) k

module _ {ds : List ℕ} where
  pub formed_remove_active : (p : ℕ) (why : Reason) {r : Run} → Formed ds [] r → Formed ds (by_removing p why r) (A.remove_active p why r)
  unfolding A.remove_active A.refill_after by_removing
  formed_remove_active p why k = either_way _ (formed_start_refill _ _ (formed_clear_refused (formed_remove_at _ why k))) k

  formed_free_slot : {r : Run} → Formed ds [] r → Formed ds (by_freeing r) (A.free_random_slot_in_active_view r)
  unfolding A.free_random_slot_in_active_view A.remove_picked by_freeing
  formed_free_slot k = either_way _ k (formed_remove_at _ random (drew_one_of _ k))

-- into it
formed_enter : {ds es : List ℕ} (p : ℕ) (high reply : Bool) {r : Run} → Peer p → Formed ds es r → Formed ds es (A.add_active_unchecked p high reply r)
unfolding A.add_active_unchecked A.enter_active A.gain_neighbor
formed_enter p high reply l k =
    formed_reply_neighbor reply p high l (alter A.gain_neighbor (λ w. w) (wrote _ refl (form_up l) (alter (A.move_in p) (move_in_narrow p _ l) k)))

pub formed_add_active : {ds : List ℕ} (p : ℕ) (d : Data) (high reply : Bool) {r : Run} → Peer p → HeldData (bytes_of d) → Formed ds [] r → Formed ds (by_entering p d high r) (A.add_active p d high reply r)
unfolding A.add_active A.admit A.admit_new A.admit_full by_entering by_admitting
formed_add_active {ds} p d high reply {r} l h k =
    let j : Formed ds [] (P.insert_peer_info p d r) = formed_insert_peer_info p d l h k in
    either_way _ k (either_way _ (formed_reply_neighbor reply p high l j)
    (either_way _ (either_way _ (formed_enter p high reply l (formed_free_slot j)) j) (formed_enter p high reply l j)))
