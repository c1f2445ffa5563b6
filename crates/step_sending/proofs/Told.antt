-- The records and requests of the code are those of the definition.
-- Assumes nothing.
use Rattle.std.specs.Prelude as prelude
use Prim.Native.Nat.{ℕ, ◌+◌, ◌≤◌, ◌<◌}
use mathlib.Core.Path.{◌≡◌, refl, sym, ap, ◌∙◌, subst}
use mathlib.Core.Bool.{Bool, true, false, ◌||◌, or-true}
use mathlib.Core.List.{List, [], ◌∷◌}
use native.Mathlib.Omega.{arith}
use lib.ListN.{length, take, get_or}
use lib.Dec.{ltb}
use borrow.Author.Tests.{ltb-true}
use Rattle.record.specs.Kinds.{PendingNeighborRequest, kind_byte}
use Rattle.base_lists.specs.Lists.{choose}
use Rattle.base_lists.specs.Maps.{has}
use Rattle.base_lists.proofs.Choice.{choose_yes, choose_no}
use Rattle.base_util.specs.Section.{items_at, ValidSet, working_places}
use Rattle.base_util.proofs.Parts.{part_read}
use Rattle.base_columns.specs.Columns.{numbers_at}
use Rattle.base_peer.specs.Held.{node_in, data_in}
use Rattle.base_peer.specs.declared.PeerData.{PeerData}
use Rattle.base_peer.specs.Data.{Node}
use Rattle.record_writer.specs.declared.nodes.Nodes.{Nodes}
use Rattle.record_writer.specs.Nodes.{nodes_in}
use Rattle.spec_hyparview.specs.Station.{is_requested, top_counter}
use Rattle.spec_hyparview.specs.Run.{on, emit, require, node, message, flag, peer_infos, timer}
use Rattle.spec_hyparview.specs.Sending.{join_to, join, send_nodes, send_shuffle_reply, reply_length, send_disconnect, request_counts, request_fits, note_request, count_request, open_request, neighbor_to, tell_request, send_neighbor, reply_neighbor}
use Rattle.work.specs.declared.Work.{Work}
use Rattle.hyparview_state.specs.Layout.{requests_part, shuffle_active_view_count, shuffle_passive_view_count, neighbor_request_timeout, next_neighbor_request, requests_at, requests_count, requests_places, requests_size}
use Rattle.hyparview_state.specs.Unpack.{unpack, station_of, settings_at, PackedState}
use Rattle.hyparview_state.specs.Work.{Held, work_of, run, run_of, Stateless, Changes, ChangesAny, DrawsAny, Room, Tells, TellsAny, Fine, Does}
use Rattle.hyparview_state.proofs.Access.{of_settings, of_requests}
use Rattle.base_timing.proofs.Ranges.{ranges}
use Rattle.hyparview_state.proofs.Bridge.{on_passed, emit_passed, required_code, require_said, unchanged, change_by, change_then, telling, tell_by, tell_then, tell_yes, tell_no, by}
use Rattle.hyparview_state.proofs.Any.{required_at, then_tell_any, told_at}
use Rattle.step_sending.proofs.Sets.{lent_items}

-- what a step is lent, after another

pub room_of : (w : Held) (ds out : List ℕ) → Fine w ds out → Room w out
room_of w ds out v = record { packed = v.ready.packed; written = v.written }

pub fine_drawn : {step : Stateless} (w a : Work) (xs ds out : List ℕ) → Fine (work_of w xs) ds out → DrawsAny step w a ds → Fine (work_of a xs) ds out
fine_drawn w a xs ds out v k = record { ready = record { packed = v.ready.packed; drawn = k.drawn }; written = rw k.written v.written }

pub room_drawn : {step : Stateless} (w a : Work) (xs ds out : List ℕ) → Fine (work_of w xs) ds out → DrawsAny step w a ds → Room (work_of a xs) out
room_drawn w a xs ds out v k = room_of (work_of a xs) ds out (fine_drawn w a xs ds out v k)

-- ---- records

module _ (w r : Work) (xs out o : List ℕ) where
  pub join_told : (p : ℕ) (d : prelude.Option PeerData) → Room (work_of w xs) out → data_in d ≡ (unpack xs).own_data → TellsAny (emit (message 0 p 0 0 0 (node_in (record { id = 0; «data» = d }) ∷ []))) w r out o
      → Tells (join p) (work_of w xs) (work_of r xs) out o
  unfolding join join_to node_in run_of
  join_told p d v e k = tell_by _ (λ ds i. emit (message 0 p 0 0 0 (node 0 (sym e i) ∷ [])) (run (work_of w xs) ds out)) (told_at xs v.packed _ k)

  nodes_told : (to : ℕ) (ps : List ℕ) (ns : Nodes) → Room (work_of w xs) out → nodes_in ns ≡ peer_infos (unpack xs) ps → TellsAny (emit (message 3 to 0 0 0 (nodes_in ns))) w r out o
      → Tells (send_nodes to ps) (work_of w xs) (work_of r xs) out o
  unfolding send_nodes run_of
  nodes_told to ps ns v h k = tell_by _ (λ ds. ap (λ (x : List Node). emit (message 3 to 0 0 0 x) (run (work_of w xs) ds out)) (sym h)) (told_at xs v.packed _ k)

  pub set_told : (v : List ℕ) (n to : ℕ) (ns : Nodes) → Room (work_of w xs) out → ValidSet working_places v → n ≡ length (items_at working_places v) → nodes_in ns ≡ peer_infos (unpack xs) (take n v) → TellsAny (emit (message 3 to 0 0 0 (nodes_in ns))) w r out o
      → Tells (send_nodes to (items_at working_places v)) (work_of w xs) (work_of r xs) out o
  set_told v n to ns q s e h k = subst (λ (l : List ℕ). Tells (send_nodes to l) (work_of w xs) (work_of r xs) out o) (lent_items v n s e) (nodes_told to (take n v) ns q h k)

  neighbor_told : (p : ℕ) (high : Bool) (f : ℕ) (d : prelude.Option PeerData) → Room (work_of w xs) out → f ≡ choose high 1 0 → data_in d ≡ (unpack xs).own_data
      → TellsAny (emit (message 4 p f 0 0 (node_in (record { id = 0; «data» = d }) ∷ []))) w r out o
      → Tells (emit (neighbor_to (unpack xs).own_data high p)) (work_of w xs) (work_of r xs) out o
  unfolding neighbor_to flag node_in
  neighbor_told p high f d v e q k = tell_by _ (λ ds i. emit (message 4 p (sym e i) 0 0 (node 0 (sym q i) ∷ [])) (run (work_of w xs) ds out)) (told_at xs v.packed _ k)

  pub disconnected : (a : Work) (o₁ ds : List ℕ) (p : ℕ) (alive : Bool) (f : ℕ) → f ≡ choose alive 1 0
      → TellsAny (emit (message 5 p f 0 0 [])) a r o₁ o → Does (work_of a xs) ds o₁ (send_shuffle_reply p (shuffle_active_view_count xs + shuffle_passive_view_count xs) (run (work_of w xs) ds out))
      → Does (work_of r xs) ds o (send_disconnect p alive (run (work_of w xs) ds out))
  unfolding send_disconnect reply_length flag run_of unpack station_of settings_at
  disconnected a o₁ ds p alive f q k d =
      by _ (λ i. emit (message 5 p (sym q i) 0 0 []) (send_shuffle_reply p (shuffle_active_view_count xs + shuffle_passive_view_count xs) (run (work_of w xs) ds out))) (then_tell_any _ k d)

pub request_told : (w a r : Work) (xs out o₁ o : List ℕ) (p : ℕ) (high : Bool) (id f : ℕ) (d : prelude.Option PeerData) → Room (work_of w xs) out → f ≡ choose high 1 0 → data_in d ≡ (unpack xs).own_data
    → TellsAny (emit (message 4 p f 0 0 (node_in (record { id = 0; «data» = d }) ∷ []))) w a out o₁
    → TellsAny (emit (timer (kind_byte PendingNeighborRequest) p (neighbor_request_timeout xs) id)) a r o₁ o
    → Tells (tell_request p high id) (work_of w xs) (work_of r xs) out o
unfolding tell_request run_of unpack station_of settings_at
request_told w a r xs out o₁ o p high id f d v e q k₁ k₂ =
    let k = neighbor_told w a xs out o₁ p high f d v e q k₁ in
    tell_then _ (λ ds. refl) (told_at xs k.room.packed _ k₂) k

-- how many peers a Disconnect's ShuffleReply names
pub few_named : (xs : List ℕ) → PackedState xs → shuffle_active_view_count xs + shuffle_passive_view_count xs ≤ 32
unfolding settings_at
few_named xs v = let b = ranges (settings_at xs) (of_settings xs v) in omega (arith, b.shuffle_active.most, b.shuffle_passive.most)

-- ---- requests

module _ (p : ℕ) (high : Bool) (w : Held) (out : List ℕ) (v : Room w out) where
  pub asked : (t : Bool) → t ≡ is_requested p (unpack w.state) → t ≡ true → Tells (send_neighbor p high) w w out out
  unfolding send_neighbor
  asked t e h = tell_yes (is_requested p) e _ h (telling v (unchanged (λ g. g) v.packed (λ ds o. refl)))

  pub replied : (reply : Bool) (r : Held) (o : List ℕ) → reply ≡ true → Tells (send_neighbor p high) w r out o → Tells (reply_neighbor reply p high) w r out o
  unfolding reply_neighbor
  replied reply r o h k = tell_by _ (λ ds. choose_yes _ _ _ h) k

  pub not_replied : (reply : Bool) → reply ≡ false → Tells (reply_neighbor reply p high) w w out out
  unfolding reply_neighbor
  not_replied reply h = telling v (unchanged _ v.packed (λ ds o. choose_no _ _ _ h))

-- the count of the open requests, as it stands in the words
pub requests_counted : (xs : List ℕ) → PackedState xs → get_or xs requests_count 0 ≡ length (numbers_at requests_places (requests_part xs))
requests_counted xs v = sym ((of_requests xs v).counted ∙ part_read requests_at requests_size (requests_places + requests_places) xs (omega arith))

-- the two tests before a request is noted
module _ (w a b : Work) (xs : List ℕ) (n : ℕ) (v : PackedState xs) (k₁ : ChangesAny (require 10 (ltb (next_neighbor_request xs) top_counter)) w a)
    (e : n ≡ length (numbers_at requests_places (requests_part xs))) (k₂ : ChangesAny (require 6 (ltb n requests_places)) a b) where
  pub number_left : b.code ≡ 0 → next_neighbor_request xs < top_counter
  number_left z = ltb-true _ _ (require_said (work_of w xs) (work_of a xs) 10 _ (omega arith) (required_at xs v _ _ k₁) (required_code 6 (ltb n requests_places) (work_of a xs) (work_of b xs) (required_at xs v _ _ k₂) z)).1

  pub place_left : b.code ≡ 0 → (p : ℕ) → (has p (numbers_at requests_places (requests_part xs)) || ltb (length (numbers_at requests_places (requests_part xs))) requests_places) ≡ true
  place_left z p =
      let fits : ltb (length (numbers_at requests_places (requests_part xs))) requests_places ≡ true = ap (λ (m : ℕ). ltb m requests_places) (sym e) ∙ (require_said (work_of a xs) (work_of b xs) 6 (ltb n requests_places) (omega arith) (required_at xs v _ _ k₂) z).1 in
      rw fits (or-true (has p (numbers_at requests_places (requests_part xs))))

  counted : Changes count_request (work_of w xs) (work_of a xs)
  unfolding count_request request_counts run_of unpack station_of
  counted = change_by _ (λ ds out. refl) (required_at xs v _ _ k₁)

  module _ (p : ℕ) (ys : List ℕ) (k₃ : Changes (on (note_request p)) (work_of b xs) (work_of b ys)) where
    opened : Changes (open_request p) (work_of a xs) (work_of b ys)
    unfolding open_request request_fits run_of unpack station_of
    opened = change_then _ (λ ds out. ap (λ (m : ℕ). on (note_request p) (require 6 (ltb m requests_places) (run (work_of a xs) ds out))) (sym e)) k₃ (required_at xs v _ _ k₂)

    noted : (out : List ℕ) → Room (work_of w xs) out → Tells (λ g. open_request p (count_request g)) (work_of w xs) (work_of b ys) out out
    noted out q = telling q (change_then _ (λ ds o. refl) opened counted)

    pub noted_room : (out : List ℕ) → Room (work_of w xs) out → Room (work_of b ys) out
    noted_room out q = (noted out q).room

    pub neighbor_sent : (high t : Bool) (r : Work) (out o : List ℕ) → Room (work_of w xs) out → t ≡ is_requested p (unpack xs) → t ≡ false → Tells (tell_request p high (next_neighbor_request xs)) (work_of b ys) (work_of r ys) out o
        → Tells (send_neighbor p high) (work_of w xs) (work_of r ys) out o
    unfolding send_neighbor run_of unpack station_of
    neighbor_sent high t r out o q i h k = tell_no (is_requested p) i _ h (tell_then _ (λ ds. refl) k (noted out q))

  -- a refused run is left alone
  pub neighbor_refused : (p : ℕ) (high t : Bool) (out : List ℕ) → Room (work_of w xs) out → t ≡ is_requested p (unpack xs) → t ≡ false → (b.code ≡ 0 → ⊥) → Tells (send_neighbor p high) (work_of w xs) (work_of b xs) out out
  unfolding tell_request run_of
  neighbor_refused p high t out q i h z =
      let k₃ = on_passed (work_of b xs) v (note_request p) z in
      let room = noted_room p xs k₃ out q in
      neighbor_sent p xs k₃ high t b out out q i h (tell_then _ (λ ds. refl) (emit_passed b xs out _ room z) (emit_passed b xs out _ room z))
