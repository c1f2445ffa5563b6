-- The six messages received.
-- Assumes nothing.
use Rattle.std.specs.Prelude.{ℕ, Bool, true, not, ◌&&◌, ◌||◌, List, [], ◌∷◌, length, ltb, eqb}
use Rattle.base_lists.specs.Lists.{choose, null, mem, without, without_all, insert}
use Rattle.base_lists.specs.Maps.{cut}
use Rattle.base_timing.specs.Timing.{expired, next}
use Rattle.base_peer.specs.Data.{Data, Node}
use Rattle.record.specs.Format.{Rec}
use Rattle.spec_hyparview.specs.Station.{Station, in_active, in_passive, is_requested, is_short, is_spent, is_last_hop, max_refused}
use Rattle.spec_hyparview.specs.Setters.{set_recent, set_requests, set_joins, set_refused}
use Rattle.spec_hyparview.specs.Run.{Run, on, emit, draw_one_of, require, picked, emit_all, node, message}
use Rattle.spec_hyparview.specs.Peers.{insert_peer_info, forget_peer, add_passive, add_nodes, any_new, drop_passive}
use Rattle.spec_hyparview.specs.Sending.{send_neighbor, send_shuffle_reply, send_disconnect}
use Rattle.spec_hyparview.specs.Refill.{few_requests, refill_active_from_passive, start_refill}
use Rattle.spec_hyparview.specs.Active.{disconnect_received, mark_alive, remove_active, add_active, accepts}

-- pending_joins.remove: p was heard from, so the Join to it needs no retry
unfoldable pub drop_join : ℕ → Station → Station
drop_join p s = set_joins (cut p s.joins) s

-- pending_neighbor_requests.remove
unfoldable pub drop_request : ℕ → Station → Station
drop_request p s = set_requests (cut p s.requests) s

-- on_join and on_neighbor start with both. In on_join the open request goes because its peer, mostly after a restart, knows nothing of it:
-- it will not be answered, and as long as it stands `send_neighbor` is silent, so that the Join would stay without an answer. Where request
-- and Join crossed on the way, p gets one Neighbor too many, and takes it for an answer to its own.
unfoldable pub drop_pending : ℕ → Run → Run
drop_pending p r = on (drop_request p) (on (drop_join p) r)

-- on_join

unfoldable pub forward_join_to : Node → ℕ → ℕ → Rec
forward_join_to n ttl q = message 1 q 0 0 ttl (n ∷ [])

-- each neighbour but p hears of p; the walks begin with the paper's ARWL
unfoldable pub forward_joins : ℕ → Data → Run → Run
forward_joins p d r =
    emit_all (forward_join_to (node p d) r.station.config.active_random_walk_length) (without p r.station.active) r

-- on_join: as in the paper p enters the active view even if a random neighbour has to leave it
unfoldable pub on_join : ℕ → Data → Run → Run
on_join p d r = forward_joins p d (add_active p d true true (drop_pending p r))

-- on_forward_join

-- a neighbour's tie is renewed; else the walk is used up, or one neighbour or none is left, and it cannot go on
unfoldable pub ends_here : ℕ → ℕ → Station → Bool
ends_here p ttl s = in_active p s || (expired ttl || is_last_hop s)

-- the joiner is asked, and enters the active view when it answers: one that cannot be reached takes no place
unfoldable pub ask_joiner : Node → Run → Run
ask_joiner n r = send_neighbor n.id true (insert_peer_info n.id n.data_of r)

-- at one point of its walk, the paper's PRWL, a joiner becomes a passive peer
unfoldable pub learn_joiner : Node → ℕ → Run → Run
learn_joiner n ttl r =
    choose (eqb ttl r.station.config.passive_random_walk_length) (add_passive n.id n.data_of r) r

-- The Rust has `unreachable!` where `others` is empty: that is never so (proofs/Unreachable).
unfoldable pub forward_join_on : List ℕ → Node → ℕ → Run → Run
forward_join_on others n ttl r = emit (forward_join_to n (next ttl) (picked others r)) (draw_one_of (length others) r)

-- who is asked already counts as taken in, and is not passed on
unfoldable pub walk_on : ℕ → Node → ℕ → Run → Run
walk_on from n ttl r =
    choose (is_requested n.id r.station) r (forward_join_on (without from r.station.active) n ttl r)

-- on_forward_join
unfoldable pub on_forward_join : ℕ → Node → ℕ → Run → Run
on_forward_join from n ttl r =
    choose (ends_here n.id ttl r.station) (ask_joiner n r) (walk_on from n ttl (learn_joiner n ttl r))

-- on_shuffle

-- the time to live is tested before it is decreased, so that a Shuffle goes one hop further than in the paper
unfoldable pub answers_shuffle : ℕ → Station → Bool
answers_shuffle ttl s = expired ttl || is_last_hop s

-- as many peers go back as came
unfoldable pub answer_shuffle : ℕ → List Node → Run → Run
answer_shuffle origin ns r = send_shuffle_reply origin (length ns) (add_nodes ns r)

unfoldable pub forward_shuffle : List ℕ → ℕ → List Node → ℕ → Run → Run
forward_shuffle others origin ns ttl r =
    choose (null others) r (emit (message 2 (picked others r) 0 origin (next ttl) ns) (draw_one_of (length others) r))

-- on_shuffle; not forwarded to the origin either, which would shuffle with itself
unfoldable pub on_shuffle : ℕ → ℕ → List Node → ℕ → Run → Run
on_shuffle from origin ns ttl r =
    choose (answers_shuffle ttl r.station) (answer_shuffle origin ns r)
    (forward_shuffle (without_all (origin ∷ from ∷ []) r.station.active) origin ns ttl r)

-- on_shuffle_reply

-- where its sender was asked, a reply announces a refusal (`send_disconnect`): only a short station then asks another
unfoldable pub stops_at_refusal : ℕ → Station → Bool
stops_at_refusal from s = is_requested from s && not (is_short s)

-- new peers from a shuffle are worth a few more requests; those that a refusal brings are not, or refusals would never end
unfoldable pub renews_limit : ℕ → Bool → Station → Bool
renews_limit from new s = not (is_requested from s) && (new && is_spent s.refill)

unfoldable pub refill_with : Bool → Run → Run
refill_with renewed r = choose renewed (start_refill few_requests [] r) (refill_active_from_passive [] r)

-- a reply to the station's own shuffle lets it ask where it has a free place; one that is not short begins to ask only then, and when it
-- lost a neighbour
unfoldable pub after_reply : ℕ → Bool → Run → Run
after_reply from new r =
    choose (stops_at_refusal from r.station) r (refill_with (renews_limit from new r.station) r)

-- on_shuffle_reply
unfoldable pub on_shuffle_reply : ℕ → List Node → Run → Run
on_shuffle_reply from ns r = after_reply from (any_new ns r) (add_nodes ns r)

-- on_neighbor

-- the data that came with the Neighbor is held already, and goes again
unfoldable pub refuse_neighbor : ℕ → Run → Run
refuse_neighbor p r = forget_peer p (send_disconnect p true r)

-- as in the paper high priority is always accepted, and low priority where a place is free
unfoldable pub answer_neighbor : ℕ → Data → Bool → Bool → Run → Run
answer_neighbor p d high reply r =
    choose (accepts p high r.station) (add_active p d high reply r) (refuse_neighbor p (add_active p d high reply r))

-- on_neighbor: where a Neighbor to the sender is open this one answers it, and is not answered (`send_neighbor`)
unfoldable pub on_neighbor : ℕ → Data → Bool → Run → Run
on_neighbor p d high r = answer_neighbor p d high (not (is_requested p r.station)) (drop_pending p r)

-- on_disconnect

unfoldable pub drop_recent : ℕ → Station → Station
drop_recent p s = set_recent (without p s.recent) s

-- whoever is no longer on the topic cannot help a station back
unfoldable pub forget_recent : ℕ → Bool → Run → Run
forget_recent p alive r = choose alive r (on (drop_recent p) r)

-- code 7: "a 33rd refused peer is needed"
unfoldable pub refused_fits : ℕ → Station → Bool
refused_fits p s = mem p s.refused || ltb (length s.refused) max_refused

-- its active view was full, so low priority skips it for now (Refill `skipped`)
unfoldable pub add_refused : ℕ → Station → Station
add_refused p s = set_refused (insert p s.refused) s

unfoldable pub note_refused : ℕ → Run → Run
note_refused p r = on (add_refused p) (require 7 (refused_fits p r.station) r)

unfoldable pub note_refusal : ℕ → Bool → Run → Run
note_refusal p requested r = choose requested (note_refused p r) r

-- it stays on the topic: the close of its connection is not to cost it its place
unfoldable pub mark_passive : ℕ → Run → Run
mark_passive p r = choose (in_passive p r.station) (on (mark_alive p) r) r

-- it left the topic or was never on it: out of the passive view; where it was asked, another is
unfoldable pub left_topic : ℕ → Bool → Run → Run
left_topic p requested r =
    choose requested (refill_active_from_passive (p ∷ []) (drop_passive p r)) (drop_passive p r)

unfoldable pub disconnect_other : ℕ → Bool → Bool → Run → Run
disconnect_other p alive requested r =
    choose alive (mark_passive p (note_refusal p requested r)) (left_topic p requested r)

unfoldable pub disconnected : ℕ → Bool → Bool → Run → Run
disconnected p alive requested r =
    choose (in_active p r.station) (remove_active p (disconnect_received alive) r) (disconnect_other p alive requested r)

-- on_disconnect
unfoldable pub on_disconnect : ℕ → Bool → Run → Run
on_disconnect p alive r =
    disconnected p alive (is_requested p r.station) (on (drop_request p) (forget_recent p alive (on (drop_join p) r)))
