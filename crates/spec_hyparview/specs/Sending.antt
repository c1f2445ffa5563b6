-- What the station sends: Join, Neighbor, ShuffleReply and Disconnect.
-- Assumes nothing.
use Rattle.std.specs.Prelude.{ℕ, ◌+◌, ◌-◌, Bool, List, [], ◌∷◌, ◌++◌, length, take, ltb}
use Rattle.base_lists.specs.Lists.{choose}
use Rattle.base_lists.specs.Maps.{put}
use Rattle.base_peer.specs.Data.{Data}
use Rattle.record.specs.Kinds.{PendingNeighborRequest, kind_byte}
use Rattle.record.specs.Format.{Rec}
use Rattle.spec_hyparview.specs.Station.{Station, is_requested, max_requests, top_counter}
use Rattle.spec_hyparview.specs.Setters.{set_requests, set_next_request}
use Rattle.spec_hyparview.specs.Run.{Run, on, emit, require, shuffled, draw_shuffle, node, message, timer, flag, peer_infos}

-- Message::Join with the station's own data
unfoldable pub join_to : Data → ℕ → Rec
join_to d p = message 0 p 0 0 0 (node 0 d ∷ [])

-- join
unfoldable pub join : ℕ → Run → Run
join p r = emit (join_to r.station.own_data p) r

-- send_shuffle_reply

unfoldable pub send_nodes : ℕ → List ℕ → Run → Run
send_nodes to ps r = emit (message 3 to 0 0 0 (peer_infos r.station ps)) r

-- where passive peers are too few, as at a young station, neighbours make up the number
unfoldable pub fill_active : ℕ → List ℕ → Run → List ℕ
fill_active len ps r = ps ++ take (len - length ps) (shuffled r.station.active r)

unfoldable pub send_filled : ℕ → ℕ → List ℕ → Run → Run
send_filled to len ps r = send_nodes to (fill_active len ps r) (draw_shuffle r.station.active r)

unfoldable pub reply_with : ℕ → ℕ → List ℕ → Run → Run
reply_with to len ps r = choose (ltb (length ps) len) (send_filled to len ps r) (send_nodes to ps r)

-- send_shuffle_reply: the passive view is shuffled whole before it is cut
unfoldable pub send_shuffle_reply : ℕ → ℕ → Run → Run
send_shuffle_reply to len r =
    reply_with to len (take len (shuffled r.station.passive r)) (draw_shuffle r.station.passive r)

unfoldable pub reply_length : Station → ℕ
reply_length s = s.config.shuffle_active_view_count + s.config.shuffle_passive_view_count

-- send_disconnect; the addresses go first, so that the other one is not left with nobody to ask, above all one that has just joined
unfoldable pub send_disconnect : ℕ → Bool → Run → Run
send_disconnect p alive r =
    emit (message 5 p (flag alive) 0 0 []) (send_shuffle_reply p (reply_length r.station) r)

-- send_neighbor

-- code 10 for requests
unfoldable pub request_counts : Station → Bool
request_counts s = ltb s.next_request top_counter

-- code 6: "a 33rd open neighbour request is needed"
unfoldable pub request_fits : Station → Bool
request_fits s = ltb (length s.requests) max_requests

-- the number tells the timer of this Neighbor from that of an earlier one to p
unfoldable pub note_request : ℕ → Station → Station
note_request p s = set_requests (put p s.next_request s.requests) (set_next_request (s.next_request + 1) s)

unfoldable pub count_request : Run → Run
count_request r = require 10 (request_counts r.station) r

unfoldable pub open_request : ℕ → Run → Run
open_request p r = on (note_request p) (require 6 (request_fits r.station) r)

unfoldable pub neighbor_to : Data → Bool → ℕ → Rec
neighbor_to d high p = message 4 p (flag high) 0 0 (node 0 d ∷ [])

-- the timer runs from now on, so it has to cover the dial too; where the dial fails it is not waited for (Events `lose_other`)
unfoldable pub tell_request : ℕ → Bool → ℕ → Run → Run
tell_request p high id r =
    emit (timer (kind_byte PendingNeighborRequest) p r.station.config.neighbor_request_timeout id) (emit (neighbor_to r.station.own_data high p) r)

-- send_neighbor: nothing is sent while a Neighbor to p is open; codes 10, 6, 9 in this order. A Neighbor is a request as well as the answer
-- to one, and which of the two one received is, is told by whether one to its sender is open (`on_neighbor`). So an answer is noted as open
-- too, though nobody will answer it: of two stations that asked each other twice, each then takes the second Neighbor for an answer, and
-- they do not answer each other for ever. The note of an answer ends with its timer alone.
unfoldable pub send_neighbor : ℕ → Bool → Run → Run
send_neighbor p high r =
    choose (is_requested p r.station) r
    (tell_request p high r.station.next_request (open_request p (count_request r)))

-- reply, where one is wanted
unfoldable pub reply_neighbor : Bool → ℕ → Bool → Run → Run
reply_neighbor reply p high r = choose reply (send_neighbor p high r) r
