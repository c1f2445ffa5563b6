-- `new` and `handle`, as document 01's "Refusals and accepted calls" has them.
-- Assumes nothing.
use Rattle.std.specs.Prelude.{ℕ, ◌-◌, ◌%◌, min, Bool, true, false, ◌&&◌, List, [], ◌∷◌, ◌++◌, length, replicate, eqb}
use Rattle.std.proofs.Math.Option.{Option, none, some}
use Rattle.base_lists.specs.Lists.{choose}
use Rattle.base_lists.specs.Maps.{retain}
use Rattle.base_timing.specs.Timing.{in_range, initial_shuffle_interval}
use Rattle.base_timing.specs.declared.Config.{Config}
use Rattle.base_peer.specs.Data.{Data, Node}
use Rattle.record.specs.Kinds.{EventKind, Message, DoShuffle, DoMaintenance, PendingNeighborRequest, RetryJoin, PeerDisconnected, RequestJoin, UpdatePeerData, Quit, Pin, event_kind}
use Rattle.record.specs.Format.{Rec}
use Rattle.record.specs.Read.{Reading, refused, event, read_event}
use Rattle.spec_hyparview.specs.Station.{Station, automatic, data_peers}
use Rattle.spec_hyparview.specs.Setters.{set_scheduled, set_peer_data}
use Rattle.spec_hyparview.specs.Run.{Run, on, node}
use Rattle.spec_hyparview.specs.Messages.{on_join, on_forward_join, on_shuffle, on_shuffle_reply, on_neighbor, on_disconnect}
use Rattle.spec_hyparview.specs.Events.{handle_join, handle_connection_closed, update_own_data, handle_pin, handle_quit}
use Rattle.spec_hyparview.specs.Timers.{handle_shuffle_timer, handle_maintenance_timer, handle_pending_neighbor_timer, retry_join, schedule_shuffle, schedule_maintenance}
use Rattle.spec_hyparview.specs.Rules.{short_data, station_ok}

-- State::new; the first shuffle waits no longer than the setting
unfoldable pub new_station : ℕ → Data → Config → Station
new_station me d c = record {
  me = me;
  own_data = d;
  active = [];
  passive = [];
  config = c;
  scheduled = false;
  next_interval = min initial_shuffle_interval c.shuffle_interval;
  bootstrap = [];
  passes_alone = 0;
  passes_short = 0;
  recent = [];
  requests = [];
  next_request = 0;
  joins = [];
  next_join = 0;
  peer_data = [];
  alive = [];
  refused = [];
  refill = automatic;
  pins = [];
}

unfoldable pub zero_config : Config
zero_config = record {
  active_view_capacity = 0;
  passive_view_capacity = 0;
  active_random_walk_length = 0;
  passive_random_walk_length = 0;
  shuffle_random_walk_length = 0;
  shuffle_active_view_count = 0;
  shuffle_passive_view_count = 0;
  shuffle_interval = 0;
  neighbor_request_timeout = 0;
}

-- "a state of zeroes, which later calls meet with code 2"
unfoldable pub zero_station : Station
zero_station = new_station 0 none zero_config

-- what `new` answers
pub record Made : Type 0 where
  pub code : ℕ
  pub state : Station

-- `new`; code 1: "a setting is out of range, or own data is over 16 bytes"
unfoldable pub new : ℕ → Data → Config → Made
new me d c =
    choose (in_range c && short_data d) (record { code = 0; state = new_station me d c }) (record { code = 1; state = zero_station })

-- the one node of Join, ForwardJoin, Neighbor and UpdatePeerData
unfoldable pub first_node : List Node → Node
first_node [] = node 0 none
first_node (n ∷ ns) = n

unfoldable pub first_data : Rec → Data
first_data e = (first_node e.nodes).data_of

-- "Neighbor 1 High, 0 Low"
unfoldable pub is_high : Rec → Bool
is_high e = eqb e.flags 1

-- "Disconnect bit 0 alive"; the other bit is the Rust's `_respond`, kept on the wire though nothing reads it
unfoldable pub says_alive : Rec → Bool
says_alive e = eqb (e.flags % 2) 1

-- handle_message
unfoldable pub handle_message : Rec → Run → Run
handle_message e r =
    choose (eqb e.message 0) (on_join e.peer (first_data e) r)
    (choose (eqb e.message 1) (on_forward_join e.peer (first_node e.nodes) e.ttl r)
    (choose (eqb e.message 2) (on_shuffle e.peer e.second e.nodes e.ttl r)
    (choose (eqb e.message 3) (on_shuffle_reply e.peer e.nodes r)
    (choose (eqb e.message 4) (on_neighbor e.peer (first_data e) (is_high e) r)
    (on_disconnect e.peer (says_alive e) r)))))

-- the `match` of State::handle; the reader takes no event of another kind
unfoldable pub handle_kind : Option EventKind → Rec → Run → Run
handle_kind none e r = r
handle_kind (some Message) e r = handle_message e r
handle_kind (some DoShuffle) e r = handle_shuffle_timer r
handle_kind (some DoMaintenance) e r = handle_maintenance_timer r
handle_kind (some PendingNeighborRequest) e r = handle_pending_neighbor_timer e.peer e.number r
handle_kind (some RetryJoin) e r = retry_join e.peer e.number r
handle_kind (some PeerDisconnected) e r = handle_connection_closed e.peer r
handle_kind (some RequestJoin) e r = handle_join e.peer r
handle_kind (some UpdatePeerData) e r = on (update_own_data (first_data e)) r
handle_kind (some Quit) e r = handle_quit r
handle_kind (some Pin) e r = handle_pin e.peer r

unfoldable pub dispatch : Rec → Run → Run
unfolding event_kind handle_kind
dispatch e r = handle_kind (event_kind e.kind) e r

unfoldable pub note_scheduled : Station → Station
note_scheduled s = set_scheduled true s

-- the first accepted event starts the two timers that then start themselves again, as `new` has no records to ask for them
unfoldable pub first_timers : Run → Run
first_timers r =
    choose r.station.scheduled r (schedule_maintenance (schedule_shuffle (on note_scheduled r)))

-- 02, S-5: the data of a peer in neither view and without an open request goes, such as that of one that was asked and declined
unfoldable pub forget_declined : Station → Station
forget_declined s = set_peer_data (retain (data_peers s) s.peer_data) s

-- State::handle
unfoldable pub steps : Rec → Run → Run
steps e r = on forget_declined (first_timers (dispatch e r))

abbrev pub start : Station → List ℕ → ℕ → Run
start s ds room = record { station = s; draws = ds; used = 0; room = room; out = []; code = 0 }

-- what `handle` answers
pub record Result : Type 0 where
  pub code : ℕ
  pub state : Station
  -- how many of the draws are used
  pub used : ℕ
  -- the whole output, as the call leaves it
  pub output : List ℕ

-- "A refused call has its code, the old state, an output of zero bytes only, and 0 draws used."
unfoldable pub refusal : ℕ → Station → ℕ → Result
refusal c s room = record { code = c; state = s; used = 0; output = replicate room 0 }

-- "An accepted call has code 0, the new state, and records in the output followed by zero bytes."
unfoldable pub accepted : Run → Result
accepted r = record { code = 0; state = r.station; used = r.used; output = r.out ++ replicate (r.room - length r.out) 0 }

unfoldable pub finish : Station → Run → Result
finish s r = choose (eqb r.code 0) (accepted r) (refusal r.code s r.room)

unfoldable pub handle_reading : Reading → Station → List ℕ → ℕ → Result
handle_reading (refused c) s ds room = refusal c s room
handle_reading (event e) s ds room = finish s (steps e (start s ds room))

-- `handle` of a station, an event's bytes, the draws lent and the bytes of output lent: codes 2, then 3, 4 and 3 of the reader, then 5 to 10, 17 and 18
unfoldable pub handle : Station → List ℕ → List ℕ → ℕ → Result
handle s b ds room = choose (station_ok s) (handle_reading (read_event b) s ds room) (refusal 2 s room)
