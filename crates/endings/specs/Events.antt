-- Document 02, S-13: the sixteen events in the order of the request, and the station that they are brought to.
-- Assumes nothing.
use Rattle.std.specs.Prelude.{ℕ, List, [], ◌∷◌, ◌++◌, map, get_or, replicate}
use Rattle.std.proofs.Math.Option.{none}
use Rattle.base_timing.specs.Timing.{default}
use Rattle.base_timing.specs.declared.Config.{Config}
use Rattle.base_peer.specs.Data.{Node}
use Rattle.record.specs.Kinds.{Message, DoMaintenance, PeerDisconnected, RequestJoin, Quit, kind_byte}
use Rattle.record.specs.Format.{Rec, encode}
use Rattle.spec_stories.specs.Histories.{Event, History}
use Rattle.spec_hyparview.specs.Station.{Station}
use Rattle.spec_hyparview.specs.Handle.{new}
use Rattle.spec_hyparview.specs.Sides.{wired}
use Rattle.spec_history.specs.Calls.{Machine}

-- "no data": the one node of Join and Neighbor
abbrev pub no_data_node : List Node
no_data_node = record { id = 0; data_of = none } ∷ []

-- a record of a kind, a message, flags, a peer and nodes
abbrev pub event : ℕ → ℕ → ℕ → ℕ → List Node → Rec
event k m f p ns = record { kind = k; message = m; flags = f; peer = p; second = 0; ttl = 0; number = 0; nodes = ns }

-- one of a message
abbrev pub message_event : ℕ → ℕ → ℕ → List Node → Rec
message_event m f p ns = event (kind_byte Message) m f p ns

-- "all seven for peer ..: RequestJoin, Join, Neighbor High, Neighbor Low, Disconnect alive, Disconnect not alive, disconnection"
unfoldable pub of_peer : ℕ → List Rec
of_peer p =
    event (kind_byte RequestJoin) 0 0 p []
    ∷ message_event 0 0 p no_data_node
    ∷ message_event 4 1 p no_data_node
    ∷ message_event 4 0 p no_data_node
    ∷ message_event 5 1 p []
    ∷ message_event 5 0 p []
    ∷ event (kind_byte PeerDisconnected) 0 0 p []
    ∷ []

-- "then maintenance and Quit"
abbrev pub maintenance : Rec
maintenance = event (kind_byte DoMaintenance) 0 0 0 []

abbrev pub quit : Rec
quit = event (kind_byte Quit) 0 0 0 []

-- "The events, in this order, are all seven for peer 2, then all seven for peer 3 ..; then maintenance and Quit."
unfoldable pub events : List Rec
events = of_peer 2 ++ (of_peer 3 ++ (maintenance ∷ quit ∷ []))

-- the event at a place in that order
unfoldable pub event_at : ℕ → Rec
event_at i = get_or events i quit

-- the sixteen as the bytes of their records
unfoldable pub event_records : List Event
event_records = map encode events

-- "both capacities 1, other settings default"
unfoldable pub tiny : Config
tiny = record {
  active_view_capacity = 1;
  passive_view_capacity = 1;
  active_random_walk_length = default.active_random_walk_length;
  passive_random_walk_length = default.passive_random_walk_length;
  shuffle_random_walk_length = default.shuffle_random_walk_length;
  shuffle_active_view_count = default.shuffle_active_view_count;
  shuffle_passive_view_count = default.shuffle_passive_view_count;
  shuffle_interval = default.shuffle_interval;
  neighbor_request_timeout = default.neighbor_request_timeout;
}

-- "Take self 1, .. no data"
unfoldable pub first : Station
first = (new 1 none tiny).state

-- "all draws 0": as many draws and bytes of output as always suffice
unfoldable pub draws : List ℕ
draws = replicate 512 0

unfoldable pub output : List ℕ
output = replicate 8192 0

-- the state after a history, of the definition or of the program: each event is one `handle`
unfoldable pub after_history : {G S : Type 0} → Machine G S → History → S → S
after_history m [] s = s
after_history m (e ∷ h) s = after_history m h (m.state wired e draws output s)
