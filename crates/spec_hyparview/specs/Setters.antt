-- The station with one field changed, for each field but `me` and `config`, which stay as `new` was given them. Written by tools/make/layout.py.
-- Assumes nothing.
use Rattle.std.specs.Prelude.{ℕ, Bool, List}
use Rattle.base_peer.specs.Data.{Data}
use Rattle.spec_hyparview.specs.Station.{Refill, Station}

abbrev pub set_own_data : Data → Station → Station
set_own_data v s = record {
  me = s.me;
  own_data = v;
  active = s.active;
  passive = s.passive;
  config = s.config;
  scheduled = s.scheduled;
  next_interval = s.next_interval;
  bootstrap = s.bootstrap;
  passes_alone = s.passes_alone;
  passes_short = s.passes_short;
  recent = s.recent;
  requests = s.requests;
  next_request = s.next_request;
  joins = s.joins;
  next_join = s.next_join;
  peer_data = s.peer_data;
  alive = s.alive;
  refused = s.refused;
  refill = s.refill;
  pins = s.pins;
}

abbrev pub set_active : List ℕ → Station → Station
set_active v s = record {
  me = s.me;
  own_data = s.own_data;
  active = v;
  passive = s.passive;
  config = s.config;
  scheduled = s.scheduled;
  next_interval = s.next_interval;
  bootstrap = s.bootstrap;
  passes_alone = s.passes_alone;
  passes_short = s.passes_short;
  recent = s.recent;
  requests = s.requests;
  next_request = s.next_request;
  joins = s.joins;
  next_join = s.next_join;
  peer_data = s.peer_data;
  alive = s.alive;
  refused = s.refused;
  refill = s.refill;
  pins = s.pins;
}

abbrev pub set_passive : List ℕ → Station → Station
set_passive v s = record {
  me = s.me;
  own_data = s.own_data;
  active = s.active;
  passive = v;
  config = s.config;
  scheduled = s.scheduled;
  next_interval = s.next_interval;
  bootstrap = s.bootstrap;
  passes_alone = s.passes_alone;
  passes_short = s.passes_short;
  recent = s.recent;
  requests = s.requests;
  next_request = s.next_request;
  joins = s.joins;
  next_join = s.next_join;
  peer_data = s.peer_data;
  alive = s.alive;
  refused = s.refused;
  refill = s.refill;
  pins = s.pins;
}

abbrev pub set_scheduled : Bool → Station → Station
set_scheduled v s = record {
  me = s.me;
  own_data = s.own_data;
  active = s.active;
  passive = s.passive;
  config = s.config;
  scheduled = v;
  next_interval = s.next_interval;
  bootstrap = s.bootstrap;
  passes_alone = s.passes_alone;
  passes_short = s.passes_short;
  recent = s.recent;
  requests = s.requests;
  next_request = s.next_request;
  joins = s.joins;
  next_join = s.next_join;
  peer_data = s.peer_data;
  alive = s.alive;
  refused = s.refused;
  refill = s.refill;
  pins = s.pins;
}

abbrev pub set_next_interval : ℕ → Station → Station
set_next_interval v s = record {
  me = s.me;
  own_data = s.own_data;
  active = s.active;
  passive = s.passive;
  config = s.config;
  scheduled = s.scheduled;
  next_interval = v;
  bootstrap = s.bootstrap;
  passes_alone = s.passes_alone;
  passes_short = s.passes_short;
  recent = s.recent;
  requests = s.requests;
  next_request = s.next_request;
  joins = s.joins;
  next_join = s.next_join;
  peer_data = s.peer_data;
  alive = s.alive;
  refused = s.refused;
  refill = s.refill;
  pins = s.pins;
}

abbrev pub set_bootstrap : List ℕ → Station → Station
set_bootstrap v s = record {
  me = s.me;
  own_data = s.own_data;
  active = s.active;
  passive = s.passive;
  config = s.config;
  scheduled = s.scheduled;
  next_interval = s.next_interval;
  bootstrap = v;
  passes_alone = s.passes_alone;
  passes_short = s.passes_short;
  recent = s.recent;
  requests = s.requests;
  next_request = s.next_request;
  joins = s.joins;
  next_join = s.next_join;
  peer_data = s.peer_data;
  alive = s.alive;
  refused = s.refused;
  refill = s.refill;
  pins = s.pins;
}

abbrev pub set_passes_alone : ℕ → Station → Station
set_passes_alone v s = record {
  me = s.me;
  own_data = s.own_data;
  active = s.active;
  passive = s.passive;
  config = s.config;
  scheduled = s.scheduled;
  next_interval = s.next_interval;
  bootstrap = s.bootstrap;
  passes_alone = v;
  passes_short = s.passes_short;
  recent = s.recent;
  requests = s.requests;
  next_request = s.next_request;
  joins = s.joins;
  next_join = s.next_join;
  peer_data = s.peer_data;
  alive = s.alive;
  refused = s.refused;
  refill = s.refill;
  pins = s.pins;
}

abbrev pub set_passes_short : ℕ → Station → Station
set_passes_short v s = record {
  me = s.me;
  own_data = s.own_data;
  active = s.active;
  passive = s.passive;
  config = s.config;
  scheduled = s.scheduled;
  next_interval = s.next_interval;
  bootstrap = s.bootstrap;
  passes_alone = s.passes_alone;
  passes_short = v;
  recent = s.recent;
  requests = s.requests;
  next_request = s.next_request;
  joins = s.joins;
  next_join = s.next_join;
  peer_data = s.peer_data;
  alive = s.alive;
  refused = s.refused;
  refill = s.refill;
  pins = s.pins;
}

abbrev pub set_recent : List ℕ → Station → Station
set_recent v s = record {
  me = s.me;
  own_data = s.own_data;
  active = s.active;
  passive = s.passive;
  config = s.config;
  scheduled = s.scheduled;
  next_interval = s.next_interval;
  bootstrap = s.bootstrap;
  passes_alone = s.passes_alone;
  passes_short = s.passes_short;
  recent = v;
  requests = s.requests;
  next_request = s.next_request;
  joins = s.joins;
  next_join = s.next_join;
  peer_data = s.peer_data;
  alive = s.alive;
  refused = s.refused;
  refill = s.refill;
  pins = s.pins;
}

abbrev pub set_requests : List (ℕ × ℕ) → Station → Station
set_requests v s = record {
  me = s.me;
  own_data = s.own_data;
  active = s.active;
  passive = s.passive;
  config = s.config;
  scheduled = s.scheduled;
  next_interval = s.next_interval;
  bootstrap = s.bootstrap;
  passes_alone = s.passes_alone;
  passes_short = s.passes_short;
  recent = s.recent;
  requests = v;
  next_request = s.next_request;
  joins = s.joins;
  next_join = s.next_join;
  peer_data = s.peer_data;
  alive = s.alive;
  refused = s.refused;
  refill = s.refill;
  pins = s.pins;
}

abbrev pub set_next_request : ℕ → Station → Station
set_next_request v s = record {
  me = s.me;
  own_data = s.own_data;
  active = s.active;
  passive = s.passive;
  config = s.config;
  scheduled = s.scheduled;
  next_interval = s.next_interval;
  bootstrap = s.bootstrap;
  passes_alone = s.passes_alone;
  passes_short = s.passes_short;
  recent = s.recent;
  requests = s.requests;
  next_request = v;
  joins = s.joins;
  next_join = s.next_join;
  peer_data = s.peer_data;
  alive = s.alive;
  refused = s.refused;
  refill = s.refill;
  pins = s.pins;
}

abbrev pub set_joins : List (ℕ × ℕ) → Station → Station
set_joins v s = record {
  me = s.me;
  own_data = s.own_data;
  active = s.active;
  passive = s.passive;
  config = s.config;
  scheduled = s.scheduled;
  next_interval = s.next_interval;
  bootstrap = s.bootstrap;
  passes_alone = s.passes_alone;
  passes_short = s.passes_short;
  recent = s.recent;
  requests = s.requests;
  next_request = s.next_request;
  joins = v;
  next_join = s.next_join;
  peer_data = s.peer_data;
  alive = s.alive;
  refused = s.refused;
  refill = s.refill;
  pins = s.pins;
}

abbrev pub set_next_join : ℕ → Station → Station
set_next_join v s = record {
  me = s.me;
  own_data = s.own_data;
  active = s.active;
  passive = s.passive;
  config = s.config;
  scheduled = s.scheduled;
  next_interval = s.next_interval;
  bootstrap = s.bootstrap;
  passes_alone = s.passes_alone;
  passes_short = s.passes_short;
  recent = s.recent;
  requests = s.requests;
  next_request = s.next_request;
  joins = s.joins;
  next_join = v;
  peer_data = s.peer_data;
  alive = s.alive;
  refused = s.refused;
  refill = s.refill;
  pins = s.pins;
}

abbrev pub set_peer_data : List (ℕ × List ℕ) → Station → Station
set_peer_data v s = record {
  me = s.me;
  own_data = s.own_data;
  active = s.active;
  passive = s.passive;
  config = s.config;
  scheduled = s.scheduled;
  next_interval = s.next_interval;
  bootstrap = s.bootstrap;
  passes_alone = s.passes_alone;
  passes_short = s.passes_short;
  recent = s.recent;
  requests = s.requests;
  next_request = s.next_request;
  joins = s.joins;
  next_join = s.next_join;
  peer_data = v;
  alive = s.alive;
  refused = s.refused;
  refill = s.refill;
  pins = s.pins;
}

abbrev pub set_alive : List ℕ → Station → Station
set_alive v s = record {
  me = s.me;
  own_data = s.own_data;
  active = s.active;
  passive = s.passive;
  config = s.config;
  scheduled = s.scheduled;
  next_interval = s.next_interval;
  bootstrap = s.bootstrap;
  passes_alone = s.passes_alone;
  passes_short = s.passes_short;
  recent = s.recent;
  requests = s.requests;
  next_request = s.next_request;
  joins = s.joins;
  next_join = s.next_join;
  peer_data = s.peer_data;
  alive = v;
  refused = s.refused;
  refill = s.refill;
  pins = s.pins;
}

abbrev pub set_refused : List ℕ → Station → Station
set_refused v s = record {
  me = s.me;
  own_data = s.own_data;
  active = s.active;
  passive = s.passive;
  config = s.config;
  scheduled = s.scheduled;
  next_interval = s.next_interval;
  bootstrap = s.bootstrap;
  passes_alone = s.passes_alone;
  passes_short = s.passes_short;
  recent = s.recent;
  requests = s.requests;
  next_request = s.next_request;
  joins = s.joins;
  next_join = s.next_join;
  peer_data = s.peer_data;
  alive = s.alive;
  refused = v;
  refill = s.refill;
  pins = s.pins;
}

abbrev pub set_refill : Refill → Station → Station
set_refill v s = record {
  me = s.me;
  own_data = s.own_data;
  active = s.active;
  passive = s.passive;
  config = s.config;
  scheduled = s.scheduled;
  next_interval = s.next_interval;
  bootstrap = s.bootstrap;
  passes_alone = s.passes_alone;
  passes_short = s.passes_short;
  recent = s.recent;
  requests = s.requests;
  next_request = s.next_request;
  joins = s.joins;
  next_join = s.next_join;
  peer_data = s.peer_data;
  alive = s.alive;
  refused = s.refused;
  refill = v;
  pins = s.pins;
}

abbrev pub set_pins : List ℕ → Station → Station
set_pins v s = record {
  me = s.me;
  own_data = s.own_data;
  active = s.active;
  passive = s.passive;
  config = s.config;
  scheduled = s.scheduled;
  next_interval = s.next_interval;
  bootstrap = s.bootstrap;
  passes_alone = s.passes_alone;
  passes_short = s.passes_short;
  recent = s.recent;
  requests = s.requests;
  next_request = s.next_request;
  joins = s.joins;
  next_join = s.next_join;
  peer_data = s.peer_data;
  alive = s.alive;
  refused = s.refused;
  refill = s.refill;
  pins = v;
}
