-- The station rules but those on views and joins: each change of a part of the station keeps what they say of it.
-- Assumes nothing.
use mathlib.Core.List.{List, [], ◌∷◌}
use Prim.Native.Nat.{ℕ}
use Rattle.base_peer.specs.Data.{Data, Node}
use Rattle.spec_hyparview.specs.Station.{Refill}
unfoldable pub use Rattle.spec_hyparview.specs.Invariant.{Short, Small}
pub use Rattle.spec_hyparview.specs.Invariant.{InOrder, Numbered, Requests, HeldData, Refused, Recent, Pace, Passes, Pinned, Law, Lawful}

-- one part changed, by tools/make/layout.py
module _ {me top : ℕ} {own : Data} {req : List (ℕ × ℕ)} {nreq : ℕ} {joi : List (ℕ × ℕ)} {njoi : ℕ} {dat : List (ℕ × List ℕ)} {ali ref : List ℕ} {fill : Refill} {rec : List ℕ} {int alone short cap : ℕ} {act pin : List ℕ}
    (h : Law me top own req nreq joi njoi dat ali ref fill rec int alone short cap act pin) where
  pub law_requests : {v : List (ℕ × ℕ)} {n : ℕ} → Requests v n → Law me top own v n joi njoi dat ali ref fill rec int alone short cap act pin
  law_requests x = record {
    requests_ok = x;
    joins_ok = h.joins_ok;
    held_ok = h.held_ok;
    own_ok = h.own_ok;
    alive_ok = h.alive_ok;
    refused_ok = h.refused_ok;
    fill_ok = h.fill_ok;
    recent_ok = h.recent_ok;
    pace_ok = h.pace_ok;
    alone_ok = h.alone_ok;
    short_ok = h.short_ok;
    pins_ok = h.pins_ok;
  }

  pub law_joins : {v : List (ℕ × ℕ)} {n : ℕ} → Numbered v n → Law me top own req nreq v n dat ali ref fill rec int alone short cap act pin
  law_joins x = record {
    requests_ok = h.requests_ok;
    joins_ok = x;
    held_ok = h.held_ok;
    own_ok = h.own_ok;
    alive_ok = h.alive_ok;
    refused_ok = h.refused_ok;
    fill_ok = h.fill_ok;
    recent_ok = h.recent_ok;
    pace_ok = h.pace_ok;
    alone_ok = h.alone_ok;
    short_ok = h.short_ok;
    pins_ok = h.pins_ok;
  }

  pub law_held : {v : List (ℕ × List ℕ)} → HeldData me v → Law me top own req nreq joi njoi v ali ref fill rec int alone short cap act pin
  law_held x = record {
    requests_ok = h.requests_ok;
    joins_ok = h.joins_ok;
    held_ok = x;
    own_ok = h.own_ok;
    alive_ok = h.alive_ok;
    refused_ok = h.refused_ok;
    fill_ok = h.fill_ok;
    recent_ok = h.recent_ok;
    pace_ok = h.pace_ok;
    alone_ok = h.alone_ok;
    short_ok = h.short_ok;
    pins_ok = h.pins_ok;
  }

  pub law_own : {v : Data} → Short v → Law me top v req nreq joi njoi dat ali ref fill rec int alone short cap act pin
  law_own x = record {
    requests_ok = h.requests_ok;
    joins_ok = h.joins_ok;
    held_ok = h.held_ok;
    own_ok = x;
    alive_ok = h.alive_ok;
    refused_ok = h.refused_ok;
    fill_ok = h.fill_ok;
    recent_ok = h.recent_ok;
    pace_ok = h.pace_ok;
    alone_ok = h.alone_ok;
    short_ok = h.short_ok;
    pins_ok = h.pins_ok;
  }

  pub law_alive : {v : List ℕ} → InOrder v → Law me top own req nreq joi njoi dat v ref fill rec int alone short cap act pin
  law_alive x = record {
    requests_ok = h.requests_ok;
    joins_ok = h.joins_ok;
    held_ok = h.held_ok;
    own_ok = h.own_ok;
    alive_ok = x;
    refused_ok = h.refused_ok;
    fill_ok = h.fill_ok;
    recent_ok = h.recent_ok;
    pace_ok = h.pace_ok;
    alone_ok = h.alone_ok;
    short_ok = h.short_ok;
    pins_ok = h.pins_ok;
  }

  pub law_refused : {v : List ℕ} → Refused v → Law me top own req nreq joi njoi dat ali v fill rec int alone short cap act pin
  law_refused x = record {
    requests_ok = h.requests_ok;
    joins_ok = h.joins_ok;
    held_ok = h.held_ok;
    own_ok = h.own_ok;
    alive_ok = h.alive_ok;
    refused_ok = x;
    fill_ok = h.fill_ok;
    recent_ok = h.recent_ok;
    pace_ok = h.pace_ok;
    alone_ok = h.alone_ok;
    short_ok = h.short_ok;
    pins_ok = h.pins_ok;
  }

  pub law_fill : {v : Refill} → Small v → Law me top own req nreq joi njoi dat ali ref v rec int alone short cap act pin
  law_fill x = record {
    requests_ok = h.requests_ok;
    joins_ok = h.joins_ok;
    held_ok = h.held_ok;
    own_ok = h.own_ok;
    alive_ok = h.alive_ok;
    refused_ok = h.refused_ok;
    fill_ok = x;
    recent_ok = h.recent_ok;
    pace_ok = h.pace_ok;
    alone_ok = h.alone_ok;
    short_ok = h.short_ok;
    pins_ok = h.pins_ok;
  }

  pub law_recent : {v : List ℕ} → Recent v → Law me top own req nreq joi njoi dat ali ref fill v int alone short cap act pin
  law_recent x = record {
    requests_ok = h.requests_ok;
    joins_ok = h.joins_ok;
    held_ok = h.held_ok;
    own_ok = h.own_ok;
    alive_ok = h.alive_ok;
    refused_ok = h.refused_ok;
    fill_ok = h.fill_ok;
    recent_ok = x;
    pace_ok = h.pace_ok;
    alone_ok = h.alone_ok;
    short_ok = h.short_ok;
    pins_ok = h.pins_ok;
  }

  pub law_pace : {v : ℕ} → Pace top v → Law me top own req nreq joi njoi dat ali ref fill rec v alone short cap act pin
  law_pace x = record {
    requests_ok = h.requests_ok;
    joins_ok = h.joins_ok;
    held_ok = h.held_ok;
    own_ok = h.own_ok;
    alive_ok = h.alive_ok;
    refused_ok = h.refused_ok;
    fill_ok = h.fill_ok;
    recent_ok = h.recent_ok;
    pace_ok = x;
    alone_ok = h.alone_ok;
    short_ok = h.short_ok;
    pins_ok = h.pins_ok;
  }

  pub law_alone : {v : ℕ} → Passes v → Law me top own req nreq joi njoi dat ali ref fill rec int v short cap act pin
  law_alone x = record {
    requests_ok = h.requests_ok;
    joins_ok = h.joins_ok;
    held_ok = h.held_ok;
    own_ok = h.own_ok;
    alive_ok = h.alive_ok;
    refused_ok = h.refused_ok;
    fill_ok = h.fill_ok;
    recent_ok = h.recent_ok;
    pace_ok = h.pace_ok;
    alone_ok = x;
    short_ok = h.short_ok;
    pins_ok = h.pins_ok;
  }

  pub law_short : {v : ℕ} → Passes v → Law me top own req nreq joi njoi dat ali ref fill rec int alone v cap act pin
  law_short x = record {
    requests_ok = h.requests_ok;
    joins_ok = h.joins_ok;
    held_ok = h.held_ok;
    own_ok = h.own_ok;
    alive_ok = h.alive_ok;
    refused_ok = h.refused_ok;
    fill_ok = h.fill_ok;
    recent_ok = h.recent_ok;
    pace_ok = h.pace_ok;
    alone_ok = h.alone_ok;
    short_ok = x;
    pins_ok = h.pins_ok;
  }

  pub law_pins : {v : List ℕ} {n : List ℕ} → Pinned cap v n → Law me top own req nreq joi njoi dat ali ref fill rec int alone short cap v n
  law_pins x = record {
    requests_ok = h.requests_ok;
    joins_ok = h.joins_ok;
    held_ok = h.held_ok;
    own_ok = h.own_ok;
    alive_ok = h.alive_ok;
    refused_ok = h.refused_ok;
    fill_ok = h.fill_ok;
    recent_ok = h.recent_ok;
    pace_ok = h.pace_ok;
    alone_ok = h.alone_ok;
    short_ok = h.short_ok;
    pins_ok = x;
  }

-- end

-- a message's nodes
unfoldable pub ShortNodes : List Node → Type 0
ShortNodes [] = Unit {0}
ShortNodes (n ∷ ns) = Short n.data_of × ShortNodes ns
