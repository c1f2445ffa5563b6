-- A station of which every number keeps to its width, and what a change of a part leaves of that.
-- Assumes nothing.
use mathlib.Core.List.{List, [], ◌∷◌}
use Prim.Native.Nat.{ℕ, ◌≤◌, ◌<◌}
use native.Mathlib.Omega.{arith}
use lib.ListN.{length, get_or, set}
use lib.Dec.{eqb}
use Rattle.base_lists.specs.Maps.{lookup, Each}
use Rattle.base_lists.specs.Tests.{All}
use Rattle.base_lists.proofs.Choice.{by_choice}
use Rattle.base_lists.proofs.Entries.{all_set}
use Rattle.base_timing.specs.declared.Config.{Config}
use Rattle.base_peer.specs.Data.{Data, Node, bytes_of}
use Rattle.record.specs.declared.Header.{Header}
use Rattle.record.specs.InForm.{NodesInForm, NodesInFormBy}
use Rattle.spec_hyparview.specs.Station.{Station, top_counter, peers_end, bytes_end}
use Rattle.spec_hyparview.specs.Run as R
use Rattle.spec_hyparview.specs.Rules.{peer_lists}
use Rattle.spec_hyparview.proofs.Among.{all_get}
use Rattle.spec_hyparview.proofs.Invariant.{Ranges}

abbrev pub Peer : ℕ → Type 0
Peer p = p < peers_end

abbrev pub Peers : List ℕ → Type 0
Peers ps = All Peer ps

pub no_peer : Peer 0
no_peer = omega arith

pub no_peers : Peers []
unfolding All
no_peers = tt

-- data of at most 16 bytes
pub record HeldData (b : List ℕ) : Type 0 where
  pub few : length b ≤ 16
  pub bytes : (k : ℕ) → get_or b k 0 < bytes_end

pub record Named (n : Node) : Type 0 where
  pub id : Peer n.id
  pub held : HeldData (bytes_of n.data_of)

-- over the parts that it speaks of, so that a change of another part leaves it as it is
pub record Widths (c : Config) (peers : List (List ℕ)) (own : List ℕ) (m : List (ℕ × List ℕ)) (interval next_request next_join : ℕ) : Type 0 where
  pub settings : Ranges c
  pub named : All Peers peers
  pub mine : HeldData own
  pub held : Each HeldData m
  pub pace : interval ≤ c.shuffle_interval
  pub requests_top : next_request ≤ top_counter
  pub joins_top : next_join ≤ top_counter

abbrev pub Narrow : Station → Type 0
Narrow s = Widths s.config (peer_lists s) (bytes_of s.own_data) s.peer_data s.next_interval s.next_request s.next_join

-- places in `peer_lists`
abbrev pub me : ℕ
me = 0

abbrev pub active : ℕ
active = 1

abbrev pub passive : ℕ
passive = 2

abbrev pub bootstrap : ℕ
bootstrap = 3

abbrev pub recent : ℕ
recent = 4

abbrev pub requests : ℕ
requests = 5

abbrev pub joins : ℕ
joins = 6

abbrev pub peer_data : ℕ
peer_data = 7

abbrev pub alive : ℕ
alive = 8

abbrev pub refused : ℕ
refused = 9

abbrev pub pins : ℕ
pins = 10

module _ {c : Config} {ls : List (List ℕ)} {own : List ℕ} {m : List (ℕ × List ℕ)} {int nr nj : ℕ} (h : Widths c ls own m int nr nj) where
  -- the list at a place
  pub at : (i : ℕ) → Peers (get_or ls i [])
  at i = all_get Peers ls i [] no_peers h.named

  -- one part changed
  pub change : (i : ℕ) (v : List ℕ) → Peers v → Widths c (set ls i v) own m int nr nj
  change i v p = record { settings = h.settings; named = all_set Peers ls i v p h.named; mine = h.mine; held = h.held; pace = h.pace; requests_top = h.requests_top; joins_top = h.joins_top }

  pub change_own : {v : List ℕ} → HeldData v → Widths c ls v m int nr nj
  change_own p = record { settings = h.settings; named = h.named; mine = p; held = h.held; pace = h.pace; requests_top = h.requests_top; joins_top = h.joins_top }

  pub change_held : {v : List (ℕ × List ℕ)} → Each HeldData v → Widths c ls own v int nr nj
  change_held p = record { settings = h.settings; named = h.named; mine = h.mine; held = p; pace = h.pace; requests_top = h.requests_top; joins_top = h.joins_top }

  pub change_pace : {v : ℕ} → v ≤ c.shuffle_interval → Widths c ls own m v nr nj
  change_pace p = record { settings = h.settings; named = h.named; mine = h.mine; held = h.held; pace = p; requests_top = h.requests_top; joins_top = h.joins_top }

  pub change_next_request : {v : ℕ} → v ≤ top_counter → Widths c ls own m int v nj
  change_next_request p = record { settings = h.settings; named = h.named; mine = h.mine; held = h.held; pace = h.pace; requests_top = p; joins_top = h.joins_top }

  pub change_next_join : {v : ℕ} → v ≤ top_counter → Widths c ls own m int nr v
  change_next_join p = record { settings = h.settings; named = h.named; mine = h.mine; held = h.held; pace = h.pace; requests_top = h.requests_top; joins_top = p }

-- data
pub no_data : HeldData []
no_data = record { few = omega arith; bytes = λ k. omega arith }

pub held_lookup : (p : ℕ) (m : List (ℕ × List ℕ)) → Each HeldData m → HeldData (bytes_of (lookup p m))
unfolding Each lookup bytes_of
held_lookup p [] h = no_data
held_lookup p (e ∷ m) h = by_choice (λ (d : Data). HeldData (bytes_of d)) (eqb p e.0) (λ t. h.0) (λ t. held_lookup p m h.1)

pub named_infos : (s : Station) (ps : List ℕ) → Each HeldData s.peer_data → Peers ps → All Named (R.peer_infos s ps)
unfolding R.peer_infos R.peer_info All
named_infos s [] h a = tt
named_infos s (p ∷ ps) h a = (record { id = a.0; held = held_lookup p s.peer_data h }, named_infos s ps h a.1)

-- the nodes of a record in form
pub form_nodes : (h : Header) (ns : List Node) → NodesInForm h ns → All Named ns
unfolding NodesInFormBy All
form_nodes h [] a = tt
form_nodes h (n ∷ ns) a = (record { id = a.0.id; held = record { few = a.0.few; bytes = a.0.bytes } }, form_nodes h ns a.1)
