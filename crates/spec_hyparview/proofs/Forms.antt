-- Each record that a step writes is in form, where its peers, data and numbers keep to their widths.
-- Assumes nothing.
use mathlib.Core.Path.{◌≡◌, refl}
use mathlib.Core.Bool.{Bool, true}
use mathlib.Core.List.{List, [], ◌∷◌}
use Prim.Native.Nat.{ℕ, ◌≤◌, ◌<◌}
use native.Mathlib.Omega.{arith}
use lib.ListN.{length}
use borrow.Author.Tests.{le-leb}
use Rattle.record.specs.Kinds.{DoMaintenance, DoShuffle, PendingNeighborRequest, RetryJoin, NeighborUp, NeighborDown, Evicted, output_byte, kind_byte}
use Rattle.base_lists.specs.Lists.{choose}
use Rattle.base_lists.specs.Tests.{All}
use Rattle.base_lists.proofs.Choice.{by_choice}
use Rattle.base_peer.specs.Data.{Data, Node, bytes_of}
use Rattle.record.specs.declared.Header.{Header}
use Rattle.record.specs.Format.{present}
use Rattle.record.specs.Read as Rd
use Rattle.record.specs.InForm.{InForm, NodesInForm, NodesInFormBy, header_in_by}
use Rattle.spec_hyparview.specs.Station.{top_counter, peers_end}
use Rattle.spec_hyparview.specs.Run as R
use Rattle.spec_hyparview.proofs.Narrow.{Peer, HeldData, Named}

-- nodes of a record whose kind asks no more of them
nodes_form : (h : Header) → ((id : ℕ) → Rd.id_ok h id ≡ true) → ((p : ℕ) → Rd.present_ok h p ≡ true) → (ns : List Node) → All Named ns → NodesInForm h ns
unfolding NodesInFormBy All
nodes_form h f g [] a = tt
nodes_form h f g (n ∷ ns) a =
    (record { id = a.0.id; few = a.0.held.few; bytes = a.0.held.bytes; unnamed = f n.id; there = g (present n.data_of) }, nodes_form h f g ns a.1)

flag_low : (b : Bool) → R.flag b ≤ 1
unfolding R.flag
flag_low b = by_choice (λ (n : ℕ). n ≤ 1) b (λ e. omega arith) (λ e. omega arith)

-- messages: Join, ForwardJoin, Shuffle, ShuffleReply, Neighbor, Disconnect
pub form_join : (d : Data) {p : ℕ} → HeldData (bytes_of d) → Peer p → InForm (R.message 0 p 0 0 0 (R.node 0 d ∷ []))
unfolding header_in_by Rd.header_ok Rd.kind_ok Rd.flags_ok Rd.count_ok Rd.peer_ok Rd.fields_ok Rd.fixed_size Rd.is_message Rd.is_timer Rd.is_data choose NodesInFormBy
form_join d f l = record {
  header = refl;
  peer = l;
  second = omega arith;
  ttl = omega arith;
  number = omega arith;
  nodes = (record { id = omega arith; few = f.few; bytes = f.bytes; unnamed = refl; there = refl }, tt);
}

pub form_forward : (n : Node) {t p : ℕ} → Named n → t < 65536 → Peer p → InForm (R.message 1 p 0 0 t (n ∷ []))
unfolding header_in_by Rd.header_ok Rd.kind_ok Rd.flags_ok Rd.count_ok Rd.peer_ok Rd.fields_ok Rd.fixed_size Rd.is_message Rd.is_timer Rd.is_data choose NodesInFormBy
form_forward n f t l = record {
  header = refl;
  peer = l;
  second = omega arith;
  ttl = t;
  number = omega arith;
  nodes = (record { id = f.id; few = f.held.few; bytes = f.held.bytes; unnamed = refl; there = refl }, tt);
}

pub form_shuffle : {p o t : ℕ} (ns : List Node) → Peer p → Peer o → t < 65536 → length ns ≤ 32 → All Named ns → InForm (R.message 2 p 0 o t ns)
unfolding header_in_by Rd.header_ok Rd.kind_ok Rd.flags_ok Rd.count_ok Rd.peer_ok Rd.fields_ok Rd.fixed_size Rd.is_message Rd.is_timer Rd.is_data choose
form_shuffle ns l o t n f = record {
  header = rw (le-leb (length ns) 32 n);
  peer = l;
  second = o;
  ttl = t;
  number = omega arith;
  nodes = nodes_form _ (λ i. refl) (λ i. refl) ns f;
}

pub form_reply : {p : ℕ} (ns : List Node) → Peer p → length ns ≤ 32 → All Named ns → InForm (R.message 3 p 0 0 0 ns)
unfolding header_in_by Rd.header_ok Rd.kind_ok Rd.flags_ok Rd.count_ok Rd.peer_ok Rd.fields_ok Rd.fixed_size Rd.is_message Rd.is_timer Rd.is_data choose
form_reply ns l n f = record {
  header = rw (le-leb (length ns) 32 n);
  peer = l;
  second = omega arith;
  ttl = omega arith;
  number = omega arith;
  nodes = nodes_form _ (λ i. refl) (λ i. refl) ns f;
}

pub form_neighbor : (d : Data) (high : Bool) {p : ℕ} → HeldData (bytes_of d) → Peer p → InForm (R.message 4 p (R.flag high) 0 0 (R.node 0 d ∷ []))
unfolding header_in_by Rd.header_ok Rd.kind_ok Rd.flags_ok Rd.count_ok Rd.peer_ok Rd.fields_ok Rd.fixed_size Rd.is_message Rd.is_timer Rd.is_data choose NodesInFormBy
form_neighbor d high f l = record {
  header = rw (le-leb (R.flag high) 1 (flag_low high));
  peer = l;
  second = omega arith;
  ttl = omega arith;
  number = omega arith;
  nodes = (record { id = omega arith; few = f.few; bytes = f.bytes; unnamed = refl; there = refl }, tt);
}

pub form_disconnect : (alive : Bool) {p : ℕ} → Peer p → InForm (R.message 5 p (R.flag alive) 0 0 [])
unfolding header_in_by Rd.header_ok Rd.kind_ok Rd.flags_ok Rd.count_ok Rd.peer_ok Rd.fields_ok Rd.fixed_size Rd.is_message Rd.is_timer Rd.is_data choose NodesInFormBy
form_disconnect b l = record {
  header = rw (le-leb (R.flag b) 3 (let n : R.flag b ≤ 1 = flag_low b in omega arith));
  peer = l;
  second = omega arith;
  ttl = omega arith;
  number = omega arith;
  nodes = tt;
}

-- timers: DoShuffle, DoMaintenance, PendingNeighborRequest, RetryJoin
pub form_shuffle_timer : {t : ℕ} → t < peers_end → InForm (R.timer (kind_byte DoShuffle) 0 t 0)
unfolding header_in_by Rd.header_ok Rd.kind_ok Rd.flags_ok Rd.count_ok Rd.peer_ok Rd.fields_ok Rd.fixed_size Rd.is_message Rd.is_timer Rd.is_data choose NodesInFormBy
form_shuffle_timer t = record { header = refl; peer = omega arith; second = t; ttl = omega arith; number = omega arith; nodes = tt }

pub form_maintenance_timer : {t : ℕ} → t < peers_end → InForm (R.timer (kind_byte DoMaintenance) 0 t 0)
unfolding header_in_by Rd.header_ok Rd.kind_ok Rd.flags_ok Rd.count_ok Rd.peer_ok Rd.fields_ok Rd.fixed_size Rd.is_message Rd.is_timer Rd.is_data choose NodesInFormBy
form_maintenance_timer t = record { header = refl; peer = omega arith; second = t; ttl = omega arith; number = omega arith; nodes = tt }

pub form_request_timer : {p t n : ℕ} → Peer p → t < peers_end → n ≤ top_counter → InForm (R.timer (kind_byte PendingNeighborRequest) p t n)
unfolding header_in_by Rd.header_ok Rd.kind_ok Rd.flags_ok Rd.count_ok Rd.peer_ok Rd.fields_ok Rd.fixed_size Rd.is_message Rd.is_timer Rd.is_data choose NodesInFormBy
form_request_timer p t n = record { header = refl; peer = p; second = t; ttl = omega arith; number = omega arith; nodes = tt }

pub form_retry_timer : {p t n : ℕ} → Peer p → t < peers_end → n ≤ top_counter → InForm (R.timer (kind_byte RetryJoin) p t n)
unfolding header_in_by Rd.header_ok Rd.kind_ok Rd.flags_ok Rd.count_ok Rd.peer_ok Rd.fields_ok Rd.fixed_size Rd.is_message Rd.is_timer Rd.is_data choose NodesInFormBy
form_retry_timer p t n = record { header = refl; peer = p; second = t; ttl = omega arith; number = omega arith; nodes = tt }

-- notices
pub form_up : {p : ℕ} → Peer p → InForm (R.notice (output_byte NeighborUp) p)
unfolding header_in_by Rd.header_ok Rd.kind_ok Rd.flags_ok Rd.count_ok Rd.peer_ok Rd.fields_ok Rd.fixed_size Rd.is_message Rd.is_timer Rd.is_data choose NodesInFormBy
form_up p = record { header = refl; peer = p; second = omega arith; ttl = omega arith; number = omega arith; nodes = tt }

pub form_down : {p : ℕ} → Peer p → InForm (R.notice (output_byte NeighborDown) p)
unfolding header_in_by Rd.header_ok Rd.kind_ok Rd.flags_ok Rd.count_ok Rd.peer_ok Rd.fields_ok Rd.fixed_size Rd.is_message Rd.is_timer Rd.is_data choose NodesInFormBy
form_down p = record { header = refl; peer = p; second = omega arith; ttl = omega arith; number = omega arith; nodes = tt }

-- whom the passive view evicted
pub form_evicted : {p : ℕ} → Peer p → InForm (R.notice (output_byte Evicted) p)
unfolding header_in_by Rd.header_ok Rd.kind_ok Rd.flags_ok Rd.count_ok Rd.peer_ok Rd.fields_ok Rd.fixed_size Rd.is_message Rd.is_timer Rd.is_data choose NodesInFormBy
form_evicted p = record { header = refl; peer = p; second = omega arith; ttl = omega arith; number = omega arith; nodes = tt }

pub form_data : {p : ℕ} (b : List ℕ) → Peer p → HeldData b → InForm (R.data_notice p b)
unfolding header_in_by Rd.header_ok Rd.kind_ok Rd.flags_ok Rd.count_ok Rd.peer_ok Rd.fields_ok Rd.fixed_size Rd.is_message Rd.is_timer Rd.is_data choose NodesInFormBy bytes_of present
form_data b p f = record {
  header = refl;
  peer = p;
  second = omega arith;
  ttl = omega arith;
  number = omega arith;
  nodes = (record { id = omega arith; few = f.few; bytes = f.bytes; unnamed = refl; there = refl }, tt);
}
