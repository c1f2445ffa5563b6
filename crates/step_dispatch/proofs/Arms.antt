-- Which step an event is: the header that the code looks at is that of the record that the definition looks at.
-- Assumes nothing.
use Prim.Native.Nat.{ℕ, zero, suc, ◌+◌, ◌%◌, ◌≤◌, ◌<◌}
use mathlib.Core.Path.{◌≡◌, refl, sym, ap, ◌∙◌}
use mathlib.Core.Bool.{Bool, true, false, not, ◌||◌}
use mathlib.Core.List.{List}
use mathlib.Core.Option.{Option}
use native.Mathlib.Omega.{arith}
use native.Mathlib.Nat.{not-suc-le-zero}
use lib.ListN.{length}
use lib.Dec.{eqb, leb}
use borrow.Author.Tests.{eq-eqb, ne_eqb, eqb-true, eqb-false, leb-true}
use Rattle.base_lists.specs.Lists.{choose}
use Rattle.base_lists.proofs.Choice.{choose_yes, choose_no, split, and_left, and_right}
use Rattle.base_peer.specs.declared.PeerInfo.{PeerInfo}
use Rattle.base_peer.specs.Data.{Node}
use Rattle.base_peer.specs.Held.{data_in, node_in}
use Rattle.record.specs.Kinds.{EventKind, Message, DoShuffle, DoMaintenance, PendingNeighborRequest, RetryJoin, PeerDisconnected, RequestJoin, UpdatePeerData, Quit, Pin, kind_byte}
use Rattle.record.proofs.ByKind.{by_kind}
use Rattle.record.specs.declared.Header.{Header}
use Rattle.record.specs.Format.{header_length}
use Rattle.record.specs.Read as R
use Rattle.spec_hyparview.specs.Run.{Run, on}
use Rattle.spec_hyparview.specs.Messages.{on_join, on_forward_join, on_shuffle, on_shuffle_reply, on_neighbor, on_disconnect}
use Rattle.spec_hyparview.specs.Timers.{handle_shuffle_timer, handle_maintenance_timer, handle_pending_neighbor_timer, retry_join}
use Rattle.spec_hyparview.specs.Events.{handle_connection_closed, handle_join, update_own_data, handle_pin, handle_quit}
use Rattle.spec_hyparview.specs.Handle.{first_node, first_data, is_high, says_alive, handle_message, handle_kind, dispatch}
use Rattle.hyparview_state.specs.Work.{Held, Does}
use Rattle.hyparview_state.proofs.Bridge.{by}
use Rattle.step_dispatch.specs.Begun.{Headed}

past_five : (m : ℕ) → suc (suc (suc (suc (suc (suc m))))) ≤ 5 → ⊥
past_five m l = omega (arith, l)

only_four : (m : ℕ) → m ≤ 5 → (m ≡ 0 → ⊥) → (m ≡ 1 → ⊥) → (m ≡ 2 → ⊥) → (m ≡ 3 → ⊥) → (m ≡ 5 → ⊥) → m ≡ 4
only_four zero l n₀ n₁ n₂ n₃ n₅ = absurd (n₀ refl)
only_four (suc zero) l n₀ n₁ n₂ n₃ n₅ = absurd (n₁ refl)
only_four (suc (suc zero)) l n₀ n₁ n₂ n₃ n₅ = absurd (n₂ refl)
only_four (suc (suc (suc zero))) l n₀ n₁ n₂ n₃ n₅ = absurd (n₃ refl)
only_four (suc (suc (suc (suc zero)))) l n₀ n₁ n₂ n₃ n₅ = refl
only_four (suc (suc (suc (suc (suc zero))))) l n₀ n₁ n₂ n₃ n₅ = absurd (n₅ refl)
only_four (suc (suc (suc (suc (suc (suc m)))))) l n₀ n₁ n₂ n₃ n₅ = absurd (past_five m l)

above : (n k : ℕ) → n ≤ k → (k ≡ n → ⊥) → n + 1 ≤ k
above n k l m = omega (arith, l, m)

-- past the timers and up to Quit there are three other kinds
only_quit : (k : ℕ) → kind_byte RetryJoin < k → (k ≡ kind_byte PeerDisconnected → ⊥) → (k ≡ kind_byte RequestJoin → ⊥) → (k ≡ kind_byte UpdatePeerData → ⊥) → k ≤ kind_byte Quit → k ≡ kind_byte Quit
only_quit k n₄ n₅ n₆ n₇ l = let m = above 7 k (above 6 k (above 5 k n₄ n₅) n₆) n₇ in omega (arith, m, l)

-- b is Join, ForwardJoin or Neighbor, with its one node
pub record Single (b : List ℕ) (h : Header) : Type 0 where
  pub headed : Headed b h
  pub one : (R.header_of b).nodes ≡ 1
  pub which : (h.message ≡ 0 → ⊥) → (h.message ≡ 1 → ⊥) → h.message ≡ 4

-- ---- the fields of the record read

module _ (b : List ℕ) (h : Header) (v : Headed b h) where
  pub kind_of : (R.rec_of b).kind ≡ h.kind
  unfolding R.rec_of_by
  kind_of = ap (λ (x : Header). x.kind) (sym v.head)

  number_of : (R.rec_of b).number ≡ h.number
  unfolding R.rec_of_by
  number_of = ap (λ (x : Header). x.number) (sym v.head)

  message_of : (R.rec_of b).message ≡ h.message
  unfolding R.rec_of_by
  message_of = ap (λ (x : Header). x.message) (sym v.head)

  peer_of : (R.rec_of b).peer ≡ h.peer
  unfolding R.rec_of_by
  peer_of = ap (λ (x : Header). x.peer) (sym v.head)

  second_of : (R.rec_of b).second ≡ h.second
  unfolding R.rec_of_by
  second_of = ap (λ (x : Header). x.second) (sym v.head)

  ttl_of : (R.rec_of b).ttl ≡ h.ttl
  unfolding R.rec_of_by
  ttl_of = ap (λ (x : Header). x.ttl) (sym v.head)

  flags_of : (R.rec_of b).flags ≡ h.flags
  unfolding R.rec_of_by
  flags_of = ap (λ (x : Header). x.flags) (sym v.head)

  nodes_are : (n : ℕ) → n ≡ h.nodes → (R.rec_of b).nodes ≡ R.nodes_of b 0 n
  unfolding R.rec_of_by
  nodes_are n e = ap (R.nodes_of b 0) (ap (λ (x : Header). x.nodes) (sym v.head) ∙ sym e)

  is_message : (k : ℕ) → h.message ≡ k → eqb (R.rec_of b).message k ≡ true
  is_message k q = eq-eqb _ _ (message_of ∙ q)

  no_message : (k : ℕ) → (h.message ≡ k → ⊥) → eqb (R.rec_of b).message k ≡ false
  no_message k n = ne_eqb _ _ (λ z. n (sym message_of ∙ z))

  -- the kinds of record that have one node have it
  header_fine : R.header_ok h ≡ true
  unfolding R.well_formed_by
  header_fine = ap R.header_ok v.head ∙ and_left _ _ (and_right (leb header_length (length b)) _ v.formed)

  one_is : (R.is_message 0 h || (R.is_message 1 h || (R.is_message 4 h || R.is_data h))) ≡ true → (R.header_of b).nodes ≡ 1
  unfolding R.header_ok R.count_ok
  one_is t =
      ap (λ (x : Header). x.nodes) (sym v.head)
      ∙ eqb-true _ _ (sym (choose_yes _ _ _ t) ∙ and_left _ _ (and_right (R.flags_ok h) _ (and_right (R.kind_ok h) _ header_fine)))

  pub one_node : h.kind ≡ kind_byte UpdatePeerData → (R.header_of b).nodes ≡ 1
  unfolding R.is_message R.is_data
  one_node q = one_is (rw q)

  few_messages : h.kind ≡ kind_byte Message → h.message ≤ 5
  unfolding R.header_ok R.kind_ok
  few_messages q = leb-true _ _ (sym (choose_yes _ _ _ (eq-eqb _ _ q)) ∙ and_right (not (eqb (R.fixed_size h.kind) 0)) _ (and_left _ _ header_fine))

  pub single : h.kind ≡ kind_byte Message → (h.message ≡ 2 → ⊥) → (h.message ≡ 3 → ⊥) → (h.message ≡ 5 → ⊥) → Single b h
  unfolding R.is_message R.is_data
  single q n₂ n₃ n₅ =
      let few = few_messages q in
      record {
        headed = v;
        one = split (eqb h.message 0) (λ z. one_is (rw (q, eqb-true h.message 0 z)))
            (λ z₀. split (eqb h.message 1) (λ z. one_is (rw (q, eqb-true h.message 1 z)))
            (λ z₁. one_is (rw (q, only_four h.message few (eqb-false h.message 0 z₀) (eqb-false h.message 1 z₁) n₂ n₃ n₅))));
        which = λ n₀ n₁. only_four h.message few n₀ n₁ n₂ n₃ n₅;
      }

pub single_some : (b : List ℕ) (h : Header) → Single b h → 0 < (R.header_of b).nodes
single_some b h v = omega (arith, v.one)

-- ---- the six messages

first_of : (b : List ℕ) (n : ℕ) → 0 < n → first_node (R.nodes_of b 0 n) ≡ R.node_at b 0
unfolding R.nodes_of_by first_node
first_of b zero h = absurd (not-suc-le-zero h)
first_of b (suc n) h = refl

module _ (b : List ℕ) (h : Header) (v : Headed b h) (g : Run) (r : Held) (ds o : List ℕ) where
  pub arm_shuffle : (n : ℕ) → n ≡ h.nodes → h.message ≡ 2 → Does r ds o (on_shuffle h.peer h.second (R.nodes_of b 0 n) h.ttl g) → Does r ds o (handle_message (R.rec_of b) g)
  unfolding handle_message
  arm_shuffle n e q k =
      by _ (choose_no _ _ _ (no_message b h v 0 (λ z. omega (arith, z, q))) ∙ (choose_no _ _ _ (no_message b h v 1 (λ z. omega (arith, z, q))) ∙ (choose_yes _ _ _ (is_message b h v 2 q)
      ∙ (λ i. on_shuffle (peer_of b h v i) (second_of b h v i) (nodes_are b h v n e i) (ttl_of b h v i) g)))) k

  pub arm_reply : (n : ℕ) → n ≡ h.nodes → h.message ≡ 3 → Does r ds o (on_shuffle_reply h.peer (R.nodes_of b 0 n) g) → Does r ds o (handle_message (R.rec_of b) g)
  unfolding handle_message
  arm_reply n e q k =
      by _ (choose_no _ _ _ (no_message b h v 0 (λ z. omega (arith, z, q))) ∙ (choose_no _ _ _ (no_message b h v 1 (λ z. omega (arith, z, q))) ∙ (choose_no _ _ _ (no_message b h v 2 (λ z. omega (arith, z, q))) ∙ (choose_yes _ _ _ (is_message b h v 3 q)
      ∙ (λ i. on_shuffle_reply (peer_of b h v i) (nodes_are b h v n e i) g))))) k

  pub arm_disconnect : (t : Bool) → t ≡ eqb (h.flags % 2) 1 → h.message ≡ 5 → Does r ds o (on_disconnect h.peer t g) → Does r ds o (handle_message (R.rec_of b) g)
  unfolding handle_message says_alive
  arm_disconnect t e q k =
      by _ (choose_no _ _ _ (no_message b h v 0 (λ z. omega (arith, z, q))) ∙ (choose_no _ _ _ (no_message b h v 1 (λ z. omega (arith, z, q))) ∙ (choose_no _ _ _ (no_message b h v 2 (λ z. omega (arith, z, q)))
      ∙ (choose_no _ _ _ (no_message b h v 3 (λ z. omega (arith, z, q))) ∙ (choose_no _ _ _ (no_message b h v 4 (λ z. omega (arith, z, q)))
      ∙ (λ i. on_disconnect (peer_of b h v i) ((ap (λ (y : ℕ). eqb (y % 2) 1) (flags_of b h v) ∙ sym e) i) g)))))) k

module _ (b : List ℕ) (h : Header) (u : Single b h) (g : Run) (r : Held) (ds o : List ℕ) (n : PeerInfo) (x : node_in n ≡ R.node_at b 0) where
  v : Headed b h
  v = u.headed

  first_is : first_node (R.rec_of b).nodes ≡ node_in n
  unfolding R.rec_of_by
  first_is = first_of b (R.header_of b).nodes (single_some b h u) ∙ sym x

  data_is : first_data (R.rec_of b) ≡ data_in n.data
  unfolding first_data node_in
  data_is = ap (λ (y : Node). y.data_of) first_is

  pub arm_join : h.message ≡ 0 → Does r ds o (on_join h.peer (data_in n.data) g) → Does r ds o (handle_message (R.rec_of b) g)
  unfolding handle_message
  arm_join q k = by _ (choose_yes _ _ _ (is_message b h v 0 q) ∙ (λ i. on_join (peer_of b h v i) (data_is i) g)) k

  pub arm_forward : h.message ≡ 1 → Does r ds o (on_forward_join h.peer (node_in n) h.ttl g) → Does r ds o (handle_message (R.rec_of b) g)
  unfolding handle_message
  arm_forward q k =
      by _ (choose_no _ _ _ (no_message b h v 0 (λ z. omega (arith, z, q))) ∙ (choose_yes _ _ _ (is_message b h v 1 q) ∙ (λ i. on_forward_join (peer_of b h v i) (first_is i) (ttl_of b h v i) g))) k

  pub arm_neighbor : (h.message ≡ 0 → ⊥) → (h.message ≡ 1 → ⊥) → (t : Bool) → t ≡ eqb h.flags 1 → Does r ds o (on_neighbor h.peer (data_in n.data) t g) → Does r ds o (handle_message (R.rec_of b) g)
  unfolding handle_message is_high
  arm_neighbor n₀ n₁ t e k =
      let q = u.which n₀ n₁ in
      by _ (choose_no _ _ _ (no_message b h v 0 (λ z. omega (arith, z, q))) ∙ (choose_no _ _ _ (no_message b h v 1 (λ z. omega (arith, z, q))) ∙ (choose_no _ _ _ (no_message b h v 2 (λ z. omega (arith, z, q)))
      ∙ (choose_no _ _ _ (no_message b h v 3 (λ z. omega (arith, z, q))) ∙ (choose_yes _ _ _ (is_message b h v 4 q)
      ∙ (λ i. on_neighbor (peer_of b h v i) (data_is i) ((ap (λ (y : ℕ). eqb y 1) (flags_of b h v) ∙ sym e) i) g)))))) k

-- ---- the kinds

module _ (b : List ℕ) (h : Header) (v : Headed b h) (g : Run) (r : Held) (ds o : List ℕ) where
  same_kind : (k : EventKind) → h.kind ≡ kind_byte k → (R.rec_of b).kind ≡ kind_byte k
  same_kind k q = kind_of b h v ∙ q

  pub kind_message : h.kind ≡ kind_byte Message → Does r ds o (handle_message (R.rec_of b) g) → Does r ds o (dispatch (R.rec_of b) g)
  unfolding dispatch choose
  kind_message q k = by _ (rw (same_kind Message q)) k

  pub kind_shuffle : h.kind ≡ kind_byte DoShuffle → Does r ds o (handle_shuffle_timer g) → Does r ds o (dispatch (R.rec_of b) g)
  unfolding dispatch choose
  kind_shuffle q k = by _ (rw (same_kind DoShuffle q)) k

  pub kind_maintenance : h.kind ≡ kind_byte DoMaintenance → Does r ds o (handle_maintenance_timer g) → Does r ds o (dispatch (R.rec_of b) g)
  unfolding dispatch choose
  kind_maintenance q k = by _ (rw (same_kind DoMaintenance q)) k

  pub kind_request : h.kind ≡ kind_byte PendingNeighborRequest → Does r ds o (handle_pending_neighbor_timer h.peer h.number g) → Does r ds o (dispatch (R.rec_of b) g)
  unfolding dispatch choose
  kind_request q k = by _ (rw (same_kind PendingNeighborRequest q) (λ i. handle_pending_neighbor_timer (peer_of b h v i) (number_of b h v i) g)) k

  pub kind_retry : (h.kind ≡ kind_byte Message → ⊥) → h.kind ≤ kind_byte RetryJoin → (h.kind ≡ kind_byte DoShuffle → ⊥) → (h.kind ≡ kind_byte DoMaintenance → ⊥) → (h.kind ≡ kind_byte PendingNeighborRequest → ⊥) → Does r ds o (retry_join h.peer h.number g) → Does r ds o (dispatch (R.rec_of b) g)
  unfolding dispatch choose
  kind_retry n₀ l n₁ n₂ n₃ k = by _ (rw (same_kind RetryJoin (only_four h.kind (omega (arith, l)) n₀ n₁ n₂ n₃ (λ e. omega (arith, l, e)))) (λ i. retry_join (peer_of b h v i) (number_of b h v i) g)) k

  pub kind_closed : h.kind ≡ kind_byte PeerDisconnected → Does r ds o (handle_connection_closed h.peer g) → Does r ds o (dispatch (R.rec_of b) g)
  unfolding dispatch choose
  kind_closed q k = by _ (rw (same_kind PeerDisconnected q) (λ i. handle_connection_closed (peer_of b h v i) g)) k

  pub kind_join : h.kind ≡ kind_byte RequestJoin → Does r ds o (handle_join h.peer g) → Does r ds o (dispatch (R.rec_of b) g)
  unfolding dispatch choose
  kind_join q k = by _ (rw (same_kind RequestJoin q) (λ i. handle_join (peer_of b h v i) g)) k

  pub kind_data : (n : PeerInfo) → node_in n ≡ R.node_at b 0 → h.kind ≡ kind_byte UpdatePeerData → Does r ds o (on (update_own_data (data_in n.data)) g) → Does r ds o (dispatch (R.rec_of b) g)
  unfolding dispatch choose R.rec_of_by first_data node_in
  kind_data n x q k =
      let e : first_node (R.nodes_of b 0 (R.header_of b).nodes) ≡ node_in n = first_of b (R.header_of b).nodes (omega (arith, one_node b h v q)) ∙ sym x in
      by _ (rw (same_kind UpdatePeerData q) (λ i. on (update_own_data (e i).data_of) g)) k

  pub kind_quit : kind_byte RetryJoin < h.kind → (h.kind ≡ kind_byte PeerDisconnected → ⊥) → (h.kind ≡ kind_byte RequestJoin → ⊥) → (h.kind ≡ kind_byte UpdatePeerData → ⊥) → h.kind ≤ kind_byte Quit
      → Does r ds o (handle_quit g) → Does r ds o (dispatch (R.rec_of b) g)
  unfolding dispatch choose
  kind_quit l n₅ n₆ n₇ m k = by _ (rw (same_kind Quit (only_quit h.kind l n₅ n₆ n₇ m))) k

  pub kind_pin : h.kind ≡ kind_byte Pin → Does r ds o (handle_pin h.peer g) → Does r ds o (dispatch (R.rec_of b) g)
  unfolding dispatch choose
  kind_pin q k = by _ (rw (same_kind Pin q) (λ i. handle_pin (peer_of b h v i) g)) k

  -- past Quit and no pin
  no_kind : kind_byte Quit < h.kind → (h.kind ≡ kind_byte Pin → ⊥) → (k : EventKind) → h.kind ≡ kind_byte k → ⊥
  no_kind l n Message z = omega (arith, l, z)
  no_kind l n DoShuffle z = omega (arith, l, z)
  no_kind l n DoMaintenance z = omega (arith, l, z)
  no_kind l n PendingNeighborRequest z = omega (arith, l, z)
  no_kind l n RetryJoin z = omega (arith, l, z)
  no_kind l n PeerDisconnected z = omega (arith, l, z)
  no_kind l n RequestJoin z = omega (arith, l, z)
  no_kind l n UpdatePeerData z = omega (arith, l, z)
  no_kind l n Quit z = omega (arith, l, z)
  no_kind l n Pin z = n z

  pub kind_none : kind_byte Quit < h.kind → (h.kind ≡ kind_byte Pin → ⊥) → Does r ds o g → Does r ds o (dispatch (R.rec_of b) g)
  unfolding dispatch
  kind_none l n k =
      by_kind (λ (x : Option EventKind). Does r ds o (handle_kind x (R.rec_of b) g)) (R.rec_of b).kind (λ _. k) (λ j z. absurd (no_kind l n j (sym (kind_of b h v) ∙ z)))
