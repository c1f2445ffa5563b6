-- The first loop sums the data's lengths, the second writes nodes up to k into the room found.
use Prim.Native.Nat.{ℕ, ◌+◌, ◌*◌, ◌≤◌}
use mathlib.Core.Path.{◌≡◌}
use mathlib.Core.List.{List}
use lib.ListN.{length, drop}
use Rattle.base_peer.specs.declared.PeerInfo.{PeerInfo}
use Rattle.record.specs.Format.{header_length, node_length}
use Rattle.record_writer.proofs.Laws.{Spot, with_nodes, sum}
use Rattle.record_writer.proofs.write.Given as goal

-- The first loop: what remains is the lengths of the data from node i on.
pub record Sizes (nodes : List PeerInfo) (fixed size i : ℕ) : Type 0 where
  pub sums : sum size (drop i nodes) ≡ sum fixed nodes
  pub small : size ≤ fixed + 16 * i

-- The second loop: what remains is the entries and the data from node k on, whose data stand from `reached` on.
abbrev pub spot : List ℕ → ℕ → ℕ → ℕ → Spot
spot out at k reached = record { bytes = out; at = at + (header_length + node_length * k); reached = reached }

pub record Stored (out₀ : List ℕ) (at fixed : ℕ) (nodes : List PeerInfo) (out : List ℕ) (reached k : ℕ) : Type 0 where
  pub walk : with_nodes at (spot out at k reached) (drop k nodes) ≡ with_nodes at (spot out₀ at 0 fixed) nodes
  pub sums : sum reached (drop k nodes) ≡ sum fixed nodes
  pub room : at + sum fixed nodes ≤ length out
  pub low : fixed ≤ reached
  pub len : length out ≡ length out₀

abbrev pub invariant-loop-p : goal.invariant-loop-p
invariant-loop-p l = Sizes l.nodes l.fixed l.size l.p-index

abbrev pub invariant-loop-k : goal.invariant-loop-k
invariant-loop-k l = Stored l.initial.out l.at l.fixed l.nodes l.out l.reached l.k
