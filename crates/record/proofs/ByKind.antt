-- The law of cases over the kinds of events, and that what the code compares is what the kinds say, by one test of every byte.
-- Assumes nothing.
use Prim.Native.Nat.{ℕ, ◌≤◌}
use mathlib.Core.Path.{◌≡◌, refl, sym, ap, ◌∙◌}
use mathlib.Core.Bool.{Bool, true, false, ◌&&◌, ◌||◌}
use mathlib.Core.List.{List, [], ◌∷◌}
use mathlib.Core.Option.{Option, none, some}
use native.Mathlib.Omega.{arith}
use borrow.Author.Tests.{eqb-true}
use lib.ListN.{replicate, length-replicate}
use lib.Dec.{T, eqb, leb}
use Rattle.base_lists.specs.Lists.{choose}
use Rattle.base_lists.proofs.Choice.{by_choice, choose_no, clash}
use Rattle.base_lists.proofs.Table.{every, at}
use Rattle.record.specs.Kinds.{EventKind, Message, DoShuffle, DoMaintenance, PendingNeighborRequest, RetryJoin, PeerDisconnected, RequestJoin, UpdatePeerData, Quit, Pin, NeighborUp, Evicted, event_kinds, kind_byte, output_byte, find_kind, is_found, event_kind, is_event_kind, is_output_kind}

-- what holds where no kind is found, and of each kind that has the byte, holds of what is found
found : {K : Type 0} (f : K → ℕ) (P : Option K → Type 0) (ks : List K) (b : ℕ) → (find_kind f ks b ≡ none → P none) → ((k : K) → b ≡ f k → P (some k)) → P (find_kind f ks b)
unfolding find_kind
found f P [] b n h = n refl
found f P (k ∷ ks) b n h = by_choice P (eqb b (f k)) (λ e. h k (eqb-true b (f k) e)) (λ e. found f P ks b (λ q. n (choose_no (eqb b (f k)) _ _ e ∙ q)) h)

-- each kind of event is found by its byte
pub kind_found : (k : EventKind) → event_kind (kind_byte k) ≡ some k
unfolding event_kind choose
kind_found Message = refl
kind_found DoShuffle = refl
kind_found DoMaintenance = refl
kind_found PendingNeighborRequest = refl
kind_found RetryJoin = refl
kind_found PeerDisconnected = refl
kind_found RequestJoin = refl
kind_found UpdatePeerData = refl
kind_found Quit = refl
kind_found Pin = refl

-- the law of cases: of a byte, one case for each kind of event, and one for the bytes that no event has
pub by_kind : (P : Option EventKind → Type 0) (b : ℕ) → (((k : EventKind) → b ≡ kind_byte k → ⊥) → P none) → ((k : EventKind) → b ≡ kind_byte k → P (some k)) → P (event_kind b)
unfolding event_kind is_found
by_kind P b n h = found kind_byte P event_kinds b (λ q. n (λ k e. clash false (ap is_found (sym q ∙ (ap event_kind e ∙ kind_found k))) refl)) h

-- ---- what the code compares

same : Bool → Bool → Bool
same true b = b
same false true = false
same false false = true

same_true : (a b : Bool) → T (same a b) → a ≡ b
unfolding same
same_true true true t = refl
same_true true false t = absurd t
same_true false true t = absurd t
same_true false false t = refl

-- a test that passes at every byte, which antt computes
each_byte : (f : ℕ → Bool) → T (every (λ k _. f k) 0 (replicate 256 0)) → (k : ℕ) → k ≤ 255 → T (f k)
each_byte f t k h = at (λ k _. f k) (replicate 256 0) t k (omega (arith, length-replicate {A = ℕ} 256 0))

pub events_compared : (k : ℕ) → k ≤ 255 → (leb k (kind_byte Quit) || eqb k (kind_byte Pin)) ≡ is_event_kind k
unfolding same is_event_kind choose
events_compared k h = same_true _ _ (each_byte (λ (j : ℕ). same (leb j (kind_byte Quit) || eqb j (kind_byte Pin)) (is_event_kind j)) tt k h)

pub outputs_compared : (k : ℕ) → k ≤ 255 → (leb (output_byte NeighborUp) k && leb k (output_byte Evicted)) ≡ is_output_kind k
unfolding same is_output_kind choose
outputs_compared k h = same_true _ _ (each_byte (λ (j : ℕ). same (leb (output_byte NeighborUp) j && leb j (output_byte Evicted)) (is_output_kind j)) tt k h)
