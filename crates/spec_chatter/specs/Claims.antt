-- Document 02, S-10, "No chatter, no lost clock": of the traffic of every list of calls to a new station.
-- Assumes nothing.
use Rattle.std.specs.Prelude.{ℕ, ◌+◌, ◌≤◌, ◌≡◌, ◌&&◌, List, [], ◌∷◌, ◌++◌, leb, eqb}
use Rattle.std.proofs.Math.Option.{some}
use Rattle.base_lists.specs.Lists.{choose, is}
use Rattle.base_lists.specs.Maps.{lookup}
use Rattle.record.specs.Kinds.{Message, DoShuffle, DoMaintenance, PendingNeighborRequest, RetryJoin, PeerDisconnected, Quit, kind_byte}
use Rattle.record.specs.declared.Header.{Header}
use Rattle.spec_hyparview.specs.Station.{Station}
use Rattle.spec_history.specs.Calls.{Call, Machine, AfterNew, state_after, definition}
use Rattle.spec_chatter.specs.Traffic.{Item, came, went, traffic}
use Rattle.spec_chatter.specs.Open.{join_message, neighbor_message, disconnect_message, open_after}

-- ---- "Between two Neighbor messages to one peer, the event that sends the second included, stands .."

-- a message m from p, if it came, or to p, if it went
pub record MessageOf (m p : ℕ) (h : Header) : Type 0 where
  pub is_message : h.kind ≡ kind_byte Message
  pub which : h.message ≡ m
  pub whose : h.peer ≡ p

-- the item that stands after the items xs, and why a Neighbor to p may follow it
pub data ReasonFor (p : ℕ) (xs : List Item) : Item → Type 0 where
  -- "a Join, Neighbor or Disconnect from it"
  join_from : {h : Header} → MessageOf join_message p h → ReasonFor p xs (came h)
  neighbor_from : {h : Header} → MessageOf neighbor_message p h → ReasonFor p xs (came h)
  disconnect_from : {h : Header} → MessageOf disconnect_message p h → ReasonFor p xs (came h)
  -- "a Disconnect to it"
  disconnect_to : {h : Header} → MessageOf disconnect_message p h → ReasonFor p xs (went h)
  -- "its disconnection"
  disconnection : {h : Header} → h.kind ≡ kind_byte PeerDisconnected → h.peer ≡ p → ReasonFor p xs (came h)
  -- "its request timer with the open number"
  request_timer : {h : Header} → h.kind ≡ kind_byte PendingNeighborRequest → h.peer ≡ p → lookup p (open_after xs []) ≡ some h.number → ReasonFor p xs (came h)
  -- "or a Quit"
  quit : {h : Header} → h.kind ≡ kind_byte Quit → ReasonFor p xs (came h)

-- one stands among the items `between`, which follow xs
pub record Stands (p : ℕ) (xs between : List Item) : Type 0 where
  pub front : List Item
  pub item : Item
  pub back : List Item
  pub is : between ≡ front ++ (item ∷ back)
  pub why : ReasonFor p (xs ++ front) item

-- an event stands among them
pub record EventStands (between : List Item) : Type 0 where
  pub front : List Item
  pub event : Header
  pub back : List Item
  pub is : between ≡ front ++ (came event ∷ back)

-- what X says of the items before, between and after any two Neighbor messages to one peer p holds of xs
abbrev pub AnyTwoNeighbors : List Item → (ℕ → List Item → Header → List Item → Type 0) → Type 0
AnyTwoNeighbors xs X =
    (p : ℕ) (before between after : List Item) (x y : Header) → xs ≡ before ++ (went x ∷ (between ++ (went y ∷ after)))
    → MessageOf neighbor_message p x → MessageOf neighbor_message p y → X p before x between

-- a reason stands after the first and before the second. Each event stands before its own output, so that the event that sends the second may be the reason, and that of the first may not.
abbrev pub NoChatter : List Item → Type 0
NoChatter xs = AnyTwoNeighbors xs (λ p before x between. Stands p (before ++ (went x ∷ [])) between)

-- and they are not of one event
abbrev pub OneInEachEvent : List Item → Type 0
OneInEachEvent xs = AnyTwoNeighbors xs (λ p before x between. EventStands between)

-- ---- "After at least one accepted event of kinds 0 to 8, maintenance timers scheduled are one more than those expired, and shuffle timers likewise."

-- how many output records are of kind k
unfoldable pub times_scheduled : ℕ → List Item → ℕ
times_scheduled k [] = 0
times_scheduled k (came h ∷ xs) = times_scheduled k xs
times_scheduled k (went h ∷ xs) = is h.kind k + times_scheduled k xs

-- how many accepted events are of kind k
unfoldable pub times_expired : ℕ → List Item → ℕ
times_expired k [] = 0
times_expired k (came h ∷ xs) = is h.kind k + times_expired k xs
times_expired k (went h ∷ xs) = times_expired k xs

-- how many are of kinds 0 to 8
unfoldable pub accepted_events : List Item → ℕ
accepted_events [] = 0
accepted_events (came h ∷ xs) = choose (leb h.kind (kind_byte Quit)) 1 0 + accepted_events xs
accepted_events (went h ∷ xs) = accepted_events xs

pub record NoLostClock (xs : List Item) : Type 0 where
  pub maintenance : 1 ≤ accepted_events xs → times_scheduled (kind_byte DoMaintenance) xs ≡ times_expired (kind_byte DoMaintenance) xs + 1
  pub shuffles : 1 ≤ accepted_events xs → times_scheduled (kind_byte DoShuffle) xs ≡ times_expired (kind_byte DoShuffle) xs + 1

-- ---- beside it: what is open has its timer, so that nothing waits for ever if timers fire

-- without the pair of p and n
unfoldable pub without_pair : ℕ → ℕ → List (ℕ × ℕ) → List (ℕ × ℕ)
without_pair p n [] = []
without_pair p n (w ∷ ws) = choose (eqb p w.0 && eqb n w.1) (without_pair p n ws) (w ∷ without_pair p n ws)

-- the timers of kind k, by peer and number, that were scheduled and have not expired since; ws are those before
unfoldable pub waiting : ℕ → List Item → List (ℕ × ℕ) → List (ℕ × ℕ)
waiting k [] ws = ws
waiting k (came h ∷ xs) ws = waiting k xs (choose (eqb h.kind k) (without_pair h.peer h.number ws) ws)
waiting k (went h ∷ xs) ws = waiting k xs (choose (eqb h.kind k) ((h.peer, h.number) ∷ ws) ws)

-- among them
pub data Among (p n : ℕ) : List (ℕ × ℕ) → Type 0 where
  here : {ws : List (ℕ × ℕ)} → Among p n ((p, n) ∷ ws)
  later : {w : ℕ × ℕ} {ws : List (ℕ × ℕ)} → Among p n ws → Among p n (w ∷ ws)

-- each of `held` has its timer of kind k
abbrev pub HasTimer : ℕ → List (ℕ × ℕ) → List Item → Type 0
HasTimer k held xs = (p n : ℕ) → lookup p held ≡ some n → Among p n (waiting k xs [])

-- ---- of every list of calls

-- of items that brought a new station to s
pub record Chatter (xs : List Item) (s : Station) : Type 0 where
  pub no_chatter : NoChatter xs
  pub one_in_each_event : OneInEachEvent xs
  pub no_lost_clock : NoLostClock xs
  -- each open request, and each join awaiting retry
  pub requests_timed : HasTimer (kind_byte PendingNeighborRequest) s.requests xs
  pub joins_timed : HasTimer (kind_byte RetryJoin) s.joins xs

-- of a machine whose states stand for stations
abbrev pub ChatterOf : {G S : Type 0} → Machine G S → (S → Station) → Type 0
ChatterOf m station = AfterNew m (λ me c s. (vs : List Call) → Chatter (traffic m vs s) (station (state_after m vs s)))

-- of the definition
abbrev pub ChatterHolds : Type 0
ChatterHolds = ChatterOf definition (λ s. s)
