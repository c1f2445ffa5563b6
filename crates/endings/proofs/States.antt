-- The program's states after a history are the definition's, and every history ends in one of the four ways.
-- Assumes nothing.
use Prim.Native.Nat.{ℕ, zero, suc, ◌+◌, ◌≤◌}
use mathlib.Core.Path.{◌≡◌, refl, sym, ap, subst, ◌∙◌}
use mathlib.Core.Bool.{true, false, ◌&&◌}
use mathlib.Core.List.{List, [], ◌∷◌}
use mathlib.Core.Option.{none}
use native.Mathlib.Omega.{arith}
use lib.ListN.{length}
use lib.Dec.{eqb}
use Rattle.base_lists.specs.Bytes.{le}
use Rattle.base_lists.specs.Lists.{choose}
use Rattle.base_lists.specs.Tests.{All}
use Rattle.base_lists.proofs.Choice.{choose_yes}
use Rattle.spec_stories.specs.Histories.{Event, History, up_to}
use Rattle.spec_stories.proofs.Once.{how_many as histories-in-all}
use Rattle.spec_stories.proofs.Order.{made_of}
use Rattle.base_timing.specs.Timing.{default, within, in_range}
use Rattle.base_peer.specs.Data.{bytes_of}
use Rattle.record.specs.Format.{present, offset, entry_by, entries_by, datas, size_by, header_by, encode_by}
use Rattle.spec_hyparview.specs.Sides.{wired}
use Rattle.spec_hyparview.specs.Station.{Station}
use Rattle.spec_hyparview.specs.Rules.{all_under, short_data, station_ok}
use Rattle.spec_hyparview.specs.Handle.{new}
use Rattle.spec_history.specs.Calls.{Call, Machine, NewGiven, state_after, definition}
use Rattle.spec_history.specs.Demand.{Demand3}
use Rattle.spec_history.proofs.Kept.{demand_3}
use Rattle.hyparview_rules.specs.Pack.{pack}
use Rattle.hyparview_rules.proofs.Fitting.{ok_unpacked, pack_ok}
use Rattle.hyparview.specs.Made.{lent, pack_made}
use Rattle.hyparview.specs.Queries.{neighbors_in, spare_addresses, spare_addresses_in}
use Rattle.hyparview.specs.declared.State.{State}
use Rattle.spec_demand.specs.Program.{made_state, value_program}
use Rattle.spec_demand.proofs.Program.{states_same}
use Rattle.endings.specs.declared.Ends.{Ends}
use Rattle.endings.specs.Events.{of_peer, events, event_records, tiny, first, draws, output, after_history}
use Rattle.endings.specs.Ends.{Sizes, how_many, digest_from, count_ends, sizes_after, all_histories, all_ends, total_ends}
use Rattle.endings.specs.Steps.{first_state, sizes_in}
use Rattle.endings.proofs.Different.{sixteen}
use Rattle.endings.proofs.Counts.{Counting, counting_end}

-- ---- the states after a history

-- `new` takes these settings
taken : (new 1 none tiny).code ≡ 0
unfolding new tiny default in_range within short_data choose
taken = refl

value_taken : value_program.new_code 1 (false, []) tiny ≡ 0
unfolding made_state pack_made lent choose
value_taken = taken

-- the number of the station has 64 bits, and it has no data
narrow : NewGiven 1 none
unfolding all_under bytes_of
narrow = record { narrow = omega arith; are_bytes = refl }

-- an event is bytes, as a call asks
abbrev pub Bytes : Event → Type 0
Bytes e = all_under 256 e ≡ true

-- the calls that bring a history
calls : (h : History) → All Bytes h → List Call
unfolding All
calls [] b = []
calls (e ∷ h) b = record { side = wired; event = e; are_bytes = b.0; draws = draws; output = output } ∷ calls h b.1

by_calls : {G S : Type 0} (m : Machine G S) (h : History) (b : All Bytes h) (s : S) → after_history m h s ≡ state_after m (calls h b) s
unfolding after_history state_after calls All
by_calls m [] b s = refl
by_calls m (e ∷ h) b s = by_calls m h b.1 (m.state wired e draws output s)

-- the sixteen events are bytes
all_bytes : All Bytes event_records
unfolding event_records events of_peer encode_by header_by entries_by entry_by datas size_by bytes_of offset present le all_under All
all_bytes = (refl, (refl, (refl, (refl, (refl, (refl, (refl, (refl, (refl, (refl, (refl, (refl, (refl, (refl, (refl, (refl, tt))))))))))))))))

-- the definition's state after a history
abbrev ended : History → Station
ended h = after_history definition h first

module _ (h : History) (b : All Bytes h) where
  -- demand 3 of a history
  holds : Demand3 definition (λ s. s) station_ok 1 tiny first (calls h b)
  unfolding first
  holds = demand_3 1 none tiny narrow taken (calls h b)

  rules : station_ok (ended h) ≡ true
  rules = subst (λ (s : Station). station_ok s ≡ true) (sym (by_calls definition h b first)) holds.rules_hold

  packed_after : after_history value_program h first_state ≡ record { words = pack (ended h) }
  unfolding first first_state lent choose
  packed_after =
      by_calls value_program h b first_state
      ∙ (states_same 1 (false, []) tiny narrow value_taken (calls h b) ∙ ap (λ (s : Station). record { words = pack s }) (sym (by_calls definition h b first)))

-- ---- the sizes at its end

neighbors_packed : (g : Station) → station_ok g ≡ true → neighbors_in (pack g) ≡ g.active
unfolding neighbors_in
neighbors_packed g t = choose_yes _ _ _ (pack_ok g t) ∙ ap (λ (x : Station). x.active) (ok_unpacked g t)

spare_packed : (g : Station) → station_ok g ≡ true → spare_addresses_in (pack g) ≡ length g.passive
unfolding spare_addresses_in spare_addresses
spare_packed g t = choose_yes _ _ _ (pack_ok g t) ∙ ap (λ (x : Station). length x.passive) (ok_unpacked g t)

same_sizes : (h : History) → All Bytes h → sizes_in first_state h ≡ sizes_after first h
unfolding sizes_in sizes_after
same_sizes h b =
    let t = rules h b in
    let a = ap (λ (s : State). length (neighbors_in s.words)) (packed_after h b) ∙ ap length (neighbors_packed (ended h) t) in
    let p = ap (λ (s : State). spare_addresses_in s.words) (packed_after h b) ∙ spare_packed (ended h) t in
    λ i. (a i, p i)

many_same : (y z : Sizes) → ((h : History) → All Bytes h → y h ≡ z h) → (a p : ℕ) (hs : List History) → All (All Bytes) hs → how_many y a p hs ≡ how_many z a p hs
unfolding how_many All
many_same y z e a p [] b = refl
many_same y z e a p (h ∷ hs) b = λ i. choose (eqb (e h b.0 i).0 a && eqb (e h b.0 i).1 p) 1 0 + many_same y z e a p hs b.1 i

-- every listed history is made of bytes
listed : All (All Bytes) (up_to event_records 4)
listed = made_of Bytes event_records all_bytes 4

pub counted_all : (s : State) (sum : Ends) (n : ℕ) → Counting s sum n → 5 ≤ n → sum ≡ all_ends
unfolding all_ends all_histories count_ends
counted_all s sum n v l =
    let same : (a p : ℕ) → how_many (sizes_in first_state) a p (up_to event_records 4) ≡ how_many (sizes_after first) a p (up_to event_records 4) =
    λ a p. many_same (sizes_in first_state) (sizes_after first) same_sizes a p (up_to event_records 4) listed in
    counting_end s sum n v l ∙ (ap (λ (x : State). count_ends (sizes_in x) (up_to event_records 4)) v.begun
    ∙ (λ i. record { neither = same 0 0 i; passive = same 0 1 i; active = same 1 0 i; both = same 1 1 i; digest = digest_from 0 (up_to event_records 4) }))

-- ---- no end outside the four

-- after any history each view has at most one peer
pub few_peers : (h : History) → All Bytes h → (length (ended h).active ≤ 1) × (length (ended h).passive ≤ 1)
unfolding tiny
few_peers h b =
    let v = (holds h b).views in
    subst (λ (s : Station). (length s.active ≤ 1) × (length s.passive ≤ 1)) (sym (by_calls definition h b first)) (v.active_fits, v.passive_fits)

four_ways : (a p : ℕ) → a ≤ 1 → p ≤ 1
    → choose (eqb a 0 && eqb p 0) 1 0 + (choose (eqb a 0 && eqb p 1) 1 0 + (choose (eqb a 1 && eqb p 0) 1 0 + choose (eqb a 1 && eqb p 1) 1 0)) ≡ 1
unfolding choose
four_ways zero zero l m = refl
four_ways zero (suc zero) l m = refl
four_ways (suc zero) zero l m = refl
four_ways (suc zero) (suc zero) l m = refl
four_ways zero (suc (suc p)) l m = absurd (omega (arith, m))
four_ways (suc zero) (suc (suc p)) l m = absurd (omega (arith, m))
four_ways (suc (suc a)) p l m = absurd (omega (arith, l))

each_once : (hs : List History) → All (All Bytes) hs → total_ends (count_ends (sizes_after first) hs) ≡ length hs
unfolding total_ends count_ends how_many sizes_after All
each_once [] b = refl
each_once (h ∷ hs) b =
    let few = few_peers h b.0 in
    omega (arith, four_ways (length (ended h).active) (length (ended h).passive) few.0 few.1, each_once hs b.1)

-- the four counts together are all histories, so none ends otherwise
pub none_else : total_ends all_ends ≡ 69905
unfolding all_ends all_histories
none_else = each_once (up_to event_records 4) listed ∙ histories-in-all event_records sixteen
