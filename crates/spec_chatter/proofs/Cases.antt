-- Worked cases, evaluated: the claims speak of something.
-- Assumes nothing.
use Prim.Native.Nat.{ℕ, ◌+◌}
use mathlib.Core.Path.{◌≡◌, refl}
use mathlib.Core.List.{List, [], ◌∷◌}
use mathlib.Core.Option.{none}
use lib.ListN.{replicate}
use Rattle.base_lists.specs.Lists.{choose, is}
use Rattle.base_timing.specs.Timing.{default}
use Rattle.record.specs.Kinds.{PendingNeighborRequest, DoShuffle, DoMaintenance, kind_byte}
use Rattle.record.specs.Format.{encode}
use Rattle.record.specs.Walk.{headers, records_in, records_from}
use Rattle.spec_hyparview.specs.Station.{Station}
use Rattle.spec_hyparview.specs.Run.{message, timer, node}
use Rattle.spec_hyparview.specs.Handle.{new}
use Rattle.spec_hyparview.specs.Sides.{wired}
use Rattle.spec_history.specs.Calls.{Call, state_after, definition}
use Rattle.spec_history.specs.Followed.{followed}
use Rattle.spec_chatter.specs.Traffic.{Item, came, went, items_of, traffic}
use Rattle.spec_chatter.specs.Claims.{times_scheduled, times_expired, accepted_events, waiting, without_pair}

-- a Join from 2, twice: each is answered by a Neighbor, and the second Join stands between the two
unfoldable pub join_2 : Call
unfolding followed
join_2 = record { side = wired; event = encode (message 0 2 0 0 0 (node 0 none ∷ [])); are_bytes = refl; draws = replicate 40 0; output = replicate 800 0 }

abbrev start : Station
start = (new 1 none default).state

-- what each item is: kind and message, with 100 more for an event
unfoldable pub shapes : List Item → List (ℕ × ℕ)
shapes [] = []
shapes (came h ∷ xs) = (100 + h.kind, h.message) ∷ shapes xs
shapes (went h ∷ xs) = (h.kind, h.message) ∷ shapes xs

pub two_neighbors : shapes (traffic definition (join_2 ∷ join_2 ∷ []) start) ≡ (100, 0) ∷ (9, 0) ∷ (0, 4) ∷ (3, 0) ∷ (1, 0) ∷ (2, 0) ∷ (100, 0) ∷ (0, 4) ∷ (3, 0) ∷ []
unfolding followed join_2 shapes traffic items_of headers records_in records_from
two_neighbors = refl

-- a maintenance timer after them: one more of each clock was scheduled than expired
unfoldable pub tick : Call
unfolding followed
tick = record { side = wired; event = encode (timer (kind_byte DoMaintenance) 0 0 0); are_bytes = refl; draws = replicate 40 0; output = replicate 800 0 }

abbrev ticked : List Item
ticked = traffic definition (join_2 ∷ join_2 ∷ tick ∷ []) start

pub clocks : ◌≡◌ {A = List ℕ} (accepted_events ticked ∷ times_scheduled (kind_byte DoMaintenance) ticked ∷ times_expired (kind_byte DoMaintenance) ticked ∷ times_scheduled (kind_byte DoShuffle) ticked ∷ times_expired (kind_byte DoShuffle) ticked ∷ []) (3 ∷ 2 ∷ 1 ∷ 1 ∷ 0 ∷ [])
unfolding followed join_2 tick traffic items_of headers records_in records_from accepted_events times_scheduled times_expired is choose
clocks = refl

pub both_wait : waiting (kind_byte PendingNeighborRequest) (traffic definition (join_2 ∷ join_2 ∷ []) start) [] ≡ (2, 1) ∷ (2, 0) ∷ []
unfolding followed join_2 traffic items_of headers records_in records_from waiting without_pair
both_wait = refl

pub open_now : (state_after definition (join_2 ∷ join_2 ∷ []) start).requests ≡ (2, 1) ∷ []
unfolding followed join_2
open_now = refl
