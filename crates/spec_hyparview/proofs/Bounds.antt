-- What the invariant says of sizes, as code needs it; and that every event starts with the invariant at a station that passes the rules.
-- Assumes nothing.
use mathlib.Core.Path.{◌≡◌}
use mathlib.Core.Bool.{true, false}
use mathlib.Core.List.{List, ◌++◌}
use Prim.Native.Nat.{ℕ, ◌+◌, ◌*◌, ◌≤◌}
use native.Mathlib.Omega.{arith}
use lib.ListN.{length, length-append}
use lib.Dec.{eqb}
use Rattle.base_lists.specs.Maps.{keys}
use Rattle.base_lists.proofs.Count.{count_append}
use Rattle.base_lists.proofs.Maps.{length_keys}
use Rattle.base_timing.specs.Timing.{max_bootstrap_peers, max_recent_neighbors, most_active, most_passive}
use Rattle.record.specs.Kinds.{Quit, kind_byte}
use Rattle.record.specs.Format.{Rec}
use Rattle.spec_hyparview.specs.Station.{Station, max_requests, max_refused, max_peer_data}
use Rattle.spec_hyparview.specs.Run.{Run}
use Rattle.spec_hyparview.specs.Rules.{station_ok}
use Rattle.spec_hyparview.specs.Handle.{start, steps}
use Rattle.base_lists.proofs.Members.{shorter}
use Rattle.spec_hyparview.proofs.Invariant.{Fixed, Terms, calm, Ok}
use Rattle.spec_hyparview.proofs.Reading.{Readable}
use Rattle.spec_hyparview.proofs.Requested.{quitting}
use Rattle.spec_hyparview.proofs.Whole.{at_start, start_plain, start_quit, ok_steps}
use Rattle.spec_hyparview.proofs.Tested.{between_of}
use Rattle.spec_hyparview.proofs.Enough.{pays_all}

-- every set and map within its limit, with the places that the terms promise to be free
pub record Bounds (t : Terms) (s : Station) : Type 0 where
  pub active_few : length s.active + t.slots ≤ most_active
  pub passive_few : length s.passive + t.places ≤ most_passive
  pub alive_few : length s.alive ≤ length s.passive + length t.loose
  pub bootstrap_few : length s.bootstrap ≤ max_bootstrap_peers
  pub joins_few : length s.joins ≤ max_bootstrap_peers
  pub recent_few : length s.recent ≤ max_recent_neighbors
  pub requests_few : length s.requests ≤ max_requests
  pub refused_few : length s.refused ≤ max_refused
  pub data_few : length s.peer_data ≤ max_peer_data

pub bounds : {q : Fixed} {t : Terms} {m b d : ℕ} (r : Run) → Ok q t m b d r → r.code ≡ 0 → Bounds t r.station
bounds {t = t} r k z =
    let w = k.good z in
    let h = w.core in
    let s = r.station in
    record {
      active_few = omega (arith, h.seats.slots_left, h.still.ranges.few_slots);
      passive_few = omega (arith, h.seats.places_left, h.still.ranges.few_places);
      alive_few = omega (arith, shorter s.alive (s.passive ++ t.loose) (λ x. omega (arith, h.seats.marks x, count_append x s.passive t.loose)), length-append s.passive t.loose);
      bootstrap_few = h.waits.few;
      joins_few = omega (arith, h.waits.few, length_keys s.joins, shorter (keys s.joins) s.bootstrap h.waits.known);
      recent_few = w.law.recent_ok.few;
      requests_few = w.law.requests_ok.few;
      refused_few = w.law.refused_ok.few;
      data_few = w.law.held_ok.few;
    }

-- A station that passes the rules starts every event with the invariant; 9 more messages than neighbours can be held, 8,192 bytes and 512 draws may be spent.
module _ (s : Station) (ok : station_ok s ≡ true) (ds : List ℕ) (room : ℕ) (e : Rec) (w : Readable e) where
  abbrev pub begun : Fixed
  begun = at_start s.config s.me s.active 0 (2 * length s.active + (s.config.active_view_capacity + 9)) s.passes_alone ds room e

  pub ready : eqb e.kind (kind_byte Quit) ≡ false → Ok begun calm (s.config.active_view_capacity + 9) 8192 512 (start s ds room)
  ready f = start_plain _ ds room e w (pays_all _ e) (between_of s ok) f

  pub ready_quit : eqb e.kind (kind_byte Quit) ≡ true → Ok begun (quitting s.active) 0 8192 512 (start s ds room)
  ready_quit f = start_quit _ ds room e w (pays_all _ e) (between_of s ok) f

  pub finished : Ok begun calm 0 0 0 (steps e (start s ds room))
  finished = ok_steps _ ds room e w (pays_all _ e) (between_of s ok)
