-- How the active view is refilled from the passive view.
-- Assumes nothing.
use Rattle.std.specs.Prelude.{ℕ, ◌+◌, ◌-◌, Bool, not, ◌&&◌, ◌||◌, List, [], ◌++◌, length, leb}
use Rattle.base_lists.specs.Lists.{choose, null, without_all}
use Rattle.base_lists.specs.Maps.{keys}
use Rattle.base_timing.specs.Timing.{max_requests_per_refill}
use Rattle.spec_hyparview.specs.Station.{Station, Refill, automatic, requests_left, recovery, is_alone, is_short, is_recovery, is_automatic, is_spent, asked_outside, recovery_is_over}
use Rattle.spec_hyparview.specs.Setters.{set_refill}
use Rattle.spec_hyparview.specs.Run.{Run, on, draw_one_of, picked}
use Rattle.spec_hyparview.specs.Sending.{send_neighbor}

-- a limit of `MAX_REQUESTS_PER_REFILL`; crate base_timing says at that constant why so few
abbrev pub few_requests : Refill
few_requests = requests_left max_requests_per_refill

-- a recovery keeps its freedom: no limit takes its place
unfoldable pub unless_recovery : Refill → Refill → Refill
unless_recovery old new = choose (is_recovery old) recovery new

-- requests that are open at the same time share one limit
unfoldable pub one_less : Refill → Refill
one_less automatic = automatic
one_less (requests_left n) = requests_left (n - 1)
one_less recovery = recovery

unfoldable pub use_request : Station → Station
use_request s = set_refill (one_less s.refill) s

-- an open request may still bring peers to ask, so a recovery waits for it
unfoldable pub end_recovery : Station → Station
end_recovery s = set_refill (choose (recovery_is_over s) automatic s.refill) s

-- a short station that has neighbours asks a few and not all
unfoldable pub needs_limit : Station → Bool
needs_limit s = is_automatic s.refill && (not (is_alone s) && is_short s)

unfoldable pub limit_short : Station → Station
limit_short s = set_refill (choose (needs_limit s) few_requests s.refill) s

-- who refused is left out, or the same full peers would be asked again and again; but not where the station is alone: its priority is then
-- high, and they cannot refuse
unfoldable pub skipped : List ℕ → Station → List ℕ
skipped skip s = skip ++ (keys s.requests ++ choose (is_alone s) [] s.refused)

unfoldable pub candidates : List ℕ → Station → List ℕ
candidates skip s = without_all (skipped skip s) s.passive

-- priority is High exactly where the active view is empty: nobody may refuse it, so only a station without neighbours may claim it
unfoldable pub ask_picked : List ℕ → Run → Run
ask_picked from r = on use_request (send_neighbor (picked from r) (is_alone r.station) (draw_one_of (length from) r))

unfoldable pub ask_one : List ℕ → Run → Run
ask_one from r = choose (null from) (on end_recovery r) (ask_picked from r)

unfoldable pub refill_limited : List ℕ → Run → Run
refill_limited skip r = ask_one (candidates skip r.station) r

-- neighbours and those asked fill the view, or the limit is spent; who is asked and a neighbour, by an answer noted as open, counts once
unfoldable pub needs_none : Station → Bool
needs_none s =
    leb s.config.active_view_capacity (length s.active + length (asked_outside s)) || is_spent s.refill

-- refill_active_from_passive: in place of a failed neighbour the paper asks random passive peers, one after another, until one accepts
unfoldable pub refill_active_from_passive : List ℕ → Run → Run
refill_active_from_passive skip r = choose (needs_none r.station) r (refill_limited skip (on limit_short r))

unfoldable pub begin_refill : Refill → Station → Station
begin_refill limit s = set_refill (unless_recovery s.refill limit) s

-- start_refill
unfoldable pub start_refill : Refill → List ℕ → Run → Run
start_refill limit skip r = refill_active_from_passive skip (on (begin_refill limit) r)
