-- A history in time: calls to a machine, each brought at a time, and the shuffle timers that their outputs ask for.
-- Assumes nothing.
use Rattle.std.specs.Prelude.{ℕ, ◌+◌, Bool, true, false, ◌&&◌, List, [], ◌∷◌, ◌++◌, ◌≡◌, drop, leb, eqb}
use Rattle.base_lists.specs.Lists.{choose, null}
use Rattle.base_lists.specs.Tests.{every}
use Rattle.record.specs.Kinds.{DoShuffle, DoMaintenance, PendingNeighborRequest, RetryJoin, kind_byte, is_event_kind}
use Rattle.record.specs.Walk.{kind_in, headers}
use Rattle.record.specs.declared.Header.{Header}
use Rattle.spec_hyparview.specs.Station.{draws_end}
use Rattle.spec_hyparview.specs.Rules.{all_under}
use Rattle.spec_history.specs.Calls.{Call, Machine, code_of, state_of, output_of}

-- a call at a time, in milliseconds, with draws of 32 bits
pub record Brought : Type 0 where
  pub at : ℕ
  pub call : Call
  pub are_draws : all_under draws_end call.draws ≡ true

-- the delays of the timers of kind k among an output's records
unfoldable pub timer_delays : ℕ → List Header → List ℕ
timer_delays k [] = []
timer_delays k (h ∷ hs) = choose (eqb h.kind k) (h.second ∷ timer_delays k hs) (timer_delays k hs)

-- so long after t
unfoldable pub after : ℕ → List ℕ → List ℕ
after t [] = []
after t (x ∷ xs) = (t + x) ∷ after t xs

-- the due times of the timers of kind k that a call's output asks for
unfoldable pub set_by : {G S : Type 0} → ℕ → Machine G S → Brought → S → List ℕ
set_by k m v s = after v.at (timer_delays k (headers (output_of m v.call s)))

-- DoShuffle, DoMaintenance, and the timers of a request and of a join: the kinds of timers
abbrev pub shuffle_kind : ℕ
shuffle_kind = kind_byte DoShuffle

abbrev pub timer_kinds : List ℕ
timer_kinds = kind_byte DoShuffle ∷ kind_byte DoMaintenance ∷ kind_byte PendingNeighborRequest ∷ kind_byte RetryJoin ∷ []

-- the due times of the shuffle timers of all calls of a history, in order
unfoldable pub shuffles_due : {G S : Type 0} → Machine G S → List Brought → S → List ℕ
shuffles_due m [] s = []
shuffles_due m (v ∷ vs) s = set_by shuffle_kind m v s ++ shuffles_due m vs (state_of m v.call s)

-- an accepted event; the first of a new station is none of kind 13, since no peer is active that could be pinned
unfoldable pub counts : {G S : Type 0} → Machine G S → Brought → S → Bool
counts m v s = is_event_kind (kind_in v.call.event) && eqb (code_of m v.call s) 0

-- "a start, the time of a station's first event of kinds 0 to 8"
unfoldable pub start_of : {G S : Type 0} → Machine G S → List Brought → S → ℕ
start_of m [] s = 0
start_of m (v ∷ vs) s = choose (counts m v s) v.at (start_of m vs (state_of m v.call s))

-- an accepted timer of kind k
unfoldable pub fires : {G S : Type 0} → ℕ → Machine G S → Brought → S → Bool
fires k m v s = eqb (kind_in v.call.event) k && eqb (code_of m v.call s) 0

unfoldable pub is_first : ℕ → List ℕ → Bool
is_first t [] = false
is_first t (x ∷ xs) = eqb t x

-- the shuffle timers among them fire when due: each accepted one is the first of those that wait, the timers asked for and not yet
-- brought back, and comes at its due time. So one that nobody asked for is left out. Other calls may stand anywhere.
unfoldable pub on_time : {G S : Type 0} → Machine G S → List Brought → S → List ℕ → Bool
on_time m [] s waiting = true
on_time m (v ∷ vs) s waiting =
    choose (fires shuffle_kind m v s) (is_first v.at waiting && on_time m vs (state_of m v.call s) (drop 1 waiting ++ set_by shuffle_kind m v s))
    (on_time m vs (state_of m v.call s) (waiting ++ set_by shuffle_kind m v s))

-- the same of the timers of kind k, and none of them is missed: no call is brought after the due time of one that waits
unfoldable pub punctual : {G S : Type 0} → ℕ → Machine G S → List Brought → S → List ℕ → Bool
punctual k m [] s waiting = true
punctual k m (v ∷ vs) s waiting =
    every (leb v.at) waiting
    && choose (fires k m v s) (is_first v.at waiting && punctual k m vs (state_of m v.call s) (drop 1 waiting ++ set_by k m v s))
    (punctual k m vs (state_of m v.call s) (waiting ++ set_by k m v s))

-- "if each timer fires when due": timers of every kind, none of which waits before the first call
unfoldable pub every_timer_fires : {G S : Type 0} → Machine G S → List Brought → S → Bool
every_timer_fires m vs s = every (λ k. punctual k m vs s []) timer_kinds

-- the kinds of timers that have a peer and a number; the other two have neither, and kind and time tell them
abbrev pub numbered_kinds : List ℕ
numbered_kinds = kind_byte PendingNeighborRequest ∷ kind_byte RetryJoin ∷ []

-- no call asks for a timer of kind k
unfoldable pub none_asked : {G S : Type 0} → ℕ → Machine G S → List Brought → S → Bool
none_asked k m [] s = true
none_asked k m (v ∷ vs) s = null (set_by k m v s) && none_asked k m vs (state_of m v.call s)

unfoldable pub none_numbered : {G S : Type 0} → Machine G S → List Brought → S → Bool
none_numbered m vs s = every (λ k. none_asked k m vs s) numbered_kinds

-- no call is brought before time t, nor before the one in front of it
unfoldable pub in_time_order : ℕ → List Brought → Bool
in_time_order t [] = true
in_time_order t (v ∷ vs) = leb t v.at && in_time_order v.at vs
