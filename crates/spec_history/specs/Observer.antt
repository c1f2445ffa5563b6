-- Document 02, S-2: what an observer, such as a panel, can know of the spare addresses, the passive view, that is shown each event and the notices and data of its output.
-- Assumes nothing.
use Rattle.std.specs.Prelude.{ℕ, ◌+◌, List, [], ◌∷◌, ◌≡◌}
use Rattle.base_lists.specs.Lists.{choose, is, count}
use Rattle.base_timing.specs.declared.Config.{Config}
use Rattle.base_peer.specs.Data.{Data}
use Rattle.record.specs.Kinds.{is_output_kind}
use Rattle.record.specs.Walk.{kind_in}
use Rattle.spec_hyparview.specs.Run.{Run}
use Rattle.spec_hyparview.specs.Peers.{is_newcomer, add_passive}
use Rattle.spec_hyparview.specs.Evictions.{by_adding}
use Rattle.spec_hyparview.specs.Handle.{new}
use Rattle.spec_history.specs.Calls.{Call, Machine, state_of, output_of, state_after, definition}
use Rattle.spec_history.specs.Outputs.{cut_records}

-- of an output's records those that stand in outputs alone
unfoldable pub shown : List (List ℕ) → List (List ℕ)
shown [] = []
shown (b ∷ bs) = choose (is_output_kind (kind_in b)) (b ∷ shown bs) (shown bs)

-- of each call its event, and these records of its output
unfoldable pub hears : {G S : Type 0} → Machine G S → List Call → S → List (List ℕ × List (List ℕ))
hears m [] s = []
hears m (v ∷ vs) s = (v.event, shown (cut_records (output_of m v s))) ∷ hears m vs (state_of m v s)

-- "the panel's own list is right": whoever hears the same holds the same spare addresses. Refuted (proofs/Observer): not so, since a peer that does not
-- answer is dropped by a timer, and which peer was asked, a draw decides, which only the messages and timers of the output tell.
abbrev pub ObserverCanTell : Type 0
ObserverCanTell =
    (me : ℕ) (d : Data) (c : Config) (vs ws : List Call) → hears definition vs (new me d c).state ≡ hears definition ws (new me d c).state
    → (state_after definition vs (new me d c).state).passive ≡ (state_after definition ws (new me d c).state).passive

-- What does hold, of each addition that is not refused: the spare addresses change by the newcomer and by whom the record of kind 12 names, and by nobody else
abbrev pub AdditionsTold : Type 0
AdditionsTold =
    (p : ℕ) (d : Data) (r : Run) → (add_passive p d r).code ≡ 0 → (x : ℕ)
    → count x (add_passive p d r).station.passive + count x (by_adding p d r) ≡ count x r.station.passive + choose (is_newcomer p r.station) (is x p) 0
