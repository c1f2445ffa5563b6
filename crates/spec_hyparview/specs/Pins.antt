-- Document 02, S-14: whom a demotion picks, and which events may cost a pinned neighbour its place.
-- Assumes nothing.
use Rattle.std.specs.Prelude.{ℕ, ◌/◌, ◌≡◌, Bool, true, false, ◌&&◌, ◌||◌, List, [], ◌∷◌, ◌++◌, length, get_or, eqb}
use Rattle.base_lists.specs.Lists.{choose, null, mem, distinct}
use Rattle.base_util.specs.Chances.{all_draws, is_kept, pick}
use Rattle.base_util.specs.Equal.{count_below, none_kept}
use Rattle.record.specs.Kinds.{Message, PeerDisconnected, Quit, Pin, kind_byte}
use Rattle.record.specs.Format.{Rec}
use Rattle.record.specs.Read.{rec_of}
use Rattle.spec_hyparview.specs.Station.{Station, is_alone, active_is_full, without_pin}
use Rattle.spec_hyparview.specs.Run.{Run, one_of, draw_one_of}
use Rattle.spec_hyparview.specs.Active.{random, remove_active_by_index, free_random_slot_in_active_view}
use Rattle.spec_hyparview.specs.Rules.{settings_rule, pins_rule}
use Rattle.spec_hyparview.specs.Handle.{handle}

-- "so a High arrival always finds a place": at a full view somebody can be demoted. In the midst of an event the data of the peer that
-- arrives may be held before its place is free, so of the station rules only those are asked that speak of views and pins.
abbrev pub FindsOne : Type 0
FindsOne =
    (s : Station) → settings_rule s ≡ true → distinct s.active ≡ true → pins_rule s ≡ true → active_is_full s ≡ true
    → null (without_pin s) ≡ false

-- without pins the step is that of hyparview.rs
abbrev pub OldWithoutPins : Type 0
OldWithoutPins =
    (r : Run) → distinct r.station.active ≡ true → r.station.pins ≡ []
    → free_random_slot_in_active_view r
    ≡ choose (is_alone r.station) r (remove_active_by_index (one_of (length r.station.active) r) random (draw_one_of (length r.station.active) r))

-- the draw d is kept for the neighbours without a pin, and where it stands after the draws `over` and before the draws `more` p is picked
unfoldable pub demotes : Station → ℕ → List ℕ → List ℕ → ℕ → Bool
demotes s p over more d = is_kept (length (without_pin s)) d && eqb (get_or (without_pin s) (pick (length (without_pin s)) (over ++ (d ∷ more))) 0) p

-- of the draws kept each neighbour without a pin is picked by equally many, a pinned one by none
abbrev pub EqualDemotions : Type 0
EqualDemotions =
    (s : Station) → distinct s.active ≡ true → (p : ℕ) (over more : List ℕ) → none_kept (length (without_pin s)) over ≡ true → mem p (without_pin s) ≡ true
    → count_below (demotes s p over more) all_draws ≡ all_draws / length (without_pin s)

abbrev pub PinnedNeverPicked : Type 0
PinnedNeverPicked =
    (s : Station) (p : ℕ) (over more : List ℕ) → null (without_pin s) ≡ false → mem p s.pins ≡ true → count_below (demotes s p over more) all_draws ≡ 0

-- ---- pins given and partings

-- an accepted event of kind 13 pins its peer
abbrev pub PinGiven : Type 0
PinGiven =
    (s : Station) (b ds : List ℕ) (room : ℕ) → (rec_of b).kind ≡ kind_byte Pin → (handle s b ds room).code ≡ 0
    → mem (rec_of b).peer (handle s b ds room).state.pins ≡ true

-- a Disconnect from p, which is message 5
unfoldable pub disconnects : ℕ → Rec → Bool
disconnects p e = eqb e.kind (kind_byte Message) && (eqb e.message 5 && eqb e.peer p)

-- "must not lose each other to a chance demotion": p goes by its own Disconnect, its closed connection or a Quit, and by nothing else
unfoldable pub is_parting : ℕ → Rec → Bool
unfolding disconnects
is_parting p e = eqb e.kind (kind_byte Quit) || ((eqb e.kind (kind_byte PeerDisconnected) && eqb e.peer p) || disconnects p e)
