-- Worked cases, evaluated.
-- Assumes nothing.
use Prim.Native.Nat.{ℕ}
use mathlib.Core.Path.{◌≡◌, refl}
use mathlib.Core.List.{List, [], ◌∷◌}
use mathlib.Core.Bool.{true}
use mathlib.Core.Option.{none}
use lib.ListN.{length, replicate}
use Rattle.base_timing.specs.Timing.{default}
use Rattle.spec_hyparview.specs.Sides.{wired}
use Rattle.spec_history.specs.Calls.{Call, definition}
use Rattle.spec_history.specs.Followed.{followed}
use Rattle.spec_history.specs.Rejoin.{Tick, is_tick, ticks, all_alone}
use Rattle.spec_hyparview.specs.Handle.{new}

-- RequestJoin 7
abbrev pub request_join_7 : List ℕ
request_join_7 = 6 ∷ 0 ∷ 0 ∷ 0 ∷ 7 ∷ 0 ∷ 0 ∷ 0 ∷ 0 ∷ 0 ∷ 0 ∷ 0 ∷ 0 ∷ 0 ∷ 0 ∷ 0 ∷ 0 ∷ 0 ∷ 0 ∷ 0 ∷ 0 ∷ 0 ∷ 32 ∷ 0 ∷ 0 ∷ 0 ∷ 0 ∷ 0 ∷ 0 ∷ 0 ∷ 0 ∷ 0 ∷ []

unfoldable pub the_listing : Call
unfolding followed
the_listing = record { side = wired; event = request_join_7; are_bytes = refl; draws = 0 ∷ []; output = replicate 200 0 }

-- "After the listing below the set is empty, with messages 1 and allowance 1."
pub listing : (followed 1 none default (the_listing ∷ [])).0 ≡ record { up = []; sent = 1; allowance = 1 }
unfolding followed the_listing
listing = refl

-- The rejoin promise speaks of something: 12 maintenance timers after the listing all meet both views empty.
unfoldable pub maintenance : Call
unfolding followed
maintenance = record {
  side = wired;
  event = 2 ∷ 0 ∷ 0 ∷ 0 ∷ 0 ∷ 0 ∷ 0 ∷ 0 ∷ 0 ∷ 0 ∷ 0 ∷ 0 ∷ 0 ∷ 0 ∷ 0 ∷ 0 ∷ 0 ∷ 0 ∷ 0 ∷ 0 ∷ 0 ∷ 0 ∷ 32 ∷ 0 ∷ 0 ∷ 0 ∷ 0 ∷ 0 ∷ 0 ∷ 0 ∷ 0 ∷ 0 ∷ [];
  are_bytes = refl;
  draws = [];
  output = replicate 100 0;
}

unfoldable pub cut_off : List Tick
cut_off = ticks definition (λ s. s) (the_listing ∷ replicate 12 maintenance) (new 1 none default).state

pub twelve_ticks : length cut_off ≡ 12
unfolding followed the_listing maintenance cut_off ticks is_tick
twelve_ticks = refl

pub twelve_alone : all_alone cut_off ≡ true
unfolding followed the_listing maintenance cut_off ticks is_tick all_alone
twelve_alone = refl
