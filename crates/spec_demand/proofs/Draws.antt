-- How many draws must be lent: 253 do not suffice, nor do 512 that are passed over.
-- Assumes nothing.
use Prim.Native.Nat.{ℕ}
use mathlib.Core.Path.{◌≡◌, refl, ap, ◌∙◌}
use mathlib.Core.Bool.{true}
use mathlib.Core.List.{[], ◌∷◌}
use mathlib.Core.Option.{none}
use lib.ListN.{replicate}
use Rattle.base_timing.specs.declared.Config.{Config}
use Rattle.base_timing.specs.Timing.{default, most_active, most_passive, most_shuffle_active, most_shuffle_passive}
use Rattle.record.specs.Kinds.{Quit, kind_byte}
use Rattle.record.specs.Format.{encode}
use Rattle.spec_hyparview.specs.Sides.{wired, handle_from}
use Rattle.spec_hyparview.specs.Station.{Station}
use Rattle.spec_hyparview.specs.Setters.{set_active, set_passive}
use Rattle.spec_hyparview.specs.Rules.{station_ok}
use Rattle.spec_hyparview.specs.Run.{notice}
use Rattle.spec_hyparview.specs.Handle.{new_station}
use Rattle.spec_hyparview.specs.Traced.{traced}
use Rattle.spec_history.specs.Calls.{Call, result_of, answered, code_of}
use Rattle.hyparview_rules.specs.Pack.{pack}
use Rattle.hyparview.specs.Room.{output_room}
use Rattle.hyparview.specs.Handled.{Outcome, packed_answer}
use Rattle.spec_demand.specs.Program.{program}
use Rattle.spec_demand.proofs.Program.{answers_packed}

-- the default settings with the largest views and shuffles: replies of 31 peers, where 30 are passive
unfoldable pub largest : Config
largest = record {
  active_view_capacity = most_active;
  passive_view_capacity = most_passive;
  active_random_walk_length = default.active_random_walk_length;
  passive_random_walk_length = default.passive_random_walk_length;
  shuffle_random_walk_length = default.shuffle_random_walk_length;
  shuffle_active_view_count = most_shuffle_active;
  shuffle_passive_view_count = most_shuffle_passive;
  shuffle_interval = default.shuffle_interval;
  neighbor_request_timeout = default.neighbor_request_timeout;
}

-- a new station but for eight neighbours and thirty passive peers: each of the eight replies shuffles both views, and the first timer takes a draw
unfoldable pub full : Station
full =
    set_active (2 ∷ 3 ∷ 4 ∷ 5 ∷ 6 ∷ 7 ∷ 8 ∷ 9 ∷ [])
    (set_passive (10 ∷ 11 ∷ 12 ∷ 13 ∷ 14 ∷ 15 ∷ 16 ∷ 17 ∷ 18 ∷ 19 ∷ 20 ∷ 21 ∷ 22 ∷ 23 ∷ 24 ∷ 25 ∷ 26 ∷ 27 ∷ 28 ∷ 29 ∷ 30 ∷ 31 ∷ 32 ∷ 33 ∷ 34 ∷ 35 ∷ 36 ∷ 37 ∷ 38 ∷ 39 ∷ [])
    (new_station 1 none largest))

-- a Quit with n draws, each of them d
unfoldable pub quits : ℕ → ℕ → Call
unfolding traced
quits n d = record { side = wired; event = encode (notice (kind_byte Quit) 0); are_bytes = refl; draws = replicate n d; output = replicate output_room 0 }

pub full_is_fine : station_ok full ≡ true
unfolding traced full largest default
full_is_fine = refl

pub takes_254 : (result_of (quits 254 0) full).used ≡ 254
unfolding traced handle_from full largest default quits answered
takes_254 = refl

five : (result_of (quits 253 0) full).code ≡ 5
unfolding traced handle_from full largest default quits answered
five = refl

-- of the program: with 253 draws and 8,192 bytes, at words that keep the rules, the answer is 5
pub too_few : code_of program (quits 253 0) (pack full) ≡ 5
unfolding packed_answer
too_few = ap (λ (o : Outcome). o.code) (answers_packed (quits 253 0) full full_is_fine) ∙ five

-- 02, S-6: "A list of 512 can now be short": the choice of one of 30 peers passes over a draw of 2^32 - 1
five_of_512 : (result_of (quits 512 4294967295) full).code ≡ 5
unfolding traced handle_from full largest default quits answered
five_of_512 = refl

pub short_of_512 : code_of program (quits 512 4294967295) (pack full) ≡ 5
unfolding packed_answer
short_of_512 = ap (λ (o : Outcome). o.code) (answers_packed (quits 512 4294967295) full full_is_fine) ∙ five_of_512
