-- Document 02, S-12: a call is made from the wired or from the radio side, which may bring fewer nodes and reads fewer draws.
-- Assumes nothing.
use Rattle.std.specs.Prelude.{ℕ, ◌≤◌, Bool, true, false, ◌&&◌, ◌≡◌, List, length, take, get_or, eqb, leb, ltb}
use Rattle.base_lists.specs.Lists.{choose}
use Rattle.base_util.specs.Chances.{sure_end}
use Rattle.record.specs.Kinds.{Quit, kind_byte}
use Rattle.record.specs.Format.{header_length, most_nodes}
use Rattle.record.specs.Read.{Reading, refused, event, read_event}
use Rattle.spec_hyparview.specs.Station.{Station}
use Rattle.spec_hyparview.specs.Run.{Run}
use Rattle.spec_hyparview.specs.Rules.{all_under, station_ok}
use Rattle.spec_hyparview.specs.Handle.{Result, refusal, handle, start, steps}

-- "Events now arrive from a wired and a radio side, named in each call."
pub data Side : Type 0 where
  wired : Side
  radio : Side

-- as code names it
unfoldable pub side_of : Bool → Side
side_of true = radio
side_of false = wired

-- "The radio side may bring 8 nodes in a message"
abbrev pub radio_nodes : ℕ
radio_nodes = 8

-- "and reads only the first 64 draws"
abbrev pub radio_draws : ℕ
radio_draws = 64

-- the draws that a side reads
unfoldable pub draws_from : Side → List ℕ → List ℕ
draws_from wired ds = ds
draws_from radio ds = take radio_draws ds

-- byte 3 is over 8, of an event that the reader would refuse with neither 3 for its length nor 4: whatever else is wrong with it
unfoldable pub too_many : List ℕ → Bool
too_many b = leb header_length (length b) && (ltb radio_nodes (get_or b 3 0) && leb (get_or b 3 0) most_nodes)

-- "16, radio event with byte 3 over 8, tested right after 4"; else what the wired call does with the first 64 draws
unfoldable pub handle_radio : Station → List ℕ → List ℕ → ℕ → Result
handle_radio s b ds room = choose (station_ok s && too_many b) (refusal 16 s room) (handle s b (take radio_draws ds) room)

-- a call from a side
unfoldable pub handle_from : Side → Station → List ℕ → List ℕ → ℕ → Result
handle_from wired s b ds room = handle s b ds room
handle_from radio s b ds room = handle_radio s b ds room

-- how many draws a run takes up to its end or its refusal, those passed over among them; one that misses a draw has taken all
unfoldable pub run_takes : Run → ℕ
run_takes r = choose (eqb r.code 5) (length r.draws) r.used

unfoldable pub reading_takes : Reading → Station → List ℕ → ℕ → ℕ
reading_takes (refused c) s ds room = 0
reading_takes (event e) s ds room = run_takes (steps e (start s ds room))

-- how many draws the wired call takes
unfoldable pub draws_taken : Station → List ℕ → List ℕ → ℕ → ℕ
draws_taken s b ds room = choose (station_ok s) (reading_takes (read_event b) s ds room) 0

-- What is claimed of the sides

-- "An event of at most 8 nodes that needs at most 64 draws is proved to give the same answer from either side": code, state, draws used and every byte of output
abbrev pub SameFromEither : Type 0
SameFromEither =
    (s : Station) (b ds : List ℕ) (room : ℕ) → get_or b 3 0 ≤ radio_nodes → draws_taken s b ds room ≤ radio_draws
    → handle_from radio s b ds room ≡ handle_from wired s b ds room

-- whatever the event: the radio side refuses it with 16 or 5, or answers as the wired side does
abbrev pub SameUnlessRefused : Type 0
SameUnlessRefused =
    (s : Station) (b ds : List ℕ) (room : ℕ) → ((handle_from radio s b ds room).code ≡ 16 → ⊥) → ((handle_from radio s b ds room).code ≡ 5 → ⊥)
    → handle_from radio s b ds room ≡ handle_from wired s b ds room

-- the radio side uses at most 64 draws
abbrev pub FewDrawsUsed : Type 0
FewDrawsUsed = (s : Station) (b ds : List ℕ) (room : ℕ) → (handle_from radio s b ds room).used ≤ radio_draws

-- where the 64 draws are there and every choice keeps them, an event of at most 8 nodes never misses one and is answered as from the wired
-- side; only a Quit may take more, and only from three neighbours on
pub record AnsweredAsWired (s : Station) (b ds : List ℕ) (room : ℕ) : Type 0 where
  pub not_five : (handle_from radio s b ds room).code ≡ 5 → ⊥
  pub as_wired : handle_from radio s b ds room ≡ handle_from wired s b ds room

abbrev pub EnoughForRadio : Type 0
EnoughForRadio =
    (s : Station) (b ds : List ℕ) (room : ℕ) → all_under 256 b ≡ true → get_or b 3 0 ≤ radio_nodes → radio_draws ≤ length ds
    → all_under sure_end (take radio_draws ds) ≡ true → (get_or b 0 0 ≡ kind_byte Quit → length s.active ≤ 2) → AnsweredAsWired s b ds room
