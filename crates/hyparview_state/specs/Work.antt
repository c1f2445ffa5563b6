-- The contract shapes of crate work, at the words of a station.
-- Assumes nothing.
use Rattle.std.specs.Prelude.{ℕ, List}
use Rattle.spec_hyparview.specs.Run.{Run}
use Rattle.work.specs.declared.Work.{Work}
use Rattle.work.specs.Work as work
pub use Rattle.work.specs.Work.{Held, work_of, Slice, MutSlice, Lent, Seen, Stateless, ChangesAny, DrawsAny, TellsAny, Emits}
unfoldable pub use Rattle.work.specs.Work.{run_of}
use Rattle.hyparview_state.specs.Unpack.{station_form}

abbrev pub run : Held → List ℕ → List ℕ → Run
run = work.run_of station_form

abbrev pub Changes : (Run → Run) → Held → Held → Type 0
Changes = work.Changes station_form

abbrev pub Room : Held → List ℕ → Type 0
Room = work.Room station_form

abbrev pub Tells : (Run → Run) → Held → Held → List ℕ → List ℕ → Type 0
Tells = work.Tells station_form

abbrev pub Fine : Held → List ℕ → List ℕ → Type 0
Fine = work.Fine station_form

abbrev pub Does : Held → List ℕ → List ℕ → Run → Type 0
Does = work.Does station_form

-- ---- as a contract says it, of the parameters themselves

abbrev pub GivenRoom : Work → MutSlice → MutSlice → Type 0
GivenRoom = work.GivenRoom station_form

abbrev pub Given : Work → MutSlice → Slice → MutSlice → Type 0
Given = work.Given station_form

abbrev pub Meets : (Run → Type 0) → Work → MutSlice → Slice → MutSlice → Type 0
Meets = work.Meets station_form

abbrev pub run_met : Work → Lent → Seen → Lent → Run
run_met = work.run_met station_form

abbrev pub Alters : (Run → Run) → Work → Work → Lent → Type 0
Alters = work.Alters station_form

abbrev pub Says : (Run → Run) → Work → Work → Lent → Lent → Type 0
Says = work.Says station_form

abbrev pub Makes : (Run → Run) → Work → Work → Lent → Seen → Lent → Type 0
Makes = work.Makes station_form

-- the same of a step that only reads the words
abbrev pub GivenRoomSeen : Work → Slice → MutSlice → Type 0
GivenRoomSeen = work.GivenRoomSeen station_form

abbrev pub GivenSeen : Work → Slice → Slice → MutSlice → Type 0
GivenSeen = work.GivenSeen station_form

abbrev pub SaysSeen : (Run → Run) → Work → Work → Seen → Lent → Type 0
SaysSeen = work.SaysSeen station_form

abbrev pub MakesSeen : (Run → Run) → Work → Work → Seen → Seen → Lent → Type 0
MakesSeen = work.MakesSeen station_form
