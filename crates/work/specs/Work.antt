-- The run that a `Work` and the words stand for, and what a step in code has to do: four contract shapes, by what the step is lent beside the words.
-- Assumes nothing.
use Rattle.std.specs.Prelude.{ℕ, ◌+◌, ◌≤◌, ◌≡◌, List, [], length, take, Option, Some, None}
pub use Rattle.base_lists.specs.Lent.{Slice, MutSlice, Lent, Seen}
use Rattle.work.specs.declared.Work.{Work}
use Rattle.work.specs.Run.{Run, draw}

-- what the words of a state stand for, and which words stand for one
pub record Form (S : Type 0) : Type 1 where
  pub unpack : List ℕ → S
  pub Packed : List ℕ → Type 0

-- the words are packed, and stand for the state g
pub record Becomes {S : Type 0} (F : Form S) (xs : List ℕ) (g : S) : Type 0 where
  pub packed : F.Packed xs
  pub same : F.unpack xs ≡ g

-- a `Work` with the words that it goes with
pub record Held : Type 0 where
  pub state : List ℕ
  pub drawn : ℕ
  pub written : ℕ
  pub code : ℕ

abbrev pub work_of : Work → List ℕ → Held
work_of w xs = record { state = xs; drawn = w.drawn; written = w.written; code = w.code }

-- the run that w, the draws and the output stand for
unfoldable pub run_of : {S : Type 0} → Form S → Held → List ℕ → List ℕ → Run S
run_of F w ds out = record {
  station = F.unpack w.state;
  draws = ds;
  used = w.drawn;
  room = length out;
  out = take w.written out;
  code = w.code;
}

-- a step that is lent the words alone makes r of w, whatever the draws and the output are
pub record Changes {S : Type 0} (F : Form S) (step : Run S → Run S) (w r : Held) : Type 0 where
  pub packed : F.Packed r.state
  pub drawn : r.drawn ≡ w.drawn
  pub written : r.written ≡ w.written
  pub same : (ds out : List ℕ) → run_of F r ds out ≡ step (run_of F w ds out)

-- what a step that is lent the draws may count on
pub record Ready {S : Type 0} (F : Form S) (w : Held) (ds : List ℕ) : Type 0 where
  pub packed : F.Packed w.state
  pub drawn : w.drawn ≤ length ds

-- a step that is lent the draws makes r of w, whatever the output is
pub record DrawsFrom {S : Type 0} (F : Form S) (step : Run S → Run S) (w r : Held) (ds : List ℕ) : Type 0 where
  pub ready : Ready F r ds
  pub written : r.written ≡ w.written
  pub same : (out : List ℕ) → run_of F r ds out ≡ step (run_of F w ds out)

-- what a step that is lent the output may count on
pub record Room {S : Type 0} (F : Form S) (w : Held) (out : List ℕ) : Type 0 where
  pub packed : F.Packed w.state
  pub written : w.written ≤ length out

-- a step that is lent the output makes r of w, and o of the output, whatever the draws are
pub record Tells {S : Type 0} (F : Form S) (step : Run S → Run S) (w r : Held) (out o : List ℕ) : Type 0 where
  pub room : Room F r o
  pub drawn : r.drawn ≡ w.drawn
  pub same : (ds : List ℕ) → run_of F r ds o ≡ step (run_of F w ds out)

-- what a step that is lent the draws and the output may count on
pub record Fine {S : Type 0} (F : Form S) (w : Held) (ds out : List ℕ) : Type 0 where
  pub ready : Ready F w ds
  pub written : w.written ≤ length out

-- a step that is lent both hands back w, which is fine and stands for the run g
pub record Does {S : Type 0} (F : Form S) (w : Held) (ds out : List ℕ) (g : Run S) : Type 0 where
  pub fine : Fine F w ds out
  pub same : run_of F w ds out ≡ g

-- ---- the same as a contract says it, of the parameters themselves

-- what a step may count on that is lent words and output; words, draws and output
abbrev pub GivenRoom : {S : Type 0} → Form S → Work → MutSlice → MutSlice → Type 0
GivenRoom F w st out = Room F (work_of w st.now) out.now

abbrev pub Given : {S : Type 0} → Form S → Work → MutSlice → Slice → MutSlice → Type 0
Given F w st ds out = Fine F (work_of w st.now) ds.now out.now

-- what else holds of the run that it meets
abbrev pub Meets : {S : Type 0} → Form S → (Run S → Type 0) → Work → MutSlice → Slice → MutSlice → Type 0
Meets F P w st ds out = P (run_of F (work_of w st.now) ds.now out.now)

-- the run that a step met
abbrev pub run_met : {S : Type 0} → Form S → Work → Lent → Seen → Lent → Run S
run_met F w st ds out = run_of F (work_of w st.entry.now) ds.entry.now out.entry.now

-- it makes r of w, and of what it was lent what the definition's step makes: lent the words; and output; and draws
abbrev pub Alters : {S : Type 0} → Form S → (Run S → Run S) → Work → Work → Lent → Type 0
Alters F step w r st = Changes F step (work_of w st.entry.now) (work_of r st.exit.now)

abbrev pub Says : {S : Type 0} → Form S → (Run S → Run S) → Work → Work → Lent → Lent → Type 0
Says F step w r st out = Tells F step (work_of w st.entry.now) (work_of r st.exit.now) out.entry.now out.exit.now

abbrev pub Makes : {S : Type 0} → Form S → (Run S → Run S) → Work → Work → Lent → Seen → Lent → Type 0
Makes F step w r st ds out = Does F (work_of r st.exit.now) ds.entry.now out.exit.now (step (run_met F w st ds out))

-- the same of a step that only reads the words
abbrev pub GivenRoomSeen : {S : Type 0} → Form S → Work → Slice → MutSlice → Type 0
GivenRoomSeen F w st out = Room F (work_of w st.now) out.now

abbrev pub GivenSeen : {S : Type 0} → Form S → Work → Slice → Slice → MutSlice → Type 0
GivenSeen F w st ds out = Fine F (work_of w st.now) ds.now out.now

abbrev pub SaysSeen : {S : Type 0} → Form S → (Run S → Run S) → Work → Work → Seen → Lent → Type 0
SaysSeen F step w r st out = Tells F step (work_of w st.entry.now) (work_of r st.exit.now) out.entry.now out.exit.now

abbrev pub MakesSeen : {S : Type 0} → Form S → (Run S → Run S) → Work → Work → Seen → Seen → Lent → Type 0
MakesSeen F step w r st ds out = Does F (work_of r st.exit.now) ds.entry.now out.exit.now (step (run_of F (work_of w st.entry.now) ds.entry.now out.entry.now))

-- ---- a step that is not lent the words: what it does to the run that has no state; the laws of proofs/Any take it to any state

-- no state: every words stand for it
abbrev pub stateless : Form Unit
stateless = record { unpack = λ _. tt; Packed = λ _. Unit }

-- the run of w with no state
abbrev pub no_state : Work → List ℕ → List ℕ → Run Unit
no_state w ds out = run_of stateless (work_of w []) ds out

-- a step of runs with no state
abbrev pub Stateless : Type 0
Stateless = Run Unit → Run Unit

pub record ChangesAny (step : Stateless) (w r : Work) : Type 0 where
  pub drawn : r.drawn ≡ w.drawn
  pub written : r.written ≡ w.written
  pub same : (ds out : List ℕ) → no_state r ds out ≡ step (no_state w ds out)

pub record DrawsAny (step : Stateless) (w r : Work) (ds : List ℕ) : Type 0 where
  pub drawn : r.drawn ≤ length ds
  pub written : r.written ≡ w.written
  pub same : (out : List ℕ) → no_state r ds out ≡ step (no_state w ds out)

-- the draws before `next` are taken, however their number is said
pub record Reaches (next : ℕ) (w r : Work) (ds : List ℕ) : Type 0 where
  pub taken : (n : ℕ) → next ≡ w.drawn + n → DrawsAny (draw n) w r ds

pub record TellsAny (step : Stateless) (w r : Work) (out o : List ℕ) : Type 0 where
  pub drawn : r.drawn ≡ w.drawn
  pub written : r.written ≤ length o
  pub same : (ds : List ℕ) → no_state r ds o ≡ step (no_state w ds out)

-- the same of the parameters themselves
abbrev pub Emits : Stateless → Work → Work → Lent → Type 0
Emits step w r out = TellsAny step w r out.entry.now out.exit.now

-- the work after a record: the place reached, or code 9
unfoldable pub after_record : Option ℕ → Work → Work
after_record (Some n) w = record { drawn = w.drawn; written = n; code = w.code }
after_record None w = record { drawn = w.drawn; written = w.written; code = 9 }
