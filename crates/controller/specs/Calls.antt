-- What the calls that change a station leave in the words and the tally that they are lent.
-- Assumes nothing.
use Rattle.std.specs.Prelude.{ℕ, ◌≡◌, not, List, length, eqb}
use Rattle.std.specs.Borrow.{MutBor}
use denote.Triple.Both.{Both}
use Rattle.base_lists.specs.Lists.{choose}
use Rattle.base_lists.specs.Lent.{Lent, Seen}
use Rattle.base_timing.specs.declared.Config.{Config}
use Rattle.base_peer.specs.Data.{Data}
use Rattle.spec_hyparview.specs.Sides.{Side}
use Rattle.tally.specs.declared.Tally.{Tally}
use Rattle.tally.specs.Counts.{raised}
use Rattle.tally.specs.History.{no_messages}
use Rattle.hyparview.specs.Made.{lent, MadeWords, made}
use Rattle.hyparview.specs.Handled.{Outcome, handled_from}
use Rattle.hyparview.specs.declared.Done.{Done}

-- the header that the library goes with
abbrev pub version : ℕ
version = 3

-- what `hyparview_new` hands back, and the words and the tally as it leaves them
pub record Begun : Type 0 where
  pub code : ℕ
  pub words : List ℕ
  pub tally : Tally

-- State::new with the tally t beside it, which becomes zeroes, and stays where the words are too few or too many
unfoldable pub with_tally : Tally → MadeWords → Begun
with_tally t m = record { code = m.code; words = m.words; tally = choose (eqb m.code 2) t no_messages }

-- `hyparview_new` at the words xs and the tally t
unfoldable pub begun : List ℕ → Tally → ℕ → Data → Config → Begun
begun xs t me d c = with_tally t (made xs me d c)

-- what `hyparview_handle` hands back, and the words, the tally and the output as it leaves them
pub record Called : Type 0 where
  pub code : ℕ
  pub draws : ℕ
  pub words : List ℕ
  pub tally : Tally
  pub output : List ℕ

-- an answer of `handle` with the tally t beside it, "raised once an event is accepted"
unfoldable pub tallied : Tally → Outcome → Called
tallied t o = record { code = o.code; draws = o.draws; words = o.words; tally = raised o.code o.output t; output = o.output }

-- `hyparview_handle` from a side, at the words xs and the tally t, with as many bytes of output; that a refusal leaves both as they were is claimed in spec_demand_calls/Refusal
unfoldable pub called : Side → List ℕ → Tally → List ℕ → List ℕ → ℕ → Called
called side xs t b ds room = tallied t (handled_from side xs b ds room)

-- ---- as a contract says it, of the parameters themselves

-- the code, the words and the tally `after` are as `begun` says, where the tally was `before`
abbrev pub CallsNew : ℕ → Tally → Lent → Tally → ℕ → ℕ → Seen → Config → Type 0
CallsNew code after st before me present own c =
    record { code = code; words = st.exit.now; tally = after }
    ≡ begun st.entry.now before me (lent (not (eqb present 0)) own.entry.now) c

-- a tally that is lent
abbrev pub LentTally : Type 0
LentTally = Both (MutBor Tally) (MutBor Tally)

-- all that the call leaves is as `called` says
abbrev pub CallsHandle : Side → Done → Lent → LentTally → Seen → Seen → Lent → Type 0
CallsHandle side r st t event ds out =
    record { code = r.code; draws = r.draws; words = st.exit.now; tally = t.exit.now; output = out.exit.now }
    ≡ called side st.entry.now t.entry.now event.entry.now ds.entry.now (length out.entry.now)
