-- `handle` on the words of a state: the definition's answer, packed; and code 2 for words that are not well formed.
-- Assumes nothing.
use Rattle.std.specs.Prelude.{ℕ, ◌-◌, ◌≡◌, List, ◌++◌, length, take, replicate, eqb}
use Rattle.base_lists.specs.Lists.{choose}
use Rattle.base_lists.specs.Lent.{Lent, Seen}
use Rattle.spec_hyparview.specs.Handle as P
use Rattle.spec_hyparview.specs.Sides.{Side, handle_from}
use Rattle.work.specs.declared.Work.{Work}
use Rattle.hyparview_state.specs.Unpack.{unpack}
use Rattle.hyparview_rules.specs.Pack.{pack}
use Rattle.hyparview_rules.specs.Ok.{packed_ok}
use Rattle.hyparview.specs.declared.Done.{Done}
use Rattle.hyparview.specs.declared.State.{State}
use Rattle.hyparview.specs.declared.HandledState.{HandledState}

-- what a call hands back, and the words and the output as it leaves them
pub record Outcome : Type 0 where
  pub code : ℕ
  pub draws : ℕ
  pub words : List ℕ
  pub output : List ℕ

-- the places from `from` on cleared
unfoldable pub cleared : ℕ → List ℕ → List ℕ
cleared from l = take from l ++ replicate (length l - from) 0

-- "A refused call has its code, the old state, an output of zero bytes only, and 0 draws used."
unfoldable pub refused_words : ℕ → List ℕ → ℕ → Outcome
refused_words c xs room = record { code = c; draws = 0; words = xs; output = replicate room 0 }

-- the call at the end of its steps, which began at the words old and reached ys
unfoldable pub ended : List ℕ → Work → List ℕ → List ℕ → Outcome
ended old w ys out =
    choose (eqb w.code 0) (record { code = 0; draws = w.drawn; words = ys; output = cleared w.written out })
    (refused_words w.code old (length out))

-- the definition's answer with its station packed
unfoldable pub packed_answer : P.Result → Outcome
packed_answer a = record { code = a.code; draws = a.used; words = pack a.state; output = a.output }

-- `handle`: code 2 where the words are no state (another number of them, a part that is not well formed, an unused place that is not zero), else the definition's answer;
-- that a refusal leaves the very words is claimed in spec_demand/Refusal
unfoldable pub handled : List ℕ → List ℕ → List ℕ → ℕ → Outcome
handled xs b ds room = choose (packed_ok xs) (packed_answer (P.handle (unpack xs) b ds room)) (refused_words 2 xs room)

-- the same of a call that names its side (02, S-12)
unfoldable pub handled_from : Side → List ℕ → List ℕ → List ℕ → ℕ → Outcome
handled_from side xs b ds room = choose (packed_ok xs) (packed_answer (handle_from side (unpack xs) b ds room)) (refused_words 2 xs room)

-- ---- as a contract says it, of the parameters themselves

-- r, and the words and the output as the call leaves them
abbrev pub outcome_left : Done → List ℕ → Lent → Outcome
outcome_left r xs out = record { code = r.code; draws = r.draws; words = xs; output = out.exit.now }

-- the words stay, and r and the output are a refusal's
abbrev pub Refuses : ℕ → Done → Seen → Lent → Type 0
Refuses code r st out = outcome_left r st.entry.now out ≡ refused_words code st.entry.now (length out.entry.now)

-- all that the call leaves is as `handle` says: of lent words, and of a state by value
abbrev pub Handles : Done → Lent → Seen → Seen → Lent → Type 0
Handles r st b ds out =
    outcome_left r st.exit.now out ≡ handled st.entry.now b.entry.now ds.entry.now (length out.entry.now)

abbrev pub HandlesState : HandledState → State → Seen → Seen → Lent → Type 0
HandlesState r s b ds out =
    outcome_left (record { code = r.code; draws = r.draws }) r.state.words out
    ≡ handled s.words b.entry.now ds.entry.now (length out.entry.now)

-- and of a call that names its side
abbrev pub HandlesFrom : Side → Done → Lent → Seen → Seen → Lent → Type 0
HandlesFrom side r st b ds out =
    outcome_left r st.exit.now out
    ≡ handled_from side st.entry.now b.entry.now ds.entry.now (length out.entry.now)

abbrev pub HandlesStateFrom : Side → HandledState → State → Seen → Seen → Lent → Type 0
HandlesStateFrom side r s b ds out =
    outcome_left (record { code = r.code; draws = r.draws }) r.state.words out
    ≡ handled_from side s.words b.entry.now ds.entry.now (length out.entry.now)
