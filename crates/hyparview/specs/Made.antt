-- What `new` answers, and what it makes of the words it is lent.
-- Assumes nothing.
use Rattle.std.specs.Prelude.{ℕ, ◌≡◌, Bool, List, length, eqb}
use Rattle.std.proofs.Math.Option.{none, some}
use Rattle.base_lists.specs.Lists.{choose}
use Rattle.base_lists.specs.Lent.{Lent, Seen}
use Rattle.base_peer.specs.Data.{Data}
use Rattle.base_timing.specs.declared.Config.{Config}
use Rattle.spec_hyparview.specs.Handle as handle
use Rattle.hyparview_state.specs.Layout.{words}
use Rattle.hyparview_rules.specs.Pack.{pack}
use Rattle.hyparview.specs.declared.MadeState.{MadeState}

-- own data as it is lent: the bytes, or absent; empty is not absent
unfoldable pub lent : Bool → List ℕ → Data
lent present b = choose present (some b) none

-- the code, and every word, as the call leaves them
pub record MadeWords : Type 0 where
  pub code : ℕ
  pub words : List ℕ

-- the definition's answer with its state packed; a refused one has code 1 and "a state of zeroes", which is a list of zeroes by `zero_words`
unfoldable pub pack_made : handle.Made → MadeWords
pack_made m = record { code = m.code; words = pack m.state }

-- State::new on the words xs; code 2, and the words as they were, where there are not as many as a state has
unfoldable pub made : List ℕ → ℕ → Data → Config → MadeWords
made xs me d c = choose (eqb (length xs) words) (pack_made (handle.new me d c)) (record { code = 2; words = xs })

-- ---- as a contract says it, of the parameters themselves

-- the code and the words that the call leaves are as `new` says: of lent words, and of a state by value
abbrev pub Starts : ℕ → Lent → ℕ → Bool → Seen → Config → Type 0
Starts code st me present own c =
    record { code = code; words = st.exit.now } ≡ made st.entry.now me (lent present own.entry.now) c

abbrev pub StartsState : MadeState → ℕ → Bool → Seen → Config → Type 0
StartsState r me present own c =
    record { code = r.code; words = r.state.words } ≡ pack_made (handle.new me (lent present own.entry.now) c)
