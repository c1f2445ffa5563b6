-- A station's history: a list of calls, each meeting the state that the one before it handed back.
-- It is said of any machine that is called; the definition is one, and the program another.
-- Assumes nothing.
use Rattle.std.specs.Prelude.{ℕ, ◌<◌, Bool, true, ◌&&◌, List, [], ◌∷◌, ◌≡◌, length}
use Rattle.base_peer.specs.Data.{Data, bytes_of}
use Rattle.spec_hyparview.specs.Station.{Station, peers_end, draws_end, bytes_end}
use Rattle.spec_hyparview.specs.Rules.{all_under}
use Rattle.spec_hyparview.specs.Handle.{Result, new}
use Rattle.spec_hyparview.specs.Sides.{Side, handle_from}
use Rattle.base_timing.specs.declared.Config.{Config}
use Rattle.spec_history.specs.Ledger.{Ledger, feed}

-- "Each event is one `handle` .. with any event bytes, draws and output, whatever the output held", from either side (02, S-12)
pub record Call : Type 0 where
  pub side : Side
  pub event : List ℕ
  pub are_bytes : all_under 256 event ≡ true
  pub draws : List ℕ
  pub output : List ℕ

-- draws have 32 bits, as their type in the code says; of the claims only those on a delay's width ask for it
unfoldable pub narrow_draws : List Call → Bool
narrow_draws [] = true
narrow_draws (v ∷ vs) = all_under draws_end v.draws && narrow_draws vs

-- what `new` is given: a peer is a 64-bit number (02, S-8), and own data is bytes
pub record NewGiven (me : ℕ) (d : Data) : Type 0 where
  pub narrow : me < peers_end
  pub are_bytes : all_under bytes_end (bytes_of d) ≡ true

-- what is called, with states of the type S. `new` is given self, what is lent for the new state and the own data in it (of the type G), and settings; its answer is a code and a state.
-- `handle` is given a side, an event, draws and an output, at a state; its answer is the code, the state handed back, the draws used, and the output as the call left it
pub record Machine (G S : Type 0) : Type 0 where
  pub own : G → Data
  pub new_code : ℕ → G → Config → ℕ
  pub new_state : ℕ → G → Config → S
  pub code : Side → List ℕ → List ℕ → List ℕ → S → ℕ
  pub state : Side → List ℕ → List ℕ → List ℕ → S → S
  pub used : Side → List ℕ → List ℕ → List ℕ → S → ℕ
  pub output : Side → List ℕ → List ℕ → List ℕ → S → List ℕ

abbrev pub code_of : {G S : Type 0} → Machine G S → Call → S → ℕ
code_of m v s = m.code v.side v.event v.draws v.output s

abbrev pub state_of : {G S : Type 0} → Machine G S → Call → S → S
state_of m v s = m.state v.side v.event v.draws v.output s

abbrev pub output_of : {G S : Type 0} → Machine G S → Call → S → List ℕ
output_of m v s = m.output v.side v.event v.draws v.output s

-- the state that the last call handed back
unfoldable pub state_after : {G S : Type 0} → Machine G S → List Call → S → S
state_after m [] s = s
state_after m (v ∷ vs) s = state_after m vs (state_of m v s)

-- the code of each call
unfoldable pub codes : {G S : Type 0} → Machine G S → List Call → S → List ℕ
codes m [] s = []
codes m (v ∷ vs) s = code_of m v s ∷ codes m vs (state_of m v s)

-- the ledger, which knows the active capacity a, and is fed with each event, its code and its output
unfoldable pub ledger_after : {G S : Type 0} → Machine G S → ℕ → List Call → S → Ledger → Ledger
ledger_after m a [] s l = l
ledger_after m a (v ∷ vs) s l = ledger_after m a vs (state_of m v s) (feed a v.event (code_of m v s) (output_of m v s) l)

-- the definition's answer
unfoldable pub answered : Side → List ℕ → List ℕ → List ℕ → Station → Result
answered side b ds out s = handle_from side s b ds (length out)

abbrev pub result_of : Call → Station → Result
result_of v s = answered v.side v.event v.draws v.output s

-- what X says of self, settings and state holds of every new station: of one that `new`, given a 64-bit number and data of bytes, answered with code 0
abbrev pub AfterNew : {G S : Type 0} → Machine G S → (ℕ → Config → S → Type 0) → Type 0
AfterNew {G = G} m X = (me : ℕ) (g : G) (c : Config) → NewGiven me (m.own g) → m.new_code me g c ≡ 0 → X me c (m.new_state me g c)

-- the definition as a machine
abbrev pub definition : Machine Data Station
definition = record {
  own = λ d. d;
  new_code = λ me d c. (new me d c).code;
  new_state = λ me d c. (new me d c).state;
  code = λ side b ds out s. (answered side b ds out s).code;
  state = λ side b ds out s. (answered side b ds out s).state;
  used = λ side b ds out s. (answered side b ds out s).used;
  output = λ side b ds out s. (answered side b ds out s).output;
}
