-- What adding to the passive view answers (document 02, S-2).
-- Assumes nothing.
use Rattle.std.specs.Prelude.{ℕ, ◌≡◌, List, Some, None}
use Rattle.std.specs.Prelude as prelude
use Rattle.std.proofs.Math.Option.{Option, none, some}
use Rattle.spec_hyparview.specs.Run.{Run}
use Rattle.work.specs.declared.Work.{Work}
use Rattle.hyparview_state.specs.Work.{Lent, Seen, work_of, Does, run_met}
use Rattle.step_peers.specs.declared.Added.{Added}

-- the peer that an answer names
unfoldable pub named_in : prelude.Option ℕ → Option ℕ
named_in None = none
named_in (Some p) = some p

-- the answer's work and words stand for the run g, and it names x
pub record Adds (r : Added) (xs ds out : List ℕ) (g : Run) (x : Option ℕ) : Type 0 where
  pub does : Does (work_of r.work xs) ds out g
  pub named : named_in r.evicted ≡ x

-- the same as a contract says it: the step makes the run of what it met, and names the peer that it evicts
abbrev pub Evicts : (Run → Run) → (Run → Option ℕ) → Work → Added → Lent → Seen → Lent → Type 0
Evicts step evicted w r st ds out = Adds r st.exit.now ds.entry.now out.exit.now (step (run_met w st ds out)) (evicted (run_met w st ds out))
