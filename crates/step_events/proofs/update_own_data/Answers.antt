-- Work with a code changes nothing; else the four words written are read back as the data given.
use Rattle.spec_hyparview.specs.Events.{update_own_data}
use Rattle.hyparview_state.proofs.Bridge.{on_passed, on_done}
use Rattle.step_events.proofs.Own.{kept_own, no_own}
use borrow.Author.Rules.{rules}
use Rattle.step_events.proofs.update_own_data.Goals as goal

pub returns-then-w-ne0 : goal.returns-then-w-ne0
returns-then-w-ne0 c = search on_passed

pub returns-in-Some : goal.returns-in-Some
unfolding update_own_data
returns-in-Some c = on_done _ (search rules) _ _ (search rules) (λ _. kept_own _ (search rules) _ _ _ _ c.in-Some.is (search rules) (search rules))

pub returns-in-None : goal.returns-in-None
unfolding update_own_data
returns-in-None c = on_done _ (search rules) _ _ (search rules) (λ _. no_own _ (search rules) _ c.in-None.is)
