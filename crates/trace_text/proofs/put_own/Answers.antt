-- By cases on the mark: data that is there is shown in hex, absent data as a dash.
use Rattle.trace_text.specs.Items.{ascii}
use Rattle.trace_text.proofs.Laws.{own_none, own_some}
use Rattle.trace_text.proofs.put_own.Goals as goal

pub returns-then-st-eq1 : goal.returns-then-st-eq1
unfolding ascii
returns-then-st-eq1 c = search own_some

pub returns-else-st-eq1 : goal.returns-else-st-eq1
unfolding ascii
returns-else-st-eq1 c = search own_none
