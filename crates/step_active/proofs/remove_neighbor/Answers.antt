-- The pin ends, and then the peer leaves the view, which stays as it was but for that.
use Rattle.base_util.specs.Section.{part}
use Rattle.hyparview_state.proofs.Access.{of_packed}
use Rattle.step_active.proofs.Leaving.{neighbor_left}
use borrow.Author.Rules.{rules}
use Rattle.step_active.proofs.remove_neighbor.Goals as goal

pub remove-requires : goal.remove-requires
unfolding part
remove-requires c = search (of_packed, c.drop_pin.ensures.packed, rules)

pub returns : goal.returns
unfolding part
returns c = search neighbor_left
