-- The section of pins without p is stored, and the words stand for the station without its pin.
use Rattle.base_util.specs.Section.{part}
use Rattle.hyparview_state.proofs.Access.{of_packed}
use Rattle.step_active.proofs.Leaving.{pin_dropped}
use borrow.Author.Rules.{rules}
use Rattle.step_active.proofs.drop_pin.Goals as goal

pub without-requires : goal.without-requires
unfolding part
without-requires c = search (of_packed, rules)

pub returns : goal.returns
unfolding part
returns c = search pin_dropped
