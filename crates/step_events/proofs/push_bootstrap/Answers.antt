-- Work with a code changes nothing; else the list is renewed, and where it had eight others the open join of the oldest goes.
use native.Mathlib.Omega.{arith}
use Rattle.base_util.specs.Section.{part}
use Rattle.hyparview_state.proofs.Access.{of_packed}
use Rattle.hyparview_state.proofs.Bridge.{on_passed}
use Rattle.step_events.proofs.Joining.{lent_without, lent_renew, lent_cut, others_lent, joins_lent, none_dropped, one_dropped}
use borrow.Author.Rules.{rules}
use Rattle.step_events.proofs.push_bootstrap.Goals as goal

pub returns-then-w-ne0 : goal.returns-then-w-ne0
returns-then-w-ne0 c = search on_passed

pub without-requires : goal.without-requires
unfolding part
without-requires c = search (of_packed, rules)

pub renew-requires-clause-valid_set : goal.renew-requires-clause-valid_set
renew-requires-clause-valid_set c = others_lent _ _ _ c.requires.packed_state (lent_without _ _ _ c.without.ensures)

pub renew-requires-clause-le_most : goal.renew-requires-clause-le_most
renew-requires-clause-le_most c = (omega arith, omega arith)

pub returns-then-n : goal.returns-then-n
returns-then-n c =
    let others = lent_without _ _ _ c.without.ensures in
    let newest = lent_renew _ _ _ c.renew.ensures in
    none_dropped _ _ _ c.requires.packed_state others _ newest _ c.if-w-ne0.false c.if-n.true

pub remove_number-requires : goal.remove_number-requires
remove_number-requires c =
    let others = lent_without _ _ _ c.without.ensures in
    let newest = lent_renew _ _ _ c.renew.ensures in
    joins_lent _ _ _ c.requires.packed_state others _ newest

pub returns : goal.returns
returns c =
    let others = lent_without _ _ _ c.without.ensures in
    let newest = lent_renew _ _ _ c.renew.ensures in
    one_dropped _ _ _ c.requires.packed_state others _ newest _ _ c.if-w-ne0.false c.if-n.false (lent_cut _ _ _ c.remove_number.ensures)
