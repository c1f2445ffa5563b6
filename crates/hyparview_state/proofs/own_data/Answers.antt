-- Packed words have own data in the form that data keeps, with a length that fits a byte; a first word of 0 says that there is none.
use Rattle.hyparview_state.proofs.Own.{own_absent, own_there, own_fits, own_packed}
use Rattle.hyparview_state.proofs.Access.{of_packed}
use borrow.Author.Rules.{rules}
use Rattle.hyparview_state.proofs.own_data.Goals as goal

pub returns-then-st-eq0 : goal.returns-then-st-eq0
returns-then-st-eq0 c = search own_absent

pub overflow_cast-len : goal.overflow_cast-len
overflow_cast-len c = search (of_packed, rules)

pub invariant_of-result : goal.invariant_of-result
invariant_of-result c = record { fits = search own_fits; packed = search own_packed }

pub returns : goal.returns
returns c = search own_there
