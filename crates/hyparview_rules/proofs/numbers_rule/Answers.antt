-- Packed words have well formed maps, so both tests of the numbers are the definition's, unfolded.
use Rattle.hyparview_rules.proofs.Shape.{of_ok}
use Rattle.base_util.specs.Section.{part}
use Rattle.hyparview_state.specs.Unpack.{unpack, station_of}
use Rattle.spec_hyparview.specs.Rules.{numbers_rule}
use borrow.Author.Rules.{rules}
use Rattle.hyparview_rules.proofs.numbers_rule.Goals as goal

pub numbers_under-requires : goal.numbers_under-requires
unfolding part
numbers_under-requires c = search (of_ok, rules)

pub numbers_under-requires-2 : goal.numbers_under-requires-2
unfolding part
numbers_under-requires-2 c = search (of_ok, rules)

pub returns : goal.returns
unfolding numbers_rule unpack station_of part
returns c = cc
