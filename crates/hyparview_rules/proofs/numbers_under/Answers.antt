-- The chain tests each number of the map, which is what the definition does.
use mathlib.Core.Path.{sym, ◌∙◌}
use lib.Dec.{ltb}
use Rattle.std.proofs.Common.{rules, tests}
use Rattle.std.proofs.lemmas.Iterator.{YieldsList-from_slice}
use Rattle.std.proofs.lemmas.Iterator.Search.{all_from_yields_List}
use Rattle.hyparview_rules.proofs.Under.{under_is}
use Rattle.hyparview_rules.proofs.numbers_under.Goals as goal

pub returns : goal.returns
returns c =
    let y = YieldsList-from_slice _ c.iter.ensures.rest in
    all_from_yields_List (λ x. ltb x c.args.end) _ _ _ c.all.ensures.ran y (λ x b q k. search (rules, tests))
    ∙ sym (under_is c.args.cap c.args.m.now c.requires c.args.end)
