-- What `position` answers, or n where it answers none, is the place that the definition has.
use mathlib.Core.Path.{◌≡◌}
use lib.ListN.{take}
use lib.Seq.{length-take-le}
use lib.Dec.{eqb}
use Rattle.std.proofs.Common.{rules, tests}
use Rattle.std.proofs.lemmas.Iterator.{YieldsList-from_slice}
use Rattle.std.proofs.lemmas.Iterator.Search.{position_from_yields_List}
use Rattle.std.specs.List.{position}
use Rattle.base_lists.proofs.Search.{first_index, first_position}
use Rattle.base_util.proofs.find.Goals as goal

pub returns : goal.returns
returns c =
    let l = take c.args.n c.args.s.now in
    let e : c.position.result ≡ position (eqb c.args.x) l =
    position_from_yields_List (eqb c.args.x) _ _ c.position.result c.position.ensures.ran (YieldsList-from_slice l cc) (λ y b q k. search (rules, tests)) in
    first_position (first_index c.args.x) _ _ _ _ e c.unwrap_or.ensures (length-take-le c.args.n c.args.s.now c.requires)
