-- As for `subset`, over the three lists in a row: a hinted word is in the list that its place falls into, by cases.
use lib.ListN.{get_or}
use mathlib.Core.Path.{◌≡◌}
use mathlib.Core.List.{◌++◌}
use Rattle.base_scan.proofs.Three.{of_first, of_second, of_third, at_hint_of_three, in_three}
use Rattle.base_scan.proofs.Loops.{subset_start, every_seen, every_asked, every_end}
use borrow.Author.Rules.{rules}
use Rattle.base_scan.proofs.subset_of_three.Goals as goal
use Rattle.base_scan.proofs.subset_of_three.Goals.{then-h-m, else-h-m+then-h-n-2, else-h-m+else-h-n-2}

pub loop-x-init : goal.loop-x-init
loop-x-init c = (search rules, search subset_start)

pub loop-x-preserved-then-x-y : goal.loop-x-preserved-then-x-y
loop-x-preserved-then-x-y c =
    let b = c.args.b.now in
    let d = c.args.c.now in
    let e = c.args.d.now in
    let there : c.if-h-m.y ≡ get_or (b ++ (d ++ e)) c.from-h.result 0 =
    elim c.if-h-m.branch [
      | then-h-m w ↦ of_first b d e _ _ w.if-h-m.true w.y-is
      | else-h-m+then-h-n-2 w ↦ of_second b d e _ _ w.if-h-m.false w.if-h-n-2.true w.y-is
      | else-h-m+else-h-n-2 w ↦ of_third b d e _ _ w.if-h-n-2.false w.y-is
    ] in
    (search rules, every_seen _ _ _ _ _ c.loop-x.invariant.1 (at_hint_of_three b d e _ _ _ c.if-h-n.true there c.if-x-y.true) c.loop-x-test.true)

pub loop-x-preserved : goal.loop-x-preserved
loop-x-preserved c = (search rules, search (every_asked, in_three))

pub returns : goal.returns
returns c = search every_end
