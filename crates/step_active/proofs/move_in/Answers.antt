-- Two removals leave the active view as free as it was, so that with code 0 the push and the renewal find well formed sections and a place.
use native.Mathlib.Omega.{arith}
use mathlib.Core.List.{[], ◌∷◌, ◌++◌}
use borrow.Rule.Slice.PartMut.{put_mid}
use Rattle.base_lists.specs.Lists.{renew}
use Rattle.base_util.specs.Section.{part, items_at, HoldsSet}
use Rattle.hyparview_state.specs.Layout.{active_part, recent_part, active_at, active_places, active_size, recent_places}
use Rattle.hyparview_state.proofs.Access.{of_packed, of_recent}
use Rattle.step_active.proofs.Entering.{place_active, left_free, not_moved, pushed, remembered, moved_in}
use borrow.Author.Rules.{rules}
use Rattle.step_active.proofs.move_in.Goals as goal
use Rattle.step_active.proofs.move_in.Goals.{After-push, After-renew}

-- What the two calls made of the sections.
active_after : (c : After-push) → HoldsSet 8 c.push.new.s (items_at active_places (active_part c.drop_mark-b.new.st) ++ (c.args.p ∷ []))
unfolding part
active_after c = c.push.ensures

recent_after : (c : After-renew) → HoldsSet 8 c.renew.new.s (renew 8 c.args.p (items_at recent_places (recent_part (put_mid active_at active_size c.drop_mark-b.new.st c.push.new.s))))
unfolding part
recent_after c = c.renew.ensures

pub returns-then-b-ne0 : goal.returns-then-b-ne0
returns-then-b-ne0 c =
    not_moved _ _ _ _ _ _ _ c.drop_mark-b.ensures c.remove_passive-a.ensures c.if-b-ne0.true

pub push-requires : goal.push-requires
unfolding part
push-requires c =
    let left = c.drop_mark-b.ensures in record {
      valid_set = search (of_packed, rules);
      s_len_bound = place_active _ _ left.packed c.if-b-ne0.false (left_free _ _ _ _ _ _ _ left c.remove_passive-a.ensures c.requires.free_active);
    }

pub renew-requires : goal.renew-requires
unfolding part
renew-requires c =
    let left = c.drop_mark-b.ensures in
    let free = left_free _ _ _ _ _ _ _ left c.remove_passive-a.ensures c.requires.free_active in record {
      valid_set = of_recent _ (pushed c.drop_mark-b.result _ _ left.packed c.if-b-ne0.false _ free (active_after (goal.at.renew-requires c).After-push)).packed;
      le_most = (omega arith, omega arith);
    }

pub returns : goal.returns
returns c =
    let left = c.drop_mark-b.ensures in
    let code = c.if-b-ne0.false in
    let free = left_free _ _ _ _ _ _ _ left c.remove_passive-a.ensures c.requires.free_active in
    let push = pushed _ _ _ left.packed code _ free (active_after (goal.at.returns c).After-push) in
    moved_in _ _ _ _ _ _ _ left c.remove_passive-a.ensures _ _ _ _ (remembered _ _ _ push.packed code _ (recent_after (goal.at.returns c).After-renew)) push
