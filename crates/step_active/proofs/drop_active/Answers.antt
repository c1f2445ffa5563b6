-- Work with a code drops nothing; else the pin ends, the view loses one peer, still fits its capacity, and the notice follows.
use Rattle.base_util.specs.Section.{part}
use Rattle.hyparview_state.proofs.Access.{of_packed}
use Rattle.step_active.proofs.Leaving.{place_kept, left_active, not_dropped, dropped}
use borrow.Author.Rules.{rules}
use Rattle.step_active.proofs.drop_active.Goals as goal

pub returns-then-w-ne0 : goal.returns-then-w-ne0
returns-then-w-ne0 c = search not_dropped

pub remove_index-requires : goal.remove_index-requires
unfolding part
remove_index-requires c =
    let after = c.drop_pin.ensures in record {
      valid_set = search (of_packed, after.packed, rules);
      i_in_bounds = place_kept _ _ _ after _ c.requires.i_in_bounds;
    }

pub returns : goal.returns
unfolding part
returns c =
    dropped _ _ _ _ _ _ _ _ _ c.requires.given_room c.requires.p_value c.notify.ensures
    (left_active _ _ _ c.drop_pin.ensures _ _ _ c.requires.given_room.packed (search rules) c.requires.p_value c.remove_index.ensures)
