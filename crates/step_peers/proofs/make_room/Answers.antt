-- By cases: a view with room stays; of a full one the peer at the place drawn leaves where the work goes on, and its record follows.
use mathlib.Core.Path.{sym, subst}
use Prim.Native.Nat.{ℕ}
use mathlib.Core.List.{List}
use Rattle.base_util.specs.Section.{part}
use Rattle.spec_hyparview.specs.Run.{on}
use Rattle.spec_hyparview.specs.Peers.{shift_passive}
use Rattle.hyparview_state.specs.Unpack.{unpack, station_of}
use Rattle.hyparview_state.specs.Work.{work_of, Changes}
use Rattle.hyparview_state.proofs.Access.{of_packed}
use Rattle.hyparview_state.proofs.Bridge.{on_passed, on_done}
use Rattle.hyparview_state.proofs.Fields.{put_passive}
use Rattle.step_peers.proofs.Laws.{shifted_fits, still_below, made, not_made}
use borrow.Author.Rules.{rules}
use Rattle.step_peers.proofs.make_room.Goals as goal
use Rattle.step_peers.proofs.make_room.Goals.{Joined-a-eq0, then-a-eq0, else-a-eq0}

-- The peer at the place chosen leaves the passive view.
shifted : (c : Joined-a-eq0) → Changes (on (shift_passive c.draw_one_of-t.result.index)) (work_of c.draw_one_of-t.result.work c.args.st.now) (work_of c.draw_one_of-t.result.work c.if-a-eq0.st)
unfolding shift_passive unpack station_of part
shifted c =
    let packed = c.requires.given.ready.packed in
    elim c.if-a-eq0.branch [
      | then-a-eq0 t ↦ subst (λ (ys : List ℕ). Changes (on (shift_passive c.draw_one_of-t.result.index)) (work_of c.draw_one_of-t.result.work c.args.st.now) (work_of c.draw_one_of-t.result.work ys)) (sym t.st-is)
          (on_done _ packed _ _ t.if-a-eq0.true (put_passive t.shift_remove_index.ensures (shifted_fits _ _ packed (still_below _ _ packed c.draw_one_of-t.ensures.index_value.1))))
      | else-a-eq0 t ↦ subst (λ (ys : List ℕ). Changes (on (shift_passive c.draw_one_of-t.result.index)) (work_of c.draw_one_of-t.result.work c.args.st.now) (work_of c.draw_one_of-t.result.work ys)) (sym t.st-is) (on_passed _ packed _ t.if-a-eq0.false)
    ]

pub get_index-p-requires-clause-valid_set : goal.get_index-p-requires-clause-valid_set
unfolding part
get_index-p-requires-clause-valid_set c = search (of_packed, rules)

pub get_index-p-requires-clause-i_in_bounds : goal.get_index-p-requires-clause-i_in_bounds
unfolding part
get_index-p-requires-clause-i_in_bounds c = still_below _ _ c.requires.given.ready.packed c.draw_one_of-t.ensures.index_value.1

pub shift_remove_index-requires-clause-valid_set : goal.shift_remove_index-requires-clause-valid_set
unfolding part
shift_remove_index-requires-clause-valid_set c = search (of_packed, rules)

pub shift_remove_index-requires-clause-i_in_bounds : goal.shift_remove_index-requires-clause-i_in_bounds
unfolding part
shift_remove_index-requires-clause-i_in_bounds c = still_below _ _ c.requires.given.ready.packed c.draw_one_of-t.ensures.index_value.1

pub forget_peer-b-requires : goal.forget_peer-b-requires
forget_peer-b-requires c =
    let left = (shifted (goal.at.forget_peer-b-requires c).Joined-a-eq0).packed in record {
      packed_state = left;
    }

pub returns-then-st-n : goal.returns-then-st-n
unfolding part unpack station_of
returns-then-st-n c =
    made _ _ _ _ c.requires.given _ _ _ _ _ _ _ _ _ c.if-st-n.true c.draw_one_of-t.ensures.index_value.0 c.get_index-p.ensures c.notify.ensures c.forget_peer-b.ensures (shifted (goal.at.returns-then-st-n c).Joined-a-eq0) c.draw_one_of-t.ensures.draws_any

pub returns : goal.returns
unfolding part unpack station_of
returns c = search not_made
