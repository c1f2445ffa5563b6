-- Join, recent place and request of p go as one change; then by cases a neighbor, a live peer in the passive view or not, and one gone for good.
use Rattle.base_util.specs.Section.{part}
use Rattle.spec_hyparview.specs.Run.{on}
use Rattle.spec_hyparview.specs.Messages.{drop_join, drop_request, drop_recent, forget_recent}
use Rattle.hyparview_state.specs.Unpack.{unpack, station_of}
use Rattle.hyparview_state.specs.Work.{work_of, Changes}
use Rattle.hyparview_state.proofs.Access.{of_packed}
use Rattle.hyparview_state.proofs.Bridge.{on_done}
use Rattle.hyparview_state.proofs.Fields.{put_recent}
use Rattle.step_refill.proofs.Asking.{fine_after}
use Rattle.step_messages.proofs.Laws.{words_as, recent_code, recent_gone, recent_kept, mark_place, passive_marked, passive_unmarked, topic_refilled, topic_left, still_markable, other_alive, other_left}
use Rattle.step_messages.proofs.Between.{between_calm, between_mark, neighbor_lost, other_lost, open_forgotten, ended_between, disconnect_done}
use borrow.Author.Rules.{rules}
use Rattle.step_messages.proofs.on_disconnect.Goals as goal
use Rattle.step_messages.proofs.on_disconnect.Goals.{Joined-alive-closed, After-drop_request-ended, then-alive-closed, else-alive-closed}

-- The recent neighbors, which p leaves where it went away for good.
recent : (c : Joined-alive-closed) → Changes (forget_recent c.args.p c.args.alive) (work_of c.drop_join-closed.result c.drop_join-closed.new.st) (work_of c.drop_join-closed.result c.if-alive-closed.st)
unfolding drop_recent unpack station_of part
recent c =
    let packed = c.drop_join-closed.ensures.packed in
    elim c.if-alive-closed.branch [ then-alive-closed s ↦ words_as _ _ _ _ _ s.st-is (recent_gone _ _ _ _ s.if-alive-closed.true (on_done _ packed _ _ (recent_code (work_of c.drop_join-closed.result c.drop_join-closed.new.st) c.args.p c.args.alive s.if-alive-closed.true) (put_recent s.without.ensures))) | else-alive-closed s ↦ words_as _ _ _ _ _ s.st-is (recent_kept _ _ _ packed s.if-alive-closed.false) ]

recent_then : (c : After-drop_request-ended) → Changes (forget_recent c.args.p c.args.alive) (work_of c.drop_join-closed.result c.drop_join-closed.new.st) (work_of c.drop_join-closed.result c.if-alive-closed.st)
unfolding drop_recent unpack station_of part
recent_then c =
    let packed = c.drop_join-closed.ensures.packed in
    elim c.if-alive-closed.branch [ then-alive-closed s ↦ words_as _ _ _ _ _ s.st-is (recent_gone _ _ _ _ s.if-alive-closed.true (on_done _ packed _ _ (recent_code (work_of c.drop_join-closed.result c.drop_join-closed.new.st) c.args.p c.args.alive s.if-alive-closed.true) (put_recent s.without.ensures))) | else-alive-closed s ↦ words_as _ _ _ _ _ s.st-is (recent_kept _ _ _ packed s.if-alive-closed.false) ]

ended : (c : After-drop_request-ended) → Changes (λ g. on (drop_request c.args.p) (forget_recent c.args.p c.args.alive (on (drop_join c.args.p) g))) (work_of c.args.w c.args.st.now) (work_of c.drop_request-ended.result c.drop_request-ended.new.st)
ended c = open_forgotten _ _ _ _ _ _ c.drop_request-ended.ensures (recent_then c) c.drop_join-closed.ensures

pub without-requires : goal.without-requires
unfolding part
without-requires c = search (of_packed, rules)

pub drop_request-ended-requires : goal.drop_request-ended-requires
drop_request-ended-requires c = record { packed_state = (recent (goal.at.drop_request-ended-requires c).Joined-alive-closed).packed }

pub remove_active-requires : goal.remove_active-requires
remove_active-requires c =
    let forgotten = ended (goal.at.remove_active-requires c).After-drop_request-ended in record {
      given = fine_after _ _ _ _ _ _ c.requires.given forgotten;
      meets = between_calm _ _ _ _ _ _ (ended_between _ _ _ _ _ _ forgotten _ _ _ c.requires.meets);
    }

pub returns-then-in_active : goal.returns-then-in_active
returns-then-in_active c =
    let forgotten = ended (goal.at.returns-then-in_active c).After-drop_request-ended in
    disconnect_done _ _ _ _ _ _ forgotten _ _ _ c.requires.given c.is_requested-requested.ensures
    (neighbor_lost _ _ _ _ _ _ _ _ _ c.in_active.ensures c.if-in_active.true c.remove_active.ensures)

pub note_refusal-noted-requires : goal.note_refusal-noted-requires
note_refusal-noted-requires c =
    let packed = (ended (goal.at.note_refusal-noted-requires c).After-drop_request-ended).packed in record {
      packed_state = packed;
    }

pub mark_alive-requires : goal.mark_alive-requires
mark_alive-requires c =
    let forgotten = ended (goal.at.mark_alive-requires c).After-drop_request-ended in
    let markable = still_markable _ _ _ _ _ _ (between_mark _ _ _ _ _ _ _ _ (ended_between _ _ _ _ _ _ forgotten _ _ _ c.requires.meets)) c.note_refusal-noted.ensures in record {
      packed_state = c.note_refusal-noted.ensures.packed;
      free_mark = mark_place _ _ _ _ c.in_passive.ensures c.if-in_passive.true markable;
    }

pub returns-then-in_passive : goal.returns-then-in_passive
returns-then-in_passive c =
    let forgotten = ended (goal.at.returns-then-in_passive c).After-drop_request-ended in
    let marked = passive_marked _ _ _ c.in_passive.ensures _ c.if-in_passive.true c.mark_alive.ensures in
    disconnect_done _ _ _ _ _ _ forgotten _ _ _ c.requires.given c.is_requested-requested.ensures
    (other_lost _ _ _ _ _ _ _ _ _ c.in_active.ensures c.if-in_active.false (other_alive _ _ _ _ _ _ _ _ (fine_after _ _ _ _ _ _ c.requires.given forgotten) c.if-alive.true marked c.note_refusal-noted.ensures))

pub returns-then-alive : goal.returns-then-alive
returns-then-alive c =
    let forgotten = ended (goal.at.returns-then-alive c).After-drop_request-ended in
    let unmarked = passive_unmarked _ _ _ c.in_passive.ensures c.note_refusal-noted.ensures.packed c.if-in_passive.false in
    disconnect_done _ _ _ _ _ _ forgotten _ _ _ c.requires.given c.is_requested-requested.ensures
    (other_lost _ _ _ _ _ _ _ _ _ c.in_active.ensures c.if-in_active.false (other_alive _ _ _ _ _ _ _ _ (fine_after _ _ _ _ _ _ c.requires.given forgotten) c.if-alive.true unmarked c.note_refusal-noted.ensures))

pub drop_passive-dropped-requires : goal.drop_passive-dropped-requires
drop_passive-dropped-requires c =
    let packed = (ended (goal.at.drop_passive-dropped-requires c).After-drop_request-ended).packed in record {
      packed_state = packed;
    }

pub refill_active_from_passive-requires : goal.refill_active_from_passive-requires
refill_active_from_passive-requires c =
    let forgotten = ended (goal.at.refill_active_from_passive-requires c).After-drop_request-ended in record {
      given = fine_after _ _ _ _ _ _ (fine_after _ _ _ _ _ _ c.requires.given forgotten) c.drop_passive-dropped.ensures;
    }

pub returns-then-requested : goal.returns-then-requested
returns-then-requested c =
    let forgotten = ended (goal.at.returns-then-requested c).After-drop_request-ended in
    let refilled = topic_refilled _ _ _ _ _ _ (fine_after _ _ _ _ _ _ c.requires.given forgotten) c.drop_passive-dropped.ensures _ _ c.if-requested.true c.refill_active_from_passive.ensures in
    disconnect_done _ _ _ _ _ _ forgotten _ _ _ c.requires.given c.is_requested-requested.ensures
    (other_lost _ _ _ _ _ _ _ _ _ c.in_active.ensures c.if-in_active.false (other_left _ _ _ _ _ _ _ _ c.if-alive.false refilled))

pub returns : goal.returns
returns c =
    let forgotten = ended (goal.at.returns c).After-drop_request-ended in
    let gone = topic_left _ _ _ _ _ _ (fine_after _ _ _ _ _ _ c.requires.given forgotten) c.drop_passive-dropped.ensures c.if-requested.false in
    disconnect_done _ _ _ _ _ _ forgotten _ _ _ c.requires.given c.is_requested-requested.ensures
    (other_lost _ _ _ _ _ _ _ _ _ c.in_active.ensures c.if-in_active.false (other_left _ _ _ _ _ _ _ _ c.if-alive.false gone))
