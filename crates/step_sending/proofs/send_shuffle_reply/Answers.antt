-- By cases: the passive peers are enough, or active ones make up the number; either way one set is ready, whose peers are told.
use Rattle.base_util.specs.Section.{part}
use Rattle.hyparview_state.specs.Unpack.{unpack, station_of}
use Rattle.hyparview_state.proofs.Access.{of_packed}
use Rattle.step_sending.proofs.Replies.{ReadyReply, ready_as, ready_filled, ready_enough}
use Rattle.step_sending.proofs.Told.{set_told}
use borrow.Author.Rules.{rules}
use Rattle.step_sending.proofs.send_shuffle_reply.Goals as goal
use Rattle.step_sending.proofs.send_shuffle_reply.Goals.{Joined-n-len, then-n-len, else-n-len}

-- The peers that the reply names, from the passive view alone or from both.
ready : (c : Joined-n-len) → ReadyReply c.args.to c.args.len c.args.w c.if-n-len.a c.args.st.now c.args.draws.now c.args.out.now c.if-n-len.v
unfolding unpack station_of part
ready c =
    elim c.if-n-len.branch [
      | then-n-len s ↦ ready_as _ _ _ _ _ _ _ _ _ _ s.v-is s.a-is
          (ready_filled _ _ _ _ _ _ _ _ _ _ c.requires.given c.copy_into.ensures c.shuffle_and_cap-a.ensures.draws_any c.shuffle_and_cap-a.ensures.changes_set c.count-n.ensures.0
          _ _ _ _ s.if-n-len.true s.copy_into-then-n-len.ensures s.shuffle_and_cap-a-then-n-len.ensures.draws_any s.shuffle_and_cap-a-then-n-len.ensures.changes_set s.append.ensures)
      | else-n-len s ↦ ready_as _ _ _ _ _ _ _ _ _ _ s.v-is s.a-is
          (ready_enough _ _ _ _ _ _ _ _ _ _ c.requires.given c.copy_into.ensures c.shuffle_and_cap-a.ensures.draws_any c.shuffle_and_cap-a.ensures.changes_set c.count-n.ensures.0 s.if-n-len.false)
    ]

pub copy_into-requires-clause-valid_set : goal.copy_into-requires-clause-valid_set
unfolding part
copy_into-requires-clause-valid_set c = search (of_packed, rules)

pub copy_into-requires-then-n-len-clause-valid_set : goal.copy_into-requires-then-n-len-clause-valid_set
unfolding part
copy_into-requires-then-n-len-clause-valid_set c = search (of_packed, rules)

pub returns : goal.returns
returns c =
    let sent = ready (goal.at.returns c).Joined-n-len in
    sent.done _ _ (set_told _ _ _ _ _ _ _ _ _ sent.room sent.valid c.count-named.ensures.0 c.peer_infos.ensures c.send_nodes.ensures)
