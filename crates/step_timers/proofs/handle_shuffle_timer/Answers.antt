-- The two steps, one after the other, are the definition's sequence.
use Rattle.spec_hyparview.specs.Timers.{schedule_shuffle, handle_shuffle_timer}
use Rattle.hyparview_state.proofs.Bridge.{seq}
use Rattle.step_timers.proofs.handle_shuffle_timer.Goals as goal

pub returns : goal.returns
unfolding handle_shuffle_timer
returns c =
    seq schedule_shuffle c.schedule_shuffle.ensures c.shuffle_any-a.ensures
