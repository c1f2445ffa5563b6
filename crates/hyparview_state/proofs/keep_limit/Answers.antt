-- By cases of the three limits: the two words written are read back as that limit, and all else stays.
use Rattle.hyparview_state.proofs.Limits.{kept_automatic, kept_requests, kept_recovery}
use Rattle.hyparview_state.proofs.keep_limit.Goals as goal
use Rattle.hyparview_state.proofs.keep_limit.Goals.{in-Automatic, in-Requests, in-Recovery}

pub returns : goal.returns
returns c =
    let p = c.requires.packed_state in
    elim c.match-l.branch [
      | in-Automatic w ↦ rw w.kind-is (kept_automatic _ _ p w.in-Automatic.is)
      | in-Requests w ↦ rw w.kind-is (kept_requests _ _ p _ w.in-Requests.is)
      | in-Recovery w ↦ rw w.kind-is (kept_recovery _ _ p w.in-Recovery.is)
    ]
