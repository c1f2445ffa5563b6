-- The data read is what is held of p; it goes with p into the passive view, and a p that stays alive finds a free place for its mark.
use Rattle.base_lists.specs.Maps.{lookup}
use Rattle.base_util.specs.Section.{part}
use mathlib.Core.Path.{◌≡◌}
use Rattle.base_peer.specs.Held.{data_in}
use Rattle.hyparview_state.specs.Unpack.{unpack, station_of}
use Rattle.hyparview_state.proofs.Access.{of_packed}
use Rattle.step_active.proofs.Leaving.{demoted, demoted_plain, demoted_alive, mark_free}
use borrow.Author.Rules.{rules}
use Rattle.step_active.proofs.demote.Goals as goal
use Rattle.step_active.proofs.demote.Goals.{After-add_passive-t}

-- The data that is held of p, as it was read.
held : (c : After-add_passive-t) → data_in c.get_data-d.result ≡ lookup c.args.p (unpack c.args.st.now).peer_data
unfolding part unpack station_of
held c = c.get_data-d.ensures

pub get_data-d-requires : goal.get_data-d-requires
unfolding part
get_data-d-requires c = search (of_packed, rules)

pub mark_alive-requires : goal.mark_alive-requires
mark_alive-requires c =
    let plain = demoted _ _ _ _ _ _ _ _ _ _ _ _ c.requires.given (held (goal.at.mark_alive-requires c).After-add_passive-t) c.add_passive-t.ensures c.drop_data-a.ensures in
    let packed = plain.fine.ready.packed in record {
      packed_state = packed;
      free_mark = mark_free _ _ _ _ _ _ _ _ (c.requires.meets c.if-alive.true) plain;
    }

pub returns-then-alive : goal.returns-then-alive
returns-then-alive c =
    let plain = demoted _ _ _ _ _ _ _ _ _ _ _ _ c.requires.given (held (goal.at.returns-then-alive c).After-add_passive-t) c.add_passive-t.ensures c.drop_data-a.ensures in
    demoted_alive _ _ _ _ _ _ _ _ _ plain _ _ c.if-alive.true c.mark_alive.ensures

pub returns : goal.returns
returns c =
    let plain = demoted _ _ _ _ _ _ _ _ _ _ _ _ c.requires.given (held (goal.at.returns c).After-add_passive-t) c.add_passive-t.ensures c.drop_data-a.ensures in
    demoted_plain _ _ _ _ _ _ _ _ _ plain c.if-alive.false
