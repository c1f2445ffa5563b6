-- By cases: data not to be stored, no room for an 81st entry (code 8), and data stored, told before unless it is empty.
use Rattle.std.specs.Prelude.{Some}
use mathlib.Core.Path.{◌≡◌, ap, ◌∙◌}
use borrow.Author.Tests.{eq-eqb, ne_eqb}
use lib.ListN.{length}
use Rattle.base_util.specs.Section.{part}
use Rattle.base_peer.specs.Data.{bytes_of}
use Rattle.base_peer.specs.Held.{data_in}
use Rattle.spec_hyparview.specs.Peers.{announce_data, store_data}
use Rattle.hyparview_state.specs.Unpack.{unpack, station_of}
use Rattle.hyparview_state.specs.Work.{work_of, Tells}
use Rattle.hyparview_state.proofs.Access.{of_packed}
use Rattle.hyparview_state.proofs.Bridge.{on_done, on_passed}
use Rattle.hyparview_state.proofs.Fields.{put_peer_data}
use Rattle.step_peers.proofs.Laws.{no_bytes, told_as, not_announced, announced, fits_known, entry_free, no_info, info_passed, info_stored, given_data}
use borrow.Author.Rules.{rules}
use Rattle.step_peers.proofs.insert_peer_info.Goals as goal
use Rattle.step_peers.proofs.insert_peer_info.Goals.{Joined-data-ne0, then-data-ne0, else-data-ne0}

-- The output is as long as it was.
as_long : (c : Joined-data-ne0) → length c.if-data-ne0.out ≡ length c.args.out.now
as_long c = elim c.if-data-ne0.branch [ then-data-ne0 t ↦ ap length t.out-is ∙ t.notify_node-a.auto.out | else-data-ne0 t ↦ ap length t.out-is ]

-- The data is told, or it is empty.
told : (c : Joined-data-ne0) → Tells (announce_data c.args.p (bytes_of (data_in (Some c.in-Some.data)))) (work_of c.args.w c.args.st.now) (work_of c.if-data-ne0.a c.args.st.now) c.args.out.now c.if-data-ne0.out
told c =
    let empty = no_bytes c.in-Some.data in
    elim c.if-data-ne0.branch [ then-data-ne0 t ↦ told_as _ _ _ _ _ _ _ t.a-is t.out-is (announced _ _ _ _ _ _ _ _ c.requires.given_room empty (ne_eqb _ _ t.if-data-ne0.true) t.notify_node-a.ensures) | else-data-ne0 t ↦ told_as _ _ _ _ _ _ _ t.a-is t.out-is (not_announced _ _ _ _ _ c.requires.given_room empty (eq-eqb _ _ t.if-data-ne0.false)) ]

pub returns-in_default : goal.returns-in_default
returns-in_default c = given_data _ _ _ c.in_default.is (no_info _ _ _ c.requires.given_room)

pub returns-then-p-st : goal.returns-then-p-st
unfolding part unpack station_of
returns-then-p-st c = given_data _ _ _ c.in-Some.is (info_passed _ _ _ _ _ _ c.holds_data.ensures c.requires.given_room c.if-p-st.true)

pub holds_data-requires : goal.holds_data-requires
unfolding part
holds_data-requires c = search (of_packed, rules)

pub contains_data-requires : goal.contains_data-requires
unfolding part
contains_data-requires c = search (of_packed, rules)

pub insert_data-requires-clause-valid_data_words : goal.insert_data-requires-clause-valid_data_words
unfolding part unpack station_of
insert_data-requires-clause-valid_data_words c = search (of_packed, rules)

pub insert_data-requires-clause-cap_value : goal.insert_data-requires-clause-cap_value
unfolding part unpack station_of
insert_data-requires-clause-cap_value c =
    entry_free _ _ _ _ _ c.requires.given_room.packed (fits_known _ _ _ c.requires.given_room.packed c.contains_data.ensures) c.require-b.ensures c.if-b-eq0.true

pub returns-then-b-eq0 : goal.returns-then-b-eq0
unfolding store_data part unpack station_of
returns-then-b-eq0 c =
    given_data _ _ _ c.in-Some.is
    (info_stored _ _ _ _ _ _ c.requires.given_room.packed c.holds_data.ensures _ _ _ _ c.if-p-st.false (told (goal.at.returns-then-b-eq0 c).Joined-data-ne0) c.contains_data.ensures c.require-b.ensures _
    (on_done _ c.requires.given_room.packed _ _ c.if-b-eq0.true (put_peer_data c.insert_data.ensures)))

pub returns-else-b-eq0 : goal.returns-else-b-eq0
unfolding part unpack station_of
returns-else-b-eq0 c =
    given_data _ _ _ c.in-Some.is
    (info_stored _ _ _ _ _ _ c.requires.given_room.packed c.holds_data.ensures _ _ _ _ c.if-p-st.false (told (goal.at.returns-else-b-eq0 c).Joined-data-ne0) c.contains_data.ensures c.require-b.ensures _
    (on_passed _ c.requires.given_room.packed _ c.if-b-eq0.false))
