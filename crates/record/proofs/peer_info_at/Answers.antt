-- A well_formed record has room for its entries and their data; by cases on the mark, the data is absent or the bytes lent.
use Rattle.record.proofs.Nodes.{entry_room, entry_within, entry_few, absent_held, present_held, node_held}
use Rattle.record.proofs.peer_info_at.Goals as goal

pub node-e-requires : goal.node-e-requires
node-e-requires c = entry_room _ _ c.requires.b_value c.requires.i_bound

pub node_data-requires : goal.node_data-requires
node_data-requires c = entry_within _ _ c.requires.b_value c.requires.i_bound _ c.node-e.ensures

pub returns-then-e-eq0 : goal.returns-then-e-eq0
returns-then-e-eq0 c = node_held _ _ _ _ c.node-e.ensures (absent_held _ _ c.if-e-eq0.true)

pub returns-else-e-eq0 : goal.returns-else-e-eq0
returns-else-e-eq0 c =
    let entry = c.node-e.ensures in
    node_held _ _ _ _ entry
    (present_held _ _ _ _ c.if-e-eq0.false (entry_within _ _ c.requires.b_value c.requires.i_bound _ entry) (entry_few _ _ c.requires.b_value c.requires.i_bound _ entry) c.node_data.ensures c.from_slice-held.ensures)
