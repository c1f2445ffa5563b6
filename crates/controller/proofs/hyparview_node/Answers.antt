-- By cases of what `read` answers: a place below the record's count is its node, one past it and malformed bytes have none.
use Rattle.controller.proofs.Reader.{node_room, node_there, node_past, node_nothing}
use Rattle.controller.proofs.hyparview_node.Goals as goal
use Rattle.controller.proofs.hyparview_node.Goals.{in_default-via-in-Some+else-i-h, in_default-via-in_default}

pub node-requires : goal.node-requires
node-requires c = search node_room

pub returns-in-Some : goal.returns-in-Some
returns-in-Some c = search node_there

pub returns-in_default : goal.returns-in_default
returns-in_default c =
    let p = c.read.ensures in
    let none = c.no_node.ensures in
    elim c.in_default.branch [
      | in_default-via-in-Some+else-i-h w ↦ node_past _ _ p _ w.in-Some.is _ _ w.if-i-h.false none
      | in_default-via-in_default w ↦ node_nothing _ _ p w.in_default.is _ _ none
    ]
