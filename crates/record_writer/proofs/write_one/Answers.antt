-- By cases on the header: without room all is as it was, with room the one node and its data fit behind it.
use mathlib.Core.Path.{refl}
use native.Mathlib.Omega.{arith}
use Rattle.record_writer.proofs.Ways.{no_room_one, room_one, done_one}
use Rattle.record_writer.proofs.write_one.Goals as goal

pub returns-in_err-end : goal.returns-in_err-end
returns-in_err-end c =
    rw c.from_residual.ensures (no_room_one _ _ _ _ _ _ _ c.data_len.ensures.0 (rw c.in_err-end.was at c.put_header.ensures) refl)

pub put_node-requires : goal.put_node-requires
put_node-requires c =
    let room = room_one _ c.args.p _ _ _ _ _ c.data_len.ensures.0 c.put_header.ensures _ c.in_ok-end.was in
    record {
      i_lt_most_nodes = omega arith;
      entry_in_bounds = omega (arith, room, c.put_header.auto.out);
      data_in_bounds = omega (arith, room, c.put_header.auto.out);
    }

pub returns : goal.returns
returns c = rw (← c.in_ok-end.was) (done_one _ _ _ _ _ _ _ c.data_len.ensures.0 c.put_header.ensures _ c.in_ok-end.was _ c.put_node.ensures)
