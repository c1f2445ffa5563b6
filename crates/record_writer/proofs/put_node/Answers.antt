-- By cases on the data: where it is there, offset, length and bytes are written and fit by the contract; absent data has zeroes.
use native.Mathlib.Omega.{arith}
use Rattle.base_peer.proofs.Data.{length_bytes}
use Rattle.record_writer.proofs.Laws.{length_there, node_put, node_absent}
use Rattle.record_writer.proofs.put_node.Goals as goal

pub write_bytes-requires-in-Some : goal.write_bytes-requires-in-Some
write_bytes-requires-in-Some c =
    omega
    (arith, length_bytes c.in-Some.d, length_there c.args.p.now _ c.in-Some.is, c.requires.data_in_bounds, c.write_bytes.auto.out, c.put_number-in-Some.auto.out, c.put_number.auto.out)

pub returns-in-Some : goal.returns-in-Some
returns-in-Some c =
    node_put c.args.p.now _ _ _ _ c.put_number.ensures _ _ _ _ _ c.in-Some.is c.write_bytes-in-Some.ensures c.write_bytes.ensures
    c.put_number-in-Some.ensures

pub returns-in-None : goal.returns-in-None
returns-in-None c = node_absent c.args.p.now _ _ _ _ c.put_number.ensures _ _ c.in-None.is c.put_number-in-None.ensures
