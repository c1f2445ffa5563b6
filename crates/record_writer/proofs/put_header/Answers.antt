-- By cases on the room: too little leaves all as it was, enough lets every field be written, one behind the other.
use borrow.Author.Rules.{rules}
use Rattle.record_writer.proofs.Ways.{header_put, headed_full, headed}
use Rattle.record_writer.proofs.put_header.Goals as goal

pub returns-in_err-room : goal.returns-in_err-room
returns-in_err-room c = rw c.from_residual.ensures (headed_full _ _ _ _ _ (search rules))

pub returns-then-room-whole : goal.returns-then-room-whole
returns-then-room-whole c = headed_full _ _ _ _ _ (search rules)

pub returns : goal.returns
returns c =
    headed _ _ _ _ _ (search rules) _
    (header_put _ _ _ _ _ _ _ _ _ _ _ c.put_number-5.ensures c.put_number-4.ensures c.put_number-3.ensures c.put_number-2.ensures c.put_number.ensures
    c.write_bytes.ensures)
