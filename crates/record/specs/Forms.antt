-- The two forms of a record, by the bytes of a peer in them.
-- Assumes nothing.
use Rattle.std.specs.Prelude.{ℕ}
use Rattle.record.specs.Format.{peer_length, old_peer_length}
use Rattle.record.specs.declared.Form.{Form}
use Rattle.record.specs.declared.Form.TheVariants.{Old, This}

abbrev pub form_width : Form → ℕ
form_width Old = old_peer_length
form_width This = peer_length
