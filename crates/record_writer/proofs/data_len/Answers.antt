-- The length of data is that of its bytes, at most 16; absent data has none.
use mathlib.Core.Path.{refl}
use Prim.Native.Nat.{zero-le}
use Rattle.base_peer.specs.Data.{bytes_of}
use Rattle.base_peer.specs.Held.{data_in}
use Rattle.record_writer.proofs.Laws.{length_there}
use Rattle.record_writer.proofs.data_len.Goals as goal

pub returns-in-Some : goal.returns-in-Some
returns-in-Some c = (length_there c.args.p.now _ c.in-Some.is, c.in-Some.d.fits)

pub returns-in-None : goal.returns-in-None
unfolding data_in bytes_of
returns-in-None c = (rw c.in-None.is refl, zero-le)
