-- Without the key there is no data; with it the row at its place gives the bytes, in the form that data keeps.
use mathlib.Core.Path.{refl}
use Rattle.base_columns.proofs.Data.{len_byte, len_fits, bytes_packed, data_found, data_missing}
use Rattle.base_columns.proofs.get_data.Goals as goal

pub overflow_cast-len : goal.overflow_cast-len
overflow_cast-len c = search len_byte

pub returns-then-i-n : goal.returns-then-i-n
returns-then-i-n c = search data_missing

pub invariant_of-result : goal.invariant_of-result
invariant_of-result c = record { fits = search len_fits; packed = search bytes_packed }

pub returns : goal.returns
returns c = data_found _ _ c.requires _ _ c.find-i.ensures.0 _ refl c.bytes_of-bytes.ensures c.if-i-n.false
