-- The zeroes and the order are looked at first, and then the entries.
use Rattle.base_columns.proofs.Testing.{words_no, rows_start, rows_next, rows_all}
use Rattle.base_columns.proofs.data_valid.Goals as goal

pub returns-then-n-cap : goal.returns-then-n-cap
returns-then-n-cap c = search words_no

pub loop-i-init : goal.loop-i-init
loop-i-init c = search rows_start

pub loop-i-preserved : goal.loop-i-preserved
loop-i-preserved c = search rows_next

pub returns : goal.returns
returns c = search rows_all
