-- The measure is what is left of the input.
use lib.ListN.{length}
use Rattle.test_record.proofs.show_records.Given as goal

abbrev pub decreases-loop-rest : goal.decreases-loop-rest
decreases-loop-rest l = length l.rest
