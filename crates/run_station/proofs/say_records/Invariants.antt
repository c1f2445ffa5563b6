-- The measure is how much of the output is to come.
use lib.ListN.{length}
use Rattle.run_station.proofs.say_records.Given as goal

abbrev pub decreases-loop-r : goal.decreases-loop-r
decreases-loop-r l = length l.rest
