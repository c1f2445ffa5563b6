-- The calls from C write what the program writes: the timer queue takes it.
-- Assumes nothing.
use Rattle.controller.specs.Calls.{tallied, called}
use Rattle.spec_demand.specs.Program.{program_outcome}
use Rattle.spec_demand.proofs.Timers as program
use Rattle.spec_demand_calls.specs.Memory.{memory_outcome}
use Rattle.spec_demand_calls.specs.Timers.{TimersTaken}

pub timers_taken : TimersTaken
unfolding memory_outcome program_outcome called tallied
timers_taken x v n z = program.timers_taken x.words v n z
