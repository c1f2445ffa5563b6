-- The calls from C write what the program writes, and so name the same peers.
-- Assumes nothing.
use Rattle.controller.specs.Calls.{tallied, called}
use Rattle.spec_demand.specs.Program.{program_outcome}
use Rattle.spec_demand.proofs.Evictions as program
use Rattle.spec_demand.proofs.Evictions.{told_all}
use Rattle.spec_demand_calls.specs.Memory.{memory_outcome, station_in}
use Rattle.spec_demand_calls.specs.Evictions as E
use Rattle.spec_demand_calls.proofs.Refusal.{refusals_kept}

pub names_evicted : E.NamesEvicted
unfolding memory_outcome program_outcome called tallied
names_evicted x v n z = program.names_evicted x.words v n z

pub evictions_told : E.EvictionsTold
evictions_told = told_all station_in names_evicted refusals_kept
