-- How many draws must be lent to the calls from C: as many as to the program, since the tally changes no answer.
-- Assumes nothing.
use mathlib.Core.Path.{◌≡◌}
use Rattle.tally.specs.declared.Tally.{Tally}
use Rattle.hyparview_rules.specs.Pack.{pack}
use Rattle.controller.specs.Calls.{tallied, called}
use Rattle.spec_history.specs.Calls.{code_of}
use Rattle.spec_demand.specs.Program.{program_outcome}
use Rattle.spec_demand.proofs.Draws as program
use Rattle.spec_demand.proofs.Draws.{full, quits}
use Rattle.spec_demand_calls.specs.Memory.{LentMemory, memory_outcome, c_calls}

-- a full station, whatever the tally is
abbrev full_memory : Tally → LentMemory
full_memory t = record { words = pack full; tally = t }

-- with 253 draws and 8,192 bytes the answer is 5
pub too_few : (t : Tally) → code_of c_calls (quits 253 0) (full_memory t) ≡ 5
unfolding memory_outcome program_outcome called tallied
too_few t = program.too_few

-- 02, S-6: "A list of 512 can now be short"
pub short_of_512 : (t : Tally) → code_of c_calls (quits 512 4294967295) (full_memory t) ≡ 5
unfolding memory_outcome program_outcome called tallied
short_of_512 t = program.short_of_512
