-- The calls from C refuse as the program does, and a refusal raises no count.
-- Assumes nothing.
use lib.ListN.{length}
use Rattle.controller.specs.Calls.{tallied, called}
use Rattle.controller.proofs.Laws.{refused_same}
use Rattle.spec_demand.specs.Program.{program_outcome}
use Rattle.spec_demand.proofs.Refusal as program
use Rattle.spec_demand_calls.specs.Memory.{memory_outcome}
use Rattle.spec_demand_calls.specs.Refusal.{RefusalsKept}

pub refusals_kept : RefusalsKept
unfolding memory_outcome program_outcome called tallied
refusals_kept x v n =
    let k = program.refusals_kept x.words v n in
    let t = refused_same v.side x.words x.tally v.event v.draws (length v.output) n in
    record { same_state = λ i. record { words = k.same_state i; tally = t i }; zeroes = k.zeroes; no_draws = k.no_draws }
