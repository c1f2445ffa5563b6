-- Document 01, demand 1, of the calls from C: a refused `hyparview_handle` leaves the words and the tally as they were.
-- Assumes nothing.
use Rattle.spec_demand.specs.Refusal.{RefusalsOf}
use Rattle.spec_demand_calls.specs.Memory.{c_calls}

-- whatever the words, the tally and the event are
abbrev pub RefusalsKept : Type 0
RefusalsKept = RefusalsOf c_calls
