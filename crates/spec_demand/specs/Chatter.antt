-- Document 02, S-10: no chatter and no lost clock, of every list of calls of `handle`, from the words that `new` filled.
-- Assumes nothing.
use Rattle.spec_chatter.specs.Claims.{ChatterOf}
use Rattle.hyparview_state.specs.Unpack.{unpack}
use Rattle.spec_demand.specs.Program.{program, value_program, unpack_state}

-- of the program
abbrev pub ChatterHolds : Type 0
ChatterHolds = ChatterOf program unpack

-- the same of the form by value
abbrev pub ChatterHoldsByValue : Type 0
ChatterHoldsByValue = ChatterOf value_program unpack_state
