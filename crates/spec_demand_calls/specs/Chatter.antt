-- Document 02, S-10, of the calls from C: no chatter and no lost clock.
-- Assumes nothing.
use Rattle.spec_chatter.specs.Claims.{ChatterOf}
use Rattle.spec_demand_calls.specs.Memory.{c_calls, station_in}

-- of every list of calls, whatever the memory held before `hyparview_new`
abbrev pub ChatterHolds : Type 0
ChatterHolds = ChatterOf c_calls station_in
