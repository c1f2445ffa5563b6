-- Document 02, S-2, of the calls from C: the records of kind 12 tell whom the events evicted.
-- Assumes nothing.
use Rattle.spec_demand.specs.Evictions.{NamesEvictedOf, EvictionsToldOf}
use Rattle.spec_demand_calls.specs.Memory.{c_calls, station_in}

-- of one accepted call, whatever the words and the tally are
abbrev pub NamesEvicted : Type 0
NamesEvicted = NamesEvictedOf c_calls station_in

-- of every list of calls
abbrev pub EvictionsTold : Type 0
EvictionsTold = EvictionsToldOf c_calls station_in
