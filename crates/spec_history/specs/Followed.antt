-- For cases that are evaluated: everything that a history unfolds to.
-- Assumes nothing.
use Rattle.std.specs.Prelude.{ℕ, List}
use Rattle.base_lists.specs.Lists.{push_new}
use Rattle.base_peer.specs.Data.{Data}
use Rattle.base_timing.specs.Timing.{default}
use Rattle.base_timing.specs.declared.Config.{Config}
use Rattle.record.specs.Walk.{kind_in, message_in, peer_in, whole_length, records_from, records_in, walk}
use Rattle.spec_hyparview.specs.Numbers.{message_number, kind_number}
use Rattle.spec_hyparview.specs.Station.{Station}
use Rattle.spec_hyparview.specs.Handle.{new}
use Rattle.spec_hyparview.specs.Traced.{traced}
use Rattle.spec_hyparview.specs.Sides.{handle_from}
use Rattle.spec_history.specs.Ledger.{Ledger, empty_ledger, count_message, note_up, note_down, note_record, read_records, number_of, open_event, feed}
use Rattle.spec_history.specs.Calls.{Call, answered, state_after, codes, ledger_after, definition}

-- the ledger and the state after a list of calls to a new station, which a proof that says `unfolding followed` can evaluate
unfoldable pub followed : ℕ → Data → Config → List Call → Ledger × Station
unfolding traced handle_from push_new default empty_ledger kind_in message_in peer_in whole_length records_from records_in walk count_message note_up note_down note_record read_records message_number kind_number number_of open_event feed answered state_after codes ledger_after
followed me d c vs = (ledger_after definition c.active_view_capacity vs (new me d c).state empty_ledger, state_after definition vs (new me d c).state)
