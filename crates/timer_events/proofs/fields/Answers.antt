-- A timer that passes the test has a kind that fits a byte, and then the fields are the event's, by computation.
use mathlib.Core.Path.{refl}
use Rattle.record_writer.specs.Write.{rec_in}
use Rattle.timer_events.specs.Events.{event_rec}
use Rattle.timer_events.proofs.Events.{kind_fits}
use Rattle.timer_events.proofs.fields.Goals as goal

pub overflow_cast-result : goal.overflow_cast-result
overflow_cast-result c = search kind_fits

pub returns : goal.returns
unfolding rec_in event_rec
returns c = refl
