-- The rest must be the events that are left.
use Rattle.std.proofs.Common.{◌≡◌, ◌-◌}
use Rattle.run_input.specs.Input.{are_events}
use Rattle.run_input.proofs.are_events.Given as goal

abbrev pub invariant-loop : goal.invariant-loop
invariant-loop l = are_events l.count l.events ≡ are_events (l.count - l.counter) l.rest
