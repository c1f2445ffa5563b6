-- Document 02, S-1: what the timer queue makes of the program's outputs.
-- Assumes nothing.
use Rattle.timer_events.specs.Claims.{TimersTakenOf}
use Rattle.spec_demand.specs.Program.{program, value_program}

-- the timers of an accepted output are never answered 3, whatever the words are
abbrev pub TimersTaken : Type 0
TimersTaken = TimersTakenOf program

-- the same of the form by value
abbrev pub TimersTakenByValue : Type 0
TimersTakenByValue = TimersTakenOf value_program
