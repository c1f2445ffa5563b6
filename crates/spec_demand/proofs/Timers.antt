-- What the program writes in an accepted call is the definition's output, whose records are in form: the timer queue takes them.
-- Assumes nothing.
use mathlib.Core.Path.{◌≡◌, sym, ap, subst, ◌∙◌}
use native.Mathlib.Omega.{arith}
use lib.ListN.{length}
use Rattle.base_lists.proofs.Choice.{split}
use Rattle.spec_history.specs.Calls.{answered}
use Rattle.spec_history.proofs.Outputs.{written}
use Rattle.timer_events.specs.Claims.{NotMalformed}
use Rattle.timer_events.proofs.Accepted.{written_taken}
use Rattle.hyparview_state.specs.Unpack.{unpack}
use Rattle.hyparview_rules.specs.Ok.{state_ok}
use Rattle.hyparview.specs.Handled.{Outcome, packed_answer, refused_words}
use Rattle.hyparview.proofs.Sides.{from_two}
use Rattle.spec_demand.specs.Program.{program_outcome}
use Rattle.spec_demand.specs.Timers as T
use Rattle.spec_demand.proofs.Program.{rules_kept, answers}

pub timers_taken : T.TimersTaken
unfolding program_outcome answered packed_answer refused_words
timers_taken xs v n z =
    split (state_ok xs)
    (λ ok. let e = answers xs ok v in
    subst NotMalformed (sym (ap (λ (x : Outcome). x.output) e))
    (written_taken _ (written v (unpack xs) (rules_kept xs ok) n (sym (ap (λ (x : Outcome). x.code) e) ∙ z))))
    (λ broken. let two : 2 ≡ 0 = ap (λ (x : Outcome). x.code) (from_two v.side xs v.event v.draws (length v.output) broken) ∙ z in absurd (omega (arith, two)))

pub timers_taken_by_value : T.TimersTakenByValue
timers_taken_by_value s v n z = timers_taken s.words v n z
