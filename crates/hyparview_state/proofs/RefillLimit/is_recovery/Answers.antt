-- By cases of the three limits, each by unfolding.
use mathlib.Core.Path.{◌≡◌, refl}
use mathlib.Core.Bool.{false}
use Rattle.spec_hyparview.specs.Station.{is_recovery}
use Rattle.hyparview_state.specs.Unpack.{refill_in}
use Rattle.hyparview_state.specs.declared.RefillLimit.{RefillLimit}
use Rattle.hyparview_state.specs.declared.RefillLimit.TheVariants.{Automatic, Requests, Recovery}
use Rattle.hyparview_state.proofs.RefillLimit.is_recovery.Goals as goal

other : (l : RefillLimit) → (l ≡ Recovery → ⊥) → false ≡ is_recovery (refill_in l)
unfolding is_recovery refill_in
other Automatic h = refl
other (Requests n) h = refl
other Recovery h = absurd (h refl)

pub returns-in-Recovery : goal.returns-in-Recovery
unfolding is_recovery refill_in
returns-in-Recovery c = rw c.in-Recovery.is

pub returns-in_default : goal.returns-in_default
returns-in_default c = other c.args.self c.in_default.not-Recovery
