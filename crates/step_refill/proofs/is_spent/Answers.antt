-- By cases of the three limits.
use mathlib.Core.Path.{◌≡◌, refl}
use mathlib.Core.Bool.{false}
use Prim.Native.Nat.{ℕ}
use Rattle.spec_hyparview.specs.Station.{is_spent}
use Rattle.hyparview_state.specs.Unpack.{refill_in}
use Rattle.hyparview_state.specs.declared.RefillLimit.{RefillLimit}
use Rattle.hyparview_state.specs.declared.RefillLimit.TheVariants.{Automatic, Requests, Recovery}
use Rattle.step_refill.proofs.is_spent.Goals as goal

other : (l : RefillLimit) → ((n : ℕ) → l ≡ Requests n → ⊥) → false ≡ is_spent (refill_in l)
unfolding is_spent refill_in
other Automatic h = refl
other (Requests n) h = absurd (h n refl)
other Recovery h = refl

pub returns-in-Requests : goal.returns-in-Requests
unfolding is_spent refill_in
returns-in-Requests c = rw c.in-Requests.is

pub returns-in_default : goal.returns-in_default
returns-in_default c = other _ c.in_default.not-Requests
