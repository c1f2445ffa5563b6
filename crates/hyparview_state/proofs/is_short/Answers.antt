-- The section's count is the active view's length, and a capacity of packed words is at most 8, so the sum fits.
use native.Mathlib.Omega.{arith}
use Rattle.hyparview_state.proofs.Counts.{short}
use Rattle.hyparview_state.proofs.Access.{of_capacity}
use Rattle.hyparview_state.proofs.is_short.Goals as goal

pub overflow_add-result : goal.overflow_add-result
overflow_add-result c = record { fits = omega (arith, of_capacity _ c.requires.packed_state) }

pub returns : goal.returns
returns c = search short
