-- What was written stands in the output.
use Prim.Native.Nat.{ℕ, ◌≤◌}
use mathlib.Core.Path.{◌≡◌, ap}
use mathlib.Core.List.{List}
use native.Mathlib.Omega.{arith}
use Rattle.std.specs.Prelude.{Result, Ok, Err, IfOk}
use Rattle.record.specs.declared.Refusal.{Refusal}
use Rattle.record_convert.specs.Convert.{Conversion, outcome, conversion, outcome_of}
use Rattle.record_convert.proofs.Laws.{converted_fits}
use Rattle.test_convert.proofs.convert_to.Goals as goal

within : (v w : ℕ) (b out : List ℕ) (n : ℕ) (r : Result ℕ Refusal) → outcome_of r out ≡ conversion v w b n → IfOk r (λ k. k ≤ n)
unfolding conversion outcome
within v w b out n (Ok k) q = omega (arith, ap (λ (o : Conversion). o.written) q, converted_fits v w b n)
within v w b out n (Err e) q = tt

pub returns-then-form-eq0 : goal.returns-then-form-eq0
returns-then-form-eq0 c = within _ _ _ _ _ _ c.old_to_new.ensures

pub returns : goal.returns
returns c = within _ _ _ _ _ _ c.new_to_old.ensures
