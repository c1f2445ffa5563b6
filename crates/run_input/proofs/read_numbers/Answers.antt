-- Each place gets its number, and after the last the list is the one that is wanted.
use Prim.Native.Nat.{ℕ, ◌+◌, ◌≤◌, ◌<◌}
use mathlib.Core.Path.{◌≡◌, sym, ◌∙◌}
use mathlib.Core.List.{List}
use native.Mathlib.Nat.{zero-add}
use native.Mathlib.Omega.{arith}
use lib.ListN.{length, get_or, set}
use lib.Seq.{ext_get_or}
use Rattle.base_lists.proofs.Front.{front_step}
use Rattle.run_input.specs.Input.{number, numbers}
use Rattle.run_input.proofs.Laws.{numbers_at, length_numbers}
use Rattle.run_input.proofs.read_numbers.Invariants.{Wanted}
use Rattle.run_input.proofs.read_numbers.Goals as goal

next : (b to₀ to : List ℕ) (i r : ℕ) → i < length to → r ≡ number b i → Wanted b to₀ to i → Wanted b to₀ (set to i r) (i + 1)
next b to₀ to i r h e f =
    let q : get_or (numbers (length to₀) 0 b) i 0 ≡ number b i = numbers_at (length to₀) 0 i b (omega (arith, f.long)) ∙ rw (zero-add i) in
    front_step f r (omega (arith, f.long)) (e ∙ sym q)

end : (b to₀ to : List ℕ) (i : ℕ) → length to ≤ i → Wanted b to₀ to i → to ≡ numbers (length to₀) 0 b
end b to₀ to i h f = ext_get_or 0 to _ (f.long ∙ sym (length_numbers (length to₀) 0 b)) (λ j p. f.done j (omega arith))

pub loop-i-preserved : goal.loop-i-preserved
loop-i-preserved c = next _ _ _ _ _ (omega arith) c.number.ensures c.loop-i.invariant

pub returns : goal.returns
returns c = end _ _ _ _ (omega arith) c.loop-i.invariant
