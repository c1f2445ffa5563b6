-- The rest must be the events that are left: none of so many, or one and the others, or no bytes.
use Prim.Native.Nat.{ℕ, ◌+◌, ◌-◌, ◌≤◌, ◌<◌}
use mathlib.Core.Path.{◌≡◌, refl, sym, ap, ◌∙◌}
use mathlib.Core.Bool.{Bool, false}
use mathlib.Core.List.{List, [], ◌∷◌}
use native.Mathlib.Omega.{arith}
use lib.ListN.{length, take, drop, length-drop}
use lib.Seq.{take_all}
use lib.Dec.{eqb}
use borrow.Author.Tests.{eq-eqb, ne_eqb}
use Rattle.base_lists.specs.Lists.{null}
use Rattle.run_input.specs.Input.{event_length, are_events}
use Rattle.run_input.proofs.Laws.{none_first, one_first}
use Rattle.run_input.proofs.are_events.Goals as goal

-- whether nothing is left
null_length : (l : List ℕ) → null l ≡ eqb (length l) 0
unfolding null
null_length [] = sym (eq-eqb 0 0 refl)
null_length (x ∷ l) = sym (ne_eqb (length (x ∷ l)) 0 (λ e. omega arith))

module _ (whole : Bool) (l : List ℕ) (n i : ℕ) (same : whole ≡ are_events (n - i) l) where
  none : (size : ℕ) → i < n → size ≡ event_length l → size ≡ 0 → false ≡ whole
  none size h e z = sym (same ∙ none_first (n - i) l (omega (arith, h)) (sym e ∙ z))

  next : (size : ℕ) → i < n → size ≡ event_length l → (size ≡ 0 → ⊥) → whole ≡ are_events (n - (i + 1)) (take (length l - size) (drop size l))
  next size h e z =
      let left : n - i - 1 ≡ n - (i + 1) = omega arith in
      same ∙ (one_first (n - i) l (omega (arith, h)) (λ q. z (e ∙ q))
      ∙ ((λ j. are_events (left j) (drop (sym e j) l))
      ∙ ap (are_events (n - (i + 1))) (sym (take_all (length l - size) (drop size l) (omega (arith, length-drop size l))))))

  end : n ≤ i → eqb (length l) 0 ≡ whole
  unfolding are_events
  end h = let z : n - i ≡ 0 = omega (arith, h) in sym (same ∙ (ap (λ (k : ℕ). are_events k l) z ∙ null_length l))

pub returns-then-size-eq0 : goal.returns-then-size-eq0
returns-then-size-eq0 c = search none

pub loop-preserved : goal.loop-preserved
loop-preserved c = search next

pub returns : goal.returns
returns c = c.is_empty.ensures ∙ end _ _ _ _ c.loop.invariant (omega arith)
