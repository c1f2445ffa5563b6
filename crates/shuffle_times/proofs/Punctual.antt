-- A call brought no later than a timer that waits is due leaves it punctual, and one brought when the first is due fires it.
-- Assumes nothing.
use mathlib.Core.Path.{◌≡◌, refl, sym, subst, ◌∙◌}
use mathlib.Core.Bool.{true, false}
use mathlib.Core.List.{List, [], ◌∷◌, ◌++◌}
use Prim.Native.Nat.{ℕ, ◌≤◌}
use native.Mathlib.Omega.{arith}
use lib.Dec.{leb}
use borrow.Author.Tests.{eq-eqb, le-leb}
use Rattle.base_lists.specs.Tests.{every}
use Rattle.base_lists.proofs.Choice.{choose_yes, choose_no}
use Rattle.base_lists.proofs.Members.{both}
use Rattle.spec_hyparview.specs.Station.{Station}
use Rattle.spec_history.specs.Calls.{result_of, definition}
use Rattle.shuffle_times.specs.Histories.{Brought, set_by, fires, is_first, punctual}

-- one timer that is due at b waits at a
pub waits : (a b : ℕ) → a ≤ b → every (leb a) (b ∷ []) ≡ true
unfolding every
waits a b h = both _ _ (le-leb a b (omega arith)) refl

-- one call more in front of punctual ones
module _ (k : ℕ) (v : Brought) (vs : List Brought) (s t : Station) (to : (result_of v.call s).state ≡ t) (set : List ℕ) (e : set_by k definition v s ≡ set) (ws : List ℕ) (l : every (leb v.at) ws ≡ true)
    (h : punctual k definition vs t (ws ++ set) ≡ true) where
  after_set : punctual k definition vs (result_of v.call s).state (ws ++ set_by k definition v s) ≡ true
  after_set =
      subst (λ (x : List ℕ). punctual k definition vs (result_of v.call s).state (ws ++ x) ≡ true) (sym e)
      (subst (λ (z : Station). punctual k definition vs z (ws ++ set) ≡ true) (sym to) h)

  pub fired : (x : ℕ) → v.at ≡ x → fires k definition v s ≡ true → punctual k definition (v ∷ vs) s (x ∷ ws) ≡ true
  unfolding punctual every is_first
  fired x q f = both _ _ (both _ _ (le-leb v.at x (omega arith)) l) (choose_yes (fires k definition v s) _ _ f ∙ both _ _ (eq-eqb v.at x q) after_set)

  pub passed : fires k definition v s ≡ false → punctual k definition (v ∷ vs) s ws ≡ true
  unfolding punctual
  passed f = both _ _ l (choose_no (fires k definition v s) _ _ f ∙ after_set)
