-- Lists in a row, as `subset_of_three` looks at them.
-- Assumes nothing.
use Prim.Native.Nat.{ℕ, ◌+◌, ◌-◌, ◌≤◌, ◌<◌}
use mathlib.Core.Path.{◌≡◌, sym, ap, ◌∙◌}
use mathlib.Core.Bool.{Bool, true, ◌||◌}
use mathlib.Core.List.{List, ◌++◌, append_assoc}
use native.Mathlib.Omega.{arith}
use lib.ListN.{length, get_or, length-append, get_or-append}
use lib.Seq.{get_or-append-add}
use Rattle.base_lists.specs.Lists.{mem}
use Rattle.base_lists.proofs.Skips.{mem_append}
use Rattle.base_scan.proofs.Hints.{at_hint}

-- the word at a place of two lists in a row
module _ (s t : List ℕ) (h : ℕ) where
  in_first : h < length s → get_or s h 0 ≡ get_or (s ++ t) h 0
  in_first p = sym (get_or-append s t 0 h p)

  past_first : length s ≤ h → get_or t (h - length s) 0 ≡ get_or (s ++ t) h 0
  past_first p =
      let k : length s + (h - length s) ≡ h = omega arith in
      sym (get_or-append-add s t (h - length s) 0) ∙ ap (λ (j : ℕ). get_or (s ++ t) j 0) k

-- and of three
module _ (b c d : List ℕ) (h : ℕ) where
  regroup : get_or ((b ++ c) ++ d) h 0 ≡ get_or (b ++ (c ++ d)) h 0
  regroup = ap (λ (l : List ℕ). get_or l h 0) (append_assoc b c d)

  module _ (y : ℕ) where
    pub of_first : h < length b → y ≡ get_or b h 0 → y ≡ get_or (b ++ (c ++ d)) h 0
    of_first p e = e ∙ in_first b (c ++ d) h p

    pub of_second : length b ≤ h → h < length b + length c → y ≡ get_or c (h - length b) 0 → y ≡ get_or (b ++ (c ++ d)) h 0
    of_second q p e = e ∙ past_first b c h q ∙ in_first (b ++ c) d h (omega (arith, length-append b c)) ∙ regroup

    pub of_third : length b + length c ≤ h → y ≡ get_or d (h - (length b + length c)) 0 → y ≡ get_or (b ++ (c ++ d)) h 0
    of_third p e =
        e ∙ ap (λ (n : ℕ). get_or d (h - n) 0) (sym (length-append b c)) ∙ past_first (b ++ c) d h (omega (arith, length-append b c)) ∙ regroup

module _ (b c d : List ℕ) (x : ℕ) where
  pub at_hint_of_three : (h y : ℕ) → h < length b + length c + length d → y ≡ get_or (b ++ (c ++ d)) h 0 → x ≡ y → true ≡ mem x (b ++ (c ++ d))
  at_hint_of_three h y p e q = at_hint (b ++ (c ++ d)) h x (omega (arith, length-append b (c ++ d), length-append c d)) (q ∙ e)

  pub in_three : (p q r : Bool) → p ≡ mem x b → q ≡ mem x c → r ≡ mem x d → (p || (q || r)) ≡ mem x (b ++ (c ++ d))
  in_three p q r e f g = (λ i. e i || (f i || g i)) ∙ ap (λ (t : Bool). mem x b || t) (sym (mem_append x c d)) ∙ sym (mem_append x b (c ++ d))
