-- The events and the draws of an input, as its bytes are cut and its numbers are read.
-- Assumes nothing.
use Prim.Native.Nat.{ℕ, zero, suc, ◌-◌, ◌≤◌}
use mathlib.Core.Path.{◌≡◌, refl, sym, ap, ◌∙◌}
use mathlib.Core.List.{List, [], ◌∷◌}
use native.Mathlib.Omega.{arith}
use lib.ListN.{length, take, drop, length-drop}
use lib.Seq.{take-nil, slice, take_all, length-take-le}
use Rattle.io.specs.Counts.{IsPrefixLen}
use Rattle.run_input.specs.declared.Head.{Head}
use Rattle.run_input.specs.Input.{number, numbers}
use Rattle.run_input.proofs.Laws.{length_numbers, Laid}

pub counted : (n : ℕ) (l : List ℕ) → n ≤ length l → n ≡ length (take n l)
counted n l h = sym (length-take-le n l h)

first_numbers : (n k i : ℕ) (b : List ℕ) → n ≤ k → take n (numbers k i b) ≡ numbers n i b
unfolding numbers
first_numbers zero k i b h = refl
first_numbers (suc n) zero i b h = absurd (omega (arith, h))
first_numbers (suc n) (suc k) i b h = ap (λ (z : List ℕ). number b i ∷ z) (first_numbers n k (suc i) b (omega (arith, h)))

pub part_is : (f t : ℕ) (l : List ℕ) → slice f t l ≡ take (t - f) (drop f l)
part_is zero t l = let e : t ≡ t - 0 = omega arith in ap (λ (x : ℕ). take x l) e
part_is (suc f) zero l = let e : 0 ≡ 0 - suc f = omega arith in ap (λ (x : ℕ). take x (drop (suc f) l)) e
part_is (suc f) (suc t) [] = sym (take-nil (suc t - suc f))
part_is (suc f) (suc t) (x ∷ l) = part_is f t l ∙ (let e : t - f ≡ suc t - suc f = omega arith in ap (λ (y : ℕ). take y (drop f l)) e)

-- the numbers read from the rest of b into a space of 16,384
pub numbers_read : (b ns : List ℕ) (head : Head) (k : ℕ) → Laid b head → k ≡ 16384 → ns ≡ numbers k 0 (take (length b - head.draws_at) (drop head.draws_at b))
    → IsPrefixLen head.draws ns × (ns ≡ numbers (length ns) 0 (drop head.draws_at b))
numbers_read b ns head k v z q =
    let e : length ns ≡ k = ap length q ∙ length_numbers k 0 (take (length b - head.draws_at) (drop head.draws_at b)) in
    let few : head.draws ≤ length ns = omega (arith, v.full, v.most, e, z) in
    ((few, counted head.draws ns few), q ∙ (λ j. numbers (sym e j) 0 (take_all (length b - head.draws_at) (drop head.draws_at b) (simp length-drop (omega arith)) j)))

-- as many of them as the input has draws
pub first_draws : (b ns : List ℕ) (head : Head) → IsPrefixLen head.draws ns → ns ≡ numbers (length ns) 0 (drop head.draws_at b) → take head.draws ns ≡ numbers head.draws 0 (drop head.draws_at b)
first_draws b ns head h e = ap (take head.draws) e ∙ first_numbers head.draws (length ns) 0 (drop head.draws_at b) h.0
