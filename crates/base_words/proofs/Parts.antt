-- One law for a section that is put back, and one for a number that is stored, whatever the layout is.
-- Assumes nothing.
use Prim.Native.Nat.{ℕ, zero, suc, ◌+◌, ◌-◌, ◌≤◌, ◌<◌}
use mathlib.Core.Path.{◌≡◌, refl, sym, ◌∙◌, subst}
use mathlib.Core.List.{List, [], ◌∷◌}
use native.Mathlib.Omega.{arith}
use lib.ListN.{length, get_or, set}
use borrow.Rule.Slice.PartMut.{put_mid}
use Rattle.base_util.specs.Section.{part}
use Rattle.base_util.proofs.Parts.{part_put, part_before, part_after, part_set_before, put_long}
use Rattle.base_words.specs.Parts.{parts, begin, end}

pub begin_after : (a : ℕ) (ns : List ℕ) (i : ℕ) → a ≤ begin a ns i
unfolding begin
begin_after a [] i = omega arith
begin_after a (n ∷ ns) zero = omega arith
begin_after a (n ∷ ns) (suc i) = omega (arith, begin_after (a + n) ns i)

end_after : (a : ℕ) (ns : List ℕ) → a ≤ end a ns
unfolding end
end_after a [] = omega arith
end_after a (n ∷ ns) = omega (arith, end_after (a + n) ns)

begin_end : (a : ℕ) (ns : List ℕ) (i : ℕ) → begin a ns i ≤ end a ns
unfolding begin end
begin_end a [] i = omega arith
begin_end a (n ∷ ns) zero = omega (arith, end_after (a + n) ns)
begin_end a (n ∷ ns) (suc i) = begin_end (a + n) ns i

-- a section ends no later than the last
pub begin_within : (a : ℕ) (ns : List ℕ) (i : ℕ) → i < length ns → begin a ns i + get_or ns i 0 ≤ end a ns
unfolding begin end
begin_within a [] i h = absurd (omega (arith, h))
begin_within a (n ∷ ns) zero h = end_after (a + n) ns
begin_within a (n ∷ ns) (suc i) h = begin_within (a + n) ns i (omega (arith, h))

pub put_same : (a k : ℕ) (xs zs : List ℕ) → a + k ≤ length xs → length zs ≡ k → length (put_mid a k xs zs) ≡ length xs
put_same a k xs zs l e =
    let d : (a + k) - a ≡ k = omega arith in
    subst (λ (j : ℕ). length (put_mid a j xs zs) ≡ length xs) d (put_long a (a + k) xs zs (omega arith) l (e ∙ sym d))

part_later : (b m a k : ℕ) (xs zs : List ℕ) → a + k ≤ b → a + k ≤ length xs → length zs ≡ k → part b m (put_mid a k xs zs) ≡ part b m xs
part_later b m a k xs zs h l e =
    let d : (a + k) - a ≡ k = omega arith in
    subst (λ (j : ℕ). part b m (put_mid a j xs zs) ≡ part b m xs) d (part_after b m a (a + k) xs zs (omega arith) h l (e ∙ sym d))

parts_later : (b a k : ℕ) (ns xs zs : List ℕ) → a + k ≤ b → a + k ≤ length xs → length zs ≡ k → parts b ns (put_mid a k xs zs) ≡ parts b ns xs
unfolding parts
parts_later b a k [] xs zs h l e = refl
parts_later b a k (n ∷ ns) xs zs h l e = λ i. part_later b n a k xs zs h l e i ∷ parts_later (b + n) a k ns xs zs (omega (arith, h)) l e i

-- section i is put back: it is the new one, and the others are as they were
pub put_parts : (a : ℕ) (ns : List ℕ) (i : ℕ) (xs zs : List ℕ) → i < length ns → end a ns ≤ length xs → length zs ≡ get_or ns i 0 → parts a ns (put_mid (begin a ns i) (get_or ns i 0) xs zs) ≡ set (parts a ns xs) i zs
unfolding parts begin end
put_parts a [] i xs zs h l e = absurd (omega (arith, h))
put_parts a (n ∷ ns) zero xs zs h l e =
    λ j. part_put a n xs zs (omega (arith, l, end_after (a + n) ns)) e j ∷ parts_later (a + n) a n ns xs zs (omega arith) (omega (arith, l, end_after (a + n) ns)) e j
put_parts a (n ∷ ns) (suc i) xs zs h l e =
    λ j. part_before a n (begin (a + n) ns i) (get_or ns i 0) xs zs (begin_after (a + n) ns i) (omega (arith, l, begin_end (a + n) ns i)) j ∷ put_parts (a + n) ns i xs zs (omega (arith, h)) l e j

-- a number before the sections is stored: they are as they were
pub set_parts : (a : ℕ) (ns : List ℕ) (i v : ℕ) (xs : List ℕ) → i < a → parts a ns (set xs i v) ≡ parts a ns xs
unfolding parts
set_parts a [] i v xs h = refl
set_parts a (n ∷ ns) i v xs h = λ j. part_set_before a n i v xs h j ∷ set_parts (a + n) ns i v xs (omega (arith, h)) j
