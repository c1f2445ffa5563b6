-- Parts of a list of words: one is put back, or a word is stored, and the others are as they were.
-- Assumes nothing.
use Prim.Native.Nat.{ℕ, ◌+◌, ◌-◌, ◌≤◌, ◌<◌}
use mathlib.Core.Path.{◌≡◌, sym, ap, ◌∙◌}
use mathlib.Core.List.{List, ◌++◌}
use native.Mathlib.Omega.{arith}
use lib.ListN.{length, take, drop, get_or, set, length-drop, take-append-drop}
use lib.Seq.{take_at, drop_at, take-add, take-take, length-take-le, take-append-le, drop-append-le, drop-drop, drop-set-lt, drop-set-add, take-set-le, take-set-lt, get_or-take, get_or-drop}
use borrow.Rule.Slice.PartMut.{put_mid, drop_put, same_len_mid, mid_len}
use Rattle.base_util.specs.Section.{part}

pub part_long : (a k : ℕ) (xs : List ℕ) → a + k ≤ length xs → length (part a k xs) ≡ k
unfolding part
part_long a k xs h = length-take-le k (drop a xs) (omega (arith, length-drop a xs))

-- a word of the part
pub part_read : (a k i : ℕ) (xs : List ℕ) → i < k → get_or (part a k xs) i 0 ≡ get_or xs (a + i) 0
unfolding part
part_read a k i xs h = get_or-take k (drop a xs) i 0 h ∙ get_or-drop a xs i 0

pub part_put : (a k : ℕ) (xs ys : List ℕ) → a ≤ length xs → length ys ≡ k → part a k (put_mid a k xs ys) ≡ ys
unfolding part
part_put a k xs ys h e = rw (drop_at (take a xs) (ys ++ drop k (drop a xs)) a (length-take-le a xs h)) (take_at ys (drop k (drop a xs)) k e)

front : (b m a : ℕ) (xs zs : List ℕ) → b + m ≤ a → a ≤ length xs → take m (drop b (take a xs ++ zs)) ≡ take m (drop b (take a xs))
front b m a xs zs h l =
    let n : length (take a xs) ≡ a = length-take-le a xs l in
    rw (drop-append-le b (take a xs) zs (omega arith)) (take-append-le m (drop b (take a xs)) zs (omega (arith, length-drop b (take a xs))))

pub part_before : (b m a k : ℕ) (xs ys : List ℕ) → b + m ≤ a → a ≤ length xs → part b m (put_mid a k xs ys) ≡ part b m xs
unfolding part
part_before b m a k xs ys h l =
    front b m a xs (ys ++ drop k (drop a xs)) h l
    ∙ sym (front b m a xs (drop a xs) h l)
    ∙ ap (λ (l : List ℕ). take m (drop b l)) (take-append-drop a xs)

pub part_after : (b m a e : ℕ) (xs ys : List ℕ) → a ≤ e → e ≤ b → e ≤ length xs → length ys ≡ e - a → part b m (put_mid a (e - a) xs ys) ≡ part b m xs
unfolding part
part_after b m a e xs ys p q h l =
    let k : e + (b - e) ≡ b = omega arith in
    let f : (zs : List ℕ) → drop b zs ≡ drop (b - e) (drop e zs) = λ zs. sym (drop-drop (b - e) e zs ∙ ap (λ (n : ℕ). drop n zs) k) in
    ap (take m) (f (put_mid a (e - a) xs ys) ∙ ap (drop (b - e)) (drop_put a e xs ys p h l) ∙ sym (f xs))

-- a part before a word that is stored
pub part_set_after : (b k i v : ℕ) (xs : List ℕ) → b + k ≤ i → part b k (set xs i v) ≡ part b k xs
unfolding part
part_set_after b k i v xs h =
    let e : i ≡ b + (i - b) = omega arith in
    ap (λ (j : ℕ). take k (drop b (set xs j v))) e ∙ ap (take k) (drop-set-add b xs (i - b) v) ∙ take-set-le k (drop b xs) (i - b) v (omega arith)

-- a word of the part is stored
pub part_set_in : (b k i v : ℕ) (xs : List ℕ) → i < k → part b k (set xs (b + i) v) ≡ set (part b k xs) i v
unfolding part
part_set_in b k i v xs h = ap (take k) (drop-set-add b xs i v) ∙ take-set-lt k (drop b xs) i v h

pub put_long : (a e : ℕ) (xs ys : List ℕ) → a ≤ e → e ≤ length xs → length ys ≡ e - a → length (put_mid a (e - a) xs ys) ≡ length xs
put_long a e xs ys p h l = same_len_mid a (e - a) xs ys (l ∙ sym (mid_len a e xs h))

-- the same of the first places
pub first_put_long : (n : ℕ) (xs ys : List ℕ) → n ≤ length xs → length ys ≡ n → length (put_mid 0 n xs ys) ≡ length xs
first_put_long n xs ys h l = same_len_mid 0 n xs ys (l ∙ sym (length-take-le n xs h))

pub after_first : (n k : ℕ) (xs ys : List ℕ) → n ≤ length xs → length ys ≡ n → part n k (put_mid 0 n xs ys) ≡ part n k xs
unfolding part
after_first n k xs ys h l = ap (take k) (drop_at ys (drop n xs) n l)

-- a part after a word that is stored
pub part_set_before : (b k i v : ℕ) (xs : List ℕ) → i < b → part b k (set xs i v) ≡ part b k xs
unfolding part
part_set_before b k i v xs h = ap (take k) (drop-set-lt b xs i v h)

-- the words from place b on of the first k, as the code lends them
pub slice_lent : (b k : ℕ) (xs : List ℕ) → b ≤ k → k ≤ length xs → take (k - b) (drop b xs) ≡ drop b (take k xs)
slice_lent b k xs h l =
    let e : b + (k - b) ≡ k = omega arith in
    sym
    (ap (λ (j : ℕ). drop b (take j xs)) (sym e) ∙ ap (drop b) (take-add b (k - b) xs)
    ∙ drop_at (take b xs) (take (k - b) (drop b xs)) b (length-take-le b xs (omega arith)))

-- the words past the first j of a column
pub part_past : (a k j : ℕ) (xs : List ℕ) → a + k ≤ length xs → drop (a + j) (take (a + k) xs) ≡ drop j (part a k xs)
unfolding part
part_past a k j xs h =
    let e : a + k - a ≡ k = omega arith in
    sym (drop-drop j a (take (a + k) xs)) ∙ ap (drop j) (sym (slice_lent a (a + k) xs (omega arith) h) ∙ ap (λ (i : ℕ). take i (drop a xs)) e)

-- a column of a section
pub part_part : (a k b j : ℕ) (xs : List ℕ) → b + j ≤ k → a + k ≤ length xs → part b j (part a k xs) ≡ part (a + b) j xs
unfolding part
part_part a k b j xs h l =
    ap (take j) (sym (slice_lent b k (drop a xs) (omega arith) (omega (arith, length-drop a xs))) ∙ ap (take (k - b)) (drop-drop b a xs))
    ∙ take-take j (k - b) (drop (a + b) xs) (omega arith)
