-- The items of one set copied into another.
-- Assumes nothing.
use Prim.Native.Nat.{ℕ, ◌+◌, ◌-◌, ◌≤◌}
use mathlib.Core.Path.{◌≡◌, sym, ap, ◌∙◌}
use mathlib.Core.List.{List, ◌++◌, append_assoc}
use native.Mathlib.Omega.{arith}
use lib.ListN.{length, take, drop, get_or, set, replicate, length-set, length-append, length-drop, length-replicate}
use lib.Seq.{take_at, drop-append-add, length-take-le, take-append-add, drop-drop, get_or-set_same}
use borrow.Rule.Slice.PartMut.{mid_of, put_mid}
use Rattle.std.proofs.lemmas.List.{drop-replicate}
use Rattle.base_lists.specs.Array.{pad}
use Rattle.base_lists.proofs.Array.{pad_append, pad_more}
use Rattle.base_util.specs.Section.{working_places, working_words, part, Filled, items_at, ValidSet, HoldsSet}
use Rattle.base_util.proofs.Columns.{filled_length}
use Rattle.base_util.proofs.Parts.{part_set_after, put_long, slice_lent}
use Rattle.base_util.proofs.Sets.{set_of, lent}

-- ---- a copy into 32 places

module _ (s : List ℕ) (n : ℕ) (t : List ℕ) (f : Filled s n) (h : length s ≤ working_places) (l : length t ≡ working_words) where
  later : List ℕ
  later = drop (length s) t

  module _ (ys zs : List ℕ) (e : ys ≡ s) (o : zs ≡ replicate (length (mid_of (length s) (working_places - length s) (ys ++ drop (length s) t))) 0) where
    abbrev words : List ℕ
    words = put_mid (length s) (working_places - length s) (ys ++ drop (length s) t) zs

    long : length (ys ++ drop (length s) t) ≡ working_words
    long = length-append ys (drop (length s) t) ∙ omega (arith, ap length e, length-drop (length s) t)

    zeroes : zs ≡ replicate (working_places - length s) 0
    zeroes = o ∙ ap (λ (k : ℕ). replicate k 0) (length-take-le (working_places - length s) (drop (length s) (ys ++ drop (length s) t)) (omega (arith, long, length-drop (length s) (ys ++ drop (length s) t))))

    words_long : length words ≡ working_words
    words_long = put_long (length s) working_places (ys ++ drop (length s) t) zs h (omega (arith, long)) (ap length zeroes ∙ length-replicate (working_places - length s) 0) ∙ long

    words_first : part 0 working_places words ≡ pad 0 working_places (take n s)
    unfolding part
    words_first =
        let rest : List ℕ = drop (working_places - length s) (drop (length s) (ys ++ drop (length s) t)) in
        let a : take (length s) (ys ++ drop (length s) t) ≡ s = take_at ys (drop (length s) t) (length s) (ap length e) ∙ e in
        let b : length (s ++ replicate (working_places - length s) 0) ≡ working_places = length-append s (replicate (working_places - length s) 0) ∙ omega (arith, length-replicate {A = ℕ} (working_places - length s) 0) in
        (λ j. take working_places (a j ++ (zeroes j ++ rest))) ∙ ap (take working_places) (sym (append_assoc s (replicate (working_places - length s) 0) rest))
        ∙ take_at (s ++ replicate (working_places - length s) 0) rest working_places b
        ∙ ap (λ (r : List ℕ). r ++ replicate (working_places - length s) 0) f.packed
        ∙ pad_more 0 (length s) (working_places - length s) working_places (take n s) (omega (arith, filled_length s n f, f.fits)) (omega arith)

    pub column_copied : HoldsSet working_places (set words working_places n) (take n s)
    column_copied =
        set_of working_places (set words working_places n) (take n s) (length-set words working_places n ∙ words_long)
        (part_set_after 0 working_places working_places n words (omega arith) ∙ words_first)
        (get_or-set_same words working_places n 0 (omega (arith, words_long)) ∙ sym (filled_length s n f)) (omega (arith, filled_length s n f, f.fits))

pub copied : (n : ℕ) (s t : List ℕ) → ValidSet n s → HoldsSet working_places t (take (get_or s n 0) (part 0 n s)) → HoldsSet working_places t (items_at n s)
unfolding items_at
copied n s t v h = h

-- ---- the items of a second set after those of a first

module _ (n : ℕ) (s : List ℕ) (m : ℕ) (more : List ℕ) (v : ValidSet n s) (w : ValidSet m more) (r : length (items_at n s) + length (items_at m more) ≤ n) where
  abbrev c : ℕ
  c = get_or s n 0

  abbrev d : ℕ
  d = get_or more m 0

  both_long : length (items_at n s ++ items_at m more) ≡ c + d
  both_long = length-append (items_at n s) (items_at m more) ∙ omega (arith, v.counted, w.counted)

  -- what stands past the items
  past : take (n - (c + d)) (drop (c + d) s) ≡ replicate (n - (c + d)) 0
  unfolding part items_at
  past =
      let xs = items_at n s in
      let p : take n s ≡ pad 0 n xs = v.filled.packed ∙ ap (λ (k : ℕ). pad 0 k xs) (length-take-le n s (omega (arith, v.long))) in
      let k : length xs + d ≡ c + d = omega (arith, v.counted) in
      slice_lent (c + d) n s (omega (arith, r, v.counted, w.counted)) (omega (arith, v.long)) ∙ ap (drop (c + d)) (p ∙ pad_append 0 n (n - c) xs (omega (arith, v.counted, v.fits)))
      ∙ ap (λ (j : ℕ). drop j (xs ++ replicate (n - c) 0)) (sym k) ∙ drop-append-add xs (replicate (n - c) 0) d ∙ drop-replicate d (n - c) 0
      ∙ (let q : n - c - d ≡ n - (c + d) = omega arith in ap (λ (j : ℕ). replicate j 0) q)

  module _ (ys : List ℕ) (e : ys ≡ take d more) where
    abbrev joined : List ℕ
    joined = put_mid c (c + d - c) s ys

    theirs : ys ≡ items_at m more
    theirs = e ∙ lent m more w

    joined_long : length joined ≡ n + 1
    joined_long = put_long c (c + d) s ys (omega arith) (omega (arith, v.long, v.counted, w.counted, r)) (ap length theirs ∙ omega (arith, w.counted)) ∙ v.long

    joined_first : part 0 n joined ≡ pad 0 n (items_at n s ++ items_at m more)
    unfolding part
    joined_first =
        let xs = items_at n s in
        let zs = items_at m more in
        let q : c + d - c ≡ d = omega arith in
        let k : length (xs ++ zs) + (n - (c + d)) ≡ n = omega (arith, both_long, v.counted, w.counted, r) in
        (λ j. take n (lent n s v j ++ (theirs j ++ drop (q j) (drop c s)))) ∙ ap (λ (l : List ℕ). take n (xs ++ (zs ++ l))) (drop-drop d c s)
        ∙ ap (take n) (sym (append_assoc xs zs (drop (c + d) s))) ∙ ap (λ (j : ℕ). take j ((xs ++ zs) ++ drop (c + d) s)) (sym k)
        ∙ take-append-add (xs ++ zs) (drop (c + d) s) (n - (c + d)) ∙ ap (λ (l : List ℕ). (xs ++ zs) ++ l) past
        ∙ sym (pad_append 0 n (n - (c + d)) (xs ++ zs) (sym k))

    pub appended : HoldsSet n (set joined n (c + d)) (items_at n s ++ items_at m more)
    appended =
        set_of n (set joined n (c + d)) (items_at n s ++ items_at m more) (length-set joined n (c + d) ∙ joined_long)
        (part_set_after 0 n n (c + d) joined (omega arith) ∙ joined_first)
        (get_or-set_same joined n (c + d) 0 (omega (arith, joined_long)) ∙ sym both_long) (omega (arith, both_long, v.counted, w.counted, r))
