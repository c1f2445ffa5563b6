-- A file that is read piece by piece is converted as one: what a walk over its first bytes does is what the walk over all of it begins with.
-- Assumes nothing.
use Prim.Native.Nat.{ℕ, zero, suc, ◌+◌, ◌*◌, ◌-◌, ◌≤◌, ◌<◌}
use mathlib.Core.Path.{◌≡◌, refl, sym, ap, subst, ◌∙◌}
use mathlib.Core.List.{List, [], ◌∷◌, ◌++◌}
use native.Mathlib.Nat.{zero-add}
use native.Mathlib.Omega.{arith}
use borrow.Author.Tests.{leb-true, leb-false, eqb-true, eqb-false, eq-eqb}
use lib.ListN.{length, take, drop, length-take, length-drop, length-append}
use lib.Seq.{slice, take-take, length-take-le, get_or-take, drop-drop}
use lib.Dec.{leb, eqb}
use Rattle.base_lists.specs.Bytes.{read_le}
use Rattle.base_lists.proofs.Slices.{slice_part}
use Rattle.base_lists.proofs.Choice.{choose_yes, split}
use Rattle.record.specs.Format.{header_length_by, encode_by}
use Rattle.record.specs.Read.{header_of_by, rec_of_by}
use Rattle.record.proofs.Format.{length_encode_by}
use Rattle.record.proofs.Back.{parts}
use Rattle.record.proofs.Laws.{well_formed_long}
use Rattle.record_convert.specs.Convert.{conversion_code, converted}
use Rattle.record_convert.specs.Walk.{first_record, Walked, behind, stopped, converting, walked}
use Rattle.record_convert.proofs.Laws.{Accepted, accepted}
use Rattle.record_convert.proofs.Walk.{first_part, first_long, walk_on, walk_stop, walk_end, behind_behind}
use Rattle.record_convert.proofs.RoundTrip.{accepts}

-- ---- the first record is whole in the first bytes or it is not accepted there

read_taken : (k n : ℕ) (l : List ℕ) (i : ℕ) → i + k ≤ n → read_le k (take n l) i ≡ read_le k l i
unfolding read_le
read_taken zero n l i h = refl
read_taken (suc k) n l i h = rw (get_or-take n l i 0 (omega arith), read_taken k n l (suc i) (omega arith))

module _ (v w : ℕ) (b : List ℕ) (k r : ℕ) (l : k ≤ length b) (z : conversion_code v w (first_record v (take k b)) r ≡ 0) where
  abbrev c : List ℕ
  c = take k b

  abbrev f : List ℕ
  f = first_record v c

  ok : Accepted v w f r
  ok = accepted v w f r z

  length_c : length c ≡ k
  length_c = length-take-le k b l

  long_f : header_length_by v ≤ length f
  long_f = well_formed_long v f ok.well

  f_in : f ≡ take (length f) c
  f_in = sym (first_part v c)

  within : length f ≤ k
  within = omega (arith, ap length f_in, length-take (length f) c, length_c)

  sized : read_le 2 f (6 + 2 * v) ≡ length f
  unfolding header_of_by
  sized = (parts v f ok.well).sized

  size_in : read_le 2 b (6 + 2 * v) ≡ length f
  size_in =
      let p : read_le 2 c (6 + 2 * v) ≡ read_le 2 b (6 + 2 * v) = read_taken 2 k b (6 + 2 * v) (omega (arith, within, long_f)) in
      let q : read_le 2 f (6 + 2 * v) ≡ read_le 2 c (6 + 2 * v) = ap (λ (x : List ℕ). read_le 2 x (6 + 2 * v)) f_in ∙ read_taken 2 (length f) c (6 + 2 * v) (omega (arith, long_f)) in
      sym p ∙ sym q ∙ sized

  same_first : first_record v b ≡ f
  same_first = first_long v b (omega (arith, within, long_f)) ∙ ap (λ (n : ℕ). take n b) size_in ∙ sym (take-take (length f) k b within) ∙ first_part v c

  is_whole : (q : ℕ) → length (converted v w f r) ≤ q → (conversion_code v w f q ≡ 0) × (converted v w f q ≡ converted v w f r)
  unfolding converted
  is_whole q h =
      let e : converted v w f r ≡ encode_by w (rec_of_by v f) = choose_yes _ _ _ (eq-eqb (conversion_code v w f r) 0 z) in
      let a : conversion_code v w f q ≡ 0 = accepts v w f ok.sound ok.form q (omega (arith, h, ap length e, length_encode_by w (rec_of_by v f))) in
      (a, choose_yes _ _ _ (eq-eqb (conversion_code v w f q) 0 a) ∙ sym e)

-- ---- the number of bytes is never used up

takes : (v w : ℕ) (b : List ℕ) (r : ℕ) → conversion_code v w (first_record v b) r ≡ 0 → 0 < length (first_record v b)
takes v w b r z = omega (arith, well_formed_long v (first_record v b) (accepted v w (first_record v b) r z).well)

walk_empty : (v w n : ℕ) (b : List ℕ) (r : ℕ) → length b < 1 → converting v w n b r ≡ stopped 0
walk_empty v w n [] r h = walk_end v w n r
walk_empty v w n (x ∷ b) r h = absurd (omega arith)

enough : (v w n m : ℕ) (b : List ℕ) (r : ℕ) → length b ≤ n → length b ≤ m → converting v w n b r ≡ converting v w m b r
enough v w zero m b r h k = walk_empty v w zero b r (omega arith) ∙ sym (walk_empty v w m b r (omega arith))
enough v w (suc n) zero b r h k = walk_empty v w (suc n) b r (omega arith) ∙ sym (walk_empty v w zero b r (omega arith))
enough v w (suc n) (suc m) b r h k =
    split (leb 1 (length b))
    (λ s. let some : 0 < length b = leb-true 1 (length b) s in
    split (eqb (conversion_code v w (first_record v b) r) 0)
    (λ y. let z : conversion_code v w (first_record v b) r ≡ 0 = eqb-true _ _ y in
    walk_on v w n b r some z
    ∙ ap (behind (length (first_record v b)) (converted v w (first_record v b) r))
    (enough v w n m (drop (length (first_record v b)) b) (r - length (converted v w (first_record v b) r)) (omega (arith, length-drop (length (first_record v b)) b, takes v w b r z))
    (omega (arith, length-drop (length (first_record v b)) b, takes v w b r z)))
    ∙ sym (walk_on v w m b r some z))
    (λ y. let z : conversion_code v w (first_record v b) r ≡ 0 → ⊥ = eqb-false _ _ y in
    walk_stop v w n b r some z ∙ sym (walk_stop v w m b r some z)))
    (λ e. let none : length b < 1 = leb-false 1 (length b) e in
    walk_empty v w (suc n) b r none ∙ sym (walk_empty v w (suc m) b r none))

-- ---- the walk over b, after what a walk x over its first bytes did

abbrev pub Begins : ℕ → ℕ → ℕ → List ℕ → ℕ → Walked → Type 0
Begins v w m b room x = converting v w m b room ≡ behind x.taken x.bytes (converting v w m (drop x.taken b) (room - length x.bytes))

begins_none : (v w m : ℕ) (b : List ℕ) (room code : ℕ) → Begins v w m b room (stopped code)
unfolding behind
begins_none v w m b room code =
    let z : room - 0 ≡ room = omega arith in
    rw z (λ j. record { code = (converting v w m b room).code; taken = sym (zero-add (converting v w m b room).taken) j; bytes = (converting v w m b room).bytes })

begins_more : (v w m : ℕ) (b : List ℕ) (room : ℕ) (x : Walked) (k : ℕ) (bs : List ℕ) → 0 < k → length b ≤ suc m
    → converting v w (suc m) b room ≡ behind k bs (converting v w m (drop k b) (room - length bs)) → Begins v w m (drop k b) (room - length bs) x → Begins v w (suc m) b room (behind k bs x)
unfolding behind
begins_more v w m b room x k bs some h e g =
    let t : ℕ = x.taken in
    let last : List ℕ = drop (k + t) b in
    let d : drop t (drop k b) ≡ last = drop-drop t k b in
    let q : room - length bs - length x.bytes ≡ room - length (bs ++ x.bytes) = omega (arith, length-append bs x.bytes) in
    let y : converting v w m (drop t (drop k b)) (room - length bs - length x.bytes) ≡ converting v w (suc m) last (room - length (bs ++ x.bytes)) =
    (λ j. converting v w m (d j) (q j)) ∙ enough v w m (suc m) last (room - length (bs ++ x.bytes)) (omega (arith, length-drop (k + t) b)) (omega (arith, length-drop (k + t) b)) in
    e ∙ ap (behind k bs) g ∙ behind_behind k t bs x.bytes (converting v w m (drop t (drop k b)) (room - length bs - length x.bytes)) ∙ ap (behind (k + t) (bs ++ x.bytes)) y

walk_zero : (v w : ℕ) (b : List ℕ) (r : ℕ) → converting v w zero b r ≡ stopped 0
unfolding converting
walk_zero v w b r = refl

bytes_behind : (k : ℕ) (bs : List ℕ) (x : Walked) → length (behind k bs x).bytes ≡ length bs + length x.bytes
unfolding behind
bytes_behind k bs x = length-append bs x.bytes

module _ (v w m : ℕ) (b : List ℕ) (k r room : ℕ) (l : k ≤ length b) (z : conversion_code v w (first_record v (take k b)) r ≡ 0) where
  abbrev one : List ℕ
  one = first_record v (take k b)

  abbrev bs : List ℕ
  bs = converted v w one r

  short_f : length one ≤ k
  short_f = within v w b k r l z

  begins_first : length bs ≤ room → converting v w (suc m) b room ≡ behind (length one) bs (converting v w m (drop (length one) b) (room - length bs))
  begins_first g =
      let sf : first_record v b ≡ one = same_first v w b k r l z in
      let a : conversion_code v w (first_record v b) room ≡ 0 = ap (λ (x : List ℕ). conversion_code v w x room) sf ∙ (is_whole v w b k r l z room g).0 in
      let cv : converted v w one room ≡ bs = (is_whole v w b k r l z room g).1 in
      walk_on v w m b room (omega (arith, takes v w (take k b) r z, short_f)) a
      ∙ (λ j. behind (length (sf j)) (converted v w (sf j) room) (converting v w m (drop (length (sf j)) b) (room - length (converted v w (sf j) room))))
      ∙ (λ j. behind (length one) (cv j) (converting v w m (drop (length one) b) (room - length (cv j))))

  -- the bytes behind the first record, and those of them that were walked
  rest_cut : take (k - length one) (drop (length one) b) ≡ drop (length one) (take k b)
  rest_cut =
      let e : length one + (k - length one) ≡ k = omega (arith, short_f) in
      slice_part (length one) (k - length one) b ∙ ap (λ (t : ℕ). slice (length one) t b) e

-- k bytes of b were walked with room r, and what that wrote fits into the room: the walk over b begins with it
pieces : (v w n m : ℕ) (b : List ℕ) (k r room : ℕ) → k ≤ length b → length b ≤ m → length (converting v w n (take k b) r).bytes ≤ room → Begins v w m b room (converting v w n (take k b) r)
pieces v w zero m b k r room l h g = subst (λ (x : Walked). Begins v w m b room x) (sym (walk_zero v w (take k b) r)) (begins_none v w m b room 0)
pieces v w (suc n) zero b k r room l h g =
    subst (λ (x : Walked). Begins v w zero b room x) (sym (walk_empty v w (suc n) (take k b) r (omega (arith, length-take-le k b l)))) (begins_none v w zero b room 0)
pieces v w (suc n) (suc m) b k r room l h g =
    split (leb 1 k)
    (λ s. let some : 0 < length (take k b) = omega (arith, leb-true 1 k s, length-take-le k b l) in
    split (eqb (conversion_code v w (first_record v (take k b)) r) 0)
    (λ y. let z : conversion_code v w (first_record v (take k b)) r ≡ 0 = eqb-true _ _ y in
    let lf : ℕ = length (first_record v (take k b)) in
    let bs : List ℕ = converted v w (first_record v (take k b)) r in
    let x : Walked = converting v w n (drop lf (take k b)) (r - length bs) in
    let q : converting v w (suc n) (take k b) r ≡ behind lf bs x = walk_on v w n (take k b) r some z in
    let size : length (converting v w (suc n) (take k b) r).bytes ≡ length bs + length x.bytes = ap (λ (u : Walked). length u.bytes) q ∙ bytes_behind lf bs x in
    let cut : take (k - lf) (drop lf b) ≡ drop lf (take k b) = rest_cut v w m b k r room l z in
    let low : lf ≤ k = short_f v w m b k r room l z in
    let ih : Begins v w m (drop lf b) (room - length bs) (converting v w n (take (k - lf) (drop lf b)) (r - length bs)) =
    pieces v w n m (drop lf b) (k - lf) (r - length bs) (room - length bs) (omega (arith, length-drop lf b)) (omega (arith, length-drop lf b, takes v w (take k b) r z))
    (omega (arith, g, size, ap (λ (c : List ℕ). length (converting v w n c (r - length bs)).bytes) cut)) in
    let ix : Begins v w m (drop lf b) (room - length bs) x = subst (λ (c : List ℕ). Begins v w m (drop lf b) (room - length bs) (converting v w n c (r - length bs))) cut ih in
    subst (λ (u : Walked). Begins v w (suc m) b room u) (sym q)
    (begins_more v w m b room x lf bs (takes v w (take k b) r z) h (begins_first v w m b k r room l z (omega (arith, g, size))) ix))
    (λ y. let z : conversion_code v w (first_record v (take k b)) r ≡ 0 → ⊥ = eqb-false _ _ y in
    subst (λ (u : Walked). Begins v w (suc m) b room u) (sym (walk_stop v w n (take k b) r some z)) (begins_none v w (suc m) b room (conversion_code v w (first_record v (take k b)) r))))
    (λ e. subst (λ (u : Walked). Begins v w (suc m) b room u) (sym (walk_empty v w (suc n) (take k b) r (omega (arith, leb-false 1 k e, length-take-le k b l)))) (begins_none v w (suc m) b room 0))

-- The program's turn: it walks the first k bytes with the room of its own output, and goes on with those that it did not take.
pub in_pieces : (v w : ℕ) (b : List ℕ) (k r room : ℕ) → k ≤ length b → length (walked v w (take k b) r).bytes ≤ room
    → walked v w b room
    ≡ behind (walked v w (take k b) r).taken (walked v w (take k b) r).bytes (walked v w (drop (walked v w (take k b) r).taken b) (room - length (walked v w (take k b) r).bytes))
unfolding walked
in_pieces v w b k r room l g =
    let x : Walked = converting v w (length (take k b)) (take k b) r in
    let rest : List ℕ = drop x.taken b in
    pieces v w (length (take k b)) (length b) b k r room l (omega arith) g
    ∙ ap (behind x.taken x.bytes) (enough v w (length b) (length rest) rest (room - length x.bytes) (omega (arith, length-drop x.taken b)) (omega arith))
