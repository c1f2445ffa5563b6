-- Laws of an output's records: where they end, the first of them, and those of bytes that were written.
-- Assumes nothing.
use Prim.Native.Nat.{ℕ, zero, suc, min, ◌-◌, ◌≤◌, ◌<◌}
use mathlib.Core.Path.{◌≡◌, refl, sym, ap, ◌∙◌}
use mathlib.Core.List.{List, [], ◌∷◌, ◌++◌}
use native.Mathlib.Omega.{arith}
use lib.ListN.{length, get_or, take, drop, replicate, length-append, length-drop}
use lib.Seq.{take_all, drop_at}
use lib.Dec.{ltb, eqb}
use borrow.Author.Tests.{lt-ltb, le-ltb, ltb-true, ltb-false, eqb-true, eqb-false, eq-eqb, ne_eqb}
use Rattle.base_lists.specs.Bytes.{le, read_le}
use Rattle.base_lists.proofs.Choice.{by_choice, split, choose_yes, choose_no}
use Rattle.record.specs.Format.{Rec, header_length, size, size_by, header_by, encode, encode_by}
use Rattle.record.specs.Read.{header_of, header_of_by}
use Rattle.std.proofs.Common.{map, fold}
use Rattle.std.proofs.lemmas.List.{drop_min}
use Rattle.record.specs.Walk.{whole_length, records_from, records_in, with_header, with_headers, walk}
use Rattle.record.specs.declared.Header.{Header}
use Rattle.record.proofs.Format.{length_encode}

-- ---- with any number that is not used up

few : (n : ℕ) (b : List ℕ) → length b < header_length → records_from n b ≡ []
unfolding records_from
few zero b h = refl
few (suc n) b h = choose_yes _ _ _ (lt-ltb (length b) header_length h)

none : (n : ℕ) (b : List ℕ) → whole_length b ≡ 0 → records_from n b ≡ []
unfolding records_from
none zero b e = refl
none (suc n) b e = by_choice (λ (x : List (List ℕ)). x ≡ []) (ltb (length b) header_length) (λ _. refl) (λ _. choose_yes _ _ _ (eq-eqb (whole_length b) 0 e))

module _ (b : List ℕ) (l : header_length ≤ length b) (e : whole_length b ≡ 0 → ⊥) where
  one : (n : ℕ) → records_from (suc n) b ≡ b ∷ records_from n (drop (whole_length b) b)
  unfolding records_from
  one n = choose_no _ _ _ (le-ltb (length b) header_length l) ∙ choose_no _ _ _ (ne_eqb (whole_length b) 0 e)

  shorter : (n : ℕ) → length b ≤ suc n → length (drop (whole_length b) b) ≤ n
  shorter n h = simp length-drop (omega (arith, l, e, h))

enough : (n m : ℕ) (b : List ℕ) → length b ≤ n → length b ≤ m → records_from n b ≡ records_from m b
enough zero m b h k = few zero b (omega (arith, h)) ∙ sym (few m b (omega (arith, h)))
enough (suc n) zero b h k = few (suc n) b (omega (arith, k)) ∙ sym (few zero b (omega (arith, k)))
enough (suc n) (suc m) b h k =
    split (ltb (length b) header_length) (λ y. let l = ltb-true _ _ y in few (suc n) b l ∙ sym (few (suc m) b l))
    (λ f. let l : header_length ≤ length b = ltb-false _ _ f in
    split (eqb (whole_length b) 0) (λ y. let e = eqb-true _ _ y in none (suc n) b e ∙ sym (none (suc m) b e))
    (λ g. let e : whole_length b ≡ 0 → ⊥ = eqb-false _ _ g in
    one b l e n ∙ (ap (λ (bs : List (List ℕ)). b ∷ bs) (enough n m (drop (whole_length b) b) (shorter b l e n h) (shorter b l e m k)) ∙ sym (one b l e m))))

-- ---- of an output

pub records_few : (b : List ℕ) → length b < header_length → records_in b ≡ []
unfolding records_in
records_few b h = few (length b) b h

pub records_none : (b : List ℕ) → whole_length b ≡ 0 → records_in b ≡ []
unfolding records_in
records_none b e = none (length b) b e

pub records_one : (b : List ℕ) → header_length ≤ length b → (whole_length b ≡ 0 → ⊥) → records_in b ≡ b ∷ records_in (drop (whole_length b) b)
unfolding records_in
records_one b l e =
    let rest : List ℕ = drop (whole_length b) b in
    let n : length b ≡ suc (length b - 1) = omega (arith, l) in
    ap (λ (k : ℕ). records_from k b) n
    ∙ (one b l e (length b - 1) ∙ ap (λ (bs : List (List ℕ)). b ∷ bs) (enough (length b - 1) (length rest) rest (shorter b l e (length b - 1) (omega (arith, l))) (omega arith)))

-- ---- as a program takes them, which has read the header h

module _ (b : List ℕ) (h : Header) (is : h ≡ header_of b) where
  pub size_is : h.size ≡ whole_length b
  unfolding header_of_by whole_length
  size_is = ap (λ (x : Header). x.size) is

  pub taken_none : h.size ≡ 0 → records_in b ≡ []
  taken_none e = records_none b (sym size_is ∙ e)

  module _ (l : header_length ≤ length b) (e : h.size ≡ 0 → ⊥) where
    pub taken_one : records_in b ≡ b ∷ records_in (drop h.size b)
    taken_one = records_one b l (λ z. e (size_is ∙ z)) ∙ ap (λ (n : ℕ). b ∷ records_in (drop n b)) (sym size_is)

    pub taken_next : records_in b ≡ b ∷ records_in (take (length b - h.size) (drop h.size b))
    taken_next = rw (take_all (length b - h.size) (drop h.size b) (simp length-drop (omega arith))) taken_one

    pub taken_last : length b < h.size → records_in b ≡ b ∷ []
    taken_last s = taken_one ∙ ap (λ (bs : List (List ℕ)). b ∷ bs) (records_few (drop h.size b) (simp length-drop (omega arith)))

-- ---- of bytes that were written

pub size_some : (e : Rec) → header_length ≤ size e
unfolding size_by
size_some e = omega arith

module _ (e : Rec) (rest : List ℕ) (s : size e < 65536) where
  pub whole_is : whole_length (encode e ++ rest) ≡ size e
  unfolding whole_length header_of_by encode_by header_by le read_le
  whole_is = omega (arith, s)

  pub records_written : records_in (encode e ++ rest) ≡ (encode e ++ rest) ∷ records_in rest
  records_written =
      let b : List ℕ = encode e ++ rest in
      records_one b (omega (arith, length-append (encode e) rest, length_encode e, size_some e)) (λ w. omega (arith, whole_is, size_some e))
      ∙ ap (λ (c : List ℕ). b ∷ records_in c) (rw whole_is (drop_at (encode e) rest (size e) (length_encode e)))

zero_at : (n i : ℕ) → ◌≡◌ {A = ℕ} (get_or (replicate n 0) i 0) 0
zero_at zero i = refl
zero_at (suc n) zero = refl
zero_at (suc n) (suc i) = zero_at n i

pub records_zeros : (n : ℕ) → records_in (replicate n 0) ≡ []
unfolding whole_length header_of_by read_le
records_zeros n = records_none (replicate n 0) (omega (arith, zero_at n 22, zero_at n 23))

-- ---- each with its header, as `Records` hands them out

nothing_seen : (b : List ℕ) → records_in b ≡ [] → with_headers b ≡ []
unfolding with_headers
nothing_seen b e = ap (map with_header) e

pub seen_few : (b : List ℕ) → length b < header_length → with_headers b ≡ []
seen_few b h = nothing_seen b (records_few b h)

module _ (b : List ℕ) (h : Header) (is : h ≡ header_of b) where
  pub seen_none : h.size ≡ 0 → with_headers b ≡ []
  seen_none e = nothing_seen b (taken_none b h is e)

  pub seen_next : header_length ≤ length b → (h.size ≡ 0 → ⊥) → (m : ℕ) → m ≡ min h.size (length b) → with_headers b ≡ (h, b) ∷ with_headers (take (length b - m) (drop m b))
  unfolding with_headers
  seen_next l e m k =
      let t : take (length b - m) (drop m b) ≡ drop m b = take_all (length b - m) (drop m b) (simp length-drop (omega arith)) in
      let d : drop m b ≡ drop h.size b = ap (λ (n : ℕ). drop n b) k ∙ drop_min h.size b in
      ap (map with_header) (taken_one b h is l e) ∙ sym (λ i. (is i, b) ∷ map with_header (records_in ((t ∙ d) i)))

-- what `fold` makes of them is what the walk makes of the records
pub folded : {X : Type 0} (g : X → Header × List ℕ → X) (f : List ℕ → X → X) → ((b : List ℕ) (x : X) → g x (with_header b) ≡ f b x) → (out : List ℕ) (x : X)
    → fold g x (with_headers out) ≡ walk f (records_in out) x
unfolding with_headers walk
folded {X} g f e out x = go (records_in out) x
  where
    go : (bs : List (List ℕ)) (y : X) → fold g y (map with_header bs) ≡ walk f bs y
    go [] y = refl
    go (b ∷ bs) y = ap (λ (z : X). fold g z (map with_header bs)) (e b y) ∙ go bs (f b y)

seen_bytes : (bs : List (List ℕ)) → map (λ (p : Header × List ℕ). p.1) (map with_header bs) ≡ bs
seen_bytes [] = refl
seen_bytes (b ∷ bs) = ap (λ (l : List (List ℕ)). b ∷ l) (seen_bytes bs)

-- the next that `Records` hands out: the first record of what was left, and its header
module _ (a c : List ℕ) (h : Header) (b : List ℕ) (e : with_headers a ≡ (h, b) ∷ with_headers c) where
  pub next_record : records_in a ≡ b ∷ records_in c
  unfolding with_headers
  next_record = sym (seen_bytes (records_in a)) ∙ ap (map (λ (p : Header × List ℕ). p.1)) e ∙ ap (λ (l : List (List ℕ)). b ∷ l) (seen_bytes (records_in c))

  pub next_header : h ≡ header_of b
  unfolding with_headers
  next_header = go (records_in a) e
    where
      go : (bs : List (List ℕ)) → map with_header bs ≡ (h, b) ∷ with_headers c → h ≡ header_of b
      go [] z = absurd (omega (arith, ap length z))
      go (x ∷ xs) z =
          let p : with_header x ≡ (h, b) = cc in
          sym (ap (λ (y : Header × List ℕ). y.0) p) ∙ ap (λ (y : Header × List ℕ). header_of y.1) p

pub no_record_left : (a : List ℕ) → with_headers a ≡ [] → records_in a ≡ []
unfolding with_headers
no_record_left a e = sym (seen_bytes (records_in a)) ∙ ap (map (λ (p : Header × List ℕ). p.1)) e
