-- What a delay, a choice and a shuffle read off a list of draws, and off the list without the draws that they pass over.
-- Assumes nothing.
use Prim.Native.Nat.{ℕ, zero, suc, ◌+◌, ◌-◌, ◌%◌, ◌≤◌, ◌<◌}
use mathlib.Core.Path.{◌≡◌, refl, sym, ap, ◌∙◌}
use mathlib.Core.Bool.{true, false}
use mathlib.Core.List.{List, [], ◌∷◌, ◌++◌, append_assoc}
use native.Mathlib.Nat.{mod-lt, mod-eq_of_lt}
use native.Mathlib.Omega.{arith}
use lib.ListN.{length, drop, get_or, length-append}
use lib.Seq.{drop-append_seam, drop-append-add}
use lib.Dec.{leb, eqb}
use borrow.Author.Tests.{eqb-true, eqb-false, leb-true, leb-false, lt-ltb}
use Rattle.base_lists.specs.Lists.{swap}
use Rattle.base_lists.specs.Tests.{All}
use Rattle.base_lists.proofs.Choice.{choose_yes, choose_no, split}
use Rattle.base_util.specs.Chances.{all_draws, kept_end, is_kept, passed_over, pick_draws, pick, shuffle_down, draws_down, shuffle, shuffle_draws, sure_end}
use Rattle.base_util.proofs.Chances.{pick_none, pick_some}
use Rattle.spec_hyparview.specs.Kept.{Struck, none_left, stays, goes}
use Rattle.spec_hyparview.proofs.Among.{all_append}

-- a list of draws, what is kept of it, and small draws that decide the same
pub data Which : Type 0 where
  whole : Which
  kept : Which
  small : Which

abbrev pub Sure : ℕ → Type 0
Sure d = d < sure_end

pub record Parts : Type 0 where
  pub whole_of : List ℕ
  pub kept_of : List ℕ
  pub small_of : List ℕ
  pub struck : Struck whole_of kept_of
  pub paired : length small_of ≡ length kept_of
  pub sure : All Sure small_of

unfoldable pub part : Which → Parts → List ℕ
part whole p = p.whole_of
part kept p = p.kept_of
part small p = p.small_of

pub struck_append : {a b c d : List ℕ} → Struck a b → Struck c d → Struck (a ++ c) (b ++ d)
struck_append none_left t = t
struck_append (stays s) t = stays (struck_append s t)
struck_append (goes n h l e s) t = goes n h l e (struck_append s t)

unfoldable pub joined : Parts → Parts → Parts
joined p q = record {
  whole_of = p.whole_of ++ q.whole_of;
  kept_of = p.kept_of ++ q.kept_of;
  small_of = p.small_of ++ q.small_of;
  struck = struck_append p.struck q.struck;
  paired = omega (arith, p.paired, q.paired, length-append p.small_of q.small_of, length-append p.kept_of q.kept_of);
  sure = all_append Sure p.small_of q.small_of p.sure q.sure;
}

pub part_both : (i : Which) (p q : Parts) → part i (joined p q) ≡ part i p ++ part i q
unfolding part joined
part_both whole p q = refl
part_both kept p q = refl
part_both small p q = refl

pub part_joined : (i : Which) (p q : Parts) (u : List ℕ) → part i (joined p q) ++ u ≡ part i p ++ (part i q ++ u)
unfolding part joined
part_joined whole p q u = append_assoc p.whole_of q.whole_of u
part_joined kept p q u = append_assoc p.kept_of q.kept_of u
part_joined small p q u = append_assoc p.small_of q.small_of u

pub length_joined : (i : Which) (p q : Parts) → length (part i (joined p q)) ≡ length (part i p) + length (part i q)
unfolding part joined
length_joined whole p q = length-append p.whole_of q.whole_of
length_joined kept p q = length-append p.kept_of q.kept_of
length_joined small p q = length-append p.small_of q.small_of

unfoldable pub no_parts : Parts
unfolding All
no_parts = record { whole_of = []; kept_of = []; small_of = []; struck = none_left; paired = refl; sure = tt }

pub part_none : (i : Which) (u : List ℕ) → part i no_parts ++ u ≡ u
unfolding part no_parts
part_none whole u = refl
part_none kept u = refl
part_none small u = refl

pub length_none : (i : Which) → length (part i no_parts) ≡ 0
unfolding part no_parts
length_none whole = refl
length_none kept = refl
length_none small = refl

-- m draws are taken off a list, and v is read; off ds: they are all there; or there are not so many, and n more are wanted of what comes after; or C, which is not so
pub data Reading {A : Type 0} (m : List ℕ → ℕ) (v : List ℕ → A) (C : Type 0) (ds : List ℕ) : Type 0 where
  took : (p : Parts) (t : List ℕ) (a : A) → ds ≡ p.whole_of ++ t
      → ((i : Which) (u : List ℕ) → m (part i p ++ u) ≡ length (part i p)) → ((i : Which) (u : List ℕ) → v (part i p ++ u) ≡ a) → Reading m v C ds
  wants : (p : Parts) (n : List ℕ → ℕ) (a : List ℕ → A) → ds ≡ p.whole_of
      → ((i : Which) (u : List ℕ) → m (part i p ++ u) ≡ length (part i p) + n u) → ((i : Which) (u : List ℕ) → v (part i p ++ u) ≡ a u) → ((u : List ℕ) → 0 < n u) → Reading m v C ds
  crowded : C → 0 < m [] → Reading m v C ds

module _ (n : ℕ) (h : 0 < n) where
  keep_draws : (d : ℕ) (u : List ℕ) → is_kept n d ≡ true → pick_draws n (d ∷ u) ≡ 1
  unfolding passed_over
  keep_draws d u e = omega (arith, pick_some n (d ∷ u) h, choose_yes {A = ℕ} (is_kept n d) 0 (suc (passed_over n u)) e)

  keep_pick : (d : ℕ) (u : List ℕ) → is_kept n d ≡ true → pick n (d ∷ u) ≡ d % n
  unfolding pick passed_over
  keep_pick d u e = ap (λ (k : ℕ). get_or (d ∷ u) k 0 % n) (choose_yes (is_kept n d) 0 (suc (passed_over n u)) e)

  pass_draws : (d : ℕ) (u : List ℕ) → is_kept n d ≡ false → pick_draws n (d ∷ u) ≡ suc (pick_draws n u)
  unfolding passed_over
  pass_draws d u e = omega (arith, pick_some n (d ∷ u) h, pick_some n u h, choose_no {A = ℕ} (is_kept n d) 0 (suc (passed_over n u)) e)

  pass_pick : (d : ℕ) (u : List ℕ) → is_kept n d ≡ false → pick n (d ∷ u) ≡ pick n u
  unfolding pick passed_over
  pass_pick d u e = ap (λ (k : ℕ). get_or (d ∷ u) k 0 % n) (choose_no (is_kept n d) 0 (suc (passed_over n u)) e)

  some_draws : (u : List ℕ) → 0 < pick_draws n u
  some_draws u = omega (arith, pick_some n u h)

  module _ (few : n ≤ 32) where
    small_kept : (d : ℕ) → is_kept n (d % n) ≡ true
    unfolding is_kept kept_end
    small_kept d = lt-ltb (d % n) (all_draws - all_draws % n) (omega (arith, mod-lt d {m = n} h, mod-lt all_draws {m = n} h))

    one_draw : (d : ℕ) → Parts
    unfolding All
    one_draw d = record { whole_of = d ∷ []; kept_of = d ∷ []; small_of = d % n ∷ []; struck = stays none_left; paired = refl; sure = (omega (arith, mod-lt d {m = n} h), tt) }

    one_draws : (d : ℕ) → is_kept n d ≡ true → (i : Which) (u : List ℕ) → pick_draws n (part i (one_draw d) ++ u) ≡ length (part i (one_draw d))
    unfolding part one_draw
    one_draws d e whole u = keep_draws d u e
    one_draws d e kept u = keep_draws d u e
    one_draws d e small u = keep_draws (d % n) u (small_kept d)

    one_pick : (d : ℕ) → is_kept n d ≡ true → (i : Which) (u : List ℕ) → pick n (part i (one_draw d) ++ u) ≡ d % n
    unfolding part one_draw
    one_pick d e whole u = keep_pick d u e
    one_pick d e kept u = keep_pick d u e
    one_pick d e small u = keep_pick (d % n) u (small_kept d) ∙ mod-eq_of_lt (mod-lt d {m = n} h)

    passing : (d : ℕ) → is_kept n d ≡ false → Parts → Parts
    passing d e p = record { whole_of = d ∷ p.whole_of; kept_of = p.kept_of; small_of = p.small_of; struck = goes n h few e p.struck; paired = p.paired; sure = p.sure }

    -- with k more draws wanted, or none
    passing_draws : (d : ℕ) (e : is_kept n d ≡ false) (p : Parts) (k : List ℕ → ℕ) → ((i : Which) (u : List ℕ) → pick_draws n (part i p ++ u) ≡ length (part i p) + k u)
        → (i : Which) (u : List ℕ) → pick_draws n (part i (passing d e p) ++ u) ≡ length (part i (passing d e p)) + k u
    unfolding part passing
    passing_draws d e p k f whole u = omega (arith, pass_draws d (p.whole_of ++ u) e, f whole u)
    passing_draws d e p k f kept u = f kept u
    passing_draws d e p k f small u = f small u

    passing_pick : (d : ℕ) (e : is_kept n d ≡ false) (p : Parts) (a : List ℕ → ℕ) → ((i : Which) (u : List ℕ) → pick n (part i p ++ u) ≡ a u)
        → (i : Which) (u : List ℕ) → pick n (part i (passing d e p) ++ u) ≡ a u
    unfolding part passing
    passing_pick d e p a f whole u = pass_pick d (p.whole_of ++ u) e ∙ f whole u
    passing_pick d e p a f kept u = f kept u
    passing_pick d e p a f small u = f small u

    pass : {C : Type 0} (d : ℕ) (ds : List ℕ) → is_kept n d ≡ false → Reading (pick_draws n) (pick n) C ds → Reading (pick_draws n) (pick n) C (d ∷ ds)
    unfolding passing
    pass d ds e (took p t a q f g) =
        took (passing d e p) t a (ap (λ (l : List ℕ). d ∷ l) q) (λ i u. omega (arith, passing_draws d e p (λ _. 0) (λ j x. omega (arith, f j x)) i u)) (passing_pick d e p (λ _. a) g)
    pass d ds e (wants p k a q f g o) = wants (passing d e p) k a (ap (λ (l : List ℕ). d ∷ l) q) (passing_draws d e p k f) (passing_pick d e p a g) o
    pass d ds e (crowded c o) = crowded c o

    pub read_pick : {C : Type 0} (ds : List ℕ) → Reading (pick_draws n) (pick n) C ds
    unfolding no_parts one_draw
    read_pick [] = wants no_parts (pick_draws n) (pick n) refl (λ i u. ap (pick_draws n) (part_none i u) ∙ omega (arith, length_none i)) (λ i u. ap (pick n) (part_none i u)) some_draws
    read_pick (d ∷ ds) = split (is_kept n d) (λ e. took (one_draw d) ds (d % n) refl (one_draws d e) (one_pick d e)) (λ e. pass d ds e (read_pick ds))

-- a shuffle's places, from i + 1 on down
first_down : (i : ℕ) (ds : List ℕ) → 0 < draws_down (suc i) ds
unfolding draws_down
first_down i ds = omega (arith, some_draws (i + 2) (omega arith) ds)

module _ (i : ℕ) (D : List ℕ) (k : ℕ) (e : pick_draws (i + 2) D ≡ k) where
  down_draws : draws_down (suc i) D ≡ k + draws_down i (drop k D)
  unfolding draws_down
  down_draws = ap (λ (j : ℕ). j + draws_down i (drop j D)) e

  down_order : (a : ℕ) (xs : List ℕ) → pick (i + 2) D ≡ a → shuffle_down (suc i) D xs ≡ shuffle_down i (drop k D) (swap (suc i) a xs)
  unfolding shuffle_down
  down_order a xs q = ap (λ (j : ℕ). shuffle_down i (drop j D) (swap (suc i) (pick (i + 2) D) xs)) e ∙ ap (λ (b : ℕ). shuffle_down i (drop k D) (swap (suc i) b xs)) q

module _ {C : Type 0} (i : ℕ) (xs : List ℕ) where
  after_took : (ds : List ℕ) (p : Parts) (t : List ℕ) (a : ℕ) → ds ≡ p.whole_of ++ t → ((j : Which) (u : List ℕ) → pick_draws (i + 2) (part j p ++ u) ≡ length (part j p)) → ((j : Which) (u : List ℕ) → pick (i + 2) (part j p ++ u) ≡ a)
      → Reading (draws_down i) (λ (l : List ℕ). shuffle_down i l (swap (suc i) a xs)) C t → Reading (draws_down (suc i)) (λ (l : List ℕ). shuffle_down (suc i) l xs) C ds
  unfolding joined
  after_took ds p t a e f g (took q t2 b e2 f2 g2) =
      took (joined p q) t2 b (e ∙ (ap (λ (l : List ℕ). p.whole_of ++ l) e2 ∙ sym (append_assoc p.whole_of q.whole_of t2)))
      (λ j u. let D = part j p ++ (part j q ++ u) in
      ap (draws_down (suc i)) (part_joined j p q u) ∙ (down_draws i D (length (part j p)) (f j (part j q ++ u)) ∙ (ap (λ (l : List ℕ). length (part j p) + draws_down i l) (drop-append_seam (part j p) (part j q ++ u)) ∙ (ap (λ (n : ℕ). length (part j p) + n) (f2 j u) ∙ sym (length_joined j p q)))))
      (λ j u. let D = part j p ++ (part j q ++ u) in
      ap (λ (l : List ℕ). shuffle_down (suc i) l xs) (part_joined j p q u) ∙ (down_order i D (length (part j p)) (f j (part j q ++ u)) a xs (g j (part j q ++ u)) ∙ (ap (λ (l : List ℕ). shuffle_down i l (swap (suc i) a xs)) (drop-append_seam (part j p) (part j q ++ u)) ∙ g2 j u)))
  after_took ds p t a e f g (wants q n b e2 f2 g2 o) =
      wants (joined p q) n b (e ∙ ap (λ (l : List ℕ). p.whole_of ++ l) e2)
      (λ j u. let D = part j p ++ (part j q ++ u) in
      ap (draws_down (suc i)) (part_joined j p q u) ∙ (down_draws i D (length (part j p)) (f j (part j q ++ u)) ∙ (ap (λ (l : List ℕ). length (part j p) + draws_down i l) (drop-append_seam (part j p) (part j q ++ u)) ∙ omega (arith, f2 j u, length_joined j p q))))
      (λ j u. let D = part j p ++ (part j q ++ u) in
      ap (λ (l : List ℕ). shuffle_down (suc i) l xs) (part_joined j p q u) ∙ (down_order i D (length (part j p)) (f j (part j q ++ u)) a xs (g j (part j q ++ u)) ∙ (ap (λ (l : List ℕ). shuffle_down i l (swap (suc i) a xs)) (drop-append_seam (part j p) (part j q ++ u)) ∙ g2 j u)))
      o
  after_took ds p t a e f g (crowded c o) = crowded c (first_down i [])

  after_first : (ds : List ℕ) → Reading (pick_draws (i + 2)) (pick (i + 2)) C ds → ((a : ℕ) (t : List ℕ) → Reading (draws_down i) (λ (l : List ℕ). shuffle_down i l (swap (suc i) a xs)) C t) → Reading (draws_down (suc i)) (λ (l : List ℕ). shuffle_down (suc i) l xs) C ds
  after_first ds (took p t a e f g) k = after_took ds p t a e f g (k a t)
  after_first ds (wants p n a e f g o) k =
      wants p (λ u. n u + draws_down i (drop (n u) u)) (λ u. shuffle_down i (drop (n u) u) (swap (suc i) (a u) xs)) e
      (λ j u. down_draws i (part j p ++ u) (length (part j p) + n u) (f j u) ∙ (ap (λ (l : List ℕ). length (part j p) + n u + draws_down i l) (drop-append-add (part j p) u (n u)) ∙ omega arith))
      (λ j u. down_order i (part j p ++ u) (length (part j p) + n u) (f j u) (a u) xs (g j u) ∙ ap (λ (l : List ℕ). shuffle_down i l (swap (suc i) (a u) xs)) (drop-append-add (part j p) u (n u)))
      (λ u. omega (arith, o u))
  after_first ds (crowded c o) k = crowded c (first_down i [])

read_down : {C : Type 0} (i : ℕ) (xs ds : List ℕ) → i < 32 → Reading (draws_down i) (λ (l : List ℕ). shuffle_down i l xs) C ds
unfolding draws_down shuffle_down no_parts
read_down zero xs ds h = took no_parts ds xs refl (λ j u. sym (length_none j)) (λ j u. refl)
read_down (suc i) xs ds h = after_first i xs ds (read_pick (i + 2) (omega arith) (omega arith) ds) (λ a t. read_down i (swap (suc i) a xs) t (omega arith))

pub read_shuffle : {C : Type 0} (xs ds : List ℕ) → length xs ≤ 32 → Reading (λ (l : List ℕ). shuffle_draws l xs) (λ (l : List ℕ). shuffle l xs) C ds
unfolding shuffle_draws shuffle
read_shuffle xs ds h = read_down (length xs - 1) xs ds (omega arith)

pub shuffle_wants : (xs : List ℕ) → 32 < length xs → 0 < shuffle_draws [] xs
unfolding shuffle_draws
shuffle_wants xs l = wants_down (length xs - 1) (omega (arith, l))
  where
    wants_down : (i : ℕ) → 0 < i → 0 < draws_down i []
    wants_down zero h = absurd (omega arith)
    wants_down (suc i) h = first_down i []

-- a delay, of which no step reads the draw but to write it
delay_draw : ℕ → Parts
unfolding All
delay_draw d = record { whole_of = d ∷ []; kept_of = d ∷ []; small_of = 0 ∷ []; struck = stays none_left; paired = refl; sure = (omega arith, tt) }

delay_length : (d : ℕ) (i : Which) → 1 ≡ length (part i (delay_draw d))
unfolding part delay_draw
delay_length d whole = refl
delay_length d kept = refl
delay_length d small = refl

pub read_one : {C : Type 0} (ds : List ℕ) → Reading {A = Unit {0}} (λ l. 1) (λ l. tt) C ds
unfolding no_parts delay_draw
read_one [] = wants no_parts (λ l. 1) (λ l. tt) refl (λ i u. omega (arith, length_none i)) (λ i u. refl) (λ u. omega arith)
read_one (d ∷ ds) = took (delay_draw d) ds tt refl (λ i u. delay_length d i) (λ i u. refl)

-- what is made of what is read
pub map_reading : {A B : Type 0} {m : List ℕ → ℕ} {v : List ℕ → A} {C : Type 0} {ds : List ℕ} (h : A → B) → Reading m v C ds → Reading m (λ (l : List ℕ). h (v l)) C ds
map_reading h (took p t a e f g) = took p t (h a) e f (λ i u. ap h (g i u))
map_reading h (wants p n a e f g o) = wants p n (λ u. h (a u)) e f (λ i u. ap h (g i u)) o
map_reading h (crowded c o) = crowded c o

-- a choice of one of n, where n may be 0, which takes no draw
module _ {A C : Type 0} (n : ℕ) (c : (n ≤ 32 → ⊥) → C) (v : List ℕ → A) (ds : List ℕ) where
  pub read_any : ((l k : List ℕ) → n ≡ 0 → v l ≡ v k) → (0 < n → Reading (pick_draws n) v C ds) → Reading (pick_draws n) v C ds
  unfolding no_parts
  read_any h k =
      split (eqb n 0)
      (λ e. let z = eqb-true n 0 e in took no_parts ds (v []) refl (λ i u. ap (λ (j : ℕ). pick_draws j (part i no_parts ++ u)) z ∙ (pick_none (part i no_parts ++ u) ∙ sym (length_none i))) (λ i u. h (part i no_parts ++ u) [] z))
      (λ e. let o = eqb-false n 0 e in k (omega arith))

  pub read_few : 0 < n → (n ≤ 32 → Reading (pick_draws n) v C ds) → Reading (pick_draws n) v C ds
  read_few o k = split (leb n 32) (λ e. k (leb-true n 32 e)) (λ e. crowded (c (λ l. omega (arith, l, leb-false n 32 e))) (some_draws n o []))
