-- Laws of sets in rising order and of maps by number that the books use.
-- Assumes nothing.
use mathlib.Core.Path.{◌≡◌, refl, sym, ap, subst, ◌∙◌}
use mathlib.Core.Bool.{Bool, true, false, cond}
use mathlib.Core.List.{List, [], ◌∷◌}
use mathlib.Core.Option.{Option, none, some}
use Prim.Native.Nat.{ℕ}
use lib.Dec.{eqb, ltb}
use borrow.Author.Tests.{eqb-true, eqb-false, eq-eqb, ne_eqb}
use Rattle.base_lists.specs.Lists.{mem, place, insert, without}
use Rattle.base_lists.specs.Maps.{has, lookup, cut, put, replace, place_entry}
use Rattle.base_lists.proofs.Choice.{by_choice, by_test, choose_yes, choose_no, split, clash}

pub data Either (A B : Type 0) : Type 0 where
  left : A → Either A B
  right : B → Either A B

-- ---- members

mem_head : (x : ℕ) (xs : List ℕ) → mem x (x ∷ xs) ≡ true
unfolding mem
mem_head x xs = by_test (λ (b : Bool). b ≡ true) (eqb x x) (λ _. refl) (λ f. clash (eqb x x) (eq-eqb x x refl) f)

mem_tail : (x q : ℕ) (xs : List ℕ) → mem x xs ≡ true → mem x (q ∷ xs) ≡ true
unfolding mem
mem_tail x q xs h = by_test (λ (b : Bool). b ≡ true) (eqb x q) (λ _. refl) (λ _. h)

mem_cases : {C : Type 0} (x q : ℕ) (xs : List ℕ) → mem x (q ∷ xs) ≡ true → (x ≡ q → C) → (mem x xs ≡ true → C) → C
unfolding mem
mem_cases {C} x q xs h f g = go (eqb x q) refl h
  where
    go : (b : Bool) → eqb x q ≡ b → cond b true (mem x xs) ≡ true → C
    go true e k = f (eqb-true x q e)
    go false e k = g k

place_self : (p : ℕ) (xs : List ℕ) → mem p (place p xs) ≡ true
unfolding place
place_self p [] = mem_head p []
place_self p (q ∷ xs) = by_test (λ (l : List ℕ). mem p l ≡ true) (ltb p q) (λ _. mem_head p (q ∷ xs)) (λ _. mem_tail p q (place p xs) (place_self p xs))

place_keeps : (x p : ℕ) (xs : List ℕ) → mem x xs ≡ true → mem x (place p xs) ≡ true
unfolding place mem
place_keeps x p [] h = clash false h refl
place_keeps x p (q ∷ xs) h =
    by_test (λ (l : List ℕ). mem x l ≡ true) (ltb p q) (λ _. mem_tail x p (q ∷ xs) h)
    (λ _. mem_cases x q xs h (λ e. subst (λ (y : ℕ). mem x (y ∷ place p xs) ≡ true) e (mem_head x (place p xs))) (λ k. mem_tail x q (place p xs) (place_keeps x p xs k)))

pub insert_self : (p : ℕ) (xs : List ℕ) → mem p (insert p xs) ≡ true
unfolding insert
insert_self p xs = by_test (λ (l : List ℕ). mem p l ≡ true) (mem p xs) (λ e. e) (λ _. place_self p xs)

pub insert_keeps : (x p : ℕ) (xs : List ℕ) → mem x xs ≡ true → mem x (insert p xs) ≡ true
unfolding insert
insert_keeps x p xs h = by_test (λ (l : List ℕ). mem x l ≡ true) (mem p xs) (λ _. h) (λ _. place_keeps x p xs h)

pub without_keeps : (x p : ℕ) (xs : List ℕ) → (x ≡ p → ⊥) → mem x xs ≡ true → mem x (without p xs) ≡ true
unfolding without mem
without_keeps x p [] n h = h
without_keeps x p (q ∷ xs) n h =
    by_test (λ (l : List ℕ). mem x l ≡ true) (eqb p q)
    (λ t. mem_cases x q xs h (λ e. absurd (n (e ∙ sym (eqb-true p q t)))) (λ k. without_keeps x p xs n k))
    (λ t. mem_cases x q xs h (λ e. subst (λ (y : ℕ). mem x (y ∷ without p xs) ≡ true) e (mem_head x (without p xs))) (λ k. mem_tail x q (without p xs) (without_keeps x p xs n k)))

-- ---- maps

is_there : Option ℕ → Bool
is_there none = false
is_there (some n) = true

value : Option ℕ → ℕ
value none = 0
value (some n) = n

pub none_found : {C : Type 0} {n : ℕ} → none ≡ some n → C
unfolding is_there
none_found e = clash (is_there none) (ap is_there e) refl

pub some_same : {a b : ℕ} → some a ≡ some b → a ≡ b
unfolding value
some_same e = ap value e

look_cases : {C : Type 0} (x : ℕ) (e : ℕ × ℕ) (m : List (ℕ × ℕ)) (n : ℕ) → lookup x (e ∷ m) ≡ some n → (x ≡ e.0 → e.1 ≡ n → C) → ((x ≡ e.0 → ⊥) → lookup x m ≡ some n → C) → C
unfolding lookup
look_cases x e m n h f g =
    split (eqb x e.0) (λ t. f (eqb-true x e.0 t) (some_same (sym (choose_yes (eqb x e.0) (some e.1) (lookup x m) t) ∙ h)))
    (λ t. g (eqb-false x e.0 t) (sym (choose_no (eqb x e.0) (some e.1) (lookup x m) t) ∙ h))

look_here : (x : ℕ) (e : ℕ × ℕ) (m : List (ℕ × ℕ)) (n : ℕ) → x ≡ e.0 → e.1 ≡ n → lookup x (e ∷ m) ≡ some n
unfolding lookup
look_here x e m n p q = choose_yes (eqb x e.0) (some e.1) (lookup x m) (eq-eqb x e.0 p) ∙ ap some q

look_there : (x : ℕ) (e : ℕ × ℕ) (m : List (ℕ × ℕ)) (n : ℕ) → (x ≡ e.0 → ⊥) → lookup x m ≡ some n → lookup x (e ∷ m) ≡ some n
unfolding lookup
look_there x e m n p q = choose_no (eqb x e.0) (some e.1) (lookup x m) (ne_eqb x e.0 p) ∙ q

pub look_nothing : (x n : ℕ) → lookup x [] ≡ some n → none ≡ some n
unfolding lookup
look_nothing x n h = h

pub look_cut : (x p : ℕ) (m : List (ℕ × ℕ)) (n : ℕ) → lookup x (cut p m) ≡ some n → (x ≡ p → ⊥) × (lookup x m ≡ some n)
unfolding cut
look_cut x p [] n h = none_found (look_nothing x n h)
look_cut x p (e ∷ m) n h =
    split (eqb p e.0)
    (λ t. let k = look_cut x p m n (subst (λ (l : List (ℕ × ℕ)). lookup x l ≡ some n) (choose_yes (eqb p e.0) (cut p m) (e ∷ cut p m) t) h) in
    (k.0, look_there x e m n (λ z. k.0 (z ∙ sym (eqb-true p e.0 t))) k.1))
    (λ t. look_cases x e (cut p m) n (subst (λ (l : List (ℕ × ℕ)). lookup x l ≡ some n) (choose_no (eqb p e.0) (cut p m) (e ∷ cut p m) t) h)
    (λ a b. ((λ z. eqb-false p e.0 t (sym z ∙ a)), look_here x e m n a b))
    (λ a b. let k = look_cut x p m n b in (k.0, look_there x e m n a k.1)))

-- what was put in, or what was there
abbrev Found : ℕ → ℕ → ℕ → ℕ → List (ℕ × ℕ) → Type 0
Found x n p v m = Either ((x ≡ p) × (n ≡ v)) (lookup x m ≡ some n)

found_more : (x n p v : ℕ) (e : ℕ × ℕ) (m : List (ℕ × ℕ)) → (x ≡ e.0 → ⊥) → Found x n p v m → Found x n p v (e ∷ m)
found_more x n p v e m a (left q) = left q
found_more x n p v e m a (right q) = right (look_there x e m n a q)

look_replace : (x p v : ℕ) (m : List (ℕ × ℕ)) (n : ℕ) → lookup x (replace p v m) ≡ some n → Found x n p v m
unfolding replace
look_replace x p v [] n h = right h
look_replace x p v (e ∷ m) n h =
    split (eqb p e.0)
    (λ t. look_cases x (p, v) (replace p v m) n (subst (λ (l : List (ℕ × ℕ)). lookup x l ≡ some n) (choose_yes (eqb p e.0) ((p, v) ∷ replace p v m) (e ∷ replace p v m) t) h)
    (λ a b. left (a, sym b)) (λ a b. found_more x n p v e m (λ z. a (z ∙ sym (eqb-true p e.0 t))) (look_replace x p v m n b)))
    (λ t. look_cases x e (replace p v m) n (subst (λ (l : List (ℕ × ℕ)). lookup x l ≡ some n) (choose_no (eqb p e.0) ((p, v) ∷ replace p v m) (e ∷ replace p v m) t) h)
    (λ a b. right (look_here x e m n a b)) (λ a b. found_more x n p v e m a (look_replace x p v m n b)))

look_place : (x p v : ℕ) (m : List (ℕ × ℕ)) (n : ℕ) → lookup x (place_entry p v m) ≡ some n → Found x n p v m
unfolding place_entry
look_place x p v [] n h = look_cases x (p, v) [] n h (λ a b. left (a, sym b)) (λ a b. right b)
look_place x p v (e ∷ m) n h =
    split (ltb p e.0)
    (λ t. look_cases x (p, v) (e ∷ m) n (subst (λ (l : List (ℕ × ℕ)). lookup x l ≡ some n) (choose_yes (ltb p e.0) ((p, v) ∷ e ∷ m) (e ∷ place_entry p v m) t) h)
    (λ a b. left (a, sym b)) (λ a b. right b))
    (λ t. look_cases x e (place_entry p v m) n (subst (λ (l : List (ℕ × ℕ)). lookup x l ≡ some n) (choose_no (ltb p e.0) ((p, v) ∷ e ∷ m) (e ∷ place_entry p v m) t) h)
    (λ a b. right (look_here x e m n a b)) (λ a b. found_more x n p v e m a (look_place x p v m n b)))

pub look_put : (x p v : ℕ) (m : List (ℕ × ℕ)) (n : ℕ) → lookup x (put p v m) ≡ some n → Either ((x ≡ p) × (n ≡ v)) (lookup x m ≡ some n)
unfolding put
look_put x p v m n = by_choice (λ (l : List (ℕ × ℕ)). lookup x l ≡ some n → Found x n p v m) (has p m) (λ _. look_replace x p v m n) (λ _. look_place x p v m n)
