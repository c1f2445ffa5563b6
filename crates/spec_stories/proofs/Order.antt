-- The list is in order: shorter first, then by the order of events.
-- Assumes nothing.
use Prim.Native.Nat.{ℕ, zero, suc, ◌+◌, ◌≤◌, ◌<◌}
use mathlib.Core.Path.{◌≡◌, refl, sym, ap, subst, ◌∙◌}
use mathlib.Core.Bool.{Bool, true, false, not, ◌&&◌, ◌||◌}
use mathlib.Core.List.{List, [], ◌∷◌, ◌++◌, map, append_assoc}
use native.Mathlib.Omega.{arith}
use lib.ListN.{length}
use lib.Dec.{ltb, eqb}
use borrow.Author.Tests.{eq-eqb, lt-ltb}
use Rattle.base_lists.specs.Lists.{same}
use Rattle.base_lists.specs.Tests.{every, All}
use Rattle.base_lists.proofs.Choice.{by_choice, choose_yes, choose_no, split, and_left, and_right}
use Rattle.base_lists.proofs.Sets.{same_true, same_refl}
use Rattle.base_lists.proofs.Tests.{both_true}
use Rattle.spec_stories.specs.Histories.{Event, History, each, of_length, up_to, among, differ, place_of, earlier, before, ordered}
use Rattle.spec_stories.proofs.Once.{not_yes}

or_yes : (a b : Bool) → a ≡ true → (a || b) ≡ true
or_yes true b e = refl
or_yes false b e = absurd (let z : ◌≡◌ {A = ℕ} 0 1 = cc in omega arith)

or_then : (a b : Bool) → b ≡ true → (a || b) ≡ true
or_then true b e = refl
or_then false b e = e

module _ {A : Type 0} where
  every_append : (t : A → Bool) (xs ys : List A) → every t xs ≡ true → every t ys ≡ true → every t (xs ++ ys) ≡ true
  unfolding every
  every_append t [] ys p q = q
  every_append t (x ∷ xs) ys p q = both_true (t x) _ (and_left (t x) _ p) (every_append t xs ys (and_right (t x) _ p) q)

  all_append : (P : A → Type 0) (xs ys : List A) → All P xs → All P ys → All P (xs ++ ys)
  unfolding All
  all_append P [] ys p q = q
  all_append P (x ∷ xs) ys p q = (p.0, all_append P xs ys p.1 q)

  -- what each of them passes
  passed : (t : A → Bool) (P : A → Type 0) → ((x : A) → P x → t x ≡ true) → (xs : List A) → All P xs → every t xs ≡ true
  unfolding every All
  passed t P f [] a = refl
  passed t P f (x ∷ xs) a = both_true (t x) _ (f x a.0) (passed t P f xs a.1)

  weaker : (P Q : A → Type 0) → ((x : A) → P x → Q x) → (xs : List A) → All P xs → All Q xs
  unfolding All
  weaker P Q f [] a = tt
  weaker P Q f (x ∷ xs) a = (f x a.0, weaker P Q f xs a.1)

ordered_append : (t : History → History → Bool) (xs ys : List History) → ordered t xs ≡ true → ordered t ys ≡ true → All (λ x. every (t x) ys ≡ true) xs → ordered t (xs ++ ys) ≡ true
unfolding ordered All
ordered_append t [] ys p q a = q
ordered_append t (x ∷ xs) ys p q a =
    both_true (every (t x) (xs ++ ys)) _ (every_append (t x) xs ys (and_left (every (t x) xs) _ p) a.0) (ordered_append t xs ys (and_right (every (t x) xs) _ p) q a.1)

-- ---- the places of events

among_self : (x : Event) (es : List Event) → among x (x ∷ es) ≡ true
unfolding among
among_self x es = or_yes (same x x) _ (same_refl x)

among_behind : (x : Event) (pre es : List Event) → among x es ≡ true → among x (pre ++ es) ≡ true
unfolding among
among_behind x [] es t = t
among_behind x (p ∷ pre) es t = or_then (same x p) _ (among_behind x pre es t)

all_among : (pre es : List Event) → All (λ y. among y (pre ++ es) ≡ true) es
unfolding All
all_among pre [] = tt
all_among pre (e ∷ es) =
    (among_behind e pre (e ∷ es) (among_self e es), subst (λ (l : List Event). All (λ y. among y l ≡ true) es) (append_assoc pre (e ∷ []) es) (all_among (pre ++ (e ∷ [])) es))

differ_behind : (pre es : List Event) → differ (pre ++ es) ≡ true → differ es ≡ true
unfolding differ
differ_behind [] es d = d
differ_behind (p ∷ pre) es d = differ_behind pre es (and_right (not (among p (pre ++ es))) _ d)

-- an event that stands behind stands not before
place_behind : (x : Event) (pre es : List Event) → differ (pre ++ es) ≡ true → among x es ≡ true → place_of x (pre ++ es) ≡ length pre + place_of x es
unfolding differ place_of
place_behind x [] es d t = omega arith
place_behind x (p ∷ pre) es d t =
    by_choice (λ (n : ℕ). n ≡ suc (length pre) + place_of x es) (same x p)
    (λ s. not_yes (among p (pre ++ es)) (and_left (not (among p (pre ++ es))) _ d) (subst (λ (y : Event). among y (pre ++ es) ≡ true) (same_true x p s) (among_behind x pre es t)))
    (λ s. omega (arith, place_behind x pre es (and_right (not (among p (pre ++ es))) _ d) t))

place_first : (x : Event) (es : List Event) → place_of x (x ∷ es) ≡ 0
unfolding place_of
place_first x es = choose_yes _ _ _ (same_refl x)

module _ (e : Event) (pre es : List Event) (d : differ (pre ++ (e ∷ es)) ≡ true) where
  here : place_of e (pre ++ (e ∷ es)) ≡ length pre
  here = omega (arith, place_behind e pre (e ∷ es) d (among_self e es), place_first e es)

  after : (y : Event) → among y es ≡ true → length pre < place_of y (pre ++ (e ∷ es))
  unfolding differ place_of among
  after y t =
      let own = differ_behind pre (e ∷ es) d in
      let other : same y e ≡ false = split (same y e) (λ s. not_yes (among e es) (and_left (not (among e es)) _ own) (subst (λ (z : Event). among z es ≡ true) (same_true y e s) t)) (λ s. s) in
      omega (arith, place_behind y pre (e ∷ es) d (or_then (same y e) _ t), choose_no {A = ℕ} (same y e) 0 (suc (place_of y es)) other)

-- ---- of one length

module _ (all : List Event) (e : Event) where
  earlier_behind : (g h : History) → earlier all g h ≡ true → earlier all (e ∷ g) (e ∷ h) ≡ true
  unfolding earlier
  earlier_behind g h t = or_then (ltb (place_of e all) (place_of e all)) _ (both_true (same e e) _ (same_refl e) t)

  every_behind : (g : History) (hs : List History) → every (earlier all g) hs ≡ true → every (earlier all (e ∷ g)) (map (λ h. e ∷ h) hs) ≡ true
  unfolding every
  every_behind g [] t = refl
  every_behind g (h ∷ hs) t =
      both_true (earlier all (e ∷ g) (e ∷ h)) _ (earlier_behind g h (and_left (earlier all g h) _ t)) (every_behind g hs (and_right (earlier all g h) _ t))

  ordered_behind : (hs : List History) → ordered (earlier all) hs ≡ true → ordered (earlier all) (map (λ h. e ∷ h) hs) ≡ true
  unfolding ordered
  ordered_behind [] t = refl
  ordered_behind (h ∷ hs) t =
      both_true (every (earlier all (e ∷ h)) (map (λ h. e ∷ h) hs)) _ (every_behind h hs (and_left (every (earlier all h) hs) _ t)) (ordered_behind hs (and_right (every (earlier all h) hs) _ t))

  -- what starts with a later event comes later
  before_later : (g : History) (y : Event) (hs : List History) → place_of e all < place_of y all → every (earlier all (e ∷ g)) (map (λ h. y ∷ h) hs) ≡ true
  unfolding every earlier
  before_later g y [] l = refl
  before_later g y (h ∷ hs) l = both_true (ltb (place_of e all) (place_of y all) || (same e y && earlier all g h)) _ (or_yes (ltb (place_of e all) (place_of y all)) _ (lt-ltb _ _ l)) (before_later g y hs l)

  before_each : (g : History) (hs : List History) (es : List Event) → All (λ y. place_of e all < place_of y all) es → every (earlier all (e ∷ g)) (each es hs) ≡ true
  unfolding each every All
  before_each g hs [] l = refl
  before_each g hs (y ∷ es) l = every_append (earlier all (e ∷ g)) (map (λ h. y ∷ h) hs) (each es hs) (before_later g y hs l.0) (before_each g hs es l.1)

  all_before_each : (gs hs : List History) (es : List Event) → All (λ y. place_of e all < place_of y all) es → All (λ x. every (earlier all x) (each es hs) ≡ true) (map (λ h. e ∷ h) gs)
  unfolding All
  all_before_each [] hs es l = tt
  all_before_each (g ∷ gs) hs es l = (before_each g hs es l, all_before_each gs hs es l)

module _ (all : List Event) (d : differ all ≡ true) where
  ordered_each : (hs : List History) → ordered (earlier all) hs ≡ true → (pre es : List Event) → all ≡ pre ++ es → ordered (earlier all) (each es hs) ≡ true
  unfolding each ordered
  ordered_each hs t pre [] q = refl
  ordered_each hs t pre (e ∷ es) q =
      let dd : differ (pre ++ (e ∷ es)) ≡ true = subst (λ (l : List Event). differ l ≡ true) q d in
      let later : All (λ y. place_of e all < place_of y all) es =
      weaker (λ y. among y es ≡ true) (λ y. place_of e all < place_of y all)
      (λ y m. subst (λ (l : List Event). place_of e l < place_of y l) (sym q) (omega (arith, here e pre es dd, after e pre es dd y m))) es (all_among [] es) in
      ordered_append (earlier all) (map (λ h. e ∷ h) hs) (each es hs) (ordered_behind all e hs t)
      (ordered_each hs t (pre ++ (e ∷ [])) es (q ∙ sym (append_assoc pre (e ∷ []) es))) (all_before_each all e hs hs es later)

  ordered_of_length : (n : ℕ) → ordered (earlier all) (of_length all n) ≡ true
  unfolding of_length ordered every
  ordered_of_length zero = refl
  ordered_of_length (suc n) = ordered_each (of_length all n) (ordered_of_length n) [] all refl

-- ---- lengths

long_front : (e : Event) (n : ℕ) (hs : List History) → All (λ h. length h ≡ n) hs → All (λ h. length h ≡ suc n) (map (λ h. e ∷ h) hs)
unfolding All
long_front e n [] a = tt
long_front e n (h ∷ hs) a = (ap suc a.0, long_front e n hs a.1)

long_each : (n : ℕ) (hs : List History) → All (λ h. length h ≡ n) hs → (es : List Event) → All (λ h. length h ≡ suc n) (each es hs)
unfolding each All
long_each n hs a [] = tt
long_each n hs a (e ∷ es) = all_append (λ h. length h ≡ suc n) (map (λ h. e ∷ h) hs) (each es hs) (long_front e n hs a) (long_each n hs a es)

long : (k : List Event) (n : ℕ) → All (λ h. length h ≡ n) (of_length k n)
unfolding of_length All
long k zero = (refl, tt)
long k (suc n) = long_each n (of_length k n) (long k n) k

short : (k : List Event) (n : ℕ) → All (λ h. length h ≤ n) (up_to k n)
unfolding up_to
short k zero = weaker (λ h. length h ≡ zero) (λ h. length h ≤ zero) (λ h e. omega (arith, e)) (of_length k zero) (long k zero)
short k (suc n) =
    all_append (λ h. length h ≤ suc n) (up_to k n) (of_length k (suc n)) (weaker (λ h. length h ≤ n) (λ h. length h ≤ suc n) (λ h l. omega (arith, l)) (up_to k n) (short k n))
    (weaker (λ h. length h ≡ suc n) (λ h. length h ≤ suc n) (λ h e. omega (arith, e)) (of_length k (suc n)) (long k (suc n)))

-- ---- what the events are, the histories are made of

module _ (P : Event → Type 0) where
  made_front : (e : Event) → P e → (hs : List History) → All (All P) hs → All (All P) (map (λ h. e ∷ h) hs)
  unfolding All
  made_front e p [] a = tt
  made_front e p (h ∷ hs) a = ((p, a.0), made_front e p hs a.1)

  made_each : (es : List Event) → All P es → (hs : List History) → All (All P) hs → All (All P) (each es hs)
  unfolding each All
  made_each [] p hs a = tt
  made_each (e ∷ es) p hs a = all_append (All P) (map (λ h. e ∷ h) hs) (each es hs) (made_front e p.0 hs a) (made_each es p.1 hs a)

  made_length : (es : List Event) → All P es → (n : ℕ) → All (All P) (of_length es n)
  unfolding of_length All
  made_length es p zero = (tt, tt)
  made_length es p (suc n) = made_each es p (of_length es n) (made_length es p n)

  pub made_of : (es : List Event) → All P es → (n : ℕ) → All (All P) (up_to es n)
  unfolding up_to
  made_of es p zero = made_length es p zero
  made_of es p (suc n) = all_append (All P) (up_to es n) (of_length es (suc n)) (made_of es p n) (made_length es p (suc n))

-- ---- together

module _ (es : List Event) where
  before_same : (n : ℕ) (g h : History) → length g ≡ n → length h ≡ n → earlier es g h ≡ true → before es g h ≡ true
  unfolding before
  before_same n g h p q t = or_then (ltb (length g) (length h)) _ (both_true (eqb (length g) (length h)) _ (eq-eqb _ _ (p ∙ sym q)) t)

  before_shorter : (g h : History) → length g < length h → before es g h ≡ true
  unfolding before
  before_shorter g h l = or_yes (ltb (length g) (length h)) _ (lt-ltb _ _ l)

  every_before : (n : ℕ) (g : History) (hs : List History) → length g ≡ n → All (λ h. length h ≡ n) hs → every (earlier es g) hs ≡ true → every (before es g) hs ≡ true
  unfolding every All
  every_before n g [] l a t = refl
  every_before n g (h ∷ hs) l a t =
      both_true (before es g h) _ (before_same n g h l a.0 (and_left (earlier es g h) _ t)) (every_before n g hs l a.1 (and_right (earlier es g h) _ t))

  ordered_before : (n : ℕ) (hs : List History) → All (λ h. length h ≡ n) hs → ordered (earlier es) hs ≡ true → ordered (before es) hs ≡ true
  unfolding ordered All
  ordered_before n [] a t = refl
  ordered_before n (h ∷ hs) a t =
      both_true (every (before es h) hs) _ (every_before n h hs a.0 a.1 (and_left (every (earlier es h) hs) _ t)) (ordered_before n hs a.1 (and_right (every (earlier es h) hs) _ t))

  -- "shorter first, then by the order of events"
  pub in_order : differ es ≡ true → (n : ℕ) → ordered (before es) (up_to es n) ≡ true
  unfolding up_to
  in_order d zero = ordered_before zero (of_length es zero) (long es zero) (ordered_of_length es d zero)
  in_order d (suc n) =
      ordered_append (before es) (up_to es n) (of_length es (suc n)) (in_order d n) (ordered_before (suc n) (of_length es (suc n)) (long es (suc n)) (ordered_of_length es d (suc n)))
      (weaker (λ h. length h ≤ n) (λ g. every (before es g) (of_length es (suc n)) ≡ true)
      (λ g l. passed (before es g) (λ h. length h ≡ suc n) (λ h e. before_shorter g h (omega (arith, l, e))) (of_length es (suc n)) (long es (suc n))) (up_to es n) (short es n))
