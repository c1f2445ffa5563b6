-- Each history stands in the list exactly one time, and nothing else does, where no event stands twice among the events.
-- Assumes nothing.
use Prim.Native.Nat.{ℕ, zero, suc, ◌+◌, ◌*◌, ◌≤◌, ◌<◌}
use mathlib.Core.Path.{◌≡◌, refl, sym, ap, subst, ◌∙◌}
use mathlib.Core.Bool.{Bool, true, false, not, ◌&&◌}
use mathlib.Core.List.{List, [], ◌∷◌, ◌++◌, map}
use native.Mathlib.Nat.{suc-mul, add_comm}
use native.Mathlib.Omega.{arith}
use lib.ListN.{length, length-append, length-map}
use lib.Dec.{leb}
use borrow.Author.Tests.{leb-true, leb-false}
use Rattle.base_lists.specs.Lists.{choose, same}
use Rattle.base_lists.specs.Tests.{every}
use Rattle.base_lists.proofs.Choice.{choose_yes, choose_no, split, or_true, or_left, or_right, and_left, and_right, and_false, clash}
use Rattle.base_lists.proofs.Sets.{same_true}
use Rattle.spec_stories.specs.Histories.{Event, History, each, of_length, up_to, among, differ, is_history, same_events, times}

and_yes : (a b : Bool) → a ≡ true → (a && b) ≡ b
and_yes true b e = refl
and_yes false b e = clash false e refl

pub not_yes : {C : Type 0} (b : Bool) → not b ≡ true → b ≡ true → C
not_yes true e f = clash false e refl
not_yes false e f = clash false f refl

times_append : (h : History) (xs ys : List History) → times h (xs ++ ys) ≡ times h xs + times h ys
unfolding times
times_append h [] ys = omega arith
times_append h (x ∷ xs) ys = omega (arith, times_append h xs ys)

-- one event in front of each
module _ (x e : Event) (xs : History) where
  times_here : (hs : List History) → same x e ≡ true → times (x ∷ xs) (map (λ h. e ∷ h) hs) ≡ times xs hs
  unfolding times same_events
  times_here [] t = refl
  times_here (g ∷ hs) t = rw t (ap (λ (n : ℕ). choose (same_events xs g) 1 0 + n) (times_here hs t))

  times_other : (hs : List History) → same x e ≡ false → times (x ∷ xs) (map (λ h. e ∷ h) hs) ≡ 0
  unfolding times same_events choose
  times_other [] f = refl
  times_other (g ∷ hs) f = rw f (omega (arith, times_other hs f))

times_none : (e : Event) (hs : List History) → times [] (map (λ h. e ∷ h) hs) ≡ 0
unfolding times same_events choose
times_none e [] = refl
times_none e (g ∷ hs) = omega (arith, times_none e hs)

each_none : (es : List Event) (hs : List History) → times [] (each es hs) ≡ 0
unfolding each times
each_none [] hs = refl
each_none (e ∷ es) hs = omega (arith, times_append [] (map (λ h. e ∷ h) hs) (each es hs), times_none e hs, each_none es hs)

module _ (x : Event) (xs : History) (hs : List History) where
  -- x is none of them
  outside : (es : List Event) → among x es ≡ false → times (x ∷ xs) (each es hs) ≡ 0
  unfolding each times among
  outside [] f = refl
  outside (e ∷ es) f =
      omega (arith, times_append (x ∷ xs) (map (λ h. e ∷ h) hs) (each es hs), times_other x e xs hs (or_left (same x e) _ f), outside es (or_right (same x e) _ f))

  -- x is one of them
  inside : (es : List Event) → differ es ≡ true → among x es ≡ true → times (x ∷ xs) (each es hs) ≡ times xs hs
  unfolding each differ among
  inside [] d t = clash false t refl
  inside (e ∷ es) d t =
      let sum = times_append (x ∷ xs) (map (λ h. e ∷ h) hs) (each es hs) in
      split (same x e)
      (λ s. let gone : among x es ≡ false = split (among x es) (λ a. not_yes (among e es) (and_left (not (among e es)) _ d) (subst (λ (y : Event). among y es ≡ true) (same_true x e s) a)) (λ a. a) in
      omega (arith, sum, times_here x e xs hs s, outside es gone))
      (λ s. let there : among x es ≡ true = or_true (same x e) (among x es) t (λ y. clash (same x e) y s) (λ y. y) in
      omega (arith, sum, times_other x e xs hs s, inside es (and_right (not (among e es)) _ d) there))

module _ (es : List Event) (d : differ es ≡ true) where
  -- a history of n events
  hit : (n : ℕ) (h : History) → length h ≡ n → every (λ e. among e es) h ≡ true → times h (of_length es n) ≡ 1
  unfolding of_length times same_events every choose
  hit zero [] l t = refl
  hit zero (x ∷ xs) l t = absurd (omega (arith, l))
  hit (suc n) [] l t = absurd (omega (arith, l))
  hit (suc n) (x ∷ xs) l t = inside x xs (of_length es n) es d (and_left (among x es) _ t) ∙ hit n xs (omega (arith, l)) (and_right (among x es) _ t)

  -- one of another length
  other_length : (n : ℕ) (h : History) → (length h ≡ n → ⊥) → times h (of_length es n) ≡ 0
  unfolding of_length times same_events choose
  other_length zero [] f = absurd (f refl)
  other_length zero (x ∷ xs) f = refl
  other_length (suc n) [] f = each_none es (of_length es n)
  other_length (suc n) (x ∷ xs) f =
      split (among x es) (λ t. inside x xs (of_length es n) es d t ∙ other_length n xs (λ e. f (ap suc e))) (λ t. outside x xs (of_length es n) es t)

  -- one with what is no event
  no_event : (n : ℕ) (h : History) → every (λ e. among e es) h ≡ false → times h (of_length es n) ≡ 0
  unfolding of_length times same_events every choose
  no_event n [] f = clash true refl f
  no_event zero (x ∷ xs) f = refl
  no_event (suc n) (x ∷ xs) f =
      split (among x es)
      (λ t. inside x xs (of_length es n) es d t ∙ no_event n xs (rw (sym (and_yes (among x es) (every (λ e. among e es) xs) t)) f))
      (λ t. outside x xs (of_length es n) es t)

  too_long : (n : ℕ) (h : History) → n < length h → times h (up_to es n) ≡ 0
  unfolding up_to
  too_long zero h l = other_length zero h (λ e. omega (arith, e))
  too_long (suc n) h l = omega (arith, times_append h (up_to es n) (of_length es (suc n)), too_long n h (omega arith), other_length (suc n) h (λ e. omega (arith, e)))

  no_events : (n : ℕ) (h : History) → every (λ e. among e es) h ≡ false → times h (up_to es n) ≡ 0
  unfolding up_to
  no_events zero h f = no_event zero h f
  no_events (suc n) h f = omega (arith, times_append h (up_to es n) (of_length es (suc n)), no_events n h f, no_event (suc n) h f)

  one_time : (n : ℕ) (h : History) → length h ≤ n → every (λ e. among e es) h ≡ true → times h (up_to es n) ≡ 1
  unfolding up_to
  one_time zero h l t = hit zero h (omega arith) t
  one_time (suc n) h l t =
      let sum = times_append h (up_to es n) (of_length es (suc n)) in
      split (leb (length h) n) (λ y. let le = leb-true (length h) n y in omega (arith, sum, one_time n h le t, other_length (suc n) h (λ e. omega (arith, e, le))))
      (λ y. let gt = leb-false (length h) n y in omega (arith, sum, too_long n h gt, hit (suc n) h (omega (arith, gt)) t))

  -- "Each is proved to appear exactly one time", and nothing else does
  pub exactly_once : (n : ℕ) (h : History) → times h (up_to es n) ≡ choose (is_history es n h) 1 0
  unfolding is_history
  exactly_once n h =
      split (leb (length h) n && every (λ e. among e es) h)
      (λ t. one_time n h (leb-true (length h) n (and_left (leb (length h) n) _ t)) (and_right (leb (length h) n) _ t) ∙ sym (choose_yes _ 1 0 t))
      (λ t. and_false (leb (length h) n) _ t (λ f. too_long n h (leb-false (length h) n f)) (λ f. no_events n h f) ∙ sym (choose_no _ 1 0 t))

-- how many there are
length_each : (es : List Event) (hs : List History) → length (each es hs) ≡ length es * length hs
unfolding each
length_each [] hs = omega arith
length_each (e ∷ es) hs =
    length-append (map (λ h. e ∷ h) hs) (each es hs) ∙ (λ j. length-map hs (λ (h : History). e ∷ h) j + length_each es hs j)
    ∙ sym (suc-mul (length es) (length hs) ∙ add_comm (length es * length hs) (length hs))

pub length_of_length : (es : List Event) (n : ℕ) → length (of_length es (suc n)) ≡ length es * length (of_length es n)
unfolding of_length
length_of_length es n = length_each es (of_length es n)

-- "69,905 in all", of sixteen events
module _ (es : List Event) (sixteen : length es ≡ 16) where
  times_16 : (n : ℕ) → length (of_length es (suc n)) ≡ 16 * length (of_length es n)
  times_16 n = length_of_length es n ∙ ap (λ (k : ℕ). k * length (of_length es n)) sixteen

  pub how_many : length (up_to es 4) ≡ 69905
  unfolding up_to of_length
  how_many =
      let all = length-append (up_to es 3) (of_length es 4) in
      let three = length-append (up_to es 2) (of_length es 3) in
      let two = length-append (up_to es 1) (of_length es 2) in
      let one = length-append (up_to es 0) (of_length es 1) in
      omega (arith, all, three, two, one, times_16 0, times_16 1, times_16 2, times_16 3)
