-- The first claim in the request's words, from the book: what never meets a Neighbor that the book forbids has a reason, and so an event, between any two.
-- Assumes nothing.
use mathlib.Core.Path.{◌≡◌, refl, sym, ap, subst, ◌∙◌}
use mathlib.Core.Bool.{Bool, true, false, not, ◌&&◌, ◌||◌}
use mathlib.Core.List.{List, [], ◌∷◌, ◌++◌, append_assoc, append-nil}
use mathlib.Core.Option.{Option, none, some}
use Prim.Native.Nat.{ℕ}
use lib.Dec.{eqb}
use borrow.Author.Tests.{eqb-true, eqb-false}
use Rattle.base_lists.specs.Lists.{choose, mem, insert}
use Rattle.base_lists.specs.Maps.{lookup}
use Rattle.base_lists.proofs.Choice.{by_choice, choose_yes, choose_no, split, or_true, and_left, and_right, clash}
use Rattle.record.specs.declared.Header.{Header}
use Rattle.record.specs.Kinds.{Quit, kind_byte}
use Rattle.spec_chatter.specs.Traffic.{Item, came, went}
use Rattle.spec_chatter.specs.Open.{neighbor_message, is_answer, is_open, closes, open_after}
use Rattle.spec_chatter.specs.Claims.{MessageOf, ReasonFor, join_from, neighbor_from, disconnect_from, disconnection, request_timer, quit, AnyTwoNeighbors, NoChatter, OneInEachEvent}
use Rattle.spec_chatter.proofs.Lists.{Either, left, right, insert_self, insert_keeps, without_keeps}
use Rattle.spec_chatter.proofs.Book.{Book, empty_book, is_neighbor, note_sent, shut, note_event, note_item, book_after, may_send, may, keeps_book, asked_after}

-- ---- one item

sent_keeps : (x : ℕ) (h : Header) (d : Book) → mem x d.told ≡ true → mem x (note_item (went h) d).told ≡ true
unfolding note_item note_sent
sent_keeps x h d k = by_choice (λ (l : List ℕ). mem x l ≡ true) (is_neighbor h.kind h.message) (λ _. insert_keeps x h.peer d.told k) (λ _. k)

neighbor_is : (p : ℕ) (h : Header) → MessageOf neighbor_message p h → is_neighbor h.kind h.message ≡ true
unfolding is_neighbor
neighbor_is p h n = rw (n.is_message, n.which)

sent_tells : (p : ℕ) (h : Header) (d : Book) → MessageOf neighbor_message p h → mem p (note_item (went h) d).told ≡ true
unfolding note_item note_sent
sent_tells p h d n =
    by_choice (λ (l : List ℕ). mem p l ≡ true) (is_neighbor h.kind h.message)
    (λ _. subst (λ (q : ℕ). mem p (insert q d.told) ≡ true) (sym n.whose) (insert_self p d.told)) (λ f. clash _ (neighbor_is p h n) f)

-- a Neighbor to one who is told is forbidden
forbidden : {C : Type 0} (p : ℕ) (h : Header) (d : Book) → MessageOf neighbor_message p h → mem p d.told ≡ true → may (went h) d ≡ true → C
unfolding may may_send
forbidden p h d n m k =
    let a : not (mem h.peer d.told) ≡ true = sym (choose_yes (is_neighbor h.kind h.message) (not (mem h.peer d.told)) true (neighbor_is p h n)) ∙ k in
    let b : mem h.peer d.told ≡ true = subst (λ (q : ℕ). mem q d.told ≡ true) (sym n.whose) m in
    clash (not (mem h.peer d.told)) a (ap not b)

number_is : (n : ℕ) (o : Option ℕ) → is_open n o ≡ true → o ≡ some n
unfolding is_open
number_is n none h = clash false h refl
number_is n (some m) h = ap some (sym (eqb-true n m h))

-- an event that closes what is open to its peer is a reason
closing : (p : ℕ) (xs : List Item) (h : Header) (numbers : List (ℕ × ℕ)) → numbers ≡ open_after xs [] → h.peer ≡ p → closes h.kind h.message h.peer h.number numbers ≡ true → ReasonFor p xs (came h)
unfolding closes is_answer
closing p xs h numbers e q c =
    let k = h.kind in
    let m = h.message in
    let message : (i : ℕ) → eqb k 0 ≡ true → eqb m i ≡ true → MessageOf i p h = (λ i a b. record { is_message = eqb-true k 0 a; which = eqb-true m i b; whose = q }) in
    or_true (eqb k 0 && is_answer m) (eqb k 5 || (eqb k 3 && is_open h.number (lookup h.peer numbers))) c
    (λ a. let z = and_left (eqb k 0) (is_answer m) a in
    or_true (eqb m 0) (eqb m 4 || eqb m 5) (and_right (eqb k 0) (is_answer m) a) (λ b. join_from (message 0 z b))
    (λ b. or_true (eqb m 4) (eqb m 5) b (λ i. neighbor_from (message 4 z i)) (λ i. disconnect_from (message 5 z i))))
    (λ a. or_true (eqb k 5) (eqb k 3 && is_open h.number (lookup h.peer numbers)) a (λ b. disconnection (eqb-true k 5 b) q)
    (λ b. request_timer (eqb-true k 3 (and_left (eqb k 3) _ b)) q
    (subst (λ (x : List (ℕ × ℕ)). lookup p x ≡ some h.number) e (subst (λ (y : ℕ). lookup y numbers ≡ some h.number) q (number_is h.number (lookup h.peer numbers) (and_right (eqb k 3) _ b))))))

-- the numbers of the book after xs are the open ones
abbrev After : List Item → Book → Type 0
After xs d = d ≡ book_after xs empty_book

numbers_open : (xs : List Item) (d : Book) → After xs d → d.asked ≡ open_after xs []
unfolding empty_book
numbers_open xs d e = ap (λ (x : Book). x.asked) e ∙ asked_after xs empty_book

-- an event is a reason, or leaves p told
event_either : (p : ℕ) (xs : List Item) (h : Header) (d : Book) → After xs d → mem p d.told ≡ true → Either (ReasonFor p xs (came h)) (mem p (note_item (came h) d).told ≡ true)
unfolding note_item note_event shut
event_either p xs h d e m =
    let c = closes h.kind h.message h.peer h.number d.asked in
    split (eqb h.kind (kind_byte Quit)) (λ t. left (quit (eqb-true h.kind (kind_byte Quit) t)))
    (λ t. split c
    (λ u. split (eqb h.peer p) (λ q. left (closing p xs h d.asked (numbers_open xs d e) (eqb-true h.peer p q) u))
    (λ q. right (rw (choose_no (eqb h.kind (kind_byte Quit)) empty_book (choose c (shut h.peer d) d) t, choose_yes c (shut h.peer d) d u) (without_keeps p h.peer d.told (λ z. eqb-false h.peer p q (sym z)) m))))
    (λ u. right (rw (choose_no (eqb h.kind (kind_byte Quit)) empty_book (choose c (shut h.peer d) d) t, choose_no c (shut h.peer d) d u) m)))

-- ---- many

pub after_append : (xs ys : List Item) (d : Book) → book_after (xs ++ ys) d ≡ book_after ys (book_after xs d)
unfolding book_after
after_append [] ys d = refl
after_append (i ∷ xs) ys d = after_append xs ys (note_item i d)

and_assoc : (a b c : Bool) → ((a && b) && c) ≡ (a && (b && c))
and_assoc true b c = refl
and_assoc false b c = refl

pub keeps_append : (xs ys : List Item) (d : Book) → keeps_book (xs ++ ys) d ≡ (keeps_book xs d && keeps_book ys (book_after xs d))
unfolding keeps_book book_after
keeps_append [] ys d = refl
keeps_append (i ∷ xs) ys d = ap (λ (b : Bool). may i d && b) (keeps_append xs ys (note_item i d)) ∙ sym (and_assoc (may i d) _ _)

-- an event that is a reason stands among the items `between`, which follow xs
record Found (p : ℕ) (xs between : List Item) : Type 0 where
  front : List Item
  event : Header
  back : List Item
  is : between ≡ front ++ (came event ∷ back)
  why : ReasonFor p (xs ++ front) (came event)

at_once : (p : ℕ) (xs : List Item) (h : Header) (is : List Item) → ReasonFor p xs (came h) → Found p xs (came h ∷ is)
at_once p xs h is w = record { front = []; event = h; back = is; is = refl; why = subst (λ (l : List Item). ReasonFor p l (came h)) (sym (append-nil xs)) w }

after_one : (p : ℕ) (xs : List Item) (i : Item) (is : List Item) → Found p (xs ++ (i ∷ [])) is → Found p xs (i ∷ is)
after_one p xs i is s = record {
  front = i ∷ s.front;
  event = s.event;
  back = s.back;
  is = ap (λ (l : List Item). i ∷ l) s.is;
  why = subst (λ (l : List Item). ReasonFor p l (came s.event)) (append_assoc xs (i ∷ []) s.front) s.why;
}

one_more : (xs : List Item) (i : Item) (d : Book) → After xs d → After (xs ++ (i ∷ [])) (note_item i d)
unfolding book_after
one_more xs i d e = ap (note_item i) e ∙ sym (after_append xs (i ∷ []) empty_book)

search_for : (p : ℕ) (xs between after : List Item) (y : Header) (d : Book) → After xs d → mem p d.told ≡ true → MessageOf neighbor_message p y → keeps_book (between ++ (went y ∷ after)) d ≡ true → Found p xs between
unfolding keeps_book
search_for p xs [] after y d e m n k = forbidden p y d n m (and_left (may (went y) d) _ k)
search_for p xs (went h ∷ is) after y d e m n k =
    after_one p xs (went h) is (search_for p (xs ++ (went h ∷ [])) is after y (note_item (went h) d) (one_more xs (went h) d e) (sent_keeps p h d m) n (and_right (may (went h) d) _ k))
search_for p xs (came h ∷ is) after y d e m n k =
    found p xs h is (event_either p xs h d e m)
    (λ t. search_for p (xs ++ (came h ∷ [])) is after y (note_item (came h) d) (one_more xs (came h) d e) t n (and_right (may (came h) d) _ k))
  where
    found : (p : ℕ) (xs : List Item) (h : Header) (is : List Item) → {T : Type 0} → Either (ReasonFor p xs (came h)) T → (T → Found p (xs ++ (came h ∷ [])) is) → Found p xs (came h ∷ is)
    found p xs h is (left w) f = at_once p xs h is w
    found p xs h is (right t) f = after_one p xs (came h) is (f t)

found_between : (xs : List Item) → keeps_book xs empty_book ≡ true → AnyTwoNeighbors xs (λ p before x between. Found p (before ++ (went x ∷ [])) between)
unfolding keeps_book
found_between xs k p before between after x y e nx ny =
    let rest : List Item = between ++ (went y ∷ after) in
    let d = book_after before empty_book in
    let a : (keeps_book before empty_book && keeps_book (went x ∷ rest) d) ≡ true = sym (ap (λ (l : List Item). keeps_book l empty_book) e ∙ keeps_append before (went x ∷ rest) empty_book) ∙ k in
    let b = and_right (may (went x) d) _ (and_right (keeps_book before empty_book) _ a) in
    search_for p (before ++ (went x ∷ [])) between after y (note_item (went x) d) (one_more before (went x) d refl) (sent_tells p x d nx) ny b

-- The first claim, of any items in which the book is kept.
pub in_words : (xs : List Item) → keeps_book xs empty_book ≡ true → NoChatter xs
in_words xs k p before between after x y e nx ny =
    let f = found_between xs k p before between after x y e nx ny in
    record { front = f.front; item = came f.event; back = f.back; is = f.is; why = f.why }

pub event_between : (xs : List Item) → keeps_book xs empty_book ≡ true → OneInEachEvent xs
event_between xs k p before between after x y e nx ny =
    let f = found_between xs k p before between after x y e nx ny in
    record { front = f.front; event = f.event; back = f.back; is = f.is }
