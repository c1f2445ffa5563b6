-- Each request that the book holds open has its timer among those scheduled and not yet expired.
-- Assumes nothing.
use mathlib.Core.Path.{◌≡◌, refl, sym, ap, subst, ◌∙◌}
use mathlib.Core.Bool.{Bool, true, false, ◌&&◌, ◌||◌}
use mathlib.Core.List.{List, [], ◌∷◌}
use mathlib.Core.Option.{Option, some}
use Prim.Native.Nat.{ℕ}
use lib.Dec.{eqb}
use borrow.Author.Tests.{eqb-true, eq-eqb}
use Rattle.base_lists.specs.Lists.{choose}
use Rattle.base_lists.specs.Maps.{lookup, put}
use Rattle.base_lists.proofs.Choice.{by_choice, and_left, and_right, clash}
use Rattle.record.specs.declared.Header.{Header}
use Rattle.record.specs.Kinds.{Message, PendingNeighborRequest, PeerDisconnected, Quit, kind_byte}
use Rattle.spec_chatter.specs.Traffic.{Item, came, went}
use Rattle.spec_chatter.specs.Open.{is_answer, is_open, closes}
use Rattle.spec_chatter.proofs.Book.{Book, empty_book, note_sent, shut, note_event, note_item, book_after}
use Rattle.spec_chatter.specs.Claims.{without_pair, waiting, Among, here, later}
use Rattle.spec_chatter.proofs.Lists.{Either, left, right, none_found, look_nothing, look_cut, look_put}

-- ---- timers that wait

pub still_waits : (p n q o : ℕ) (ws : List (ℕ × ℕ)) → (p ≡ q → n ≡ o → ⊥) → Among p n ws → Among p n (without_pair q o ws)
unfolding without_pair
still_waits p n q o [] d a = elim a [ ]
still_waits p n q o (w ∷ ws) d here =
    by_choice (Among p n) (eqb q p && eqb o n) (λ t. absurd (d (sym (eqb-true q p (and_left (eqb q p) _ t))) (sym (eqb-true o n (and_right (eqb q p) _ t))))) (λ t. here)
still_waits p n q o (w ∷ ws) d (later a) = by_choice (Among p n) (eqb q w.0 && eqb o w.1) (λ t. still_waits p n q o ws d a) (λ t. later (still_waits p n q o ws d a))

-- each number open in m has its timer among those that wait
abbrev pub Timed : List (ℕ × ℕ) → List (ℕ × ℕ) → Type 0
Timed m ws = (p n : ℕ) → lookup p m ≡ some n → Among p n ws

pub number_yes : (n : ℕ) (o : Option ℕ) → o ≡ some n → is_open n o ≡ true
unfolding is_open
number_yes n o e = subst (λ (x : Option ℕ). is_open n x ≡ true) (sym e) (eq-eqb n n refl)

or_no_right : (a b : Bool) → (a || b) ≡ false → b ≡ false
or_no_right true b e = clash true refl e
or_no_right false b e = e

-- an event of kind 3 that is not open takes out no open timer
unmatched : (h : Header) (d : Book) → closes h.kind h.message h.peer h.number d.asked ≡ false → h.kind ≡ kind_byte PendingNeighborRequest → lookup h.peer d.asked ≡ some h.number → ⊥
unfolding closes
unmatched h d c k q =
    let n = eqb h.kind (kind_byte PendingNeighborRequest) && is_open h.number (lookup h.peer d.asked) in
    let a = or_no_right (eqb h.kind (kind_byte PeerDisconnected)) n (or_no_right (eqb h.kind (kind_byte Message) && is_answer h.message) (eqb h.kind (kind_byte PeerDisconnected) || n) c) in
    clash (is_open h.number (lookup h.peer d.asked)) (number_yes h.number _ q) (sym (ap (λ (b : Bool). b && is_open h.number (lookup h.peer d.asked)) (eq-eqb h.kind (kind_byte PendingNeighborRequest) k)) ∙ a)

event_timed : (h : Header) (d : Book) (ws : List (ℕ × ℕ)) → Timed d.asked ws → Timed (note_item (came h) d).asked (choose (eqb h.kind (kind_byte PendingNeighborRequest)) (without_pair h.peer h.number ws) ws)
unfolding note_item note_event shut empty_book
event_timed h d ws t =
    let c = closes h.kind h.message h.peer h.number d.asked in
    let k = eqb h.kind (kind_byte PendingNeighborRequest) in
    by_choice (λ (x : Book). Timed x.asked (choose k (without_pair h.peer h.number ws) ws)) (eqb h.kind (kind_byte Quit)) (λ _ p n q. none_found (look_nothing p n q))
    (λ _. by_choice (λ (x : Book). Timed x.asked (choose k (without_pair h.peer h.number ws) ws)) c
    (λ _ p n q. let s = look_cut p h.peer d.asked n q in
    by_choice (Among p n) k (λ _. still_waits p n h.peer h.number ws (λ a b. s.0 a) (t p n s.1)) (λ _. t p n s.1))
    (λ u p n q. by_choice (Among p n) k
    (λ v. still_waits p n h.peer h.number ws (λ a b. unmatched h d u (eqb-true h.kind (kind_byte PendingNeighborRequest) v) (subst (λ (y : ℕ). lookup y d.asked ≡ some h.number) a (subst (λ (y : ℕ). lookup p d.asked ≡ some y) b q))) (t p n q))
    (λ _. t p n q)))

fresh : (p n q o : ℕ) (m ws : List (ℕ × ℕ)) → Timed m ws → Either ((p ≡ q) × (n ≡ o)) (lookup p m ≡ some n) → Among p n ((q, o) ∷ ws)
fresh p n q o m ws t (left e) = subst (λ (x : ℕ). Among x n ((q, o) ∷ ws)) (sym e.0) (subst (λ (x : ℕ). Among q x ((q, o) ∷ ws)) (sym e.1) here)
fresh p n q o m ws t (right e) = later (t p n e)

put_timed : (b : Bool) (q o : ℕ) (m ws : List (ℕ × ℕ)) → Timed m ws → Timed (choose b (put q o m) m) (choose b ((q, o) ∷ ws) ws)
unfolding choose
put_timed true q o m ws t p n e = fresh p n q o m ws t (look_put p q o m n e)
put_timed false q o m ws t p n e = t p n e

sent_timed : (h : Header) (d : Book) (ws : List (ℕ × ℕ)) → Timed d.asked ws → Timed (note_item (went h) d).asked (choose (eqb h.kind (kind_byte PendingNeighborRequest)) ((h.peer, h.number) ∷ ws) ws)
unfolding note_item note_sent
sent_timed h d ws t = put_timed (eqb h.kind (kind_byte PendingNeighborRequest)) h.peer h.number d.asked ws t

pub timed_after : (xs : List Item) (d : Book) (ws : List (ℕ × ℕ)) → Timed d.asked ws → Timed (book_after xs d).asked (waiting (kind_byte PendingNeighborRequest) xs ws)
unfolding book_after waiting
timed_after [] d ws t = t
timed_after (came h ∷ xs) d ws t = timed_after xs (note_item (came h) d) _ (event_timed h d ws t)
timed_after (went h ∷ xs) d ws t = timed_after xs (note_item (went h) d) _ (sent_timed h d ws t)
