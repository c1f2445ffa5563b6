-- The tally and the ledger count the same messages.
-- Assumes nothing.
use Prim.Native.Nat.{ℕ, zero, suc, ◌+◌, ◌≤◌, ◌<◌}
use mathlib.Core.Path.{◌≡◌, refl, ◌∙◌}
use mathlib.Core.Bool.{true}
use mathlib.Core.List.{List, [], ◌∷◌}
use native.Mathlib.Omega.{arith}
use lib.Dec.{eqb}
use borrow.Author.Tests.{eqb-true, lt-ltb, ltb-true}
use Rattle.base_lists.specs.Lists.{choose}
use Rattle.base_lists.specs.Tests.{every}
use Rattle.base_lists.proofs.Choice.{by_choice, split, and_left, and_right}
use Rattle.record.specs.Walk.{kind_in, message_in, peer_in, records_in, walk}
use Rattle.spec_history.specs.Ledger.{Ledger, count_message, note_up, note_down, read_records, open_event, feed}
use Rattle.spec_history.specs.Ledger.{note_record as book}
use Rattle.tally.specs.declared.Tally.{Tally}
use Rattle.tally.specs.Counts.{top, counted, raise_one, enter, raise_records, raised}
use Rattle.tally.specs.Sum.{total, has_count, all_have}

rises : (n : ℕ) → n < top → counted true n ≡ n + 1
unfolding counted choose
rises n h = rw (lt-ltb n top h)

one_more : (m : ℕ) (t : Tally) → m < 6 → total t < top → total (raise_one m t) ≡ total t + 1
unfolding total raise_one counted choose
one_more zero t h f = omega (arith, rises t.join (omega arith))
one_more (suc zero) t h f = omega (arith, rises t.forward_join (omega arith))
one_more (suc (suc zero)) t h f = omega (arith, rises t.shuffle (omega arith))
one_more (suc (suc (suc zero))) t h f = omega (arith, rises t.shuffle_reply (omega arith))
one_more (suc (suc (suc (suc zero)))) t h f = omega (arith, rises t.neighbor (omega arith))
one_more (suc (suc (suc (suc (suc zero))))) t h f = omega (arith, rises t.disconnect (omega arith))
one_more (suc (suc (suc (suc (suc (suc m)))))) t h f = absurd (omega arith)

-- a record in the book: one message more where its kind is 0
booked : (k p : ℕ) (l : Ledger) → (book k p l).sent ≡ choose (eqb k 0) (l.sent + 1) l.sent
unfolding book count_message note_up note_down choose
booked k p l =
    split (eqb k 0) (λ e. rw e) (λ e. rw e
    (by_choice (λ (x : Ledger). x.sent ≡ l.sent) (eqb k 9) (λ _. refl) (λ _.
    by_choice (λ (x : Ledger). x.sent ≡ l.sent) (eqb k 10) (λ _. refl) (λ _. refl))))

-- the book's count does not fall
kept : (k p : ℕ) (l : Ledger) → l.sent ≤ (book k p l).sent
kept k p l = rw booked (by_choice (λ (x : ℕ). l.sent ≤ x) (eqb k 0) (λ _. omega arith) (λ _. omega arith))

-- what a record does to the book and to the counts
abbrev booking : List ℕ → Ledger → Ledger
booking b = book (kind_in b) (peer_in b)

abbrev counting : List ℕ → Tally → Tally
counting b = enter (kind_in b) (message_in b)

never_less : (bs : List (List ℕ)) (l : Ledger) → l.sent ≤ (walk booking bs l).sent
unfolding walk
never_less [] l = omega arith
never_less (b ∷ bs) l = omega (arith, kept (kind_in b) (peer_in b) l, never_less bs (booking b l))

pub never_less_fed : (a code : ℕ) (b out : List ℕ) (l : Ledger) → l.sent ≤ (feed a b code out l).sent
unfolding feed open_event read_records
never_less_fed a code b out l =
    by_choice (λ (x : Ledger). l.sent ≤ x.sent) (eqb code 0) (λ _. never_less (records_in out) (open_event a b l)) (λ _. omega arith)

-- one record raises both by as much
entered : (b : List ℕ) (t : Tally) (l : Ledger) → has_count b ≡ true → total t + (booking b l).sent ≤ l.sent + top
    → total (counting b t) + l.sent ≡ total t + (booking b l).sent
unfolding has_count enter choose
entered b t l h w =
    split (eqb (kind_in b) 0)
    (λ e.
    let q : (booking b l).sent ≡ l.sent + 1 = booked (kind_in b) (peer_in b) l ∙ rw e in
    rw (e, q) (omega (arith, one_more (message_in b) t (ltb-true (message_in b) 6 (rw e at h)) (omega (arith, q)))))
    (λ e.
    let q : (booking b l).sent ≡ l.sent = booked (kind_in b) (peer_in b) l ∙ rw e in
    rw (e, q) refl)

agrees : (bs : List (List ℕ)) (t : Tally) (l : Ledger) → every has_count bs ≡ true → total t + (walk booking bs l).sent ≤ l.sent + top
    → total (walk counting bs t) + l.sent ≡ total t + (walk booking bs l).sent
unfolding every walk
agrees [] t l h w = refl
agrees (b ∷ bs) t l h w =
    let e = entered b t l (and_left (has_count b) _ h) (omega (arith, w, never_less bs (booking b l))) in
    omega (arith, e, agrees bs (counting b t) (booking b l) (and_right (has_count b) _ h) (omega (arith, e, w)))

-- After an event, accepted or refused, the six counts together have risen by the messages that the ledger counted, where none was at its top
-- and every message has a count.
pub sum_agrees : (a code : ℕ) (b out : List ℕ) (t : Tally) (l : Ledger) → (code ≡ 0 → all_have out ≡ true) → total t + (feed a b code out l).sent ≤ l.sent + top
    → total (raised code out t) + l.sent ≡ total t + (feed a b code out l).sent
unfolding raised feed open_event choose all_have raise_records read_records
sum_agrees a code b out t l h w =
    split (eqb code 0)
    (λ e. rw e (agrees (records_in out) t (open_event a b l) (h (eqb-true code 0 e)) (rw e at w)))
    (λ e. rw e refl)
