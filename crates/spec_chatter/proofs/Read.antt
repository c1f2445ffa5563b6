-- What a reader of an output finds is what the records written tell.
-- Assumes nothing.
use mathlib.Core.Path.{◌≡◌, refl, sym, ap, subst, ◌∙◌}
use mathlib.Core.Bool.{Bool, true, false, cond, not, ◌&&◌}
use mathlib.Core.List.{List, [], ◌∷◌, ◌++◌, append_assoc, map}
use Prim.Native.Nat.{ℕ, ◌+◌, ◌≤◌, ◌<◌}
use native.Mathlib.Omega.{arith}
use lib.ListN.{length, replicate, length-append}
use lib.Dec.{eqb, ltb}
use borrow.Author.Tests.{eqb-true, eq-eqb}
use Rattle.base_lists.specs.Lists.{choose, is, mem, place, insert}
use Rattle.base_lists.specs.Maps.{keys, put}
use Rattle.base_lists.specs.Tests.{All}
use Rattle.base_lists.specs.Bytes.{le, read_le}
use Rattle.base_lists.proofs.Choice.{split, clash}
use Rattle.base_lists.proofs.Maps.{keys_put}
use Rattle.record.specs.declared.Header.{Header}
use Rattle.record.specs.Format.{Rec, size, header_by, encode, encode_by}
use Rattle.record.specs.Read.{header_of, header_of_by}
use Rattle.record.specs.Walk.{headers}
use Rattle.record.proofs.Format.{length_encode}
use Rattle.record.proofs.Walk.{records_written, records_zeros}
use Rattle.record.specs.Kinds.{PendingNeighborRequest, RetryJoin, kind_byte}
use Rattle.spec_hyparview.specs.Station.{peers_end}
use Rattle.spec_hyparview.specs.Written.{encode_all}
use Rattle.spec_chatter.specs.Traffic.{Item, went}
use Rattle.spec_chatter.proofs.Book.{Book, is_neighbor, note_sent, may_send, note_item, book_after, may, keeps_book}
use Rattle.spec_chatter.specs.Claims.{times_scheduled, times_expired, accepted_events, waiting, Among, here, later}
use Rattle.spec_chatter.proofs.Lists.{Either, left, right}
use Rattle.spec_chatter.proofs.Moves.{sent_all, may_all, kinds, Low, retries}

abbrev numbers_end : ℕ
numbers_end = 18446744073709551616

-- ---- items that list lower from P of all: a peer put in is one of those

module _ (P : ℕ → Type 0) where
  all_member : (p : ℕ) (xs : List ℕ) → mem p xs ≡ true → All P xs → P p
  unfolding mem All
  all_member p [] m a = clash false m refl
  all_member p (x ∷ xs) m a =
      split (eqb p x) (λ t. subst P (sym (eqb-true p x t)) a.0) (λ t. all_member p xs (sym (ap (λ (b : Bool). cond b true (mem p xs)) t) ∙ m) a.1)

  place_back : (p : ℕ) (xs : List ℕ) → All P (place p xs) → P p × All P xs
  unfolding place All
  place_back p [] a = (a.0, tt)
  place_back p (x ∷ xs) a = go (ltb p x) (λ c. place_back p xs c) a
    where
      go : (b : Bool) → (All P (place p xs) → P p × All P xs) → All P (cond b (p ∷ x ∷ xs) (x ∷ place p xs)) → P p × (P x × All P xs)
      go true g a = (a.0, a.1)
      go false g a = let k = g a.1 in (k.0, (a.0, k.1))

  insert_back : (p : ℕ) (xs : List ℕ) → All P (insert p xs) → P p × All P xs
  unfolding insert
  insert_back p xs a = go (mem p xs) refl a
    where
      go : (b : Bool) → mem p xs ≡ b → All P (cond b xs (place p xs)) → P p × All P xs
      go true e a = (all_member p xs e a, a)
      go false e a = place_back p xs a

-- a record whose bytes the book reads as they were meant
pub record Read (e : Rec) : Type 0 where
  pub neighbor : is_neighbor e.kind e.message ≡ true → e.peer < peers_end
  pub timer : e.kind ≡ kind_byte PendingNeighborRequest → e.peer < peers_end
  pub number : e.kind ≡ kind_byte PendingNeighborRequest → e.number < numbers_end

abbrev Peer : ℕ → Type 0
Peer p = p < peers_end

pub record Narrows (n : ℕ) (es : List Rec) (d : Book) : Type 0 where
  pub reads : All Read es
  pub told : All Peer d.told
  pub asked : All Peer (keys d.asked)

told_back : (b : Bool) (p : ℕ) (xs : List ℕ) → All Peer (choose b (insert p xs) xs) → (b ≡ true → Peer p) × All Peer xs
unfolding choose
told_back true p xs a = let k = insert_back Peer p xs a in ((λ _. k.0), k.1)
told_back false p xs a = ((λ e. clash false e refl), a)

asked_back : (b : Bool) (p n : ℕ) (m : List (ℕ × ℕ)) → All Peer (keys (choose b (put p n m) m)) → (b ≡ true → Peer p) × All Peer (keys m)
unfolding choose
asked_back true p n m a = let k = insert_back Peer p (keys m) (subst (All Peer) (keys_put p n m) a) in ((λ _. k.0), k.1)
asked_back false p n m a = ((λ e. clash false e refl), a)

-- where the book after them keeps to the widths, so do the records, since nothing leaves the book
pub narrows : (n i : ℕ) → n < numbers_end → (es : List Rec) (d : Book) → All (Low n i) es → All Peer (sent_all es d).told → All Peer (keys (sent_all es d).asked) → Narrows n es d
unfolding sent_all note_sent All
narrows n i h [] d l a b = record { reads = tt; told = a; asked = b }
narrows n i h (e ∷ es) d l a b =
    let k = narrows n i h es _ l.1 a b in
    let t = told_back (is_neighbor e.kind e.message) e.peer d.told k.told in
    let s = asked_back (eqb e.kind (kind_byte PendingNeighborRequest)) e.peer e.number d.asked k.asked in
    record {
      reads = (record { neighbor = t.0; timer = λ z. s.0 (eq-eqb e.kind (kind_byte PendingNeighborRequest) z); number = λ z. let q = l.0.0 z in omega (arith, q, h) }, k.reads);
      told = t.1;
      asked = s.1;
    }

-- ---- one record in front of other bytes

module _ (e : Rec) (rest : List ℕ) where
  kind_is : (header_of (encode e ++ rest)).kind ≡ e.kind
  unfolding header_of_by encode_by header_by
  kind_is = refl

  message_is : (header_of (encode e ++ rest)).message ≡ e.message
  unfolding header_of_by encode_by header_by
  message_is = refl

  peer_is : e.peer < peers_end → (header_of (encode e ++ rest)).peer ≡ e.peer
  unfolding header_of_by encode_by header_by le read_le
  peer_is h = omega (arith, h)

  number_is : e.number < numbers_end → (header_of (encode e ++ rest)).number ≡ e.number
  unfolding header_of_by encode_by header_by le read_le
  number_is h = omega (arith, h)

told_same : (b : Bool) (p q : ℕ) (xs : List ℕ) → (b ≡ true → p ≡ q) → choose b (insert p xs) xs ≡ choose b (insert q xs) xs
unfolding choose
told_same true p q xs h = ap (λ (y : ℕ). insert y xs) (h refl)
told_same false p q xs h = refl

asked_same : (b : Bool) (p q n o : ℕ) (m : List (ℕ × ℕ)) → (b ≡ true → p ≡ q) → (b ≡ true → n ≡ o) → choose b (put p n m) m ≡ choose b (put q o m) m
unfolding choose
asked_same true p q n o m h j = ap (λ (y : ℕ). put y n m) (h refl) ∙ ap (λ (y : ℕ). put q y m) (j refl)
asked_same false p q n o m h j = refl

may_same : (b : Bool) (p q : ℕ) (xs : List ℕ) → (b ≡ true → p ≡ q) → choose b (not (mem p xs)) true ≡ choose b (not (mem q xs)) true
unfolding choose
may_same true p q xs h = ap (λ (y : ℕ). not (mem y xs)) (h refl)
may_same false p q xs h = refl

module _ (e : Rec) (rest : List ℕ) (h : Read e) (d : Book) where
  abbrev head : Header
  head = header_of (encode e ++ rest)

  noted : note_item (went head) d ≡ note_sent e.kind e.message e.peer e.number d
  unfolding note_item note_sent
  noted =
      rw (kind_is e rest, message_is e rest)
      (λ i. record {
        told = told_same (is_neighbor e.kind e.message) head.peer e.peer d.told (λ t. peer_is e rest (h.neighbor t)) i;
        asked = asked_same (eqb e.kind (kind_byte PendingNeighborRequest)) head.peer e.peer head.number e.number d.asked
            (λ t. peer_is e rest (h.timer (eqb-true e.kind (kind_byte PendingNeighborRequest) t))) (λ t. number_is e rest (h.number (eqb-true e.kind (kind_byte PendingNeighborRequest) t))) i;
      })

  allowed : may (went head) d ≡ may_send e.kind e.message e.peer d
  unfolding may may_send
  allowed =
      rw (kind_is e rest, message_is e rest)
      (may_same (is_neighbor e.kind e.message) head.peer e.peer d.told (λ t. peer_is e rest (h.neighbor t)))

-- ---- a whole output

abbrev pub items : List ℕ → List Item
items out = map went (headers out)

pub no_items : (zeros : ℕ) → items (replicate zeros 0) ≡ []
unfolding headers
no_items zeros = rw (records_zeros zeros)

one_item : (e : Rec) (rest : List ℕ) → size e < 65536 → items (encode e ++ rest) ≡ went (header_of (encode e ++ rest)) ∷ items rest
unfolding headers
one_item e rest s = ap (λ (bs : List (List ℕ)). map went (map header_of bs)) (records_written e rest s)

-- what is read of the output of records that were written
pub record ReadAs (es : List Rec) (xs : List Item) (d : Book) : Type 0 where
  pub books : book_after xs d ≡ sent_all es d
  pub clean : keeps_book xs d ≡ may_all es d

pub read_all : (es : List Rec) (zeros : ℕ) (d : Book) → length (encode_all es) < 65536 → All Read es → ReadAs es (items (encode_all es ++ replicate zeros 0)) d
unfolding encode_all sent_all may_all All book_after keeps_book
read_all [] zeros d l h = subst (λ (xs : List Item). ReadAs [] xs d) (sym (no_items zeros)) (record { books = refl; clean = refl })
read_all (e ∷ es) zeros d l h =
    let rest : List ℕ = encode_all es ++ replicate zeros 0 in
    let s : size e < 65536 = omega (arith, length-append (encode e) (encode_all es), length_encode e) in
    let n = note_sent e.kind e.message e.peer e.number d in
    let k = read_all es zeros n (omega (arith, length-append (encode e) (encode_all es))) h.1 in
    let q : items (encode_all (e ∷ es) ++ replicate zeros 0) ≡ went (header_of (encode e ++ rest)) ∷ items rest = ap items (append_assoc (encode e) (encode_all es) (replicate zeros 0)) ∙ one_item e rest s in
    subst (λ (xs : List Item). ReadAs (e ∷ es) xs d) (sym q) (record {
      books = ap (book_after (items rest)) (noted e rest h.0 d) ∙ k.books;
      clean = ap (λ (b : Bool). b && keeps_book (items rest) (note_item (went (header_of (encode e ++ rest))) d)) (allowed e rest h.0 d)
          ∙ ap (λ (b : Bool). may_send e.kind e.message e.peer d && b) (ap (keeps_book (items rest)) (noted e rest h.0 d) ∙ k.clean);
    })

-- the timers among them, and no events
pub record Counted (es : List Rec) (xs : List Item) : Type 0 where
  pub set : (k : ℕ) → times_scheduled k xs ≡ kinds k es
  pub gone : (k : ℕ) → times_expired k xs ≡ 0
  pub none : accepted_events xs ≡ 0

pub count_all : (es : List Rec) (zeros : ℕ) → length (encode_all es) < 65536 → Counted es (items (encode_all es ++ replicate zeros 0))
unfolding encode_all kinds times_scheduled times_expired accepted_events
count_all [] zeros l = subst (Counted []) (sym (no_items zeros)) (record { set = λ k. refl; gone = λ k. refl; none = refl })
count_all (e ∷ es) zeros l =
    let rest : List ℕ = encode_all es ++ replicate zeros 0 in
    let s : size e < 65536 = omega (arith, length-append (encode e) (encode_all es), length_encode e) in
    let c = count_all es zeros (omega (arith, length-append (encode e) (encode_all es))) in
    let q : items (encode_all (e ∷ es) ++ replicate zeros 0) ≡ went (header_of (encode e ++ rest)) ∷ items rest = ap items (append_assoc (encode e) (encode_all es) (replicate zeros 0)) ∙ one_item e rest s in
    subst (Counted (e ∷ es)) (sym q) (record {
      set = λ k. ap (λ (n : ℕ). n + times_scheduled k (items rest)) (ap (λ (x : ℕ). is x k) (kind_is e rest)) ∙ ap (λ (n : ℕ). is e.kind k + n) (c.set k);
      gone = c.gone;
      none = c.none;
    })

-- ---- the joins' timers

meets : (x m : ℕ) (b : Bool) (q : ℕ × ℕ) (ws rs : List (ℕ × ℕ)) → Either (Among x m ws) (Among x m (choose b (q ∷ rs) rs)) → Either (Among x m (choose b (q ∷ ws) ws)) (Among x m rs)
unfolding choose
meets x m true q ws rs (left a) = left (later a)
meets x m true q ws rs (right here) = left here
meets x m true q ws rs (right (later a)) = right a
meets x m false q ws rs (left a) = left a
meets x m false q ws rs (right a) = right a

pair_same : (b : Bool) (p q n o : ℕ) (ws : List (ℕ × ℕ)) → (b ≡ true → p ≡ q) → (b ≡ true → n ≡ o) → choose b ((p, n) ∷ ws) ws ≡ choose b ((q, o) ∷ ws) ws
unfolding choose
pair_same true p q n o ws h j = ap (λ (y : ℕ). (y, n) ∷ ws) (h refl) ∙ ap (λ (y : ℕ). (q, y) ∷ ws) (j refl)
pair_same false p q n o ws h j = refl

some_long : (x m : ℕ) (ws : List (ℕ × ℕ)) → Among x m ws → 1 ≤ length ws
some_long x m [] a = elim a [ ]
some_long x m (w ∷ ws) a = omega arith

pub retries_read : (n i : ℕ) → i ≤ numbers_end → (es : List Rec) (zeros : ℕ) → length (encode_all es) < 65536 → All (Low n i) es
    → (x m : ℕ) (ws : List (ℕ × ℕ)) → Either (Among x m ws) (Among x m (retries es)) → Among x m (waiting (kind_byte RetryJoin) (items (encode_all es ++ replicate zeros 0)) ws)
unfolding encode_all retries waiting All
retries_read n i top [] zeros l h x m ws a = subst (λ (xs : List Item). Among x m (waiting (kind_byte RetryJoin) xs ws)) (sym (no_items zeros)) (only a)
  where
    only : Either (Among x m ws) (Among x m []) → Among x m ws
    only (left a) = a
    only (right a) = absurd (omega (arith, some_long x m [] a))
retries_read n i top (e ∷ es) zeros l h x m ws a =
    let rest : List ℕ = encode_all es ++ replicate zeros 0 in
    let s : size e < 65536 = omega (arith, length-append (encode e) (encode_all es), length_encode e) in
    let head = header_of (encode e ++ rest) in
    let q : items (encode_all (e ∷ es) ++ replicate zeros 0) ≡ went head ∷ items rest = ap items (append_assoc (encode e) (encode_all es) (replicate zeros 0)) ∙ one_item e rest s in
    let k : choose (eqb head.kind 4) ((head.peer, head.number) ∷ ws) ws ≡ choose (eqb e.kind (kind_byte RetryJoin)) ((e.peer, e.number) ∷ ws) ws =
    ap (λ (y : ℕ). choose (eqb y 4) ((head.peer, head.number) ∷ ws) ws) (kind_is e rest)
    ∙ pair_same (eqb e.kind (kind_byte RetryJoin)) head.peer e.peer head.number e.number ws
    (λ t. peer_is e rest (h.0.1 (eqb-true e.kind (kind_byte RetryJoin) t)).0) (λ t. let b = (h.0.1 (eqb-true e.kind (kind_byte RetryJoin) t)).1 in number_is e rest (omega (arith, b, top))) in
    subst (λ (xs : List Item). Among x m (waiting (kind_byte RetryJoin) xs ws)) (sym q)
    (subst (λ (ys : List (ℕ × ℕ)). Among x m (waiting (kind_byte RetryJoin) (items rest) ys)) (sym k)
    (retries_read n i top es zeros (omega (arith, length-append (encode e) (encode_all es))) h.1 x m _ (meets x m (eqb e.kind (kind_byte RetryJoin)) (e.peer, e.number) ws (retries es) a)))
