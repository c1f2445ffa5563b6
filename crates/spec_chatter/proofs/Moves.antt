-- What each step writes, as records: plain ones, which the book passes over, and Neighbor messages with their timers, as the station opens requests.
-- Assumes nothing.
use mathlib.Core.Path.{◌≡◌, refl, sym, ap, subst, ◌∙◌}
use mathlib.Core.Bool.{Bool, true, false, cond, not, ◌&&◌}
use mathlib.Core.List.{List, [], ◌∷◌, ◌++◌, append_assoc, append-nil}
use mathlib.Core.Option.{some}
use Prim.Native.Nat.{ℕ, ◌+◌, ◌≤◌, ◌<◌}
use native.Mathlib.Omega.{arith}
use lib.Dec.{leb, eqb}
use borrow.Author.Tests.{leb-true, eq-eqb, ne_eqb}
use Rattle.base_lists.specs.Lists.{choose, is, mem, insert}
use Rattle.base_lists.specs.Maps.{keys, lookup, put}
use Rattle.base_lists.specs.Tests.{All}
use Rattle.base_lists.proofs.Choice.{by_choice, choose_yes, choose_no, clash}
use Rattle.base_lists.proofs.Maps.{keys_put}
use Rattle.record.specs.Format.{Rec, encode}
use Rattle.base_peer.specs.Data.{Data}
use Rattle.base_timing.specs.Timing.{join_retry_delay}
use Rattle.base_timing.specs.declared.Config.{Config}
use Rattle.record.specs.Kinds.{Message, DoShuffle, DoMaintenance, PendingNeighborRequest, RetryJoin, kind_byte}
use Rattle.spec_hyparview.specs.Station.{Station, is_requested, peers_end}
use Rattle.spec_hyparview.specs.Run as R
use Rattle.spec_hyparview.specs.Run.{Run, guard, on, emit, draw, require, emit_all}
use Rattle.spec_hyparview.specs.Sending as S
use Rattle.spec_hyparview.specs.Events as E
use Rattle.spec_hyparview.specs.Written.{encode_all}
use Rattle.spec_hyparview.proofs.Among.{all_append}
use Rattle.spec_hyparview.proofs.Keeping.{Plain, six, ten, draw_station, draw_fine, emit_station, emit_fine, on_code, require_fine}
use Rattle.spec_hyparview.proofs.Entering.{on_same}
use Rattle.spec_history.proofs.Ticks.{emit_out, draw_out, on_out}
use Rattle.spec_chatter.proofs.Book.{Book, is_neighbor, note_sent, may_send}
use Rattle.spec_chatter.specs.Claims.{Among, here, later}
use Rattle.spec_chatter.proofs.Lists.{Either, left, right, look_put}

pub encode_all_append : (a b : List Rec) → encode_all (a ++ b) ≡ encode_all a ++ encode_all b
unfolding encode_all
encode_all_append [] b = refl
encode_all_append (e ∷ es) b = rw (encode_all_append es b) (sym (append_assoc (encode e) (encode_all es) (encode_all b)))

-- the book after records, the oldest first
unfoldable pub sent_all : List Rec → Book → Book
sent_all [] d = d
sent_all (e ∷ es) d = sent_all es (note_sent e.kind e.message e.peer e.number d)

unfoldable pub may_all : List Rec → Book → Bool
may_all [] d = true
may_all (e ∷ es) d = may_send e.kind e.message e.peer d && may_all es (note_sent e.kind e.message e.peer e.number d)

-- how many are of kind k
unfoldable pub kinds : ℕ → List Rec → ℕ
kinds k [] = 0
kinds k (e ∷ es) = is e.kind k + kinds k es

pub sent_append : (a b : List Rec) (d : Book) → sent_all (a ++ b) d ≡ sent_all b (sent_all a d)
unfolding sent_all
sent_append [] b d = refl
sent_append (e ∷ es) b d = sent_append es b _

and_assoc : (a b c : Bool) → ((a && b) && c) ≡ (a && (b && c))
and_assoc true b c = refl
and_assoc false b c = refl

pub may_append : (a b : List Rec) (d : Book) → may_all (a ++ b) d ≡ (may_all a d && may_all b (sent_all a d))
unfolding may_all sent_all
may_append [] b d = refl
may_append (e ∷ es) b d = ap (λ (x : Bool). may_send e.kind e.message e.peer d && x) (may_append es b _) ∙ sym (and_assoc (may_send e.kind e.message e.peer d) _ _)

pub kinds_append : (k : ℕ) (a b : List Rec) → kinds k (a ++ b) ≡ kinds k a + kinds k b
unfolding kinds
kinds_append k [] b = omega arith
kinds_append k (e ∷ es) b = omega (arith, kinds_append k es b)

-- a message but a Neighbor, or a notice or peer data
abbrev pub plain : Rec → Bool
plain e = cond (eqb e.kind (kind_byte Message)) (not (eqb e.message 4)) (leb 5 e.kind)

abbrev pub Plains : List Rec → Type 0
Plains es = All (λ e. plain e ≡ true) es

-- what a plain record is
record Passed (e : Rec) : Type 0 where
  not_neighbor : is_neighbor e.kind e.message ≡ false
  not_one : e.kind ≡ kind_byte DoShuffle → ⊥
  not_two : e.kind ≡ kind_byte DoMaintenance → ⊥
  not_three : e.kind ≡ kind_byte PendingNeighborRequest → ⊥
  not_four : e.kind ≡ kind_byte RetryJoin → ⊥

not_no : (b : Bool) → not b ≡ true → b ≡ false
not_no true e = sym e
not_no false e = refl

by_kind : (a b c : Bool) → cond a (not b) c ≡ true → (a && b) ≡ false
by_kind true b c e = not_no b e
by_kind false b c e = refl

kind_else : (a b c : Bool) → cond a (not b) c ≡ true → a ≡ false → c ≡ true
kind_else true b c e f = clash true refl f
kind_else false b c e f = e

passed : (e : Rec) → plain e ≡ true → Passed e
unfolding is_neighbor
passed e h =
    let four : (e.kind ≡ kind_byte Message → ⊥) → 5 ≤ e.kind = (λ n. leb-true 5 e.kind (kind_else (eqb e.kind (kind_byte Message)) (eqb e.message 4) (leb 5 e.kind) h (ne_eqb e.kind (kind_byte Message) n))) in
    record {
      not_neighbor = by_kind (eqb e.kind (kind_byte Message)) (eqb e.message 4) (leb 5 e.kind) h;
      not_one = λ z. let w = four (λ y. omega (arith, y, z)) in omega (arith, w, z);
      not_two = λ z. let w = four (λ y. omega (arith, y, z)) in omega (arith, w, z);
      not_three = λ z. let w = four (λ y. omega (arith, y, z)) in omega (arith, w, z);
      not_four = λ z. let w = four (λ y. omega (arith, y, z)) in omega (arith, w, z);
    }

pass_one : (e : Rec) (d : Book) → Passed e → note_sent e.kind e.message e.peer e.number d ≡ d
unfolding note_sent
pass_one e d h = rw (h.not_neighbor, ne_eqb e.kind (kind_byte PendingNeighborRequest) h.not_three) (same_book d)
  where
    same_book : (d : Book) → ◌≡◌ {A = Book} (record { told = choose false (insert e.peer d.told) d.told; asked = choose false (put e.peer e.number d.asked) d.asked }) d
    same_book d = λ i. record { told = choose_no false (insert e.peer d.told) d.told refl i; asked = choose_no false (put e.peer e.number d.asked) d.asked refl i }

pass_all : (es : List Rec) (d : Book) → Plains es → sent_all es d ≡ d
unfolding sent_all All
pass_all [] d h = refl
pass_all (e ∷ es) d h = ap (sent_all es) (pass_one e d (passed e h.0)) ∙ pass_all es d h.1

pass_may : (es : List Rec) (d : Book) → Plains es → may_all es d ≡ true
unfolding may_all may_send All
pass_may [] d h = refl
pass_may (e ∷ es) d h =
    rw (choose_no (is_neighbor e.kind e.message) (not (mem e.peer d.told)) true (passed e h.0).not_neighbor, pass_one e d (passed e h.0)) (pass_may es d h.1)

is_other : (x k : ℕ) → (x ≡ k → ⊥) → is x k ≡ 0
unfolding is
is_other x k n = rw (ne_eqb x k n)

pass_ones : (es : List Rec) → Plains es → kinds (kind_byte DoShuffle) es ≡ 0
unfolding kinds All
pass_ones [] h = refl
pass_ones (e ∷ es) h = omega (arith, is_other e.kind 1 (passed e h.0).not_one, pass_ones es h.1)

pass_twos : (es : List Rec) → Plains es → kinds (kind_byte DoMaintenance) es ≡ 0
unfolding kinds All
pass_twos [] h = refl
pass_twos (e ∷ es) h = omega (arith, is_other e.kind 2 (passed e h.0).not_two, pass_twos es h.1)

-- the output grew by records
pub record Adds (es : List Rec) (x y : List ℕ) : Type 0 where
  pub is : y ≡ x ++ encode_all es

pub adds_none : (x : List ℕ) → Adds [] x x
unfolding encode_all
adds_none x = record { is = sym (append-nil x) }

pub adds_more : {a b : List Rec} {x y z : List ℕ} → Adds a x y → Adds b y z → Adds (a ++ b) x z
adds_more {a} {b} {x} k l = record {
  is = l.is ∙ (ap (λ (w : List ℕ). w ++ encode_all b) k.is ∙ (append_assoc x (encode_all a) (encode_all b) ∙ ap (λ (w : List ℕ). x ++ w) (sym (encode_all_append a b))));
}

adds_one : (e : Rec) (r : Run) → (emit e r).code ≡ 0 → Adds (e ∷ []) r.out (emit e r).out
unfolding encode_all
adds_one e r z = record { is = emit_out e r z ∙ ap (λ (w : List ℕ). r.out ++ w) (sym (append-nil (encode e))) }

-- the requests, the next number, and whether timers are scheduled
abbrev pub desk : Station → List (ℕ × ℕ) × (ℕ × (Bool × ℕ))
desk s = (s.requests, (s.next_request, (s.scheduled, s.next_join)))

-- the shuffle's next interval, and the settings that bound it
abbrev pub pace : Station → ℕ × Config
pace s = (s.next_interval, s.config)

-- both, and the same with the joins awaiting retry
abbrev pub held : Station → (List (ℕ × ℕ) × (ℕ × (Bool × ℕ))) × (ℕ × Config)
held s = (desk s, pace s)

abbrev pub full : Station → ((List (ℕ × ℕ) × (ℕ × (Bool × ℕ))) × (ℕ × Config)) × List (ℕ × ℕ)
full s = (held s, s.joins)

-- all but the pace
abbrev full_but_interval : Station → (List (ℕ × ℕ) × (ℕ × (Bool × ℕ))) × List (ℕ × ℕ)
full_but_interval s = (desk s, s.joins)

-- no step changes the draws lent
emit_lent : (e : Rec) (r : Run) → (emit e r).draws ≡ r.draws
unfolding emit guard
emit_lent e r =
    by_choice (λ (w : Run). w.draws ≡ r.draws) (eqb r.code 0)
    (λ f. by_choice (λ (w : Run). w.draws ≡ r.draws) _ (λ i. refl) (λ i. refl)) (λ f. refl)

draw_lent : (n : ℕ) (r : Run) → (draw n r).draws ≡ r.draws
unfolding draw guard
draw_lent n r =
    by_choice (λ (w : Run). w.draws ≡ r.draws) (eqb r.code 0)
    (λ f. by_choice (λ (w : Run). w.draws ≡ r.draws) _ (λ i. refl) (λ i. refl)) (λ f. refl)

pub on_lent : (f : Station → Station) (r : Run) → (on f r).draws ≡ r.draws
unfolding on guard
on_lent f r = by_choice (λ (w : Run). w.draws ≡ r.draws) (eqb r.code 0) (λ e. refl) (λ e. refl)

-- each join awaiting retry was there before
abbrev pub Fewer : List (ℕ × ℕ) → List (ℕ × ℕ) → Type 0
Fewer m l = (p n : ℕ) → lookup p m ≡ some n → lookup p l ≡ some n

-- from run r to run w, where w is not refused: plain records only, desk and pace as they were
pub record Still (r w : Run) : Type 0 where
  pub fine : r.code ≡ 0
  pub lent : w.draws ≡ r.draws
  pub same_pace : pace w.station ≡ pace r.station
  pub records : List Rec
  pub adds : Adds records r.out w.out
  pub plains : Plains records
  pub same_desk : desk w.station ≡ desk r.station
  pub fewer : Fewer w.station.joins r.station.joins

pub record Quiet (r w : Run) : Type 0 where
  pub so : w.code ≡ 0 → Still r w

pub same : (r : Run) → Quiet r r
unfolding All
same r = record { so = λ z. record { fine = z; lent = refl; same_pace = refl; records = []; adds = adds_none r.out; plains = tt; same_desk = refl; fewer = λ p n e. e } }

pub then : {r w v : Run} → Quiet r w → Quiet w v → Quiet r v
then g h = record {
  so = λ z. let b = h.so z in let a = g.so b.fine in record {
    fine = a.fine;
    lent = b.lent ∙ a.lent;
    same_pace = b.same_pace ∙ a.same_pace;
    records = a.records ++ b.records;
    adds = adds_more a.adds b.adds;
    plains = all_append (λ e. plain e ≡ true) a.records b.records a.plains b.plains;
    same_desk = b.same_desk ∙ a.same_desk;
    fewer = λ p n e. a.fewer p n (b.fewer p n e);
  };
}

pub either : {r w v : Run} (b : Bool) → Quiet r w → Quiet r v → Quiet r (choose b w v)
either {r} b g h = by_choice (Quiet r) b (λ e. g) (λ e. h)

-- the same station
as_before : {s t : Station} → s ≡ t → Fewer s.joins t.joins
as_before e p n h = subst (λ (x : Station). lookup p x.joins ≡ some n) e h

pub emits : (e : Rec) → plain e ≡ true → (r : Run) → Quiet r (emit e r)
unfolding All
emits e k r = record {
  so = λ z. record { fine = emit_fine e r z; lent = emit_lent e r; same_pace = ap pace (emit_station e r); records = e ∷ []; adds = adds_one e r z; plains = (k, tt); same_desk = ap desk (emit_station e r); fewer = as_before (emit_station e r) };
}

pub draws : (n : ℕ) (r : Run) → Quiet r (draw n r)
unfolding All
draws n r = record {
  so = λ z. record { fine = draw_fine n r z; lent = draw_lent n r; same_pace = ap pace (draw_station n r); records = []; adds = subst (Adds [] r.out) (sym (draw_out n r)) (adds_none r.out); plains = tt; same_desk = ap desk (draw_station n r); fewer = as_before (draw_station n r) };
}

pub chooses : (n : ℕ) (r : Run) → Quiet r (R.draw_one_of n r)
unfolding R.draw_one_of
chooses n r = draws _ r

pub on_station : (f : Station → Station) (r : Run) → r.code ≡ 0 → (on f r).station ≡ f r.station
unfolding on guard
on_station f r z = ap (λ (w : Run). w.station) (choose_yes (eqb r.code 0) _ _ (eq-eqb r.code 0 z))

-- a change that may drop joins
pub drops : (f : Station → Station) → ((s : Station) → held (f s) ≡ held s) → ((s : Station) → Fewer (f s).joins s.joins) → (r : Run) → Quiet r (on f r)
unfolding All
drops f h j r = record {
  so = λ z. let y : r.code ≡ 0 = subst (λ (c : ℕ). c ≡ 0) (on_code f r) z in record {
    fine = y;
    lent = on_lent f r;
    same_pace = ap (λ (x : (List (ℕ × ℕ) × (ℕ × (Bool × ℕ))) × (ℕ × Config)). x.1) (on_same held f h r);
    records = [];
    adds = subst (Adds [] r.out) (sym (on_out f r)) (adds_none r.out);
    plains = tt;
    same_desk = ap (λ (x : (List (ℕ × ℕ) × (ℕ × (Bool × ℕ))) × (ℕ × Config)). x.0) (on_same held f h r);
    fewer = λ p n e. j r.station p n (as_before (on_station f r y) p n e);
  };
}

pub changes : (f : Station → Station) → ((s : Station) → full (f s) ≡ full s) → (r : Run) → Quiet r (on f r)
changes f h r =
    drops f (λ s. ap (λ (x : ((List (ℕ × ℕ) × (ℕ × (Bool × ℕ))) × (ℕ × Config)) × List (ℕ × ℕ)). x.0) (h s))
    (λ s p n e. subst (λ (x : List (ℕ × ℕ)). lookup p x ≡ some n) (ap (λ (x : ((List (ℕ × ℕ) × (ℕ × (Bool × ℕ))) × (ℕ × Config)) × List (ℕ × ℕ)). x.1) (h s)) e) r

pub requires : {c : ℕ} → Plain c → (test : Bool) (r : Run) → Quiet r (require c test r)
requires {c} p test r = record {
  so = λ z. let e = require_fine p test r z in
      subst (Still r) (sym e.0) ((same r).so (subst (λ (w : Run). w.code ≡ 0) e.0 z));
}

pub emits_all : (f : ℕ → Rec) → ((p : ℕ) → plain (f p) ≡ true) → (ps : List ℕ) (r : Run) → Quiet r (emit_all f ps r)
unfolding emit_all
emits_all f k [] r = same r
emits_all f k (p ∷ ps) r = then (emits (f p) (k p) r) (emits_all f k ps (emit (f p) r))

-- ---- with requests

abbrev pub book_of : Station → Book
book_of s = record { told = keys s.requests; asked = s.requests }

abbrev pub Low : ℕ → ℕ → Rec → Type 0
Low n k e = (e.kind ≡ kind_byte PendingNeighborRequest → e.number < n) × (e.kind ≡ kind_byte RetryJoin → (e.peer < peers_end) × (e.number < k))

-- the joins' timers among records
unfoldable pub retries : List Rec → List (ℕ × ℕ)
retries [] = []
retries (e ∷ es) = choose (eqb e.kind (kind_byte RetryJoin)) ((e.peer, e.number) ∷ retries es) (retries es)

retries_append : (a b : List Rec) → retries (a ++ b) ≡ retries a ++ retries b
unfolding retries
retries_append [] b = refl
retries_append (e ∷ es) b = rw (retries_append es b) (by_kind_four (eqb e.kind (kind_byte RetryJoin)))
  where
    by_kind_four : (t : Bool) → choose t ((e.peer, e.number) ∷ (retries es ++ retries b)) (retries es ++ retries b) ≡ choose t ((e.peer, e.number) ∷ retries es) (retries es) ++ retries b
    by_kind_four true = choose_yes true _ _ refl ∙ ap (λ (l : List (ℕ × ℕ)). l ++ retries b) (sym (choose_yes true _ _ refl))
    by_kind_four false = choose_no false _ _ refl ∙ ap (λ (l : List (ℕ × ℕ)). l ++ retries b) (sym (choose_no false _ _ refl))

among_left : (p n : ℕ) (xs ys : List (ℕ × ℕ)) → Among p n xs → Among p n (xs ++ ys)
among_left p n [] ys a = elim a [ ]
among_left p n (x ∷ xs) ys here = here
among_left p n (x ∷ xs) ys (later a) = later (among_left p n xs ys a)

among_right : (p n : ℕ) (xs ys : List (ℕ × ℕ)) → Among p n ys → Among p n (xs ++ ys)
among_right p n [] ys a = a
among_right p n (x ∷ xs) ys a = later (among_right p n xs ys a)

-- a join awaiting retry was so before, or its timer was written
abbrev pub Awaited : List Rec → List (ℕ × ℕ) → List (ℕ × ℕ) → Type 0
Awaited es m l = (p n : ℕ) → lookup p m ≡ some n → Either (lookup p l ≡ some n) (Among p n (retries es))

pub await_then : (a b : List Rec) (x y z : List (ℕ × ℕ)) → Awaited a y x → Awaited b z y → Awaited (a ++ b) z x
await_then a b x y z f g p n e = go (g p n e)
  where
    sooner : Either (lookup p x ≡ some n) (Among p n (retries a)) → Either (lookup p x ≡ some n) (Among p n (retries (a ++ b)))
    sooner (left q) = left q
    sooner (right q) = right (subst (Among p n) (sym (retries_append a b)) (among_left p n (retries a) (retries b) q))

    go : Either (lookup p y ≡ some n) (Among p n (retries b)) → Either (lookup p x ≡ some n) (Among p n (retries (a ++ b)))
    go (left q) = sooner (f p n q)
    go (right q) = right (subst (Among p n) (sym (retries_append a b)) (among_right p n (retries a) (retries b) q))

pub none_new : (es : List Rec) (m l : List (ℕ × ℕ)) → Fewer m l → Awaited es m l
none_new es m l f p n e = left (f p n e)

-- from run r, whose book an event changed by f, to w: a shuffle timers and b maintenance timers are scheduled
pub record Turn (f : Book → Book) (a b : ℕ) (r w : Run) : Type 0 where
  pub fine : r.code ≡ 0
  pub lent : w.draws ≡ r.draws
  pub same_pace : a ≡ 0 → pace w.station ≡ pace r.station
  pub records : List Rec
  pub adds : Adds records r.out w.out
  pub books : sent_all records (f (book_of r.station)) ≡ book_of w.station
  pub clean : may_all records (f (book_of r.station)) ≡ true
  pub shuffles : kinds (kind_byte DoShuffle) records ≡ a
  pub passes : kinds (kind_byte DoMaintenance) records ≡ b
  pub rises : r.station.next_request ≤ w.station.next_request
  pub low : All (Low w.station.next_request w.station.next_join) records
  pub joins_rise : r.station.next_join ≤ w.station.next_join
  pub awaited : Awaited records w.station.joins r.station.joins
  pub mark : w.station.scheduled ≡ r.station.scheduled

abbrev pub nothing : Book → Book
nothing d = d

pub record Moves (f : Book → Book) (a b : ℕ) (r w : Run) : Type 0 where
  pub so : w.code ≡ 0 → Turn f a b r w

lows_plain : (n k : ℕ) (es : List Rec) → Plains es → All (Low n k) es
unfolding All
lows_plain n k [] h = tt
lows_plain n k (e ∷ es) h = (((λ z. absurd ((passed e h.0).not_three z)), (λ z. absurd ((passed e h.0).not_four z))), lows_plain n k es h.1)

pub lows_more : (n k i j : ℕ) (es : List Rec) → n ≤ k → i ≤ j → All (Low n i) es → All (Low k j) es
unfolding All
lows_more n k i j [] l o h = tt
lows_more n k i j (e ∷ es) l o h = (
  ((λ z. let y = h.0.0 z in omega (arith, y, l)), (λ z. let y = h.0.1 z in (y.0, omega (arith, y.1, o)))),
  lows_more n k i j es l o h.1,
)

abbrev book_in : List (ℕ × ℕ) × (ℕ × (Bool × ℕ)) → Book
book_in d = record { told = keys d.0; asked = d.0 }

pub quietly : {r w : Run} → Quiet r w → Moves nothing 0 0 r w
quietly {r} {w} q = record {
  so = λ z. let k = q.so z in record {
    fine = k.fine;
    lent = k.lent;
    same_pace = λ _. k.same_pace;
    records = k.records;
    adds = k.adds;
    books = pass_all k.records (book_of r.station) k.plains ∙ sym (ap book_in k.same_desk);
    clean = pass_may k.records (book_of r.station) k.plains;
    shuffles = pass_ones k.records k.plains;
    passes = pass_twos k.records k.plains;
    rises = let e : w.station.next_request ≡ r.station.next_request = ap (λ (d : List (ℕ × ℕ) × (ℕ × (Bool × ℕ))). d.1.0) k.same_desk in omega (arith, e);
    low = lows_plain _ _ k.records k.plains;
    joins_rise = let e : w.station.next_join ≡ r.station.next_join = ap (λ (d : List (ℕ × ℕ) × (ℕ × (Bool × ℕ))). d.1.1.1) k.same_desk in omega (arith, e);
    awaited = none_new k.records _ _ k.fewer;
    mark = ap (λ (d : List (ℕ × ℕ) × (ℕ × (Bool × ℕ))). d.1.1.0) k.same_desk;
  };
}

pub after : {f : Book → Book} {a b c d : ℕ} {r w v : Run} → Moves f a b r w → Moves nothing c d w v → Moves f (a + c) (b + d) r v
after {f} {r = r} {w} {v} g h = record {
  so = λ z. let y = h.so z in let x = g.so y.fine in
      let d = f (book_of r.station) in
      record {
        fine = x.fine;
        lent = y.lent ∙ x.lent;
        same_pace = λ e. y.same_pace (omega (arith, e)) ∙ x.same_pace (omega (arith, e));
        records = x.records ++ y.records;
        adds = adds_more x.adds y.adds;
        books = sent_append x.records y.records d ∙ (ap (sent_all y.records) x.books ∙ y.books);
        clean = may_append x.records y.records d ∙ (ap (λ (t : Bool). t && may_all y.records (sent_all x.records d)) x.clean ∙ (ap (may_all y.records) x.books ∙ y.clean));
        shuffles = omega (arith, kinds_append 1 x.records y.records, x.shuffles, y.shuffles);
        passes = omega (arith, kinds_append 2 x.records y.records, x.passes, y.passes);
        rises = omega (arith, x.rises, y.rises);
        low = all_append (Low v.station.next_request v.station.next_join) x.records y.records (lows_more _ _ _ _ x.records y.rises y.joins_rise x.low) y.low;
        joins_rise = omega (arith, x.joins_rise, y.joins_rise);
        awaited = await_then x.records y.records _ _ _ x.awaited y.awaited;
        mark = y.mark ∙ x.mark;
      };
}

pub or_else : {f : Book → Book} {a b : ℕ} {r w v : Run} (t : Bool) → Moves f a b r w → Moves f a b r v → Moves f a b r (choose t w v)
or_else {f} {a} {b} {r} t g h = by_choice (Moves f a b r) t (λ e. g) (λ e. h)

-- plain steps before the event changes the book
pub before : {f : Book → Book} {a b : ℕ} {r w v : Run} → Quiet r w → Moves f a b w v → Moves f a b r v
before {f} {a} {b} {r} {w} {v} q h = record {
  so = λ z. let y = h.so z in let k = q.so y.fine in
      let d = f (book_of r.station) in
      let e : f (book_of w.station) ≡ d = ap (λ (x : List (ℕ × ℕ) × (ℕ × (Bool × ℕ))). f (book_in x)) k.same_desk in
      let n : w.station.next_request ≡ r.station.next_request = ap (λ (x : List (ℕ × ℕ) × (ℕ × (Bool × ℕ))). x.1.0) k.same_desk in
      let p : sent_all k.records d ≡ f (book_of w.station) = pass_all k.records d k.plains ∙ sym e in
      record {
        fine = k.fine;
        lent = y.lent ∙ k.lent;
        same_pace = λ e. y.same_pace e ∙ k.same_pace;
        records = k.records ++ y.records;
        adds = adds_more k.adds y.adds;
        books = sent_append k.records y.records d ∙ (ap (sent_all y.records) p ∙ y.books);
        clean = may_append k.records y.records d ∙ (ap (λ (t : Bool). t && may_all y.records (sent_all k.records d)) (pass_may k.records d k.plains) ∙ (ap (may_all y.records) p ∙ y.clean));
        shuffles = omega (arith, kinds_append 1 k.records y.records, pass_ones k.records k.plains, y.shuffles);
        passes = omega (arith, kinds_append 2 k.records y.records, pass_twos k.records k.plains, y.passes);
        rises = omega (arith, n, y.rises);
        low = all_append (Low v.station.next_request v.station.next_join) k.records y.records (lows_plain _ _ k.records k.plains) y.low;
        joins_rise = let o : w.station.next_join ≡ r.station.next_join = ap (λ (x : List (ℕ × ℕ) × (ℕ × (Bool × ℕ))). x.1.1.1) k.same_desk in omega (arith, o, y.joins_rise);
        awaited = await_then k.records y.records _ _ _ (none_new k.records _ _ k.fewer) y.awaited;
        mark = y.mark ∙ ap (λ (x : List (ℕ × ℕ) × (ℕ × (Bool × ℕ))). x.1.1.0) k.same_desk;
      };
}

-- the change by which the station follows the event
pub opening : (f : Book → Book) (g : Station → Station) → ((s : Station) → book_of (g s) ≡ f (book_of s)) → ((s : Station) → ◌≡◌ {A = ℕ × (Bool × (ℕ × List (ℕ × ℕ)))} ((g s).next_request, ((g s).scheduled, ((g s).next_join, (g s).joins))) (s.next_request, (s.scheduled, (s.next_join, s.joins)))) → ((s : Station) → pace (g s) ≡ pace s) → (r : Run) → Moves f 0 0 r (on g r)
unfolding All sent_all may_all kinds
opening f g h j t r = record {
  so = λ z. let y : r.code ≡ 0 = subst (λ (c : ℕ). c ≡ 0) (on_code g r) z in
      let k = on_station g r y in
      let i = on_same (λ s. (s.next_request, (s.scheduled, (s.next_join, s.joins)))) g j r in
      record {
        fine = y;
        lent = on_lent g r;
        same_pace = λ _. on_same pace g t r;
        records = [];
        adds = subst (Adds [] r.out) (sym (on_out g r)) (adds_none r.out);
        books = sym (ap book_of k ∙ h r.station);
        clean = refl;
        shuffles = refl;
        passes = refl;
        rises = let n : (on g r).station.next_request ≡ r.station.next_request = ap (λ (x : ℕ × (Bool × (ℕ × List (ℕ × ℕ)))). x.0) i in omega (arith, n);
        low = tt;
        joins_rise = let n : (on g r).station.next_join ≡ r.station.next_join = ap (λ (x : ℕ × (Bool × (ℕ × List (ℕ × ℕ)))). x.1.1.0) i in omega (arith, n);
        awaited = λ p n e. left (subst (λ (x : List (ℕ × ℕ)). lookup p x ≡ some n) (ap (λ (x : ℕ × (Bool × (ℕ × List (ℕ × ℕ)))). x.1.1.1) i) e);
        mark = ap (λ (x : ℕ × (Bool × (ℕ × List (ℕ × ℕ)))). x.1.0) i;
      };
}

-- the same change of the book, and the same counts
pub taken : {f g : Book → Book} {a b c d : ℕ} {r w : Run} → ((x : Book) → f x ≡ g x) → a ≡ c → b ≡ d → Moves f a b r w → Moves g c d r w
taken {f} {g} {r = r} {w} e p q m = record {
  so = λ z. let k = m.so z in record {
    fine = k.fine;
    lent = k.lent;
    same_pace = λ y. k.same_pace (p ∙ y);
    records = k.records;
    adds = k.adds;
    books = ap (sent_all k.records) (sym (e (book_of r.station))) ∙ k.books;
    clean = ap (may_all k.records) (sym (e (book_of r.station))) ∙ k.clean;
    shuffles = k.shuffles ∙ p;
    passes = k.passes ∙ q;
    rises = k.rises;
    low = k.low;
    joins_rise = k.joins_rise;
    awaited = k.awaited;
    mark = k.mark;
  };
}

-- ---- a request: send_neighbor where none is open

noted_book : (p t : ℕ) (x : Data) (high : Bool) (s : Station) → sent_all (S.neighbor_to x high p ∷ R.timer (kind_byte PendingNeighborRequest) p t s.next_request ∷ []) (book_of s) ≡ book_of (S.note_request p s)
unfolding sent_all note_sent is_neighbor choose S.neighbor_to S.note_request
noted_book p t x high s = ap (λ (l : List ℕ). record { told = l; asked = put p s.next_request s.requests }) (sym (keys_put p s.next_request s.requests))

noted_may : (p t : ℕ) (x : Data) (high : Bool) (s : Station) → mem p (keys s.requests) ≡ false → may_all (S.neighbor_to x high p ∷ R.timer (kind_byte PendingNeighborRequest) p t s.next_request ∷ []) (book_of s) ≡ true
unfolding may_all may_send note_sent is_neighbor choose S.neighbor_to
noted_may p t x high s e = rw e

noted_next : (p : ℕ) (s : Station) → (S.note_request p s).next_request ≡ s.next_request + 1
unfolding S.note_request
noted_next p s = refl

noted_pace : (p : ℕ) (s : Station) → pace (S.note_request p s) ≡ pace s
unfolding S.note_request
noted_pace p s = refl

noted_mark : (p : ℕ) (s : Station) → (S.note_request p s).scheduled ≡ s.scheduled
unfolding S.note_request
noted_mark p s = refl

noted_joins : (p : ℕ) (s : Station) → ((S.note_request p s).next_join ≡ s.next_join) × ((S.note_request p s).joins ≡ s.joins)
unfolding S.note_request
noted_joins p s = (refl, refl)

-- the two records, from a run whose station noted the request
told_request : (p : ℕ) (high : Bool) (r : Run) → mem p (keys r.station.requests) ≡ false → Moves nothing 0 0 r (S.tell_request p high r.station.next_request (on (S.note_request p) r))
unfolding S.tell_request All kinds is S.neighbor_to
told_request p high r e = record {
  so = λ z.
      let v = on (S.note_request p) r in
      let n = S.neighbor_to v.station.own_data high p in
      let t = R.timer (kind_byte PendingNeighborRequest) p v.station.config.neighbor_request_timeout r.station.next_request in
      let y = emit_fine t (emit n v) z in
      let x : r.code ≡ 0 = subst (λ (c : ℕ). c ≡ 0) (on_code (S.note_request p) r) (emit_fine n v y) in
      let k : (emit t (emit n v)).station ≡ S.note_request p r.station = emit_station t (emit n v) ∙ (emit_station n v ∙ on_station (S.note_request p) r x) in
      let next : (emit t (emit n v)).station.next_request ≡ r.station.next_request + 1 = ap (λ (s : Station). s.next_request) k ∙ noted_next p r.station in
      record {
        fine = x;
        lent = emit_lent t (emit n v) ∙ (emit_lent n v ∙ on_lent (S.note_request p) r);
        same_pace = λ _. ap pace k ∙ noted_pace p r.station;
        records = n ∷ t ∷ [];
        adds = adds_more (subst (λ (l : List ℕ). Adds (n ∷ []) l (emit n v).out) (on_out (S.note_request p) r) (adds_one n v y)) (adds_one t (emit n v) z);
        books = noted_book p _ v.station.own_data high r.station ∙ sym (ap book_of k);
        clean = noted_may p _ v.station.own_data high r.station e;
        shuffles = refl;
        passes = refl;
        rises = omega (arith, next);
        low = (((λ q. absurd (omega (arith, q))), (λ q. absurd (omega (arith, q)))), (((λ q. omega (arith, next)), (λ q. absurd (omega (arith, q)))), tt));
        joins_rise = let o : (emit t (emit n v)).station.next_join ≡ r.station.next_join = ap (λ (s : Station). s.next_join) k ∙ (noted_joins p r.station).0 in omega (arith, o);
        awaited = λ i j h. left (subst (λ (x : List (ℕ × ℕ)). lookup i x ≡ some j) (ap (λ (s : Station). s.joins) k ∙ (noted_joins p r.station).1) h);
        mark = ap (λ (s : Station). s.scheduled) k ∙ noted_mark p r.station;
      };
}

told_fine : (p : ℕ) (high : Bool) (id : ℕ) (v : Run) → (S.tell_request p high id v).code ≡ 0 → v.code ≡ 0
unfolding S.tell_request
told_fine p high id v z = emit_fine _ v (emit_fine _ _ z)

opened : (p : ℕ) (r : Run) → (S.open_request p (S.count_request r)).code ≡ 0 → S.open_request p (S.count_request r) ≡ on (S.note_request p) r
unfolding S.open_request S.count_request
opened p r z =
    let c = require 10 (S.request_counts r.station) r in
    let y : (require 6 (S.request_fits c.station) c).code ≡ 0 = subst (λ (n : ℕ). n ≡ 0) (on_code (S.note_request p) _) z in
    let e = require_fine six (S.request_fits c.station) c y in
    let d = require_fine ten (S.request_counts r.station) r (subst (λ (w : Run). w.code ≡ 0) e.0 y) in
    ap (on (S.note_request p)) (e.0 ∙ d.0)

asked_for : (p : ℕ) (high : Bool) (r : Run) → mem p (keys r.station.requests) ≡ false → Moves nothing 0 0 r (S.tell_request p high r.station.next_request (S.open_request p (S.count_request r)))
asked_for p high r e = record {
  so = λ z.
      let o = opened p r (told_fine p high _ _ z) in
      subst (λ (v : Run). Turn nothing 0 0 r (S.tell_request p high r.station.next_request v)) (sym o)
      ((told_request p high r e).so (subst (λ (v : Run). (S.tell_request p high r.station.next_request v).code ≡ 0) o z));
}

-- where the station asks, nothing is open to p
none_open : (p : ℕ) (s : Station) → is_requested p s ≡ false → mem p (keys s.requests) ≡ false
unfolding is_requested
none_open p s e = e

pub send_neighbor : (p : ℕ) (high : Bool) (r : Run) → Moves nothing 0 0 r (S.send_neighbor p high r)
unfolding S.send_neighbor
send_neighbor p high r =
    by_choice (Moves nothing 0 0 r) (is_requested p r.station) (λ e. quietly (same r)) (λ e. asked_for p high r (none_open p r.station e))

-- a shuffle timer or a maintenance timer, which the book passes over
pub ticks : (e : Rec) → ((d : Book) → sent_all (e ∷ []) d ≡ d) → ((d : Book) → may_all (e ∷ []) d ≡ true) → (e.kind ≡ kind_byte PendingNeighborRequest → ⊥) → (e.kind ≡ kind_byte RetryJoin → ⊥) → (r : Run) → Moves nothing (kinds (kind_byte DoShuffle) (e ∷ [])) (kinds (kind_byte DoMaintenance) (e ∷ [])) r (emit e r)
unfolding All
ticks e h j n n4 r = record {
  so = λ z. record {
    fine = emit_fine e r z;
    lent = emit_lent e r;
    same_pace = λ _. ap pace (emit_station e r);
    records = e ∷ [];
    adds = adds_one e r z;
    books = h (book_of r.station) ∙ sym (ap book_of (emit_station e r));
    clean = j (book_of r.station);
    shuffles = refl;
    passes = refl;
    rises = let q : (emit e r).station.next_request ≡ r.station.next_request = ap (λ (s : Station). s.next_request) (emit_station e r) in omega (arith, q);
    low = (((λ q. absurd (n q)), (λ q. absurd (n4 q))), tt);
    joins_rise = let q : (emit e r).station.next_join ≡ r.station.next_join = ap (λ (s : Station). s.next_join) (emit_station e r) in omega (arith, q);
    awaited = none_new (e ∷ []) _ _ (as_before (emit_station e r));
    mark = ap (λ (s : Station). s.scheduled) (emit_station e r);
  };
}

pub shuffle_tick : (t : ℕ) (r : Run) → Moves nothing 1 0 r (emit (R.timer (kind_byte DoShuffle) 0 t 0) r)
unfolding sent_all may_all may_send note_sent is_neighbor choose kinds is
shuffle_tick t r = ticks (R.timer (kind_byte DoShuffle) 0 t 0) (λ d. refl) (λ d. refl) (λ q. omega (arith, q)) (λ q. omega (arith, q)) r

-- the interval may change in front of a shuffle timer
pub paced : (f : Station → Station) → ((s : Station) → full_but_interval (f s) ≡ full_but_interval s) → {b : ℕ} {r w : Run} → Moves nothing 1 b (on f r) w → Moves nothing 1 b r w
paced f h {b} {r} {w} m = record {
  so = λ z. let k = m.so z in
      let e = on_same full_but_interval f h r in
      record {
        fine = subst (λ (c : ℕ). c ≡ 0) (on_code f r) k.fine;
        lent = k.lent ∙ on_lent f r;
        same_pace = λ y. absurd (omega (arith, y));
        records = k.records;
        adds = subst (λ (x : List ℕ). Adds k.records x w.out) (on_out f r) k.adds;
        books = ap (λ (x : (List (ℕ × ℕ) × (ℕ × (Bool × ℕ))) × List (ℕ × ℕ)). sent_all k.records (book_in x.0)) (sym e) ∙ k.books;
        clean = ap (λ (x : (List (ℕ × ℕ) × (ℕ × (Bool × ℕ))) × List (ℕ × ℕ)). may_all k.records (book_in x.0)) (sym e) ∙ k.clean;
        shuffles = k.shuffles;
        passes = k.passes;
        rises = let n : (on f r).station.next_request ≡ r.station.next_request = ap (λ (x : (List (ℕ × ℕ) × (ℕ × (Bool × ℕ))) × List (ℕ × ℕ)). x.0.1.0) e in omega (arith, n, k.rises);
        low = k.low;
        joins_rise = let n : (on f r).station.next_join ≡ r.station.next_join = ap (λ (x : (List (ℕ × ℕ) × (ℕ × (Bool × ℕ))) × List (ℕ × ℕ)). x.0.1.1.1) e in omega (arith, n, k.joins_rise);
        awaited = subst (Awaited k.records w.station.joins) (ap (λ (x : (List (ℕ × ℕ) × (ℕ × (Bool × ℕ))) × List (ℕ × ℕ)). x.1) e) k.awaited;
        mark = k.mark ∙ ap (λ (x : (List (ℕ × ℕ) × (ℕ × (Bool × ℕ))) × List (ℕ × ℕ)). x.0.1.1.0) e;
      };
}

pub maintenance_tick : (t : ℕ) (r : Run) → Moves nothing 0 1 r (emit (R.timer (kind_byte DoMaintenance) 0 t 0) r)
unfolding sent_all may_all may_send note_sent is_neighbor choose kinds is
maintenance_tick t r = ticks (R.timer (kind_byte DoMaintenance) 0 t 0) (λ d. refl) (λ d. refl) (λ q. omega (arith, q)) (λ q. omega (arith, q)) r

-- ---- a join that awaits retry: its timer

joined_next : (p : ℕ) (s : Station) → (E.note_join p s).next_join ≡ s.next_join + 1
unfolding E.note_join
joined_next p s = refl

joined_desk : (p : ℕ) (s : Station) → ◌≡◌ {A = List (ℕ × ℕ) × (ℕ × Bool)} ((E.note_join p s).requests, ((E.note_join p s).next_request, (E.note_join p s).scheduled)) (s.requests, (s.next_request, s.scheduled))
unfolding E.note_join
joined_desk p s = refl

joined_pace : (p : ℕ) (s : Station) → pace (E.note_join p s) ≡ pace s
unfolding E.note_join
joined_pace p s = refl

joined_joins : (p : ℕ) (s : Station) → (E.note_join p s).joins ≡ put p s.next_join s.joins
unfolding E.note_join
joined_joins p s = refl

put_awaited : (p t : ℕ) (s : Station) → Awaited (R.timer (kind_byte RetryJoin) p t s.next_join ∷ []) (E.note_join p s).joins s.joins
unfolding retries choose
put_awaited p t s x n e = go (look_put x p s.next_join s.joins n (subst (λ (m : List (ℕ × ℕ)). lookup x m ≡ some n) (joined_joins p s) e))
  where
    go : Either ((x ≡ p) × (n ≡ s.next_join)) (lookup x s.joins ≡ some n) → Either (lookup x s.joins ≡ some n) (Among x n ((p, s.next_join) ∷ []))
    go (left q) = right (subst (λ (y : ℕ). Among y n ((p, s.next_join) ∷ [])) (sym q.0) (subst (λ (y : ℕ). Among p y ((p, s.next_join) ∷ [])) (sym q.1) here))
    go (right q) = left q

awaited_by : (p t : ℕ) → p < peers_end → (r : Run) → Moves nothing 0 0 r (emit (R.timer (kind_byte RetryJoin) p t r.station.next_join) (on (E.note_join p) r))
unfolding All kinds is sent_all may_all may_send note_sent is_neighbor choose
awaited_by p t narrow r = record {
  so = λ z.
      let v = on (E.note_join p) r in
      let e = R.timer (kind_byte RetryJoin) p t r.station.next_join in
      let x : r.code ≡ 0 = subst (λ (c : ℕ). c ≡ 0) (on_code (E.note_join p) r) (emit_fine e v z) in
      let k : (emit e v).station ≡ E.note_join p r.station = emit_station e v ∙ on_station (E.note_join p) r x in
      let i : ◌≡◌ {A = List (ℕ × ℕ) × (ℕ × Bool)} ((emit e v).station.requests, ((emit e v).station.next_request, (emit e v).station.scheduled)) (r.station.requests, (r.station.next_request, r.station.scheduled)) = ap {B = List (ℕ × ℕ) × (ℕ × Bool)} (λ (s : Station). (s.requests, (s.next_request, s.scheduled))) k ∙ joined_desk p r.station in
      let next : (emit e v).station.next_join ≡ r.station.next_join + 1 = ap (λ (s : Station). s.next_join) k ∙ joined_next p r.station in
      let same_next : (emit e v).station.next_request ≡ r.station.next_request = ap (λ (y : List (ℕ × ℕ) × (ℕ × Bool)). y.1.0) i in
      record {
        fine = x;
        lent = emit_lent e v ∙ on_lent (E.note_join p) r;
        same_pace = λ _. ap pace k ∙ joined_pace p r.station;
        records = e ∷ [];
        adds = subst (λ (l : List ℕ). Adds (e ∷ []) l (emit e v).out) (on_out (E.note_join p) r) (adds_one e v z);
        books = sym (ap (λ (y : List (ℕ × ℕ) × (ℕ × Bool)). record { told = keys y.0; asked = y.0 }) i);
        clean = refl;
        shuffles = refl;
        passes = refl;
        rises = omega (arith, same_next);
        low = (((λ q. absurd (omega (arith, q))), (λ q. (narrow, omega (arith, next)))), tt);
        joins_rise = omega (arith, next);
        awaited = subst (λ (s : Station). Awaited (e ∷ []) s.joins r.station.joins) (sym k) (put_awaited p t r.station);
        mark = ap (λ (y : List (ℕ × ℕ) × (ℕ × Bool)). y.1.1) i;
      };
}

join_opened : (p : ℕ) (r : Run) → (E.open_join p r).code ≡ 0 → E.open_join p r ≡ on (E.note_join p) r
unfolding E.open_join
join_opened p r z =
    let y : (require 10 (E.join_counts r.station) r).code ≡ 0 = subst (λ (n : ℕ). n ≡ 0) (on_code (E.note_join p) _) z in
    ap (on (E.note_join p)) (require_fine ten (E.join_counts r.station) r y).0

pub await_join : (p : ℕ) → p < peers_end → (r : Run) → Moves nothing 0 0 r (E.await_join p r)
unfolding E.await_join
await_join p narrow r = record {
  so = λ z.
      let o = join_opened p r (emit_fine _ _ z) in
      let t = R.timer (kind_byte RetryJoin) p join_retry_delay r.station.next_join in
      subst (λ (v : Run). Turn nothing 0 0 r (emit t v)) (sym o) ((awaited_by p join_retry_delay narrow r).so (subst (λ (v : Run). (emit t v).code ≡ 0) o z));
}
