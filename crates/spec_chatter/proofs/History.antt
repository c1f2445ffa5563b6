-- Every list of calls: the book is the station's own, it never meets what it forbids, and timers scheduled and expired stay in step.
-- Assumes nothing.
use mathlib.Core.Path.{◌≡◌, refl, sym, ap, subst, ◌∙◌}
use mathlib.Core.Bool.{Bool, true, not}
use mathlib.Core.List.{List, [], ◌∷◌, ◌++◌}
use Prim.Native.Nat.{ℕ, ◌+◌, ◌-◌, ◌≤◌, ◌<◌}
use native.Mathlib.Omega.{arith}
use lib.ListN.{length, replicate}
use lib.Dec.{leb, eqb}
use borrow.Author.Tests.{eqb-true, eqb-false, eq-eqb, ne_eqb, leb-true}
use Rattle.base_lists.specs.Lists.{choose}
use mathlib.Core.Option.{some}
use Rattle.base_lists.specs.Maps.{keys, lookup}
use Rattle.base_lists.specs.Tests.{All}
use Rattle.base_lists.proofs.Choice.{by_choice, choose_yes, choose_no, split, and_left, and_right}
use Rattle.base_timing.specs.Timing.{in_range}
use Rattle.base_timing.specs.declared.Config.{Config}
use Rattle.record.specs.Format.{Rec}
use Rattle.record.specs.InForm.{InForm, header_in, header_in_by}
use Rattle.record.specs.Read as Rd
use Rattle.record.specs.Read.{Reading, read_event, rec_of, rec_of_by, header_of}
use Rattle.record.specs.Kinds.{Message, DoShuffle, DoMaintenance, RetryJoin, kind_byte}
use Rattle.spec_hyparview.specs.Station.{Station, peers_end}
use Rattle.spec_hyparview.specs.Run.{Run}
use Rattle.spec_hyparview.specs.Rules.{station_ok}
use Rattle.spec_hyparview.specs.Handle.{Result, start, steps, refusal, accepted, finish, handle_reading, handle}
use Rattle.spec_hyparview.specs.Written.{encode_all}
use Rattle.spec_hyparview.proofs.Narrow as N
use Rattle.spec_hyparview.proofs.Narrow.{at}
use Rattle.spec_hyparview.proofs.Reading.{Readable, by_form}
use Rattle.spec_hyparview.proofs.Whole.{ok_steps}
use Rattle.spec_hyparview.proofs.Tested.{rules_of}
use Rattle.spec_hyparview.proofs.Written.{formed_event}
use Rattle.spec_history.specs.Ledger.{Ledger, number_of}
use Rattle.spec_hyparview.specs.Sides.{draws_from}
use Rattle.spec_hyparview.proofs.Sides.{by_side}
use Rattle.spec_history.specs.Calls.{Call, result_of, answered}
use Rattle.spec_history.proofs.Kept.{Kept, pays}
use Rattle.spec_chatter.specs.Traffic.{Item, came, items_of}
use Rattle.spec_chatter.proofs.Book.{Book, note_event, note_item, book_after, may, keeps_book}
use Rattle.spec_chatter.specs.Claims.{times_scheduled, times_expired, accepted_events, waiting, without_pair, Among}
use Rattle.spec_chatter.proofs.Lists.{Either, left, right}
use Rattle.spec_chatter.proofs.Waits.{Timed, still_waits}
use Rattle.spec_chatter.proofs.Moves.{book_of, retries}
use Rattle.spec_chatter.proofs.Event.{Done, done}
use Rattle.spec_chatter.proofs.Read.{Read, narrows, items, ReadAs, read_all, Counted, count_all, retries_read}

-- whether timers run, as a number
abbrev pub running : Station → ℕ
running s = choose s.scheduled 1 0

-- items that bring the station s to t
pub record Follows (xs : List Item) (s t : Station) : Type 0 where
  pub books : book_after xs (book_of s) ≡ book_of t
  pub clean : keeps_book xs (book_of s) ≡ true
  pub ones : times_scheduled (kind_byte DoShuffle) xs + running s ≡ times_expired (kind_byte DoShuffle) xs + running t
  pub twos : times_scheduled (kind_byte DoMaintenance) xs + running s ≡ times_expired (kind_byte DoMaintenance) xs + running t
  pub starts : 1 ≤ accepted_events xs + running s → running t ≡ 1
  pub awaits : (ws : List (ℕ × ℕ)) → Timed s.joins ws → Timed t.joins (waiting (kind_byte RetryJoin) xs ws)

pub no_more : (s : Station) → Follows [] s s
unfolding book_after keeps_book times_scheduled times_expired accepted_events waiting
no_more s = record { books = refl; clean = refl; ones = refl; twos = refl; starts = λ h. up s.scheduled h; awaits = λ ws t. t }
  where
    up : (b : Bool) → 1 ≤ 0 + choose b 1 0 → choose {A = ℕ} b 1 0 ≡ 1
    up b h = by_choice (λ (n : ℕ). 1 ≤ 0 + n → n ≡ 1) b (λ _ _. refl) (λ _ q. absurd (omega (arith, q))) h

-- ---- one call

Answer : List ℕ → Station → Result → Type 0
Answer b s a = Follows (items_of b a.code a.output) s a.state

refused : (b : List ℕ) (s : Station) (n room : ℕ) → (n ≡ 0 → ⊥) → Answer b s (refusal n s room)
unfolding refusal items_of Answer
refused b s n room ne = subst (λ (xs : List Item). Follows xs s s) (sym (choose_no (eqb n 0) _ _ (ne_eqb n 0 ne))) (no_more s)

-- the reader takes no other messages
pub few_of : (e : Rec) → InForm e → e.kind ≡ kind_byte Message → e.message ≤ 5
unfolding Rd.header_ok Rd.kind_ok header_in_by
few_of e f z =
    let h = header_in e in
    let k = and_right (not (eqb (Rd.fixed_size e.kind) 0)) _ (and_left (Rd.kind_ok h) _ f.header) in
    leb-true e.message 5 (sym (choose_yes (eqb e.kind (kind_byte Message)) (leb e.message 5) (eqb e.message 0) (eq-eqb e.kind (kind_byte Message) z)) ∙ k)

module _ {c : Config} {me : ℕ} {l : Ledger} {s : Station} (h : Kept c me l s) (b ds : List ℕ) (room : ℕ) (w : Readable (rec_of b)) (f : InForm (rec_of b)) where
  abbrev e : Rec
  e = rec_of b

  abbrev r : Run
  r = steps e (start s ds room)

  reads : (k : Done e s r) → All Read k.records
  reads k =
      let n = (formed_event s h.narrow ds room e w f).narrow in
      let top = n.requests_top in
      let d = note_event e.kind e.message e.peer e.number (book_of s) in
      (narrows r.station.next_request r.station.next_join (omega (arith, top)) k.records d k.low
      (subst (λ (x : Book). All (λ p. p < peers_end) x.told) (sym k.books) (at n N.requests))
      (subst (λ (x : Book). All (λ p. p < peers_end) (keys x.asked)) (sym k.books) (at n N.requests))).reads

  -- a join that awaited retry before has its timer still
  held : (k : Done e s r) (ws : List (ℕ × ℕ)) → Timed s.joins ws → (p m : ℕ) → Either (lookup p s.joins ≡ some m) (Among p m (retries k.records)) → lookup p r.station.joins ≡ some m
      → Either (Among p m (choose (eqb e.kind (kind_byte RetryJoin)) (without_pair e.peer e.number ws) ws)) (Among p m (retries k.records))
  held k ws t p m (left a) q =
      left (by_choice (Among p m) (eqb e.kind (kind_byte RetryJoin))
      (λ z. still_waits p m e.peer e.number ws
      (λ x y. k.gone (eqb-true e.kind (kind_byte RetryJoin) z) (subst (λ (i : ℕ). lookup i r.station.joins ≡ some e.number) x (subst (λ (i : ℕ). lookup p r.station.joins ≡ some i) y q))) (t p m a))
      (λ z. t p m a))
  held k ws t p m (right a) q = right a

  taken : r.code ≡ 0 → length r.out ≤ 8192 → (zeros : ℕ) → Follows (came (header_of b) ∷ items (r.out ++ replicate zeros 0)) s r.station
  unfolding book_after keeps_book note_item may times_scheduled times_expired accepted_events waiting rec_of_by
  taken z small zeros =
      let k = done e w.known w.narrow (few_of e f) s ds room z in
      let d = note_event e.kind e.message e.peer e.number (book_of s) in
      let short : length (encode_all k.records) < 65536 = omega (arith, small, ap length k.out) in
      let top = (formed_event s h.narrow ds room e w f).narrow.joins_top in
      let q₀ : items (encode_all k.records ++ replicate zeros 0) ≡ items (r.out ++ replicate zeros 0) = ap (λ (x : List ℕ). items (x ++ replicate zeros 0)) (sym k.out) in
      let a = subst (λ (xs : List Item). ReadAs k.records xs d) q₀ (read_all k.records zeros d short (reads k)) in
      let n = subst (Counted k.records) q₀ (count_all k.records zeros short) in
      let on : running r.station ≡ 1 = choose_yes {A = ℕ} r.station.scheduled 1 0 k.mark in
      let was : choose {A = ℕ} s.scheduled 0 1 + choose {A = ℕ} s.scheduled 1 0 ≡ 1 = both_ways s.scheduled in
      record {
        books = a.books ∙ k.books;
        clean = a.clean ∙ k.clean;
        ones = omega (arith, n.set 1, n.gone 1, k.shuffles, on, was);
        twos = omega (arith, n.set 2, n.gone 2, k.passes, on, was);
        starts = λ _. on;
        awaits = λ ws t p m q.
            subst (λ (xs : List Item). Among p m (waiting (kind_byte RetryJoin) xs (choose (eqb e.kind (kind_byte RetryJoin)) (without_pair e.peer e.number ws) ws))) q₀
            (retries_read r.station.next_request r.station.next_join (omega (arith, top)) k.records zeros short k.low p m _ (held k ws t p m (k.awaited p m q) q));
      }
    where
      both_ways : (b : Bool) → choose {A = ℕ} b 0 1 + choose {A = ℕ} b 1 0 ≡ 1
      both_ways b = split b (λ t. omega (arith, choose_yes {A = ℕ} b 0 1 t, choose_yes {A = ℕ} b 1 0 t)) (λ t. omega (arith, choose_no {A = ℕ} b 0 1 t, choose_no {A = ℕ} b 1 0 t))

  called_event : Answer b s (finish s r)
  unfolding finish accepted items_of choose Answer
  called_event =
      let a = c.active_view_capacity in
      let k = ok_steps (number_of a b) ds room e w (pays a b) h in
      by_choice (Answer b s) (eqb r.code 0)
      (λ z. let fine = eqb-true r.code 0 z in taken fine (omega (arith, (k.good fine).bytes_left)) (r.room - length r.out))
      (λ z. refused b s r.code r.room (eqb-false r.code 0 z))

pub called : {c : Config} {me : ℕ} {l : Ledger} {s : Station} → in_range c ≡ true → Kept c me l s → (v : Call) → Follows (items_of v.event (result_of v s).code (result_of v s).output) s (result_of v s).state
unfolding answered handle handle_reading Answer
called {s = s} ranges h v =
    let b = v.event in
    let ds = draws_from v.side v.draws in
    let room = length v.output in
    by_side (Answer b s) v.side s b v.draws room (refused b s 16 room (λ q. omega (arith, q)))
    (rw (choose_yes (station_ok s) (handle_reading (read_event b) s ds room) (refusal 2 s room) (rules_of s ranges h))
    (by_form b v.are_bytes (λ (x : Reading). Answer b s (handle_reading x s ds room))
    (λ n i j. refused b s n room (λ q. omega (arith, q, i))) (λ w f. called_event h b ds room w f)))
