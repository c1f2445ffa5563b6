-- The event of an entry reads back as that event, from the lent bytes too, and is the record that went in without its delay.
-- Assumes nothing.
use Prim.Native.Nat.{ℕ, zero, suc, ◌^◌, ◌+◌, ◌≤◌, ◌<◌}
use mathlib.Core.Path.{◌≡◌, refl, sym, ap, ◌∙◌, subst}
use mathlib.Core.Bool.{true}
use mathlib.Core.List.{List, [], ◌∷◌}
use native.Mathlib.Omega.{arith}
use lib.ListN.{length, get_or, take}
use lib.Seq.{take-length}
use lib.Dec.{ltb, leb, eqb}
use borrow.Author.Tests.{eqb-true, leb-true, leb-false, ltb-true, le-ltb}
use Rattle.base_lists.specs.Bytes.{overwrite}
use Rattle.base_lists.specs.Lists.{choose}
use Rattle.base_lists.proofs.Choice.{split, and_left, and_right, choose_yes, choose_no}
use Rattle.base_lists.proofs.Numbers.{Bytes}
use Rattle.base_lists.proofs.Stored.{take_stored}
use Rattle.base_lists.proofs.Tests.{both_true}
use Rattle.record.specs.Format.{peer_length, header_length, size, size_by, datas, encode}
use Rattle.record.specs.Read.{fixed_size, header_of, header_of_by, is_message, is_timer, is_data, kind_ok, flags_ok, count_ok, peer_ok, fields_ok, header_ok, well_formed, rec_of, rec_of_by, nodes_of, nodes_of_by, is_event, event, read_event}
use Rattle.record.specs.InForm.{InForm, NodesInFormBy, header_in, header_in_by}
use Rattle.record.specs.Answers.{answer}
use Rattle.record.specs.declared.Header.{Header}
use Rattle.std.specs.Prelude.{Some, None}
use Rattle.record.proofs.Back.{in_form_back, parts}
use Rattle.record.proofs.Forth.{header_read, well_formed_encode, rec_of_encode}
use Rattle.record.proofs.Format.{length_encode}
use Rattle.record_writer.specs.Write.{fits, written}
use Rattle.spec_hyparview.specs.Station.{peers_end}
use Rattle.spec_hyparview.specs.Rules.{all_under}
use Rattle.timer_map.specs.Entries.{timer_ok}
use Rattle.timer_map.specs.declared.TimerMapEntry.{TimerMapEntry}
use Rattle.timer_events.specs.declared.ScheduleTimer.{ScheduleTimer}
use Rattle.timer_events.specs.Records.{started, started_by, schedule_of}
use Rattle.timer_events.specs.Events.{event_rec}
use Rattle.timer_events.specs.Claims.{without_delay, ComesBack, EventComesBack}
use Rattle.timer_events.proofs.Events.{Says, says, said}

-- ---- headers of the four kinds

abbrev head : ℕ → ℕ → ℕ → ℕ → ℕ → ℕ → ℕ → ℕ → ℕ → Header
head k m f n p s t z u = record { kind = k; message = m; flags = f; nodes = n; peer = p; second = s; ttl = t; size = z; number = u }

-- what a timer's header leaves at zero
pub record Plain (h : Header) : Type 0 where
  pub message : h.message ≡ 0
  pub flags : h.flags ≡ 0
  pub nodes : h.nodes ≡ 0
  pub ttl : h.ttl ≡ 0
  pub bare : h.kind ≤ 2 → (h.peer ≡ 0) × (h.number ≡ 0)

plain_1 : (m f n p s t z u : ℕ) → header_ok (head 1 m f n p s t z u) ≡ true → Plain (head 1 m f n p s t z u)
unfolding header_ok kind_ok flags_ok count_ok peer_ok fields_ok is_message is_timer is_data fixed_size choose
plain_1 m f n p s t z u e =
    let e₁ = and_right (eqb m 0) _ e in
    let e₂ = and_right (eqb f 0) _ e₁ in
    let e₃ = and_right (eqb n 0) _ e₂ in
    let e₄ = and_right (eqb p 0) _ e₃ in
    record {
      message = eqb-true m 0 (and_left (eqb m 0) _ e);
      flags = eqb-true f 0 (and_left (eqb f 0) _ e₁);
      nodes = eqb-true n 0 (and_left (eqb n 0) _ e₂);
      ttl = eqb-true t 0 (and_left (eqb t 0) _ e₄);
      bare = λ _. (eqb-true p 0 (and_left (eqb p 0) _ e₃), eqb-true u 0 (and_right (eqb t 0) _ e₄));
    }

plain_2 : (m f n p s t z u : ℕ) → header_ok (head 2 m f n p s t z u) ≡ true → Plain (head 2 m f n p s t z u)
unfolding header_ok kind_ok flags_ok count_ok peer_ok fields_ok is_message is_timer is_data fixed_size choose
plain_2 m f n p s t z u e =
    let e₁ = and_right (eqb m 0) _ e in
    let e₂ = and_right (eqb f 0) _ e₁ in
    let e₃ = and_right (eqb n 0) _ e₂ in
    let e₄ = and_right (eqb p 0) _ e₃ in
    record {
      message = eqb-true m 0 (and_left (eqb m 0) _ e);
      flags = eqb-true f 0 (and_left (eqb f 0) _ e₁);
      nodes = eqb-true n 0 (and_left (eqb n 0) _ e₂);
      ttl = eqb-true t 0 (and_left (eqb t 0) _ e₄);
      bare = λ _. (eqb-true p 0 (and_left (eqb p 0) _ e₃), eqb-true u 0 (and_right (eqb t 0) _ e₄));
    }

plain_3 : (m f n p s t z u : ℕ) → header_ok (head 3 m f n p s t z u) ≡ true → Plain (head 3 m f n p s t z u)
unfolding header_ok kind_ok flags_ok count_ok peer_ok fields_ok is_message is_timer is_data fixed_size choose
plain_3 m f n p s t z u e =
    let e₁ = and_right (eqb m 0) _ e in
    let e₂ = and_right (eqb f 0) _ e₁ in
    let e₃ = and_right (eqb n 0) _ e₂ in
    record {
      message = eqb-true m 0 (and_left (eqb m 0) _ e);
      flags = eqb-true f 0 (and_left (eqb f 0) _ e₁);
      nodes = eqb-true n 0 (and_left (eqb n 0) _ e₂);
      ttl = eqb-true t 0 (and_left (eqb t 0) _ e₃);
      bare = λ h. absurd (omega (arith, h));
    }

plain_4 : (m f n p s t z u : ℕ) → header_ok (head 4 m f n p s t z u) ≡ true → Plain (head 4 m f n p s t z u)
unfolding header_ok kind_ok flags_ok count_ok peer_ok fields_ok is_message is_timer is_data fixed_size choose
plain_4 m f n p s t z u e =
    let e₁ = and_right (eqb m 0) _ e in
    let e₂ = and_right (eqb f 0) _ e₁ in
    let e₃ = and_right (eqb n 0) _ e₂ in
    record {
      message = eqb-true m 0 (and_left (eqb m 0) _ e);
      flags = eqb-true f 0 (and_left (eqb f 0) _ e₁);
      nodes = eqb-true n 0 (and_left (eqb n 0) _ e₂);
      ttl = eqb-true t 0 (and_left (eqb t 0) _ e₃);
      bare = λ h. absurd (omega (arith, h));
    }

-- by the four kinds
by_kind : (P : ℕ → Type 0) (k : ℕ) → 1 ≤ k → k ≤ 4 → P 1 → P 2 → P 3 → P 4 → P k
by_kind P zero l h a b c d = absurd (omega arith)
by_kind P (suc zero) l h a b c d = a
by_kind P (suc (suc zero)) l h a b c d = b
by_kind P (suc (suc (suc zero))) l h a b c d = c
by_kind P (suc (suc (suc (suc zero)))) l h a b c d = d
by_kind P (suc (suc (suc (suc (suc k))))) l h a b c d = absurd (omega arith)

pub plain : (h : Header) → 1 ≤ h.kind → h.kind ≤ 4 → header_ok h ≡ true → Plain h
plain h l k e =
    by_kind (λ (j : ℕ). header_ok (head j h.message h.flags h.nodes h.peer h.second h.ttl h.size h.number) ≡ true
    → Plain (head j h.message h.flags h.nodes h.peer h.second h.ttl h.size h.number))
    h.kind l k (plain_1 _ _ _ _ _ _ _ _) (plain_2 _ _ _ _ _ _ _ _) (plain_3 _ _ _ _ _ _ _ _) (plain_4 _ _ _ _ _ _ _ _) e

-- ---- an entry's event

abbrev event_head : ℕ → ℕ → ℕ → Header
event_head k p u = head k 0 0 0 p 0 0 header_length u

-- a header of a timer without its delay is an event's
record Fine (h : Header) : Type 0 where
  ok : header_ok h ≡ true
  is_one : is_event h ≡ true

fine_low : (k : ℕ) → 1 ≤ k → k ≤ 2 → Fine (event_head k 0 0)
unfolding header_ok kind_ok flags_ok count_ok peer_ok fields_ok is_message is_timer is_data fixed_size choose is_event
fine_low zero l h = absurd (omega arith)
fine_low (suc zero) l h = record { ok = refl; is_one = refl }
fine_low (suc (suc zero)) l h = record { ok = refl; is_one = refl }
fine_low (suc (suc (suc k))) l h = absurd (omega arith)

fine_3 : (p u : ℕ) → Fine (event_head 3 p u)
unfolding header_ok kind_ok flags_ok count_ok peer_ok fields_ok is_message is_timer is_data fixed_size choose is_event
fine_3 p u = record { ok = refl; is_one = refl }

fine_4 : (p u : ℕ) → Fine (event_head 4 p u)
unfolding header_ok kind_ok flags_ok count_ok peer_ok fields_ok is_message is_timer is_data fixed_size choose is_event
fine_4 p u = record { ok = refl; is_one = refl }

fine : (e : TimerMapEntry) → Says e → Fine (event_head e.item.kind e.item.peer e.item.number)
fine e s =
    split (leb e.item.kind 2)
    (λ t. let h : e.item.kind ≤ 2 = leb-true e.item.kind 2 t in
    let z : (e.item.peer ≡ 0) × (e.item.number ≡ 0) = s.bare h in
    subst (λ (p : ℕ). Fine (event_head e.item.kind p e.item.number)) (sym z.0)
    (subst (λ (u : ℕ). Fine (event_head e.item.kind 0 u)) (sym z.1) (fine_low e.item.kind s.low h)))
    (λ t. let h : 2 < e.item.kind = leb-false e.item.kind 2 t in
    by_high e.item.kind e.item.peer e.item.number h s.high)
  where
    by_high : (k p u : ℕ) → 2 < k → k ≤ 4 → Fine (event_head k p u)
    by_high zero p u l h = absurd (omega arith)
    by_high (suc zero) p u l h = absurd (omega arith)
    by_high (suc (suc zero)) p u l h = absurd (omega arith)
    by_high (suc (suc (suc zero))) p u l h = fine_3 p u
    by_high (suc (suc (suc (suc zero)))) p u l h = fine_4 p u
    by_high (suc (suc (suc (suc (suc k))))) p u l h = absurd (omega arith)

header_event : (e : TimerMapEntry) → header_in (event_rec e) ≡ event_head e.item.kind e.item.peer e.item.number
unfolding header_in_by event_rec size_by datas
header_event e = refl

in_form : (e : TimerMapEntry) → Says e → e.item.peer < peers_end → e.item.number < 2 ^ 64 → InForm (event_rec e)
unfolding NodesInFormBy event_rec
in_form e s p n = record {
  header = ap header_ok (header_event e) ∙ (fine e s).ok;
  peer = p;
  second = omega arith;
  ttl = omega arith;
  number = n;
  nodes = tt;
}

event_size : (e : TimerMapEntry) → size (event_rec e) ≡ header_length
unfolding size_by event_rec datas
event_size e = refl

nodes_field : (b : List ℕ) → get_or b 3 0 ≡ (header_of b).nodes
unfolding header_of_by
nodes_field b = refl

-- the event's bytes read back as the event
pub reads_back : (e : TimerMapEntry) → timer_ok e.item ≡ true → e.item.peer < peers_end → e.item.number < 2 ^ 64 → read_event (encode (event_rec e)) ≡ event (event_rec e)
unfolding read_event
reads_back e h p n =
    let f : InForm (event_rec e) = in_form e (says e h) p n in
    let b : header_of (encode (event_rec e)) ≡ event_head e.item.kind e.item.peer e.item.number = header_read (event_rec e) f ∙ header_event e in
    let z : get_or (encode (event_rec e)) 3 0 ≡ 0 = nodes_field (encode (event_rec e)) ∙ ap (λ (y : Header). y.nodes) b in
    let l : length (encode (event_rec e)) ≡ header_length = length_encode (event_rec e) ∙ event_size e in
    choose_no _ _ _ (le-ltb (length (encode (event_rec e))) header_length (omega (arith, l)))
    ∙ choose_no _ _ _ (le-ltb 32 (get_or (encode (event_rec e)) 3 0) (omega (arith, z)))
    ∙ choose_yes _ _ _ (both_true (well_formed (encode (event_rec e))) _ (well_formed_encode (event_rec e) f) (ap is_event b ∙ (fine e (says e h)).is_one))
    ∙ ap event (rec_of_encode (event_rec e) f)

-- and so do the lent bytes into which it is written
pub reads_out : (e : TimerMapEntry) (out bytes : List ℕ) → timer_ok e.item ≡ true → fits (event_rec e) 0 (length out) ≡ true → bytes ≡ written (event_rec e) 0 out
    → e.item.peer < peers_end → e.item.number < 2 ^ 64 → read_event (take header_length bytes) ≡ event (event_rec e)
unfolding written fits
reads_out e out bytes h k w p n =
    let b = encode (event_rec e) in
    let size_is = length_encode (event_rec e) in
    let whole : 0 + length b ≡ header_length = omega (arith, size_is, event_size e) in
    let stored : bytes ≡ overwrite out 0 b = w ∙ choose_yes _ _ _ k in
    let front : take header_length bytes ≡ b =
    (λ i. take (sym whole i) (stored i)) ∙ take_stored out 0 b (omega (arith, size_is, leb-true (0 + size (event_rec e)) (length out) k)) in
    ap read_event front ∙ reads_back e h p n

-- ---- a record's timer

read_whole : (b : List ℕ) → well_formed b ≡ true → schedule_of (length b) b ≡ started (header_of b)
unfolding schedule_of started_by answer
read_whole b w =
    choose_no _ _ _ (le-ltb (length b) (length b) (omega arith)) ∙ ap (λ (l : List ℕ). started_by (choose (well_formed l) (Some (header_of l)) None)) (take-length b)
    ∙ ap started_by (choose_yes (well_formed b) (Some (header_of b)) None w)

all_bytes : (b : List ℕ) → all_under 256 b ≡ true → Bytes b
unfolding all_under
all_bytes [] e k = omega arith
all_bytes (x ∷ b) e zero = ltb-true x 256 (and_left (ltb x 256) _ e)
all_bytes (x ∷ b) e (suc k) = all_bytes b (and_right (ltb x 256) _ e) k

no_nodes : (b : List ℕ) → (header_of b).nodes ≡ 0 → nodes_of b 0 (header_of b).nodes ≡ []
unfolding nodes_of_by
no_nodes b e = ap (nodes_of b 0) e

timer_low : (b : List ℕ) → is_timer (header_of b) ≡ true → 1 ≤ (header_of b).kind
unfolding is_timer
timer_low b t = leb-true 1 (header_of b).kind (and_left (leb 1 (header_of b).kind) _ t)

timer_high : (b : List ℕ) → is_timer (header_of b) ≡ true → (header_of b).kind ≤ 4
unfolding is_timer
timer_high b t = leb-true (header_of b).kind 4 (and_right (leb 1 (header_of b).kind) _ t)

peer_below : (b : List ℕ) → InForm (rec_of b) → (header_of b).peer < peers_end
unfolding rec_of_by
peer_below b q = q.peer

number_below : (b : List ℕ) → InForm (rec_of b) → (header_of b).number < 2 ^ 64
unfolding rec_of_by
number_below b q = q.number

-- what the record leaves at zero
same_record : (b : List ℕ) (time : ℕ) → Plain (header_of b) → event_rec (record { time = time; item = (started (header_of b)).item }) ≡ without_delay (rec_of b)
unfolding event_rec without_delay rec_of_by
same_record b time p = λ i. record {
  kind = (header_of b).kind;
  message = sym p.message i;
  flags = sym p.flags i;
  peer = (header_of b).peer;
  second = 0;
  ttl = sym p.ttl i;
  number = (header_of b).number;
  nodes = sym (no_nodes b p.nodes) i;
}

pub event_comes_back : EventComesBack
event_comes_back b u w t time =
    let h : Header = header_of b in
    let q : InForm (rec_of b) = in_form_back peer_length b (all_bytes b u) w in
    let l : 1 ≤ h.kind = timer_low b t in
    let k : h.kind ≤ 4 = timer_high b t in
    let p : Plain h = plain h l k (parts peer_length b w).heads in
    let e : TimerMapEntry = record { time = time; item = (started h).item } in
    let y : timer_ok e.item ≡ true = said e (record { low = l; high = k; bare = p.bare }) refl in
    let s : event_rec e ≡ without_delay (rec_of b) = same_record b time p in
    subst (λ (x : ScheduleTimer). ComesBack b (record { time = time; item = x.item })) (sym (read_whole b w))
    (record { ok = y; is = s; narrow = (peer_below b q, number_below b q) })
