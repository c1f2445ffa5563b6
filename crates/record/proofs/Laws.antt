-- Laws of the readers' definitions.
-- Assumes nothing.
use Prim.Native.Nat.{ℕ, zero, suc, ◌+◌, ◌-◌, ◌≤◌, ◌<◌}
use mathlib.Core.Path.{◌≡◌, refl, sym, ap, ◌∙◌}
use mathlib.Core.Bool.{Bool, true, false, not, ◌&&◌, ◌||◌}
use Rattle.std.proofs.Math.Bool.{or_assoc, and_assoc}
use mathlib.Core.List.{List}
use native.Mathlib.Omega.{arith}
use borrow.Author.Tests.{ne_eqb, lt-ltb, le-ltb, leb-true, leb-false, lt-leb}
use lib.ListN.{length, get_or, take, drop}
use lib.Seq.{slice}
use lib.Dec.{eqb, leb, ltb}
use Rattle.base_lists.specs.Lists.{choose}
use Rattle.base_lists.proofs.Slices.{slice_part}
use Rattle.base_lists.proofs.Choice.{choose_yes, choose_no, split, clash, and_left}
use Rattle.record.specs.Kinds.{is_event_kind}
use Rattle.record.specs.Format.{IsForm, most_nodes, peer_length, header_length, header_length_by}
use Rattle.record.specs.Read.{header_of, is_message, is_timer, is_data, kind_ok, flags_ok, count_ok, peer_ok, fields_ok, header_ok, data_ok, entry_at_by, entry_ok, entries_ok_by, well_formed, well_formed_by, rec_of, is_event, refused, event, read_event}
use Rattle.record.specs.Answers.{answer, answer_to, coded, event_answer, event_in, EventIs}
pub use Rattle.record.specs.Answers.{Found}
use Rattle.record.specs.declared.Header.{Header}
use Rattle.record.specs.declared.Entry.{Entry}
use Rattle.record.specs.declared.Refusal.{Refusal}
use Rattle.record.specs.declared.Refusal.TheVariants.{Malformed, Nodes}
use Rattle.record.specs.Refusals.{refusal_code}
use Rattle.record.specs.Forms.{form_width}
use Rattle.record.specs.declared.Form.{Form}
use Rattle.record.specs.declared.Form.TheVariants.{Old, This}
use Rattle.std.specs.Prelude.{Some, None, Ok, Err}

and_none : (a : Bool) → (a && false) ≡ false
and_none true = refl
and_none false = refl

-- the two forms are those of the definitions
pub form_is : (f : Form) → IsForm (form_width f)
form_is Old = record { other = λ n. absurd (n refl) }
form_is This = record { other = λ n. refl }

pub form_most : (f : Form) → form_width f ≤ peer_length
form_most Old = omega arith
form_most This = omega arith

module _ (w : ℕ) where
  -- data that would start past the end are no data of the record
  pub entries_short : (h : Header) (b : List ℕ) (i n at : ℕ) → length b < at → entries_ok_by w h b i n at ≡ false
  unfolding entries_ok_by
  entries_short h b i zero at l = ne_eqb at (length b) (λ e. omega (arith, e))
  entries_short h b i (suc n) at l = rw (entries_short h b (suc i) n (at + (entry_at_by w b i).len) (omega arith)) (and_none (entry_ok h (entry_at_by w b i) at))

  -- where entries are sound, their data start within the record
  pub entries_reach : (h : Header) (b : List ℕ) (i n at : ℕ) → entries_ok_by w h b i n at ≡ true → at ≤ length b
  entries_reach h b i n at t = split (leb at (length b)) (λ y. leb-true at (length b) y) (λ n'. clash _ t (entries_short h b i n at (leb-false at (length b) n')))

  pub well_formed_long : (b : List ℕ) → well_formed_by w b ≡ true → header_length_by w ≤ length b
  unfolding well_formed_by
  well_formed_long b t = leb-true _ _ (and_left _ _ t)

-- the part of a list that starts at a place and has n elements
pub part_is : (l : List ℕ) (at n : ℕ) → take (at + n - at) (drop at l) ≡ slice at (at + n) l
part_is l at n = let e : at + n - at ≡ n = omega arith in rw e (slice_part at n l)

-- ---- the tests of a header and of an entry

pub or_yes : (t x : Bool) → (t || x) ≡ choose t true x
unfolding choose
or_yes true x = refl
or_yes false x = refl

pub not_or : (t x : Bool) → (not t || x) ≡ choose t x true
unfolding choose
not_or true x = refl
not_or false x = refl

-- at most 0 is 0
pub at_most_none : (x : ℕ) → leb x 0 ≡ eqb x 0
at_most_none zero = refl
at_most_none (suc x) = lt-leb (suc x) 0 (omega arith) ∙ sym (ne_eqb (suc x) 0 (λ e. omega (arith, e)))

module _ (h : Header) where
  pub count_known : (j f n d s y : Bool) → j ≡ is_message 0 h → f ≡ is_message 1 h → n ≡ is_message 4 h → d ≡ is_data h → s ≡ is_message 2 h → y ≡ is_message 3 h
      → choose (j || f || n || d) (eqb h.nodes 1) (choose (s || y) (leb h.nodes most_nodes) (eqb h.nodes 0)) ≡ count_ok h
  unfolding count_ok
  count_known j f n d s y pj pf pn pd ps py = rw (pj, pf, pn, pd, ps, py, or_assoc, or_assoc)

  pub peer_known : (not (eqb h.kind 1 || eqb h.kind 2 || eqb h.kind 7 || eqb h.kind 8) || eqb h.peer 0) ≡ peer_ok h
  unfolding peer_ok
  peer_known = rw (or_assoc (eqb h.kind 1 || eqb h.kind 2), or_assoc (eqb h.kind 1)) (not_or _ _)

  pub fields_known : (s t f : Bool) → s ≡ is_message 2 h → t ≡ is_timer h → f ≡ is_message 1 h
      → (((s || t || eqb h.second 0) && (f || s || eqb h.ttl 0)) && (eqb h.kind 3 || eqb h.kind 4 || eqb h.number 0)) ≡ fields_ok h
  unfolding fields_ok
  fields_known s t f p q r =
      rw (and_assoc, p, q, r, or_yes (is_message 2 h || is_timer h) (eqb h.second 0), or_yes (is_message 1 h || is_message 2 h) (eqb h.ttl 0), or_yes (eqb h.kind 3 || eqb h.kind 4) (eqb h.number 0))

  pub header_known : (k f c p o : Bool) → k ≡ kind_ok h → f ≡ flags_ok h → c ≡ count_ok h → p ≡ peer_ok h → o ≡ fields_ok h → (k && f && c && p && o) ≡ header_ok h
  unfolding header_ok
  header_known k f c p o a b d e g = rw (a, b, d, e, g, and_assoc, and_assoc, and_assoc)

  pub entry_known : (e : Entry) (at : ℕ) (x j n d : Bool) → x ≡ data_ok e at → j ≡ is_message 0 h → n ≡ is_message 4 h → d ≡ is_data h
      → ((x && (not (j || n || d) || eqb e.id 0)) && (not d || eqb e.present 1)) ≡ entry_ok h e at
  unfolding entry_ok
  entry_known e at x j n d p q r s = rw (p, q, r, s, and_assoc, or_assoc, not_or, not_or)

-- a record's header, or none
pub answer_record : (b : List ℕ) (h : Header) (t : Bool) → t ≡ well_formed b → t ≡ true → h ≡ header_of b → Some h ≡ answer b
unfolding answer choose
answer_record b h t p q e = rw (e, ← p, q)

pub answer_malformed : (b : List ℕ) (t : Bool) → t ≡ well_formed b → t ≡ false → None ≡ answer b
unfolding answer choose
answer_malformed b t p q = rw (← p, q)

pub answer_found : (b : List ℕ) (h : Header) → answer b ≡ Some h → Found b h
unfolding answer
answer_found b h a =
    split (well_formed b)
    (λ y. record { well = y; header = (let q : Some (header_of b) ≡ Some h = sym (choose_yes (well_formed b) (Some (header_of b)) None y) ∙ a in cc) })
    (λ n. absurd (let q : None ≡ Some h = sym (choose_no (well_formed b) (Some (header_of b)) None n) ∙ a in let z : ◌≡◌ {A = ℕ} 0 1 = cc in omega arith))

-- what an event's header says of the bytes
pub record FoundEvent (b : List ℕ) (h : Header) : Type 0 where
  pub well : well_formed b ≡ true
  pub is_one : is_event (header_of b) ≡ true
  pub header : h ≡ header_of b

-- the answer by its three tests
found_by : (b : List ℕ) (h : Header) (s t w e : Bool)
    → answer_to b (choose s (refused 3) (choose t (refused 4) (choose (w && e) (event (rec_of b)) (refused 3)))) ≡ Ok h
    → ((w ≡ true) × ((e ≡ true) × (h ≡ header_of b)))
unfolding choose answer_to
found_by b h true t w e a = absurd (let z : ◌≡◌ {A = ℕ} 0 1 = cc in omega arith)
found_by b h false true w e a = absurd (let z : ◌≡◌ {A = ℕ} 0 1 = cc in omega arith)
found_by b h false false true true a = (refl, (refl, cc))
found_by b h false false true false a = absurd (let z : ◌≡◌ {A = ℕ} 0 1 = cc in omega arith)
found_by b h false false false e a = absurd (let z : ◌≡◌ {A = ℕ} 0 1 = cc in omega arith)

pub event_found : (b : List ℕ) (h : Header) → event_answer b ≡ Ok h → FoundEvent b h
unfolding event_answer read_event
event_found b h a =
    let f = found_by b h (ltb (length b) header_length) (ltb 32 (get_or b 3 0)) (well_formed b) (is_event (header_of b)) a in
    record { well = f.0; is_one = f.1.0; header = f.1.1 }

module _ (b : List ℕ) where
  refused_is : (r : Refusal) → read_event b ≡ refused (refusal_code r) → EventIs b (Err r)
  unfolding coded event_answer answer_to event_in
  refused_is r e = record { is = ap (answer_to b) (sym e); reads = sym e }

  event_is : (h : Header) → h ≡ header_of b → read_event b ≡ event (rec_of b) → EventIs b (Ok h)
  unfolding coded event_answer answer_to event_in
  event_is h q e = record { is = ap Ok q ∙ ap (answer_to b) (sym e); reads = sym e }

  pub event_short : length b < header_length → EventIs b (Err Malformed)
  unfolding read_event choose
  event_short h = refused_is Malformed (rw (lt-ltb _ _ h))

  module _ (l : header_length ≤ length b) where
    pub event_crowded : 32 < get_or b 3 0 → EventIs b (Err Nodes)
    unfolding read_event choose
    event_crowded h = refused_is Nodes (rw (le-ltb _ _ l, lt-ltb _ _ h))

    module _ (few : get_or b 3 0 ≤ 32) (h : Header) (w t k : Bool) (p : w ≡ well_formed b) (q : h ≡ header_of b) (r : t ≡ is_timer h) (z : k ≡ is_event_kind h.kind) where
      abbrev tested : Bool
      tested = w && (k && (not t || eqb h.second 0))

      test : tested ≡ (well_formed b && is_event (header_of b))
      unfolding is_event
      test = rw (p, r, z, not_or (is_timer h) (eqb h.second 0), q)

      pub event_record : tested ≡ true → EventIs b (Ok h)
      unfolding read_event choose
      event_record y = event_is h q (rw (le-ltb _ _ l, le-ltb _ _ few, ← test, y))

      pub event_refused : tested ≡ false → EventIs b (Err Malformed)
      unfolding read_event choose
      event_refused y = refused_is Malformed (rw (le-ltb _ _ l, le-ltb _ _ few, ← test, y))
