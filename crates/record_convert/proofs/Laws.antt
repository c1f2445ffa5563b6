-- What a record that is well formed in one form is in the other: its whole length, its entries and its bytes, and what it is answered.
-- Assumes nothing.
use Prim.Native.Nat.{ℕ, zero, suc, ◌+◌, ◌*◌, ◌-◌, ◌^◌, ◌≤◌, ◌<◌}
use mathlib.Core.Path.{◌≡◌, refl, sym, ap, ◌∙◌}
use mathlib.Core.Bool.{Bool, true, false, not, ◌&&◌}
use Rattle.std.proofs.Math.Bool.{and_assoc}
use mathlib.Core.List.{List, [], ◌∷◌, ◌++◌}
use mathlib.Core.Option.{none, some}
use native.Mathlib.Nat.{not-suc-le-zero, le_of_suc-le-suc}
use native.Mathlib.Omega.{arith}
use borrow.Author.Tests.{lt-ltb, le-ltb, ltb-true, ltb-false, eqb-true, ne_eqb}
use lib.ListN.{length, get_or, drop, replicate}
use lib.Seq.{slice, length-slice, take-length}
use lib.Dec.{ltb, eqb}
use mir.Val.{Fits}
use mir.Syntax.{w8}
use Rattle.base_lists.specs.Lists.{choose}
use Rattle.base_lists.specs.Array.{pad}
use Rattle.base_lists.specs.Bytes.{le, overwrite}
use Rattle.base_lists.proofs.Array.{length_pad}
use Rattle.base_lists.proofs.Choice.{by_choice, and_left, and_right}
use Rattle.base_lists.proofs.Numbers.{Bytes, read_below}
use Rattle.base_lists.proofs.Bytes.{then, overwrite_is}
use Rattle.base_peer.specs.Data.{bytes_of}
use Rattle.record.specs.Format.{Rec, header_length_by, place_by, offset, entry_by, entries_by, datas, size_by, header_by, encode_by}
use Rattle.record.specs.Read.{header_of_by, entry_at_by, well_formed_by, data_at, node_at_by, nodes_of_by, rec_of_by}
use Rattle.std.specs.Prelude.{Ok, Err}
use Rattle.record.specs.Refusals.{refusal_code}
use Rattle.record.specs.declared.Refusal.{Refusal}
use Rattle.record.specs.declared.Refusal.TheVariants.{Settings, State, Malformed, Nodes, Draws, Requests, RefusedPeers, Data, Output, Counter, RadioNodes, PinStranger, PinLimit, NoOtherForm}
use Rattle.record.specs.declared.Header.{Header}
use Rattle.record.specs.declared.Entry.{Entry}
use Rattle.record.proofs.Format.{length_header, length_entries, length_encode_by}
use Rattle.record.proofs.Laws.{well_formed_long, entries_reach}
use Rattle.record.proofs.Back.{parts, all_back}
use Rattle.record.proofs.Forth.{count_most}
use Rattle.record.proofs.Nodes.{EntryIn, entry_in}
use Rattle.record_convert.specs.Convert.{kind_in_form, is_record, ids_fit, has_form, conversion_code, Conversion, outcome, converted, conversion, placed, outcome_of, tail_bytes, header_fields, entry_fields, moved_entry, resized}

-- what the type says of lent bytes
pub all_bytes : (b : List ℕ) → ((k : ℕ) → Fits w8 (get_or b k 0)) → Bytes b
all_bytes b h k = omega (arith, h k)

offset_by : (t : Bool) (x : List ℕ) (at : ℕ) → offset (choose t none (some x)) at ≡ choose t 0 at
unfolding offset choose
offset_by true x at = refl
offset_by false x at = refl

module _ (v : ℕ) (b : List ℕ) (t : well_formed_by v b ≡ true) where
  abbrev count : ℕ
  count = (header_of_by v b).nodes

  pub few : count ≤ 32
  few = count_most (header_of_by v b) (parts v b t).heads

  -- the data of the i-th entry are as long as it says
  module _ (i : ℕ) (l : i < count) where
    pub length_data : length (bytes_of (data_at b (entry_at_by v b i))) ≡ (entry_at_by v b i).len
    length_data =
        let e : Entry = entry_at_by v b i in
        let x : EntryIn v b i = entry_in v b t i l in
        ap length x.bytes ∙ length-slice e.offset (e.offset + e.len) b x.within ∙ (let q : e.offset + e.len - e.offset ≡ e.len = omega arith in q)

  -- what the code counts on that has read the header h
  module _ (h : Header) (q : h ≡ header_of_by v b) where
    pub reach : place_by v h.nodes ≤ length b
    reach = rw q (entries_reach v (header_of_by v b) b 0 count (place_by v count) (parts v b t).listed)

    pub short : Bytes b → length b ≤ 65535
    unfolding header_of_by
    short ok = omega (arith, (parts v b t).sized, read_below 2 b (6 + 2 * v) ok)

module _ (v w : ℕ) (b : List ℕ) (t : well_formed_by v b ≡ true) where
  abbrev n : ℕ
  n = (header_of_by v b).nodes

  -- the i-th entry with its data at another place
  pub entry_moved : (i at : ℕ) → i < n → entry_by w (node_at_by v b i) at ≡ entry_fields w (moved_entry (entry_at_by v b i) at)
  unfolding entry_by entry_fields moved_entry node_at_by data_at
  entry_moved i at l =
      let e : Entry = entry_at_by v b i in
      λ j. le w e.id ++ (le 2 (offset_by (eqb e.present 0) (slice e.offset (e.offset + e.len) b) at j) ++ (length_data v b t i l j ∷ (entry_in v b t i l).there j ∷ []))

  module _ (ok : Bytes b) where
    pub size_other : size_by w (rec_of_by v b) ≡ place_by w n + (length b - place_by v n)
    unfolding size_by rec_of_by
    size_other = rw (all_back v b ok t).count (omega (arith, (all_back v b ok t).reach))

    header_other : header_by w (rec_of_by v b) ≡ header_fields w (resized (header_of_by v b) (size_by w (rec_of_by v b)))
    unfolding header_by header_fields tail_bytes rec_of_by
    header_other =
        let h : Header = header_of_by v b in
        λ j. h.kind ∷ h.message ∷ h.flags ∷ (all_back v b ok t).count j
        ∷ (le w h.peer ++ (le w h.second ++ (le 2 h.ttl ++ (le 2 (size_by w (rec_of_by v b)) ++ le 8 h.number))))

    counted : place_by w (length (rec_of_by v b).nodes) ≡ place_by w n
    unfolding rec_of_by
    counted = λ j. place_by w ((all_back v b ok t).count j)

    entries_other : entries_by w (rec_of_by v b).nodes (place_by w (length (rec_of_by v b).nodes)) ≡ entries_by w (nodes_of_by v b 0 n) (place_by w n)
    unfolding rec_of_by
    entries_other = λ j. entries_by w (nodes_of_by v b 0 n) (counted j)

    datas_other : datas (rec_of_by v b).nodes ≡ drop (place_by v n) b
    unfolding rec_of_by
    datas_other = (all_back v b ok t).datas_are ∙ ap (drop (place_by v n)) (take-length b)

    -- the three parts of the record, one after the other
    pub written : (out o₁ o₂ o₃ : List ℕ) → o₁ ≡ overwrite out 0 (header_fields w (resized (header_of_by v b) (size_by w (rec_of_by v b))))
        → o₂ ≡ overwrite o₁ (header_length_by w) (entries_by w (nodes_of_by v b 0 n) (place_by w n)) → o₃ ≡ overwrite o₂ (place_by w n) (drop (place_by v n) b)
        → o₃ ≡ overwrite out 0 (encode_by w (rec_of_by v b))
    unfolding encode_by
    written out o₁ o₂ o₃ p q r =
        let e : Rec = rec_of_by v b in
        let ns : List ℕ = entries_by w e.nodes (place_by w (length e.nodes)) in
        let p' : o₁ ≡ overwrite out 0 (header_by w e) = p ∙ ap (overwrite out 0) (sym header_other) in
        let q' : o₂ ≡ overwrite o₁ (header_length_by w) ns = q ∙ ap (overwrite o₁ (header_length_by w)) (sym entries_other) in
        let r' : o₃ ≡ overwrite o₂ (place_by w n) (datas e.nodes) = r ∙ ap (overwrite o₂ (place_by w n)) (sym datas_other) in
        then out 0 (header_by w e) (ns ++ datas e.nodes) p'
        (then o₁ (header_length_by w) ns (datas e.nodes) q' r' (omega (arith, length_entries w e.nodes (place_by w (length e.nodes)), counted)))
        (omega (arith, length_header w e))

    -- the code's whole length
    pub size_is : (h : Header) → h ≡ header_of_by v b → (size : ℕ) → size ≡ place_by w h.nodes + (length b - place_by v h.nodes) → size ≡ size_by w (rec_of_by v b)
    size_is h q size s = s ∙ rw q (sym size_other)

-- ---- the answer, by the tests of the code

pub well_of : (v : ℕ) (b : List ℕ) → is_record v b ≡ true → well_formed_by v b ≡ true
unfolding is_record
well_of v b i = and_left (well_formed_by v b) (kind_in_form v (rec_of_by v b).kind) i

module _ (v w : ℕ) (b : List ℕ) (i : is_record v b ≡ true) where
  well : well_formed_by v b ≡ true
  well = well_of v b i

  -- what is answered where the reader answers nothing
  pub answer_well : (r : ℕ) → conversion_code v w b r ≡ choose (not (has_form w (rec_of_by v b))) 19 (choose (ltb r (size_by w (rec_of_by v b))) 9 0)
  unfolding conversion_code choose header_of_by
  answer_well r = rw (le-ltb (length b) (header_length_by v) (well_formed_long v b well), le-ltb 32 (get_or b 3 0) (few v b well), i)

  -- the code's tests of a header, the ids and the whole length are the definition's
  pub formed : (h : Header) → h ≡ header_of_by v b → (size : ℕ) → size ≡ size_by w (rec_of_by v b) → (f₀ f₁ f₂ f₃ : Bool) → f₀ ≡ kind_in_form w h.kind → f₁ ≡ ltb h.peer (256 ^ w) → f₂ ≡ ltb h.second (256 ^ w)
      → f₃ ≡ ids_fit w (nodes_of_by v b 0 h.nodes) → has_form w (rec_of_by v b) ≡ (f₀ && f₁ && f₂ && f₃ && ltb size 65536)
  unfolding has_form rec_of_by
  formed h q size s f₀ f₁ f₂ f₃ p₀ p₁ p₂ p₃ = rw (p₀, p₁, p₂, p₃, s, q, and_assoc, and_assoc, and_assoc)

  module _ (r : ℕ) (f : Bool) (p : has_form w (rec_of_by v b) ≡ f) where
    pub none_such : f ≡ false → 19 ≡ conversion_code v w b r
    unfolding choose
    none_such y = sym (answer_well r ∙ rw (p, y))

    module _ (size : ℕ) (s : size ≡ size_by w (rec_of_by v b)) (y : f ≡ true) where
      pub full : r < size → 9 ≡ conversion_code v w b r
      unfolding choose
      full l = sym (answer_well r ∙ rw (p, y, lt-ltb r (size_by w (rec_of_by v b)) (omega (arith, s))))

      pub done : size ≤ r → 0 ≡ conversion_code v w b r
      unfolding choose
      done l = sym (answer_well r ∙ rw (p, y, le-ltb r (size_by w (rec_of_by v b)) (omega (arith, s))))

module _ (v w : ℕ) (b : List ℕ) (r at : ℕ) (e : at ≡ place_by v 0) where
  pub short_answer : length b < at → 3 ≡ conversion_code v w b r
  unfolding conversion_code choose
  short_answer l = rw (lt-ltb (length b) (header_length_by v) (omega (arith, e)))

  module _ (l : at ≤ length b) where
    pub crowded_answer : 32 < get_or b 3 0 → 4 ≡ conversion_code v w b r
    unfolding conversion_code choose
    crowded_answer k = rw (le-ltb (length b) (header_length_by v) (omega (arith, e)), lt-ltb 32 (get_or b 3 0) k)

    pub bad_answer : get_or b 3 0 ≤ 32 → is_record v b ≡ false → 3 ≡ conversion_code v w b r
    unfolding conversion_code choose
    bad_answer k n = rw (le-ltb (length b) (header_length_by v) (omega (arith, e)), le-ltb 32 (get_or b 3 0) k, n)

-- the code's two tests
pub tested : (v : ℕ) (b : List ℕ) (t k : Bool) → t ≡ well_formed_by v b → k ≡ kind_in_form v (get_or b 0 0) → (t && k) ≡ is_record v b
unfolding is_record rec_of_by header_of_by
tested v b t k p q = rw (p, q)

-- ---- what an answer of 0 says

accepted_by : (s t m f r : Bool) → ◌≡◌ {A = ℕ} (choose s 3 (choose t 4 (choose (not m) 3 (choose (not f) 19 (choose r 9 0))))) 0 → (m ≡ true) × ((f ≡ true) × (r ≡ false))
unfolding choose
accepted_by true t m f r e = absurd (omega (arith, e))
accepted_by false true m f r e = absurd (omega (arith, e))
accepted_by false false false f r e = absurd (omega (arith, e))
accepted_by false false true false r e = absurd (omega (arith, e))
accepted_by false false true true true e = absurd (omega (arith, e))
accepted_by false false true true false e = (refl, (refl, refl))

pub record Accepted (v w : ℕ) (b : List ℕ) (r : ℕ) : Type 0 where
  pub sound : is_record v b ≡ true
  pub well : well_formed_by v b ≡ true
  pub form : has_form w (rec_of_by v b) ≡ true
  pub fits : size_by w (rec_of_by v b) ≤ r

pub accepted : (v w : ℕ) (b : List ℕ) (r : ℕ) → conversion_code v w b r ≡ 0 → Accepted v w b r
unfolding conversion_code
accepted v w b r e =
    let a = accepted_by (ltb (length b) (header_length_by v)) (ltb 32 (get_or b 3 0)) (is_record v b) (has_form w (rec_of_by v b)) (ltb r (size_by w (rec_of_by v b))) e in
    record { sound = a.0; well = well_of v b a.0; form = a.1.0; fits = ltb-false _ _ a.1.1 }

-- a record that has a form has a whole length of two bytes
pub size_small : (w : ℕ) (e : Rec) → has_form w e ≡ true → size_by w e < 65536
unfolding has_form
size_small w e y =
    let z : Bool = ltb (size_by w e) 65536 in
    let i : Bool = ids_fit w e.nodes in
    let s : Bool = ltb e.second (256 ^ w) in
    let p : Bool = ltb e.peer (256 ^ w) in
    ltb-true _ _ (and_right i z (and_right s (i && z) (and_right p (s && (i && z)) (and_right (kind_in_form w e.kind) (p && (s && (i && z))) y))))

-- ---- bytes stored at the front of zeroes

-- what `fill` leaves
pub zeroes : (k : ℕ) → replicate {A = ℕ} k 0 ≡ pad 0 k []
unfolding pad
zeroes zero = refl
zeroes (suc k) = ap (λ (l : List ℕ). 0 ∷ l) (zeroes k)

pad_front : (n : ℕ) (bs : List ℕ) → length bs ≤ n → bs ++ drop (length bs) (pad 0 n []) ≡ pad 0 n bs
unfolding pad
pad_front zero [] h = refl
pad_front zero (x ∷ bs) h = absurd (not-suc-le-zero h)
pad_front (suc n) [] h = refl
pad_front (suc n) (x ∷ bs) h = ap (λ (l : List ℕ). x ∷ l) (pad_front n bs (le_of_suc-le-suc h))

stored : (n : ℕ) (bs : List ℕ) → length bs ≤ n → overwrite (pad 0 n []) 0 bs ≡ pad 0 n bs
stored n bs h = overwrite_is (pad 0 n []) 0 bs (omega (arith, h, length_pad {A = ℕ} 0 n [])) ∙ (let z : 0 + length bs ≡ length bs = omega arith in rw z (pad_front n bs h))

-- ---- the whole outcome

pub converted_fits : (v w : ℕ) (b : List ℕ) (r : ℕ) → length (converted v w b r) ≤ r
unfolding converted
converted_fits v w b r =
    by_choice (λ (bs : List ℕ). length bs ≤ r) (eqb (conversion_code v w b r) 0)
    (λ y. omega (arith, length_encode_by w (rec_of_by v b), (accepted v w b r (eqb-true _ _ y)).fits)) (λ n. omega arith)

-- onto zeroes
pub placed_zeroes : (v w : ℕ) (b out : List ℕ) (r : ℕ) (x : Conversion) → out ≡ pad 0 r [] → x ≡ placed v w b out → x ≡ conversion v w b r
unfolding placed conversion outcome
placed_zeroes v w b out r x q e =
    let n : length out ≡ r = ap length q ∙ length_pad {A = ℕ} 0 r [] in
    e ∙ (λ j. record {
      code = conversion_code v w b (n j);
      written = length (converted v w b (n j));
      output = overwrite (q j) 0 (converted v w b (n j));
    })
    ∙ ap (λ (o : List ℕ). record { code = conversion_code v w b r; written = length (converted v w b r); output = o }) (stored r (converted v w b r) (converted_fits v w b r))

-- no refusal has the code 0
pub refusal_some : (r : Refusal) → refusal_code r ≡ 0 → ⊥
refusal_some Settings z = absurd (omega (arith, z))
refusal_some State z = absurd (omega (arith, z))
refusal_some Malformed z = absurd (omega (arith, z))
refusal_some Nodes z = absurd (omega (arith, z))
refusal_some Draws z = absurd (omega (arith, z))
refusal_some Requests z = absurd (omega (arith, z))
refusal_some RefusedPeers z = absurd (omega (arith, z))
refusal_some Data z = absurd (omega (arith, z))
refusal_some Output z = absurd (omega (arith, z))
refusal_some Counter z = absurd (omega (arith, z))
refusal_some RadioNodes z = absurd (omega (arith, z))
refusal_some PinStranger z = absurd (omega (arith, z))
refusal_some PinLimit z = absurd (omega (arith, z))
refusal_some NoOtherForm z = absurd (omega (arith, z))

module _ (v w : ℕ) (b out : List ℕ) where
  pub refused_placed : (r : Refusal) → refusal_code r ≡ conversion_code v w b (length out) → outcome_of (Err r) out ≡ placed v w b out
  unfolding placed converted choose overwrite
  refused_placed r p = rw (← p, ne_eqb (refusal_code r) 0 (refusal_some r))

  pub done_placed : (h : Header) (o : List ℕ) → 0 ≡ conversion_code v w b (length out) → h ≡ resized (header_of_by v b) (size_by w (rec_of_by v b)) → o ≡ overwrite out 0 (encode_by w (rec_of_by v b))
      → outcome_of (Ok h.size) o ≡ placed v w b out
  unfolding placed converted choose
  done_placed h o p d s =
      let a : conversion_code v w b (length out) ≡ 0 = sym p in
      let n : h.size ≡ length (encode_by w (rec_of_by v b)) = ap (λ (y : Header). y.size) d ∙ sym (length_encode_by w (rec_of_by v b)) in
      rw (a, n, s)
