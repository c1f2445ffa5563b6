-- Every record in form reads back from its bytes as it is.
-- Assumes nothing.
use Prim.Native.Nat.{ℕ, suc, ◌+◌, ◌*◌, ◌^◌, ◌≤◌, ◌<◌}
use mathlib.Core.Path.{◌≡◌, refl, sym, ap, ◌∙◌, subst}
use mathlib.Core.Bool.{Bool, true, false, ◌&&◌, ◌||◌}
use mathlib.Core.List.{List, [], ◌∷◌, ◌++◌, append_assoc}
use mathlib.Core.Option.{none, some}
use native.Mathlib.Nat.{mul-le-mul_right}
use native.Mathlib.Omega.{arith}
use borrow.Author.Tests.{eq-eqb, le-leb, leb-true, eqb-true}
use lib.ListN.{length, length-append}
use lib.Dec.{leb, eqb}
use Rattle.base_lists.specs.Lists.{choose}
use Rattle.base_lists.specs.Bytes.{le}
use Rattle.base_lists.proofs.Choice.{choose_yes, and_left, and_right}
use Rattle.base_lists.proofs.Slices.{slice_mid}
use Rattle.base_lists.proofs.Bytes.{length_le}
use Rattle.base_lists.proofs.Numbers.{From, past, byte_from, number_from}
use Rattle.base_peer.specs.Data.{Data, Node, bytes_of}
use Rattle.record.specs.Format.{Rec, peer_length, header_length_by, node_length_by, place_by, present, offset, entry_by, entries_by, datas, size, size_by, header_by, encode, encode_by}
use Rattle.record.specs.Read.{header_of, header_of_by, entry_from, entry_at_by, is_message, is_data, kind_ok, flags_ok, count_ok, peer_ok, fields_ok, header_ok, data_ok, entry_ok, entries_ok_by, well_formed, well_formed_by, data_at, node_at_by, nodes_of_by, rec_of, rec_of_by, decode_by}
use Rattle.record.specs.InForm.{header_in, header_in_by, NodesInFormBy, InForm, InFormBy}
use Rattle.record.specs.declared.Header.{Header}
use Rattle.record.specs.Answers.{answer}
use Rattle.record.specs.declared.Entry.{Entry}
use Rattle.std.specs.Prelude.{Some}
use Rattle.record.proofs.Format.{length_entry, length_entries, length_header, length_encode_by}

both_true : (a b : Bool) → a ≡ true → b ≡ true → (a && b) ≡ true
both_true a b p q = rw (p, q)

-- ---- one entry

-- a node's entry, as it is read
abbrev entry_of : ℕ → Data → ℕ → Entry
entry_of id d at = record { id = id; offset = offset d at; len = length (bytes_of d); present = present d }

-- the entries of ns stand from the i-th on, and their data from place `at` on
record Placed (w : ℕ) (b : List ℕ) (ns : List Node) (i at : ℕ) : Type 0 where
  post : List ℕ
  entries_are : From b (place_by w i) (entries_by w ns at ++ post)
  data_are : From b at (datas ns)

offset_below : (d : Data) (at : ℕ) → at < 65536 → offset d at < 65536
unfolding offset
offset_below none at h = omega arith
offset_below (some b) at h = h

module _ (w : ℕ) {b : List ℕ} (n : Node) (at j : ℕ) (rest : List ℕ) where
  -- an entry, field by field
  entry_here : n.id < 256 ^ w → at < 65536 → From b j (entry_by w n at ++ rest) → entry_from w b j ≡ entry_of n.id n.data_of at
  unfolding entry_by entry_from
  entry_here h k f =
      let d : Data = n.data_of in
      let tail : List ℕ = length (bytes_of d) ∷ present d ∷ [] in
      let mid : List ℕ = le 2 (offset d at) in
      let q : (le w n.id ++ (mid ++ tail)) ++ rest ≡ le w n.id ++ (mid ++ (tail ++ rest)) =
      append_assoc (le w n.id) (mid ++ tail) rest ∙ ap (λ (l : List ℕ). le w n.id ++ l) (append_assoc mid tail rest) in
      let f₀ : From b j (le w n.id ++ (mid ++ (tail ++ rest))) = subst (λ (l : List ℕ). From b j l) q f in
      let f₁ : From b (j + w) (mid ++ (tail ++ rest)) = past (le w n.id) (mid ++ (tail ++ rest)) (j + w) (omega (arith, length_le w n.id)) f₀ in
      let f₂ : From b (j + (w + 2)) (tail ++ rest) = past mid (tail ++ rest) (j + (w + 2)) (omega (arith, length_le 2 (offset d at))) f₁ in
      let f₃ : From b (j + (w + 3)) (present d ∷ rest) = past (length (bytes_of d) ∷ []) (present d ∷ rest) (j + (w + 3)) (omega arith) f₂ in
      λ i. record {
        id = number_from w n.id (mid ++ (tail ++ rest)) h f₀ i;
        offset = number_from 2 (offset d at) (tail ++ rest) (offset_below d at k) f₁ i;
        len = byte_from (length (bytes_of d)) (present d ∷ rest) f₂ i;
        present = byte_from (present d) rest f₃ i;
      }

module _ {w : ℕ} {b : List ℕ} {n : Node} {ns : List Node} {i at : ℕ} (p : Placed w b (n ∷ ns) i at) where
  abbrev rest : List ℕ
  rest = entries_by w ns (at + length (bytes_of n.data_of)) ++ p.post

  here : From b (place_by w i) (entry_by w n at ++ rest)
  unfolding entries_by
  here = subst (λ (l : List ℕ). From b (place_by w i) l) (append_assoc (entry_by w n at) (entries_by w ns (at + length (bytes_of n.data_of))) p.post) p.entries_are

  placed_next : Placed w b ns (suc i) (at + length (bytes_of n.data_of))
  unfolding datas
  placed_next = record {
    post = p.post;
    entries_are = past (entry_by w n at) rest (place_by w (suc i)) (omega (arith, length_entry w n at)) here;
    data_are = past (bytes_of n.data_of) (datas ns) (at + length (bytes_of n.data_of)) refl p.data_are;
  }

  entry_read : n.id < 256 ^ w → at < 65536 → entry_at_by w b i ≡ entry_of n.id n.data_of at
  unfolding entry_at_by
  entry_read h k = entry_here w n at (place_by w i) rest h k here

-- the data that an entry points at
data_read : (b rest : List ℕ) (id : ℕ) (d : Data) (at : ℕ) → From b at (bytes_of d ++ rest) → data_at b (entry_of id d at) ≡ d
unfolding data_at choose present offset bytes_of
data_read b rest id none at f = refl
data_read b rest id (some d) at f = ap some (rw f.is (slice_mid f.pre d rest at f.long))

data_sound : (d : Data) (id at : ℕ) → length (bytes_of d) ≤ 16 → data_ok (entry_of id d at) at ≡ true
unfolding data_ok choose present offset bytes_of
data_sound none id at h = refl
data_sound (some d) id at h = rw (eq-eqb at at refl, le-leb _ _ h)

-- ---- all entries

datas_most : (w : ℕ) (h : Header) (ns : List Node) → NodesInFormBy w h ns → length (datas ns) ≤ 16 * length ns
unfolding datas NodesInFormBy
datas_most w h [] f = omega arith
datas_most w h (n ∷ ns) f = omega (arith, length-append (bytes_of n.data_of) (datas ns), f.0.few, datas_most w h ns f.1)

module _ (w : ℕ) (h : Header) (b : List ℕ) where
  entries_sound : (ns : List Node) (i at : ℕ) → Placed w b ns i at → NodesInFormBy w h ns → at + length (datas ns) ≡ length b → length b < 65536 → entries_ok_by w h b i (length ns) at ≡ true
  unfolding entries_ok_by entry_ok datas NodesInFormBy
  entries_sound [] i at p f l k = eq-eqb at (length b) (omega (arith, l))
  entries_sound (n ∷ ns) i at p f l k =
      let s : at + length (bytes_of n.data_of) + length (datas ns) ≡ length b = omega (arith, l, length-append (bytes_of n.data_of) (datas ns)) in
      let e : entry_at_by w b i ≡ entry_of n.id n.data_of at = entry_read p f.0.id (omega arith) in
      rw (e, data_sound n.data_of n.id at f.0.few, f.0.unnamed, f.0.there) (entries_sound ns (suc i) (at + length (bytes_of n.data_of)) (placed_next p) f.1 s k)

  nodes_back : (ns : List Node) (i at : ℕ) → Placed w b ns i at → NodesInFormBy w h ns → at + length (datas ns) ≡ length b → length b < 65536 → nodes_of_by w b i (length ns) ≡ ns
  unfolding nodes_of_by node_at_by datas NodesInFormBy
  nodes_back [] i at p f l k = refl
  nodes_back (n ∷ ns) i at p f l k =
      let s : at + length (bytes_of n.data_of) + length (datas ns) ≡ length b = omega (arith, l, length-append (bytes_of n.data_of) (datas ns)) in
      let e : entry_at_by w b i ≡ entry_of n.id n.data_of at = entry_read p f.0.id (omega arith) in
      let d : data_at b (entry_of n.id n.data_of at) ≡ n.data_of = data_read b (datas ns) n.id n.data_of at p.data_are in
      let r : nodes_of_by w b (suc i) (length ns) ≡ ns = nodes_back ns (suc i) (at + length (bytes_of n.data_of)) (placed_next p) f.1 s k in
      rw (e, d, r)

-- ---- the whole record

counted : (s t : Bool) (n : ℕ) → choose s (eqb n 1) (choose t (leb n 32) (eqb n 0)) ≡ true → n ≤ 32
unfolding choose
counted true t n e = omega (arith, eqb-true n 1 e)
counted false true n e = leb-true n 32 e
counted false false n e = omega (arith, eqb-true n 0 e)

count_few : (h : Header) → count_ok h ≡ true → h.nodes ≤ 32
unfolding count_ok
count_few h e = counted (is_message 0 h || (is_message 1 h || (is_message 4 h || is_data h))) (is_message 2 h || is_message 3 h) h.nodes e

pub count_most : (h : Header) → header_ok h ≡ true → h.nodes ≤ 32
unfolding header_ok
count_most h e =
    let rest : Bool = peer_ok h && fields_ok h in
    count_few h (and_left (count_ok h) rest (and_right (flags_ok h) (count_ok h && rest) (and_right (kind_ok h) (flags_ok h && (count_ok h && rest)) e)))

abbrev with_nodes : Rec → List Node → Rec
with_nodes e ns = record {
  kind = e.kind;
  message = e.message;
  flags = e.flags;
  peer = e.peer;
  second = e.second;
  ttl = e.ttl;
  number = e.number;
  nodes = ns;
}

module _ (w : ℕ) (wide : w ≤ peer_length) (e : Rec) (f : InFormBy w e) where
  abbrev start : ℕ
  start = place_by w (length e.nodes)

  few_nodes : length e.nodes ≤ 32
  unfolding header_in_by
  few_nodes = count_most (header_in_by w e) f.header

  -- 32 nodes of 16 bytes: the whole length fits two bytes
  pub size_most_by : size_by w e ≤ 928
  unfolding size_by
  size_most_by =
      omega (arith, wide, few_nodes, datas_most w (header_in_by w e) e.nodes f.nodes, mul-le-mul_right {m = node_length_by w} {n = 12} (length e.nodes) (omega (arith, wide)))

  pub header_read_by : header_of_by w (encode_by w e) ≡ header_in_by w e
  unfolding header_of_by encode_by header_by header_in_by
  header_read_by =
      let b : List ℕ = encode_by w e in
      let four : List ℕ = e.kind ∷ e.message ∷ e.flags ∷ length e.nodes ∷ [] in
      let last : List ℕ = entries_by w e.nodes start ++ datas e.nodes in
      let n : List ℕ = le 8 e.number in
      let z : List ℕ = le 2 (size_by w e) in
      let t : List ℕ = le 2 e.ttl in
      let s : List ℕ = le w e.second in
      let p : List ℕ = le w e.peer in
      let q : (p ++ (s ++ (t ++ (z ++ n)))) ++ last ≡ p ++ (s ++ (t ++ (z ++ (n ++ last)))) =
      append_assoc p (s ++ (t ++ (z ++ n))) last
      ∙ ap (λ (l : List ℕ). p ++ l) (append_assoc s (t ++ (z ++ n)) last ∙ ap (λ (l : List ℕ). s ++ l) (append_assoc t (z ++ n) last ∙ ap (λ (l : List ℕ). t ++ l) (append_assoc z n last))) in
      let f₀ : From b 4 (p ++ (s ++ (t ++ (z ++ (n ++ last))))) = record { pre = four; is = ap (λ (l : List ℕ). four ++ l) q; long = refl } in
      let f₁ : From b (4 + w) (s ++ (t ++ (z ++ (n ++ last)))) = past p (s ++ (t ++ (z ++ (n ++ last)))) (4 + w) (omega (arith, length_le w e.peer)) f₀ in
      let f₂ : From b (4 + 2 * w) (t ++ (z ++ (n ++ last))) = past s (t ++ (z ++ (n ++ last))) (4 + 2 * w) (omega (arith, length_le w e.second)) f₁ in
      let f₃ : From b (6 + 2 * w) (z ++ (n ++ last)) = past t (z ++ (n ++ last)) (6 + 2 * w) (omega (arith, length_le 2 e.ttl)) f₂ in
      let f₄ : From b (8 + 2 * w) (n ++ last) = past z (n ++ last) (8 + 2 * w) (omega (arith, length_le 2 (size_by w e))) f₃ in
      λ j. record {
        kind = e.kind;
        message = e.message;
        flags = e.flags;
        nodes = length e.nodes;
        peer = number_from w e.peer (s ++ (t ++ (z ++ (n ++ last)))) f.peer f₀ j;
        second = number_from w e.second (t ++ (z ++ (n ++ last))) f.second f₁ j;
        ttl = number_from 2 e.ttl (z ++ (n ++ last)) f.ttl f₂ j;
        size = number_from 2 (size_by w e) (n ++ last) (omega (arith, size_most_by)) f₃ j;
        number = number_from 8 e.number last f.number f₄ j;
      }

  placed : Placed w (encode_by w e) e.nodes 0 start
  unfolding encode_by
  placed = record {
    post = datas e.nodes;
    entries_are = record { pre = header_by w e; is = refl; long = omega (arith, length_header w e) };
    data_are =
        past (entries_by w e.nodes start) (datas e.nodes) start (omega (arith, length_entries w e.nodes start))
        (record { pre = header_by w e; is = refl; long = length_header w e });
  }

  whole : start + length (datas e.nodes) ≡ length (encode_by w e)
  unfolding size_by
  whole = omega (arith, length_encode_by w e)

  small : length (encode_by w e) < 65536
  small = omega (arith, length_encode_by w e, size_most_by)

  pub well_formed_encode_by : well_formed_by w (encode_by w e) ≡ true
  unfolding well_formed_by header_in_by
  well_formed_encode_by =
      rw header_read_by
      (both_true _ _ (le-leb (header_length_by w) (length (encode_by w e)) (omega (arith, whole)))
      (both_true _ _ f.header
      (both_true _ _ (eq-eqb (size_by w e) (length (encode_by w e)) (sym (length_encode_by w e))) (entries_sound w (header_in_by w e) (encode_by w e) e.nodes 0 start placed f.nodes whole small))))

  pub rec_of_encode_by : rec_of_by w (encode_by w e) ≡ e
  unfolding rec_of_by header_in_by
  rec_of_encode_by = rw header_read_by (ap (λ (ns : List Node). with_nodes e ns) (nodes_back w (header_in_by w e) (encode_by w e) e.nodes 0 start placed f.nodes whole small))

  pub decode_encode : decode_by w (encode_by w e) ≡ some e
  unfolding decode_by
  decode_encode = choose_yes _ _ _ well_formed_encode_by ∙ ap some rec_of_encode_by

-- ---- in this form

abbrev as_wide : peer_length ≤ peer_length
as_wide = omega arith

module _ (e : Rec) (f : InForm e) where
  pub size_most : size e ≤ 928
  size_most = size_most_by peer_length as_wide e f

  pub header_read : header_of (encode e) ≡ header_in e
  header_read = header_read_by peer_length as_wide e f

  pub well_formed_encode : well_formed (encode e) ≡ true
  well_formed_encode = well_formed_encode_by peer_length as_wide e f

  pub rec_of_encode : rec_of (encode e) ≡ e
  rec_of_encode = rec_of_encode_by peer_length as_wide e f

  -- the one reader's answer to what was written
  pub answer_encode : answer (encode e) ≡ Some (header_in e)
  unfolding answer
  answer_encode = choose_yes _ _ _ well_formed_encode ∙ ap Some header_read
