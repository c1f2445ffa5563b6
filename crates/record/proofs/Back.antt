-- Bytes that are a record are the bytes of what they say.
-- Assumes nothing.
use Prim.Native.Nat.{ℕ, zero, suc, ◌+◌, ◌*◌, ◌-◌, ◌≤◌, ◌<◌}
use mathlib.Core.Path.{◌≡◌, refl, sym, ap, ◌∙◌, subst}
use mathlib.Core.Bool.{Bool, true, false, ◌&&◌}
use mathlib.Core.List.{List, [], ◌∷◌, ◌++◌}
use mathlib.Core.Option.{none, some}
use native.Mathlib.Omega.{arith}
use borrow.Author.Tests.{eqb-true, leb-true}
use lib.ListN.{length, get_or, length-append}
use lib.Seq.{slice, slice_empty, slice-cons, length-slice}
use lib.Dec.{leb, eqb}
use Rattle.base_lists.specs.Lists.{choose}
use Rattle.base_lists.specs.Bytes.{le, read_le}
use Rattle.base_lists.proofs.Choice.{choose_yes, choose_no, split, and_left, and_right}
use Rattle.base_lists.proofs.Slices.{slice_append, slice_whole, slice_each}
use Rattle.base_lists.proofs.Numbers.{Bytes, read_below, le_read, le_read_then}
use Rattle.base_peer.specs.Data.{Data, Node, bytes_of}
use Rattle.record.specs.Format.{Rec, header_length_by, node_length_by, place_by, present, offset, entry_by, entries_by, datas, size_by, header_by, encode_by}
use Rattle.record.specs.Read.{header_of_by, entry_from, entry_at_by, header_ok, data_ok, id_ok, present_ok, entry_ok, entries_ok_by, well_formed_by, data_at, node_at_by, nodes_of_by, rec_of_by, decode_by}
use Rattle.record.specs.InForm.{header_in_by, NodeInForm, NodesInFormBy, InFormBy}
use Rattle.record.specs.declared.Header.{Header}
use Rattle.record.specs.declared.Entry.{Entry}
use Rattle.record.proofs.Laws.{well_formed_long, entries_reach}

-- ---- one entry

-- an entry with these fields, whose data d stand at the place reached
pub record Sound (b : List ℕ) (p o l at : ℕ) (d : Data) : Type 0 where
  pub there : present d ≡ p
  pub place : offset d at ≡ o
  pub bytes : bytes_of d ≡ slice at (at + l) b
  pub own : bytes_of d ≡ slice o (o + l) b
  pub low : o ≤ at
  pub few : l ≤ 16

sound_by : (b : List ℕ) (p o l at : ℕ) (t : Bool) → t ≡ eqb p 0 → choose t (eqb o 0 && eqb l 0) (eqb p 1 && (eqb o at && leb l 16)) ≡ true
    → Sound b p o l at (choose t none (some (slice o (o + l) b)))
unfolding choose present offset bytes_of
sound_by b p o l at true q h =
    let z : l ≡ 0 = eqb-true l 0 (and_right (eqb o 0) (eqb l 0) h) in
    let o₀ : o ≡ 0 = eqb-true o 0 (and_left (eqb o 0) (eqb l 0) h) in
    let e : at + l ≡ at = omega arith in
    let e₀ : o + l ≡ 0 = omega arith in
    record {
      there = sym (eqb-true p 0 (sym q));
      place = sym o₀;
      bytes = rw e (sym (slice_empty at b));
      own = rw (e₀, o₀) (sym (slice_empty 0 b));
      low = omega arith;
      few = omega arith;
    }
sound_by b p o l at false q h =
    let r : (eqb o at && leb l 16) ≡ true = and_right (eqb p 1) (eqb o at && leb l 16) h in
    let e : o ≡ at = eqb-true o at (and_left (eqb o at) (leb l 16) r) in
    record {
      there = sym (eqb-true p 1 (and_left (eqb p 1) (eqb o at && leb l 16) h));
      place = sym e;
      bytes = rw e;
      own = refl;
      low = omega arith;
      few = leb-true l 16 (and_right (eqb o at) (leb l 16) r);
    }

pub sound : (b : List ℕ) (e : Entry) (at : ℕ) → data_ok e at ≡ true → Sound b e.present e.offset e.len at (data_at b e)
unfolding data_ok data_at
sound b e at h = sound_by b e.present e.offset e.len at (eqb e.present 0) refl h

two : (l : List ℕ) (i : ℕ) → i + 2 ≤ length l → get_or l i 0 ∷ get_or l (suc i) 0 ∷ [] ≡ slice i (i + 2) l
two l i h =
    let e : i + 2 ≡ suc (suc i) = omega arith in
    sym
    (slice-cons i (i + 2) l 0 (omega arith) h
    ∙ ap (λ (r : List ℕ). get_or l i 0 ∷ r) (slice-cons (suc i) (i + 2) l 0 (omega arith) h ∙ ap (λ (r : List ℕ). get_or l (suc i) 0 ∷ r) (rw e (slice_empty (suc (suc i)) l))))

module _ (w : ℕ) (b : List ℕ) (ok : Bytes b) (i at : ℕ) where
  abbrev e : Entry
  e = entry_at_by w b i

  abbrev place : ℕ
  place = place_by w i

  abbrev end : ℕ
  end = place + node_length_by w

  module _ (s : Sound b e.present e.offset e.len at (data_at b e)) (fits : at + e.len ≤ length b) (room : end ≤ length b) where
    length_data : length (bytes_of (data_at b e)) ≡ e.len
    length_data = ap length s.bytes ∙ length-slice at (at + e.len) b fits ∙ (let q : at + e.len - at ≡ e.len = omega arith in q)

    entry_back : entry_by w (node_at_by w b i) at ≡ slice place end b
    unfolding entry_by node_at_by entry_at_by entry_from
    entry_back =
        let k₂ : place + w + 2 ≡ place + (w + 2) = omega arith in
        let k₃ : place + (w + 3) ≡ suc (place + (w + 2)) = omega arith in
        let k₄ : place + (w + 2) + 2 ≡ end = omega arith in
        let q₀ : le w (read_le w b place) ++ slice (place + w) end b ≡ slice place end b = le_read_then w b place end ok (omega arith) room in
        let q₁ : le 2 (read_le 2 b (place + w)) ++ slice (place + (w + 2)) end b ≡ slice (place + w) end b = rw (← k₂) (le_read_then 2 b (place + w) end ok (omega arith) room) in
        let q₂ : get_or b (place + (w + 2)) 0 ∷ get_or b (place + (w + 3)) 0 ∷ [] ≡ slice (place + (w + 2)) end b = rw (k₃, ← k₄) (two b (place + (w + 2)) (omega arith)) in
        (λ j. le w (read_le w b place) ++ (le 2 (s.place j) ++ (length_data j ∷ s.there j ∷ [])))
        ∙ ap (λ (r : List ℕ). le w (read_le w b place) ++ (le 2 (read_le 2 b (place + w)) ++ r)) q₂ ∙ ap (λ (r : List ℕ). le w (read_le w b place) ++ r) q₁ ∙ q₀

    node_form : (h : Header) → id_ok h e.id ≡ true → present_ok h e.present ≡ true → NodeInForm w h (node_at_by w b i)
    unfolding node_at_by entry_at_by entry_from
    node_form h p q = record {
      id = read_below w b place ok;
      few = omega (arith, length_data, s.few);
      bytes = λ k. rw s.bytes (slice_each (λ (x : ℕ). x < 256) 0 at (at + e.len) b (omega arith) ok k);
      unnamed = p;
      there = rw s.there q;
    }

-- ---- all entries

pub record Back (w : ℕ) (h : Header) (b : List ℕ) (i n at : ℕ) : Type 0 where
  pub count : length (nodes_of_by w b i n) ≡ n
  pub reach : at + length (datas (nodes_of_by w b i n)) ≡ length b
  pub entries_are : entries_by w (nodes_of_by w b i n) at ≡ slice (place_by w i) (place_by w (i + n)) b
  pub datas_are : datas (nodes_of_by w b i n) ≡ slice at (length b) b
  pub form : NodesInFormBy w h (nodes_of_by w b i n)

module _ (w : ℕ) (h : Header) (b : List ℕ) (ok : Bytes b) where
  back_end : (i at : ℕ) → at ≡ length b → Back w h b i 0 at
  unfolding nodes_of_by entries_by datas NodesInFormBy
  back_end i at e =
      let z : i + 0 ≡ i = omega arith in
      record {
        count = refl;
        reach = omega arith;
        entries_are = rw z (sym (slice_empty (place_by w i) b));
        datas_are = rw e (sym (slice_empty (length b) b));
        form = tt;
      }

  back_next : (i n at : ℕ) → place_by w (i + suc n) ≤ length b → entry_ok h (entry_at_by w b i) at ≡ true → Back w h b (suc i) n (at + (entry_at_by w b i).len) → Back w h b i (suc n) at
  unfolding nodes_of_by entries_by datas NodesInFormBy entry_ok node_at_by
  back_next i n at room good r =
      let e : Entry = entry_at_by w b i in
      let p : ℕ = place_by w i in
      let ids : (id_ok h e.id && present_ok h e.present) ≡ true = and_right (data_ok e at) (id_ok h e.id && present_ok h e.present) good in
      let s : Sound b e.present e.offset e.len at (data_at b e) = sound b e at (and_left (data_ok e at) (id_ok h e.id && present_ok h e.present) good) in
      let fits : at + e.len ≤ length b = omega (arith, r.reach) in
      let last : place_by w (suc i + n) ≡ place_by w (i + suc n) = omega arith in
      let step : place_by w (suc i) ≡ p + node_length_by w = omega arith in
      let more : p + node_length_by w ≤ place_by w (i + suc n) = omega arith in
      let here : p + node_length_by w ≤ length b = omega arith in
      let l : length (bytes_of (data_at b e)) ≡ e.len = length_data w b ok i at s fits here in
      record {
        count = ap suc r.count;
        reach = omega (arith, length-append (bytes_of (data_at b e)) (datas (nodes_of_by w b (suc i) n)), l, r.reach);
        entries_are =
            (λ j. entry_back w b ok i at s fits here j ++ entries_by w (nodes_of_by w b (suc i) n) (at + l j))
            ∙ ap (λ (x : List ℕ). slice p (p + node_length_by w) b ++ x) (r.entries_are ∙ rw (last, step))
            ∙ slice_append p (p + node_length_by w) (place_by w (i + suc n)) b (omega arith) more room;
        datas_are = (λ j. s.bytes j ++ r.datas_are j) ∙ slice_append at (at + e.len) (length b) b (omega arith) fits (omega arith);
        form = (node_form w b ok i at s fits here h (and_left (id_ok h e.id) (present_ok h e.present) ids) (and_right (id_ok h e.id) (present_ok h e.present) ids), r.form);
      }

  back : (i n at : ℕ) → place_by w (i + n) ≤ length b → entries_ok_by w h b i n at ≡ true → Back w h b i n at
  unfolding entries_ok_by
  back i zero at room good = back_end i at (eqb-true at (length b) good)
  back i (suc n) at room good =
      back_next i n at room (and_left (entry_ok h (entry_at_by w b i) at) (entries_ok_by w h b (suc i) n (at + (entry_at_by w b i).len)) good)
      (back (suc i) n (at + (entry_at_by w b i).len) (omega arith) (and_right (entry_ok h (entry_at_by w b i) at) (entries_ok_by w h b (suc i) n (at + (entry_at_by w b i).len)) good))

-- ---- the whole record

-- what the bytes of a record meet
pub record Parts (w : ℕ) (b : List ℕ) : Type 0 where
  pub long : header_length_by w ≤ length b
  pub heads : header_ok (header_of_by w b) ≡ true
  pub sized : (header_of_by w b).size ≡ length b
  pub listed : entries_ok_by w (header_of_by w b) b 0 (header_of_by w b).nodes (place_by w (header_of_by w b).nodes) ≡ true

pub parts : (w : ℕ) (b : List ℕ) → well_formed_by w b ≡ true → Parts w b
unfolding well_formed_by
parts w b t =
    let h : Header = header_of_by w b in
    let n : Bool = entries_ok_by w h b 0 h.nodes (place_by w h.nodes) in
    let t₁ : (header_ok h && (eqb h.size (length b) && n)) ≡ true = and_right (leb (header_length_by w) (length b)) (header_ok h && (eqb h.size (length b) && n)) t in
    let t₂ : (eqb h.size (length b) && n) ≡ true = and_right (header_ok h) (eqb h.size (length b) && n) t₁ in
    record {
      long = well_formed_long w b t;
      heads = and_left (header_ok h) (eqb h.size (length b) && n) t₁;
      sized = eqb-true h.size (length b) (and_left (eqb h.size (length b)) n t₂);
      listed = and_right (eqb h.size (length b)) n t₂;
    }

-- the header's bytes are those that stood there
header_slice : (w : ℕ) (b : List ℕ) → Bytes b → header_length_by w ≤ length b → (n z : ℕ) → n ≡ get_or b 3 0 → z ≡ read_le 2 b (6 + 2 * w)
    → get_or b 0 0 ∷ get_or b 1 0 ∷ get_or b 2 0 ∷ n ∷ (le w (read_le w b 4) ++ (le w (read_le w b (4 + w)) ++ (le 2 (read_le 2 b (4 + 2 * w)) ++ (le 2 z ++ le 8 (read_le 8 b (8 + 2 * w))))))
    ≡ slice 0 (header_length_by w) b
header_slice w b ok long n z p q =
    let t : ℕ = header_length_by w in
    let e₂ : 4 + w + w ≡ 4 + 2 * w = omega arith in
    let e₆ : 4 + 2 * w + 2 ≡ 6 + 2 * w = omega arith in
    let e₈ : 6 + 2 * w + 2 ≡ 8 + 2 * w = omega arith in
    let e₉ : 8 + 2 * w + 8 ≡ t = omega arith in
    let qₙ : le 8 (read_le 8 b (8 + 2 * w)) ≡ slice (8 + 2 * w) t b = rw (← e₉) (le_read 8 b (8 + 2 * w) ok (omega arith)) in
    let q_z : le 2 z ++ slice (8 + 2 * w) t b ≡ slice (6 + 2 * w) t b = rw (q, ← e₈) (le_read_then 2 b (6 + 2 * w) t ok (omega arith) long) in
    let qₜ : le 2 (read_le 2 b (4 + 2 * w)) ++ slice (6 + 2 * w) t b ≡ slice (4 + 2 * w) t b = rw (← e₆) (le_read_then 2 b (4 + 2 * w) t ok (omega arith) long) in
    let qₛ : le w (read_le w b (4 + w)) ++ slice (4 + 2 * w) t b ≡ slice (4 + w) t b = rw (← e₂) (le_read_then w b (4 + w) t ok (omega arith) long) in
    let qₚ : le w (read_le w b 4) ++ slice (4 + w) t b ≡ slice 4 t b = le_read_then w b 4 t ok (omega arith) long in
    let q₃ : n ∷ slice 4 t b ≡ slice 3 t b = rw p (sym (slice-cons 3 t b 0 (omega arith) long)) in
    let q₂ : get_or b 2 0 ∷ slice 3 t b ≡ slice 2 t b = sym (slice-cons 2 t b 0 (omega arith) long) in
    let q₁ : get_or b 1 0 ∷ slice 2 t b ≡ slice 1 t b = sym (slice-cons 1 t b 0 (omega arith) long) in
    let q₀ : get_or b 0 0 ∷ slice 1 t b ≡ slice 0 t b = sym (slice-cons 0 t b 0 (omega arith) long) in
    cc

module _ (w : ℕ) (b : List ℕ) (ok : Bytes b) (t : well_formed_by w b ≡ true) where
  abbrev count : ℕ
  count = (header_of_by w b).nodes

  abbrev start : ℕ
  start = place_by w count

  the_parts : Parts w b
  the_parts = parts w b t

  pub room : start ≤ length b
  room = entries_reach w (header_of_by w b) b 0 count start the_parts.listed

  pub all_back : Back w (header_of_by w b) b 0 count start
  all_back = let z : 0 + count ≡ count = omega arith in back w (header_of_by w b) b ok 0 count start (rw z room) the_parts.listed

  size_back : size_by w (rec_of_by w b) ≡ (header_of_by w b).size
  unfolding size_by rec_of_by
  size_back = rw all_back.count (omega (arith, all_back.reach, the_parts.sized))

  pub header_back : header_in_by w (rec_of_by w b) ≡ header_of_by w b
  unfolding header_in_by rec_of_by
  header_back = λ j. record {
    kind = (header_of_by w b).kind;
    message = (header_of_by w b).message;
    flags = (header_of_by w b).flags;
    nodes = all_back.count j;
    peer = (header_of_by w b).peer;
    second = (header_of_by w b).second;
    ttl = (header_of_by w b).ttl;
    size = size_back j;
    number = (header_of_by w b).number;
  }

  header_again : header_by w (rec_of_by w b) ≡ slice 0 (header_length_by w) b
  unfolding header_by rec_of_by header_of_by
  header_again = header_slice w b ok the_parts.long (length (rec_of_by w b).nodes) (size_by w (rec_of_by w b)) all_back.count size_back

  abbrev ns : List Node
  ns = nodes_of_by w b 0 count

  entries_again : entries_by w ns (place_by w (length ns)) ≡ slice (header_length_by w) start b
  entries_again =
      let z : 0 + count ≡ count = omega arith in
      let o : place_by w 0 ≡ header_length_by w = omega arith in
      (λ j. entries_by w ns (place_by w (all_back.count j))) ∙ all_back.entries_are ∙ rw (z, o)

  pub encode_back : encode_by w (rec_of_by w b) ≡ b
  unfolding encode_by rec_of_by
  encode_back =
      (λ j. header_again j ++ (entries_again j ++ all_back.datas_are j))
      ∙ ap (λ (l : List ℕ). slice 0 (header_length_by w) b ++ l) (slice_append (header_length_by w) start (length b) b (omega arith) room (omega arith))
      ∙ slice_append 0 (header_length_by w) (length b) b (omega arith) the_parts.long (omega arith)
      ∙ slice_whole b

  pub in_form_back : InFormBy w (rec_of_by w b)
  unfolding rec_of_by header_of_by
  in_form_back = record {
    header = subst (λ (h : Header). header_ok h ≡ true) (sym header_back) the_parts.heads;
    peer = read_below w b 4 ok;
    second = read_below w b (4 + w) ok;
    ttl = read_below 2 b (4 + 2 * w) ok;
    number = read_below 8 b (8 + 2 * w) ok;
    nodes = subst (λ (h : Header). NodesInFormBy w h ns) (sym header_back) all_back.form;
  }

pub decoded : (w : ℕ) (b : List ℕ) (e : Rec) → decode_by w b ≡ some e → (well_formed_by w b ≡ true) × (rec_of_by w b ≡ e)
unfolding decode_by
decoded w b e d =
    split (well_formed_by w b) (λ y. (y, let q : some (rec_of_by w b) ≡ some e = sym (choose_yes (well_formed_by w b) (some (rec_of_by w b)) none y) ∙ d in cc))
    (λ n. absurd (let q : none ≡ some e = sym (choose_no (well_formed_by w b) (some (rec_of_by w b)) none n) ∙ d in let z : ◌≡◌ {A = ℕ} 0 1 = cc in omega arith))
