-- The nodes of a record, one by one: what the reader may count on at each of them.
-- Assumes nothing.
use Prim.Native.Nat.{ℕ, zero, suc, ◌+◌, ◌*◌, ◌-◌, ◌≤◌, ◌<◌}
use mathlib.Core.Path.{◌≡◌, refl, sym, ap, ◌∙◌}
use mathlib.Core.Bool.{true, ◌&&◌}
use mathlib.Core.List.{List}
use mathlib.Core.Option.{none, some}
use native.Mathlib.Nat.{not-suc-le-zero, mul-le-mul_left}
use native.Mathlib.Omega.{arith}
use lib.ListN.{length}
use lib.Seq.{slice, length-slice}
use lib.Dec.{leb, eqb}
use borrow.Author.Tests.{eq-eqb, ne_eqb, le-leb}
use Rattle.base_lists.specs.Lists.{choose}
use Rattle.base_lists.proofs.Choice.{choose_yes, choose_no, and_left, and_right}
use Rattle.base_peer.specs.Data.{bytes_of}
use Rattle.base_peer.specs.Held.{data_in, taken, node_in}
use Rattle.base_peer.specs.declared.PeerData.{PeerData}
use Rattle.std.specs.Prelude.{Option, None}
use Rattle.record.specs.Format.{peer_length, header_length, node_length, node_length_by, place_by, present}
use Rattle.record.specs.Read.{header_of, header_of_by, entry_at, entry_at_by, data_ok, id_ok, present_ok, entry_ok, entries_ok_by, well_formed, well_formed_by, data_at, node_at, node_at_by, nodes_of, nodes_of_by}
use Rattle.record.specs.declared.Header.{Header}
use Rattle.record.specs.declared.Entry.{Entry}
use Rattle.record.proofs.Laws.{entries_reach}
use Rattle.record.proofs.Back.{Sound, sound, parts}

-- the i-th entry of b: its bytes and its data stand within b, the data are those that it points at, at most 16 bytes
pub record EntryIn (w : ℕ) (b : List ℕ) (i : ℕ) : Type 0 where
  pub room : place_by w i + node_length_by w ≤ length b
  pub within : (entry_at_by w b i).offset + (entry_at_by w b i).len ≤ length b
  pub few : (entry_at_by w b i).len ≤ 16
  pub bytes : bytes_of (data_at b (entry_at_by w b i)) ≡ slice (entry_at_by w b i).offset ((entry_at_by w b i).offset + (entry_at_by w b i).len) b
  pub there : present (data_at b (entry_at_by w b i)) ≡ (entry_at_by w b i).present

module _ (w : ℕ) (h : Header) (b : List ℕ) where
  -- the data of the k-th entry from the i-th on stand at some place `at`
  record Stands (j : ℕ) : Type 0 where
    at : ℕ
    sound_there : Sound b (entry_at_by w b j).present (entry_at_by w b j).offset (entry_at_by w b j).len at (data_at b (entry_at_by w b j))
    reach : at + (entry_at_by w b j).len ≤ length b

  first : (i n at : ℕ) → entries_ok_by w h b i (suc n) at ≡ true → Stands i
  unfolding entries_ok_by entry_ok
  first i n at t =
      let e = entry_at_by w b i in
      let rest = entries_ok_by w h b (suc i) n (at + e.len) in
      record {
        at = at;
        sound_there = sound b e at (and_left (data_ok e at) (id_ok h e.id && present_ok h e.present) (and_left (entry_ok h e at) rest t));
        reach = entries_reach w h b (suc i) n (at + e.len) (and_right (entry_ok h e at) rest t);
      }

  stands : (n i at k : ℕ) → entries_ok_by w h b i n at ≡ true → k < n → Stands (i + k)
  unfolding entries_ok_by
  stands zero i at k t l = absurd (not-suc-le-zero l)
  stands (suc n) i at zero t l = (let z : i + 0 ≡ i = omega arith in rw z (first i n at t))
  stands (suc n) i at (suc k) t l =
      let z : i + suc k ≡ suc i + k = omega arith in
      rw z (stands n (suc i) (at + (entry_at_by w b i).len) k (and_right (entry_ok h (entry_at_by w b i) at) (entries_ok_by w h b (suc i) n (at + (entry_at_by w b i).len)) t) (omega arith))

module _ (w : ℕ) (b : List ℕ) (t : well_formed_by w b ≡ true) (i : ℕ) (l : i < (header_of_by w b).nodes) where
  abbrev n : ℕ
  n = (header_of_by w b).nodes

  pub entry_in : EntryIn w b i
  entry_in =
      let listed : entries_ok_by w (header_of_by w b) b 0 n (place_by w n) ≡ true = (parts w b t).listed in
      let z : 0 + i ≡ i = omega arith in
      let s : Stands w (header_of_by w b) b i = rw z at (stands w (header_of_by w b) b n 0 (place_by w n) i listed l) in
      record {
        room = omega (arith, mul-le-mul_left (node_length_by w) l, entries_reach w (header_of_by w b) b 0 n (place_by w n) listed);
        within = omega (arith, s.reach, s.sound_there.low);
        few = s.sound_there.few;
        bytes = s.sound_there.own;
        there = s.sound_there.there;
      }

pub length_nodes_of : (b : List ℕ) (i n : ℕ) → length (nodes_of b i n) ≡ n
unfolding nodes_of_by
length_nodes_of b i zero = refl
length_nodes_of b i (suc n) = ap suc (length_nodes_of b (suc i) n)

-- ---- a node's data by value

module _ (b : List ℕ) (e : Entry) where
  pub absent_held : e.present ≡ 0 → data_in None ≡ data_at b e
  unfolding data_at data_in
  absent_held z = sym (choose_yes (eqb e.present 0) none (some (slice e.offset (e.offset + e.len) b)) (eq-eqb _ _ z))

  pub present_held : (r : Option PeerData) (x : List ℕ) → (e.present ≡ 0 → ⊥) → e.offset + e.len ≤ length b → e.len ≤ 16 → x ≡ slice e.offset (e.offset + e.len) b → data_in r ≡ taken x → data_in r ≡ data_at b e
  unfolding data_at taken
  present_held r x z w f q h =
      let s : List ℕ = slice e.offset (e.offset + e.len) b in
      let l : length s ≡ e.len = length-slice e.offset (e.offset + e.len) b w ∙ (let k : e.offset + e.len - e.offset ≡ e.len = omega arith in k) in
      let t : choose (leb (length s) 16) (some s) none ≡ some s = choose_yes (leb (length s) 16) (some s) none (le-leb (length s) 16 (omega arith)) in
      let d : data_at b e ≡ some s = choose_no (eqb e.present 0) none (some s) (ne_eqb _ _ z) in
      h ∙ ap taken q ∙ t ∙ sym d

pub node_held : (b : List ℕ) (i : ℕ) (e : Entry) (d : Option PeerData) → e ≡ entry_at b i → data_in d ≡ data_at b e → node_in (record { id = e.id; «data» = d }) ≡ node_at b i
unfolding node_at_by node_in
node_held b i e d q h = λ j. record { id = (q j).id; data_of = (h ∙ ap (data_at b) q) j }

-- ---- what the code asks of an entry that it read

module _ (b : List ℕ) (i : ℕ) (t : well_formed b ≡ true) (l : i < (header_of b).nodes) where
  pub entry_room : header_length + node_length * i + node_length ≤ length b
  entry_room = (entry_in peer_length b t i l).room

  pub entry_within : (e : Entry) → e ≡ entry_at b i → e.offset + e.len ≤ length b
  entry_within e q = omega (arith, (entry_in peer_length b t i l).within, ap (λ (x : Entry). x.offset) q, ap (λ (x : Entry). x.len) q)

  pub entry_few : (e : Entry) → e ≡ entry_at b i → e.len ≤ 16
  entry_few e q = omega (arith, (entry_in peer_length b t i l).few, ap (λ (x : Entry). x.len) q)
