-- What the reader promises of an event: a kind of event, data of at most 16 bytes, at most 32 nodes, a peer of 64 bits.
-- Assumes nothing.
use mathlib.Core.Path.{◌≡◌, sym, ◌∙◌}
use mathlib.Core.Bool.{true, ◌&&◌}
use mathlib.Core.List.{List, [], ◌∷◌}
use Prim.Native.Nat.{ℕ, zero, suc, ◌+◌, ◌*◌, ◌≤◌, ◌<◌}
use native.Mathlib.Omega.{arith}
use lib.ListN.{length, get_or, length-take, length-drop}
use lib.Seq.{slice}
use lib.Dec.{leb, ltb, eqb}
use borrow.Author.Tests.{leb-true, ltb-true, ltb-false}
use Rattle.base_lists.specs.Bytes.{read_le}
use Rattle.base_lists.proofs.Numbers.{read_below}
use Rattle.base_lists.proofs.Choice.{by_choice, choose_no, and_left, and_right}
use Rattle.record.specs.Kinds.{is_event_kind}
use Rattle.record.specs.Format.{Rec, peer_length, header_length, node_length}
use Rattle.record.specs.InForm.{InForm}
use Rattle.record.proofs.Back.{in_form_back}
use Rattle.record.proofs.Nodes.{length_nodes_of}
use Rattle.record.specs.Read as Rd
use Rattle.record.specs.Read.{Reading, refused, event, read_event, rec_of, rec_of_by, header_of, header_of_by, entry_at}
use Rattle.record.specs.declared.Header.{Header}
use Rattle.record.specs.declared.Entry.{Entry}
use Rattle.spec_hyparview.specs.Station.{peers_end}
use Rattle.spec_hyparview.specs.Rules.{all_under}
use Rattle.spec_hyparview.proofs.Law.{Short, ShortNodes}

pub record Readable (e : Rec) : Type 0 where
  pub known : is_event_kind e.kind ≡ true
  pub narrow : e.peer < peers_end
  pub shorts : ShortNodes e.nodes
  pub few : length e.nodes ≤ 32

-- bytes are below 256
pub byte_at : (b : List ℕ) (i : ℕ) → all_under 256 b ≡ true → get_or b i 0 < 256
unfolding all_under
byte_at [] i e = omega arith
byte_at (x ∷ xs) zero e = ltb-true x 256 (and_left (ltb x 256) (all_under 256 xs) e)
byte_at (x ∷ xs) (suc i) e = byte_at xs i (and_right (ltb x 256) (all_under 256 xs) e)

narrow_peer : (b : List ℕ) → all_under 256 b ≡ true → read_le peer_length b 4 < peers_end
narrow_peer b e = read_below peer_length b 4 (λ k. byte_at b k e)

length_part : (i n : ℕ) (b : List ℕ) → length (slice i (i + n) b) ≤ n
length_part i n b = simp (length-drop, length-take) (omega arith)

-- an entry that is sound has short data
short_entry : (b : List ℕ) (e : Entry) (at : ℕ) → Rd.data_ok e at ≡ true → Short (Rd.data_at b e)
unfolding Rd.data_ok Rd.data_at Short
short_entry b e at h =
    by_choice Short (eqb e.present 0) (λ z. tt)
    (λ z. let k : (eqb e.present 1 && (eqb e.offset at && leb e.len 16)) ≡ true = sym (choose_no (eqb e.present 0) _ _ z) ∙ h in
    let l : e.len ≤ 16 = leb-true e.len 16 (and_right (eqb e.offset at) _ (and_right (eqb e.present 1) _ k)) in
    omega (arith, length_part e.offset e.len b))

short_nodes : (h : Header) (b : List ℕ) (i n at : ℕ) → Rd.entries_ok h b i n at ≡ true → ShortNodes (Rd.nodes_of b i n)
unfolding Rd.entries_ok_by Rd.nodes_of_by Rd.node_at_by Rd.entry_ok ShortNodes
short_nodes h b i zero at e = tt
short_nodes h b i (suc n) at e = (
  short_entry b (entry_at b i) at (and_left (Rd.data_ok (entry_at b i) at) _ (and_left (Rd.entry_ok h (entry_at b i) at) _ e)),
  short_nodes h b (suc i) n _ (and_right (Rd.entry_ok h (entry_at b i) at) _ e),
)

-- a record of an event's kinds keeps them; its peer's width is that of the bytes, or of the type that it was read into
pub readable : (b : List ℕ) → Rd.well_formed b ≡ true → is_event_kind (header_of b).kind ≡ true → (header_of b).nodes ≤ 32 → (header_of b).peer < peers_end → Readable (rec_of b)
unfolding rec_of_by Rd.well_formed_by
readable b w known few narrow = record {
  known = known;
  narrow = narrow;
  shorts = short_nodes (header_of b) b 0 (header_of b).nodes (header_length + node_length * (header_of b).nodes)
      (and_right (eqb (header_of b).size (length b)) _ (and_right (Rd.header_ok (header_of b)) _ (and_right (leb header_length (length b)) _ w)));
  few = omega (arith, length_nodes_of b 0 (header_of b).nodes, few);
}

-- by cases: refused with 3 or 4, or an event in form that keeps its promises
pub by_form : (b : List ℕ) → all_under 256 b ≡ true → (X : Reading → Type 0) → ((c : ℕ) → 3 ≤ c → c ≤ 4 → X (refused c)) → (Readable (rec_of b) → InForm (rec_of b) → X (event (rec_of b))) → X (read_event b)
unfolding read_event Rd.is_event header_of_by
by_form b bytes X f g =
    by_choice X _ (λ e. f 3 (omega arith) (omega arith))
    (λ e. by_choice X (ltb 32 (get_or b 3 0)) (λ i. f 4 (omega arith) (omega arith))
    (λ i. by_choice X (Rd.well_formed b && Rd.is_event (header_of b))
    (λ w. let y = and_left (Rd.well_formed b) _ w in
    g (readable b y (and_left (is_event_kind (get_or b 0 0)) _ (and_right (Rd.well_formed b) _ w)) (let n = ltb-false 32 (get_or b 3 0) i in omega (arith, n)) (narrow_peer b bytes))
    (in_form_back peer_length b (λ k. byte_at b k bytes) y))
    (λ w. f 3 (omega arith) (omega arith))))

pub by_reading : (b : List ℕ) → all_under 256 b ≡ true → (X : Reading → Type 0) → ((c : ℕ) → 3 ≤ c → c ≤ 4 → X (refused c)) → (Readable (rec_of b) → X (event (rec_of b))) → X (read_event b)
by_reading b bytes X f g = by_form b bytes X f (λ w i. g w)
