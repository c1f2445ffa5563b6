-- Which records have both forms.
-- Assumes nothing.
use Prim.Native.Nat.{ℕ, ◌^◌, ◌≤◌, ◌<◌}
use mathlib.Core.Path.{◌≡◌, refl, sym, ap, ◌∙◌}
use mathlib.Core.Bool.{Bool, true, false, not, ◌&&◌, ◌||◌}
use mathlib.Core.List.{List, [], ◌∷◌}
use native.Mathlib.Nat.{pow-le-pow_right, lt_of_lt_of_le}
use native.Mathlib.Omega.{arith}
use borrow.Author.Tests.{lt-ltb, le-ltb, ltb-true, leb-true, leb-false}
use lib.Dec.{leb, ltb, eqb}
use Rattle.base_lists.specs.Tests.{every}
use Rattle.base_lists.proofs.Choice.{split, and_left, and_right}
use Rattle.base_peer.specs.Data.{Node}
use Rattle.record.specs.Format.{Rec, peer_length, old_peer_length, size_by, four_bytes_end}
use Rattle.record.specs.Kinds.{Pin, kind_byte}
use Rattle.record.specs.Read.{is_message, is_timer, is_data, kind_ok, flags_ok, count_ok, peer_ok, fields_ok, header_ok}
use Rattle.record.specs.InForm.{header_in_by, NodeInForm, NodesInFormBy, InFormBy}
use Rattle.record.proofs.Forth.{size_most_by}
use Rattle.record_convert.specs.Convert.{kind_in_form, ids_fit, has_form, large_id, large}

-- ---- in form by its numbers

module _ (e : Rec) (v w : ℕ) where
  -- the header's rules do not look at the whole length
  same_header : header_ok (header_in_by v e) ≡ header_ok (header_in_by w e)
  unfolding header_in_by header_ok kind_ok flags_ok count_ok peer_ok fields_ok is_message is_timer is_data
  same_header = refl

  node_in_form : (n : Node) → NodeInForm v (header_in_by v e) n → n.id < 256 ^ w → NodeInForm w (header_in_by w e) n
  unfolding header_in_by is_message is_data
  node_in_form n f l = record { id = l; few = f.few; bytes = f.bytes; unnamed = f.unnamed; there = f.there }

  nodes_in_form : (ns : List Node) → NodesInFormBy v (header_in_by v e) ns → ids_fit w ns ≡ true → NodesInFormBy w (header_in_by w e) ns
  unfolding NodesInFormBy ids_fit every
  nodes_in_form [] f t = tt
  nodes_in_form (n ∷ ns) f t =
      (node_in_form n f.0 (ltb-true _ _ (and_left (ltb n.id (256 ^ w)) (ids_fit w ns) t)), nodes_in_form ns f.1 (and_right (ltb n.id (256 ^ w)) (ids_fit w ns) t))

  pub kind_of : has_form w e ≡ true → kind_in_form w e.kind ≡ true
  unfolding has_form
  kind_of t = and_left (kind_in_form w e.kind) (ltb e.peer (256 ^ w) && (ltb e.second (256 ^ w) && (ids_fit w e.nodes && ltb (size_by w e) 65536))) t

  -- a record of one form that has the other
  pub other_in_form : InFormBy v e → has_form w e ≡ true → InFormBy w e
  unfolding has_form
  other_in_form f t =
      let z : Bool = ltb (size_by w e) 65536 in
      let i : Bool = ids_fit w e.nodes in
      let s : Bool = ltb e.second (256 ^ w) in
      let p : Bool = ltb e.peer (256 ^ w) in
      let t₀ : (p && (s && (i && z))) ≡ true = and_right (kind_in_form w e.kind) (p && (s && (i && z))) t in
      let t₁ : (s && (i && z)) ≡ true = and_right p (s && (i && z)) t₀ in
      record {
        header = sym same_header ∙ f.header;
        peer = ltb-true _ _ (and_left p (s && (i && z)) t₀);
        second = ltb-true _ _ (and_left s (i && z) t₁);
        ttl = f.ttl;
        number = f.number;
        nodes = nodes_in_form e.nodes f.nodes (and_left i z (and_right s (i && z) t₁));
      }

-- ---- a record in form has that form, and each wider one

wide : {w v x : ℕ} → w ≤ v → x < 256 ^ w → x < 256 ^ v
wide l h = lt_of_lt_of_le h (pow-le-pow_right (omega arith) l)

module _ (w v : ℕ) (e : Rec) (l : w ≤ v) where
  wide_ids : (ns : List Node) → NodesInFormBy w (header_in_by w e) ns → ids_fit v ns ≡ true
  unfolding NodesInFormBy ids_fit every
  wide_ids [] f = refl
  wide_ids (n ∷ ns) f = rw (lt-ltb n.id (256 ^ v) (wide l f.0.id)) (wide_ids ns f.1)

  wide_in_form : InFormBy w e → InFormBy v e
  wide_in_form f = record {
    header = sym (same_header e w v) ∙ f.header;
    peer = wide l f.peer;
    second = wide l f.second;
    ttl = f.ttl;
    number = f.number;
    nodes = nodes_in_form e w v e.nodes f.nodes (wide_ids e.nodes f.nodes);
  }

  pub wide_form : v ≤ peer_length → InFormBy w e → kind_in_form v e.kind ≡ true → has_form v e ≡ true
  unfolding has_form
  wide_form m f k =
      let g : InFormBy v e = wide_in_form f in
      rw (k, lt-ltb e.peer (256 ^ v) g.peer, lt-ltb e.second (256 ^ v) g.second, wide_ids e.nodes f.nodes) (lt-ltb (size_by v e) 65536 (omega (arith, size_most_by v m e g)))

-- ---- which records have no old form

over : (x n : ℕ) → ltb x n ≡ not (leb n x)
over x n = split (leb n x) (λ y. le-ltb x n (leb-true n x y) ∙ sym (ap not y)) (λ y. lt-ltb x n (leb-false n x y) ∙ sym (ap not y))

all_over : (ns : List Node) → ids_fit old_peer_length ns ≡ not (large_id ns)
unfolding ids_fit every large_id
all_over [] = refl
all_over (n ∷ ns) = rw (over n.id four_bytes_end, all_over ns) (neither (leb four_bytes_end n.id) (large_id ns))
  where
    neither : (a b : Bool) → (not a && not b) ≡ not (a || b)
    neither true b = refl
    neither false b = refl

none_of : (k a b c : Bool) → (not k && (not a && (not b && (not c && true)))) ≡ not (k || (a || (b || c)))
none_of true a b c = refl
none_of false true b c = refl
none_of false false true c = refl
none_of false false false true = refl
none_of false false false false = refl

pub old_form_of : (e : Rec) → InFormBy peer_length e → has_form old_peer_length e ≡ not (eqb e.kind (kind_byte Pin) || large e)
unfolding has_form kind_in_form large size_by
old_form_of e f =
    rw (over e.peer four_bytes_end, over e.second four_bytes_end, all_over e.nodes, lt-ltb (size_by old_peer_length e) 65536 (omega (arith, size_most_by peer_length (omega arith) e f)))
    (none_of (eqb e.kind (kind_byte Pin)) (leb four_bytes_end e.peer) (leb four_bytes_end e.second) (large_id e.nodes))
