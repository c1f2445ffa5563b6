-- The nodes of an event, taken one by one.
-- Assumes nothing.
use Prim.Native.Nat.{ℕ, suc, ◌+◌, ◌-◌, ◌≤◌, ◌<◌}
use mathlib.Core.Path.{◌≡◌, refl, ap, ◌∙◌}
use mathlib.Core.Bool.{Bool, true, false, ◌&&◌, ◌||◌}
use mathlib.Core.List.{List, [], ◌∷◌}
use native.Mathlib.Omega.{arith}
use lib.ListN.{length, take, length-map}
use Rattle.std.proofs.lemmas.List.{length-take-le}
use Rattle.base_lists.proofs.Array.{length_pad}
use Rattle.base_peer.specs.Held.{node_in}
use Rattle.record_writer.specs.declared.nodes.Nodes.{Nodes}
use Rattle.record_writer.specs.Nodes.{nodes_in}
use Rattle.record_writer.specs.Blank.{blank}
use lib.Dec.{leb, eqb}
use borrow.Author.Tests.{eqb-true, leb-true}
use Rattle.base_lists.specs.Lists.{choose}
use Rattle.base_lists.proofs.Choice.{and_left, and_right}
use Rattle.record.specs.declared.Header.{Header}
use Rattle.record.specs.Format.{peer_length, most_nodes}
use Rattle.record.specs.Read.{header_of, is_message, is_data, kind_ok, flags_ok, count_ok, peer_ok, fields_ok, header_ok, well_formed, node_at, nodes_of, nodes_of_by}
use Rattle.record.proofs.Back.{parts}

-- the node at i, and those after it
pub nodes_from : (b : List ℕ) (i n : ℕ) → i < n → nodes_of b i (n - i) ≡ node_at b i ∷ nodes_of b (i + 1) (n - (i + 1))
unfolding nodes_of_by
nodes_from b i n h =
    let e : n - i ≡ suc (n - (i + 1)) = omega arith in
    let q : suc i ≡ i + 1 = omega arith in
    ap (nodes_of b i) e ∙ ap (λ (j : ℕ). node_at b i ∷ nodes_of b j (n - (i + 1))) q

pub nodes_start : (b : List ℕ) (n : ℕ) → nodes_of b 0 n ≡ nodes_of b 0 (n - 0)
nodes_start b n = let e : n ≡ n - 0 = omega arith in ap (nodes_of b 0) e

pub nodes_end : (b : List ℕ) (i n : ℕ) → n ≤ i → nodes_of b i (n - i) ≡ []
unfolding nodes_of_by
nodes_end b i n h = let e : n - i ≡ 0 = omega arith in ap (nodes_of b i) e

counted : (s t : Bool) (n : ℕ) → choose s (eqb n 1) (choose t (leb n 32) (eqb n 0)) ≡ true → n ≤ 32
unfolding choose
counted true t n e = omega (arith, eqb-true n 1 e)
counted false true n e = leb-true n 32 e
counted false false n e = omega (arith, eqb-true n 0 e)

count_few : (h : Header) → count_ok h ≡ true → h.nodes ≤ 32
unfolding count_ok
count_few h e = counted (is_message 0 h || (is_message 1 h || (is_message 4 h || is_data h))) (is_message 2 h || is_message 3 h) h.nodes e

head_few : (h : Header) → header_ok h ≡ true → h.nodes ≤ 32
unfolding header_ok
head_few h e =
    let rest : Bool = peer_ok h && fields_ok h in
    count_few h (and_left (count_ok h) rest (and_right (flags_ok h) (count_ok h && rest) (and_right (kind_ok h) (flags_ok h && (count_ok h && rest)) e)))

-- an event has at most 32 nodes
pub few_nodes : (b : List ℕ) (n : ℕ) → well_formed b ≡ true → n ≡ (header_of b).nodes → n ≤ 32
few_nodes b n t e = omega (arith, e, head_few (header_of b) (parts peer_length b t).heads)

-- as many nodes as the writer counts
pub length_nodes : (t : Nodes) → length (nodes_in t) ≡ t.len
unfolding nodes_in
length_nodes t = length-map (take t.len t.items) node_in ∙ length-take-le t.len t.items (omega (arith, t.fits, ap length t.packed ∙ length_pad blank most_nodes (take t.len t.items)))

pub or_more : (a b c : Bool) → (a || (b || c)) ≡ ((a || b) || c)
or_more true b c = refl
or_more false b c = refl
