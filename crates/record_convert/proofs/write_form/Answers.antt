-- Header, entries and data, each written where the one before it ended, are the record's encoding; its length bounds all three.
use Prim.Native.Nat.{ℕ, ◌+◌, ◌-◌, ◌≤◌}
use mathlib.Core.Path.{◌≡◌, refl, ap, ◌∙◌}
use mathlib.Core.Bool.{true}
use mathlib.Core.List.{List}
use native.Mathlib.Omega.{arith}
use lib.ListN.{length, drop}
use Rattle.base_lists.specs.Bytes.{overwrite}
use Rattle.base_lists.proofs.Numbers.{Bytes}
use Rattle.record.specs.Format.{header_length_by, place_by, entries_by, size_by, encode_by}
use Rattle.record.specs.Read.{header_of_by, well_formed_by, nodes_of_by, rec_of_by}
use Rattle.record.specs.declared.Header.{Header}
use Rattle.record_convert.specs.Convert.{header_fields, resized}
use Rattle.record_convert.proofs.Laws.{all_bytes, reach, size_other, written}
use borrow.Author.Rules.{rules}
use Rattle.record_convert.proofs.write_form.Goals as goal

nodes_are : (v w : ℕ) (b : List ℕ) (h : Header) → h ≡ resized (header_of_by v b) (size_by w (rec_of_by v b)) → h.nodes ≡ (header_of_by v b).nodes
nodes_are v w b h d = ap (λ (x : Header). x.nodes) d

module _ (v w : ℕ) (b : List ℕ) (t : well_formed_by v b ≡ true) (ok : Bytes b) (h : Header) (d : h ≡ resized (header_of_by v b) (size_by w (rec_of_by v b))) where
  total : h.size ≡ place_by w h.nodes + (length b - place_by v h.nodes)
  total = ap (λ (x : Header). x.size) d ∙ size_other v w b t ok ∙ rw (nodes_are v w b h d)

  within : place_by v h.nodes ≤ length b
  within = rw (nodes_are v w b h d) (reach v b t (header_of_by v b) refl)

  module _ (room : ℕ) (l : h.size ≤ room) where
    start : header_length_by w ≤ room
    start = omega (arith, total, l)

    entries : place_by w h.nodes ≤ room
    entries = omega (arith, total, l)

    all : place_by w h.nodes + (length b - place_by v h.nodes) ≤ room
    all = omega (arith, total, l)

  whole : (out o₁ o₂ o₃ : List ℕ) → o₁ ≡ overwrite out 0 (header_fields w h) → o₂ ≡ overwrite o₁ (header_length_by w) (entries_by w (nodes_of_by v b 0 h.nodes) (place_by w h.nodes))
      → o₃ ≡ overwrite o₂ (place_by w h.nodes) (drop (place_by v h.nodes) b) → o₃ ≡ overwrite out 0 (encode_by w (rec_of_by v b))
  whole out o₁ o₂ o₃ p q r =
      let n : h.nodes ≡ (header_of_by v b).nodes = nodes_are v w b h d in
      written v w b t ok out o₁ o₂ o₃ (p ∙ ap (λ (x : Header). overwrite out 0 (header_fields w x)) d)
      (q ∙ ap (λ (k : ℕ). overwrite o₁ (header_length_by w) (entries_by w (nodes_of_by v b 0 k) (place_by w k))) n) (r ∙ ap (λ (k : ℕ). overwrite o₂ (place_by w k) (drop (place_by v k) b)) n)

pub write_header-requires : goal.write_header-requires
write_header-requires c = start _ _ _ c.requires.b_value (all_bytes _ c.type_inv.b) _ c.requires.h_value _ c.requires.size_in_bounds

pub write_entries-requires-clause-n_value : goal.write_entries-requires-clause-n_value
write_entries-requires-clause-n_value c = nodes_are _ _ _ _ c.requires.h_value

pub write_entries-requires-clause-n_in_bounds : goal.write_entries-requires-clause-n_in_bounds
write_entries-requires-clause-n_in_bounds c = entries _ _ _ c.requires.b_value (all_bytes _ c.type_inv.b) _ c.requires.h_value _ (search rules)

pub write_data-requires-clause-n_in_bounds : goal.write_data-requires-clause-n_in_bounds
write_data-requires-clause-n_in_bounds c = within _ _ _ c.requires.b_value (all_bytes _ c.type_inv.b) _ c.requires.h_value

pub write_data-requires-clause-n_in_bounds_2 : goal.write_data-requires-clause-n_in_bounds_2
write_data-requires-clause-n_in_bounds_2 c = all _ _ _ c.requires.b_value (all_bytes _ c.type_inv.b) _ c.requires.h_value _ (search rules)

pub returns : goal.returns
returns c =
    whole _ _ _ c.requires.b_value (all_bytes _ c.type_inv.b) _ c.requires.h_value _ _ _ _ c.write_header.ensures c.write_entries.ensures c.write_data.ensures
