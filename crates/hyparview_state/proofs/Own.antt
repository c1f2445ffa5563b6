-- Own data as it is read out of its words.
-- Assumes nothing.
use Prim.Native.Nat.{ℕ, ◌≤◌}
use mathlib.Core.Path.{◌≡◌, sym, subst, ◌∙◌}
use mathlib.Core.List.{List}
use mathlib.Core.Option.{some}
use native.Mathlib.Omega.{arith}
use borrow.Author.Tests.{eq-eqb, ne_eqb}
use lib.ListN.{take}
use Rattle.std.specs.Prelude.{Some, None}
use Rattle.base_lists.specs.Array.{pad}
use Rattle.base_columns.specs.Columns.{word_bytes}
use Rattle.base_peer.specs.declared.PeerData.{PeerData}
use Rattle.base_peer.specs.Held.{data_in}
use Rattle.base_peer.proofs.Data.{fields_present, fields_absent}
use Rattle.hyparview_state.specs.Layout.{own_present, own_len, own_low, own_high}
use Rattle.hyparview_state.specs.Unpack.{unpack, station_of, own_at, PackedState, opened}

module _ (xs : List ℕ) (p : PackedState xs) where
  pub own_absent : own_present xs ≡ 0 → data_in None ≡ (unpack xs).own_data
  unfolding data_in unpack station_of own_at
  own_absent h = sym (fields_absent (own_at xs) (ne_eqb (own_present xs) 1 (λ e. omega (arith, h, e))))

  pub own_fits : own_len xs ≤ 16
  unfolding own_at
  own_fits = (opened p).own_data.fits

  pub own_packed : (b : List ℕ) → b ≡ word_bytes (own_low xs) (own_high xs) → b ≡ pad 0 16 (take (own_len xs) b)
  unfolding own_at
  own_packed b e = subst (λ (t : List ℕ). t ≡ pad 0 16 (take (own_len xs) t)) (sym e) (opened p).own_data.packed

  pub own_there : (d : PeerData) → (own_present xs ≡ 0 → ⊥) → d.len ≡ own_len xs → d.bytes ≡ word_bytes (own_low xs) (own_high xs) → data_in (Some d) ≡ (unpack xs).own_data
  unfolding data_in unpack station_of own_at
  own_there d h n b =
      let one : own_present xs ≡ 1 = omega (arith, (opened p).present, h) in
      (λ i. some (take (n i) (b i))) ∙ sym (fields_present (own_at xs) (eq-eqb (own_present xs) 1 one))
