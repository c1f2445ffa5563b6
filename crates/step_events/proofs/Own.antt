-- Own data as it is written into its words.
-- Assumes nothing.
use Prim.Native.Nat.{ℕ}
use mathlib.Core.Path.{◌≡◌, refl, sym, subst}
use mathlib.Core.Bool.{true}
use mathlib.Core.List.{List}
use native.Mathlib.Omega.{arith}
use lib.ListN.{take, drop, set}
use Rattle.std.specs.Prelude.{Option, Some, None}
use Rattle.base_lists.specs.Array.{pad}
use Rattle.base_lists.specs.Bytes.{le}
use Rattle.base_lists.specs.Lists.{choose}
use Rattle.base_lists.proofs.Choice.{clash}
use Rattle.base_columns.specs.Columns.{word_bytes}
use Rattle.base_columns.proofs.Data.{bytes_back}
use Rattle.base_peer.specs.declared.PeerData.{PeerData}
use Rattle.base_peer.specs.Held.{data_in, fields_in, HoldsData}
use Rattle.spec_hyparview.specs.Setters.{set_own_data}
use Rattle.hyparview_state.specs.Layout.{own_present_at, own_len_at, own_low_at, own_high_at}
use Rattle.hyparview_state.specs.Unpack.{unpack, PackedState, Becomes}
use Rattle.hyparview_state.proofs.Fields.{put_own_data}

module _ (xs : List ℕ) (p : PackedState xs) (x : Option PeerData) where
  some_held : (d : PeerData) (b : List ℕ) → b ≡ d.bytes → HoldsData (record { present = true; len = d.len; bytes = b }) (data_in (Some d))
  unfolding data_in fields_in choose
  some_held d b e = subst (λ (t : List ℕ). HoldsData (record { present = true; len = d.len; bytes = t }) (data_in (Some d))) (sym e) (record {
    valid = record { fits = d.fits; packed = d.packed; absent = λ q. clash true refl q };
    holds = refl;
  })

  pub kept_own : (d : PeerData) (low high : ℕ) → x ≡ Some d → le 8 low ≡ take 8 (drop 0 d.bytes) → le 8 high ≡ take 8 (drop 8 d.bytes)
      → Becomes (set (set (set (set xs own_present_at 1) own_len_at d.len) own_low_at low) own_high_at high) (set_own_data (data_in x) (unpack xs))
  kept_own d low high q e f =
      subst (λ (y : Option PeerData). Becomes (set (set (set (set xs own_present_at 1) own_len_at d.len) own_low_at low) own_high_at high) (set_own_data (data_in y) (unpack xs))) (sym q)
      (put_own_data 1 d.len low high (omega arith) (some_held d (word_bytes low high) (bytes_back d low high e f)) (record { packed = p; same = refl }))

  pub no_own : x ≡ None → Becomes (set (set (set (set xs own_present_at 0) own_len_at 0) own_low_at 0) own_high_at 0) (set_own_data (data_in x) (unpack xs))
  unfolding data_in fields_in word_bytes le pad choose
  no_own q =
      subst (λ (y : Option PeerData). Becomes (set (set (set (set xs own_present_at 0) own_len_at 0) own_low_at 0) own_high_at 0) (set_own_data (data_in y) (unpack xs))) (sym q)
      (put_own_data 0 0 0 0 (omega arith) (record { valid = record { fits = omega arith; packed = refl; absent = λ e. refl }; holds = refl }) (record { packed = p; same = refl }))
