-- The words after Quit: five sections emptied one after another, as the definition names them.
-- Assumes nothing.
use Prim.Native.Nat.{ℕ}
use mathlib.Core.Path.{◌≡◌, refl}
use mathlib.Core.List.{List, []}
use native.Mathlib.Omega.{arith}
use lib.ListN.{length}
use borrow.Rule.Slice.PartMut.{put_mid}
use Rattle.base_lists.specs.Array.{pad}
use Rattle.base_util.specs.Section.{HoldsSet}
use Rattle.base_util.proofs.Parts.{part_long}
use Rattle.base_columns.specs.Columns.{HoldsNumbers, HoldsDataWords}
use Rattle.base_columns.proofs.Sections.{numbers_cleared, data_cleared}
use Rattle.spec_hyparview.specs.Events.{clear_all}
use Rattle.hyparview_state.specs.Layout as layout
use Rattle.hyparview_state.specs.Layout.{words}
use Rattle.hyparview_state.specs.Unpack.{unpack, long, PackedState, Becomes}
use Rattle.hyparview_state.proofs.Fields.{put_passive, put_alive, put_refused, put_requests, put_peer_data}

module _ (xs t : List ℕ) (l : length xs ≡ words) where
  no_data : t ≡ pad 0 (length (layout.peer_data_part xs)) [] → HoldsDataWords layout.peer_data_places t []
  no_data e = data_cleared layout.peer_data_places (layout.peer_data_part xs) t (part_long layout.peer_data_at layout.peer_data_size xs (omega (arith, l))) e

  no_requests : t ≡ pad 0 (length (layout.requests_part xs)) [] → HoldsNumbers layout.requests_places t []
  no_requests e = numbers_cleared layout.requests_places (layout.requests_part xs) t (part_long layout.requests_at layout.requests_size xs (omega (arith, l))) e

module _ (xs a b c d e : List ℕ) (v : PackedState xs) (p : HoldsSet layout.refused_places a []) (q : HoldsSet layout.alive_places b []) where
  abbrev others : List ℕ
  others = put_mid layout.alive_at layout.alive_size (put_mid layout.refused_at layout.refused_size xs a) b

  abbrev kept : List ℕ
  kept = put_mid layout.passive_at layout.passive_size (put_mid layout.peer_data_at layout.peer_data_size others c) d

  pub wiped : c ≡ pad 0 (length (layout.peer_data_part others)) [] → HoldsSet layout.passive_places d [] → e ≡ pad 0 (length (layout.requests_part kept)) []
      → Becomes (put_mid layout.requests_at layout.requests_size kept e) (clear_all (unpack xs))
  unfolding clear_all
  wiped r s t =
      let marks = put_alive q (put_refused p (record { packed = v; same = refl })) in
      let views = put_passive s (omega arith) (put_peer_data (no_data others c (long marks.packed) r) marks) in
      put_requests (no_requests kept e (long views.packed) t) views
