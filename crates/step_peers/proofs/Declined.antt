-- Laws of the last step of an event: what it forgets, and where it forgets nothing.
-- Assumes nothing.
use Prim.Native.Nat.{ℕ}
use Rattle.base_columns.specs.Columns.{HoldsDataWords}
use Rattle.base_lists.specs.Lists.{subset}
use Rattle.base_lists.specs.Maps.{keys, retain}
use Rattle.base_lists.proofs.Maps.{retain_all}
use Rattle.spec_hyparview.specs.Handle.{forget_declined}
use Rattle.spec_hyparview.specs.Setters.{set_peer_data}
use Rattle.spec_hyparview.specs.Station.{data_peers}
use Rattle.hyparview_state.specs.Unpack.{unpack, Becomes}
use Rattle.base_util.specs.Section.{items_at, HoldsSet}
use mathlib.Core.List.{List}
use mathlib.Core.Path.{◌≡◌, sym, ap, ◌∙◌, subst}
use mathlib.Core.Bool.{Bool, true}

-- where all data is of peers in a view or with an open request, the last step changes nothing
pub none_declined : (xs : List ℕ) (b : Bool) → b ≡ subset (keys (unpack xs).peer_data) (data_peers (unpack xs)) → b ≡ true → Becomes xs (unpack xs) → Becomes xs (forget_declined (unpack xs))
unfolding forget_declined
none_declined xs b q e k =
    let s = unpack xs in
    record { packed = k.packed; same = k.same ∙ ap (λ (l : List (ℕ × List ℕ)). set_peer_data l s) (sym (retain_all (data_peers s) s.peer_data (sym q ∙ e))) }

-- the data that a working set of peers retains
pub retained : (m v ps : List ℕ) (l : List (ℕ × List ℕ)) → HoldsDataWords 80 m (retain (items_at 72 v) l) → HoldsSet 72 v ps → HoldsDataWords 80 m (retain ps l)
retained m v ps l h k = subst (λ (qs : List ℕ). HoldsDataWords 80 m (retain qs l)) k.items h
