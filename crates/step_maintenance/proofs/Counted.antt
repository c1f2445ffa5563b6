-- Passes that are counted, and the peers that a pass looks at.
-- Assumes nothing.
use Prim.Native.Nat.{ℕ, ◌+◌, ◌≤◌, ◌<◌}
use mathlib.Core.Path.{◌≡◌, refl, sym, ap, ◌∙◌}
use mathlib.Core.List.{List}
use native.Mathlib.Omega.{arith}
use lib.ListN.{length, get_or, set}
use lib.Seq.{take_all}
use lib.Dec.{ltb}
use borrow.Author.Tests.{ltb-true}
use borrow.Rule.Slice.PartMut.{put_mid}
use Rattle.base_lists.specs.Lists.{without_all, renew}
use Rattle.base_lists.proofs.Rest.{Rest, rest_next, rest_end}
use Rattle.base_util.specs.Section.{items_at, HoldsSet, working_places}
use Rattle.spec_hyparview.specs.Station.{Station, top_passes}
use Rattle.spec_hyparview.specs.Setters.{set_passes_alone, set_recent}
use Rattle.base_timing.specs.Timing.{max_recent_neighbors}
use Rattle.spec_hyparview.specs.Run.{on, require}
use Rattle.spec_hyparview.specs.Timers.{renew_all, remember_all, other_recent, alone_counts, add_alone, count_alone, short_counts, add_short, count_short}
use Rattle.work.specs.declared.Work.{Work}
use Rattle.hyparview_state.specs.Layout.{active_part, recent_part, bootstrap_part, passes_alone, passes_short, active_places, bootstrap_places, recent_at, recent_places, recent_size, passes_alone_at, passes_short_at}
use Rattle.hyparview_state.specs.Unpack.{unpack, station_of, PackedState, Becomes}
use Rattle.hyparview_state.specs.Work.{work_of, run_of, Changes, ChangesAny}
use Rattle.hyparview_state.proofs.Any.{required_at}
use Rattle.hyparview_state.proofs.Bridge.{on_passed, on_done, require_said, change_then}
use Rattle.hyparview_state.proofs.Fields.{put_passes_alone, put_passes_short, put_recent}

-- ---- passes

module _ (w a : Work) (xs : List ℕ) (v : PackedState xs) where
  module _ (k : ChangesAny (require 10 (ltb (passes_alone xs) top_passes)) w a) where
    alone_then : (ys : List ℕ) → Changes (on add_alone) (work_of a xs) (work_of a ys) → Changes count_alone (work_of w xs) (work_of a ys)
    unfolding count_alone alone_counts run_of unpack station_of
    alone_then ys m = change_then count_alone (λ ds out. refl) m (required_at xs v _ _ k)

    pub alone_refused : (a.code ≡ 0 → ⊥) → Changes count_alone (work_of w xs) (work_of a xs)
    alone_refused h = alone_then xs (on_passed (work_of a xs) v add_alone h)

    pub alone_left : a.code ≡ 0 → passes_alone xs + 1 ≤ top_passes
    alone_left z = let h = ltb-true (passes_alone xs) top_passes (require_said (work_of w xs) (work_of a xs) 10 _ (omega arith) (required_at xs v _ _ k) z).1 in omega arith

    pub alone_counted : a.code ≡ 0 → Changes count_alone (work_of w xs) (work_of a (set xs passes_alone_at (passes_alone xs + 1)))
    unfolding add_alone unpack station_of
    alone_counted z = alone_then _ (on_done (work_of a xs) v add_alone _ z (put_passes_alone _ (alone_left z)))

  module _ (k : ChangesAny (require 10 (ltb (passes_short xs) top_passes)) w a) where
    short_then : (ys : List ℕ) → Changes (on add_short) (work_of a xs) (work_of a ys) → Changes count_short (work_of w xs) (work_of a ys)
    unfolding count_short short_counts run_of unpack station_of
    short_then ys m = change_then count_short (λ ds out. refl) m (required_at xs v _ _ k)

    pub short_refused : (a.code ≡ 0 → ⊥) → Changes count_short (work_of w xs) (work_of a xs)
    short_refused h = short_then xs (on_passed (work_of a xs) v add_short h)

    pub short_left : a.code ≡ 0 → passes_short xs + 1 ≤ top_passes
    short_left z = let h = ltb-true (passes_short xs) top_passes (require_said (work_of w xs) (work_of a xs) 10 _ (omega arith) (required_at xs v _ _ k) z).1 in omega arith

    pub short_counted : a.code ≡ 0 → Changes count_short (work_of w xs) (work_of a (set xs passes_short_at (passes_short xs + 1)))
    unfolding add_short unpack station_of
    short_counted z = short_then _ (on_done (work_of a xs) v add_short _ z (put_passes_short _ (short_left z)))

-- no pass alone is counted any more
pub alone_reset : (w : Work) (xs : List ℕ) → PackedState xs → w.code ≡ 0 → Changes (on (set_passes_alone 0)) (work_of w xs) (work_of w (set xs passes_alone_at 0))
unfolding unpack station_of
alone_reset w xs v z = on_done (work_of w xs) v (set_passes_alone 0) _ z (put_passes_alone _ (omega arith))

-- ---- peers

-- the neighbors to come, made the newest of the recent ones in the words ys, are the answer for the words xs
abbrev Then : List ℕ → List ℕ → List ℕ
Then recent l = renew_all l recent

pub record Renewing (code : ℕ) (xs : List ℕ) (n : ℕ) (ys : List ℕ) (i : ℕ) : Type 0 where
  pub packed : PackedState xs
  pub zero : code ≡ 0
  pub became : Becomes ys (set_recent (items_at recent_places (recent_part ys)) (unpack xs))
  pub count : n ≡ length (items_at active_places (active_part xs))
  pub rest : Rest Then (length (items_at active_places (active_part xs))) (items_at active_places (active_part xs)) n (renew_all (items_at active_places (active_part xs)) (items_at recent_places (recent_part xs))) (items_at recent_places (recent_part ys)) i

pub renew_start : (code : ℕ) (xs : List ℕ) (n : ℕ) → PackedState xs → code ≡ 0 → n ≡ length (items_at active_places (active_part xs)) → Renewing code xs n xs 0
unfolding unpack station_of
renew_start code xs n v z e = record {
  packed = v;
  zero = z;
  became = record { packed = v; same = refl };
  count = e;
  rest = record { low = omega arith; top = omega (arith, e); long = refl; same = ap (λ (l : List ℕ). renew_all l (items_at recent_places (recent_part xs))) (sym (take_all n (items_at active_places (active_part xs)) (omega (arith, e)))) };
}

module _ (code : ℕ) (xs : List ℕ) (n : ℕ) (ys : List ℕ) (i : ℕ) (v : Renewing code xs n ys i) where
  active_kept : items_at active_places (active_part ys) ≡ items_at active_places (active_part xs)
  unfolding unpack station_of
  active_kept = ap (λ (s : Station). s.active) v.became.same

  pub renew_packed : PackedState ys
  renew_packed = v.became.packed

  pub renew_below : i < n → i < length (items_at active_places (active_part ys))
  renew_below h = omega (arith, v.count, ap length active_kept)

  pub renew_next : (p : ℕ) (r : List ℕ) → i < n → p ≡ get_or (items_at active_places (active_part ys)) i 0 → HoldsSet recent_places r (renew max_recent_neighbors p (items_at recent_places (recent_part ys))) → Renewing code xs n (put_mid recent_at recent_size ys r) (i + 1)
  unfolding renew_all unpack station_of
  renew_next p r h e k =
      let b = put_recent k v.became in
      let q : items_at recent_places (recent_part (put_mid recent_at recent_size ys r)) ≡ renew max_recent_neighbors p (items_at recent_places (recent_part ys)) = ap (λ (s : Station). s.recent) b.same in
      record {
        packed = v.packed;
        zero = v.zero;
        became = record { packed = b.packed; same = b.same ∙ ap (λ (l : List ℕ). set_recent l (unpack xs)) (sym q) };
        count = v.count;
        rest = rest_next 0 Then v.rest (items_at recent_places (recent_part (put_mid recent_at recent_size ys r))) h
            (λ l. ap (renew_all l) (sym (q ∙ ap (λ (x : ℕ). renew max_recent_neighbors x (items_at recent_places (recent_part ys))) (e ∙ ap (λ (m : List ℕ). get_or m i 0) active_kept))));
      }

  pub renew_end : (w : Work) → w.code ≡ code → n ≤ i → Changes (on remember_all) (work_of w xs) (work_of w ys)
  unfolding remember_all renew_all unpack station_of
  renew_end w z h =
      on_done (work_of w xs) v.packed remember_all ys (z ∙ v.zero)
      (λ b. record { packed = v.became.packed; same = v.became.same ∙ ap (λ (l : List ℕ). set_recent l (unpack xs)) (sym (rest_end 0 Then v.rest h)) })

pub others_are : (xs v r : List ℕ) → HoldsSet working_places v (items_at recent_places (recent_part xs)) → HoldsSet working_places r (without_all (items_at bootstrap_places (bootstrap_part xs)) (items_at working_places v)) → HoldsSet working_places r (other_recent (unpack xs))
unfolding other_recent unpack station_of
others_are xs v r h k = record { valid = k.valid; items = k.items ∙ ap (without_all (items_at bootstrap_places (bootstrap_part xs))) h.items }
