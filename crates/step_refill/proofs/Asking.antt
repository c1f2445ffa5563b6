-- Whom a refill asks.
-- Assumes nothing.
use Prim.Native.Nat.{ℕ, ◌+◌, ◌≤◌, ◌<◌}
use mathlib.Core.Path.{◌≡◌, refl, sym, ap, ◌∙◌}
use mathlib.Core.Bool.{Bool, true, false, ◌||◌}
use mathlib.Core.List.{List, [], ◌∷◌, ◌++◌}
use native.Mathlib.Omega.{arith}
use lib.ListN.{length, take, drop, get_or, set}
use lib.Dec.{leb}
use borrow.Rule.Slice.PartMut.{put_mid}
use Rattle.base_lists.specs.Array.{pad}
use Rattle.base_lists.specs.Lists.{choose, null, without_all}
use Rattle.base_lists.specs.Maps.{keys}
use Rattle.base_lists.proofs.Choice.{choose_yes, choose_no, clash}
use Rattle.base_lists.proofs.Skips.{without_none, without_append}
use Rattle.base_util.specs.Chances.{pick}
use Rattle.base_util.specs.Section.{part, items_at, ValidSet, HoldsSet, working_places}
use Rattle.base_util.proofs.Sets.{set_as, set_then, set_stored}
use Rattle.base_columns.specs.Columns.{numbers_at}
use Rattle.spec_hyparview.specs.Station.{Station, Refill, is_alone, is_spent, asked_outside}
use Rattle.spec_hyparview.specs.Run.{Run, on, to_draw, one_of, draw_one_of, picked}
use Rattle.spec_hyparview.specs.Sending.{send_neighbor}
use Rattle.spec_hyparview.specs.Refill.{use_request, end_recovery, limit_short, skipped, candidates, ask_picked, ask_one, refill_limited, needs_none, refill_active_from_passive, begin_refill, start_refill}
use Rattle.work.specs.declared.Work.{Work}
use Rattle.hyparview_state.specs.declared.RefillLimit.{RefillLimit}
use Rattle.hyparview_state.specs.Layout.{active_view_capacity, active_part, requests_part, active_count, active_places, requests_places}
use Rattle.hyparview_state.specs.Unpack.{unpack, station_of, settings_at, limit_at, refill_in, PackedState}
use Rattle.hyparview_state.specs.Work.{Held, work_of, run, run_of, Changes, DrawsAny, Tells, Fine, Does}
use Rattle.hyparview_state.proofs.Access.{of_active, count_active}
use Rattle.hyparview_state.proofs.Bridge.{by, still, then, then_tell, seq, taken, left, holds_at}
use Rattle.hyparview_state.proofs.Any.{then_one_of}

-- ---- working sets

-- a column that has lost the peers of a list, with its count
pub left_list : (s skip ys : List ℕ) (k : ℕ) → ValidSet working_places s → ys ≡ pad 0 (length (part 0 working_places s)) (without_all skip (take (get_or s working_places 0) (part 0 working_places s)))
    → k ≡ length (without_all skip (take (get_or s working_places 0) (part 0 working_places s))) → k ≤ get_or s working_places 0 → HoldsSet working_places (set (put_mid 0 working_places s ys) working_places k) (without_all skip (items_at working_places s))
unfolding items_at
left_list s skip ys k v o q h = set_stored working_places s ys _ k v o q (omega (arith, v.fits))

pub left_of : (skip t r l : List ℕ) → HoldsSet working_places r (without_all skip (items_at working_places t)) → HoldsSet working_places t l → HoldsSet working_places r (without_all skip l)
left_of skip t r l h k = set_then working_places (without_all skip) h k

pub left_by : (a t r l : List ℕ) → HoldsSet working_places r (without_all (items_at working_places a) (items_at working_places t)) → HoldsSet working_places a l → HoldsSet working_places r (without_all l (items_at working_places t))
left_by a t r l h k = set_as working_places r _ _ h (ap (λ (x : List ℕ). without_all x (items_at working_places t)) k.items)

pub outside_held : (xs asked r : List ℕ) → HoldsSet working_places asked (keys (numbers_at requests_places (requests_part xs))) → HoldsSet working_places r (without_all (items_at active_places (active_part xs)) (items_at working_places asked))
    → HoldsSet working_places r (asked_outside (unpack xs))
unfolding asked_outside unpack station_of
outside_held xs asked r k h = set_then working_places (without_all (items_at active_places (active_part xs))) h k

-- ---- candidates

-- without the three lists, one after the other
candidates_are : (skip : List ℕ) (s : Station) → candidates skip s ≡ without_all (choose (is_alone s) [] s.refused) (without_all (keys s.requests) (without_all skip s.passive))
unfolding candidates skipped
candidates_are skip s =
    without_append skip (keys s.requests ++ choose (is_alone s) [] s.refused) s.passive
    ∙ without_append (keys s.requests) (choose (is_alone s) [] s.refused) (without_all skip s.passive)

module _ (xs skip others free : List ℕ) (t : Bool) (h : HoldsSet working_places others (without_all skip (unpack xs).passive)) (f : HoldsSet working_places free (without_all (keys (unpack xs).requests) (items_at working_places others))) (e : t ≡ is_alone (unpack xs)) where
  abbrev unasked : List ℕ
  unasked = without_all (keys (unpack xs).requests) (without_all skip (unpack xs).passive)

  free_is : items_at working_places free ≡ unasked
  free_is = f.items ∙ ap (without_all (keys (unpack xs).requests)) h.items

  pub candidates_alone : t ≡ true → HoldsSet working_places free (candidates skip (unpack xs))
  candidates_alone q = record {
    valid = f.valid;
    items =
        free_is
        ∙ sym
        (candidates_are skip (unpack xs)
        ∙ ap (λ (l : List ℕ). without_all l unasked) (choose_yes (is_alone (unpack xs)) [] (unpack xs).refused (sym e ∙ q))
        ∙ without_none unasked);
  }

  pub candidates_else : (r : List ℕ) → t ≡ false → HoldsSet working_places r (without_all (unpack xs).refused (items_at working_places free)) → HoldsSet working_places r (candidates skip (unpack xs))
  candidates_else r q g = record {
    valid = g.valid;
    items =
        g.items ∙ ap (without_all (unpack xs).refused) free_is
        ∙ sym
        (candidates_are skip (unpack xs)
        ∙ ap (λ (l : List ℕ). without_all l unasked) (choose_no (is_alone (unpack xs)) [] (unpack xs).refused (sym e ∙ q)));
  }

-- ---- one of them

pub fine_after : {step : Run → Run} (w a : Work) (xs ys ds out : List ℕ) → Fine (work_of w xs) ds out → Changes step (work_of w xs) (work_of a ys) → Fine (work_of a ys) ds out
fine_after w a xs ys ds out v k = (then k (still v)).fine

some_item : (l : List ℕ) → null l ≡ false → 0 < length l
unfolding null
some_item [] e = clash true refl e
some_item (x ∷ l) e = omega arith

pub some_there : (from : List ℕ) (n : ℕ) (t : Bool) → n ≡ length (items_at working_places from) → t ≡ null (items_at working_places from) → t ≡ false → 0 < n
some_there from n t q e h = omega (arith, some_item (items_at working_places from) (sym e ∙ h))

pub one_picked : (w a b r : Work) (xs ys zs ds out o from : List ℕ) (n i p : ℕ) (high : Bool) → Fine (work_of w xs) ds out → high ≡ is_alone (unpack xs) → n ≡ length (items_at working_places from) → i ≡ pick n (drop w.drawn ds)
    → p ≡ get_or (items_at working_places from) i 0 → Changes (on use_request) (work_of b ys) (work_of r zs) → Tells (send_neighbor p high) (work_of a xs) (work_of b ys) out o → DrawsAny (draw_one_of n) w a ds
    → Does (work_of r zs) ds o (ask_picked (items_at working_places from) (run (work_of w xs) ds out))
unfolding ask_picked picked one_of to_draw run_of
one_picked w a b r xs ys zs ds out o from n i p high v q c u e k₃ k₂ k₁ =
    let at = e ∙ ap (λ (k : ℕ). get_or (items_at working_places from) k 0) (u ∙ ap (λ (k : ℕ). pick k (drop w.drawn ds)) c) in
    by _ (λ j. on use_request (send_neighbor (sym at j) (sym q j) (draw_one_of (sym c j) (run (work_of w xs) ds out))))
    (then k₃ (then_tell k₂ (then_one_of _ k₁ (still v))))

module _ (skip from : List ℕ) (w : Work) (xs ds out : List ℕ) (t : Bool) (c : HoldsSet working_places from (candidates skip (unpack xs))) (e : t ≡ null (items_at working_places from)) where
  limited_done : (r : Held) (o : List ℕ) → Does r ds o (ask_one (items_at working_places from) (run (work_of w xs) ds out)) → Does r ds o (refill_limited skip (run (work_of w xs) ds out))
  unfolding refill_limited run_of
  limited_done r o d = by (refill_limited skip (run (work_of w xs) ds out)) (ap (λ (l : List ℕ). ask_one l (run (work_of w xs) ds out)) (sym c.items)) d

  pub none_left : (r : Work) (ys : List ℕ) → Fine (work_of w xs) ds out → t ≡ true → Changes (on end_recovery) (work_of w xs) (work_of r ys) → Does (work_of r ys) ds out (refill_limited skip (run (work_of w xs) ds out))
  unfolding ask_one
  none_left r ys v h k = limited_done (work_of r ys) out (taken (null (items_at working_places from)) (ask_picked (items_at working_places from) (run (work_of w xs) ds out)) (sym e ∙ h) (then k (still v)))

  pub one_asked : (r : Work) (ys o : List ℕ) → t ≡ false → Does (work_of r ys) ds o (ask_picked (items_at working_places from) (run (work_of w xs) ds out)) → Does (work_of r ys) ds o (refill_limited skip (run (work_of w xs) ds out))
  unfolding ask_one
  one_asked r ys o h d = limited_done (work_of r ys) o (left (null (items_at working_places from)) (on end_recovery (run (work_of w xs) ds out)) (sym e ∙ h) d)

-- ---- whether one is asked at all

pub none_needed : (xs t : List ℕ) (l : RefillLimit) (b : Bool) → PackedState xs → HoldsSet working_places t (asked_outside (unpack xs)) → l ≡ limit_at xs → b ≡ is_spent (refill_in l)
    → (leb (active_view_capacity xs) (get_or xs active_count 0 + get_or t working_places 0) || b) ≡ needs_none (unpack xs)
unfolding needs_none unpack station_of settings_at
none_needed xs t l b p h e q =
    let n : get_or xs active_count 0 ≡ length (items_at active_places (active_part xs)) = sym (count_active xs (of_active xs p)) in
    let asked : get_or t working_places 0 ≡ length (asked_outside (unpack xs)) = sym h.valid.counted ∙ ap length h.items in
    let spent = q ∙ ap (λ (x : RefillLimit). is_spent (refill_in x)) e in
    λ i. leb (active_view_capacity xs) (n i + asked i) || spent i

module _ (skip : List ℕ) (w : Work) (xs ds out : List ℕ) (t : Bool) (v : Fine (work_of w xs) ds out) (e : t ≡ needs_none (unpack xs)) where
  pub not_needed : t ≡ true → Does (work_of w xs) ds out (refill_active_from_passive skip (run (work_of w xs) ds out))
  unfolding refill_active_from_passive
  not_needed h = by _ (choose_yes _ _ _ (holds_at (work_of w xs) ds out needs_none e h)) (still v)

  pub needed : (a r : Work) (ys zs o : List ℕ) → t ≡ false → Changes (on limit_short) (work_of w xs) (work_of a ys) → Does (work_of r zs) ds o (refill_limited skip (run (work_of a ys) ds out))
      → Does (work_of r zs) ds o (refill_active_from_passive skip (run (work_of w xs) ds out))
  unfolding refill_active_from_passive
  needed a r ys zs o h k d = by _ (choose_no _ _ _ (holds_at (work_of w xs) ds out needs_none e h)) (seq (refill_limited skip) d (then k (still v)))

pub refill_started : (limit : Refill) (skip : List ℕ) (w a r : Work) (xs ys zs ds out o : List ℕ) → Fine (work_of w xs) ds out → Changes (on (begin_refill limit)) (work_of w xs) (work_of a ys)
    → Does (work_of r zs) ds o (refill_active_from_passive skip (run (work_of a ys) ds out)) → Does (work_of r zs) ds o (start_refill limit skip (run (work_of w xs) ds out))
unfolding start_refill
refill_started limit skip w a r xs ys zs ds out o v k d = seq (refill_active_from_passive skip) d (then k (still v))
