-- The shuffle and its timer.
-- Assumes nothing.
use Rattle.std.specs.Prelude as prelude
use Prim.Native.Nat.{ℕ, ◌+◌, ◌*◌, ◌≤◌, ◌<◌, min}
use mathlib.Core.Path.{◌≡◌, refl, sym, ap, ◌∙◌, subst}
use mathlib.Core.Bool.{true, false}
use mathlib.Core.List.{List, [], ◌∷◌, ◌++◌}
use native.Mathlib.Omega.{arith}
use lib.ListN.{length, take, drop, get_or, set, length-append, length-map}
use Rattle.record.specs.Kinds.{DoShuffle, kind_byte}
use Rattle.base_lists.specs.Lists.{null, without}
use Rattle.base_util.specs.Chances.{pick}
use Rattle.base_timing.specs.Timing.{delay, longest_time, longest_walk, most_shuffle_active, most_shuffle_passive}
use Rattle.base_timing.proofs.Ranges.{ranges}
use Rattle.base_peer.specs.declared.PeerData.{PeerData}
use Rattle.base_peer.specs.Data.{Node}
use Rattle.base_util.specs.Section.{items_at, ValidSet, HoldsSet, working_places}
use Rattle.base_util.proofs.Sets.{set_length, set_then}
use Rattle.base_peer.specs.Held.{data_in, node_in}
use Rattle.record_writer.specs.declared.nodes.Nodes.{Nodes}
use Rattle.record_writer.specs.Nodes.{nodes_in}
use Rattle.record_writer.specs.Blank.{blank}
use Rattle.record.specs.Format.{most_nodes}
use Rattle.base_lists.proofs.Array.{length_pad}
use Rattle.std.proofs.lemmas.List.{length-take-le}
use Rattle.spec_hyparview.specs.Station.{Station, is_alone}
use Rattle.spec_hyparview.specs.Setters.{set_next_interval}
use Rattle.spec_hyparview.specs.Run.{Run, on, emit, draw, drawn, to_draw, one_of, draw_one_of, picked, shuffled, draw_shuffle, message, timer, node, peer_infos}
use Rattle.spec_hyparview.specs.Timers.{double_interval, schedule_shuffle, shuffle_nodes, send_shuffle, active_sample, passive_sample, shuffle_passive, shuffle_with, shuffle_any}
use Rattle.work.specs.declared.Work.{Work}
use Rattle.hyparview_state.specs.Layout as layout
use Rattle.hyparview_state.specs.Layout.{next_shuffle_interval, shuffle_interval, me, shuffle_random_walk_length, shuffle_active_view_count, shuffle_passive_view_count}
use Rattle.hyparview_state.specs.Unpack.{unpack, station_of, settings_at, PackedState, Becomes}
use Rattle.hyparview_state.specs.Work.{work_of, run, run_of, Changes, DrawsAny, Room, Tells, TellsAny, Fine, Does}
use Rattle.hyparview_state.proofs.Access.{of_settings}
use Rattle.hyparview_state.proofs.Fields.{put_next_interval}
use Rattle.hyparview_state.proofs.Bridge.{guard_shut, on_done, by, tell_by, still, then, then_tell, seq, seq_at, taken, left}
use Rattle.hyparview_state.proofs.Any.{then_drawn, then_one_of, then_shuffle, then_tell_any, told_at}
use Rattle.step_sending.proofs.Sets.{few_taken, lent_items, lent_count, shuffled_by, shuffle_of}

-- ---- the interval

pub setting_fits : (xs : List ℕ) → PackedState xs → shuffle_interval xs ≤ longest_time
unfolding settings_at
setting_fits xs v = (ranges (settings_at xs) (of_settings xs v)).interval.most

put_doubled : (xs : List ℕ) (n : ℕ) → n ≡ min (2 * next_shuffle_interval xs) (shuffle_interval xs) → Becomes xs (unpack xs) → Becomes (set xs layout.next_shuffle_interval_at n) (double_interval (unpack xs))
unfolding double_interval unpack station_of settings_at
put_doubled xs n e b = subst (λ (m : ℕ). Becomes (set xs layout.next_shuffle_interval_at n) (set_next_interval m (unpack xs))) e (put_next_interval n (omega (arith, e, setting_fits xs b.packed)) b)

pub doubled : (w : Work) (xs : List ℕ) (n : ℕ) → PackedState xs → w.code ≡ 0 → n ≡ min (2 * next_shuffle_interval xs) (shuffle_interval xs) → Changes (on double_interval) (work_of w xs) (work_of w (set xs layout.next_shuffle_interval_at n))
doubled w xs n v z e = on_done (work_of w xs) v double_interval _ z (put_doubled xs n e)

-- where a code is set, no timer is set
schedule_rests : (g : Run) → (g.code ≡ 0 → ⊥) → schedule_shuffle g ≡ g
unfolding schedule_shuffle emit draw on
schedule_rests g h =
    let e = timer (kind_byte DoShuffle) 0 (delay g.station.next_interval (drawn g)) 0 in
    ap (λ (x : Run). emit e (draw 1 x)) (guard_shut g _ h) ∙ (ap (emit e) (guard_shut g _ h) ∙ guard_shut g _ h)

pub not_scheduled : (w : Work) (xs ds out : List ℕ) → Fine (work_of w xs) ds out → (w.code ≡ 0 → ⊥) → Does (work_of w xs) ds out (schedule_shuffle (run (work_of w xs) ds out))
unfolding run_of
not_scheduled w xs ds out v h = by _ (schedule_rests _ h) (still v)

scheduled_is : (w : Work) (xs ds out : List ℕ) (x d : ℕ) → x ≡ delay (next_shuffle_interval xs) d → d ≡ get_or ds w.drawn 0
    → schedule_shuffle (run (work_of w xs) ds out)
    ≡ emit (timer (kind_byte DoShuffle) 0 x 0) (draw 1 (on double_interval (run (work_of w xs) ds out)))
unfolding schedule_shuffle run_of unpack station_of drawn
scheduled_is w xs ds out x d e q = ap (λ (n : ℕ). emit (timer (kind_byte DoShuffle) 0 n 0) (draw 1 (on double_interval (run (work_of w xs) ds out)))) (ap (delay (next_shuffle_interval xs)) (sym q) ∙ sym e)

pub scheduled : (w a b r : Work) (xs ys ds out o : List ℕ) (x d : ℕ) → Fine (work_of w xs) ds out → x ≡ delay (next_shuffle_interval xs) d → d ≡ get_or ds a.drawn 0
    → TellsAny (emit (timer (kind_byte DoShuffle) 0 x 0)) b r out o
    → DrawsAny (draw 1) a b ds → Changes (on double_interval) (work_of w xs) (work_of a ys) → Does (work_of r ys) ds o (schedule_shuffle (run (work_of w xs) ds out))
scheduled w a b r xs ys ds out o x d v e q k₃ k₂ k₁ =
    by _ (scheduled_is w xs ds out x d e (q ∙ ap (λ (n : ℕ). get_or ds n 0) k₁.drawn)) (then_tell_any _ k₃ (then_drawn _ k₂ (then k₁ (still v))))

-- ---- the message

length_infos : (s : Station) (ps : List ℕ) → length (peer_infos s ps) ≡ length ps
unfolding peer_infos
length_infos s [] = refl
length_infos s (p ∷ ps) = omega (arith, length_infos s ps)

-- as many nodes as the writer counts
length_nodes : (t : Nodes) → length (nodes_in t) ≡ t.len
unfolding nodes_in
length_nodes t = length-map (take t.len t.items) node_in ∙ length-take-le t.len t.items (omega (arith, t.fits, ap length t.packed ∙ length_pad blank most_nodes (take t.len t.items)))

pub place_named : (xs v : List ℕ) (n : ℕ) (ns : Nodes) → ValidSet working_places v → n ≡ length (items_at working_places v) → length (items_at working_places v) < working_places → nodes_in ns ≡ peer_infos (unpack xs) (take n v) → ns.len < working_places
place_named xs v n ns s e f h = omega (arith, length_nodes ns, ap length h, length_infos (unpack xs) (take n v), lent_count v n s e)

pub walk_fits : (xs : List ℕ) → PackedState xs → shuffle_random_walk_length xs ≤ longest_walk
unfolding settings_at
walk_fits xs v = (ranges (settings_at xs) (of_settings xs v)).shuffle_walk.most

pub shuffle_told : (w r : Work) (xs out o v : List ℕ) (n to : ℕ) (named ns : Nodes) (d : prelude.Option PeerData) → Room (work_of w xs) out → ValidSet working_places v → n ≡ length (items_at working_places v) → data_in d ≡ (unpack xs).own_data
    → nodes_in named ≡ peer_infos (unpack xs) (take n v) → nodes_in ns ≡ nodes_in named ++ (node_in (record { id = me xs; «data» = d }) ∷ [])
    → TellsAny (emit (message 2 to 0 (me xs) (shuffle_random_walk_length xs) (nodes_in ns))) w r out o
    → Tells (send_shuffle to (items_at working_places v)) (work_of w xs) (work_of r xs) out o
unfolding send_shuffle shuffle_nodes node_in run_of unpack station_of settings_at
shuffle_told w r xs out o v n to named ns d f s c q h e k =
    let names : nodes_in named ≡ peer_infos (unpack xs) (items_at working_places v) = h ∙ ap (peer_infos (unpack xs)) (lent_items v n s c) in
    tell_by {g = emit (message 2 to 0 (me xs) (shuffle_random_walk_length xs) (nodes_in ns))} (send_shuffle to (items_at working_places v))
    (λ ds. ap (λ (x : List Node). emit (message 2 to 0 (me xs) (shuffle_random_walk_length xs) x) (run (work_of w xs) ds out)) (sym (e ∙ (λ i. names i ++ (node (me xs) (q i) ∷ [])))))
    (told_at xs f.packed _ k)

-- ---- the peers that it names

module _ (w r : Work) (ds v₁ v₂ xs : List ℕ) (to : ℕ) (h₁ : HoldsSet working_places v₁ xs) (h₂ : HoldsSet working_places v₂ (without to (items_at working_places v₁))) where
  others_are : HoldsSet working_places v₂ (without to xs)
  others_are = set_then working_places (without to) h₂ h₁

  pub peers_drawn : DrawsAny (draw_shuffle (items_at working_places v₂)) w r ds → DrawsAny (draw_shuffle (without to xs)) w r ds
  peers_drawn d = shuffle_of w r ds v₂ (without to xs) d others_are

  pub peers_are : (v₃ : List ℕ) (most : ℕ) → HoldsSet working_places v₃ (take most (shuffled_by w ds (items_at working_places v₂))) → HoldsSet working_places v₃ (take most (shuffled_by w ds (without to xs)))
  peers_are v₃ most k = record { valid = k.valid; items = k.items ∙ ap (λ (l : List ℕ). take most (shuffled_by w ds l)) others_are.items }

module _ (xs : List ℕ) (f : PackedState xs) (l m : List ℕ) where
  pub few_active : HoldsSet working_places m (take (shuffle_active_view_count xs) l) → length (items_at working_places m) ≤ most_shuffle_active
  unfolding settings_at
  few_active k = omega (arith, set_length working_places m _ k, few_taken (shuffle_active_view_count xs) l, (ranges (settings_at xs) (of_settings xs f)).shuffle_active.most)

  few_passive : HoldsSet working_places m (take (shuffle_passive_view_count xs) l) → length (items_at working_places m) ≤ most_shuffle_passive
  unfolding settings_at
  few_passive k = omega (arith, set_length working_places m _ k, few_taken (shuffle_passive_view_count xs) l, (ranges (settings_at xs) (of_settings xs f)).shuffle_passive.most)

  pub both_fit : (v : List ℕ) → HoldsSet working_places m (take (shuffle_passive_view_count xs) l) → length (items_at working_places v) ≤ most_shuffle_active → length (items_at working_places v) + length (items_at working_places m) ≤ working_places
  both_fit v k h = omega (arith, few_passive k)

  pub all_fit : (v all : List ℕ) → HoldsSet working_places m (take (shuffle_passive_view_count xs) l) → length (items_at working_places v) ≤ most_shuffle_active → HoldsSet working_places all (items_at working_places v ++ items_at working_places m) → length (items_at working_places all) < working_places
  all_fit v all k h e = omega (arith, few_passive k, set_length working_places all _ e, length-append (items_at working_places v) (items_at working_places m))

module _ (w a r : Work) (xs ds out o : List ℕ) (to : ℕ) (f : Fine (work_of w xs) ds out) where
  pub passive_done : (v m all : List ℕ) → DrawsAny (draw_shuffle (without to (items_at layout.passive_places (layout.passive_part xs)))) w a ds
      → HoldsSet working_places m (take (shuffle_passive_view_count xs) (shuffled_by w ds (without to (items_at layout.passive_places (layout.passive_part xs)))))
      → HoldsSet working_places all (items_at working_places v ++ items_at working_places m) → Tells (send_shuffle to (items_at working_places all)) (work_of a xs) (work_of r xs) out o
      → Does (work_of r xs) ds o (shuffle_passive to (items_at working_places v) (run (work_of w xs) ds out))
  unfolding shuffle_passive passive_sample shuffled to_draw run_of unpack station_of settings_at
  passive_done v m all k h e t =
      by _
      (ap (λ (l : List ℕ). send_shuffle to l (draw_shuffle (without to (items_at layout.passive_places (layout.passive_part xs))) (run (work_of w xs) ds out)))
      (sym (e.items ∙ ap (λ (l : List ℕ). items_at working_places v ++ l) h.items)))
      (then_tell t (then_shuffle _ k (still f)))

  pub with_done : (v : List ℕ) → DrawsAny (draw_shuffle (without to (items_at layout.active_places (layout.active_part xs)))) w a ds
      → HoldsSet working_places v (take (shuffle_active_view_count xs) (shuffled_by w ds (without to (items_at layout.active_places (layout.active_part xs)))))
      → Does (work_of r xs) ds o (shuffle_passive to (items_at working_places v) (run (work_of a xs) ds out)) → Does (work_of r xs) ds o (shuffle_with to (run (work_of w xs) ds out))
  unfolding shuffle_with active_sample shuffled to_draw run_of unpack station_of settings_at
  with_done v k h d =
      by _ (ap (λ (l : List ℕ). shuffle_passive to l (draw_shuffle (without to (items_at layout.active_places (layout.active_part xs))) (run (work_of w xs) ds out))) (sym h.items))
      (seq (shuffle_passive to (items_at working_places v)) d (then_shuffle _ k (still f)))

-- ---- to whom

null_none : (l : List ℕ) → 0 ≡ length l → null l ≡ true
unfolding null
null_none [] e = refl
null_none (x ∷ l) e = absurd (omega (arith, e))

null_some : (l : List ℕ) → (0 ≡ length l → ⊥) → null l ≡ false
unfolding null
null_some [] h = absurd (h refl)
null_some (x ∷ l) h = refl

module _ (w : Work) (xs ds out : List ℕ) (n : ℕ) (f : Fine (work_of w xs) ds out) (c : n ≡ length (items_at layout.active_places (layout.active_part xs))) where
  pub none_asked : n ≡ 0 → Does (work_of w xs) ds out (shuffle_any (run (work_of w xs) ds out))
  unfolding shuffle_any is_alone run_of unpack station_of
  none_asked z = taken _ _ (null_none (items_at layout.active_places (layout.active_part xs)) (sym z ∙ c)) (still f)

  module _ (i p : ℕ) (j : i ≡ pick n (drop w.drawn ds)) (q : p ≡ get_or (items_at layout.active_places (layout.active_part xs)) i 0) where
    picked_is : p ≡ picked (run (work_of w xs) ds out).station.active (run (work_of w xs) ds out)
    unfolding picked one_of to_draw run_of unpack station_of
    picked_is = q ∙ ap (λ (k : ℕ). get_or (items_at layout.active_places (layout.active_part xs)) k 0) (j ∙ ap (λ (k : ℕ). pick k (drop w.drawn ds)) c)

    pub one_asked : (a r : Work) (o : List ℕ) → (n ≡ 0 → ⊥) → Does (work_of r xs) ds o (shuffle_with p (run (work_of a xs) ds out)) → DrawsAny (draw_one_of n) w a ds → Does (work_of r xs) ds o (shuffle_any (run (work_of w xs) ds out))
    unfolding shuffle_any is_alone run_of unpack station_of
    one_asked a r o h k₂ k₁ =
        left _ _ (null_some (items_at layout.active_places (layout.active_part xs)) (λ z. h (c ∙ sym z))) (seq_at shuffle_with picked_is k₂ (then_one_of _ (subst (λ (m : ℕ). DrawsAny (draw_one_of m) w a ds) c k₁) (still f)))
