-- Laws of the steps on peers that several proofs cite.
-- Assumes nothing.
use Prim.Native.Nat.{ℕ, ◌+◌, ◌≤◌, ◌<◌}
use mathlib.Core.Path.{◌≡◌, refl, sym, ap, ◌∙◌, subst}
use mathlib.Core.Bool.{Bool, true, false, not, ◌&&◌, ◌||◌}
use mathlib.Core.List.{List, [], ◌∷◌, ◌++◌}
use mathlib.Core.Option.{Option, none, some}
use native.Mathlib.Omega.{arith}
use lib.ListN.{length, take, drop, get_or, length-append}
use lib.Dec.{eqb, leb, ltb}
use borrow.Author.Tests.{eqb-false, leb-false, not-true, eq-eqb, ne_eqb}
use Rattle.record.specs.Kinds.{Evicted, output_byte}
use Rattle.record.specs.Kinds as kinds
use Rattle.base_lists.specs.Lists.{null, remove, shift_remove}
use Rattle.base_util.specs.Section.{items_at}
use Rattle.base_util.proofs.Parts.{part_read}
use Rattle.base_util.proofs.Sets.{empty_is_null}
use Rattle.hyparview_state.specs.Layout.{me, passive_part, peer_data_part, passive_view_capacity, passive_at, passive_count, passive_places, passive_size, peer_data_at, peer_data_count, peer_data_places, peer_data_size}
use Rattle.base_columns.specs.Columns.{data_map_at}
use Rattle.base_lists.specs.Maps.{lookup, has}
use Rattle.base_lists.proofs.Choice.{by_choice, choose_yes, choose_no, and_right, and_false}
use Rattle.base_lists.proofs.Count.{length_shift, length_remove}
use Rattle.base_util.specs.Chances.{pick}
use Rattle.base_util.proofs.Chances.{pick_below}
use Rattle.base_peer.specs.declared.PeerData.{PeerData}
use Rattle.base_peer.specs.Held.{data_in, node_in}
use Rattle.base_peer.proofs.Data.{length_bytes}
use Rattle.work.specs.declared.Work.{Work}
use Rattle.spec_hyparview.specs.Run.{Run, guard, on, emit, to_draw, one_of, draw_one_of, require, picked, notice, node_notice}
use Rattle.hyparview_state.specs.Work.{Held, work_of, ChangesAny, DrawsAny, TellsAny, run, run_of, Changes, Room, Tells, Fine}
use Rattle.hyparview_state.proofs.Any.{one_of_at, required_at, told_at}
use Rattle.hyparview_state.proofs.Bridge.{on_passed, on_twice, unchanged, change_then, change_yes, change_no, telling, tell_by, tell_then, tell_yes, tell_no, still, by, then, then_draw, then_tell, seq, taken, left, require_said}
use Rattle.base_peer.specs.Data.{Data, bytes_of, holds}
use Rattle.base_timing.proofs.Ranges.{ranges}
use Rattle.spec_hyparview.proofs.Keeping.{one_of_station, emit_station, emit_fine}
use Rattle.spec_hyparview.specs.Station.{Station, is_me, in_active, in_passive, in_view, passive_is_full}
use Rattle.spec_hyparview.specs.Peers.{is_known, data_fits, store_data, keep_data, announce_data, insert_data, insert_peer_info, forget_peer, drop_traces, drop_mark, drop_data, shift_passive, push_passive, evict_at, must_evict, evicted, evict, tell_evicted, make_room, is_newcomer, enter_passive, evicted_for, add_passive, evicted_by}
use Rattle.step_peers.specs.Answer.{named_in, Adds}
use Rattle.std.specs.Prelude.{Some, None}
use Rattle.std.specs.Prelude as prelude
use Rattle.step_peers.specs.declared.Added.{Added}
use Rattle.hyparview_state.specs.Unpack.{unpack, station_of, settings_at, PackedState}
use Rattle.hyparview_state.proofs.Access.{of_settings, of_passive, of_peer_data, passive_fits, count_passive}
use Rattle.hyparview_state.proofs.Counts.{passive_full}

-- fewer passive peers are within capacity
pub shrunk : (xs : List ℕ) (p : ℕ) → PackedState xs → length (remove p (items_at passive_places (passive_part xs))) ≤ passive_view_capacity xs
shrunk xs p v = omega (arith, length_remove p (items_at passive_places (passive_part xs)), passive_fits xs v)

pub shifted_fits : (xs : List ℕ) (i : ℕ) → PackedState xs → i < length (items_at passive_places (passive_part xs)) → length (shift_remove i (items_at passive_places (passive_part xs))) ≤ passive_view_capacity xs
shifted_fits xs i v h = omega (arith, length_shift (items_at passive_places (passive_part xs)) i h, passive_fits xs v)

-- ---- rows and branches

keeps : (w a r : Work) (xs ys : List ℕ) (p : ℕ) (b : List ℕ) (t : Bool) → PackedState xs → t ≡ data_fits p (unpack xs) → Changes (on (store_data p b)) (work_of a xs) (work_of r ys) → ChangesAny (require 8 t) w a → Changes (keep_data p b) (work_of w xs) (work_of r ys)
unfolding keep_data run_of
keeps w a r xs ys p b t v e k₂ k₁ = change_then _ (λ ds out. rw e) k₂ (required_at xs v _ _ k₁)

evicts : (w a r : Held) (i p : ℕ) → p ≡ get_or (unpack w.state).passive i 0 → Changes (forget_peer p) a r → Changes (on (shift_passive i)) w a → Changes (evict_at i) w r
unfolding evict_at run_of unpack station_of
evicts w a r i p e k₂ k₁ = change_then _ (λ ds out. rw e) k₂ k₁

-- ---- peer data

-- with other names for the work and the output that are handed on
pub told_as : {step : Run → Run} (w a b : Work) (xs out o u : List ℕ) → a ≡ b → o ≡ u → Tells step (work_of w xs) (work_of b xs) out u → Tells step (work_of w xs) (work_of a xs) out o
told_as {step} w a b xs out o u e f k =
    subst (λ (x : Work). Tells step (work_of w xs) (work_of x xs) out o) (sym e) (subst (λ (y : List ℕ). Tells step (work_of w xs) (work_of b xs) out y) (sym f) k)

null_is : (b : List ℕ) (n : ℕ) → length b ≡ n → eqb n 0 ≡ null b
unfolding null
null_is [] n e = eq-eqb n 0 (sym e)
null_is (x ∷ xs) n e = ne_eqb n 0 (λ q. omega arith)

-- data of length 0 has no bytes
pub no_bytes : (d : PeerData) → eqb d.len 0 ≡ null (bytes_of (data_in (Some d)))
unfolding data_in bytes_of
no_bytes d = null_is (take d.len d.bytes) d.len (length_bytes d)

module _ (w : Held) (out : List ℕ) (p : ℕ) (d : PeerData) where
  pub not_announced : (t : Bool) → Room w out → t ≡ null (bytes_of (data_in (Some d))) → t ≡ true → Tells (announce_data p (bytes_of (data_in (Some d)))) w w out out
  unfolding announce_data
  not_announced t v e h = tell_by _ (λ ds. choose_yes _ _ _ (sym e ∙ h)) (telling v (unchanged (λ g. g) v.packed (λ ds o. refl)))

pub announced : (w r : Work) (xs out o : List ℕ) (p : ℕ) (d : PeerData) (t : Bool) → Room (work_of w xs) out → t ≡ null (bytes_of (data_in (Some d))) → t ≡ false
    → TellsAny (emit (node_notice (output_byte kinds.PeerData) p (node_in (record { id = 0; «data» = Some d })))) w r out o
    → Tells (announce_data p (bytes_of (data_in (Some d)))) (work_of w xs) (work_of r xs) out o
unfolding announce_data node_in data_in bytes_of
announced w r xs out o p d t v e h k = tell_by _ (λ ds. choose_no _ _ _ (sym e ∙ h)) (told_at xs v.packed _ k)

module _ (w : Held) (out : List ℕ) (p : ℕ) where
  some_info : (d : PeerData) (r : Held) (o : List ℕ) → Tells (insert_data p (bytes_of (data_in (Some d)))) w r out o → Tells (insert_peer_info p (data_in (Some d))) w r out o
  unfolding insert_peer_info data_in bytes_of
  some_info d r o k = tell_by _ (λ ds. refl) k

  -- the data as it was found to be
  pub given_data : {x y : prelude.Option PeerData} {r : Held} {o : List ℕ} → x ≡ y → Tells (insert_peer_info p (data_in y)) w r out o → Tells (insert_peer_info p (data_in x)) w r out o
  given_data {r = r} {o = o} e k = subst (λ (z : prelude.Option PeerData). Tells (insert_peer_info p (data_in z)) w r out o) (sym e) k

  pub no_info : Room w out → Tells (insert_peer_info p (data_in None)) w w out out
  unfolding insert_peer_info data_in
  no_info v = telling v (unchanged (λ g. g) v.packed (λ ds o. refl))

-- ---- one of the items

some_item : (xs : List ℕ) → null xs ≡ false → 0 < length xs
unfolding null
some_item [] e = let z : ◌≡◌ {A = ℕ} 0 1 = cc in absurd (omega arith)
some_item (x ∷ xs) e = omega arith

-- the passive view is not empty where it is chosen from
pub some_choice : (k n : ℕ) → (leb k n && not (eqb n 0)) ≡ true → 0 < n
some_choice k n h = omega (arith, eqb-false n 0 (not-true (eqb n 0) (and_right (leb k n) (not (eqb n 0)) h)))

-- a test that was passed found an entry for the data of p
pub entry_free : (w a : Work) (xs : List ℕ) (p : ℕ) (t : Bool) → PackedState xs → t ≡ data_fits p (unpack xs) → ChangesAny (require 8 t) w a → a.code ≡ 0
    → (has p (data_map_at peer_data_places (peer_data_part xs)) || ltb (length (data_map_at peer_data_places (peer_data_part xs))) peer_data_places) ≡ true
unfolding unpack station_of data_fits
entry_free w a xs p t v e k z = sym e ∙ (require_said (work_of w xs) (work_of a xs) 8 t (omega arith) (required_at xs v _ _ k) z).1

-- an entry that the peer has, or a free one
pub fits_known : (xs : List ℕ) (p : ℕ) (t : Bool) → PackedState xs → t ≡ has p (data_map_at peer_data_places (peer_data_part xs)) → (t || ltb (get_or xs peer_data_count 0) peer_data_places) ≡ data_fits p (unpack xs)
unfolding data_fits unpack station_of
fits_known xs p t v e =
    let n : get_or xs peer_data_count 0 ≡ length (data_map_at peer_data_places (peer_data_part xs)) = sym ((of_peer_data xs v).counted ∙ part_read peer_data_at peer_data_size (peer_data_places + peer_data_places + (peer_data_places + peer_data_places)) xs (omega arith)) in
    λ i. e i || ltb (n i) peer_data_places

module _ (w a r : Held) (out o : List ℕ) (p : ℕ) (b : List ℕ) (t : Bool) where
  inserted : t ≡ is_known p b (unpack w.state) → t ≡ false → Changes (keep_data p b) a r → Tells (announce_data p b) w a out o → Tells (insert_data p b) w r out o
  unfolding insert_data
  inserted e h k₂ k₁ = tell_no (is_known p b) e _ h (tell_then _ (λ ds. refl) (telling k₁.room k₂) k₁)

module _ (w : Work) (xs out : List ℕ) (p : ℕ) (d : PeerData) (y : Bool) where
  module _ (v : PackedState xs) (f : y ≡ holds (lookup p (unpack xs).peer_data) (bytes_of (data_in (Some d)))) where
    known_here : (eqb p (me xs) || y) ≡ is_known p (bytes_of (data_in (Some d))) (unpack xs)
    unfolding is_known is_me unpack station_of
    known_here = ap (λ (t : Bool). eqb p (me xs) || t) f

    pub info_stored : (a b : Work) (o : List ℕ) (t : Bool) → (eqb p (me xs) || y) ≡ false → Tells (announce_data p (bytes_of (data_in (Some d)))) (work_of w xs) (work_of a xs) out o
        → t ≡ has p (data_map_at peer_data_places (peer_data_part xs)) → ChangesAny (require 8 (t || ltb (get_or xs peer_data_count 0) peer_data_places)) a b
        → (ys : List ℕ) → Changes (on (store_data p (bytes_of (data_in (Some d))))) (work_of b xs) (work_of b ys) → Tells (insert_peer_info p (data_in (Some d))) (work_of w xs) (work_of b ys) out o
    info_stored a b o t n k₁ q k₂ ys k₃ =
        some_info (work_of w xs) out p d (work_of b ys) o
        (inserted _ _ _ _ _ _ _ (eqb p (me xs) || y) known_here n (keeps a b b xs ys p _ (t || ltb (get_or xs peer_data_count 0) peer_data_places) v (fits_known xs p t v q) k₃ k₂) k₁)

  pub info_passed : y ≡ holds (lookup p (unpack xs).peer_data) (bytes_of (data_in (Some d))) → Room (work_of w xs) out → (eqb p (me xs) || y) ≡ true → Tells (insert_peer_info p (data_in (Some d))) (work_of w xs) (work_of w xs) out out
  unfolding insert_data
  info_passed f v t =
      some_info (work_of w xs) out p d (work_of w xs) out
      (tell_yes (is_known p (bytes_of (data_in (Some d)))) (known_here v.packed f) _ t (telling v (unchanged (λ g. g) v.packed (λ ds o. refl))))

-- ---- what is forgotten

module _ (w : Held) (p : ℕ) (x y : Bool) (e : x ≡ in_active p (unpack w.state)) (f : y ≡ in_passive p (unpack w.state)) where
  viewed : (x || y) ≡ in_view p (unpack w.state)
  unfolding in_view
  viewed = λ i. e i || f i

  pub remembered : PackedState w.state → (x || y) ≡ true → Changes (forget_peer p) w w
  unfolding forget_peer
  remembered v h = change_yes (in_view p) viewed _ h (unchanged _ v (λ ds out. refl))

  pub forgotten : (a r : Held) → (x || y) ≡ false → Changes (on (drop_mark p)) a r → Changes (on (drop_data p)) w a → Changes (forget_peer p) w r
  unfolding forget_peer drop_traces
  forgotten a r h k₂ k₁ = change_no (in_view p) viewed _ h (change_then _ (λ ds out. on_twice _ _ _) k₂ k₁)

pub newcomer : (xs : List ℕ) (p : ℕ) (x y : Bool) → x ≡ in_active p (unpack xs) → y ≡ in_passive p (unpack xs) → not (eqb p (me xs) || (x || y)) ≡ is_newcomer p (unpack xs)
unfolding is_newcomer in_view is_me unpack station_of
newcomer xs p x y e f = λ i. not (eqb p (me xs) || (e i || f i))

-- ---- the passive view

-- the place chosen is one of the passive peers'
pub still_below : (xs : List ℕ) (i : ℕ) → PackedState xs → i < get_or xs passive_count 0 → i < length (items_at passive_places (passive_part xs))
still_below xs i v h = omega (arith, count_passive xs (of_passive xs v), h)

-- who leaves, and what the run comes to
module _ (g : Run) (i p : ℕ) (e : must_evict g.station ≡ true) (f : i ≡ one_of (length g.station.passive) g) where
  one_evicted : p ≡ get_or g.station.passive i 0 → some p ≡ evicted g
  unfolding evicted picked
  one_evicted h = sym (choose_yes _ _ _ e ∙ ap (λ (n : ℕ). some (get_or g.station.passive n 0)) (sym f) ∙ ap some (sym h))

  evicting : evict_at i (draw_one_of (length g.station.passive) g) ≡ evict g
  unfolding evict
  evicting = sym (choose_yes _ _ _ e ∙ ap (λ (n : ℕ). evict_at n (draw_one_of (length g.station.passive) g)) (sym f))

  room_evicts : p ≡ get_or g.station.passive i 0 → make_room g ≡ emit (notice (output_byte Evicted) p) (evict_at i (draw_one_of (length g.station.passive) g))
  unfolding make_room tell_evicted
  room_evicts h = sym (λ j. tell_evicted (one_evicted h j) (evicting j))

module _ (g : Run) (e : must_evict g.station ≡ false) where
  none_evicted : none ≡ evicted g
  unfolding evicted
  none_evicted = sym (choose_no _ _ _ e)

  none_leaves : g ≡ evict g
  unfolding evict
  none_leaves = sym (choose_no _ _ _ e)

  room_stays : make_room g ≡ g
  unfolding make_room tell_evicted
  room_stays = sym (λ j. tell_evicted (none_evicted j) (none_leaves j))

must_known : (xs : List ℕ) → PackedState xs → (leb (passive_view_capacity xs) (get_or xs passive_count 0) && not (eqb (get_or xs passive_count 0) 0)) ≡ must_evict (unpack xs)
unfolding must_evict unpack station_of
must_known xs p =
    let e = ap (λ (n : ℕ). eqb n 0) (sym (part_read passive_at passive_size passive_places xs (omega arith))) ∙ empty_is_null passive_places (passive_part xs) (of_passive xs p) in
    λ i. passive_full xs p i && not (e i)

passive_counted : (xs : List ℕ) → PackedState xs → get_or xs passive_count 0 ≡ length (unpack xs).passive
unfolding unpack station_of
passive_counted xs p = sym (count_passive xs (of_passive xs p))

module _ (w : Work) (xs ds out : List ℕ) (v : Fine (work_of w xs) ds out) where
  pub made : (a b c r : Work) (ys zs o : List ℕ) (i p : ℕ) → (leb (passive_view_capacity xs) (get_or xs passive_count 0) && not (eqb (get_or xs passive_count 0) 0)) ≡ true → i ≡ pick (get_or xs passive_count 0) (drop w.drawn ds) → p ≡ get_or (unpack xs).passive i 0
      → TellsAny (emit (notice (output_byte Evicted) p)) c r out o → Changes (forget_peer p) (work_of b ys) (work_of c zs) → Changes (on (shift_passive i)) (work_of a xs) (work_of b ys) → DrawsAny (draw_one_of (get_or xs passive_count 0)) w a ds
      → Adds (record { work = r; evicted = Some p }) zs ds o (make_room (run (work_of w xs) ds out)) (evicted (run (work_of w xs) ds out))
  unfolding named_in run_of one_of to_draw
  made a b c r ys zs o i p h u l k₄ k₃ k₂ k₁ =
      let g = run (work_of w xs) ds out in
      let q = passive_counted xs v.ready.packed in
      let t : must_evict g.station ≡ true = sym (must_known xs v.ready.packed) ∙ h in
      let j : i ≡ one_of (length g.station.passive) g = u ∙ ap (λ (m : ℕ). pick m (drop w.drawn ds)) q in
      let d : DrawsAny (draw_one_of (length g.station.passive)) w a ds = subst (λ (m : ℕ). DrawsAny (draw_one_of m) w a ds) q k₁ in
      let k : Changes (evict_at i) (work_of a xs) (work_of c zs) = evicts (work_of a xs) (work_of b ys) (work_of c zs) i p l k₃ k₂ in
      record {
        does = by _ (room_evicts g i p t j l) (then_tell (told_at zs k.packed _ k₄) (then k (then_draw (one_of_at xs v.ready.packed _ d) (still v))));
        named = one_evicted g i p t j l;
      }

  pub not_made : (leb (passive_view_capacity xs) (get_or xs passive_count 0) && not (eqb (get_or xs passive_count 0) 0)) ≡ false → Adds (record { work = w; evicted = None }) xs ds out (make_room (run (work_of w xs) ds out)) (evicted (run (work_of w xs) ds out))
  unfolding named_in run_of
  not_made h =
      let t : must_evict (run (work_of w xs) ds out).station ≡ false = sym (must_known xs v.ready.packed) ∙ h in
      record { does = by _ (room_stays (run (work_of w xs) ds out) t) (still v); named = none_evicted (run (work_of w xs) ds out) t }

-- unless a code is set, the passive view has a free place
record FreePassive (code : ℕ) (s : Station) : Type 0 where
  free : code ≡ 0 → length s.passive < s.config.passive_view_capacity

forget_free : (p : ℕ) (g : Run) → FreePassive g.code g.station → FreePassive (forget_peer p g).code (forget_peer p g).station
unfolding forget_peer on guard drop_traces drop_mark drop_data
forget_free p g h =
    by_choice (λ (x : Run). FreePassive x.code x.station) (in_view p g.station) (λ e. h)
    (λ e. by_choice (λ (x : Run). FreePassive x.code x.station) (eqb g.code 0) (λ f. record { free = h.free }) (λ f. h))

shift_free : (i : ℕ) (g : Run) → i < length g.station.passive → length g.station.passive ≤ g.station.config.passive_view_capacity → FreePassive (on (shift_passive i) g).code (on (shift_passive i) g).station
unfolding on guard shift_passive
shift_free i g h l =
    by_choice (λ (x : Run). FreePassive x.code x.station) (eqb g.code 0)
    (λ f. record { free = λ z. omega (arith, length_shift g.station.passive i h) })
    (λ f. record { free = λ z. absurd (eqb-false _ _ f z) })

none_in : (xs : List ℕ) → not (null xs) ≡ false → length xs ≡ 0
unfolding null
none_in [] e = refl
none_in (x ∷ xs) e = let z : ◌≡◌ {A = ℕ} 0 1 = cc in absurd (omega arith)

not_full : (s : Station) → must_evict s ≡ false → 1 ≤ s.config.passive_view_capacity → length s.passive < s.config.passive_view_capacity
unfolding must_evict passive_is_full
not_full s e l =
    and_false (leb s.config.passive_view_capacity (length s.passive)) (not (null s.passive)) e
    (λ f. leb-false _ _ f)
    (λ f. omega (arith, none_in s.passive f))

evict_free : (g : Run) → length g.station.passive ≤ g.station.config.passive_view_capacity → 1 ≤ g.station.config.passive_view_capacity → FreePassive (evict g).code (evict g).station
unfolding evict evict_at must_evict one_of
evict_free g l m =
    by_choice (λ (x : Run). FreePassive x.code x.station) (must_evict g.station)
    (λ e. let n = length g.station.passive in
    forget_free _ _ (shift_free _ (draw_one_of n g)
    (rw (one_of_station n g) (pick_below n (to_draw g) (some_item g.station.passive (not-true _ (and_right (passive_is_full g.station) (not (null g.station.passive)) e)))))
    (rw (one_of_station n g) l)))
    (λ e. record { free = λ z. not_full g.station e m })

tell_free : (x : Option ℕ) (g : Run) → FreePassive g.code g.station → FreePassive (tell_evicted x g).code (tell_evicted x g).station
unfolding tell_evicted
tell_free none g h = h
tell_free (some p) g h = record { free = λ z. rw (emit_station (notice (output_byte Evicted) p) g) (h.free (emit_fine (notice (output_byte Evicted) p) g z)) }

made_free : (g : Run) → length g.station.passive ≤ g.station.config.passive_view_capacity → 1 ≤ g.station.config.passive_view_capacity → FreePassive (make_room g).code (make_room g).station
unfolding make_room
made_free g l m = tell_free (evicted g) (evict g) (evict_free g l m)

-- ---- a newcomer in the passive view

pub after_info : {step : Run → Run} (w a : Work) (xs ys ds out o : List ℕ) → Fine (work_of w xs) ds out → Tells step (work_of w xs) (work_of a ys) out o → Fine (work_of a ys) ds o
after_info w a xs ys ds out o v k = (then_tell k (still v)).fine

module _ (w : Work) (m : Added) (xs ys ds out o : List ℕ) (x : Option ℕ) (v : Fine (work_of w xs) ds out) (k : Adds m ys ds o (make_room (run (work_of w xs) ds out)) x) (z : m.work.code ≡ 0) where
  room_made : FreePassive m.work.code (unpack ys)
  unfolding run_of unpack station_of settings_at
  room_made =
      subst (λ (g : Run). FreePassive g.code g.station) (sym k.does.same)
      (made_free (run (work_of w xs) ds out) (passive_fits xs v.ready.packed) (ranges (settings_at xs) (of_settings xs v.ready.packed)).passive.least)

  -- the free place is one in the view's section, and is enough for one more
  pub place_passive : length (items_at passive_places (passive_part ys)) < passive_places
  unfolding unpack station_of settings_at
  place_passive = omega (arith, room_made.free z, (ranges (settings_at ys) (of_settings ys k.does.fine.ready.packed)).passive.most)

  pub one_more : (p : ℕ) → length (items_at passive_places (passive_part ys) ++ (p ∷ [])) ≤ passive_view_capacity ys
  unfolding unpack station_of settings_at
  one_more p = omega (arith, room_made.free z, length-append (items_at passive_places (passive_part ys)) (p ∷ []))

module _ (w a : Work) (xs ys ds out o : List ℕ) (p : ℕ) (d : Data) (t : Bool) (v : Fine (work_of w xs) ds out) (k₁ : Tells (insert_peer_info p d) (work_of w xs) (work_of a ys) out o) (e : t ≡ is_newcomer p (unpack ys)) where
  added : (m : Added) (zs o₂ : List ℕ) → Adds m zs ds o₂ (enter_passive p (run (work_of a ys) ds o)) (evicted_for p (run (work_of a ys) ds o))
      → Adds m zs ds o₂ (add_passive p d (run (work_of w xs) ds out)) (evicted_by p d (run (work_of w xs) ds out))
  unfolding add_passive evicted_by
  added m zs o₂ k₂ = record { does = seq (enter_passive p) k₂.does (then_tell k₁ (still v)); named = k₂.named ∙ ap (evicted_for p) (k₁.same ds) }

  pub not_entered : t ≡ false → Adds (record { work = a; evicted = None }) ys ds o (add_passive p d (run (work_of w xs) ds out)) (evicted_by p d (run (work_of w xs) ds out))
  unfolding enter_passive evicted_for named_in run_of
  not_entered h =
      added _ ys o (record { does = left _ _ (sym e ∙ h) (still (after_info w a xs ys ds out o v k₁)); named = sym (choose_no _ _ _ (sym e ∙ h)) })

  module _ (m : Added) (zs o₂ : List ℕ) (h : t ≡ true) (k₂ : Adds m zs ds o₂ (make_room (run (work_of a ys) ds o)) (evicted (run (work_of a ys) ds o))) where
    pub entered : (us : List ℕ) → Changes (on (push_passive p)) (work_of m.work zs) (work_of m.work us) → Adds m us ds o₂ (add_passive p d (run (work_of w xs) ds out)) (evicted_by p d (run (work_of w xs) ds out))
    unfolding enter_passive evicted_for run_of
    entered us k₃ = added m us o₂ (record { does = taken _ _ (sym e ∙ h) (then k₃ k₂.does); named = k₂.named ∙ sym (choose_yes _ _ _ (sym e ∙ h)) })

    pub refused : (m.work.code ≡ 0 → ⊥) → Adds m zs ds o₂ (add_passive p d (run (work_of w xs) ds out)) (evicted_by p d (run (work_of w xs) ds out))
    refused z = entered zs (on_passed (work_of m.work zs) k₂.does.fine.ready.packed _ z)
