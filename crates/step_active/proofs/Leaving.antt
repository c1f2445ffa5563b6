-- Laws of the steps by which a peer leaves the active view.
-- Assumes nothing.
use Rattle.std.specs.Prelude as prelude
use Prim.Native.Nat.{ℕ, ◌+◌, ◌≤◌, ◌<◌}
use mathlib.Core.Path.{◌≡◌, refl, sym, ap, ◌∙◌, subst}
use mathlib.Core.Bool.{Bool, true, false}
use mathlib.Core.List.{List, [], ◌∷◌}
use mathlib.Core.Option.{Option}
use native.Mathlib.Omega.{arith}
use lib.ListN.{length, drop, get_or}
use borrow.Author.Tests.{eq-eqb}
use Rattle.record.specs.Kinds.{NeighborDown, output_byte}
use borrow.Rule.Slice.PartMut.{put_mid}
use Rattle.base_lists.specs.Lists.{choose, null, count, mem, index_of, insert, remove, without, without_all, swap_remove}
use Rattle.base_lists.specs.Maps.{lookup}
use Rattle.base_lists.proofs.Choice.{choose_yes}
use Rattle.base_lists.proofs.Count.{index_lt, index_at, length_swap, length_remove}
use Rattle.base_util.specs.Chances.{pick}
use Rattle.base_peer.specs.declared.PeerData.{PeerData}
use Rattle.base_peer.specs.Held.{data_in}
use Rattle.base_util.specs.Section.{working_places, items_at, HoldsSet}
use Rattle.base_util.proofs.Sets.{item_read}
use Rattle.spec_hyparview.specs.Station.{Station, recovery, in_active, without_pin}
use Rattle.spec_hyparview.specs.Setters.{set_active}
use Rattle.spec_hyparview.specs.Sending.{send_disconnect}
use Rattle.spec_hyparview.specs.Refill.{start_refill}
use Rattle.spec_hyparview.specs.Run.{Run, with_station, guard, on, emit, notice, to_draw, one_of, picked, draw_one_of}
use Rattle.spec_hyparview.specs.Budgets.{bare, adding, disconnecting, leaving, freeing}
use Rattle.spec_hyparview.specs.Peers.{drop_data, drop_mark, forget_peer, add_passive, is_marked}
use Rattle.spec_hyparview.specs.Active.{Reason, random, drop_pin, leave_active, swap_active, drop_active, demote, mark_alive, demote_alive, settle_closed, settle, clear_refused, remove_active_by_index, refill_after, remove_active, remove_picked, free_random_slot_in_active_view}
use Rattle.spec_hyparview.specs.Events.{remove_neighbor}
use Rattle.base_lists.proofs.Members.{shorter}
use Rattle.spec_hyparview.proofs.Invariant.{Fixed, busy, Ok}
use Rattle.spec_hyparview.proofs.Keeping.{ease, ok_one_of}
use Rattle.spec_hyparview.proofs.Sends.{ok_send_disconnect}
use Rattle.spec_hyparview.proofs.Leaving.{ok_demote_alive, ok_drop_active, ok_free_slot, free_active}
use Rattle.work.specs.declared.Work.{Work}
use Rattle.hyparview_state.specs.declared.RefillLimit.{RefillLimit}
use Rattle.hyparview_state.specs.declared.RefillLimit.TheVariants.{Recovery}
use Rattle.hyparview_state.specs.Layout.{active_view_capacity, active_at, active_size, active_part, alive_part, active_places, alive_places, pins_at, pins_size, pins_part, pins_places}
use Rattle.hyparview_state.specs.Unpack.{station_form, unpack, station_of, refill_in, PackedState, Becomes}
use Rattle.hyparview_state.specs.Work.{work_of, run, run_of, Changes, DrawsAny, Room, Tells, TellsAny, Fine, Does}
use Rattle.hyparview_state.proofs.Access.{active_fits}
use Rattle.hyparview_state.proofs.Fields.{put_active, put_pins}
use Rattle.hyparview_state.proofs.Bridge.{on_passed, on_done, emit_passed, telling, tell_then, still, by, then, then_tell, seq, seq_at, taken, left, holds_at}
use Rattle.hyparview_state.proofs.Any.{one_of_at, then_one_of, told_at}
use Rattle.step_peers.specs.declared.Added.{Added}
use Rattle.step_peers.specs.Answer.{Adds}
use Rattle.step_active.specs.declared.Loss.{Loss}
use Rattle.step_active.specs.declared.Loss.TheVariants.{ConnectionClosed, DisconnectReceived}
use Rattle.step_active.specs.Sane.{reason_in, FreeActive, FreeMark, Calm, Loose}

-- ---- places

pub fewer_active : (xs : List ℕ) (i : ℕ) → PackedState xs → length (swap_remove i (items_at active_places (active_part xs))) ≤ active_view_capacity xs
fewer_active xs i v = omega (arith, length_swap (items_at active_places (active_part xs)) i, active_fits xs v)

pub mark_place : (xs : List ℕ) (code p : ℕ) → code ≡ 0 → FreeMark p code (unpack xs) → length (insert p (items_at alive_places (alive_part xs))) ≤ 32
unfolding unpack station_of
mark_place xs code p z h = h.free z

-- ---- leaving

pub not_dropped : (w : Work) (xs out : List ℕ) (i : ℕ) → Room (work_of w xs) out → (w.code ≡ 0 → ⊥) → Tells (drop_active i) (work_of w xs) (work_of w xs) out out
unfolding drop_active run_of
not_dropped w xs out i v h =
    tell_then _ (λ ds. refl) (emit_passed w xs out (notice (output_byte NeighborDown) (get_or (unpack xs).active i 0)) v h) (telling v (on_passed (work_of w xs) v.packed (swap_active i) h))

pub dropped : (w a r : Work) (xs ys out o : List ℕ) (i p : ℕ) → Room (work_of w xs) out → p ≡ get_or (unpack xs).active i 0
    → TellsAny (emit (notice (output_byte NeighborDown) p)) a r out o → Changes (on (swap_active i)) (work_of w xs) (work_of a ys)
    → Tells (drop_active i) (work_of w xs) (work_of r ys) out o
unfolding drop_active run_of
dropped w a r xs ys out o i p v e k₂ k₁ = tell_then _ (λ ds. rw e) (told_at ys k₁.packed _ k₂) (telling v k₁)

pub demoted : (w a : Work) (m : Added) (xs ys zs ds out o : List ℕ) (p : ℕ) (d : prelude.Option PeerData) (x : Option ℕ) → Fine (work_of w xs) ds out → data_in d ≡ lookup p (unpack xs).peer_data
    → Adds m zs ds o (add_passive p (data_in d) (run (work_of a ys) ds out)) x → Changes (on (drop_data p)) (work_of w xs) (work_of a ys) → Does (work_of m.work zs) ds o (demote p (run (work_of w xs) ds out))
unfolding demote run_of
demoted w a m xs ys zs ds out o p d x v h k₂ k₁ = seq_at (add_passive p) h k₂.does (then k₁ (still v))

module _ (w a : Work) (xs ys ds out o : List ℕ) (p : ℕ) (alive : Bool) (k : Does (work_of a ys) ds o (demote p (run (work_of w xs) ds out))) where
  pub demoted_plain : alive ≡ false → Does (work_of a ys) ds o (choose alive (demote_alive p) (demote p) (run (work_of w xs) ds out))
  unfolding choose
  demoted_plain h = rw h k

  pub demoted_alive : (r : Work) (zs : List ℕ) → alive ≡ true → Changes (on (mark_alive p)) (work_of a ys) (work_of r zs) → Does (work_of r zs) ds o (choose alive (demote_alive p) (demote p) (run (work_of w xs) ds out))
  unfolding choose demote_alive
  demoted_alive r zs h k₂ = rw h (then k₂ k)

marked : (p : ℕ) (g : Run) → g.code ≡ 0 → on (mark_alive p) g ≡ with_station (mark_alive p g.station) g
unfolding on guard
marked p g z = choose_yes _ _ _ (eq-eqb _ _ z)

-- the marks are passive peers, so there is a place for each
mark_fits : {q : Fixed} {g ba : List ℕ} {sl m b d : ℕ} (p : ℕ) (x : Run) → Ok q (busy g ba [] sl 0) m b d (on (mark_alive p) x) → FreeMark p x.code x.station
unfolding mark_alive count
mark_fits {q} {g} {ba} {sl} {m} {b} {d} p x k = record {
  free = λ z. let c = ((subst (Ok q (busy g ba [] sl 0) m b d) (marked p x z) k).good z).core in
      omega (arith, shorter (insert p x.station.alive) x.station.passive (λ y. omega (arith, c.seats.marks y)), c.seats.places_left, c.still.ranges.few_places);
}

pub mark_free : (w a : Work) (xs ys ds out o : List ℕ) (p : ℕ) → Loose p 0 adding 1 (run (work_of w xs) ds out) → Does (work_of a ys) ds o (demote p (run (work_of w xs) ds out)) → FreeMark p a.code (unpack ys)
unfolding demote_alive run_of
mark_free w a xs ys ds out o p l k =
    subst (λ (x : Run). FreeMark p x.code x.station) (sym k.same) (mark_fits p (demote p (run (work_of w xs) ds out)) (ok_demote_alive p l.ok))

module _ (w : Work) (xs ds out : List ℕ) (p : ℕ) (t : Bool) (v : Fine (work_of w xs) ds out) (e : t ≡ is_marked p (unpack xs)) where
  pub closed_marked : (a r : Work) (ys zs o : List ℕ) → t ≡ true → Does (work_of r zs) ds o (choose false (demote_alive p) (demote p) (run (work_of a ys) ds out)) → Changes (on (drop_mark p)) (work_of w xs) (work_of a ys)
      → Does (work_of r zs) ds o (settle_closed p (run (work_of w xs) ds out))
  unfolding settle_closed choose
  closed_marked a r ys zs o h k₂ k₁ = taken _ _ (holds_at (work_of w xs) ds out (is_marked p) e h) (seq (demote p) k₂ (then k₁ (still v)))

  pub closed_other : (r : Work) (ys : List ℕ) → t ≡ false → Changes (forget_peer p) (work_of w xs) (work_of r ys) → Does (work_of r ys) ds out (settle_closed p (run (work_of w xs) ds out))
  unfolding settle_closed
  closed_other r ys h k = left _ _ (holds_at (work_of w xs) ds out (is_marked p) e h) (then k (still v))

-- ---- what the invariant says after each part of a removal

-- p is out of the active view: what may be spent, but for the notice's bytes
loose_after : (w a : Work) (xs ys ds out o : List ℕ) (i p m B d n b : ℕ) → n ≤ m + 2 → b + bare ≤ B → Calm m B d (run (work_of w xs) ds out) → i < length (unpack xs).active → p ≡ get_or (unpack xs).active i 0
    → Tells (drop_active i) (work_of w xs) (work_of a ys) out o → Loose p n b d (run (work_of a ys) ds o)
unfolding run_of
loose_after w a xs ys ds out o i p m B d n b l h c j e k =
    let q = c.fixed in
    let g = c.guest in
    let ba = c.barred in
    let k₁ : Ok q (busy g ba [] 0 0) (c.messages + m) (c.bytes + b + bare) (c.draws + d) (run (work_of w xs) ds out) = ease (omega arith) (omega arith) (omega arith) c.ok in
    let k₂ : Ok q (busy g ba (get_or (unpack xs).active i 0 ∷ []) 1 0) (c.messages + m + 2) (c.bytes + b) (c.draws + d) (drop_active i (run (work_of w xs) ds out)) = ok_drop_active {sl = 0} i j k₁ in
    let k₃ : Ok q (busy g ba (get_or (unpack xs).active i 0 ∷ []) 1 0) (c.messages + n) (c.bytes + b) (c.draws + d) (drop_active i (run (work_of w xs) ds out)) = ease (omega arith) (omega arith) (omega arith) k₂ in
    let k₄ : Ok q (busy g ba (p ∷ []) 1 0) (c.messages + n) (c.bytes + b) (c.draws + d) (drop_active i (run (work_of w xs) ds out)) = subst (λ (x : ℕ). Ok q (busy g ba (x ∷ []) 1 0) (c.messages + n) (c.bytes + b) (c.draws + d) (drop_active i (run (work_of w xs) ds out))) (sym e) k₃ in
    record {
      fixed = q;
      guest = g;
      barred = ba;
      slots = 1;
      messages = c.messages;
      bytes = c.bytes;
      draws = c.draws;
      ok = subst (Ok q (busy g ba (p ∷ []) 1 0) (c.messages + n) (c.bytes + b) (c.draws + d)) (sym (k.same ds)) k₄;
    }

pub loose_known : (w a : Work) (xs ys ds out o : List ℕ) (i p : ℕ) → Calm 0 leaving 1 (run (work_of w xs) ds out) → i < length (unpack xs).active → p ≡ get_or (unpack xs).active i 0
    → Tells (drop_active i) (work_of w xs) (work_of a ys) out o → Loose p 0 adding 1 (run (work_of a ys) ds o)
loose_known w a xs ys ds out o i p c j e k = loose_after w a xs ys ds out o i p 0 leaving 1 0 adding (omega arith) (omega arith) c j e k

pub sent_loose : (w a : Work) (xs ys ds out o : List ℕ) (p : ℕ) → Loose p 2 (disconnecting + adding) 39 (run (work_of w xs) ds out) → Does (work_of a ys) ds o (send_disconnect p true (run (work_of w xs) ds out)) → Loose p 0 adding 1 (run (work_of a ys) ds o)
sent_loose w a xs ys ds out o p c k = record {
  fixed = c.fixed;
  guest = c.guest;
  barred = c.barred;
  slots = c.slots;
  messages = c.messages;
  bytes = c.bytes;
  draws = c.draws;
  ok =
      subst (Ok c.fixed (busy c.guest c.barred (p ∷ []) c.slots 0) (c.messages + 0) (c.bytes + adding) (c.draws + 1)) (sym k.same)
      (ok_send_disconnect p true (ease (omega arith) (omega arith) (omega arith) c.ok));
}

calm_drawn : (w a : Work) (xs ds out : List ℕ) (n : ℕ) → n ≤ working_places → Fine (work_of w xs) ds out → Calm 0 freeing 40 (run (work_of w xs) ds out) → DrawsAny (draw_one_of n) w a ds → Calm 0 freeing 39 (run (work_of a xs) ds out)
unfolding run_of
calm_drawn w a xs ds out n q v c k = record {
  fixed = c.fixed;
  guest = c.guest;
  barred = c.barred;
  messages = c.messages;
  bytes = c.bytes;
  draws = c.draws;
  ok =
      subst (Ok c.fixed (busy c.guest c.barred [] 0 0) (c.messages + 0) (c.bytes + freeing) (c.draws + 39)) (sym ((one_of_at {F = station_form} xs v.ready.packed _ k).same out))
      (ok_one_of n (λ o g l. q) (ease (omega arith) (omega arith) (omega arith) c.ok));
}

pub loose_picked : (w a b : Work) (xs ys ds out o : List ℕ) (n i p : ℕ) → Fine (work_of w xs) ds out → Calm 0 freeing 40 (run (work_of w xs) ds out) → n ≤ working_places → (i < length (unpack xs).active) × (p ≡ get_or (unpack xs).active i 0)
    → Tells (drop_active i) (work_of a xs) (work_of b ys) out o → DrawsAny (draw_one_of n) w a ds → Loose p 2 (disconnecting + adding) 39 (run (work_of b ys) ds o)
loose_picked w a b xs ys ds out o n i p v c q e k₂ k₁ =
    loose_after a b xs ys ds out o i p 0 freeing 39 2 (disconnecting + adding) (omega arith) (omega arith) (calm_drawn w a xs ds out n q v c k₁) e.0 e.1 k₂

pub slot_free : (w a : Work) (xs ys ds out o : List ℕ) → Calm 0 freeing 40 (run (work_of w xs) ds out) → Does (work_of a ys) ds o (free_random_slot_in_active_view (run (work_of w xs) ds out)) → FreeActive a.code (unpack ys)
unfolding run_of
slot_free w a xs ys ds out o c k =
    subst (λ (x : Run). FreeActive x.code x.station) (sym k.same)
    (record { free = λ z. let h = ((ok_free_slot c.ok).good z).core in omega (arith, h.seats.slots_left) })

-- ---- rows of a removal

pub by_index : (w a r : Work) (xs ys zs ds out o o₂ : List ℕ) (i p : ℕ) (why : Reason) → Fine (work_of w xs) ds out → p ≡ get_or (unpack xs).active i 0
    → Does (work_of r zs) ds o₂ (settle why p (run (work_of a ys) ds o)) → Tells (drop_active i) (work_of w xs) (work_of a ys) out o → Does (work_of r zs) ds o₂ (remove_active_by_index i why (run (work_of w xs) ds out))
unfolding remove_active_by_index run_of
by_index w a r xs ys zs ds out o o₂ i p why v e k₂ k₁ = seq_at (settle why) e k₂ (then_tell k₁ (still v))

pub fine_told : {step : Run → Run} (w a : Work) (xs ys ds out o : List ℕ) → Fine (work_of w xs) ds out → Tells step (work_of w xs) (work_of a ys) out o → Fine (work_of a ys) ds o
fine_told w a xs ys ds out o v k = (then_tell k (still v)).fine

pub refilled : (w a r : Work) (xs ys zs ds out o : List ℕ) (p : ℕ) (l : RefillLimit) → Fine (work_of w xs) ds out
    → Does (work_of r zs) ds o (start_refill (refill_in l) (p ∷ []) (run (work_of a ys) ds out)) → l ≡ Recovery → Changes (on clear_refused) (work_of w xs) (work_of a ys) → Does (work_of r zs) ds o (refill_after p (run (work_of w xs) ds out))
unfolding refill_after refill_in
refilled w a r xs ys zs ds out o p l v k₂ e k₁ =
    seq (start_refill recovery (p ∷ [])) (subst (λ (x : RefillLimit). Does (work_of r zs) ds o (start_refill (refill_in x) (p ∷ []) (run (work_of a ys) ds out))) e k₂) (then k₁ (still v))

pub place_of : (xs : List ℕ) (p i : ℕ) (t : Bool) → t ≡ in_active p (unpack xs) → t ≡ true → i ≡ index_of p (unpack xs).active → i < length (unpack xs).active
unfolding in_active
place_of xs p i t e h q = rw q (index_lt p (unpack xs).active (sym e ∙ h))

module _ (w : Work) (xs ds out : List ℕ) (p : ℕ) (why : Reason) (t : Bool) (v : Fine (work_of w xs) ds out) (e : t ≡ in_active p (unpack xs)) where
  pub removed : (a r : Work) (ys zs o o₂ : List ℕ) (i : ℕ) → t ≡ true → i ≡ index_of p (unpack xs).active → Does (work_of r zs) ds o₂ (refill_after p (run (work_of a ys) ds o)) → Does (work_of a ys) ds o (remove_active_by_index i why (run (work_of w xs) ds out))
      → Does (work_of r zs) ds o₂ (remove_active p why (run (work_of w xs) ds out))
  unfolding remove_active run_of
  removed a r ys zs o o₂ i h q k₂ k₁ =
      taken _ _ (sym e ∙ h) (seq (refill_after p) k₂ (by _ (ap (λ (n : ℕ). remove_active_by_index n why (run (work_of w xs) ds out)) (sym q)) k₁))

  pub not_removed : t ≡ false → Does (work_of w xs) ds out (remove_active p why (run (work_of w xs) ds out))
  unfolding remove_active
  not_removed h = left _ _ (holds_at (work_of w xs) ds out (in_active p) e h) (still v)

module _ (xs from : List ℕ) (k i : ℕ) (c : HoldsSet working_places from (without_pin (unpack xs))) (l : k < get_or from working_places 0) (j : i ≡ index_of (get_or from k 0) (unpack xs).active) where
  free : List ℕ
  free = without_pin (unpack xs)

  as_many : get_or from working_places 0 ≡ length free
  unfolding free
  as_many = sym c.valid.counted ∙ ap length c.items

  read : get_or from k 0 ≡ get_or free k 0
  unfolding free
  read = item_read working_places from k c.valid (omega (arith, l, c.valid.counted)) ∙ ap (λ (f : List ℕ). get_or f k 0) c.items

  -- whoever is picked stands at a place of the active view
  pub picked_place : (i < length (unpack xs).active) × (get_or from k 0 ≡ get_or (unpack xs).active i 0)
  unfolding free
  picked_place =
      let act = (unpack xs).active in
      let h : mem (get_or from k 0) act ≡ true = subst (λ (x : ℕ). mem x act ≡ true) (sym read) (free_active (unpack xs) k (omega (arith, l, as_many))) in
      (rw j (index_lt (get_or from k 0) act h), sym (ap (λ (x : ℕ). get_or act x 0) j ∙ index_at (get_or from k 0) act h))

  pub picked_removed : (w a r : Work) (ys ds out o : List ℕ) → Fine (work_of w xs) ds out → k ≡ pick (get_or from working_places 0) (drop w.drawn ds)
      → Does (work_of r ys) ds o (remove_active_by_index i random (run (work_of a xs) ds out)) → DrawsAny (draw_one_of (get_or from working_places 0)) w a ds → Does (work_of r ys) ds o (remove_picked (run (work_of w xs) ds out))
  unfolding free remove_picked picked run_of one_of to_draw
  picked_removed w a r ys ds out o v u k₂ k₁ =
      let at : get_or from k 0 ≡ get_or free (pick (length free) (drop w.drawn ds)) 0 = read ∙ ap (λ (x : ℕ). get_or free x 0) (u ∙ ap (λ (x : ℕ). pick x (drop w.drawn ds)) as_many) in
      by _ (λ z. remove_active_by_index (sym (j ∙ ap (λ (x : ℕ). index_of x (unpack xs).active) at) z) random (draw_one_of (sym as_many z) (run (work_of w xs) ds out)))
      (seq (remove_active_by_index i random) k₂ (then_one_of _ k₁ (still v)))

module _ (w : Work) (xs ds out from : List ℕ) (t : Bool) (c : HoldsSet working_places from (without_pin (unpack xs))) (e : t ≡ null (items_at working_places from)) where
  pub no_slot : Fine (work_of w xs) ds out → t ≡ true → Does (work_of w xs) ds out (free_random_slot_in_active_view (run (work_of w xs) ds out))
  unfolding free_random_slot_in_active_view
  no_slot v h = taken _ _ (holds_at (work_of w xs) ds out (λ s. null (without_pin s)) (e ∙ ap null c.items) h) (still v)

  pub one_slot : (r : Work) (ys o : List ℕ) → t ≡ false → Does (work_of r ys) ds o (remove_picked (run (work_of w xs) ds out)) → Does (work_of r ys) ds o (free_random_slot_in_active_view (run (work_of w xs) ds out))
  unfolding free_random_slot_in_active_view
  one_slot r ys o h k = left _ _ (holds_at (work_of w xs) ds out (λ s. null (without_pin s)) (e ∙ ap null c.items) h) k

module _ (r : Work) (ys ds o : List ℕ) (g : Run) (why : Loss) (p : ℕ) where
  pub settled_closed : why ≡ ConnectionClosed → Does (work_of r ys) ds o (settle_closed p g) → Does (work_of r ys) ds o (settle (reason_in why) p g)
  unfolding settle reason_in
  settled_closed e k = rw e k

  pub settled_alive : (b : Bool) → why ≡ DisconnectReceived b → b ≡ true → Does (work_of r ys) ds o (choose true (demote_alive p) (demote p) g) → Does (work_of r ys) ds o (settle (reason_in why) p g)
  unfolding settle reason_in choose
  settled_alive b e f k = rw (e, f) k

  settled_by : (b : Bool) → why ≡ DisconnectReceived b → b ≡ false → Does (work_of r ys) ds o (forget_peer p g) → Does (work_of r ys) ds o (settle (reason_in why) p g)
  unfolding settle reason_in
  settled_by b e f k = rw (e, f) k

pub settled_gone : (w r : Work) (xs ys ds out : List ℕ) (why : Loss) (p : ℕ) (b : Bool) → Fine (work_of w xs) ds out → why ≡ DisconnectReceived b → b ≡ false → Changes (forget_peer p) (work_of w xs) (work_of r ys)
    → Does (work_of r ys) ds out (settle (reason_in why) p (run (work_of w xs) ds out))
settled_gone w r xs ys ds out why p b v e f k = settled_by r ys ds out (run (work_of w xs) ds out) why p b e f (then k (still v))

pub settled_random : (w a r : Work) (xs ys zs ds out o₁ o : List ℕ) (p : ℕ) → Does (work_of r zs) ds o (choose true (demote_alive p) (demote p) (run (work_of a ys) ds o₁)) → Does (work_of a ys) ds o₁ (send_disconnect p true (run (work_of w xs) ds out))
    → Does (work_of r zs) ds o (settle random p (run (work_of w xs) ds out))
unfolding settle choose
settled_random w a r xs ys zs ds out o₁ o p k₂ k₁ = seq (demote_alive p) k₂ k₁

-- ---- pins

-- the active view less the pins is whom a demotion is picked from
pub free_held : (xs from rest : List ℕ) → HoldsSet working_places from (items_at active_places (active_part xs)) → HoldsSet working_places rest (without_all (items_at pins_places (pins_part xs)) (items_at working_places from)) → HoldsSet working_places rest (without_pin (unpack xs))
unfolding without_pin unpack station_of
free_held xs from rest c h = subst (λ (l : List ℕ). HoldsSet working_places rest (without_all (items_at pins_places (pins_part xs)) l)) c.items h

pub pin_dropped : {xs ys : List ℕ} (p : ℕ) → PackedState xs → HoldsSet pins_places ys (without p (items_at pins_places (pins_part xs))) → Becomes (put_mid pins_at pins_size xs ys) (drop_pin p (unpack xs))
unfolding drop_pin unpack station_of
pin_dropped p v h = put_pins h (record { packed = v; same = refl })

module _ (xs ys : List ℕ) (p : ℕ) (b : Becomes ys (drop_pin p (unpack xs))) where
  same_active : items_at active_places (active_part ys) ≡ (unpack xs).active
  unfolding drop_pin unpack station_of
  same_active = ap (λ (s : Station). s.active) b.same

  pub place_kept : (i : ℕ) → i < length (unpack xs).active → i < length (items_at active_places (active_part ys))
  place_kept i l = omega (arith, l, ap length same_active)

  pub left_active : (w : Work) (zs : List ℕ) (i : ℕ) → PackedState xs → w.code ≡ 0 → p ≡ get_or (unpack xs).active i 0 → HoldsSet active_places zs (swap_remove i (items_at active_places (active_part ys)))
      → Changes (on (swap_active i)) (work_of w xs) (work_of w (put_mid active_at active_size ys zs))
  unfolding swap_active leave_active
  left_active w zs i v z e h =
      on_done (work_of w xs) v (swap_active i) _ z
      (λ _. subst (λ (q : ℕ). Becomes (put_mid active_at active_size ys zs) (set_active (swap_remove i (unpack xs).active) (drop_pin q (unpack xs)))) e
      (subst (λ (l : List ℕ). Becomes (put_mid active_at active_size ys zs) (set_active (swap_remove i l) (drop_pin p (unpack xs)))) same_active (put_active h (fewer_active ys i b.packed) b)))

  pub neighbor_left : (zs : List ℕ) → HoldsSet active_places zs (remove p (items_at active_places (active_part ys))) → Becomes (put_mid active_at active_size ys zs) (remove_neighbor p (unpack xs))
  unfolding remove_neighbor leave_active
  neighbor_left zs h =
      subst (λ (l : List ℕ). Becomes (put_mid active_at active_size ys zs) (set_active (remove p l) (drop_pin p (unpack xs)))) same_active
      (put_active h (omega (arith, length_remove p (items_at active_places (active_part ys)), active_fits ys b.packed)) b)
