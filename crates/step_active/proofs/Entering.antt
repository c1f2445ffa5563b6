-- Laws of the steps by which a peer enters the active view.
-- Assumes nothing.
use Rattle.std.specs.Prelude as prelude
use Prim.Native.Nat.{ℕ, ◌+◌, ◌≤◌, ◌<◌}
use mathlib.Core.Path.{◌≡◌, refl, sym, ap, ◌∙◌, subst}
use mathlib.Core.Bool.{Bool, true, false}
use mathlib.Core.List.{List, [], ◌∷◌, ◌++◌}
use mathlib.Core.Option.{none, some}
use native.Mathlib.Omega.{arith}
use lib.ListN.{length, set, length-append}
use lib.Dec.{eqb}
use borrow.Author.Tests.{leb-false}
use borrow.Rule.Slice.PartMut.{put_mid}
use Rattle.record.specs.Kinds.{NeighborUp, output_byte}
use Rattle.base_lists.specs.Lists.{renew}
use Rattle.base_lists.proofs.Choice.{by_choice}
use Rattle.base_peer.specs.declared.PeerData.{PeerData}
use Rattle.base_peer.specs.Data.{Data, bytes_of}
use Rattle.base_peer.specs.Held.{data_in}
use Rattle.base_peer.proofs.Data.{short_bytes}
use Rattle.base_util.specs.Section.{items_at, HoldsSet}
use Rattle.spec_hyparview.specs.Station.{Station, Refill, automatic, is_me, in_active, active_is_full, is_requested}
use Rattle.spec_hyparview.specs.Setters.{set_refill}
use Rattle.spec_hyparview.specs.Run.{Run, guard, on, emit, require, notice}
use Rattle.spec_hyparview.specs.Budgets.{single, freeing, arriving}
use Rattle.spec_hyparview.specs.Peers.{insert_peer_info, drop_mark, remove_passive}
use Rattle.spec_hyparview.specs.Sending.{count_request, open_request, tell_request, send_neighbor, reply_neighbor}
use Rattle.spec_hyparview.specs.Refill.{unless_recovery}
use Rattle.spec_hyparview.specs.Active.{push_active, remember_neighbor, move_in, gain_neighbor, enter_active, add_active_unchecked, free_random_slot_in_active_view, admit_full, admit_new, admit, add_active}
use Rattle.spec_hyparview.proofs.Law.{Short}
use Rattle.spec_hyparview.proofs.Invariant.{busy, Ok}
use Rattle.spec_hyparview.proofs.Keeping.{ease}
use Rattle.spec_hyparview.proofs.Sends.{ok_insert_peer_info}
use Rattle.work.specs.declared.Work.{Work}
use Rattle.hyparview_state.specs.declared.RefillLimit.{RefillLimit}
use Rattle.hyparview_state.specs.declared.RefillLimit.TheVariants.{Automatic}
use Rattle.hyparview_state.specs.Layout.{active_view_capacity, active_part, recent_part, active_at, active_places, active_size, recent_at, recent_places, recent_size, passes_short_at}
use Rattle.hyparview_state.specs.Unpack.{unpack, station_of, settings_at, limit_at, refill_in, PackedState, Becomes}
use Rattle.hyparview_state.specs.Work.{work_of, run, run_of, Changes, Room, Tells, TellsAny, Fine, Does}
use Rattle.hyparview_state.proofs.Access.{of_capacity}
use Rattle.hyparview_state.proofs.Fields.{put_passes_short, put_active, put_recent}
use Rattle.hyparview_state.proofs.Any.{told_at}
use Rattle.hyparview_state.proofs.Bridge.{guard_shut, on_twice, on_passed, on_done, unchanged, change_then, telling, tell_then, still, then_tell, seq, taken, left, holds_at}
use Rattle.step_active.specs.Sane.{FreeActive, Calm}

-- ---- places

module _ (xs : List ℕ) (code : ℕ) (v : PackedState xs) (z : code ≡ 0) (h : FreeActive code (unpack xs)) where
  pub place_active : length (items_at active_places (active_part xs)) < 8
  unfolding unpack station_of settings_at
  place_active = omega (arith, h.free z, of_capacity xs v)

  pub one_more : (p : ℕ) → length (items_at active_places (active_part xs) ++ (p ∷ [])) ≤ active_view_capacity xs
  unfolding unpack station_of settings_at
  one_more p = omega (arith, h.free z, length-append (items_at active_places (active_part xs)) (p ∷ []))

pub open_slot : (xs : List ℕ) (code : ℕ) (t : Bool) → t ≡ active_is_full (unpack xs) → t ≡ false → FreeActive code (unpack xs)
unfolding active_is_full
open_slot xs code t e h = record { free = λ z. leb-false _ _ (sym e ∙ h) }

-- a change that leaves the active view and the settings alone
kept_free : (f : Station → Station) → ((s : Station) → (f s).active ≡ s.active) → ((s : Station) → (f s).config ≡ s.config) → (g : Run) → FreeActive g.code g.station → FreeActive (on f g).code (on f g).station
unfolding on guard
kept_free f a c g h =
    by_choice (λ (x : Run). FreeActive x.code x.station) (eqb g.code 0)
    (λ e. record { free = λ z. rw (a g.station, c g.station) (h.free z) })
    (λ e. h)

still_free : (f : Station → Station) → ((s : Station) → (f s).active ≡ s.active) → ((s : Station) → (f s).config ≡ s.config) → (w a : Work) (xs ys : List ℕ)
    → Changes (on f) (work_of w xs) (work_of a ys) → FreeActive w.code (unpack xs) → FreeActive a.code (unpack ys)
unfolding run_of
still_free f m n w a xs ys k h = subst (λ (x : Run). FreeActive x.code x.station) (sym (k.same [] [])) (kept_free f m n (run (work_of w xs) [] []) h)

-- ---- rows

module _ (w a b : Work) (xs ys zs : List ℕ) (p : ℕ) (k₂ : Changes (on (drop_mark p)) (work_of a ys) (work_of b zs)) (k₁ : Changes (on (remove_passive p)) (work_of w xs) (work_of a ys)) where
  pub left_free : FreeActive w.code (unpack xs) → FreeActive b.code (unpack zs)
  unfolding drop_mark remove_passive
  left_free h = still_free (drop_mark p) (λ s. refl) (λ s. refl) a b ys zs k₂ (still_free (remove_passive p) (λ s. refl) (λ s. refl) w a xs ys k₁ h)

  pub moved_in : (d r : Work) (us vs : List ℕ) → Changes (on (remember_neighbor p)) (work_of d us) (work_of r vs) → Changes (on (push_active p)) (work_of b zs) (work_of d us) → Changes (on (move_in p)) (work_of w xs) (work_of r vs)
  unfolding move_in
  moved_in d r us vs k₄ k₃ =
      change_then _
      (λ ds out. on_twice (λ s. push_active p (drop_mark p (remove_passive p s))) (remember_neighbor p) (run (work_of w xs) ds out)
      ∙ ap (on (remember_neighbor p)) (on_twice (λ s. drop_mark p (remove_passive p s)) (push_active p) (run (work_of w xs) ds out)
      ∙ ap (on (push_active p)) (on_twice (remove_passive p) (drop_mark p) (run (work_of w xs) ds out))))
      k₄ (change_then (λ g. on (push_active p) (on (drop_mark p) (on (remove_passive p) g))) (λ ds out. refl) k₃
      (change_then (λ g. on (drop_mark p) (on (remove_passive p) g)) (λ ds out. refl) k₂ k₁))

  pub not_moved : (b.code ≡ 0 → ⊥) → Changes (on (move_in p)) (work_of w xs) (work_of b zs)
  not_moved h = moved_in b b zs zs (on_passed (work_of b zs) k₂.packed (remember_neighbor p) h) (on_passed (work_of b zs) k₂.packed (push_active p) h)

module _ (w : Work) (xs : List ℕ) (p : ℕ) (v : PackedState xs) (z : w.code ≡ 0) (ys : List ℕ) where
  pub pushed : FreeActive w.code (unpack xs) → HoldsSet 8 ys (items_at active_places (active_part xs) ++ (p ∷ [])) → Changes (on (push_active p)) (work_of w xs) (work_of w (put_mid active_at active_size xs ys))
  unfolding push_active unpack station_of
  pushed f h = on_done (work_of w xs) v _ _ z (put_active h (one_more xs w.code v z f p))

  pub remembered : HoldsSet 8 ys (renew 8 p (items_at recent_places (recent_part xs))) → Changes (on (remember_neighbor p)) (work_of w xs) (work_of w (put_mid recent_at recent_size xs ys))
  unfolding remember_neighbor unpack station_of
  remembered h = on_done (work_of w xs) v _ _ z (put_recent h)

pub gained : (xs ys : List ℕ) (old v l : RefillLimit) → Becomes ys (set_refill (refill_in v) (unpack xs)) → refill_in v ≡ unless_recovery (refill_in old) (refill_in l) → l ≡ Automatic → old ≡ limit_at xs
    → Becomes (set ys passes_short_at 0) (gain_neighbor (unpack xs))
unfolding gain_neighbor unpack station_of refill_in
gained xs ys old v l h e a q =
    let z : refill_in v ≡ unless_recovery (refill_in (limit_at xs)) automatic = e ∙ (λ i. unless_recovery (refill_in (q i)) (refill_in (a i))) in
    put_passes_short 0 (omega arith) (subst (λ (y : Refill). Becomes ys (set_refill y (unpack xs))) z h)

-- where a code is set, no answer is sent
reply_shut : (reply : Bool) (p : ℕ) (high : Bool) (g : Run) → (g.code ≡ 0 → ⊥) → reply_neighbor reply p high g ≡ g
unfolding reply_neighbor send_neighbor tell_request open_request count_request on emit require
reply_shut reply p high g h =
    by_choice (λ (x : Run). x ≡ g) reply
    (λ t. by_choice (λ (x : Run). x ≡ g) (is_requested p g.station) (λ u. refl)
    (λ u. rw (guard_shut g _ h) (rw (guard_shut g _ h) (rw (guard_shut g _ h) (rw (guard_shut g _ h) (guard_shut g _ h))))))
    (λ t. refl)

module _ (w a b : Work) (xs ys out o : List ℕ) (p : ℕ) (v : Room (work_of w xs) out)
    (k₂ : TellsAny (emit (notice (output_byte NeighborUp) p)) a b out o) (k₁ : Changes (on (move_in p)) (work_of w xs) (work_of a ys)) where
  enter_row : (zs : List ℕ) → Changes (on gain_neighbor) (work_of b ys) (work_of b zs) → Tells (enter_active p) (work_of w xs) (work_of b zs) out o
  unfolding enter_active
  enter_row zs k₃ =
      let t = told_at ys k₁.packed _ k₂ in
      tell_then _ (λ ds. refl) (telling t.room k₃) (tell_then (λ g. emit (notice (output_byte NeighborUp) p) (on (move_in p) g)) (λ ds. refl) t (telling v k₁))

  pub not_added : (high reply : Bool) → (b.code ≡ 0 → ⊥) → Tells (add_active_unchecked p high reply) (work_of w xs) (work_of b ys) out o
  unfolding add_active_unchecked run_of
  not_added high reply h =
      let t = enter_row ys (on_passed (work_of b ys) k₁.packed gain_neighbor h) in
      tell_then _ (λ ds. refl) (telling t.room (unchanged (reply_neighbor reply p high) k₁.packed (λ ds q. reply_shut reply p high (run (work_of b ys) ds q) h))) t

  pub entered : (zs : List ℕ) → b.code ≡ 0 → Becomes zs (gain_neighbor (unpack ys)) → Tells (enter_active p) (work_of w xs) (work_of b zs) out o
  entered zs z h = enter_row zs (on_done (work_of b ys) k₁.packed gain_neighbor zs z (λ _. h))

pub added_unchecked : (w a r : Work) (xs ys zs out o₁ o : List ℕ) (p : ℕ) (high reply : Bool) → Tells (reply_neighbor reply p high) (work_of a ys) (work_of r zs) o₁ o → Tells (enter_active p) (work_of w xs) (work_of a ys) out o₁
    → Tells (add_active_unchecked p high reply) (work_of w xs) (work_of r zs) out o
unfolding add_active_unchecked
added_unchecked w a r xs ys zs out o₁ o p high reply k₂ k₁ = tell_then _ (λ ds. refl) k₂ k₁

module _ (w : Work) (xs ds out : List ℕ) (p : ℕ) (high reply : Bool) where
  pub full_high : (a r : Work) (ys zs o₁ o : List ℕ) → high ≡ true → Tells (add_active_unchecked p high reply) (work_of a ys) (work_of r zs) o₁ o
      → Does (work_of a ys) ds o₁ (free_random_slot_in_active_view (run (work_of w xs) ds out)) → Does (work_of r zs) ds o (admit_full p high reply (run (work_of w xs) ds out))
  unfolding admit_full
  full_high a r ys zs o₁ o h k₂ k₁ = taken _ _ h (then_tell k₂ k₁)

  pub full_low : Fine (work_of w xs) ds out → high ≡ false → Does (work_of w xs) ds out (admit_full p high reply (run (work_of w xs) ds out))
  unfolding admit_full
  full_low v h = left _ _ h (still v)

  module _ (r : Work) (ys o : List ℕ) (t : Bool) where
    pub new_full : t ≡ active_is_full (unpack xs) → t ≡ true → Does (work_of r ys) ds o (admit_full p high reply (run (work_of w xs) ds out)) → Does (work_of r ys) ds o (admit_new p high reply (run (work_of w xs) ds out))
    unfolding admit_new
    new_full e h k = taken _ _ (holds_at (work_of w xs) ds out active_is_full e h) k

    pub new_open : Fine (work_of w xs) ds out → t ≡ active_is_full (unpack xs) → t ≡ false → Tells (add_active_unchecked p high reply) (work_of w xs) (work_of r ys) out o → Does (work_of r ys) ds o (admit_new p high reply (run (work_of w xs) ds out))
    unfolding admit_new
    new_open v e h k = left _ _ (holds_at (work_of w xs) ds out active_is_full e h) (then_tell k (still v))

    pub admit_known : Fine (work_of w xs) ds out → t ≡ in_active p (unpack xs) → t ≡ true → Tells (reply_neighbor reply p high) (work_of w xs) (work_of r ys) out o → Does (work_of r ys) ds o (admit p high reply (run (work_of w xs) ds out))
    unfolding admit
    admit_known v e h k = taken _ _ (holds_at (work_of w xs) ds out (in_active p) e h) (then_tell k (still v))

    pub admit_other : t ≡ in_active p (unpack xs) → t ≡ false → Does (work_of r ys) ds o (admit_new p high reply (run (work_of w xs) ds out)) → Does (work_of r ys) ds o (admit p high reply (run (work_of w xs) ds out))
    unfolding admit
    admit_other e h k = left _ _ (holds_at (work_of w xs) ds out (in_active p) e h) k

  module _ (d : Data) (t : Bool) (v : Fine (work_of w xs) ds out) (e : t ≡ is_me p (unpack xs)) where
    pub add_me : t ≡ true → Does (work_of w xs) ds out (add_active p d high reply (run (work_of w xs) ds out))
    unfolding add_active
    add_me h = taken _ _ (holds_at (work_of w xs) ds out (is_me p) e h) (still v)

    pub add_other : (a r : Work) (ys zs o₁ o : List ℕ) → t ≡ false → Does (work_of r zs) ds o (admit p high reply (run (work_of a ys) ds o₁)) → Tells (insert_peer_info p d) (work_of w xs) (work_of a ys) out o₁
        → Does (work_of r zs) ds o (add_active p d high reply (run (work_of w xs) ds out))
    unfolding add_active
    add_other a r ys zs o₁ o h k₂ k₁ = left _ _ (holds_at (work_of w xs) ds out (is_me p) e h) (seq (admit p high reply) k₂ (then_tell k₁ (still v)))

-- ---- the invariant after the data was stored

short_by_length : (x : Data) → length (bytes_of x) ≤ 16 → Short x
unfolding bytes_of Short
short_by_length none h = tt
short_by_length (some b) h = h

pub informed : (w a : Work) (xs ys ds out o : List ℕ) (p : ℕ) (d : prelude.Option PeerData) → Calm 0 arriving 40 (run (work_of w xs) ds out) → Tells (insert_peer_info p (data_in d)) (work_of w xs) (work_of a ys) out o → Calm 0 freeing 40 (run (work_of a ys) ds o)
informed w a xs ys ds out o p d c k =
    let q = c.fixed in
    let k₁ : Ok q (busy c.guest c.barred [] 0 0) (c.messages + 0) (c.bytes + freeing + single) (c.draws + 40) (run (work_of w xs) ds out) = ease (omega arith) (omega arith) (omega arith) c.ok in
    record {
      fixed = q;
      guest = c.guest;
      barred = c.barred;
      messages = c.messages;
      bytes = c.bytes;
      draws = c.draws;
      ok =
          subst (Ok q (busy c.guest c.barred [] 0 0) (c.messages + 0) (c.bytes + freeing) (c.draws + 40)) (sym (k.same ds))
          (ok_insert_peer_info p (data_in d) (λ z. short_by_length (data_in d) (short_bytes d)) k₁);
    }
