-- Lost connections, and Quit.
-- Assumes nothing.
use Prim.Native.Nat.{ℕ, ◌+◌}
use mathlib.Core.Path.{◌≡◌, refl, sym, ap, ◌∙◌, subst}
use mathlib.Core.Bool.{Bool, true, false}
use mathlib.Core.List.{List, [], ◌∷◌}
use lib.ListN.{length, take, drop}
use lib.Dec.{ltb}
use Rattle.base_lists.proofs.Choice.{by_choice}
use Rattle.base_util.specs.Section.{part, items_at, HoldsSet, working_places}
use Rattle.spec_hyparview.specs.Station.{in_active, is_requested}
use Rattle.spec_hyparview.specs.Run.{Run, on, emit, draw, draw_shuffle, shuffled, message, flag}
use Rattle.spec_hyparview.specs.Peers.{drop_data, drop_mark, remove_passive, is_marked}
use Rattle.spec_hyparview.specs.Sending.{send_nodes, fill_active, send_filled, reply_with, send_shuffle_reply, reply_length, send_disconnect}
use Rattle.spec_hyparview.specs.Refill.{refill_active_from_passive}
use Rattle.spec_hyparview.specs.Active.{remove_active}
use Rattle.spec_hyparview.specs.Messages.{drop_request}
use Rattle.spec_hyparview.specs.Events.{drop_dead, lose_passive, lose_other, lose, handle_connection_closed, remove_neighbor, quit_one, quit_all, clear_all, handle_quit}
use Rattle.spec_hyparview.proofs.Invariant.{busy, Ok}
use Rattle.spec_hyparview.proofs.Received.{ok_drop_request}
use Rattle.work.specs.declared.Work.{Work}
use Rattle.hyparview_state.specs.Layout.{active_at, active_places, active_size}
use Rattle.hyparview_state.specs.Unpack.{unpack, station_of, PackedState, Becomes}
use Rattle.hyparview_state.specs.Work.{Held, work_of, run, run_of, Changes, Fine, Does}
use Rattle.hyparview_state.proofs.Bridge.{guard_shut, on_twice, on_passed, on_done, change_then, change_yes, change_no, by, still, then, seq, seq_at, taken, left, holds_at, at_run}
use Rattle.step_sending.proofs.Sets.{lent_items}
use Rattle.step_active.specs.declared.Loss.TheVariants.{ConnectionClosed}
use Rattle.step_active.specs.Sane.{Calm, reason_in}

-- ---- lost connections

module _ (w r : Held) (p : ℕ) (t : Bool) (e : t ≡ is_marked p (unpack w.state)) where
  pub saved : t ≡ true → Changes (on (drop_mark p)) w r → Changes (lose_passive p) w r
  unfolding lose_passive
  saved h k = change_yes (is_marked p) e _ h k

  pub lost : (a : Held) → t ≡ false → Changes (on (drop_data p)) a r → Changes (on (remove_passive p)) w a → Changes (lose_passive p) w r
  unfolding lose_passive drop_dead
  lost a h k₂ k₁ = change_no (is_marked p) e _ h (change_then (on (drop_dead p)) (λ ds out. on_twice (remove_passive p) (drop_data p) (run w ds out)) k₂ k₁)

module _ (w a : Held) (ds out : List ℕ) (p : ℕ) (k : Changes (on (drop_request p)) w a) where
  pub closed_calm : (m b d : ℕ) → Calm m b d (run w ds out) → Calm m b d (run a ds out)
  closed_calm m b d h = record {
    fixed = h.fixed;
    guest = h.guest;
    barred = h.barred;
    messages = h.messages;
    bytes = h.bytes;
    draws = h.draws;
    ok = subst (Ok h.fixed (busy h.guest h.barred [] 0 0) (h.messages + m) (h.bytes + b) (h.draws + d)) (sym (k.same ds out)) (ok_drop_request p h.ok);
  }

module _ (w a : Held) (ds out : List ℕ) (p : ℕ) (requested t : Bool) (v : Fine w ds out) (q : requested ≡ is_requested p (unpack w.state)) (k : Changes (on (drop_request p)) w a) (e : t ≡ in_active p (unpack a.state)) where
  closed : (r : Held) (o : List ℕ) → Does r ds o (lose p requested (run a ds out)) → Does r ds o (handle_connection_closed p (run w ds out))
  unfolding handle_connection_closed
  closed r o d = seq_at (lose p) (q ∙ at_run w ds out (is_requested p)) d (then k (still v))

  pub neighbor_lost : (r : Held) (o : List ℕ) → t ≡ true → Does r ds o (remove_active p (reason_in ConnectionClosed) (run a ds out)) → Does r ds o (handle_connection_closed p (run w ds out))
  unfolding lose reason_in
  neighbor_lost r o h d = closed r o (taken _ _ (holds_at a ds out (in_active p) e h) d)

  other_lost : (r : Held) (o : List ℕ) → t ≡ false → Does r ds o (lose_other p requested (run a ds out)) → Does r ds o (handle_connection_closed p (run w ds out))
  unfolding lose
  other_lost r o h d = closed r o (left _ _ (holds_at a ds out (in_active p) e h) d)

  passed : (b : Held) → Changes (lose_passive p) a b → Does b ds out (lose_passive p (run a ds out))
  passed b k₂ = then k₂ (still (then k (still v)).fine)

  pub asked_again : (b r : Held) (o : List ℕ) → t ≡ false → requested ≡ true → Changes (lose_passive p) a b → Does r ds o (refill_active_from_passive (p ∷ []) (run b ds out)) → Does r ds o (handle_connection_closed p (run w ds out))
  unfolding lose_other
  asked_again b r o h i k₂ d = other_lost r o h (taken _ _ i (seq (refill_active_from_passive (p ∷ [])) d (passed b k₂)))

  pub not_asked : (b : Held) → t ≡ false → requested ≡ false → Changes (lose_passive p) a b → Does b ds out (handle_connection_closed p (run w ds out))
  unfolding lose_other
  not_asked b h i k₂ = other_lost b out h (left _ _ i (passed b k₂))

-- ---- Quit

-- a neighbor leaves the active view
pub neighbor_removed : (w : Work) (xs ys : List ℕ) (p : ℕ) → PackedState xs → w.code ≡ 0 → Becomes ys (remove_neighbor p (unpack xs)) → Changes (on (remove_neighbor p)) (work_of w xs) (work_of w ys)
neighbor_removed w xs ys p v z b = on_done (work_of w xs) v _ _ z (λ _. b)

pub quitted : (w a r : Held) (ds out o : List ℕ) (p : ℕ) → Fine w ds out → Does r ds o (send_disconnect p false (run a ds out)) → Changes (on (remove_neighbor p)) w a → Does r ds o (quit_one p (run w ds out))
unfolding quit_one
quitted w a r ds out o p v k₂ k₁ = seq (send_disconnect p false) k₂ (then k₁ (still v))

-- where a code is set, the neighbors to come do not quit
reply_shut : (to len : ℕ) (ps : List ℕ) (g : Run) → (g.code ≡ 0 → ⊥) → reply_with to len ps g ≡ g
unfolding reply_with send_filled send_nodes draw_shuffle draw emit
reply_shut to len ps g h =
    by_choice (λ (x : Run). x ≡ g) (ltb (length ps) len)
    (λ t. ap (send_nodes to (fill_active len ps g)) (guard_shut g _ h) ∙ guard_shut g _ h)
    (λ t. guard_shut g _ h)

quit_shut : (p : ℕ) (g : Run) → (g.code ≡ 0 → ⊥) → quit_one p g ≡ g
unfolding quit_one send_disconnect send_shuffle_reply draw_shuffle draw on emit
quit_shut p g h =
    ap (send_disconnect p false) (guard_shut g _ h)
    ∙ ap (emit (message 5 p (flag false) 0 0 [])) (ap (reply_with p (reply_length g.station) (take (reply_length g.station) (shuffled g.station.passive g))) (guard_shut g _ h) ∙ reply_shut p _ _ g h)
    ∙ guard_shut g _ h

pub quits_shut : (l : List ℕ) (g : Run) → (g.code ≡ 0 → ⊥) → quit_all l g ≡ g
unfolding quit_all
quits_shut [] g h = refl
quits_shut (p ∷ l) g h = ap (quit_all l) (quit_shut p g h) ∙ quits_shut l g h

-- nor those of a run that begins with one
pub quit_refused : (w : Work) (xs ds out : List ℕ) → Fine (work_of w xs) ds out → (w.code ≡ 0 → ⊥) → Does (work_of w xs) ds out (handle_quit (run (work_of w xs) ds out))
unfolding handle_quit run_of
quit_refused w xs ds out f h =
    then (on_passed (work_of w xs) f.ready.packed clear_all h) (by _ (quits_shut (unpack xs).active (run (work_of w xs) ds out) h) (still f))

-- the neighbors are those of the working set
quits_are : (v xs : List ℕ) (n : ℕ) → HoldsSet working_places v (items_at active_places (take active_size (drop active_at xs))) → n ≡ length (items_at working_places v) → take n v ≡ (unpack xs).active
unfolding unpack station_of part
quits_are v xs n h e = lent_items v n h.valid e ∙ h.items

module _ (w a : Work) (xs ys v ds out o : List ℕ) (n : ℕ) (d : Does (work_of a ys) ds o (quit_all (take n v) (run (work_of w xs) ds out))) (s : HoldsSet working_places v (items_at active_places (take active_size (drop active_at xs)))) (e : n ≡ length (items_at working_places v)) where
  cleared_by : (r : Held) → Changes (on clear_all) (work_of a ys) r → Does r ds o (handle_quit (run (work_of w xs) ds out))
  unfolding handle_quit run_of
  cleared_by r k = then k (by _ (ap (λ (l : List ℕ). quit_all l (run (work_of w xs) ds out)) (sym (quits_are v xs n s e))) d)

  pub quit_passed : (a.code ≡ 0 → ⊥) → Does (work_of a ys) ds o (handle_quit (run (work_of w xs) ds out))
  quit_passed h = cleared_by (work_of a ys) (on_passed (work_of a ys) d.fine.ready.packed clear_all h)

  pub quit_handled : (z : List ℕ) → a.code ≡ 0 → Becomes z (clear_all (unpack ys)) → Does (work_of a z) ds o (handle_quit (run (work_of w xs) ds out))
  quit_handled z c b = cleared_by (work_of a z) (on_done (work_of a ys) d.fine.ready.packed clear_all z c (λ _. b))
