-- The timers of requests and joins.
-- Assumes nothing.
use Rattle.std.specs.Prelude as prelude
use Prim.Native.Nat.{ℕ}
use mathlib.Core.Path.{◌≡◌, refl, sym, ap, ◌∙◌}
use mathlib.Core.Bool.{Bool, true, false}
use mathlib.Core.List.{List, []}
use lib.Dec.{eqb}
use borrow.Author.Tests.{eq-eqb, ne_eqb, eqb-true, eqb-false}
use Rattle.std.specs.Option.{option_eq}
use Rattle.base_lists.proofs.Choice.{split}
use Rattle.base_lists.specs.Maps.{lookup}
use Rattle.base_columns.specs.Columns.{numbers_at}
use Rattle.base_peer.specs.Maps.{number_in}
use Rattle.spec_hyparview.specs.Run.{Run, on}
use Rattle.spec_hyparview.specs.Peers.{drop_passive}
use Rattle.spec_hyparview.specs.Sending.{join}
use Rattle.spec_hyparview.specs.Refill.{refill_active_from_passive}
use Rattle.spec_hyparview.specs.Messages.{drop_join, drop_request}
use Rattle.spec_hyparview.specs.Timers.{is_number, request_is, request_failed, handle_pending_neighbor_timer, join_is, retry_join}
use Rattle.work.specs.declared.Work.{Work}
use Rattle.hyparview_state.specs.Layout.{requests_part, joins_part, joins_places, requests_places}
use Rattle.hyparview_state.specs.Unpack.{unpack, station_of}
use Rattle.hyparview_state.specs.Work.{work_of, run, Changes, Room, Tells, Fine, Does}
use Rattle.hyparview_state.proofs.Bridge.{unchanged, telling, tell_then, tell_yes, tell_no, still, then, seq, taken, left, holds_at}

eqb_swap : (a b : ℕ) → eqb a b ≡ eqb b a
eqb_swap a b = split (eqb a b) (λ e. e ∙ sym (eq-eqb b a (sym (eqb-true a b e)))) (λ e. e ∙ sym (ne_eqb b a (λ q. eqb-false a b e (sym q))))

-- the open number is the timer's
number_is : (id : ℕ) (m : prelude.Option ℕ) → option_eq eqb m (prelude.Some id) ≡ is_number id (number_in m)
unfolding is_number number_in
number_is id prelude.None = refl
number_is id (prelude.Some k) = eqb_swap k id

module _ (xs : List ℕ) (p id : ℕ) (m : prelude.Option ℕ) (t : Bool) (e : t ≡ option_eq eqb m (prelude.Some id)) where
  pub request_said : number_in m ≡ lookup p (numbers_at requests_places (requests_part xs)) → t ≡ request_is p id (unpack xs)
  unfolding request_is unpack station_of
  request_said h = e ∙ (number_is id m ∙ ap (is_number id) h)

  pub join_said : number_in m ≡ lookup p (numbers_at joins_places (joins_part xs)) → t ≡ join_is p id (unpack xs)
  unfolding join_is unpack station_of
  join_said h = e ∙ (number_is id m ∙ ap (is_number id) h)

-- a refill that skips nobody, after p was dropped
module _ (w a b : Work) (xs ys zs ds out : List ℕ) (p : ℕ) (v : Fine (work_of w xs) ds out) (k₂ : Changes (drop_passive p) (work_of a ys) (work_of b zs)) (k₁ : Changes (on (drop_request p)) (work_of w xs) (work_of a ys)) where
  pub dropped_fine : Fine (work_of b zs) ds out
  dropped_fine = (then k₂ (then k₁ (still v))).fine

  pub failed : (r : Work) (us o : List ℕ) → Does (work_of r us) ds o (refill_active_from_passive [] (run (work_of b zs) ds out)) → Does (work_of r us) ds o (request_failed p (run (work_of w xs) ds out))
  unfolding request_failed
  failed r us o k₃ = seq (refill_active_from_passive []) k₃ (then k₂ (then k₁ (still v)))

module _ (w : Work) (xs ds out : List ℕ) (p id : ℕ) (t : Bool) (e : t ≡ request_is p id (unpack xs)) where
  pub late : (r : Work) (ys o : List ℕ) → t ≡ true → Does (work_of r ys) ds o (request_failed p (run (work_of w xs) ds out)) → Does (work_of r ys) ds o (handle_pending_neighbor_timer p id (run (work_of w xs) ds out))
  unfolding handle_pending_neighbor_timer
  late r ys o h k = taken _ _ (holds_at (work_of w xs) ds out (request_is p id) e h) k

  pub not_late : Fine (work_of w xs) ds out → t ≡ false → Does (work_of w xs) ds out (handle_pending_neighbor_timer p id (run (work_of w xs) ds out))
  unfolding handle_pending_neighbor_timer
  not_late v h = left _ _ (holds_at (work_of w xs) ds out (request_is p id) e h) (still v)

pub room_changed : {step : Run → Run} (w a : Work) (xs ys out : List ℕ) → Room (work_of w xs) out → Changes step (work_of w xs) (work_of a ys) → Room (work_of a ys) out
room_changed w a xs ys out v k = (telling v k).room

module _ (w : Work) (xs out : List ℕ) (p id : ℕ) (t : Bool) (v : Room (work_of w xs) out) (e : t ≡ join_is p id (unpack xs)) where
  pub retried : (a r : Work) (ys o : List ℕ) → t ≡ true → Tells (join p) (work_of a ys) (work_of r ys) out o → Changes (on (drop_join p)) (work_of w xs) (work_of a ys) → Tells (retry_join p id) (work_of w xs) (work_of r ys) out o
  unfolding retry_join
  retried a r ys o h k₂ k₁ = tell_yes (join_is p id) e _ h (tell_then _ (λ ds. refl) k₂ (telling v k₁))

  pub not_retried : t ≡ false → Tells (retry_join p id) (work_of w xs) (work_of w xs) out out
  unfolding retry_join
  not_retried h = tell_no (join_is p id) e _ h (telling v (unchanged (λ g. g) v.packed (λ ds o. refl)))
