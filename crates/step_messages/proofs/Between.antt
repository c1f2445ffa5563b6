-- What holds between events gives what the steps on the active view and on the marks count on.
-- Assumes nothing.
use Prim.Native.Nat.{ℕ, ◌+◌}
use mathlib.Core.Path.{◌≡◌, refl, sym, ap, ◌∙◌, subst}
use mathlib.Core.Bool.{Bool, true, false, not}
use mathlib.Core.List.{List, [], ◌∷◌}
use native.Mathlib.Omega.{arith}
use Rattle.base_lists.specs.Lists.{count, insert}
use Rattle.base_lists.proofs.Count.{mem_true, count_insert}
use Rattle.base_peer.specs.Data.{Data}
use Rattle.spec_hyparview.specs.Station.{in_active, in_passive, is_requested}
use Rattle.spec_hyparview.specs.Run.{Run, on}
use Rattle.spec_hyparview.specs.Active.{remove_active, add_active, accepts}
use Rattle.spec_hyparview.specs.Messages.{drop_pending, forward_joins, on_join, refuse_neighbor, answer_neighbor, on_neighbor}
use Rattle.spec_hyparview.specs.Messages.{drop_join, drop_request, forget_recent, disconnect_other, disconnected, on_disconnect}
use Rattle.base_lists.proofs.Members.{shorter}
use Rattle.spec_hyparview.proofs.Invariant.{Fixed, busy, calm, Ok}
use Rattle.spec_hyparview.proofs.Entering.{unbar}
use Rattle.spec_hyparview.proofs.Received.{ok_drop_join, ok_drop_request, ok_drop_pending, ok_forget_recent}
use Rattle.work.specs.declared.Work.{Work}
use Rattle.hyparview_state.specs.Unpack.{unpack}
use Rattle.hyparview_state.specs.Work.{Held, work_of, run, run_of, Changes, Fine, Does}
use Rattle.hyparview_state.proofs.Bridge.{change_then, still, then, seq, seq_at, taken, left, holds_at, at_run}
use Rattle.step_active.specs.declared.Loss.TheVariants.{DisconnectReceived}
use Rattle.step_active.specs.Sane.{Calm, reason_in}
use Rattle.step_messages.specs.Between.{Between}
use Rattle.step_messages.proofs.Laws.{FreePassiveMark}

pub between_calm : (m b d : ℕ) (w : Held) (ds out : List ℕ) → Between m b d (run w ds out) → Calm m b d (run w ds out)
between_calm m b d w ds out k = record { fixed = k.fixed; guest = []; barred = []; messages = k.messages; bytes = k.bytes; draws = k.draws; ok = k.ok }

-- the marks are passive peers, so there is a place for the mark of another
mark_fits : (q : Fixed) (m b d p : ℕ) (g : Run) → Ok q calm m b d g → FreePassiveMark p g.code g.station
unfolding in_passive count
mark_fits q m b d p g k = record {
  free = λ z e. let c = (k.good z).core in
      omega (
        arith,
        shorter (insert p g.station.alive) g.station.passive (λ x. count_insert x p g.station.alive (λ y. count y g.station.passive) (mem_true p g.station.passive e) (omega (arith, c.seats.marks x))),
        c.seats.places_left,
        c.still.ranges.few_places,
      );
}

pub between_mark : (m b d p : ℕ) (w : Work) (xs ds out : List ℕ) → Between m b d (run (work_of w xs) ds out) → FreePassiveMark p w.code (unpack xs)
unfolding run_of
between_mark m b d p w xs ds out k = mark_fits k.fixed (k.messages + m) (k.bytes + b) (k.draws + d) p (run (work_of w xs) ds out) k.ok

-- ---- joins and neighbors

module _ (w a : Held) (ds out : List ℕ) (p : ℕ) (k : Changes (drop_pending p) w a) where
  pub pending_calm : (m b d : ℕ) → Between m b d (run w ds out) → Calm m b d (run a ds out)
  pending_calm m b d h = record {
    fixed = h.fixed;
    guest = [];
    barred = p ∷ [];
    messages = h.messages;
    bytes = h.bytes;
    draws = h.draws;
    ok = subst (Ok h.fixed (busy [] (p ∷ []) [] 0 0) (h.messages + m) (h.bytes + b) (h.draws + d)) (sym (k.same ds out)) (ok_drop_pending p h.ok);
  }

  module _ (v : Fine w ds out) where
    pub joined : (x : Data) (b r : Held) (o₁ o : List ℕ) → Does r ds o (forward_joins p x (run b ds o₁)) → Does b ds o₁ (add_active p x true true (run a ds out)) → Does r ds o (on_join p x (run w ds out))
    unfolding on_join
    joined x b r o₁ o k₃ k₂ = seq (forward_joins p x) k₃ (seq (add_active p x true true) k₂ (then k (still v)))

    pub neighbor_answered : (x : Data) (high t : Bool) (r : Held) (o : List ℕ) → t ≡ is_requested p (unpack w.state) → Does r ds o (answer_neighbor p x high (not t) (run a ds out)) → Does r ds o (on_neighbor p x high (run w ds out))
    unfolding on_neighbor
    neighbor_answered x high t r o e d = seq_at (answer_neighbor p x high) (ap not (e ∙ at_run w ds out (is_requested p))) d (then k (still v))

module _ (w a : Held) (ds out o₁ : List ℕ) (p : ℕ) (x : Data) (high reply t : Bool) (e : t ≡ accepts p high (unpack w.state)) (k : Does a ds o₁ (add_active p x high reply (run w ds out))) where
  pub neighbor_taken : t ≡ true → Does a ds o₁ (answer_neighbor p x high reply (run w ds out))
  unfolding answer_neighbor
  neighbor_taken h = taken _ _ (holds_at w ds out (accepts p high) e h) k

  pub neighbor_turned : (r : Held) (o : List ℕ) → t ≡ false → Does r ds o (refuse_neighbor p (run a ds o₁)) → Does r ds o (answer_neighbor p x high reply (run w ds out))
  unfolding answer_neighbor
  neighbor_turned r o h d = left _ _ (holds_at w ds out (accepts p high) e h) (seq (refuse_neighbor p) d k)

-- ---- disconnects

module _ (w r : Held) (ds out o : List ℕ) (p : ℕ) (alive requested t : Bool) (e : t ≡ in_active p (unpack w.state)) where
  pub neighbor_lost : t ≡ true → Does r ds o (remove_active p (reason_in (DisconnectReceived alive)) (run w ds out)) → Does r ds o (disconnected p alive requested (run w ds out))
  unfolding disconnected reason_in
  neighbor_lost h d = taken _ _ (holds_at w ds out (in_active p) e h) d

  pub other_lost : t ≡ false → Does r ds o (disconnect_other p alive requested (run w ds out)) → Does r ds o (disconnected p alive requested (run w ds out))
  unfolding disconnected
  other_lost h d = left _ _ (holds_at w ds out (in_active p) e h) d

-- no join and no request to p is open, and p is remembered only where it is alive
abbrev ended : ℕ → Bool → Run → Run
ended p alive g = on (drop_request p) (forget_recent p alive (on (drop_join p) g))

pub open_forgotten : (w a b c : Held) (p : ℕ) (alive : Bool) → Changes (on (drop_request p)) b c → Changes (forget_recent p alive) a b → Changes (on (drop_join p)) w a
    → Changes (λ g. on (drop_request p) (forget_recent p alive (on (drop_join p) g))) w c
open_forgotten w a b c p alive k₃ k₂ k₁ = change_then (ended p alive) (λ ds out. refl) k₃ (change_then (λ g. forget_recent p alive (on (drop_join p) g)) (λ ds out. refl) k₂ k₁)

module _ (w a : Held) (ds out : List ℕ) (p : ℕ) (alive : Bool) (k : Changes (λ g. on (drop_request p) (forget_recent p alive (on (drop_join p) g))) w a) where
  pub ended_between : (m b d : ℕ) → Between m b d (run w ds out) → Between m b d (run a ds out)
  ended_between m b d h = record {
    fixed = h.fixed;
    messages = h.messages;
    bytes = h.bytes;
    draws = h.draws;
    ok = subst (Ok h.fixed calm (h.messages + m) (h.bytes + b) (h.draws + d)) (sym (k.same ds out)) (ok_drop_request p (ok_forget_recent p alive (unbar (ok_drop_join p h.ok))));
  }

  pub disconnect_done : (r : Held) (o : List ℕ) (requested : Bool) → Fine w ds out → requested ≡ is_requested p (unpack w.state) → Does r ds o (disconnected p alive requested (run a ds out)) → Does r ds o (on_disconnect p alive (run w ds out))
  unfolding on_disconnect
  disconnect_done r o requested v e d = seq_at (disconnected p alive) (e ∙ at_run w ds out (is_requested p)) d (then k (still v))
