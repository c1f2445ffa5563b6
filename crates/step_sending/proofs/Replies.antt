-- The shuffle reply, by the peers that the shuffled views leave in a working set.
-- Assumes nothing.
use Prim.Native.Nat.{ℕ, ◌-◌, ◌≤◌, ◌<◌}
use mathlib.Core.Path.{◌≡◌, sym, ap, ◌∙◌, subst}
use mathlib.Core.List.{List, ◌++◌}
use lib.ListN.{length, take}
use native.Mathlib.Omega.{arith}
use lib.Dec.{ltb}
use borrow.Author.Tests.{lt-ltb, le-ltb}
use Rattle.base_util.specs.Section.{items_at, ValidSet, HoldsSet, working_places}
use Rattle.spec_hyparview.specs.Run.{shuffled, to_draw, draw_shuffle}
use Rattle.spec_hyparview.specs.Sending.{send_nodes, fill_active, send_filled, reply_with, send_shuffle_reply}
use Rattle.work.specs.declared.Work.{Work}
use Rattle.hyparview_state.specs.Unpack.{unpack}
use Rattle.hyparview_state.specs.Work.{work_of, run, run_of, DrawsAny, Room, Tells, Fine, Does}
use Rattle.hyparview_state.proofs.Bridge.{by, still, then_tell, seq, taken, left}
use Rattle.hyparview_state.proofs.Any.{then_shuffle}
use Rattle.step_sending.proofs.Sets.{shuffled_by, shuffle_of, filled_up}
use Rattle.step_sending.proofs.Told.{fine_drawn, room_drawn}

module _ (to len : ℕ) (w a r : Work) (xs ds out o : List ℕ) (v : Fine (work_of w xs) ds out) where
  filled_done : (ps all : List ℕ) → DrawsAny (draw_shuffle (unpack xs).active) w a ds
      → HoldsSet working_places all (ps ++ take (len - length ps) (shuffled_by w ds (unpack xs).active))
      → Tells (send_nodes to (items_at working_places all)) (work_of a xs) (work_of r xs) out o
      → Does (work_of r xs) ds o (send_filled to len ps (run (work_of w xs) ds out))
  unfolding send_filled fill_active shuffled to_draw run_of
  filled_done ps all k h t =
      by _ (ap (λ (l : List ℕ). send_nodes to l (draw_shuffle (unpack xs).active (run (work_of w xs) ds out))) (sym h.items))
      (then_tell t (then_shuffle _ k (still v)))

  reply_done : (v₁ v₂ : List ℕ) → HoldsSet working_places v₁ (unpack xs).passive → DrawsAny (draw_shuffle (items_at working_places v₁)) w a ds
      → HoldsSet working_places v₂ (take len (shuffled_by w ds (items_at working_places v₁)))
      → Does (work_of r xs) ds o (reply_with to len (items_at working_places v₂) (run (work_of a xs) ds out))
      → Does (work_of r xs) ds o (send_shuffle_reply to len (run (work_of w xs) ds out))
  unfolding send_shuffle_reply shuffled to_draw run_of
  reply_done v₁ v₂ q k h d =
      let k₁ = shuffle_of w a ds v₁ (unpack xs).passive k q in
      by _
      (ap (λ (l : List ℕ). reply_with to len l (draw_shuffle (unpack xs).passive (run (work_of w xs) ds out))) (sym (h.items ∙ ap (λ (l : List ℕ). take len (shuffled_by w ds l)) q.items)))
      (seq (reply_with to len (items_at working_places v₂)) d (then_shuffle _ k₁ (still v)))

module _ (to len n : ℕ) (ps : List ℕ) (w r : Work) (xs ds out o : List ℕ) (e : n ≡ length ps) where
  reply_short : n < len → Does (work_of r xs) ds o (send_filled to len ps (run (work_of w xs) ds out)) → Does (work_of r xs) ds o (reply_with to len ps (run (work_of w xs) ds out))
  unfolding reply_with
  reply_short h d = taken (ltb (length ps) len) (send_nodes to ps (run (work_of w xs) ds out)) (lt-ltb (length ps) len (omega arith)) d

  reply_long : Fine (work_of w xs) ds out → len ≤ n → Tells (send_nodes to ps) (work_of w xs) (work_of r xs) out o → Does (work_of r xs) ds o (reply_with to len ps (run (work_of w xs) ds out))
  unfolding reply_with
  reply_long v h k = left (ltb (length ps) len) (send_filled to len ps (run (work_of w xs) ds out)) (le-ltb (length ps) len (omega arith)) (then_tell k (still v))

-- the reply with the peers of the working set v, sent after the work a, answers for the work w
pub record ReadyReply (to len : ℕ) (w a : Work) (xs ds out v : List ℕ) : Type 0 where
  pub valid : ValidSet working_places v
  pub room : Room (work_of a xs) out
  pub done : (r : Work) (o : List ℕ) → Tells (send_nodes to (items_at working_places v)) (work_of a xs) (work_of r xs) out o → Does (work_of r xs) ds o (send_shuffle_reply to len (run (work_of w xs) ds out))

pub ready_as : (to len : ℕ) (w a b : Work) (xs ds out v all : List ℕ) → v ≡ all → a ≡ b → ReadyReply to len w b xs ds out all → ReadyReply to len w a xs ds out v
ready_as to len w a b xs ds out v all e q k = subst (λ (l : List ℕ). ReadyReply to len w a xs ds out l) (sym e) (subst (λ (x : Work). ReadyReply to len w x xs ds out all) (sym q) k)

-- the passive view copied, shuffled and cut to the n peers of v₂
module _ (to len : ℕ) (w a : Work) (xs ds out v₁ v₂ : List ℕ) (n : ℕ) (v : Fine (work_of w xs) ds out) (q : HoldsSet working_places v₁ (unpack xs).passive) (k : DrawsAny (draw_shuffle (items_at working_places v₁)) w a ds)
    (h : HoldsSet working_places v₂ (take len (shuffled_by w ds (items_at working_places v₁)))) (e : n ≡ length (items_at working_places v₂)) where
  pub ready_filled : (b : Work) (m₀ m all : List ℕ) → n < len → HoldsSet working_places m₀ (unpack xs).active → DrawsAny (draw_shuffle (items_at working_places m₀)) a b ds → HoldsSet working_places m (take (len - n) (shuffled_by a ds (items_at working_places m₀)))
      → HoldsSet working_places all (items_at working_places v₂ ++ items_at working_places m) → ReadyReply to len w b xs ds out all
  ready_filled b m₀ m all l q₂ k₂ h₂ h₃ =
      let f = filled_up a b ds v₂ all m m₀ (unpack xs).active len n k₂ h₃ h₂ q₂ e in
      let fine = fine_drawn w a xs ds out v k in
      record {
        valid = h₃.valid;
        room = room_drawn a b xs ds out fine k₂;
        done = λ r o t. reply_done to len w a r xs ds out o v v₁ v₂ q k h (reply_short to len n (items_at working_places v₂) a r xs ds out o e l (filled_done to len a b r xs ds out o fine (items_at working_places v₂) all f.0 f.1 t));
      }

  pub ready_enough : len ≤ n → ReadyReply to len w a xs ds out v₂
  ready_enough l =
      let fine = fine_drawn w a xs ds out v k in
      record { valid = h.valid; room = room_drawn w a xs ds out v k; done = λ r o t. reply_done to len w a r xs ds out o v v₁ v₂ q k h (reply_long to len n (items_at working_places v₂) a r xs ds out o e fine l t) }
