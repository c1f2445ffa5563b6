-- Laws of the two messages of a shuffle that their proofs cite.
-- Assumes nothing.
use Prim.Native.Nat.{ℕ}
use mathlib.Core.Path.{◌≡◌, sym, ap, ◌∙◌}
use mathlib.Core.Bool.{Bool, true, false, not, ◌&&◌, ◌||◌}
use mathlib.Core.List.{List, [], ◌∷◌}
use native.Mathlib.Omega.{arith}
use lib.ListN.{length, drop, get_or}
use Rattle.base_lists.specs.Lists.{null, without_all}
use Rattle.base_lists.specs.Array.{pad}
use Rattle.base_util.specs.Section.{items_at, ValidSet, HoldsSet, section, working_places}
use Rattle.base_util.proofs.Sets.{section_holds}
use Rattle.base_util.specs.Chances.{pick}
use Rattle.base_peer.specs.Data.{Node}
use Rattle.record.specs.Read.{nodes_of}
use Rattle.record.proofs.Nodes.{length_nodes_of}
use Rattle.base_timing.specs.Timing.{next, expired}
use Rattle.record_writer.specs.declared.nodes.Nodes.{Nodes}
use Rattle.record_writer.specs.Nodes.{nodes_in}
use Rattle.spec_hyparview.specs.Station.{Station, Refill, is_requested, is_short, is_last_hop, is_spent}
use Rattle.spec_hyparview.specs.Run.{emit, to_draw, one_of, draw_one_of, picked, message}
use Rattle.spec_hyparview.specs.Peers.{add_nodes, any_new}
use Rattle.spec_hyparview.specs.Sending.{send_shuffle_reply}
use Rattle.spec_hyparview.specs.Refill.{few_requests, start_refill, refill_active_from_passive}
use Rattle.spec_hyparview.specs.Messages.{answers_shuffle, answer_shuffle, forward_shuffle, on_shuffle, stops_at_refusal, renews_limit, refill_with, after_reply, on_shuffle_reply}
use Rattle.work.specs.declared.Work.{Work}
use Rattle.hyparview_state.specs.Work.{work_of, run, run_of, DrawsAny, TellsAny, Fine, Does}
use Rattle.hyparview_state.specs.Layout.{active_part, active_places}
use Rattle.hyparview_state.specs.declared.RefillLimit.{RefillLimit}
use Rattle.hyparview_state.specs.Unpack.{unpack, station_of, limit_at, refill_in}
use Rattle.hyparview_state.proofs.Bridge.{by, still, seq_at, taken, left, holds_at, at_run}
use Rattle.hyparview_state.proofs.Any.{then_one_of, then_tell_any}

-- ---- the neighbors that a Shuffle may go on to

-- two places, both in use
pair : (p q : ℕ) → HoldsSet 2 (p ∷ q ∷ 2 ∷ []) (p ∷ q ∷ [])
unfolding section pad
pair p q = section_holds 2 (p ∷ q ∷ []) (omega arith)

pub pair_valid : (p q : ℕ) → ValidSet 2 (p ∷ q ∷ 2 ∷ [])
pair_valid p q = (pair p q).valid

pub others_are : (xs v r : List ℕ) (p q : ℕ) → HoldsSet working_places v (items_at active_places (active_part xs)) → HoldsSet working_places r (without_all (items_at 2 (p ∷ q ∷ 2 ∷ [])) (items_at working_places v))
    → HoldsSet working_places r (without_all (p ∷ q ∷ []) (unpack xs).active)
unfolding unpack station_of
others_are xs v r p q h k = record { valid = k.valid; items = k.items ∙ (λ i. without_all ((pair p q).items i) (h.items i)) }

module _ (w : Work) (xs ds out others : List ℕ) (ns : List Node) (origin ttl : ℕ) (t : Bool) (v : Fine (work_of w xs) ds out) (e : t ≡ null others) where
  pub shuffle_kept : t ≡ true → Does (work_of w xs) ds out (forward_shuffle others origin ns ttl (run (work_of w xs) ds out))
  unfolding forward_shuffle
  shuffle_kept h = taken _ _ (sym e ∙ h) (still v)

  module _ (q u n i : ℕ) (x : Nodes) (c : n ≡ length others) (j : i ≡ pick n (drop w.drawn ds)) (p : q ≡ get_or others i 0) (y : u ≡ next ttl) (z : nodes_in x ≡ ns) where
    picked_is : q ≡ picked others (run (work_of w xs) ds out)
    unfolding picked one_of to_draw run_of
    picked_is = p ∙ ap (λ (k : ℕ). get_or others k 0) (j ∙ ap (λ (k : ℕ). pick k (drop w.drawn ds)) c)

    shuffle_is : emit (message 2 (picked others (run (work_of w xs) ds out)) 0 origin (next ttl) ns) (draw_one_of (length others) (run (work_of w xs) ds out))
        ≡ emit (message 2 q 0 origin u (nodes_in x)) (draw_one_of n (run (work_of w xs) ds out))
    shuffle_is = λ k. emit (message 2 (sym picked_is k) 0 origin (sym y k) (sym z k)) (draw_one_of (sym c k) (run (work_of w xs) ds out))

    pub shuffle_on : (a r : Work) (o : List ℕ) → t ≡ false
        → TellsAny (emit (message 2 q 0 origin u (nodes_in x))) a r out o
        → DrawsAny (draw_one_of n) w a ds
        → Does (work_of r xs) ds o (forward_shuffle others origin ns ttl (run (work_of w xs) ds out))
    unfolding forward_shuffle
    shuffle_on a r o h k₂ k₁ = left _ _ (sym e ∙ h) (by _ shuffle_is (then_tell_any _ k₂ (then_one_of _ k₁ (still v))))

pub passed_on : (w r : Work) (xs ds out o others : List ℕ) (ns : List Node) (origin from ttl : ℕ) → HoldsSet working_places others (without_all (origin ∷ from ∷ []) (unpack xs).active)
    → Does (work_of r xs) ds o (forward_shuffle (items_at working_places others) origin ns ttl (run (work_of w xs) ds out))
    → Does (work_of r xs) ds o (forward_shuffle (without_all (origin ∷ from ∷ []) (unpack xs).active) origin ns ttl (run (work_of w xs) ds out))
passed_on w r xs ds out o others ns origin from ttl h d = by _ (ap (λ (l : List ℕ). forward_shuffle l origin ns ttl (run (work_of w xs) ds out)) (sym h.items)) d

-- ---- the two ways of a Shuffle

pub answers_known : (s : Station) (ttl : ℕ) (a b : Bool) → a ≡ expired ttl → b ≡ is_last_hop s → (a || b) ≡ answers_shuffle ttl s
unfolding answers_shuffle
answers_known s ttl a b x y = λ i. x i || y i

pub answered : (w a r : Work) (xs ys zs ds out o₁ o b : List ℕ) (n origin : ℕ) → Does (work_of r zs) ds o (send_shuffle_reply origin n (run (work_of a ys) ds o₁))
    → Does (work_of a ys) ds o₁ (add_nodes (nodes_of b 0 n) (run (work_of w xs) ds out)) → Does (work_of r zs) ds o (answer_shuffle origin (nodes_of b 0 n) (run (work_of w xs) ds out))
unfolding answer_shuffle
answered w a r xs ys zs ds out o₁ o b n origin k₂ k₁ = seq_at (send_shuffle_reply origin) (sym (length_nodes_of b 0 n)) k₂ k₁

module _ (w r : Work) (xs ys ds out o : List ℕ) (from origin : ℕ) (ns : List Node) (ttl : ℕ) (t : Bool) (e : t ≡ answers_shuffle ttl (unpack xs)) where
  pub shuffle_answered : t ≡ true → Does (work_of r ys) ds o (answer_shuffle origin ns (run (work_of w xs) ds out)) → Does (work_of r ys) ds o (on_shuffle from origin ns ttl (run (work_of w xs) ds out))
  unfolding on_shuffle
  shuffle_answered h d = taken _ _ (holds_at (work_of w xs) ds out (answers_shuffle ttl) e h) d

  pub shuffle_forwarded : t ≡ false → Does (work_of r ys) ds o (forward_shuffle (without_all (origin ∷ from ∷ []) (unpack xs).active) origin ns ttl (run (work_of w xs) ds out))
      → Does (work_of r ys) ds o (on_shuffle from origin ns ttl (run (work_of w xs) ds out))
  unfolding on_shuffle run_of
  shuffle_forwarded h d = left _ _ (holds_at (work_of w xs) ds out (answers_shuffle ttl) e h) d

-- ---- replies to shuffles

pub stops_known : (s : Station) (p : ℕ) (a b : Bool) → a ≡ is_requested p s → b ≡ is_short s → (a && not b) ≡ stops_at_refusal p s
unfolding stops_at_refusal
stops_known s p a b x y = λ i. x i && not (y i)

pub renews_known : (xs : List ℕ) (p : ℕ) (a new t : Bool) (l : RefillLimit) → a ≡ is_requested p (unpack xs) → l ≡ limit_at xs → t ≡ is_spent (refill_in l) → (not a && (new && t)) ≡ renews_limit p new (unpack xs)
unfolding renews_limit unpack station_of
renews_known xs p a new t l x e q =
    let spent = q ∙ ap (λ (x : RefillLimit). is_spent (refill_in x)) e in
    λ i. not (x i) && (new && spent i)

module _ (w r : Work) (xs ys ds out o : List ℕ) (renewed : Bool) where
  pub refilled_few : (limit : RefillLimit) → renewed ≡ true → refill_in limit ≡ few_requests → Does (work_of r ys) ds o (start_refill (refill_in limit) [] (run (work_of w xs) ds out))
      → Does (work_of r ys) ds o (refill_with renewed (run (work_of w xs) ds out))
  unfolding refill_with
  refilled_few limit h e d = taken _ _ h (by _ (ap (λ (l : Refill). start_refill l [] (run (work_of w xs) ds out)) (sym e)) d)

  pub refilled_same : renewed ≡ false → Does (work_of r ys) ds o (refill_active_from_passive [] (run (work_of w xs) ds out)) → Does (work_of r ys) ds o (refill_with renewed (run (work_of w xs) ds out))
  unfolding refill_with
  refilled_same h d = left _ _ h d

module _ (w : Work) (xs ds out : List ℕ) (from : ℕ) (new t : Bool) (e : t ≡ stops_at_refusal from (unpack xs)) where
  pub reply_stopped : Fine (work_of w xs) ds out → t ≡ true → Does (work_of w xs) ds out (after_reply from new (run (work_of w xs) ds out))
  unfolding after_reply
  reply_stopped v h = taken _ _ (holds_at (work_of w xs) ds out (stops_at_refusal from) e h) (still v)

  pub reply_refilled : (r : Work) (ys o : List ℕ) (b : Bool) → t ≡ false → b ≡ renews_limit from new (unpack xs) → Does (work_of r ys) ds o (refill_with b (run (work_of w xs) ds out))
      → Does (work_of r ys) ds o (after_reply from new (run (work_of w xs) ds out))
  unfolding after_reply
  reply_refilled r ys o b h q d =
      left _ _ (holds_at (work_of w xs) ds out (stops_at_refusal from) e h)
      (by _ (ap (λ (x : Bool). refill_with x (run (work_of w xs) ds out)) (sym (q ∙ at_run (work_of w xs) ds out (renews_limit from new)))) d)

pub reply_taken : (w a r : Work) (xs ys zs ds out o₁ o : List ℕ) (from : ℕ) (ns : List Node) (new : Bool) → new ≡ any_new ns (run (work_of w xs) ds out) → Does (work_of r zs) ds o (after_reply from new (run (work_of a ys) ds o₁))
    → Does (work_of a ys) ds o₁ (add_nodes ns (run (work_of w xs) ds out)) → Does (work_of r zs) ds o (on_shuffle_reply from ns (run (work_of w xs) ds out))
unfolding on_shuffle_reply
reply_taken w a r xs ys zs ds out o₁ o from ns new e k₂ k₁ = seq_at (after_reply from) e k₂ k₁
