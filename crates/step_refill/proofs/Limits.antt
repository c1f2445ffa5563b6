-- Changes of the limit on refills.
-- Assumes nothing.
use Prim.Native.Nat.{ℕ, ◌-◌}
use mathlib.Core.Path.{◌≡◌, refl, sym, ap, ◌∙◌, subst}
use mathlib.Core.Bool.{Bool, true, false, not, ◌&&◌, ◌||◌}
use mathlib.Core.List.{List}
use lib.Dec.{eqb}
use lib.ListN.{get_or}
use borrow.Author.Tests.{eqb-true, eqb-false}
use Rattle.base_lists.specs.Lists.{choose, null}
use Rattle.base_lists.proofs.Choice.{split, choose_yes, choose_no, and_left, and_right, and_false}
use Rattle.base_util.specs.Section.{HoldsSet}
use Rattle.base_util.proofs.Sets.{empty_is_null}
use Rattle.spec_hyparview.specs.Station.{Station, Refill, automatic, is_alone, is_short, is_automatic, is_recovery, asked_outside, recovery_is_over}
use Rattle.spec_hyparview.specs.Setters.{set_refill}
use Rattle.spec_hyparview.specs.Run.{Run, guard, on, with_station}
use Rattle.spec_hyparview.specs.Refill.{few_requests, unless_recovery, one_less, use_request, end_recovery, needs_limit, limit_short, begin_refill}
use Rattle.hyparview_state.specs.declared.RefillLimit.{RefillLimit}
use Rattle.hyparview_state.specs.declared.RefillLimit.TheVariants.{Automatic, Requests, Recovery}
use Rattle.work.specs.declared.Work.{Work}
use Rattle.hyparview_state.specs.Unpack.{unpack, station_of, limit_at, refill_in, PackedState, Becomes}
use Rattle.hyparview_state.specs.Work.{Held, work_of, run, run_of, Changes}
use Rattle.hyparview_state.proofs.Bridge.{guard_shut, guard_open, unchanged, on_passed, on_done}

-- a change that leaves it as it is
on_still : (f : Station → Station) (g : Run) → f g.station ≡ g.station → on f g ≡ g
unfolding on
on_still f g e =
    ap (λ (s : Station). guard g (with_station s g)) e
    ∙ split (eqb g.code 0) (λ t. guard_open g g (eqb-true _ _ t)) (λ t. guard_shut g g (eqb-false _ _ t))

-- what sets the limit anew, where the limit stays as it is
kept : (f : Station → Station) (limit : Station → Refill) → ((s : Station) → f s ≡ set_refill (limit s) s) → (w : Held) → PackedState w.state → limit (unpack w.state) ≡ (unpack w.state).refill → Changes (on f) w w
unfolding run_of
kept f limit d w v e =
    unchanged (on f) v
    (λ ds out. on_still f (run w ds out) (d (unpack w.state) ∙ ap (λ (x : Refill). set_refill x (unpack w.state)) e))

-- the limit that was read is the station's
pub limit_is : (xs : List ℕ) (l : RefillLimit) → l ≡ limit_at xs → refill_in l ≡ (unpack xs).refill
unfolding unpack station_of
limit_is xs l e = ap refill_in e

one_left : (n : ℕ) → refill_in (Requests (n - 1)) ≡ one_less (refill_in (Requests n))
unfolding refill_in one_less
one_left n = refl

none_less : (l : RefillLimit) → ((n : ℕ) → l ≡ Requests n → ⊥) → one_less (refill_in l) ≡ refill_in l
unfolding refill_in one_less
none_less Automatic h = refl
none_less (Requests n) h = absurd (h n refl)
none_less Recovery h = refl

other_kind : (l : RefillLimit) → (l ≡ Automatic → ⊥) → is_automatic (refill_in l) ≡ false
unfolding is_automatic refill_in
other_kind Automatic h = absurd (h refl)
other_kind (Requests n) h = refl
other_kind Recovery h = refl

its_kind : (l : RefillLimit) → l ≡ Automatic → is_automatic (refill_in l) ≡ true
unfolding is_automatic refill_in
its_kind l e = rw e refl

-- a station that is alone, or not short, needs no limit
shut : (x a s : Bool) → (a || not s) ≡ true → (x && (not a && s)) ≡ false
shut false a s t = refl
shut true true s t = refl
shut true false false t = refl
shut true false true t = sym t

lets : (x a s : Bool) → x ≡ true → (a || not s) ≡ false → (x && (not a && s)) ≡ true
lets true true s e t = sym t
lets true false false e t = sym t
lets true false true e t = refl
lets false a s e t = e

module _ (w : Work) (xs : List ℕ) (v : PackedState xs) where
  -- a change of the limit, where no code is set
  changed : (f : Station → Station) (l : Refill) (ys : List ℕ) → f (unpack xs) ≡ set_refill l (unpack xs) → w.code ≡ 0 → Becomes ys (set_refill l (unpack xs)) → Changes (on f) (work_of w xs) (work_of w ys)
  changed f l ys e z b = on_done (work_of w xs) v f ys z (λ _. record { packed = b.packed; same = b.same ∙ sym e })

  -- ---- a recovery that is over

  module _ (t : List ℕ) (h : HoldsSet 32 t (asked_outside (unpack xs))) (l : RefillLimit) (b : Bool) (e : l ≡ limit_at xs) (q : b ≡ is_recovery (refill_in l)) where
    over_known : (b && eqb (get_or t 32 0) 0) ≡ recovery_is_over (unpack xs)
    unfolding recovery_is_over
    over_known =
        let r = q ∙ ap is_recovery (limit_is xs l e) in
        let n = empty_is_null 32 t h.valid ∙ ap null h.items in
        λ i. r i && n i

    pub ended : (ys : List ℕ) → (eqb w.code 0 && (b && eqb (get_or t 32 0) 0)) ≡ true → Becomes ys (set_refill (refill_in Automatic) (unpack xs)) → Changes (on end_recovery) (work_of w xs) (work_of w ys)
    unfolding end_recovery refill_in
    ended ys o k =
        changed end_recovery automatic ys
        (ap (λ (x : Refill). set_refill x (unpack xs)) (choose_yes (recovery_is_over (unpack xs)) automatic (unpack xs).refill (sym over_known ∙ and_right (eqb w.code 0) _ o)))
        (eqb-true _ _ (and_left (eqb w.code 0) _ o)) k

    pub not_ended : (eqb w.code 0 && (b && eqb (get_or t 32 0) 0)) ≡ false → Changes (on end_recovery) (work_of w xs) (work_of w xs)
    unfolding end_recovery
    not_ended o =
        and_false (eqb w.code 0) _ o (λ z. on_passed (work_of w xs) v end_recovery (eqb-false _ _ z))
        (λ z. kept end_recovery (λ s. choose (recovery_is_over s) automatic s.refill) (λ s. refl) (work_of w xs) v
        (choose_no (recovery_is_over (unpack xs)) automatic (unpack xs).refill (sym over_known ∙ z)))

  -- ---- a limit for a short station

  not_limited : needs_limit (unpack xs) ≡ false → Changes (on limit_short) (work_of w xs) (work_of w xs)
  unfolding limit_short
  not_limited o =
      kept limit_short (λ s. choose (needs_limit s) few_requests s.refill) (λ s. refl) (work_of w xs) v (choose_no (needs_limit (unpack xs)) few_requests (unpack xs).refill o)

  module _ (a s : Bool) (ea : a ≡ is_alone (unpack xs)) (es : s ≡ is_short (unpack xs)) where
    need_known : needs_limit (unpack xs) ≡ (is_automatic (unpack xs).refill && (not a && s))
    unfolding needs_limit
    need_known = λ i. is_automatic (unpack xs).refill && (not (sym ea i) && sym es i)

    pub not_short : (a || not s) ≡ true → Changes (on limit_short) (work_of w xs) (work_of w xs)
    not_short t = not_limited (need_known ∙ shut (is_automatic (unpack xs).refill) a s t)

    module _ (l : RefillLimit) (e : l ≡ limit_at xs) where
      pub other_limit : (l ≡ Automatic → ⊥) → Changes (on limit_short) (work_of w xs) (work_of w xs)
      other_limit h = not_limited (need_known ∙ ap (λ (x : Bool). x && (not a && s)) (ap is_automatic (sym (limit_is xs l e)) ∙ other_kind l h))

      pub limited : (r : RefillLimit) (ys : List ℕ) → w.code ≡ 0 → (a || not s) ≡ false → l ≡ Automatic → refill_in r ≡ few_requests → Becomes ys (set_refill (refill_in r) (unpack xs)) → Changes (on limit_short) (work_of w xs) (work_of w ys)
      unfolding limit_short
      limited r ys z t h f k =
          let o = need_known ∙ lets (is_automatic (unpack xs).refill) a s (ap is_automatic (sym (limit_is xs l e)) ∙ its_kind l h) t in
          changed limit_short (refill_in r) ys (ap (λ (x : Refill). set_refill x (unpack xs)) (choose_yes (needs_limit (unpack xs)) few_requests (unpack xs).refill o ∙ sym f)) z k

  module _ (l : RefillLimit) (e : l ≡ limit_at xs) where
    -- ---- a request that is used

    pub used : (n m : ℕ) (ys : List ℕ) → w.code ≡ 0 → l ≡ Requests n → m ≡ n - 1 → Becomes ys (set_refill (refill_in (Requests m)) (unpack xs)) → Changes (on use_request) (work_of w xs) (work_of w ys)
    unfolding use_request
    used n m ys z q f k =
        let x = ap (λ (i : ℕ). refill_in (Requests i)) f ∙ one_left n ∙ ap (λ (y : RefillLimit). one_less (refill_in y)) (sym q) ∙ ap one_less (limit_is xs l e) in
        changed use_request (one_less (unpack xs).refill) ys refl z (subst (λ (y : Refill). Becomes ys (set_refill y (unpack xs))) x k)

    pub not_used : ((n : ℕ) → l ≡ Requests n → ⊥) → Changes (on use_request) (work_of w xs) (work_of w xs)
    unfolding use_request
    not_used h =
        let r = limit_is xs l e in
        kept use_request (λ s. one_less s.refill) (λ s. refl) (work_of w xs) v (ap one_less (sym r) ∙ none_less l h ∙ r)

    -- ---- another limit

    pub begun : (new r : RefillLimit) (ys : List ℕ) → w.code ≡ 0 → refill_in r ≡ unless_recovery (refill_in l) (refill_in new) → Becomes ys (set_refill (refill_in r) (unpack xs)) → Changes (on (begin_refill (refill_in new))) (work_of w xs) (work_of w ys)
    unfolding begin_refill
    begun new r ys z q k =
        changed (begin_refill (refill_in new)) (refill_in r) ys
        (ap (λ (x : Refill). set_refill x (unpack xs)) (sym (q ∙ ap (λ (x : Refill). unless_recovery x (refill_in new)) (limit_is xs l e)))) z k
