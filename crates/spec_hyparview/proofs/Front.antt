-- An event looks at no draw after those that it uses, so it does the same with every list that begins with these.
-- Assumes nothing.
use mathlib.Core.Path.{◌≡◌, refl, sym, ap, subst, ◌∙◌}
use mathlib.Core.Bool.{true, false}
use mathlib.Core.List.{List}
use Prim.Native.Nat.{ℕ, ◌≤◌}
use native.Mathlib.Omega.{arith}
use lib.ListN.{length, drop, get_or}
use lib.Seq.{get_or-drop}
use lib.Dec.{eqb}
use borrow.Author.Tests.{eqb-true, ne_eqb}
use Rattle.base_lists.specs.Lists.{choose}
use Rattle.base_lists.proofs.Choice.{by_choice, choose_yes, choose_no, split}
use Rattle.base_util.specs.Chances.{pick}
use Rattle.base_util.proofs.Ahead.{Begins, pick_ahead, any_ahead, made_ahead, shuffle_ahead, first_ahead}
use Rattle.work.proofs.Uses.{Uses, with_draws, same_uses, by_state, uses_none, uses_either, uses_then, uses_on, uses_require, uses_emit, uses_reads}
use Rattle.record.specs.Format.{Rec}
use Rattle.record.specs.Read.{Reading, refused, event, read_event}
use Rattle.spec_hyparview.specs.Station.{Station}
use Rattle.spec_hyparview.specs.Invariant.{Roomy}
use Rattle.spec_hyparview.specs.Run.{Run, guard, on, emit, draw, drawn, to_draw, one_of, draw_one_of, picked, shuffled, draw_shuffle}
use Rattle.spec_hyparview.specs.Rules.{station_ok}
use Rattle.spec_hyparview.specs.Handle.{Result, start, steps, refusal, accepted, finish, handle_reading, handle}
use Rattle.spec_hyparview.specs.Sides.{run_takes, reading_takes, draws_taken}
use Rattle.spec_hyparview.proofs.Built.{Built, place, of_steps}
use Rattle.spec_hyparview.proofs.Played.{no_item}

-- choices and shuffles
module _ (xs : Station → List ℕ) (few : (s : Station) → Roomy s → length (xs s) ≤ 32) where
  module _ (g : Station → ℕ → Run → Run) (k : (s : Station) (i : ℕ) → Uses (g s i)) where
    uses_item : Uses (λ r. g r.station (picked (xs r.station) r) (draw_one_of (length (xs r.station)) r))
    unfolding picked one_of draw_one_of
    uses_item =
        by_state (λ s r. g s (get_or (xs s) (pick (length (xs s)) (to_draw r)) 0) (draw_one_of (length (xs s)) r))
        (λ s. uses_reads (any_ahead (length (xs s)) (λ l. get_or (xs s) (pick (length (xs s)) l) 0) (no_item (xs s)) (λ h. made_ahead (λ i. get_or (xs s) i 0) (pick_ahead (length (xs s)) h))) (g s) (k s))

    uses_place : Uses (λ r. g r.station (place (length (xs r.station)) r) (draw_one_of (length (xs r.station)) r))
    unfolding draw_one_of to_draw choose
    uses_place =
        by_state (λ s r. g s (place (length (xs s)) r) (draw_one_of (length (xs s)) r))
        (λ s. let n = length (xs s) in uses_reads (any_ahead n (λ l. choose (eqb n 0) 0 (pick n l)) (λ l m e. rw e) (λ h. made_ahead (λ i. choose (eqb n 0) 0 i) (pick_ahead n h))) (g s) (k s))

  uses_shuffle : (g : Station → List ℕ → Run → Run) → ((s : Station) (ys : List ℕ) → Uses (g s ys)) → Uses (λ r. g r.station (shuffled (xs r.station) r) (draw_shuffle (xs r.station) r))
  unfolding shuffled draw_shuffle
  uses_shuffle g k = by_state (λ s r. g s (shuffled (xs s) r) (draw_shuffle (xs s) r)) (λ s. uses_reads (shuffle_ahead (xs s)) (g s) (k s))

-- a delay is the first draw left, after a change of the station too
drawn_first : (f : Station → Station) (r : Run) → drawn r ≡ get_or (to_draw (on f r)) 0 0
unfolding drawn to_draw on guard
drawn_first f r =
    let there : get_or (drop r.used r.draws) 0 0 ≡ get_or r.draws r.used 0 = get_or-drop r.used r.draws 0 0 ∙ ap (λ (j : ℕ). get_or r.draws j 0) (omega arith) in
    by_choice (λ (w : Run). get_or r.draws r.used 0 ≡ get_or (drop w.used w.draws) 0 0) (eqb r.code 0) (λ _. sym there) (λ _. sym there)

uses_delay : (e : Station → ℕ → Rec) (f : Station → Station) → Uses (λ r. emit (e r.station (drawn r)) (draw 1 (on f r)))
uses_delay e f =
    by_state (λ s r. emit (e s (drawn r)) (draw 1 (on f r)))
    (λ s. same_uses (λ r. ap (λ (d : ℕ). emit (e s d) (draw 1 (on f r))) (drawn_first f r)) (uses_then (uses_on f) (uses_reads first_ahead (λ d r. emit (e s d) r) (λ d. uses_emit (e s d)))))

uses : Built Uses
uses = record {
  same_step = same_uses;
  by_station = by_state;
  idle = uses_none;
  either = uses_either;
  thens = uses_then;
  changes = uses_on;
  tests = λ c b n. uses_require c b;
  told = λ k e. uses_then k (uses_emit e);
  picks_item = uses_item;
  picks_place = uses_place;
  shuffles = uses_shuffle;
  delayed = λ e h f. uses_delay e f;
}

pub uses_steps : (e : Rec) → Uses (steps e)
uses_steps e = of_steps Uses uses e

-- what is lent does not show in an answer
finish_lent : (s : Station) (r : Run) (es : List ℕ) → finish s (with_draws es r) ≡ finish s r
unfolding finish accepted
finish_lent s r es = refl

five_taken : (r : Run) → r.code ≡ 5 → run_takes r ≡ length r.draws
unfolding run_takes
five_taken r c = choose_yes (eqb r.code 5) (length r.draws) r.used (rw c refl)

other_taken : (r : Run) → (r.code ≡ 5 → ⊥) → run_takes r ≡ r.used
unfolding run_takes
other_taken r n = choose_no (eqb r.code 5) (length r.draws) r.used (ne_eqb r.code 5 n)

pub finish_code : (s : Station) (r : Run) → (finish s r).code ≡ r.code
unfolding finish accepted refusal
finish_code s r = by_choice (λ (a : Result). a.code ≡ r.code) (eqb r.code 0) (λ e. sym (eqb-true r.code 0 e)) (λ e. refl)

-- by what the event is read as: where no draw is missed, every list that begins with the draws taken will do
module _ (s : Station) (ds : List ℕ) (room : ℕ) where
  front_reading : (x : Reading) (es : List ℕ) → ((handle_reading x s ds room).code ≡ 5 → ⊥) → Begins (reading_takes x s ds room) ds es → handle_reading x s es room ≡ handle_reading x s ds room
  unfolding handle_reading reading_takes
  front_reading (refused c) es n b = refl
  front_reading (event e) es n b =
      let r = steps e (start s ds room) in
      let open-run : r.code ≡ 5 → ⊥ = (λ c. n (finish_code s r ∙ c)) in
      ap (finish s) ((uses_steps e).same (start s ds room) es open-run (subst (λ (k : ℕ). Begins k ds es) (other_taken r open-run) b)) ∙ finish_lent s r es

  -- and one that misses a draw has taken all
  abbrev AllTaken : Reading → Type 0
  AllTaken x = (handle_reading x s ds room).code ≡ 5 → reading_takes x s ds room ≡ length ds

  none_taken : (c : ℕ) → (c ≡ 5 → ⊥) → AllTaken (refused c)
  unfolding handle_reading refusal
  none_taken c n five = absurd (n five)

  run_taken : (e : Rec) → AllTaken (event e)
  unfolding handle_reading reading_takes
  run_taken e five =
      let r = steps e (start s ds room) in
      five_taken r (sym (finish_code s r) ∙ five) ∙ ap length ((uses_steps e).lent (start s ds room))

  all_taken : (b : List ℕ) → AllTaken (read_event b)
  unfolding read_event
  all_taken b =
      by_choice AllTaken _ (λ _. none_taken 3 (λ e. omega arith))
      (λ _. by_choice AllTaken _ (λ _. none_taken 4 (λ e. omega arith)) (λ _. by_choice AllTaken _ (λ _. run_taken _) (λ _. none_taken 3 (λ e. omega arith))))

  few_taken : (x : Reading) → reading_takes x s ds room ≤ length ds
  unfolding reading_takes run_takes
  few_taken (refused c) = omega arith
  few_taken (event e) =
      let r = steps e (start s ds room) in
      by_choice (λ (n : ℕ). n ≤ length ds) (eqb r.code 5) (λ _. omega (arith, ap length ((uses_steps e).lent (start s ds room)))) (λ _. (uses_steps e).within (start s ds room) (omega arith))

  few_used : (x : Reading) → (handle_reading x s ds room).used ≤ length ds
  unfolding handle_reading refusal finish accepted
  few_used (refused c) = omega arith
  few_used (event e) =
      by_choice (λ (a : Result). a.used ≤ length ds) (eqb (steps e (start s ds room)).code 0) (λ _. (uses_steps e).within (start s ds room) (omega arith)) (λ _. omega arith)

-- of a call: one whose code is not 5 is the same with every list that begins with the draws that it takes
module _ (s : Station) (b ds : List ℕ) (room : ℕ) where
  is_reading : station_ok s ≡ true → (l : List ℕ) → handle s b l room ≡ handle_reading (read_event b) s l room
  unfolding handle
  is_reading ok l = choose_yes (station_ok s) (handle_reading (read_event b) s l room) (refusal 2 s room) ok

  is_broken : station_ok s ≡ false → (l : List ℕ) → handle s b l room ≡ refusal 2 s room
  unfolding handle
  is_broken f l = choose_no (station_ok s) (handle_reading (read_event b) s l room) (refusal 2 s room) f

  taken_is : station_ok s ≡ true → draws_taken s b ds room ≡ reading_takes (read_event b) s ds room
  unfolding draws_taken
  taken_is ok = choose_yes (station_ok s) (reading_takes (read_event b) s ds room) 0 ok

  pub same_front : (es : List ℕ) → ((handle s b ds room).code ≡ 5 → ⊥) → Begins (draws_taken s b ds room) ds es → handle s b es room ≡ handle s b ds room
  same_front es n k =
      split (station_ok s)
      (λ ok. is_reading ok es ∙ (front_reading s ds room (read_event b) es (λ c. n (ap (λ (a : Result). a.code) (is_reading ok ds) ∙ c)) (subst (λ (j : ℕ). Begins j ds es) (taken_is ok) k) ∙ sym (is_reading ok ds)))
      (λ f. is_broken f es ∙ sym (is_broken f ds))

  pub used_within : (handle s b ds room).used ≤ length ds
  unfolding refusal
  used_within =
      split (station_ok s)
      (λ ok. omega (arith, ap (λ (a : Result). a.used) (is_reading ok ds), few_used s ds room (read_event b)))
      (λ f. omega (arith, ap (λ (a : Result). a.used) (is_broken f ds)))

  -- a call that misses a draw has taken all
  pub five_takes_all : (handle s b ds room).code ≡ 5 → draws_taken s b ds room ≡ length ds
  unfolding refusal
  five_takes_all five =
      split (station_ok s)
      (λ ok. taken_is ok ∙ all_taken s ds room b (sym (ap (λ (a : Result). a.code) (is_reading ok ds)) ∙ five))
      (λ f. absurd (omega (arith, five, ap (λ (a : Result). a.code) (is_broken f ds))))

  pub taken_within : draws_taken s b ds room ≤ length ds
  unfolding draws_taken
  taken_within = by_choice (λ (n : ℕ). n ≤ length ds) (station_ok s) (λ _. few_taken s ds room (read_event b)) (λ _. omega arith)
