-- The radio side answers as the wired side does, where an event has at most 8 nodes and takes at most 64 draws (02, S-12).
-- Assumes nothing.
use mathlib.Core.Path.{◌≡◌, refl, sym, ap, ◌∙◌}
use mathlib.Core.Bool.{true, false, ◌&&◌}
use mathlib.Core.List.{List, [], ◌∷◌, ◌++◌}
use mathlib.Core.Option.{none}
use Prim.Native.Nat.{ℕ, zero, suc, ◌+◌, ◌≤◌}
use native.Mathlib.Omega.{arith}
use lib.ListN.{length, take, get_or, replicate, length-take}
use lib.Seq.{take-take, take_all, length-take-le}
use lib.Dec.{eqb, leb, ltb}
use borrow.Author.Tests.{eqb-true, eqb-false, ltb-true}
use Rattle.base_lists.proofs.Choice.{by_choice, choose_yes, choose_no, split, and_left, and_right}
use Rattle.base_timing.specs.Timing.{default}
use Rattle.base_util.specs.Chances.{sure_end, sure}
use Rattle.record.specs.Kinds.{Quit, kind_byte}
use Rattle.record.specs.Format.{Rec, header_length, most_nodes}
use Rattle.record.specs.Read.{Reading, refused, event, rec_of, rec_of_by, header_of_by}
use Rattle.record.proofs.Nodes.{length_nodes_of}
use Rattle.spec_hyparview.specs.Station.{Station}
use Rattle.spec_hyparview.specs.Setters.{set_active, set_passive}
use Rattle.spec_hyparview.specs.Traced.{traced}
use Rattle.spec_hyparview.specs.Rules.{all_under, station_ok}
use Rattle.spec_hyparview.specs.Handle.{Result, new_station, refusal, start, steps, handle_reading, handle}
use Rattle.spec_hyparview.specs.Sides.{Side, wired, radio, radio_nodes, radio_draws, too_many, handle_radio, handle_from, draws_from, draws_taken, SameFromEither, SameUnlessRefused, FewDrawsUsed, AnsweredAsWired, EnoughForRadio}
use Rattle.spec_hyparview.proofs.Reading.{Readable, by_reading}
use Rattle.spec_hyparview.proofs.Whole.{ok_plain, ok_quit_two}
use Rattle.spec_hyparview.proofs.Tested.{between_of}
use Rattle.spec_hyparview.proofs.Enough.{pays_all, all_sure}
use Rattle.spec_hyparview.proofs.Front.{finish_code, same_front, used_within, five_takes_all, taken_within}

module _ (s : Station) (b ds : List ℕ) (room : ℕ) where
  few_nodes : get_or b 3 0 ≤ radio_nodes → (station_ok s && too_many b) ≡ true → ⊥
  unfolding too_many
  few_nodes l e =
      let h = and_left (ltb radio_nodes (get_or b 3 0)) (leb (get_or b 3 0) most_nodes) (and_right (leb header_length (length b)) _ (and_right (station_ok s) (too_many b) e)) in
      omega (arith, l, ltb-true radio_nodes (get_or b 3 0) h)

  -- the wired call on the first 64 draws
  pub radio_is : (station_ok s && too_many b) ≡ false → handle_from radio s b ds room ≡ handle s b (take radio_draws ds) room
  unfolding handle_from handle_radio
  radio_is e = choose_no (station_ok s && too_many b) (refusal 16 s room) (handle s b (take radio_draws ds) room) e

  pub radio_few : get_or b 3 0 ≤ radio_nodes → handle_from radio s b ds room ≡ handle s b (take radio_draws ds) room
  radio_few l = radio_is (split (station_ok s && too_many b) (λ e. absurd (few_nodes l e)) (λ e. e))

  radio_refused : (station_ok s && too_many b) ≡ true → handle_from radio s b ds room ≡ refusal 16 s room
  unfolding handle_from handle_radio
  radio_refused e = choose_yes (station_ok s && too_many b) (refusal 16 s room) (handle s b (take radio_draws ds) room) e

  -- a call that takes at most 64 draws does not miss the others
  pub cut_draws : draws_taken s b ds room ≤ radio_draws → handle s b (take radio_draws ds) room ≡ handle s b ds room
  cut_draws l =
      split (eqb (handle s b ds room).code 5)
      (λ e. ap (λ (d : List ℕ). handle s b d room) (take_all radio_draws ds (omega (arith, l, five_takes_all s b ds room (eqb-true (handle s b ds room).code 5 e)))))
      (λ e. same_front s b ds room (take radio_draws ds) (eqb-false (handle s b ds room).code 5 e) (take-take (draws_taken s b ds room) radio_draws ds l))

  -- and one that does not miss them takes at most 64
  uncut_draws : ((handle s b (take radio_draws ds) room).code ≡ 5 → ⊥) → handle s b ds room ≡ handle s b (take radio_draws ds) room
  uncut_draws n =
      let front = take radio_draws ds in
      let l : draws_taken s b front room ≤ radio_draws = omega (arith, taken_within s b front room, length-take radio_draws ds) in
      same_front s b front room ds n (sym (take-take (draws_taken s b front room) radio_draws ds l))

  wired_is : handle_from wired s b ds room ≡ handle s b ds room
  unfolding handle_from
  wired_is = refl

-- what holds of a refusal with 16, and of the wired call on the draws that the side reads
pub by_side : (X : Result → Type 0) (side : Side) (s : Station) (b ds : List ℕ) (room : ℕ) → X (refusal 16 s room) → X (handle s b (draws_from side ds) room) → X (handle_from side s b ds room)
unfolding handle_from handle_radio draws_from
by_side X wired s b ds room h k = k
by_side X radio s b ds room h k = by_choice X (station_ok s && too_many b) (λ _. h) (λ _. k)

under_take : (n k : ℕ) (ds : List ℕ) → all_under n ds ≡ true → all_under n (take k ds) ≡ true
unfolding all_under
under_take n zero ds h = refl
under_take n (suc k) [] h = refl
under_take n (suc k) (d ∷ ds) h = rw (and_left (ltb d n) (all_under n ds) h) (under_take n k ds (and_right (ltb d n) (all_under n ds) h))

-- what a side reads is as narrow as what is lent
pub under_from : (n : ℕ) (side : Side) (ds : List ℕ) → all_under n ds ≡ true → all_under n (draws_from side ds) ≡ true
unfolding draws_from
under_from n wired ds h = h
under_from n radio ds h = under_take n radio_draws ds h

pub same_from_either : SameFromEither
same_from_either s b ds room few l = radio_few s b ds room few ∙ (cut_draws s b ds room l ∙ sym (wired_is s b ds room))

pub same_unless_refused : SameUnlessRefused
unfolding refusal
same_unless_refused s b ds room n16 n5 =
    split (station_ok s && too_many b)
    (λ e. absurd (n16 (ap (λ (a : Result). a.code) (radio_refused s b ds room e))))
    (λ e. let q = radio_is s b ds room e in
    q ∙ (sym (uncut_draws s b ds room (λ c. n5 (ap (λ (a : Result). a.code) q ∙ c))) ∙ sym (wired_is s b ds room)))

pub few_draws_used : FewDrawsUsed
unfolding refusal
few_draws_used s b ds room =
    split (station_ok s && too_many b)
    (λ e. omega (arith, ap (λ (a : Result). a.used) (radio_refused s b ds room e)))
    (λ e. omega (arith, ap (λ (a : Result). a.used) (radio_is s b ds room e), used_within s b (take radio_draws ds) room, length-take radio_draws ds))

-- what of the bytes the bound on draws goes by
nodes_read : (b : List ℕ) → length (rec_of b).nodes ≡ get_or b 3 0
unfolding rec_of_by header_of_by
nodes_read b = length_nodes_of b 0 (get_or b 3 0)

kind_read : (b : List ℕ) → (rec_of b).kind ≡ get_or b 0 0
unfolding rec_of_by header_of_by
kind_read b = refl

module _ (s : Station) (ok : station_ok s ≡ true) (ds : List ℕ) (room : ℕ) (long : radio_draws ≤ length ds) (kept : all_under sure_end (take radio_draws ds) ≡ true) where
  front_sure : sure (take radio_draws ds) ≡ radio_draws
  front_sure = all_sure (take radio_draws ds) kept ∙ length-take-le radio_draws ds long

  abbrev NotFive : Reading → Type 0
  NotFive x = (handle_reading x s (take radio_draws ds) room).code ≡ 5 → ⊥

  -- at most 47 draws, or 63 of a Quit
  run_not_five : (e : Rec) → Readable e → length e.nodes ≤ radio_nodes → (e.kind ≡ kind_byte Quit → length s.active ≤ 2) → NotFive (event e)
  unfolding handle_reading
  run_not_five e w few two five =
      let a = s.config.active_view_capacity in
      let r = steps e (start s (take radio_draws ds) room) in
      let c : r.code ≡ 5 = sym (finish_code s r) ∙ five in
      split (eqb e.kind (kind_byte Quit))
      (λ f. let k = ok_quit_two (a + 9) (take radio_draws ds) room e w (pays_all a e) (between_of s ok) radio_draws (omega arith) (two (eqb-true e.kind (kind_byte Quit) f)) f in
      absurd (omega (arith, k.codes.five c, front_sure)))
      (λ f. let k = ok_plain (a + 9) (take radio_draws ds) room e w (pays_all a e) (between_of s ok) radio_draws (omega arith) (omega (arith, few)) f in
      absurd (omega (arith, k.codes.five c, front_sure)))

  reading_not_five : (c : ℕ) → c ≤ 4 → NotFive (refused c)
  unfolding handle_reading refusal
  reading_not_five c l five = omega (arith, l, five)

module _ (s : Station) (b ds : List ℕ) (room : ℕ) (bytes : all_under 256 b ≡ true) (few : get_or b 3 0 ≤ radio_nodes) (long : radio_draws ≤ length ds)
    (kept : all_under sure_end (take radio_draws ds) ≡ true) (two : get_or b 0 0 ≡ kind_byte Quit → length s.active ≤ 2) where
  front_not_five : (handle s b (take radio_draws ds) room).code ≡ 5 → ⊥
  unfolding handle refusal
  front_not_five =
      by_choice (λ (a : Result). a.code ≡ 5 → ⊥) (station_ok s)
      (λ ok. by_reading b bytes (NotFive s ok ds room long kept) (λ c _ l. reading_not_five s ok ds room long kept c l)
      (λ w. run_not_five s ok ds room long kept (rec_of b) w (omega (arith, few, nodes_read b)) (λ q. two (sym (kind_read b) ∙ q))))
      (λ _ five. omega (arith, five))

  not_five_from : (handle_from radio s b ds room).code ≡ 5 → ⊥
  not_five_from c = front_not_five (sym (ap (λ (a : Result). a.code) (radio_few s b ds room few)) ∙ c)

  pub answered_as_wired : AnsweredAsWired s b ds room
  answered_as_wired = record { not_five = not_five_from; as_wired = radio_few s b ds room few ∙ (sym (uncut_draws s b ds room front_not_five) ∙ sym (wired_is s b ds room)) }

pub enough_for_radio : EnoughForRadio
enough_for_radio s b ds room bytes few long kept two = answered_as_wired s b ds room bytes few long kept two

-- n numbers from k on
unfoldable pub counted : ℕ → ℕ → List ℕ
counted zero k = []
counted (suc n) k = k ∷ counted n (suc k)

-- a Quit that the radio side cannot bring: with three neighbours and 30 passive peers it takes 88 draws, though every choice keeps each
abbrev pub quit : List ℕ
quit = 8 ∷ replicate 21 0 ++ (32 ∷ replicate 9 0)

abbrev pub three : Station
three = set_active (2 ∷ 3 ∷ 4 ∷ []) (set_passive (counted 30 10) (new_station 1 none default))

pub radio_misses : (handle_from radio three quit (replicate 512 0) 8192).code ≡ 5
unfolding traced default handle_from handle_radio too_many counted
radio_misses = refl

pub wired_answers : (handle_from wired three quit (replicate 512 0) 8192).used ≡ 88
unfolding traced default handle_from counted
wired_answers = refl

-- "16, .. tested right after 4": an event of no kind, with as many nodes as its byte 3 says and no byte of them
abbrev damaged : ℕ → List ℕ
damaged n = 255 ∷ 0 ∷ 0 ∷ n ∷ replicate 28 0

pub sixteen_after_four : (handle_from radio three (damaged 33) (replicate 64 0) 8192).code ≡ 4
unfolding traced default handle_from handle_radio too_many counted
sixteen_after_four = refl

pub sixteen_before_three : (handle_from radio three (damaged 9) (replicate 64 0) 8192).code ≡ 16
unfolding traced default handle_from handle_radio too_many counted
sixteen_before_three = refl
