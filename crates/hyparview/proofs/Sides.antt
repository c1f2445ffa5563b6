-- A call from a side, by the tests of the code: refused with 16, or the wired call on the draws that the side reads.
-- Assumes nothing.
use Prim.Native.Nat.{ℕ, ◌≤◌, ◌<◌}
use mathlib.Core.Path.{◌≡◌, refl, sym, ap, ◌∙◌}
use mathlib.Core.Bool.{Bool, true, false, ◌&&◌}
use mathlib.Core.List.{List}
use native.Mathlib.Omega.{arith}
use lib.ListN.{length, take, get_or}
use lib.Seq.{take_all, length-take-le}
use lib.Dec.{leb, ltb}
use borrow.Author.Tests.{le-leb, lt-leb}
use Rattle.base_lists.proofs.Choice.{choose_yes, choose_no, split, clash, and_left, and_right}
use Rattle.record.specs.Format.{header_length}
use Rattle.spec_hyparview.specs.Rules.{station_ok}
use Rattle.spec_hyparview.specs.Handle as P
use Rattle.spec_hyparview.specs.Sides.{Side, wired, radio, side_of, radio_draws, too_many, handle_radio, handle_from}
use Rattle.hyparview_state.specs.Unpack.{unpack}
use Rattle.hyparview_rules.specs.Ok.{packed_ok, state_ok}
use Rattle.hyparview.specs.Handled.{Outcome, packed_answer, refused_words, handled, handled_from}
use Rattle.hyparview.proofs.Opening.{refusal_is, packed_of, rules_of, handled_two}

module _ (b : List ℕ) where
  pub too_short : length b < header_length → false ≡ too_many b
  unfolding too_many
  too_short h = rw (lt-leb header_length (length b) h)

  pub by_count : header_length ≤ length b → (ltb 8 (get_or b 3 0) && leb (get_or b 3 0) 32) ≡ too_many b
  unfolding too_many
  by_count h = rw (le-leb header_length (length b) h)

pub barred_by : (x o : Bool) (b xs : List ℕ) → x ≡ too_many b → x ≡ true → o ≡ state_ok xs → o ≡ (too_many b && state_ok xs)
barred_by x o b xs e h k = rw (← e, h) k

pub barred_not : (x : Bool) (b xs : List ℕ) → x ≡ too_many b → x ≡ false → false ≡ (too_many b && state_ok xs)
barred_not x b xs e h = rw (← e, h)

not_both : (t p s : Bool) → (t && (p && s)) ≡ false → p ≡ true → (s && t) ≡ false
not_both true true true h e = h
not_both true true false h e = refl
not_both true false s h e = clash false e refl
not_both false p true h e = refl
not_both false p false h e = refl

open_to : (xs b : List ℕ) → (too_many b && state_ok xs) ≡ false → packed_ok xs ≡ true → (station_ok (unpack xs) && too_many b) ≡ false
unfolding state_ok
open_to xs b h p = not_both (too_many b) (packed_ok xs) (station_ok (unpack xs)) h p

module _ (xs b ds : List ℕ) (room : ℕ) where
  -- words that are no state
  both_two : packed_ok xs ≡ false → (l : List ℕ) → handled xs b l room ≡ handled_from radio xs b ds room
  unfolding handled handled_from
  both_two p l = choose_no _ _ _ p ∙ sym (choose_no _ _ _ p)

  as_wired : (packed_ok xs ≡ true → (station_ok (unpack xs) && too_many b) ≡ false) → handled xs b (take radio_draws ds) room ≡ handled_from radio xs b ds room
  unfolding handled handled_from handle_from handle_radio
  as_wired f =
      split (packed_ok xs)
      (λ p. choose_yes _ _ _ p ∙ (ap packed_answer (sym (choose_no (station_ok (unpack xs) && too_many b) (P.refusal 16 (unpack xs) room) _ (f p))) ∙ sym (choose_yes _ _ _ p)))
      (λ p. both_two p (take radio_draws ds))

  barred : (too_many b && state_ok xs) ≡ true → refused_words 16 xs room ≡ handled_from radio xs b ds room
  unfolding handled_from handle_from handle_radio
  barred h =
      let too = and_left (too_many b) (state_ok xs) h in
      let ok = and_right (too_many b) (state_ok xs) h in
      let p = packed_of xs ok in
      let both : (station_ok (unpack xs) && too_many b) ≡ true = rw (rules_of xs ok, too) refl in
      refusal_is xs p 16 room ∙ (ap packed_answer (sym (choose_yes (station_ok (unpack xs) && too_many b) (P.refusal 16 (unpack xs) room) _ both)) ∙ sym (choose_yes _ _ _ p))

module _ (xs b ds : List ℕ) (room : ℕ) (r : Outcome) (t : Bool) (e : t ≡ (too_many b && state_ok xs)) where
  pub sixteen : (c : ℕ) → c ≡ 16 → t ≡ true → r ≡ refused_words c xs room → r ≡ handled_from radio xs b ds room
  sixteen c z h k = k ∙ ap (λ (n : ℕ). refused_words n xs room) z ∙ barred xs b ds room (sym e ∙ h)

  pub few_draws : t ≡ false → length ds < radio_draws → r ≡ handled xs b ds room → r ≡ handled_from radio xs b ds room
  few_draws h l k = k ∙ (ap (λ (d : List ℕ). handled xs b d room) (sym (take_all radio_draws ds (omega (arith, l)))) ∙ as_wired xs b ds room (open_to xs b (sym e ∙ h)))

  pub cut_draws : t ≡ false → r ≡ handled xs b (take radio_draws ds) room → r ≡ handled_from radio xs b ds room
  cut_draws h k = k ∙ as_wired xs b ds room (open_to xs b (sym e ∙ h))

-- as many as are read
pub cut_length : (ds : List ℕ) → radio_draws ≤ length ds → radio_draws ≡ length (take radio_draws ds)
cut_length ds l = sym (length-take-le radio_draws ds l)

-- the side that the code names
module _ (xs b ds : List ℕ) (room : ℕ) (r : Outcome) (t : Bool) where
  pub from_radio : t ≡ true → r ≡ handled_from radio xs b ds room → r ≡ handled_from (side_of t) xs b ds room
  unfolding side_of
  from_radio h k = rw h k

  pub from_wired : t ≡ false → r ≡ handled xs b ds room → r ≡ handled_from (side_of t) xs b ds room
  unfolding side_of handled handled_from handle_from
  from_wired h k = rw h k

-- a wired call is `handle`
pub wired_is : (xs b ds : List ℕ) (room : ℕ) → handled_from (side_of false) xs b ds room ≡ handled xs b ds room
unfolding side_of handled handled_from handle_from
wired_is xs b ds room = refl

-- words that break a rule are answered 2 from either side
pub from_two : (side : Side) (xs b ds : List ℕ) (room : ℕ) → state_ok xs ≡ false → refused_words 2 xs room ≡ handled_from side xs b ds room
unfolding state_ok handled handled_from handle_from
from_two wired xs b ds room broken = handled_two xs b ds room broken
from_two radio xs b ds room broken =
    handled_two xs b (take radio_draws ds) room broken
    ∙ as_wired xs b ds room (λ p. not_both (too_many b) true (station_ok (unpack xs)) (broken_too (too_many b) (packed_ok xs) (station_ok (unpack xs)) p broken) refl)
  where
    broken_too : (t p s : Bool) → p ≡ true → (p && s) ≡ false → (t && (true && s)) ≡ false
    broken_too true true s e h = h
    broken_too true false s e h = clash false e refl
    broken_too false p s e h = refl
