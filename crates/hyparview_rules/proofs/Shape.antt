-- What the test `packed_ok` says of each part, both ways.
-- Assumes nothing.
use Prim.Native.Nat.{ℕ, ◌≤◌}
use mathlib.Core.Path.{◌≡◌}
use mathlib.Core.Bool.{true}
use mathlib.Core.List.{List}
use native.Mathlib.Omega.{arith}
use lib.ListN.{length}
use lib.Dec.{leb, eqb}
use borrow.Author.Tests.{leb-true, le-leb, eqb-true, eq-eqb}
use Rattle.base_lists.proofs.Choice.{and_left, and_right}
use Rattle.base_lists.proofs.Tests.{both_true}
use Rattle.base_util.specs.Section.{ValidSet, valid_set}
use Rattle.base_util.proofs.Parts.{part_long}
use Rattle.base_util.proofs.Sets.{valid_set_true, true_valid_set}
use Rattle.base_columns.specs.Columns.{words_end, ValidNumbers, valid_numbers, ValidDataWords, valid_data_words}
use Rattle.base_columns.proofs.Numbers.{valid_numbers_true, true_valid_numbers}
use Rattle.base_columns.proofs.Testing.{valid_words_true, true_valid_words}
use Rattle.base_peer.specs.Held.{ValidData, valid_data}
use Rattle.base_peer.proofs.Data.{valid_data_true, true_valid_data}
use Rattle.spec_hyparview.specs.Rules.{all_under}
use Rattle.hyparview_state.specs.Layout as layout
use Rattle.hyparview_state.specs.Layout.{sections, WellFormed}
use Rattle.hyparview_state.specs.Unpack.{own_at, limit_formed, PackedState, opened, long}
use Rattle.hyparview_rules.specs.Ok.{formed, sections_ok, packed_ok}

-- every part is well formed
pub record Shape (xs : List ℕ) : Type 0 where
  pub size : length xs ≡ layout.words
  pub wide : all_under words_end xs ≡ true
  pub present : layout.own_present xs ≤ 1
  pub timers : layout.timers_scheduled xs ≤ 1
  pub limit : limit_formed (layout.refill_kind xs) (layout.refill_requests xs) ≡ true
  pub own_data : ValidData (own_at xs)
  pub sections : WellFormed (sections xs)

-- the test of the sections, both ways, by tools/make/layout.py
formed_true : (xs : List ℕ) → length xs ≡ layout.words → sections_ok xs ≡ true → WellFormed (sections xs)
unfolding sections_ok
formed_true xs l e0 =
    let e1 = and_right (valid_set layout.active_places (layout.active_part xs)) _ e0 in
    let e2 = and_right (valid_set layout.passive_places (layout.passive_part xs)) _ e1 in
    let e3 = and_right (valid_set layout.alive_places (layout.alive_part xs)) _ e2 in
    let e4 = and_right (valid_set layout.refused_places (layout.refused_part xs)) _ e3 in
    let e5 = and_right (valid_numbers layout.requests_places (layout.requests_part xs)) _ e4 in
    let e6 = and_right (valid_set layout.bootstrap_places (layout.bootstrap_part xs)) _ e5 in
    let e7 = and_right (valid_set layout.recent_places (layout.recent_part xs)) _ e6 in
    let e8 = and_right (valid_numbers layout.joins_places (layout.joins_part xs)) _ e7 in
    record {
      active = valid_set_true layout.active_places _ (part_long layout.active_at layout.active_size xs (omega (arith, l))) (and_left (valid_set layout.active_places (layout.active_part xs)) _ e0);
      passive = valid_set_true layout.passive_places _ (part_long layout.passive_at layout.passive_size xs (omega (arith, l))) (and_left (valid_set layout.passive_places (layout.passive_part xs)) _ e1);
      alive = valid_set_true layout.alive_places _ (part_long layout.alive_at layout.alive_size xs (omega (arith, l))) (and_left (valid_set layout.alive_places (layout.alive_part xs)) _ e2);
      refused = valid_set_true layout.refused_places _ (part_long layout.refused_at layout.refused_size xs (omega (arith, l))) (and_left (valid_set layout.refused_places (layout.refused_part xs)) _ e3);
      requests = valid_numbers_true layout.requests_places _ (part_long layout.requests_at layout.requests_size xs (omega (arith, l))) (and_left (valid_numbers layout.requests_places (layout.requests_part xs)) _ e4);
      bootstrap = valid_set_true layout.bootstrap_places _ (part_long layout.bootstrap_at layout.bootstrap_size xs (omega (arith, l))) (and_left (valid_set layout.bootstrap_places (layout.bootstrap_part xs)) _ e5);
      recent = valid_set_true layout.recent_places _ (part_long layout.recent_at layout.recent_size xs (omega (arith, l))) (and_left (valid_set layout.recent_places (layout.recent_part xs)) _ e6);
      joins = valid_numbers_true layout.joins_places _ (part_long layout.joins_at layout.joins_size xs (omega (arith, l))) (and_left (valid_numbers layout.joins_places (layout.joins_part xs)) _ e7);
      peer_data = valid_words_true layout.peer_data_places _ (part_long layout.peer_data_at layout.peer_data_size xs (omega (arith, l))) (and_left (valid_data_words layout.peer_data_places (layout.peer_data_part xs)) _ e8);
      pins = valid_set_true layout.pins_places _ (part_long layout.pins_at layout.pins_size xs (omega (arith, l))) (and_right (valid_data_words layout.peer_data_places (layout.peer_data_part xs)) _ e8);
    }

true_formed : (xs : List ℕ) → WellFormed (sections xs) → sections_ok xs ≡ true
unfolding sections_ok
true_formed xs v =
    both_true _ _ (true_valid_set layout.active_places _ v.active)
    (both_true _ _ (true_valid_set layout.passive_places _ v.passive)
    (both_true _ _ (true_valid_set layout.alive_places _ v.alive)
    (both_true _ _ (true_valid_set layout.refused_places _ v.refused)
    (both_true _ _ (true_valid_numbers layout.requests_places _ v.requests)
    (both_true _ _ (true_valid_set layout.bootstrap_places _ v.bootstrap)
    (both_true _ _ (true_valid_set layout.recent_places _ v.recent)
    (both_true _ _ (true_valid_numbers layout.joins_places _ v.joins)
    (both_true _ _ (true_valid_words layout.peer_data_places _ v.peer_data)
    (true_valid_set layout.pins_places _ v.pins)))))))))

-- end

pub ok_shape : (xs : List ℕ) → packed_ok xs ≡ true → Shape xs
unfolding packed_ok formed
ok_shape xs e =
    let l : length xs ≡ layout.words = eqb-true (length xs) layout.words (and_left (eqb (length xs) layout.words) _ e) in
    let e₁ = and_right (eqb (length xs) layout.words) _ e in
    let f₀ = and_left (formed xs) _ e₁ in
    let f₁ = and_right (all_under words_end xs) _ f₀ in
    let f₂ = and_right (leb (layout.own_present xs) 1) _ f₁ in
    let e₂ = and_right (formed xs) _ e₁ in
    record {
      size = l;
      wide = and_left (all_under words_end xs) _ f₀;
      present = leb-true _ _ (and_left (leb (layout.own_present xs) 1) _ f₁);
      timers = leb-true _ _ (and_left (leb (layout.timers_scheduled xs) 1) _ f₂);
      limit = and_right (leb (layout.timers_scheduled xs) 1) _ f₂;
      own_data = valid_data_true _ (and_left (valid_data (own_at xs)) _ e₂);
      sections = formed_true xs l (and_right (valid_data (own_at xs)) _ e₂);
    }

pub shape_ok : (xs : List ℕ) → Shape xs → packed_ok xs ≡ true
unfolding packed_ok formed
shape_ok xs v =
    both_true _ _ (eq-eqb (length xs) layout.words v.size)
    (both_true _ _ (both_true _ _ v.wide (both_true _ _ (le-leb _ _ v.present) (both_true _ _ (le-leb _ _ v.timers) v.limit)))
    (both_true _ _ (true_valid_data _ v.own_data) (true_formed xs v.sections)))

-- packed words of 64 bits
pub packed_shape : (xs : List ℕ) → PackedState xs → all_under words_end xs ≡ true → Shape xs
packed_shape xs p w =
    let v = opened p in
    record {
      size = long p;
      wide = w;
      present = v.present;
      timers = v.timers;
      limit = v.limit;
      own_data = v.own_data;
      sections = v.sections;
    }

-- for `search (of_ok, needs)`, by tools/make/layout.py
module _ (xs : List ℕ) (e : packed_ok xs ≡ true) where
  pub ok_active : ValidSet layout.active_places (layout.active_part xs)
  ok_active = (ok_shape xs e).sections.active

  pub ok_passive : ValidSet layout.passive_places (layout.passive_part xs)
  ok_passive = (ok_shape xs e).sections.passive

  pub ok_alive : ValidSet layout.alive_places (layout.alive_part xs)
  ok_alive = (ok_shape xs e).sections.alive

  pub ok_refused : ValidSet layout.refused_places (layout.refused_part xs)
  ok_refused = (ok_shape xs e).sections.refused

  pub ok_requests : ValidNumbers layout.requests_places (layout.requests_part xs)
  ok_requests = (ok_shape xs e).sections.requests

  pub ok_bootstrap : ValidSet layout.bootstrap_places (layout.bootstrap_part xs)
  ok_bootstrap = (ok_shape xs e).sections.bootstrap

  pub ok_recent : ValidSet layout.recent_places (layout.recent_part xs)
  ok_recent = (ok_shape xs e).sections.recent

  pub ok_joins : ValidNumbers layout.joins_places (layout.joins_part xs)
  ok_joins = (ok_shape xs e).sections.joins

  pub ok_peer_data : ValidDataWords layout.peer_data_places (layout.peer_data_part xs)
  ok_peer_data = (ok_shape xs e).sections.peer_data

  pub ok_pins : ValidSet layout.pins_places (layout.pins_part xs)
  ok_pins = (ok_shape xs e).sections.pins

pub ruleset of_ok = (ok_active, ok_passive, ok_alive, ok_refused, ok_requests, ok_bootstrap, ok_recent, ok_joins, ok_peer_data, ok_pins)

-- end
