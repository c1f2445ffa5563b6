-- Words below a bound: what the chain answers, and what the tests of a state's parts say.
-- Assumes nothing.
use Prim.Native.Nat.{ℕ, suc, ◌+◌, ◌-◌, ◌<◌}
use mathlib.Core.Path.{◌≡◌, refl, sym, ap, ◌∙◌}
use mathlib.Core.Bool.{Bool, true, ◌&&◌, ◌||◌, and_assoc}
use mathlib.Core.List.{List, [], ◌∷◌}
use native.Mathlib.Omega.{arith}
use lib.ListN.{length, take, drop, get_or}
use lib.Seq.{take-take}
use lib.Dec.{leb, ltb, eqb}
use borrow.Author.Tests.{lt-ltb, eq-eqb}
use Rattle.std.specs.List.{list_all}
use Rattle.base_lists.specs.Maps.{keys, values}
use Rattle.base_lists.specs.Tests.{packed}
use Rattle.base_lists.proofs.Tests.{both_true}
use Rattle.base_lists.proofs.Entries.{entries_values}
use Rattle.base_util.specs.Section.{part, valid_set}
use Rattle.base_columns.specs.Columns.{words_end, word_bytes, row, numbers_at, ValidNumbers, valid_numbers, valid_data_words}
use Rattle.base_columns.proofs.Numbers.{number_entries, number_keys}
use Rattle.base_peer.specs.Held.{zero_byte, valid_data}
use Rattle.base_peer.specs.Maps.{numbers_under, valid_entry}
use Rattle.base_peer.proofs.Maps.{itself, Any, map_itself}
use Rattle.spec_hyparview.specs.Rules.{all_under}
use Rattle.hyparview_state.specs.Layout as layout
use Rattle.hyparview_state.specs.Unpack.{own_at, limit_formed}
use Rattle.hyparview_rules.specs.Ok.{formed, sections_ok, packed_ok}

-- ---- the tests of a map

pub numbers_are : (n : ℕ) (m : List (ℕ × ℕ)) → numbers_under n m ≡ all_under n (values m)
unfolding numbers_under all_under values
numbers_are n [] = refl
numbers_are n (e ∷ m) = ap (λ (b : Bool). ltb e.1 n && b) (numbers_are n m)

under_all : (e : ℕ) (xs : List ℕ) → all_under e xs ≡ list_all (λ x. ltb x e) xs
unfolding all_under
under_all e [] = refl
under_all e (x ∷ xs) = ap (λ (b : Bool). ltb x e && b) (under_all e xs)

module _ (n : ℕ) (m : List ℕ) (v : ValidNumbers n m) where
  -- the peers as the code lends them, and the numbers
  pub peers_lent : take (get_or m (n + n) 0) m ≡ keys (numbers_at n m)
  unfolding part
  peers_lent = sym (number_keys n m v ∙ take-take (get_or m (n + n) 0) n m v.fits)

  values_lent : values (numbers_at n m) ≡ take (get_or m (n + n) 0) (drop n m)
  unfolding part
  values_lent = entries_values 0 n itself Any _ _ _ _ (number_entries n m v) ∙ map_itself (take (get_or m (n + n) 0) (part n n m)) ∙ take-take (get_or m (n + n) 0) n (drop n m) v.fits

  -- the test of each number, as `all` makes it
  pub under_is : (e : ℕ) → numbers_under e (numbers_at n m) ≡ list_all (λ x. ltb x e) (take (n + get_or m (n + n) 0 - n) (drop n m))
  under_is e =
      let k : get_or m (n + n) 0 ≡ n + get_or m (n + n) 0 - n = omega arith in
      numbers_are e (numbers_at n m) ∙ ap (all_under e) values_lent ∙ under_all e _ ∙ ap (λ (i : ℕ). list_all (λ x. ltb x e) (take i (drop n m))) k

-- ---- the numbers of a state

pub under_of : (n : ℕ) (xs : List ℕ) → ((i : ℕ) → get_or xs i 0 < n) → all_under n xs ≡ true
unfolding all_under
under_of n [] f = refl
under_of n (x ∷ xs) f = both_true (ltb x n) _ (lt-ltb x n (f 0)) (under_of n xs (λ i. f (suc i)))

formed_is : (xs : List ℕ) → ((i : ℕ) → get_or xs i 0 < words_end)
    → (leb (layout.own_present xs) 1 && (leb (layout.timers_scheduled xs) 1 && (leb (layout.refill_kind xs) 2 && (eqb (layout.refill_kind xs) 1 || eqb (layout.refill_requests xs) 0)))) ≡ formed xs
unfolding formed limit_formed
formed_is xs f = sym (rw (under_of words_end xs f))

own_is : (xs : List ℕ) (b : Bool) → b ≡ valid_entry (row (layout.own_len xs) (layout.own_low xs) (layout.own_high xs))
    → (b && (eqb (layout.own_present xs) 1 || eqb (layout.own_len xs) 0)) ≡ valid_data (own_at xs)
unfolding valid_data own_at valid_entry
own_is xs b e =
    let l = layout.own_len xs in
    let o = eqb (layout.own_present xs) 1 || eqb l 0 in
    ap (λ (t : Bool). t && o) e ∙ and_assoc (leb l 16) (packed zero_byte 16 l (word_bytes (layout.own_low xs) (layout.own_high xs))) o

-- ---- all parts of a state

-- the tests of the sections one after another, as the code has them, by tools/make/layout.py
pub sections_are : (xs : List ℕ) (b0 b1 b2 b3 b4 b5 b6 b7 b8 b9 : Bool)
    → b0 ≡ valid_set layout.active_places (layout.active_part xs)
    → b1 ≡ valid_set layout.passive_places (layout.passive_part xs)
    → b2 ≡ valid_set layout.alive_places (layout.alive_part xs)
    → b3 ≡ valid_set layout.refused_places (layout.refused_part xs)
    → b4 ≡ valid_numbers layout.requests_places (layout.requests_part xs)
    → b5 ≡ valid_set layout.bootstrap_places (layout.bootstrap_part xs)
    → b6 ≡ valid_set layout.recent_places (layout.recent_part xs)
    → b7 ≡ valid_numbers layout.joins_places (layout.joins_part xs)
    → b8 ≡ valid_data_words layout.peer_data_places (layout.peer_data_part xs)
    → b9 ≡ valid_set layout.pins_places (layout.pins_part xs)
    → (b0 && b1 && b2 && b3 && b4 && b5 && b6 && b7 && b8 && b9) ≡ sections_ok xs
unfolding sections_ok
sections_are xs b0 b1 b2 b3 b4 b5 b6 b7 b8 b9 e0 e1 e2 e3 e4 e5 e6 e7 e8 e9 = simp and_assoc (λ i. e0 i && (e1 i && (e2 i && (e3 i && (e4 i && (e5 i && (e6 i && (e7 i && (e8 i && (e9 i))))))))))

-- end

-- the tests of the numbers, of own data and of the sections, as the code has them
pub packed_is : (xs : List ℕ) → ((i : ℕ) → get_or xs i 0 < words_end) → length xs ≡ layout.words → (o s : Bool) → o ≡ valid_entry (row (layout.own_len xs) (layout.own_low xs) (layout.own_high xs)) → s ≡ sections_ok xs
    → (leb (layout.own_present xs) 1 && leb (layout.timers_scheduled xs) 1 && leb (layout.refill_kind xs) 2 && (eqb (layout.refill_kind xs) 1 || eqb (layout.refill_requests xs) 0)
    && o && (eqb (layout.own_present xs) 1 || eqb (layout.own_len xs) 0) && s)
    ≡ packed_ok xs
unfolding packed_ok
packed_is xs w l o s e f =
    let z : packed_ok xs ≡ (formed xs && (valid_data (own_at xs) && sections_ok xs)) = rw (eq-eqb (length xs) layout.words l) in
    simp and_assoc (simp and_assoc at ((λ i. formed_is xs w i && (own_is xs o e i && f i)) ∙ sym z))
