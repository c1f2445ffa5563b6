-- The width rule: peers and counters are as wide as words are, and data is bytes, whatever the words are.
-- Assumes nothing.
use Prim.Native.Nat.{ℕ, zero, suc, ◌+◌, ◌%◌, ◌/◌, ◌≤◌, ◌<◌}
use mathlib.Core.Path.{◌≡◌, refl, sym, ap, ◌∙◌}
use mathlib.Core.Bool.{Bool, true, ◌&&◌, and-true, and_assoc}
use mathlib.Core.List.{List, [], ◌∷◌, ◌++◌, map}
use native.Mathlib.Omega.{arith}
use lib.ListN.{length, take, drop, get_or}
use lib.Dec.{leb, ltb}
use borrow.Author.Tests.{lt-ltb, ltb-true, le-leb}
use Rattle.base_lists.specs.Array.{pad}
use Rattle.base_lists.specs.Bytes.{le}
use Rattle.base_lists.specs.Maps.{keys, values}
use Rattle.base_lists.proofs.Choice.{by_choice, and_left, and_right}
use Rattle.base_lists.proofs.Tests.{both_true}
use Rattle.base_lists.proofs.Entries.{entries_values}
use Rattle.base_util.specs.Section.{part, items_at, section}
use Rattle.base_columns.specs.Columns.{words_end, word_bytes, rows, count_of, head_of, entries_at, numbers_at, ValidNumbers, data_map_at, ValidDataWords}
use Rattle.base_columns.proofs.Numbers.{number_keys}
use Rattle.base_columns.proofs.Data.{data_entries, data_keys}
use Rattle.base_peer.specs.Data.{Data, bytes_of}
use Rattle.base_peer.specs.Held.{fields_in}
use Rattle.base_peer.specs.Maps.{no_data, entry_bytes, ValidEntry}
use Rattle.spec_hyparview.specs.Rules.{all_under, lists_under, peer_lists, data_lists, width_rule}
use Rattle.spec_hyparview.specs.Station.{peers_end, bytes_end, top_counter, top_passes}
use Rattle.hyparview_state.specs.Layout as layout
use Rattle.hyparview_state.specs.Unpack.{own_at, station_of, unpack}
use Rattle.hyparview_rules.specs.Ok.{packed_ok}
use Rattle.hyparview_rules.proofs.Shape.{Shape, ok_shape}

-- ---- lists put together

module _ (n : ℕ) where
  pub under_append : (xs ys : List ℕ) → all_under n (xs ++ ys) ≡ (all_under n xs && all_under n ys)
  unfolding all_under
  under_append [] ys = refl
  under_append (x ∷ xs) ys = ap (λ (b : Bool). ltb x n && b) (under_append xs ys) ∙ sym (and_assoc (ltb x n) (all_under n xs) (all_under n ys))

  pub under_pad : (k : ℕ) (xs : List ℕ) → 0 < n → length xs ≤ k → all_under n (pad 0 k xs) ≡ all_under n xs
  unfolding all_under pad
  under_pad zero [] z h = refl
  under_pad zero (x ∷ xs) z h = absurd (omega arith)
  under_pad (suc k) [] z h = rw (lt-ltb 0 n z) (under_pad k [] z (omega arith))
  under_pad (suc k) (x ∷ xs) z h = ap (λ (b : Bool). ltb x n && b) (under_pad k xs z (omega arith))

  pub under_section : (k : ℕ) (xs : List ℕ) → k < n → length xs ≤ k → all_under n (section k xs) ≡ all_under n xs
  unfolding section all_under
  under_section k xs z h =
      under_append (pad 0 k xs) (length xs ∷ []) ∙ rw (lt-ltb (length xs) n (omega arith)) (and-true (all_under n (pad 0 k xs))) ∙ under_pad k xs (omega arith) h

  pub under_at : (xs : List ℕ) → 0 < n → all_under n xs ≡ true → (i : ℕ) → get_or xs i 0 < n
  unfolding all_under
  under_at [] z e i = z
  under_at (x ∷ xs) z e zero = ltb-true x n (and_left (ltb x n) _ e)
  under_at (x ∷ xs) z e (suc i) = under_at xs z (and_right (ltb x n) _ e) i

  take_under : (k : ℕ) (xs : List ℕ) → all_under n xs ≡ true → all_under n (take k xs) ≡ true
  unfolding all_under
  take_under zero xs e = refl
  take_under (suc k) [] e = refl
  take_under (suc k) (x ∷ xs) e = both_true (ltb x n) _ (and_left (ltb x n) _ e) (take_under k xs (and_right (ltb x n) _ e))

  drop_under : (k : ℕ) (xs : List ℕ) → all_under n xs ≡ true → all_under n (drop k xs) ≡ true
  unfolding all_under
  drop_under zero xs e = e
  drop_under (suc k) [] e = refl
  drop_under (suc k) (x ∷ xs) e = drop_under k xs (and_right (ltb x n) _ e)

  part_under : (a k : ℕ) (xs : List ℕ) → all_under n xs ≡ true → all_under n (part a k xs) ≡ true
  unfolding part
  part_under a k xs e = take_under k (drop a xs) (drop_under a xs e)

  -- ---- the peers of sets and maps

  set_under : (k : ℕ) (s : List ℕ) → all_under n s ≡ true → all_under n (items_at k s) ≡ true
  unfolding items_at
  set_under k s e = take_under (get_or s k 0) (part 0 k s) (part_under 0 k s e)

  numbers_under : (k : ℕ) (m : List ℕ) → ValidNumbers k m → all_under n m ≡ true → all_under n (keys (numbers_at k m)) ≡ true
  numbers_under k m v e = ap (all_under n) (number_keys k m v) ∙ take_under (get_or m (k + k) 0) (part 0 k m) (part_under 0 k m e)

  data_under : (k : ℕ) (m : List ℕ) → ValidDataWords k m → all_under n m ≡ true → all_under n (keys (data_map_at k m)) ≡ true
  unfolding head_of
  data_under k m v e = ap (all_under n) (data_keys k m v) ∙ take_under (count_of k m) (head_of k m) (part_under 0 (k + k) m e)

peers_under : (xs : List ℕ) → Shape xs → lists_under peers_end (peer_lists (unpack xs)) ≡ true
unfolding lists_under all_under unpack station_of
peers_under xs v =
    let e : all_under words_end xs ≡ true = v.wide in
    let within : (a k : ℕ) → all_under words_end (part a k xs) ≡ true = λ a k. part_under words_end a k xs e in
    both_true _ _ (both_true _ _ (lt-ltb (layout.me xs) peers_end (under_at words_end xs (omega arith) e layout.me_at)) refl)
    -- list by list, by tools/make/layout.py
    (both_true _ _ (set_under words_end layout.active_places (layout.active_part xs) (within _ _))
    (both_true _ _ (set_under words_end layout.passive_places (layout.passive_part xs) (within _ _))
    (both_true _ _ (set_under words_end layout.bootstrap_places (layout.bootstrap_part xs) (within _ _))
    (both_true _ _ (set_under words_end layout.recent_places (layout.recent_part xs) (within _ _))
    (both_true _ _ (numbers_under words_end layout.requests_places (layout.requests_part xs) v.sections.requests (within _ _))
    (both_true _ _ (numbers_under words_end layout.joins_places (layout.joins_part xs) v.sections.joins (within _ _))
    (both_true _ _ (data_under words_end layout.peer_data_places (layout.peer_data_part xs) v.sections.peer_data (within _ _))
    (both_true _ _ (set_under words_end layout.alive_places (layout.alive_part xs) (within _ _))
    (both_true _ _ (set_under words_end layout.refused_places (layout.refused_part xs) (within _ _))
    (both_true _ _ (set_under words_end layout.pins_places (layout.pins_part xs) (within _ _))
    refl))))))))))
    -- end

-- ---- data is bytes

le_under : (k x : ℕ) → all_under bytes_end (le k x) ≡ true
unfolding le all_under
le_under zero x = refl
le_under (suc k) x = both_true (ltb (x % 256) 256) _ (lt-ltb (x % 256) 256 (omega arith)) (le_under k (x / 256))

word_under : (l w x : ℕ) → all_under bytes_end (take l (word_bytes w x)) ≡ true
unfolding word_bytes
word_under l w x = take_under bytes_end l (le 8 w ++ le 8 x) (under_append bytes_end (le 8 w) (le 8 x) ∙ both_true _ _ (le_under 8 w) (le_under 8 x))

rows_under : (k : ℕ) (ls ws xs : List ℕ) → lists_under bytes_end (map entry_bytes (take k (rows ls ws xs))) ≡ true
unfolding lists_under rows
rows_under zero ls ws xs = refl
rows_under (suc k) [] ws xs = refl
rows_under (suc k) (l ∷ ls) [] xs = refl
rows_under (suc k) (l ∷ ls) (w ∷ ws) [] = refl
rows_under (suc k) (l ∷ ls) (w ∷ ws) (x ∷ xs) = both_true (all_under bytes_end (take l (word_bytes w x))) _ (word_under l w x) (rows_under k ls ws xs)

own_under : (xs : List ℕ) → all_under bytes_end (bytes_of (fields_in (own_at xs))) ≡ true
unfolding fields_in own_at bytes_of all_under
own_under xs = by_choice (λ (d : Data). all_under bytes_end (bytes_of d) ≡ true) _ (λ t. word_under (layout.own_len xs) (layout.own_low xs) (layout.own_high xs)) (λ t. refl)

held_under : (m : List ℕ) → ValidDataWords layout.peer_data_places m → lists_under bytes_end (values (data_map_at layout.peer_data_places m)) ≡ true
unfolding entries_at
held_under m v = ap (lists_under bytes_end) (entries_values no_data layout.peer_data_places entry_bytes ValidEntry _ _ _ _ (data_entries layout.peer_data_places m v)) ∙ rows_under (count_of layout.peer_data_places m) _ _ _

bytes_under : (xs : List ℕ) → Shape xs → lists_under bytes_end (data_lists (unpack xs)) ≡ true
unfolding lists_under unpack station_of
bytes_under xs v = both_true _ _ (own_under xs) (held_under _ v.sections.peer_data)

-- ---- the rule

pub width_is : (xs : List ℕ) → packed_ok xs ≡ true → (leb (layout.passes_alone xs) top_passes && leb (layout.passes_short xs) top_passes) ≡ width_rule (unpack xs)
unfolding width_rule unpack station_of
width_is xs e =
    let v = ok_shape xs e in
    let z : Bool = leb (layout.passes_alone xs) top_passes && leb (layout.passes_short xs) top_passes in
    let nr : leb (layout.next_neighbor_request xs) top_counter ≡ true = le-leb (layout.next_neighbor_request xs) top_counter (omega (arith, under_at words_end xs (omega arith) v.wide layout.next_neighbor_request_at)) in
    let nj : leb (layout.next_join xs) top_counter ≡ true = le-leb (layout.next_join xs) top_counter (omega (arith, under_at words_end xs (omega arith) v.wide layout.next_join_at)) in
    λ i. sym (peers_under xs v) i && (sym (bytes_under xs v) i && (sym nr i && (sym nj i && z)))
