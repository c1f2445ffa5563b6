-- How the code's tests are the rules of the definition, and which rules hold of all well formed words.
-- Assumes nothing.
use Prim.Native.Nat.{ℕ, zero, suc, ◌+◌, ◌-◌, ◌≤◌, ◌<◌, zero-le}
use mathlib.Core.Path.{◌≡◌, refl, sym, ap, ◌∙◌}
use mathlib.Core.Bool.{Bool, true, false, not, ◌&&◌, ◌||◌, and-true, and_assoc}
use mathlib.Core.List.{List, [], ◌∷◌, ◌++◌}
use native.Mathlib.Omega.{arith}
use lib.ListN.{length, take, drop, get_or}
use lib.Seq.{take-take}
use lib.Dec.{leb, leb-zero, ltb, eqb}
use borrow.Author.Tests.{le-leb, lt-leb, ltb-true, ltb-false, eqb-true, eqb-false, ne_eqb}
use Rattle.base_lists.specs.Lists.{mem, choose, distinct, rising, subset, disjoint}
use Rattle.base_lists.specs.Maps.{keys, values, has}
use Rattle.base_lists.specs.Tests.{All}
use Rattle.base_lists.proofs.Choice.{split, or_true, and_right}
use Rattle.base_lists.proofs.Tests.{both_true, and_no, true_rising, all_map}
use Rattle.base_lists.proofs.Entries.{entries_values}
use Rattle.base_util.specs.Section.{part, items_at}
use Rattle.base_util.proofs.Parts.{part_read}
use Rattle.base_util.proofs.Sets.{lent}
use Rattle.base_columns.specs.Columns.{numbers_at, data_map_at, entries_at, count_of, ValidDataWords}
use Rattle.base_columns.proofs.Data.{data_entries}
use Rattle.base_timing.specs.Timing.{within, in_range, most_active, most_passive, longest_walk, most_shuffle_active, most_shuffle_passive, longest_time, max_requests_per_refill}
use Rattle.base_peer.specs.Held.{DataFields, fields_in, ValidData}
use Rattle.base_peer.specs.Maps.{no_data, entry_bytes, ValidEntry}
use Rattle.base_peer.proofs.Data.{length_field}
use Rattle.base_peer.proofs.Maps.{length_entry}
use Rattle.spec_hyparview.specs.Rules.{all_short, short_data, limit_ok, settings_rule, repeats_rule, order_rule, capacity_rule, views_rule, alive_rule, few_rule, joins_rule, numbers_rule, self_rule, room_rule, data_rule, limit_rule, interval_rule, width_rule, held_rule, rules, station_ok, pins_rule}
use Rattle.spec_hyparview.specs.Rules as R
use Rattle.spec_hyparview.specs.Station.{Station, max_data_length, top_passes, most_pins, data_peers}
use Rattle.hyparview_state.specs.Layout as layout
use Rattle.hyparview_state.specs.Unpack.{settings_at, limit_at, limit_formed, refill_in, station_of, unpack}
use Rattle.hyparview_state.proofs.Memory.{two_limit}
use Rattle.hyparview_state.proofs.Access.{count_active, count_passive, count_pins}
use Rattle.hyparview_rules.specs.Ok.{packed_ok, view_rules, state_ok}
use Rattle.hyparview_rules.proofs.Shape.{ok_shape, ok_active, ok_passive, ok_alive, ok_bootstrap, ok_joins, ok_pins}
use Rattle.hyparview_rules.proofs.Under.{peers_lent}
use Rattle.hyparview_rules.proofs.Widths.{width_is}

-- ---- a rule's tests

-- of numbers that may be 0 the code tests the top alone
pub settings_are : (xs : List ℕ)
    → (leb 1 (layout.active_view_capacity xs) && leb (layout.active_view_capacity xs) most_active && leb 1 (layout.passive_view_capacity xs) && leb (layout.passive_view_capacity xs) most_passive
    && leb (layout.active_random_walk_length xs) longest_walk && leb (layout.passive_random_walk_length xs) longest_walk && leb (layout.shuffle_random_walk_length xs) longest_walk
    && leb (layout.shuffle_active_view_count xs) most_shuffle_active && leb (layout.shuffle_passive_view_count xs) most_shuffle_passive
    && leb 1 (layout.shuffle_interval xs) && leb (layout.shuffle_interval xs) longest_time && leb 1 (layout.neighbor_request_timeout xs) && leb (layout.neighbor_request_timeout xs) longest_time)
    ≡ settings_rule (unpack xs)
unfolding settings_rule unpack station_of settings_at in_range within
settings_are xs = simp (and_assoc, leb-zero)

module _ (xs : List ℕ) (e : packed_ok xs ≡ true) where
  -- the maps rise
  pub order_is : (a b c : Bool) → a ≡ rising (items_at layout.alive_places (layout.alive_part xs)) → b ≡ rising (items_at layout.refused_places (layout.refused_part xs)) → c ≡ rising (items_at layout.pins_places (layout.pins_part xs)) → (a && b && c) ≡ order_rule (unpack xs)
  unfolding order_rule unpack station_of
  order_is a b c p q k =
      let v = ok_shape xs e in
      and_assoc a b c ∙ (λ i. p i && (q i && k i))
      ∙ sym (rw (true_rising _ v.sections.requests.rises, true_rising _ v.sections.joins.rises, true_rising _ v.sections.peer_data.rises) refl)

  capacity_is : (leb (get_or xs layout.active_count 0) (layout.active_view_capacity xs) && leb (get_or xs layout.passive_count 0) (layout.passive_view_capacity xs)) ≡ capacity_rule (unpack xs)
  unfolding capacity_rule unpack station_of settings_at
  capacity_is = sym (rw (count_active xs (ok_active xs e), count_passive xs (ok_passive xs e)) refl)

pub repeats_is : (xs : List ℕ) (a b c d : Bool) → a ≡ distinct (items_at layout.active_places (layout.active_part xs)) → b ≡ distinct (items_at layout.passive_places (layout.passive_part xs)) → c ≡ distinct (items_at layout.bootstrap_places (layout.bootstrap_part xs))
    → d ≡ distinct (items_at layout.recent_places (layout.recent_part xs)) → (a && b && c && d) ≡ repeats_rule (unpack xs)
unfolding repeats_rule unpack station_of
repeats_is xs a b c d p q r s = let e : (a && b && c && d) ≡ (a && (b && (c && d))) = simp and_assoc in e ∙ (λ i. p i && (q i && (r i && s i)))

-- ---- the lists, as the code lends them

-- a section's words in use, the count read where it stands
count_lent : (a k n : ℕ) (xs : List ℕ) → n < k → get_or (part a k xs) n 0 ≤ n → part a (a + get_or xs (a + n) 0 - a) xs ≡ take (get_or (part a k xs) n 0) (part a k xs)
unfolding part
count_lent a k n xs h f =
    let z : a + get_or xs (a + n) 0 - a ≡ get_or (part a k xs) n 0 = omega (arith, part_read a k n xs h) in
    ap (λ (j : ℕ). take j (drop a xs)) z ∙ sym (take-take (get_or (part a k xs) n 0) k (drop a xs) (omega arith))

module _ (xs : List ℕ) (e : packed_ok xs ≡ true) where
  pub few_joins : get_or xs layout.joins_count 0 ≤ layout.joins_places
  few_joins = omega (arith, part_read layout.joins_at layout.joins_size (layout.joins_places + layout.joins_places) xs (omega arith), (ok_joins xs e).fits)

  pub few_bootstrap : get_or xs layout.bootstrap_count 0 ≤ layout.bootstrap_places
  few_bootstrap = omega (arith, part_read layout.bootstrap_at layout.bootstrap_size layout.bootstrap_places xs (omega arith), (ok_bootstrap xs e).fits)

  pub few_active : get_or xs layout.active_count 0 ≤ layout.active_places
  few_active = omega (arith, part_read layout.active_at layout.active_size layout.active_places xs (omega arith), (ok_active xs e).fits)

  pub few_passive : get_or xs layout.passive_count 0 ≤ layout.passive_places
  few_passive = omega (arith, part_read layout.passive_at layout.passive_size layout.passive_places xs (omega arith), (ok_passive xs e).fits)

  pub few_alive : get_or xs layout.alive_count 0 ≤ layout.alive_places
  few_alive = omega (arith, part_read layout.alive_at layout.alive_size layout.alive_places xs (omega arith), (ok_alive xs e).fits)

  active_lent : part layout.active_at (layout.active_at + get_or xs layout.active_count 0 - layout.active_at) xs ≡ items_at layout.active_places (layout.active_part xs)
  active_lent = count_lent layout.active_at layout.active_size layout.active_places xs (omega arith) (ok_active xs e).fits ∙ lent layout.active_places _ (ok_active xs e)

  passive_lent : part layout.passive_at (layout.passive_at + get_or xs layout.passive_count 0 - layout.passive_at) xs ≡ items_at layout.passive_places (layout.passive_part xs)
  passive_lent = count_lent layout.passive_at layout.passive_size layout.passive_places xs (omega arith) (ok_passive xs e).fits ∙ lent layout.passive_places _ (ok_passive xs e)

  alive_lent : part layout.alive_at (layout.alive_at + get_or xs layout.alive_count 0 - layout.alive_at) xs ≡ items_at layout.alive_places (layout.alive_part xs)
  alive_lent = count_lent layout.alive_at layout.alive_size layout.alive_places xs (omega arith) (ok_alive xs e).fits ∙ lent layout.alive_places _ (ok_alive xs e)

  views_is : (a b c : Bool) → a ≡ disjoint (part layout.active_at (layout.active_at + get_or xs layout.active_count 0 - layout.active_at) xs) (part layout.passive_at (layout.passive_at + get_or xs layout.passive_count 0 - layout.passive_at) xs) → b ≡ mem (layout.me xs) (part layout.active_at (layout.active_at + get_or xs layout.active_count 0 - layout.active_at) xs) → c ≡ mem (layout.me xs) (part layout.passive_at (layout.passive_at + get_or xs layout.passive_count 0 - layout.passive_at) xs)
      → ((a && not b) && not c) ≡ views_rule (unpack xs)
  unfolding views_rule unpack station_of
  views_is a b c p q r =
      and_assoc a (not b) (not c)
      ∙ (λ i. (p ∙ (λ j. disjoint (active_lent j) (passive_lent j))) i && (not ((q ∙ ap (mem (layout.me xs)) active_lent) i) && not ((r ∙ ap (mem (layout.me xs)) passive_lent) i)))

  alive_is : (d : Bool) → d ≡ subset (part layout.alive_at (layout.alive_at + get_or xs layout.alive_count 0 - layout.alive_at) xs) (part layout.passive_at (layout.passive_at + get_or xs layout.passive_count 0 - layout.passive_at) xs) → d ≡ alive_rule (unpack xs)
  unfolding alive_rule unpack station_of
  alive_is d p = p ∙ (λ j. subset (alive_lent j) (passive_lent j))

  held_is : (k : Bool) → k ≡ subset (keys (data_map_at layout.peer_data_places (layout.peer_data_part xs))) (items_at layout.active_places (layout.active_part xs) ++ (items_at layout.passive_places (layout.passive_part xs) ++ keys (numbers_at layout.requests_places (layout.requests_part xs)))) → k ≡ held_rule (unpack xs)
  unfolding held_rule unpack station_of data_peers
  held_is k p = p

  pub views_are : (a b c d k : Bool) → a ≡ disjoint (part layout.active_at (layout.active_at + get_or xs layout.active_count 0 - layout.active_at) xs) (part layout.passive_at (layout.passive_at + get_or xs layout.passive_count 0 - layout.passive_at) xs) → b ≡ mem (layout.me xs) (part layout.active_at (layout.active_at + get_or xs layout.active_count 0 - layout.active_at) xs) → c ≡ mem (layout.me xs) (part layout.passive_at (layout.passive_at + get_or xs layout.passive_count 0 - layout.passive_at) xs)
      → d ≡ subset (part layout.alive_at (layout.alive_at + get_or xs layout.alive_count 0 - layout.alive_at) xs) (part layout.passive_at (layout.passive_at + get_or xs layout.passive_count 0 - layout.passive_at) xs) → k ≡ subset (keys (data_map_at layout.peer_data_places (layout.peer_data_part xs))) (items_at layout.active_places (layout.active_part xs) ++ (items_at layout.passive_places (layout.passive_part xs) ++ keys (numbers_at layout.requests_places (layout.requests_part xs))))
      → ((((a && not b) && not c) && d) && k) ≡ view_rules (unpack xs)
  views_are a b c d k p q r s t =
      and_assoc ((a && not b) && not c) d k ∙ (λ i. views_is a b c p q r i && (alive_is d s i && held_is k t i))

  joins_lent : part layout.joins_at (layout.joins_at + get_or xs layout.joins_count 0 - layout.joins_at) xs ≡ keys (numbers_at layout.joins_places (layout.joins_part xs))
  joins_lent = count_lent layout.joins_at layout.joins_size (layout.joins_places + layout.joins_places) xs (omega arith) (omega (arith, (ok_joins xs e).fits)) ∙ peers_lent layout.joins_places _ (ok_joins xs e)

  pub none_joined : get_or xs layout.joins_count 0 ≡ 0 → true ≡ joins_rule (unpack xs)
  unfolding joins_rule unpack station_of part subset disjoint has mem
  none_joined z =
      let n : 0 ≡ layout.joins_at + get_or xs layout.joins_count 0 - layout.joins_at = omega arith in
      ap (λ (l : List ℕ). subset l (items_at layout.bootstrap_places (layout.bootstrap_part xs)) && (disjoint l (items_at layout.active_places (layout.active_part xs)) && not (mem (layout.me xs) l))) (ap (λ (j : ℕ). take j (drop layout.joins_at xs)) n ∙ joins_lent)

  pub joins_are : (a b c : Bool) → a ≡ subset (part layout.joins_at (layout.joins_at + get_or xs layout.joins_count 0 - layout.joins_at) xs) (part layout.bootstrap_at (layout.bootstrap_at + get_or xs layout.bootstrap_count 0 - layout.bootstrap_at) xs) → b ≡ disjoint (part layout.joins_at (layout.joins_at + get_or xs layout.joins_count 0 - layout.joins_at) xs) (part layout.active_at (layout.active_at + get_or xs layout.active_count 0 - layout.active_at) xs)
      → c ≡ mem (layout.me xs) (part layout.joins_at (layout.joins_at + get_or xs layout.joins_count 0 - layout.joins_at) xs) → (a && b && not c) ≡ joins_rule (unpack xs)
  unfolding joins_rule unpack station_of has
  joins_are a b c p q r =
      let boot = count_lent layout.bootstrap_at layout.bootstrap_size layout.bootstrap_places xs (omega arith) (ok_bootstrap xs e).fits ∙ lent layout.bootstrap_places _ (ok_bootstrap xs e) in
      and_assoc a b (not c)
      ∙ (λ i. (p ∙ (λ j. subset (joins_lent j) (boot j))) i && ((q ∙ (λ j. disjoint (joins_lent j) (active_lent j))) i && not ((r ∙ ap (mem (layout.me xs)) joins_lent) i)))

-- ---- the pins: fewer than the active view may have, where there are any

few_pins : (n c : ℕ) → (eqb n 0 || ltb n c) ≡ leb n (c - 1)
few_pins zero c = sym (le-leb 0 (c - 1) zero-le)
few_pins (suc n) c =
    let some : eqb (suc n) 0 ≡ false = ne_eqb (suc n) 0 (λ e. omega (arith, e)) in
    split (ltb (suc n) c) (λ t. rw (some, t) (sym (le-leb (suc n) (c - 1) (omega (arith, ltb-true (suc n) c t)))))
    (λ t. rw (some, t) (sym (lt-leb (suc n) (c - 1) (omega (arith, ltb-false (suc n) c t)))))

module _ (xs : List ℕ) (e : packed_ok xs ≡ true) where
  pub few_pinned : get_or xs layout.pins_count 0 ≤ layout.pins_places
  few_pinned = omega (arith, part_read layout.pins_at layout.pins_size layout.pins_places xs (omega arith), (ok_pins xs e).fits)

  pins_lent : part layout.pins_at (layout.pins_at + get_or xs layout.pins_count 0 - layout.pins_at) xs ≡ items_at layout.pins_places (layout.pins_part xs)
  pins_lent = count_lent layout.pins_at layout.pins_size layout.pins_places xs (omega arith) (ok_pins xs e).fits ∙ lent layout.pins_places _ (ok_pins xs e)

  pub pins_are : (a : Bool) → a ≡ subset (part layout.pins_at (layout.pins_at + get_or xs layout.pins_count 0 - layout.pins_at) xs) (part layout.active_at (layout.active_at + get_or xs layout.active_count 0 - layout.active_at) xs)
      → (a && (eqb (get_or xs layout.pins_count 0) 0 || ltb (get_or xs layout.pins_count 0) (layout.active_view_capacity xs))) ≡ pins_rule (unpack xs)
  unfolding pins_rule most_pins unpack station_of settings_at
  pins_are a p =
      (λ i. (p ∙ (λ j. subset (pins_lent j) (active_lent xs e j))) i && few_pins (get_or xs layout.pins_count 0) (layout.active_view_capacity xs) i)
      ∙ ap (λ (n : ℕ). subset (items_at layout.pins_places (layout.pins_part xs)) (items_at layout.active_places (layout.active_part xs)) && leb n (layout.active_view_capacity xs - 1)) (sym (count_pins xs (ok_pins xs e)))

-- ---- the limit

module _ (k n : ℕ) (f : limit_formed k n ≡ true) where
  none_left : (eqb k 1 ≡ true → ⊥) → leb n max_requests_per_refill ≡ true
  unfolding limit_formed
  none_left other = or_true (eqb k 1) (eqb n 0) (and_right (leb k 2) _ f) (λ o. absurd (other o)) (λ z. le-leb n max_requests_per_refill (omega (arith, eqb-true n 0 z)))

  limited : leb n max_requests_per_refill ≡ limit_ok (refill_in (two_limit k n))
  unfolding limit_ok refill_in choose
  limited =
      split (eqb k 0) (λ z. rw z (none_left (λ o. omega (arith, eqb-true k 0 z, eqb-true k 1 o))))
      (λ z. rw z (split (eqb k 1) (λ o. rw o) (λ o. rw o (none_left (λ t. omega (arith, eqb-true k 1 t, eqb-false k 1 o))))))

limit_is : (xs : List ℕ) → packed_ok xs ≡ true → leb (layout.refill_requests xs) max_requests_per_refill ≡ limit_rule (unpack xs)
unfolding limit_rule unpack station_of limit_at
limit_is xs e = limited (layout.refill_kind xs) (layout.refill_requests xs) (ok_shape xs e).limit

interval_is : (xs : List ℕ) → (leb 1 (layout.next_shuffle_interval xs) && leb (layout.next_shuffle_interval xs) (layout.shuffle_interval xs)) ≡ interval_rule (unpack xs)
unfolding interval_rule unpack station_of settings_at within
interval_is xs = refl

self_is : (xs : List ℕ) (b : Bool) → b ≡ has (layout.me xs) (data_map_at layout.peer_data_places (layout.peer_data_part xs)) → not b ≡ self_rule (unpack xs)
unfolding self_rule unpack station_of
self_is xs b p = λ i. not (p i)

-- ---- what well formed words keep anyway

module _ (xs : List ℕ) (e : packed_ok xs ≡ true) where
  -- no more entries than places
  pub room_held : room_rule (unpack xs) ≡ true
  unfolding room_rule unpack station_of
  room_held =
      let v = ok_shape xs e in
      both_true _ _ (le-leb (length (numbers_at layout.requests_places (layout.requests_part xs))) layout.requests_places (omega (arith, v.sections.requests.counted, v.sections.requests.fits)))
      (both_true _ _ (le-leb (length (items_at layout.refused_places (layout.refused_part xs))) layout.refused_places (omega (arith, v.sections.refused.counted, v.sections.refused.fits)))
      (le-leb (length (data_map_at layout.peer_data_places (layout.peer_data_part xs))) layout.peer_data_places (omega (arith, v.sections.peer_data.counted, v.sections.peer_data.fits))))

  pub few_held : few_rule (unpack xs) ≡ true
  unfolding few_rule unpack station_of
  few_held =
      let v = ok_shape xs e in
      both_true _ _ (le-leb (length (items_at layout.bootstrap_places (layout.bootstrap_part xs))) layout.bootstrap_places (omega (arith, v.sections.bootstrap.counted, v.sections.bootstrap.fits)))
      (le-leb (length (items_at layout.recent_places (layout.recent_part xs))) layout.recent_places (omega (arith, v.sections.recent.counted, v.sections.recent.fits)))

values_short : (m : List (ℕ × List ℕ)) → All (λ (b : List ℕ). length b ≤ max_data_length) (values m) → all_short m ≡ true
unfolding all_short All values
values_short [] a = refl
values_short (x ∷ m) a = both_true (leb (length x.1) max_data_length) _ (le-leb (length x.1) max_data_length a.0) (values_short m a.1)

data_short : (m : List ℕ) → ValidDataWords layout.peer_data_places m → All (λ (b : List ℕ). length b ≤ max_data_length) (values (data_map_at layout.peer_data_places m))
data_short m v =
    rw (entries_values no_data layout.peer_data_places entry_bytes ValidEntry _ _ _ _ (data_entries layout.peer_data_places m v))
    (all_map ValidEntry (λ (b : List ℕ). length b ≤ max_data_length) entry_bytes (λ x h. omega (arith, length_entry x h, h.fits)) (take (count_of layout.peer_data_places m) (entries_at layout.peer_data_places m)) v.each)

own_short : (d : DataFields) → ValidData d → short_data (fields_in d) ≡ true
unfolding short_data fields_in choose
own_short d v =
    split d.present (λ t. rw t (le-leb (length (take d.len d.bytes)) max_data_length (omega (arith, length_field d v, v.fits)))) (λ t. rw t)

-- data have at most 16 bytes
pub data_held : (xs : List ℕ) → packed_ok xs ≡ true → data_rule (unpack xs) ≡ true
unfolding data_rule unpack station_of
data_held xs e = both_true _ _ (values_short _ (data_short _ (ok_shape xs e).sections.peer_data)) (own_short _ (ok_shape xs e).own_data)

-- ---- the rules together

-- words of another length are no state, and those that are not well formed neither
module _ (xs : List ℕ) where
  pub other_length : (length xs ≡ layout.words → ⊥) → state_ok xs ≡ false
  unfolding state_ok packed_ok
  other_length n = rw (ne_eqb (length xs) layout.words n) refl

  pub unpacked : (ys : List ℕ) → ys ≡ xs → (b : Bool) → b ≡ packed_ok ys → b ≡ false → state_ok xs ≡ false
  unfolding state_ok
  unpacked ys s b e n = let z : packed_ok xs ≡ false = ap packed_ok (sym s) ∙ sym e ∙ n in rw z refl

-- three tests that stand behind the others
behind : (v m r h : Bool) → (v && (m && (r && h))) ≡ (r && (v && (m && h)))
behind true true r h = refl
behind true false r h = sym (and_no r)
behind false m r h = sym (and_no r)

-- three rules are left out where they hold
pub rules_left : (g : Station) → few_rule g ≡ true → room_rule g ≡ true → data_rule g ≡ true
    → station_ok g ≡ (settings_rule g && (repeats_rule g && (order_rule g && (capacity_rule g && (views_rule g && (alive_rule g && (joins_rule g && (numbers_rule g && (self_rule g && (limit_rule g && (interval_rule g && (width_rule g && (held_rule g && pins_rule g)))))))))))))
unfolding station_ok rules R.all_hold
rules_left g f a b = rw (f, a, b, and-true (pins_rule g))

-- the rules on the views come last
rules_last : (g : Station) → (settings_rule g && (repeats_rule g && (order_rule g && (capacity_rule g && (views_rule g && (alive_rule g && (joins_rule g && (numbers_rule g && (self_rule g && (limit_rule g && (interval_rule g && (width_rule g && (held_rule g && pins_rule g)))))))))))))
    ≡ (settings_rule g && (repeats_rule g && (order_rule g && (capacity_rule g && ((joins_rule g && (numbers_rule g && (self_rule g && (limit_rule g && (interval_rule g && width_rule g))))) && (views_rule g && (alive_rule g && (held_rule g && pins_rule g))))))))
rules_last g =
    ap (λ (b : Bool). settings_rule g && (repeats_rule g && (order_rule g && (capacity_rule g && b))))
    (ap (λ (b : Bool). views_rule g && (alive_rule g && b)) (sym (simp and_assoc)) ∙ behind (views_rule g) (alive_rule g) (joins_rule g && (numbers_rule g && (self_rule g && (limit_rule g && (interval_rule g && width_rule g))))) (held_rule g && pins_rule g))

-- the rules on views and the one on pins, in one line
ends : (g : Station) → (settings_rule g && (repeats_rule g && (order_rule g && (capacity_rule g && ((joins_rule g && (numbers_rule g && (self_rule g && (limit_rule g && (interval_rule g && width_rule g))))) && (view_rules g && pins_rule g))))))
    ≡ (settings_rule g && (repeats_rule g && (order_rule g && (capacity_rule g && ((joins_rule g && (numbers_rule g && (self_rule g && (limit_rule g && (interval_rule g && width_rule g))))) && (views_rule g && (alive_rule g && (held_rule g && pins_rule g))))))))
ends g = simp and_assoc

rules_are : (xs : List ℕ) → packed_ok xs ≡ true → (a b c d g h k l m n v w : Bool) → a ≡ settings_rule (unpack xs) → b ≡ repeats_rule (unpack xs) → c ≡ order_rule (unpack xs) → d ≡ capacity_rule (unpack xs)
    → g ≡ joins_rule (unpack xs) → h ≡ numbers_rule (unpack xs) → k ≡ self_rule (unpack xs) → l ≡ limit_rule (unpack xs)
    → m ≡ interval_rule (unpack xs) → n ≡ width_rule (unpack xs) → v ≡ view_rules (unpack xs) → w ≡ pins_rule (unpack xs)
    → (a && (b && (c && (d && ((g && (h && (k && (l && (m && n))))) && (v && w)))))) ≡ station_ok (unpack xs)
rules_are xs t a b c d g h k l m n v w p₁ p₂ p₃ p₄ p₅ p₆ p₇ p₈ p₉ p₁₀ p₁₁ p₁₂ =
    (λ i. p₁ i && (p₂ i && (p₃ i && (p₄ i && ((p₅ i && (p₆ i && (p₇ i && (p₈ i && (p₉ i && p₁₀ i))))) && (p₁₁ i && p₁₂ i))))))
    ∙ ends (unpack xs)
    ∙ sym (rules_left (unpack xs) (few_held xs t) (room_held xs t) (data_held xs t) ∙ rules_last (unpack xs))

-- the tests one after another, as the code has them
pub tests_are : (xs : List ℕ) → packed_ok xs ≡ true → (s r o j n h v w : Bool) → s ≡ settings_rule (unpack xs) → r ≡ repeats_rule (unpack xs) → o ≡ order_rule (unpack xs)
    → j ≡ joins_rule (unpack xs) → n ≡ numbers_rule (unpack xs) → h ≡ has (layout.me xs) (data_map_at layout.peer_data_places (layout.peer_data_part xs)) → v ≡ view_rules (unpack xs) → w ≡ pins_rule (unpack xs)
    → (s && r && o && leb (get_or xs layout.active_count 0) (layout.active_view_capacity xs) && leb (get_or xs layout.passive_count 0) (layout.passive_view_capacity xs) && j && n && not h
    && leb (layout.refill_requests xs) max_requests_per_refill && leb 1 (layout.next_shuffle_interval xs) && leb (layout.next_shuffle_interval xs) (layout.shuffle_interval xs)
    && leb (layout.passes_alone xs) top_passes && leb (layout.passes_short xs) top_passes && v && w)
    ≡ state_ok xs
unfolding state_ok
tests_are xs t s r o j n h v w e₁ e₂ e₃ e₄ e₅ e₆ e₇ e₈ =
    rw t (simp and_assoc (simp and_assoc at (rules_are xs t _ _ _ _ _ _ _ _ _ _ _ _ e₁ e₂ e₃ (capacity_is xs t) e₄ e₅ (self_is xs h e₆) (limit_is xs t) (interval_is xs) (width_is xs t) e₇ e₈)))
