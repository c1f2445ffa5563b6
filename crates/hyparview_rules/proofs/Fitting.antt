-- A station that keeps the rules is packed into words that pass the test, and comes out of them again.
-- Assumes nothing.
use Prim.Native.Nat.{ℕ, ◌≤◌, ◌<◌, zero-le, ◌-◌}
use mathlib.Core.Path.{◌≡◌, refl, sym, ap, ◌∙◌, subst}
use mathlib.Core.Bool.{Bool, true, false, ◌&&◌}
use mathlib.Core.List.{List, [], ◌∷◌, ◌++◌, map}
use mathlib.Core.Option.{none, some}
use native.Mathlib.Omega.{arith}
use lib.ListN.{length}
use lib.Dec.{eqb, leb, ltb}
use borrow.Author.Tests.{leb-true, lt-ltb, ltb-true}
use Rattle.base_lists.specs.Array.{pad}
use Rattle.base_lists.specs.Lists.{mem, choose, without, Above, Rising, rising, subset}
use Rattle.base_lists.specs.Maps.{keys, values}
use Rattle.base_lists.proofs.Array.{take_pad}
use Rattle.base_lists.proofs.Choice.{and_left, and_right}
use Rattle.base_lists.proofs.Count.{mem_true, length_without}
use Rattle.base_lists.proofs.Maps.{length_keys}
use Rattle.base_lists.proofs.Tests.{both_true, and_no, rising_true}
use Rattle.base_lists.proofs.Zip.{length_values}
use Rattle.base_lists.proofs.Members.{mem_without_other}
use Rattle.base_util.specs.Section.{items_at, section}
use Rattle.base_util.proofs.Sets.{section_holds}
use Rattle.base_columns.specs.Columns.{words_end, word_bytes, numbers_at, numbers_section, low_word, high_word, data_map_at, data_section}
use Rattle.base_peer.specs.Data.{Data, bytes_of}
use Rattle.base_peer.specs.Held.{DataFields, fields_in, ValidData}
use Rattle.base_peer.specs.Maps.{numbers_under}
use Rattle.base_peer.proofs.Data.{holds_some}
use Rattle.base_timing.specs.Timing.{within, in_range, max_bootstrap_peers, max_requests_per_refill}
use Rattle.base_timing.proofs.Ranges.{ranges}
use Rattle.spec_hyparview.specs.Station.{Station, Refill, automatic, requests_left, recovery, peers_end, bytes_end, most_pins, max_requests, max_refused, max_data_length}
use Rattle.spec_hyparview.specs.Rules.{short_data, all_short, all_under, lists_under, peer_lists, limit_ok, settings_rule, order_rule, capacity_rule, alive_rule, few_rule, joins_rule, numbers_rule, room_rule, data_rule, limit_rule, interval_rule, rules, station_ok, pins_rule}
use Rattle.spec_hyparview.specs.Rules as R
use Rattle.spec_hyparview.specs.Handle.{new_station, zero_config, zero_station}
use Rattle.hyparview_state.specs.Layout as layout
use Rattle.hyparview_state.specs.Layout.{Sections, sections, WellFormed}
use Rattle.hyparview_state.specs.Unpack.{own_at, settings_at, limit_at, limit_formed, refill_in, station_of, unpack}
use Rattle.hyparview_state.proofs.Memory.{bit_fits, bool_back, two_limit}
use Rattle.hyparview_rules.specs.Pack.{present_word, kind_word, requests_word, front, pack}
use Rattle.hyparview_rules.specs.Ok.{packed_ok, state_ok}
use Rattle.hyparview_rules.proofs.Under.{numbers_are}
use Rattle.hyparview_rules.proofs.Shape.{Shape, shape_ok}
use Rattle.hyparview_rules.proofs.Widths.{under_append, under_pad, under_section}
use Rattle.hyparview_rules.proofs.Packed.{Kept, ok_kept, wide_of}
use Rattle.hyparview_rules.proofs.Maps.{words_back, low_under, high_under, lengths, low_words, high_words, numbers_hold, data_hold}
use Rattle.hyparview_rules.proofs.Parts.{packed_sections, packed_long}

-- ---- a list that rises and is part of another is no longer

subset_without : (x : ℕ) (xs ys : List ℕ) → Above x xs → subset xs ys ≡ true → subset xs (without x ys) ≡ true
unfolding Above subset
subset_without x [] ys a h = refl
subset_without x (p ∷ xs) ys a h =
    both_true (mem p (without x ys)) _ (mem_without_other p x ys (λ e. omega (arith, a.0, e)) ∙ and_left (mem p ys) _ h)
    (subset_without x xs ys a.1 (and_right (mem p ys) _ h))

no_more : (xs ys : List ℕ) → Rising xs → subset xs ys ≡ true → length xs ≤ length ys
unfolding Rising subset
no_more [] ys r h = zero-le
no_more (x ∷ xs) ys r h =
    omega
    (arith, no_more xs (without x ys) r.1 (subset_without x xs ys r.0 (and_right (mem x ys) _ h)), length_without x ys, mem_true x ys (and_left (mem x ys) _ h))

-- ---- what a station that keeps the rules has room for

-- g has room in the sections, and its maps rise
pub record Fits (g : Station) : Type 0 where
  pub own_data : short_data g.own_data ≡ true
  pub own_bytes : all_under bytes_end (bytes_of g.own_data) ≡ true
  -- room in every section, and maps that rise, by tools/make/layout.py
  pub active : length g.active ≤ layout.active_places
  pub passive : length g.passive ≤ layout.passive_places
  pub alive : length g.alive ≤ layout.alive_places
  pub refused : length g.refused ≤ layout.refused_places
  pub requests : length g.requests ≤ layout.requests_places
  pub requests_rise : Rising (keys g.requests)
  pub bootstrap : length g.bootstrap ≤ layout.bootstrap_places
  pub recent : length g.recent ≤ layout.recent_places
  pub joins : length g.joins ≤ layout.joins_places
  pub joins_rise : Rising (keys g.joins)
  pub peer_data : length g.peer_data ≤ layout.peer_data_places
  pub peer_data_rise : Rising (keys g.peer_data)
  pub peer_data_short : all_short g.peer_data ≡ true
  pub peer_data_bytes : lists_under bytes_end (values g.peer_data) ≡ true
  pub pins : length g.pins ≤ layout.pins_places
  -- end

pub kept_fits : (g : Station) → Kept g → Fits g
unfolding settings_rule capacity_rule order_rule alive_rule few_rule joins_rule room_rule data_rule pins_rule most_pins lists_under
kept_fits g k =
    let o₁ = and_right (rising (keys g.requests)) _ k.order in
    let o₂ = and_right (rising (keys g.joins)) _ o₁ in
    let o₃ = and_right (rising (keys g.peer_data)) _ o₂ in
    let joins_rise = rising_true _ (and_left (rising (keys g.joins)) _ o₁) in
    let most = ranges g.config k.settings in
    let few = leb (length g.bootstrap) max_bootstrap_peers in
    let asked = leb (length g.requests) max_requests in
    let turned = leb (length g.refused) max_refused in
    let room = and_right asked _ k.room in
    let held = (wide_of g k.width).bytes in
    let active : length g.active ≤ g.config.active_view_capacity = leb-true _ _ (and_left (leb (length g.active) g.config.active_view_capacity) _ k.capacity) in
    let passive : length g.passive ≤ g.config.passive_view_capacity = leb-true _ _ (and_right (leb (length g.active) g.config.active_view_capacity) _ k.capacity) in
    let bootstrap : length g.bootstrap ≤ max_bootstrap_peers = leb-true _ _ (and_left few _ k.few) in
    let alive : length g.alive ≤ length g.passive = no_more g.alive g.passive (rising_true _ (and_left (rising g.alive) _ o₃)) k.alive in
    let pins : length g.pins ≤ g.config.active_view_capacity - 1 = leb-true _ _ (and_right (subset g.pins g.active) _ k.pins) in
    let joins : length (keys g.joins) ≤ length g.bootstrap = no_more (keys g.joins) g.bootstrap joins_rise (and_left (subset (keys g.joins) g.bootstrap) _ k.joins) in
    record {
      own_data = and_right (all_short g.peer_data) _ k.lengths;
      own_bytes = and_left (all_under bytes_end (bytes_of g.own_data)) _ held;
      active = omega (arith, active, most.active.most);
      passive = omega (arith, passive, most.passive.most);
      bootstrap = bootstrap;
      recent = leb-true _ _ (and_right few _ k.few);
      requests = leb-true _ _ (and_left asked _ k.room);
      requests_rise = rising_true _ (and_left (rising (keys g.requests)) _ k.order);
      joins = omega (arith, joins, bootstrap, length_keys g.joins);
      joins_rise = joins_rise;
      peer_data = leb-true _ _ (and_right turned _ room);
      peer_data_rise = rising_true _ (and_left (rising (keys g.peer_data)) _ o₂);
      peer_data_short = and_left (all_short g.peer_data) _ k.lengths;
      peer_data_bytes = and_right (all_under bytes_end (bytes_of g.own_data)) _ held;
      alive = omega (arith, alive, passive, most.passive.most);
      refused = leb-true _ _ (and_left turned _ room);
      pins = omega (arith, pins, most.active.most);
    }

-- ---- own data, the limit and the sections come out again

abbrev own_packed : Data → DataFields
own_packed d = record { present = eqb (present_word d) 1; len = length (bytes_of d); bytes = word_bytes (low_word (bytes_of d)) (high_word (bytes_of d)) }

short_bytes : (d : Data) → short_data d ≡ true → length (bytes_of d) ≤ max_data_length
unfolding short_data bytes_of
short_bytes none e = omega arith
short_bytes (some b) e = leb-true (length b) max_data_length e

module _ (d : Data) (e : short_data d ≡ true) (u : all_under bytes_end (bytes_of d) ≡ true) where
  own_words : own_packed d ≡ record { present = eqb (present_word d) 1; len = length (bytes_of d); bytes = pad 0 16 (bytes_of d) }
  own_words = λ i. record { present = eqb (present_word d) 1; len = length (bytes_of d); bytes = words_back (bytes_of d) (short_bytes d e) u i }

own_padded : (d : Data) → short_data d ≡ true → fields_in (record { present = eqb (present_word d) 1; len = length (bytes_of d); bytes = pad 0 16 (bytes_of d) }) ≡ d
unfolding fields_in present_word bytes_of short_data choose
own_padded none e = refl
own_padded (some b) e = ap some (take_pad 0 16 b (leb-true (length b) 16 e))

own_fine : (d : Data) → short_data d ≡ true → ValidData (record { present = eqb (present_word d) 1; len = length (bytes_of d); bytes = pad 0 16 (bytes_of d) })
unfolding present_word bytes_of short_data pad
own_fine none e = record { fits = omega arith; packed = refl; absent = λ t. refl }
own_fine (some b) e = (holds_some b (pad 0 16 b) (length b) refl refl (leb-true (length b) 16 e)).valid

limit_out : (r : Refill) → refill_in (two_limit (kind_word r) (requests_word r)) ≡ r
unfolding refill_in kind_word requests_word choose
limit_out automatic = refl
limit_out (requests_left n) = refl
limit_out recovery = refl

limit_fine : (r : Refill) → limit_formed (kind_word r) (requests_word r) ≡ true
unfolding limit_formed kind_word requests_word
limit_fine automatic = refl
limit_fine (requests_left n) = refl
limit_fine recovery = refl

present_fits : (d : Data) → present_word d ≤ 1
unfolding present_word
present_fits none = omega arith
present_fits (some b) = omega arith

-- the sections come out again, and are well formed, by tools/make/layout.py
module _ (g : Station) (v : Fits g) where
  active_out : items_at layout.active_places (layout.active_part (pack g)) ≡ g.active
  active_out = ap (λ (t : Sections). items_at layout.active_places t.active) (packed_sections g) ∙ (section_holds layout.active_places g.active v.active).items

  passive_out : items_at layout.passive_places (layout.passive_part (pack g)) ≡ g.passive
  passive_out = ap (λ (t : Sections). items_at layout.passive_places t.passive) (packed_sections g) ∙ (section_holds layout.passive_places g.passive v.passive).items

  alive_out : items_at layout.alive_places (layout.alive_part (pack g)) ≡ g.alive
  alive_out = ap (λ (t : Sections). items_at layout.alive_places t.alive) (packed_sections g) ∙ (section_holds layout.alive_places g.alive v.alive).items

  refused_out : items_at layout.refused_places (layout.refused_part (pack g)) ≡ g.refused
  refused_out = ap (λ (t : Sections). items_at layout.refused_places t.refused) (packed_sections g) ∙ (section_holds layout.refused_places g.refused v.refused).items

  requests_out : numbers_at layout.requests_places (layout.requests_part (pack g)) ≡ g.requests
  requests_out = ap (λ (t : Sections). numbers_at layout.requests_places t.requests) (packed_sections g) ∙ (numbers_hold layout.requests_places g.requests v.requests v.requests_rise).items

  bootstrap_out : items_at layout.bootstrap_places (layout.bootstrap_part (pack g)) ≡ g.bootstrap
  bootstrap_out = ap (λ (t : Sections). items_at layout.bootstrap_places t.bootstrap) (packed_sections g) ∙ (section_holds layout.bootstrap_places g.bootstrap v.bootstrap).items

  recent_out : items_at layout.recent_places (layout.recent_part (pack g)) ≡ g.recent
  recent_out = ap (λ (t : Sections). items_at layout.recent_places t.recent) (packed_sections g) ∙ (section_holds layout.recent_places g.recent v.recent).items

  joins_out : numbers_at layout.joins_places (layout.joins_part (pack g)) ≡ g.joins
  joins_out = ap (λ (t : Sections). numbers_at layout.joins_places t.joins) (packed_sections g) ∙ (numbers_hold layout.joins_places g.joins v.joins v.joins_rise).items

  peer_data_out : data_map_at layout.peer_data_places (layout.peer_data_part (pack g)) ≡ g.peer_data
  peer_data_out = ap (λ (t : Sections). data_map_at layout.peer_data_places t.peer_data) (packed_sections g) ∙ (data_hold layout.peer_data_places g.peer_data v.peer_data v.peer_data_rise v.peer_data_short v.peer_data_bytes).items

  pins_out : items_at layout.pins_places (layout.pins_part (pack g)) ≡ g.pins
  pins_out = ap (λ (t : Sections). items_at layout.pins_places t.pins) (packed_sections g) ∙ (section_holds layout.pins_places g.pins v.pins).items

  sections_formed : WellFormed (sections (pack g))
  sections_formed = subst WellFormed (sym (packed_sections g)) (record {
    active = (section_holds layout.active_places g.active v.active).valid;
    passive = (section_holds layout.passive_places g.passive v.passive).valid;
    alive = (section_holds layout.alive_places g.alive v.alive).valid;
    refused = (section_holds layout.refused_places g.refused v.refused).valid;
    requests = (numbers_hold layout.requests_places g.requests v.requests v.requests_rise).valid;
    bootstrap = (section_holds layout.bootstrap_places g.bootstrap v.bootstrap).valid;
    recent = (section_holds layout.recent_places g.recent v.recent).valid;
    joins = (numbers_hold layout.joins_places g.joins v.joins v.joins_rise).valid;
    peer_data = (data_hold layout.peer_data_places g.peer_data v.peer_data v.peer_data_rise v.peer_data_short v.peer_data_bytes).valid;
    pins = (section_holds layout.pins_places g.pins v.pins).valid;
  })

-- end

-- a station comes out of the words that it is packed into, by tools/make/layout.py
pub unpack_pack : (g : Station) → Fits g → unpack (pack g) ≡ g
unfolding unpack station_of pack front own_at settings_at limit_at
unpack_pack g v = λ i. record {
  me = g.me;
  own_data = (ap fields_in (own_words g.own_data v.own_data v.own_bytes) ∙ own_padded g.own_data v.own_data) i;
  active = active_out g v i;
  passive = passive_out g v i;
  config = g.config;
  scheduled = bool_back g.scheduled i;
  next_interval = g.next_interval;
  bootstrap = bootstrap_out g v i;
  passes_alone = g.passes_alone;
  passes_short = g.passes_short;
  recent = recent_out g v i;
  requests = requests_out g v i;
  next_request = g.next_request;
  joins = joins_out g v i;
  next_join = g.next_join;
  peer_data = peer_data_out g v i;
  alive = alive_out g v i;
  refused = refused_out g v i;
  refill = limit_out g.refill i;
  pins = pins_out g v i;
}

-- end

-- ---- every word has 64 bits

abbrev Fine : List ℕ → Type 0
Fine l = all_under words_end l ≡ true

more : (x : ℕ) (l : List ℕ) → x < words_end → Fine l → Fine (x ∷ l)
unfolding all_under
more x l h e = both_true (ltb x words_end) _ (lt-ltb x words_end h) e

no_words : Fine []
unfolding all_under
no_words = refl

both_fine : (a b : List ℕ) → Fine a → Fine b → Fine (a ++ b)
both_fine a b p q = under_append words_end a b ∙ both_true _ _ p q

peers_fine : (l : List ℕ) → all_under peers_end l ≡ true → Fine l
unfolding all_under
peers_fine [] e = refl
peers_fine (x ∷ l) e = more x l (omega (arith, ltb-true x peers_end (and_left (ltb x peers_end) _ e))) (peers_fine l (and_right (ltb x peers_end) _ e))

below_fine : (n : ℕ) (l : List ℕ) → n < words_end → all_under n l ≡ true → Fine l
unfolding all_under
below_fine n [] h e = refl
below_fine n (x ∷ l) h e = more x l (omega (arith, ltb-true x n (and_left (ltb x n) _ e))) (below_fine n l h (and_right (ltb x n) _ e))

set_fine : (n : ℕ) (l : List ℕ) → n < words_end → length l ≤ n → all_under peers_end l ≡ true → Fine (section n l)
set_fine n l h f e = under_section words_end n l h f ∙ peers_fine l e

column_fine : (n : ℕ) (l : List ℕ) → length l ≤ n → Fine l → Fine (pad 0 n l)
column_fine n l f e = under_pad words_end n l (omega arith) f ∙ e

numbers_fine : (n k : ℕ) (l : List (ℕ × ℕ)) → n < words_end → length l ≤ n → all_under peers_end (keys l) ≡ true → k < words_end → numbers_under k l ≡ true → Fine (numbers_section n l)
unfolding numbers_section
numbers_fine n k l h f e w u =
    both_fine _ _ (both_fine _ _ (column_fine n (keys l) (omega (arith, length_keys l)) (peers_fine (keys l) e))
    (column_fine n (values l) (omega (arith, length_values l)) (below_fine k (values l) w (sym (numbers_are k l) ∙ u))))
    (more (length l) [] (omega arith) no_words)

module _ (f : List ℕ → ℕ) (h : (b : List ℕ) → length b ≤ max_data_length → all_under bytes_end b ≡ true → f b < words_end) where
  mapped_fine : (l : List (ℕ × List ℕ)) → all_short l ≡ true → lists_under bytes_end (values l) ≡ true → Fine (map f (values l))
  unfolding values all_short lists_under
  mapped_fine [] s e = no_words
  mapped_fine (x ∷ l) s e =
      more (f x.1) (map f (values l)) (h x.1 (leb-true _ _ (and_left (leb (length x.1) max_data_length) _ s)) (and_left (all_under bytes_end x.1) _ e))
      (mapped_fine l (and_right (leb (length x.1) max_data_length) _ s) (and_right (all_under bytes_end x.1) _ e))

data_fine : (l : List (ℕ × List ℕ)) → length l ≤ layout.peer_data_places → all_under peers_end (keys l) ≡ true → all_short l ≡ true → lists_under bytes_end (values l) ≡ true → Fine (data_section layout.peer_data_places l)
unfolding data_section
data_fine l f e s u =
    let p : (k : List ℕ → ℕ) → length (map k (values l)) ≤ layout.peer_data_places = λ k. omega (arith, lib.ListN.length-map (values l) k, length_values l) in
    both_fine _ _ (both_fine _ _ (both_fine _ _ (both_fine _ _ (column_fine layout.peer_data_places (keys l) (omega (arith, length_keys l)) (peers_fine (keys l) e))
    (column_fine layout.peer_data_places (lengths l) (p length) (mapped_fine length (λ b h t. omega (arith, h)) l s u)))
    (column_fine layout.peer_data_places (low_words l) (p low_word) (mapped_fine low_word low_under l s u)))
    (column_fine layout.peer_data_places (high_words l) (p high_word) (mapped_fine high_word high_under l s u)))
    (more (length l) [] (omega arith) no_words)

kind_fits : (r : Refill) → kind_word r ≤ 2
unfolding kind_word
kind_fits automatic = omega arith
kind_fits (requests_left n) = omega arith
kind_fits recovery = omega arith

requests_fit : (r : Refill) → limit_ok r ≡ true → requests_word r ≤ max_requests_per_refill
unfolding requests_word limit_ok
requests_fit automatic e = omega arith
requests_fit (requests_left n) e = leb-true n max_requests_per_refill e
requests_fit recovery e = omega arith

-- the peers, list by list, by tools/make/layout.py
record Narrow (g : Station) : Type 0 where
  me : g.me < peers_end
  active : all_under peers_end g.active ≡ true
  passive : all_under peers_end g.passive ≡ true
  bootstrap : all_under peers_end g.bootstrap ≡ true
  recent : all_under peers_end g.recent ≡ true
  requests : all_under peers_end (keys g.requests) ≡ true
  joins : all_under peers_end (keys g.joins) ≡ true
  peer_data : all_under peers_end (keys g.peer_data) ≡ true
  alive : all_under peers_end g.alive ≡ true
  refused : all_under peers_end g.refused ≡ true
  pins : all_under peers_end g.pins ≡ true

narrow : (g : Station) → lists_under peers_end (peer_lists g) ≡ true → Narrow g
unfolding lists_under all_under
narrow g e =
    let u : List ℕ → Bool = all_under peers_end in
    let m = ltb g.me peers_end in
    let e0 = and_right (m && true) _ e in
    let e1 = and_right (u g.active) _ e0 in
    let e2 = and_right (u g.passive) _ e1 in
    let e3 = and_right (u g.bootstrap) _ e2 in
    let e4 = and_right (u g.recent) _ e3 in
    let e5 = and_right (u (keys g.requests)) _ e4 in
    let e6 = and_right (u (keys g.joins)) _ e5 in
    let e7 = and_right (u (keys g.peer_data)) _ e6 in
    let e8 = and_right (u g.alive) _ e7 in
    let e9 = and_right (u g.refused) _ e8 in
    record {
      me = ltb-true g.me peers_end (and_left m true (and_left (m && true) _ e));
      active = and_left (u g.active) _ e0;
      passive = and_left (u g.passive) _ e1;
      bootstrap = and_left (u g.bootstrap) _ e2;
      recent = and_left (u g.recent) _ e3;
      requests = and_left (u (keys g.requests)) _ e4;
      joins = and_left (u (keys g.joins)) _ e5;
      peer_data = and_left (u (keys g.peer_data)) _ e6;
      alive = and_left (u g.alive) _ e7;
      refused = and_left (u g.refused) _ e8;
      pins = and_left (u g.pins) _ e9;
    }

-- end

module _ (g : Station) (k : Kept g) (v : Fits g) where
  front_fine : Fine (front g)
  unfolding front settings_rule interval_rule within limit_rule
  front_fine =
      let c = ranges g.config k.settings in
      let w = wide_of g k.width in
      let n = narrow g w.peers in
      let b = bytes_of g.own_data in
      let s = short_bytes g.own_data v.own_data in
      let last = leb-true g.next_interval g.config.shuffle_interval (and_right (leb 1 g.next_interval) _ k.interval) in
      more _ _ (omega (arith, n.me)) (more _ _ (omega (arith, present_fits g.own_data)) (more _ _ (omega (arith, s))
      (more _ _ (omega (arith, c.active.most)) (more _ _ (omega (arith, c.passive.most)) (more _ _ (omega (arith, c.active_walk.most)) (more _ _ (omega (arith, c.passive_walk.most))
      (more _ _ (omega (arith, c.shuffle_walk.most)) (more _ _ (omega (arith, c.shuffle_active.most)) (more _ _ (omega (arith, c.shuffle_passive.most)) (more _ _ (omega (arith, c.interval.most))
      (more _ _ (omega (arith, c.timeout.most)) (more _ _ (omega (arith, bit_fits g.scheduled)) (more _ _ (omega (arith, c.interval.most, last)) (more _ _ (omega (arith, w.alone))
      (more _ _ (omega (arith, w.short)) (more _ _ (omega (arith, kind_fits g.refill)) (more _ _ (omega (arith, requests_fit g.refill k.limit)) (more _ _ (omega (arith, w.next_request))
      (more _ _ (omega (arith, w.next_join)) (more _ _ (low_under b s v.own_bytes) (more _ _ (high_under b s v.own_bytes) no_words)))))))))))))))))))))

  requests_under : numbers_under g.next_request g.requests ≡ true
  unfolding numbers_rule
  requests_under = and_left (numbers_under g.next_request g.requests) _ k.numbers

  joins_under : numbers_under g.next_join g.joins ≡ true
  unfolding numbers_rule
  joins_under = and_right (numbers_under g.next_request g.requests) _ k.numbers

  -- every word of it has 64 bits, by tools/make/layout.py
  pack_fine : Fine (pack g)
  unfolding pack
  pack_fine =
      let w = wide_of g k.width in
      let n = narrow g w.peers in
      both_fine _ _ front_fine
      (both_fine _ _ (set_fine layout.active_places g.active (omega arith) v.active n.active)
      (both_fine _ _ (set_fine layout.passive_places g.passive (omega arith) v.passive n.passive)
      (both_fine _ _ (set_fine layout.alive_places g.alive (omega arith) v.alive n.alive)
      (both_fine _ _ (set_fine layout.refused_places g.refused (omega arith) v.refused n.refused)
      (both_fine _ _ (numbers_fine layout.requests_places g.next_request g.requests (omega arith) v.requests n.requests (omega (arith, w.next_request)) requests_under)
      (both_fine _ _ (set_fine layout.bootstrap_places g.bootstrap (omega arith) v.bootstrap n.bootstrap)
      (both_fine _ _ (set_fine layout.recent_places g.recent (omega arith) v.recent n.recent)
      (both_fine _ _ (numbers_fine layout.joins_places g.next_join g.joins (omega arith) v.joins n.joins (omega (arith, w.next_join)) joins_under)
      (both_fine _ _ (data_fine g.peer_data v.peer_data n.peer_data v.peer_data_short v.peer_data_bytes)
      (set_fine layout.pins_places g.pins (omega arith) v.pins n.pins))))))))))

  -- end

  pub kept_shape : Shape (pack g)
  unfolding pack front own_at
  kept_shape =
      record {
        size = packed_long g;
        wide = pack_fine;
        present = present_fits g.own_data;
        timers = bit_fits g.scheduled;
        limit = limit_fine g.refill;
        own_data = subst ValidData (sym (own_words g.own_data v.own_data v.own_bytes)) (own_fine g.own_data v.own_data);
        sections = sections_formed g v;
      }

-- unpacking undoes packing, and the packed station passes the test
pub ok_unpacked : (g : Station) → station_ok g ≡ true → unpack (pack g) ≡ g
ok_unpacked g e = unpack_pack g (kept_fits g (ok_kept g e))

pub pack_ok : (g : Station) → station_ok g ≡ true → state_ok (pack g) ≡ true
unfolding state_ok
pack_ok g e =
    let k = ok_kept g e in
    both_true (packed_ok (pack g)) _ (shape_ok (pack g) (kept_shape g k (kept_fits g k))) (ap station_ok (ok_unpacked g e) ∙ e)

-- ---- "a state of zeroes, which later calls meet with code 2"

zero_rules : station_ok zero_station ≡ false
unfolding station_ok rules R.all_hold settings_rule zero_station new_station zero_config in_range within
zero_rules = refl

zero_fits : Fits zero_station
unfolding zero_station new_station short_data bytes_of all_under Rising keys all_short lists_under values
zero_fits = record {
  own_data = refl;
  own_bytes = refl;
  -- no section has an item, by tools/make/layout.py
  active = omega arith;
  passive = omega arith;
  alive = omega arith;
  refused = omega arith;
  requests = omega arith;
  requests_rise = tt;
  bootstrap = omega arith;
  recent = omega arith;
  joins = omega arith;
  joins_rise = tt;
  peer_data = omega arith;
  peer_data_rise = tt;
  peer_data_short = refl;
  peer_data_bytes = refl;
  pins = omega arith;
  -- end
}

pub zero_refused : state_ok (pack zero_station) ≡ false
unfolding state_ok
zero_refused =
    ap (λ (b : Bool). packed_ok (pack zero_station) && b) (ap station_ok (unpack_pack zero_station zero_fits) ∙ zero_rules) ∙ and_no (packed_ok (pack zero_station))
