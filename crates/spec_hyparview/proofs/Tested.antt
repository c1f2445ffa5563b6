-- The test of the station rules and the invariant between events say the same: each gives the other.
-- Assumes nothing.
use mathlib.Core.Path.{◌≡◌, refl, sym, subst}
use mathlib.Core.Bool.{Bool, true, false, not}
use mathlib.Core.List.{List, [], ◌∷◌}
use mathlib.Core.Option.{none, some}
use Prim.Native.Nat.{ℕ, zero, suc, ◌+◌, ◌*◌, ◌≤◌, ◌<◌}
use native.Mathlib.Omega.{arith}
use lib.ListN.{length, get_or}
use lib.Dec.{leb, ltb}
use borrow.Author.Tests.{leb-true, ltb-true, le-leb, lt-ltb, not-true}
use Rattle.base_lists.specs.Lists.{is, count, mem, distinct, rising, Above, Rising, subset, disjoint}
use Rattle.base_peer.specs.Maps.{numbers_under}
use Rattle.base_lists.specs.Maps.{keys, values, has, Each}
use Rattle.base_lists.specs.Tests.{All}
use Rattle.base_lists.proofs.Choice.{and_left, and_right, clash}
use Rattle.base_lists.proofs.Count.{is_self, is_split, mem_true, mem_false, absent}
use Rattle.base_lists.proofs.Rising.{above_less}
use Rattle.base_timing.specs.Timing.{in_range, within}
use Rattle.base_timing.specs.declared.Config.{Config}
use Rattle.base_peer.specs.Data.{Data, bytes_of}
use Rattle.spec_hyparview.specs.Station.{Station, Refill, automatic, requests_left, recovery, peers_end, bytes_end, most_pins, top_counter, top_passes}
use Rattle.spec_hyparview.specs.Rules as R
use Rattle.spec_hyparview.specs.Rules.{station_ok}
use Rattle.base_lists.proofs.Members.{both, negate, mem_yes, mem_no, rising_once}
use Rattle.spec_hyparview.proofs.Law.{Lawful, Short, Small, Pinned}
use Rattle.spec_hyparview.proofs.Told.{up_after, sent_after}
use Rattle.spec_hyparview.proofs.Narrow.{no_data, HeldData, Narrow}
use Rattle.spec_hyparview.proofs.Invariant.{Ranges}
use Rattle.spec_hyparview.proofs.Reading.{byte_at}
use Rattle.spec_hyparview.proofs.Whole.{Between}

-- lists of tests
also : (b : Bool) (bs : List Bool) → b ≡ true → R.all_hold bs ≡ true → R.all_hold (b ∷ bs) ≡ true
unfolding R.all_hold
also b bs e f = rw e f

no_tests : R.all_hold [] ≡ true
unfolding R.all_hold
no_tests = refl

every_at : (bs : List Bool) (n : ℕ) → R.all_hold bs ≡ true → get_or bs n true ≡ true
unfolding R.all_hold
every_at [] n e = refl
every_at (b ∷ bs) zero e = and_left b (R.all_hold bs) e
every_at (b ∷ bs) (suc n) e = every_at bs n (and_right b (R.all_hold bs) e)

-- each test, from and to what it says
pub distinct_yes : (xs : List ℕ) → ((x : ℕ) → count x xs ≤ 1) → distinct xs ≡ true
unfolding distinct count
distinct_yes [] h = refl
distinct_yes (x ∷ xs) h =
    both (not (mem x xs)) (distinct xs) (negate (mem x xs) (mem_no x xs (omega (arith, h x, is_self x)))) (distinct_yes xs (λ y. omega (arith, h y)))

pub distinct_true : (xs : List ℕ) → distinct xs ≡ true → (x : ℕ) → count x xs ≤ 1
unfolding distinct count
distinct_true [] e x = omega arith
distinct_true (p ∷ xs) e x =
    absent x p xs (mem_false p xs (not-true (mem p xs) (and_left (not (mem p xs)) (distinct xs) e))) (distinct_true xs (and_right (not (mem p xs)) (distinct xs) e) x)

rising_yes : (xs : List ℕ) → Rising xs → rising xs ≡ true
unfolding rising Rising Above
rising_yes [] h = refl
rising_yes (x ∷ []) h = refl
rising_yes (x ∷ y ∷ ys) h = both (ltb x y) (rising (y ∷ ys)) (lt-ltb x y h.0.0) (rising_yes (y ∷ ys) h.1)

rising_true : (xs : List ℕ) → rising xs ≡ true → Rising xs
unfolding rising Rising Above
rising_true [] e = tt
rising_true (x ∷ []) e = (tt, tt)
rising_true (x ∷ y ∷ ys) e =
    let r = rising_true (y ∷ ys) (and_right (ltb x y) (rising (y ∷ ys)) e) in
    let l : x < y = ltb-true x y (and_left (ltb x y) (rising (y ∷ ys)) e) in
    ((l, above_less x y ys l r.0), r)

apart_yes : (xs ys : List ℕ) → ((x : ℕ) → 1 ≤ count x xs → count x ys ≡ 0) → disjoint xs ys ≡ true
unfolding disjoint count
apart_yes [] ys h = refl
apart_yes (x ∷ xs) ys h =
    both (not (mem x ys)) (disjoint xs ys) (negate (mem x ys) (mem_no x ys (h x (omega (arith, is_self x))))) (apart_yes xs ys (λ y l. h y (omega arith)))

apart_true : (xs ys : List ℕ) → disjoint xs ys ≡ true → (x : ℕ) → 1 ≤ count x xs → count x ys ≡ 0
unfolding disjoint count
apart_true [] ys e x h = absurd (omega arith)
apart_true (p ∷ xs) ys e x h =
    is_split (λ y. 1 ≤ is y p + count y xs → count y ys ≡ 0) x p
    (λ i. mem_false p ys (not-true (mem p ys) (and_left (not (mem p ys)) (disjoint xs ys) e)))
    (λ n i. apart_true xs ys (and_right (not (mem p ys)) (disjoint xs ys) e) x (omega arith)) h

all_in_yes : (xs ys : List ℕ) → ((x : ℕ) → count x xs ≤ count x ys) → subset xs ys ≡ true
unfolding subset count
all_in_yes [] ys h = refl
all_in_yes (x ∷ xs) ys h = both (mem x ys) (subset xs ys) (mem_yes x ys (omega (arith, h x, is_self x))) (all_in_yes xs ys (λ y. omega (arith, h y)))

pub all_in_true : (xs ys : List ℕ) → subset xs ys ≡ true → (x : ℕ) → 1 ≤ count x xs → 1 ≤ count x ys
unfolding subset count
all_in_true [] ys e x h = absurd (omega arith)
all_in_true (p ∷ xs) ys e x h =
    is_split (λ y. 1 ≤ is y p + count y xs → 1 ≤ count y ys) x p
    (λ i. mem_true p ys (and_left (mem p ys) (subset xs ys) e))
    (λ n i. all_in_true xs ys (and_right (mem p ys) (subset xs ys) e) x (omega arith)) h

under_true : (n : ℕ) (xs : List ℕ) → R.all_under n xs ≡ true → (x : ℕ) → 1 ≤ count x xs → x < n
unfolding R.all_under count
under_true n [] e x h = absurd (omega arith)
under_true n (p ∷ xs) e x h =
    is_split (λ y. 1 ≤ is y p + count y xs → y < n) x p (λ i. ltb-true p n (and_left (ltb p n) (R.all_under n xs) e))
    (λ w i. under_true n xs (and_right (ltb p n) (R.all_under n xs) e) x (omega arith)) h

-- numbers below an end, in one list and in several
module _ (n : ℕ) where
  pub all_true : (xs : List ℕ) → R.all_under n xs ≡ true → All (λ x. x < n) xs
  unfolding R.all_under All
  all_true [] e = tt
  all_true (x ∷ xs) e = (ltb-true x n (and_left (ltb x n) (R.all_under n xs) e), all_true xs (and_right (ltb x n) (R.all_under n xs) e))

  lists_true : (ls : List (List ℕ)) → R.lists_under n ls ≡ true → All (λ xs. All (λ x. x < n) xs) ls
  unfolding R.lists_under All
  lists_true [] e = tt
  lists_true (xs ∷ ls) e = (all_true xs (and_left (R.all_under n xs) (R.lists_under n ls) e), lists_true ls (and_right (R.all_under n xs) (R.lists_under n ls) e))

  all_yes : (xs : List ℕ) → All (λ x. x < n) xs → R.all_under n xs ≡ true
  unfolding R.all_under All
  all_yes [] a = refl
  all_yes (x ∷ xs) a = both (ltb x n) (R.all_under n xs) (lt-ltb x n a.0) (all_yes xs a.1)

  lists_yes : (ls : List (List ℕ)) → All (λ xs. All (λ x. x < n) xs) ls → R.lists_under n ls ≡ true
  unfolding R.lists_under All
  lists_yes [] a = refl
  lists_yes (xs ∷ ls) a = both (R.all_under n xs) (R.lists_under n ls) (all_yes xs a.0) (lists_yes ls a.1)

-- data is bytes
bytes_yes : (b : List ℕ) → ((k : ℕ) → get_or b k 0 < bytes_end) → R.all_under bytes_end b ≡ true
unfolding R.all_under
bytes_yes [] h = refl
bytes_yes (x ∷ xs) h = both (ltb x bytes_end) (R.all_under bytes_end xs) (lt-ltb x bytes_end (h 0)) (bytes_yes xs (λ k. h (suc k)))

held_yes : (m : List (ℕ × List ℕ)) → Each HeldData m → R.lists_under bytes_end (values m) ≡ true
unfolding R.lists_under values Each
held_yes [] h = refl
held_yes (e ∷ m) h = both (R.all_under bytes_end e.1) (R.lists_under bytes_end (values m)) (bytes_yes e.1 h.0.bytes) (held_yes m h.1)

held_true : (m : List (ℕ × List ℕ)) → Each (λ b. length b ≤ 16) m → R.lists_under bytes_end (values m) ≡ true → Each HeldData m
unfolding R.lists_under values Each
held_true [] s e = tt
held_true (p ∷ m) s e = (
  record { few = s.0; bytes = λ k. byte_at p.1 k (and_left (R.all_under bytes_end p.1) _ e) },
  held_true m s.1 (and_right (R.all_under bytes_end p.1) _ e),
)

-- data that is short and bytes
pub own_held : (d : Data) → Short d → R.all_under bytes_end (bytes_of d) ≡ true → HeldData (bytes_of d)
unfolding Short bytes_of
own_held none s e = no_data
own_held (some b) s e = record { few = s; bytes = λ k. byte_at b k e }

numbers_yes : (n : ℕ) (m : List (ℕ × ℕ)) → Each (λ v. v < n) m → numbers_under n m ≡ true
unfolding numbers_under Each
numbers_yes n [] h = refl
numbers_yes n (e ∷ m) h = both (ltb e.1 n) (numbers_under n m) (lt-ltb e.1 n h.0) (numbers_yes n m h.1)

numbers_true : (n : ℕ) (m : List (ℕ × ℕ)) → numbers_under n m ≡ true → Each (λ v. v < n) m
unfolding numbers_under Each
numbers_true n [] e = tt
numbers_true n (p ∷ m) e =
    (ltb-true p.1 n (and_left (ltb p.1 n) (numbers_under n m) e), numbers_true n m (and_right (ltb p.1 n) (numbers_under n m) e))

short_yes : (m : List (ℕ × List ℕ)) → Each (λ b. length b ≤ 16) m → R.all_short m ≡ true
unfolding R.all_short Each
short_yes [] h = refl
short_yes (e ∷ m) h = both (leb (length e.1) 16) (R.all_short m) (le-leb (length e.1) 16 h.0) (short_yes m h.1)

short_true : (m : List (ℕ × List ℕ)) → R.all_short m ≡ true → Each (λ b. length b ≤ 16) m
unfolding R.all_short Each
short_true [] e = tt
short_true (p ∷ m) e =
    (leb-true (length p.1) 16 (and_left (leb (length p.1) 16) (R.all_short m) e), short_true m (and_right (leb (length p.1) 16) (R.all_short m) e))

data_yes : (d : Data) → Short d → R.short_data d ≡ true
unfolding R.short_data Short
data_yes none h = refl
data_yes (some b) h = le-leb (length b) 16 h

pub data_true : (d : Data) → R.short_data d ≡ true → Short d
unfolding R.short_data Short
data_true none e = tt
data_true (some b) e = leb-true (length b) 16 e

limit_yes : (v : Refill) → Small v → R.limit_ok v ≡ true
unfolding R.limit_ok Small
limit_yes automatic h = refl
limit_yes (requests_left n) h = le-leb n 3 h
limit_yes recovery h = refl

limit_true : (v : Refill) → R.limit_ok v ≡ true → Small v
unfolding R.limit_ok Small
limit_true automatic e = tt
limit_true (requests_left n) e = leb-true n 3 e
limit_true recovery e = tt

-- the settings
low_of : (a z x : ℕ) → within a z x ≡ true → a ≤ x
unfolding within
low_of a z x e = leb-true a x (and_left (leb a x) (leb x z) e)

high_of : (a z x : ℕ) → within a z x ≡ true → x ≤ z
unfolding within
high_of a z x e = leb-true x z (and_right (leb a x) (leb x z) e)

pub ranges_of : (c : Config) → in_range c ≡ true → Ranges c
unfolding in_range
ranges_of c e =
    let e1 = and_right (within 1 8 c.active_view_capacity) _ e in
    let e2 = and_right (within 1 32 c.passive_view_capacity) _ e1 in
    let e3 = and_right (within 0 65535 c.active_random_walk_length) _ e2 in
    let e4 = and_right (within 0 65535 c.passive_random_walk_length) _ e3 in
    let e5 = and_right (within 0 65535 c.shuffle_random_walk_length) _ e4 in
    let e6 = and_right (within 0 8 c.shuffle_active_view_count) _ e5 in
    let e7 = and_right (within 0 23 c.shuffle_passive_view_count) _ e6 in
    record {
      some_slot = low_of 1 8 c.active_view_capacity (and_left _ _ e);
      few_slots = high_of 1 8 c.active_view_capacity (and_left _ _ e);
      some_place = low_of 1 32 c.passive_view_capacity (and_left _ _ e1);
      few_places = high_of 1 32 c.passive_view_capacity (and_left _ _ e1);
      few_active = high_of 0 8 c.shuffle_active_view_count (and_left _ _ e5);
      few_passive = high_of 0 23 c.shuffle_passive_view_count (and_left _ _ e6);
      some_time = low_of 1 3600000 c.shuffle_interval (and_left _ _ e7);
      short_time = high_of 1 3600000 c.shuffle_interval (and_left _ _ e7);
      short_wait = high_of 1 3600000 c.neighbor_request_timeout (and_right (within 1 3600000 c.shuffle_interval) _ e7);
      join_walk = high_of 0 65535 c.active_random_walk_length (and_left _ _ e2);
      shuffle_walk = high_of 0 65535 c.shuffle_random_walk_length (and_left _ _ e4);
    }

-- the invariant gives the test
pub rules_of : {c : Config} {me : ℕ} {up : List ℕ} {sent allowed : ℕ} (s : Station) → in_range c ≡ true → Between c me up sent allowed s → station_ok s ≡ true
unfolding station_ok R.rules R.settings_rule R.repeats_rule R.order_rule R.capacity_rule R.views_rule R.alive_rule R.few_rule R.joins_rule R.numbers_rule R.self_rule R.room_rule R.data_rule R.limit_rule R.interval_rule R.width_rule R.held_rule R.pins_rule most_pins R.lists_under has within count up_after
rules_of {c} s r b =
    let h = b.core in
    let w = b.law in
    let none-of-me : (xs : List ℕ) → count s.me xs ≡ 0 → not (mem s.me xs) ≡ true = (λ xs z. negate (mem s.me xs) (mem_no s.me xs z)) in
    also _ _ (subst (λ (k : Config). in_range k ≡ true) (sym h.still.fixed) r)
    (also _ _ (both _ _ (distinct_yes s.active (λ x. omega (arith, h.seats.one x))) (both _ _ (distinct_yes s.passive (λ x. omega (arith, h.seats.one x))) (both _ _ (distinct_yes s.bootstrap h.waits.boots) (distinct_yes s.recent w.recent_ok.once))))
    (also _ _ (both _ _ (rising_yes _ w.requests_ok.numbered.rise) (both _ _ (rising_yes _ w.joins_ok.rise) (both _ _ (rising_yes _ w.held_ok.rise) (both _ _ (rising_yes _ w.alive_ok.rise) (both _ _ (rising_yes _ w.refused_ok.rise) (rising_yes _ w.pins_ok.rise))))))
    (also _ _ (both _ _ (le-leb (length s.active) s.config.active_view_capacity (omega (arith, h.seats.slots_left))) (le-leb (length s.passive) s.config.passive_view_capacity (omega (arith, h.seats.places_left))))
    (also _ _ (both _ _ (apart_yes s.active s.passive (λ x i. omega (arith, h.seats.one x))) (both _ _ (none-of-me s.active (omega (arith, h.seats.one s.me, is_self s.me))) (none-of-me s.passive (omega (arith, h.seats.one s.me, is_self s.me)))))
    (also _ _ (all_in_yes s.alive s.passive (λ x. omega (arith, h.seats.marks x)))
    (also _ _ (both _ _ (le-leb _ _ h.waits.few) (le-leb _ _ w.recent_ok.few))
    (also _ _ (both _ _ (all_in_yes (keys s.joins) s.bootstrap h.waits.known) (both _ _ (apart_yes (keys s.joins) s.active (λ x i. omega (arith, h.waits.apart x))) (none-of-me (keys s.joins) (omega (arith, h.waits.apart s.me, is_self s.me)))))
    (also _ _ (both _ _ (numbers_yes _ _ w.requests_ok.numbered.below) (numbers_yes _ _ w.joins_ok.below))
    (also _ _ (none-of-me (keys s.peer_data) w.held_ok.not_own)
    (also _ _ (both _ _ (le-leb _ _ w.requests_ok.few) (both _ _ (le-leb _ _ w.refused_ok.few) (le-leb _ _ w.held_ok.few)))
    (also _ _ (both _ _ (short_yes _ w.held_ok.shorts) (data_yes _ w.own_ok))
    (also _ _ (limit_yes _ w.fill_ok)
    (also _ _ (both _ _ (le-leb _ _ w.pace_ok.low) (le-leb _ _ w.pace_ok.high))
    (also _ _ (both _ _ (lists_yes peers_end _ b.narrow.named) (both _ _ (both _ _ (bytes_yes _ b.narrow.mine.bytes) (held_yes _ b.narrow.held)) (both _ _ (le-leb _ _ w.requests_ok.numbered.next_top) (both _ _ (le-leb _ _ w.joins_ok.next_top) (both _ _ (le-leb _ _ w.alone_ok.high) (le-leb _ _ w.short_ok.high))))))
    (also _ _ b.covered
    (also _ _ (both _ _ (all_in_yes s.pins s.active w.pins_ok.among) (le-leb _ _ w.pins_ok.few)) no_tests))))))))))))))))

-- the test gives the invariant, with the neighbours up, no message sent, and two allowed for each neighbour
both_once : (a b : ℕ) → a ≤ 1 → (1 ≤ a → b ≡ 0) → b ≤ 1 → a + b ≤ 1
both_once zero b h f k = omega arith
both_once (suc a) b h f k = omega (arith, f (omega arith))

pub within_once : (a b : ℕ) → a ≤ 1 → (1 ≤ a → 1 ≤ b) → a ≤ b
within_once zero b h f = omega arith
within_once (suc a) b h f = omega (arith, f (omega arith))

no_self : (me : ℕ) (xs : List ℕ) → not (mem me xs) ≡ true → (x : ℕ) → count x xs ≤ 1 → count x xs + is x me ≤ 1
no_self me xs f x h = omega (arith, absent x me xs (mem_false me xs (not-true (mem me xs) f)) h)

module _ (s : Station) (e : station_ok s ≡ true) where
  rule : (n : ℕ) → get_or (R.rules s) n true ≡ true
  unfolding station_ok
  rule n = every_at (R.rules s) n e

  pinned_of : Pinned s.config.active_view_capacity s.active s.pins
  unfolding R.rules R.repeats_rule R.order_rule R.pins_rule most_pins
  pinned_of =
      let o1 = and_right (rising (keys s.requests)) _ (rule 2) in
      let o2 = and_right (rising (keys s.joins)) _ o1 in
      let o3 = and_right (rising (keys s.peer_data)) _ o2 in
      let r : Rising s.pins = rising_true _ (and_right (rising s.refused) _ (and_right (rising s.alive) _ o3)) in
      record {
        rise = r;
        among = λ x. within_once _ _ (rising_once s.pins r x) (all_in_true s.pins s.active (and_left _ _ (rule 16)) x);
        few = leb-true _ _ (and_right (subset s.pins s.active) _ (rule 16));
      }

  law_of : Lawful s
  unfolding R.rules R.repeats_rule R.order_rule R.few_rule R.numbers_rule R.self_rule R.room_rule R.data_rule R.limit_rule R.interval_rule R.width_rule has
  law_of =
      let o1 = and_right (rising (keys s.requests)) _ (rule 2) in
      let o2 = and_right (rising (keys s.joins)) _ o1 in
      let o3 = and_right (rising (keys s.peer_data)) _ o2 in
      let o4 = and_right (rising s.alive) _ o3 in
      let w1 = and_right (R.lists_under bytes_end (R.data_lists s)) _ (and_right (R.lists_under peers_end (R.peer_lists s)) _ (rule 14)) in
      let w2 = and_right (leb s.next_request top_counter) _ w1 in
      let w3 = and_right (leb s.next_join top_counter) _ w2 in
      let r1 = and_right (leb (length s.requests) 32) _ (rule 10) in
      let d3 = and_right (distinct s.bootstrap) _ (and_right (distinct s.passive) _ (and_right (distinct s.active) _ (rule 1))) in
      record {
        requests_ok = record { numbered = record { rise = rising_true _ (and_left _ _ (rule 2)); below = numbers_true _ _ (and_left _ _ (rule 8)); next_top = leb-true _ _ (and_left _ _ w1) }; few = leb-true _ _ (and_left _ _ (rule 10)) };
        joins_ok = record { rise = rising_true _ (and_left _ _ o1); below = numbers_true _ _ (and_right (numbers_under s.next_request s.requests) _ (rule 8)); next_top = leb-true _ _ (and_left _ _ w2) };
        held_ok = record { rise = rising_true _ (and_left _ _ o2); few = leb-true _ _ (and_right (leb (length s.refused) 32) _ r1); shorts = short_true _ (and_left _ _ (rule 11)); not_own = mem_false s.me (keys s.peer_data) (not-true (mem s.me (keys s.peer_data)) (rule 9)) };
        own_ok = data_true _ (and_right (R.all_short s.peer_data) _ (rule 11));
        alive_ok = record { rise = rising_true _ (and_left _ _ o3) };
        refused_ok = record { rise = rising_true _ (and_left _ _ o4); few = leb-true _ _ (and_left _ _ r1) };
        fill_ok = limit_true _ (rule 12);
        recent_ok = record { once = distinct_true s.recent d3; few = leb-true _ _ (and_right (leb (length s.bootstrap) 8) _ (rule 6)) };
        pace_ok = record { low = low_of _ _ _ (rule 13); high = high_of _ _ _ (rule 13) };
        alone_ok = record { high = leb-true _ _ (and_left _ _ w3) };
        short_ok = record { high = leb-true _ _ (and_right (leb s.passes_alone top_passes) _ w3) };
        pins_ok = pinned_of;
      }

  narrow_of : Narrow s
  unfolding R.rules R.settings_rule R.data_rule R.interval_rule R.width_rule R.lists_under
  narrow_of =
      let w1 = and_right (R.lists_under peers_end (R.peer_lists s)) _ (rule 14) in
      let w2 = and_right (R.lists_under bytes_end (R.data_lists s)) _ w1 in
      let w = and_left (R.lists_under bytes_end (R.data_lists s)) _ w1 in
      record {
        settings = ranges_of s.config (rule 0);
        named = lists_true peers_end _ (and_left _ _ (rule 14));
        mine = own_held s.own_data law_of.own_ok (and_left _ _ w);
        held = held_true s.peer_data law_of.held_ok.shorts (and_right (R.all_under bytes_end (bytes_of s.own_data)) _ w);
        pace = high_of _ _ _ (rule 13);
        requests_top = leb-true _ _ (and_left _ _ w2);
        joins_top = leb-true _ _ (and_left _ _ (and_right (leb s.next_request top_counter) _ w2));
      }

  pub between_of : Between s.config s.me s.active 0 (2 * length s.active) s
  unfolding R.rules R.settings_rule R.repeats_rule R.order_rule R.capacity_rule R.views_rule R.alive_rule R.few_rule R.joins_rule R.width_rule R.held_rule R.lists_under has up_after sent_after count
  between_of =
      let act = s.active in
      let pas = s.passive in
      let jks = keys s.joins in
      let d1 = and_right (distinct act) _ (rule 1) in
      let d2 = and_right (distinct pas) _ d1 in
      let once-act : (x : ℕ) → count x act ≤ 1 = distinct_true act (and_left _ _ (rule 1)) in
      let once-pas : (x : ℕ) → count x pas ≤ 1 = distinct_true pas (and_left _ _ d1) in
      let once-jks : (x : ℕ) → count x jks ≤ 1 = rising_once jks (rising_true jks (and_left _ _ (and_right (rising (keys s.requests)) _ (rule 2)))) in
      let once-ali : (x : ℕ) → count x s.alive ≤ 1 = rising_once s.alive law_of.alive_ok.rise in
      let v1 = and_right (disjoint act pas) _ (rule 4) in
      let j1 = and_right (subset jks s.bootstrap) _ (rule 7) in
      let two : (x : ℕ) → count x act + count x pas ≤ 1 = (λ x. both_once _ _ (once-act x) (apart_true act pas (and_left _ _ (rule 4)) x) (once-pas x)) in
      let me-act : (x : ℕ) → count x act + is x s.me ≤ 1 = (λ x. no_self s.me act (and_left _ _ v1) x (once-act x)) in
      let me-pas : (x : ℕ) → count x pas + is x s.me ≤ 1 = (λ x. no_self s.me pas (and_right (not (mem s.me act)) _ v1) x (once-pas x)) in
      let join-act : (x : ℕ) → count x jks + count x act ≤ 1 = (λ x. both_once _ _ (once-jks x) (apart_true jks act (and_left _ _ j1) x) (once-act x)) in
      let me-jks : (x : ℕ) → count x jks + is x s.me ≤ 1 = (λ x. no_self s.me jks (and_right (disjoint jks act) _ j1) x (once-jks x)) in
      record {
        core = record {
          still = record { fixed = refl; mine = refl; ranges = ranges_of s.config (rule 0); alone_stays = λ y. clash false y refl };
          seats = record {
            one = λ x. omega (arith, two x, me-act x, me-pas x);
            guests = λ x. omega (arith, me-act x);
            within = λ x. omega arith;
            slots_left = omega (arith, leb-true (length act) s.config.active_view_capacity (and_left _ _ (rule 3)));
            places_left = omega (arith, leb-true (length pas) s.config.passive_view_capacity (and_right (leb (length act) s.config.active_view_capacity) _ (rule 3)));
            marks = λ x. omega (arith, within_once _ _ (once-ali x) (all_in_true s.alive pas (rule 5) x));
            narrow = λ x y. under_true peers_end act (and_left _ _ (and_right (R.all_under peers_end (s.me ∷ [])) _ (and_left _ _ (rule 14)))) x (omega arith);
          };
          waits = record {
            barring = λ x. omega (arith, once-jks x);
            apart = λ x. omega (arith, join-act x, me-act x, me-jks x);
            known = λ x. within_once _ _ (once-jks x) (all_in_true jks s.bootstrap (and_left _ _ (rule 7)) x);
            boots = distinct_true s.bootstrap (and_left _ _ d2);
            few = leb-true (length s.bootstrap) 8 (and_left _ _ (rule 6));
            rooting = λ x. omega arith;
          };
          tally = record { noted = λ x. omega arith; bound = omega arith };
        };
        law = law_of;
        narrow = narrow_of;
        covered = rule 15;
      }
