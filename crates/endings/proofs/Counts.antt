-- Counting histories one after the other: laws of the fold, and the loops over the sixteen events and over the lengths.
-- Assumes nothing.
use Prim.Native.Nat.{ℕ, zero, suc, ◌+◌, ◌-◌, ◌*◌, ◌%◌, ◌≤◌, ◌<◌}
use mathlib.Core.Path.{◌≡◌, refl, sym, ap, subst, ◌∙◌}
use mathlib.Core.Bool.{Bool, true, false, ◌&&◌}
use Rattle.std.specs.Int.{from_bool}
use mathlib.Core.List.{List, [], ◌∷◌, ◌++◌, map}
use native.Mathlib.Nat.{pos_of_ne-zero}
use native.Mathlib.Numerals.{add-one}
use native.Mathlib.Omega.{arith}
use lib.ListN.{length, drop, get_or, length-append, length-map, drop_of_length-le, get_or-map}
use lib.Seq.{drop-cons}
use lib.Dec.{eqb}
use Rattle.base_lists.specs.Lists.{choose}
use Rattle.base_lists.proofs.Choice.{by_choice}
use Rattle.record.specs.Format.{encode}
use Rattle.spec_stories.specs.Histories.{Event, History, each, of_length, up_to}
use Rattle.spec_stories.proofs.Once.{how_many as histories-in-all}
use Rattle.hyparview.specs.Queries.{neighbors_in, spare_addresses_in}
use Rattle.hyparview.specs.declared.State.{State}
use Rattle.endings.specs.declared.Ends.{Ends}
use Rattle.endings.specs.Events.{quit, events, event_at, event_records, after_history}
use Rattle.endings.specs.Ends.{how_many, digest_end, next_byte, next_number, number_from, next_digest, digest_from, count_ends}
use Rattle.endings.specs.Steps.{first_state, played, sizes_in, one_more, counted_on, CountRoom}
use Rattle.endings.proofs.Different.{sixteen}

-- ---- one history

pub ends_are : (a b : Ends) → a.neither ≡ b.neither → a.passive ≡ b.passive → a.active ≡ b.active → a.both ≡ b.both → a.digest ≡ b.digest → a ≡ b
ends_are a b n p v t d = λ i. record { neither = n i; passive = p i; active = v i; both = t i; digest = d i }

one_if : (b : Bool) → from_bool b ≡ choose b 1 0
unfolding choose
one_if true = refl
one_if false = refl

pub counted : (s : State) (k : ℕ) (c : Ends) (a p n₀ n₁ n₂ n₃ : ℕ) → a ≡ length (neighbors_in s.words) → p ≡ spare_addresses_in s.words
    → n₀ ≡ from_bool (eqb a 0 && eqb p 0) → n₁ ≡ from_bool (eqb a 0 && eqb p 1) → n₂ ≡ from_bool (eqb a 1 && eqb p 0) → n₃ ≡ from_bool (eqb a 1 && eqb p 1)
    → record { neither = c.neither + n₀; passive = c.passive + n₁; active = c.active + n₂; both = c.both + n₃; digest = (c.digest * 65537 + k) % digest_end } ≡ one_more (sizes_in s []) k c
unfolding one_more sizes_in after_history next_digest
counted s k c a p n₀ n₁ n₂ n₃ ea ep e₀ e₁ e₂ e₃ =
    let z = sizes_in s [] in
    let count : (x y n : ℕ) → n ≡ from_bool (eqb a x && eqb p y) → n ≡ choose (eqb z.0 x && eqb z.1 y) 1 0 = λ x y n e. e ∙ one_if (eqb a x && eqb p y) ∙ (λ i. choose (eqb (ea i) x && eqb (ep i) y) 1 0) in
    ends_are _ _ (ap (λ (n : ℕ). c.neither + n) (count 0 0 n₀ e₀)) (ap (λ (n : ℕ). c.passive + n) (count 0 1 n₁ e₁)) (ap (λ (n : ℕ). c.active + n) (count 1 0 n₂ e₂))
    (ap (λ (n : ℕ). c.both + n) (count 1 1 n₃ e₃)) refl

-- ---- the bytes of one event

-- k is the number where the bytes from place `at` on are still to come
pub record Numbering (number : ℕ) (b : List ℕ) (k at : ℕ) : Type 0 where
  pub low : k < digest_end
  pub reached : at ≤ length b
  pub same : next_number number b ≡ next_number k (drop at b)

pub numbering_start : (number : ℕ) (b : List ℕ) → number < digest_end → Numbering number b number 0
numbering_start number b h = record { low = h; reached = omega arith; same = refl }

module _ (number : ℕ) (b : List ℕ) (k at : ℕ) (v : Numbering number b k at) where
  pub numbering_next : at < length b → Numbering number b ((k * 257 + get_or b at 0 + 1) % digest_end) (at + 1)
  unfolding next_number next_byte
  numbering_next h = record { low = omega arith; reached = omega arith; same = v.same ∙ ap (next_number k) (drop-cons b at 0 h ∙ ap (λ (n : ℕ). get_or b at 0 ∷ drop n b) (sym (add-one at))) }

  pub numbering_end : length b ≤ at → k ≡ next_number number b
  unfolding next_number
  numbering_end h = sym (v.same ∙ ap (next_number k) (drop_of_length-le b {i = at} h))

-- ---- lists of histories

counted_append : (s : State) (k : ℕ) (c : Ends) (xs ys : List History) → counted_on s k c (xs ++ ys) ≡ counted_on s k (counted_on s k c xs) ys
unfolding counted_on
counted_append s k c [] ys = refl
counted_append s k c (h ∷ xs) ys = counted_append s k (one_more (sizes_in s h) (number_from k h) c) xs ys

-- a history that begins with e goes on from the state after it
counted_behind : (s : State) (k : ℕ) (e : Event) (c : Ends) (hs : List History)
    → counted_on s k c (map (λ h. e ∷ h) hs) ≡ counted_on (played e s) (next_number k e) c hs
unfolding counted_on sizes_in after_history played number_from
counted_behind s k e c [] = refl
counted_behind s k e c (h ∷ hs) = counted_behind s k e (one_more (sizes_in (played e s) h) (number_from (next_number k e) h) c) hs

-- room is used up by what is counted
room_one : (z : ℕ × ℕ) (k : ℕ) (c : Ends) (n : ℕ) → CountRoom c (suc n) → CountRoom (one_more z k c) n
unfolding one_more next_digest
room_one z k c n r =
    let one : (x y : ℕ) → choose (eqb z.0 x && eqb z.1 y) 1 0 ≤ 1 = λ x y. by_choice (λ (m : ℕ). m ≤ 1) (eqb z.0 x && eqb z.1 y) {x = 1} {y = 0} (λ e. omega arith) (λ e. omega arith) in
    record {
      neither = omega (arith, r.neither, one 0 0);
      passive = omega (arith, r.passive, one 0 1);
      active = omega (arith, r.active, one 1 0);
      both = omega (arith, r.both, one 1 1);
      digest = omega arith;
    }

room_less : (s : State) (k : ℕ) (hs : List History) (n : ℕ) (c : Ends) → CountRoom c (length hs + n) → CountRoom (counted_on s k c hs) n
unfolding counted_on
room_less s k [] n c r = subst (CountRoom c) (let e : 0 + n ≡ n = omega arith in e) r
room_less s k (h ∷ hs) n c r = room_less s k hs n (one_more (sizes_in s h) (number_from k h) c) (room_one _ _ c (length hs + n) (subst (CountRoom c) (let e : suc (length hs) + n ≡ suc (length hs + n) = omega arith in e) r))

room_first : (c : Ends) (m n : ℕ) → CountRoom c (m + n) → CountRoom c m
room_first c m n r = record { neither = omega (arith, r.neither); passive = omega (arith, r.passive); active = omega (arith, r.active); both = omega (arith, r.both); digest = r.digest }

-- ---- the loop over the sixteen events

-- the histories that are left, from the event at place i on, with n events after it
abbrev pub to_come : ℕ → ℕ → List History
to_come i n = each (drop i event_records) (of_length event_records n)

-- the event at a place as bytes
record_at : (i : ℕ) → get_or event_records i (encode quit) ≡ encode (event_at i)
unfolding event_records event_at events
record_at i = get_or-map encode events i quit

come_next : (i n : ℕ) → i < 16 → to_come i n ≡ map (λ h. encode (event_at i) ∷ h) (of_length event_records n) ++ to_come (i + 1) n
unfolding each
come_next i n h =
    let hs = of_length event_records n in
    let j : suc i ≡ i + 1 = omega arith in
    ap (λ (es : List Event). each es hs) (drop-cons event_records i (encode quit) (omega (arith, sixteen, h)))
    ∙ (ap (λ (e : Event). map (λ g. e ∷ g) hs ++ each (drop (suc i) event_records) hs) (record_at i) ∙ ap (λ (m : ℕ). map (λ g. encode (event_at i) ∷ g) hs ++ each (drop m event_records) hs) j)

come_length : (i n : ℕ) → i < 16 → length (to_come i n) ≡ length (of_length event_records n) + length (to_come (i + 1) n)
come_length i n h =
    let hs = of_length event_records n in
    ap length (come_next i n h)
    ∙ (length-append (map (λ g. encode (event_at i) ∷ g) hs) (to_come (i + 1) n) ∙ ap (λ (m : ℕ). m + length (to_come (i + 1) n)) (length-map hs (λ (g : History). encode (event_at i) ∷ g)))

pub record Extending (s : State) (k left : ℕ) (c sum : Ends) (i : ℕ) : Type 0 where
  pub low : i ≤ 16
  pub more : 0 < left
  pub room : CountRoom sum (length (to_come i (left - 1)))
  pub same : counted_on s k c (of_length event_records left) ≡ counted_on s k sum (to_come i (left - 1))

longer : (left : ℕ) → (left ≡ 0 → ⊥) → of_length event_records left ≡ to_come 0 (left - 1)
unfolding of_length
longer zero f = absurd (f refl)
longer (suc n) f = ap (λ (m : ℕ). each event_records (of_length event_records m)) (let e : n ≡ suc n - 1 = omega arith in e)

pub extending_start : (s : State) (k left : ℕ) (c : Ends) → (left ≡ 0 → ⊥) → CountRoom c (length (of_length event_records left)) → Extending s k left c c 0
extending_start s k left c f r = record {
  low = omega arith;
  more = pos_of_ne-zero f;
  room = subst (λ (hs : List History). CountRoom c (length hs)) (longer left f) r;
  same = ap (counted_on s k c) (longer left f);
}

module _ (s : State) (k left : ℕ) (c sum : Ends) (i : ℕ) (v : Extending s k left c sum i) (h : i < 16) where
  pub extending_room : CountRoom sum (length (of_length event_records (left - 1)))
  extending_room = room_first sum _ (length (to_come (i + 1) (left - 1))) (subst (CountRoom sum) (come_length i (left - 1) h) v.room)

  pub extending_next : (next : State) (j : ℕ) (r : Ends) → next ≡ played (encode (event_at i)) s → j ≡ next_number k (encode (event_at i)) → r ≡ counted_on next j sum (of_length event_records (left - 1)) → Extending s k left c r (i + 1)
  extending_next next j r e f q =
      let n = left - 1 in
      let b = encode (event_at i) in
      let hs = of_length event_records n in
      let rest = to_come (i + 1) n in
      let here : r ≡ counted_on s k sum (map (λ g. b ∷ g) hs) =
      q ∙ (ap (λ (x : State). counted_on x j sum hs) e ∙ (ap (λ (m : ℕ). counted_on (played b s) m sum hs) f ∙ sym (counted_behind s k b sum hs))) in
      let many : length (map (λ g. b ∷ g) hs) ≡ length hs = length-map hs (λ (g : History). b ∷ g) in
      record {
        low = omega arith;
        more = v.more;
        room = subst (λ (x : Ends). CountRoom x (length rest)) (sym here)
            (room_less s k (map (λ g. b ∷ g) hs) (length rest) sum (subst (CountRoom sum) (come_length i n h ∙ ap (λ (m : ℕ). m + length rest) (sym many)) v.room));
        same = v.same ∙ (ap (counted_on s k sum) (come_next i n h) ∙ (counted_append s k sum (map (λ g. b ∷ g) hs) rest ∙ ap (λ (x : Ends). counted_on s k x rest) (sym here)));
      }

pub extending_end : (s : State) (k left : ℕ) (c sum : Ends) (i : ℕ) → Extending s k left c sum i → 16 ≤ i → sum ≡ counted_on s k c (of_length event_records left)
unfolding each counted_on
extending_end s k left c sum i v h =
    let gone : to_come i (left - 1) ≡ [] = ap (λ (es : List Event). each es (of_length event_records (left - 1))) (drop_of_length-le event_records {i = i} (omega (arith, sixteen, h))) in
    sym (v.same ∙ ap (counted_on s k sum) gone)

-- the length is spent
pub spent_room : (left : ℕ) (c : Ends) → left ≡ 0 → CountRoom c (length (of_length event_records left)) → CountRoom c 1
unfolding of_length
spent_room left c e r = subst (λ (n : ℕ). CountRoom c (length (of_length event_records n))) e r

pub spent : (s : State) (k left : ℕ) (c r : Ends) → left ≡ 0 → r ≡ one_more (sizes_in s []) k c → r ≡ counted_on s k c (of_length event_records left)
unfolding of_length counted_on number_from
spent s k left c r e q = q ∙ ap (λ (n : ℕ). counted_on s k c (of_length event_records n)) (sym e)

-- the remaining length falls
pub deeper : (left t : ℕ) → left ≡ t → 0 < left → left - 1 < t
deeper left t e h = omega (arith, e, h)

-- ---- for each length in turn

-- the histories of fewer than n events
abbrev pub shorter : ℕ → List History
shorter zero = []
shorter (suc n) = up_to event_records n

shorter_next : (n : ℕ) → shorter (suc n) ≡ shorter n ++ of_length event_records n
unfolding up_to
shorter_next zero = refl
shorter_next (suc n) = refl

rising_length : (m n : ℕ) → length (up_to event_records m) ≤ length (up_to event_records (m + n))
unfolding up_to
rising_length m zero = omega (arith, ap (λ (k : ℕ). length (up_to event_records k)) (let e : m + zero ≡ m = omega arith in e))
rising_length m (suc n) =
    let e : m + suc n ≡ suc (m + n) = omega arith in
    omega (arith, ap (λ (k : ℕ). length (up_to event_records k)) e, length-append (up_to event_records (m + n)) (of_length event_records (suc (m + n))), rising_length m n)

few : (n : ℕ) → n ≤ 4 → length (up_to event_records n) ≤ 69905
few n h = omega (arith, rising_length n (4 - n), ap (λ (k : ℕ). length (up_to event_records k)) (let e : n + (4 - n) ≡ 4 = omega (arith, h) in e), histories-in-all event_records sixteen)

abbrev pub none_counted : Ends
none_counted = record { neither = 0; passive = 0; active = 0; both = 0; digest = 0 }

pub record Counting (s : State) (sum : Ends) (n : ℕ) : Type 0 where
  pub begun : s ≡ first_state
  pub low : n ≤ 5
  pub same : sum ≡ counted_on s 0 none_counted (shorter n)

pub counting_start : (s : State) (sum : Ends) → s ≡ first_state → sum ≡ none_counted → Counting s sum 0
unfolding counted_on
counting_start s sum e q = record { begun = e; low = omega arith; same = q }

module _ (s : State) (sum : Ends) (n : ℕ) (v : Counting s sum n) (h : n < 5) where
  pub counting_room : CountRoom sum (length (of_length event_records n))
  counting_room =
      let all = ap length (shorter_next n) ∙ length-append (shorter n) (of_length event_records n) in
      let most = few n (omega arith) in
      subst (λ (c : Ends). CountRoom c (length (of_length event_records n))) (sym v.same) (room_less s 0 (shorter n) (length (of_length event_records n)) none_counted (record {
        neither = omega (arith, all, most);
        passive = omega (arith, all, most);
        active = omega (arith, all, most);
        both = omega (arith, all, most);
        digest = omega arith;
      }))

  pub counting_next : (r : Ends) → r ≡ counted_on s 0 sum (of_length event_records n) → Counting s r (n + 1)
  counting_next r q =
      let one-more-length : suc n ≡ n + 1 = omega arith in
      record {
        begun = v.begun;
        low = omega arith;
        same = q ∙ (ap (λ (c : Ends). counted_on s 0 c (of_length event_records n)) v.same
            ∙ (sym (counted_append s 0 none_counted (shorter n) (of_length event_records n)) ∙ ap (counted_on s 0 none_counted) (sym (shorter_next n) ∙ ap shorter one-more-length)));
      }

-- the fold adds the counts of the list, and goes on with its digest
abbrev added : State → Ends → List History → Ends
added s c hs = record {
  neither = c.neither + how_many (sizes_in s) 0 0 hs;
  passive = c.passive + how_many (sizes_in s) 0 1 hs;
  active = c.active + how_many (sizes_in s) 1 0 hs;
  both = c.both + how_many (sizes_in s) 1 1 hs;
  digest = digest_from c.digest hs;
}

counts_are : (s : State) (c : Ends) (hs : List History) → counted_on s 0 c hs ≡ added s c hs
unfolding counted_on how_many digest_from one_more
counts_are s c [] = ends_are _ _ (omega arith) (omega arith) (omega arith) (omega arith) refl
counts_are s c (h ∷ hs) = counts_are s (one_more (sizes_in s h) (number_from 0 h) c) hs ∙ ends_are _ _ (omega arith) (omega arith) (omega arith) (omega arith) refl

count_all : (s : State) (hs : List History) → counted_on s 0 none_counted hs ≡ count_ends (sizes_in s) hs
unfolding count_ends
count_all s hs = counts_are s none_counted hs ∙ ends_are _ _ (omega arith) (omega arith) (omega arith) (omega arith) refl

pub counting_end : (s : State) (sum : Ends) (n : ℕ) → Counting s sum n → 5 ≤ n → sum ≡ count_ends (sizes_in s) (up_to event_records 4)
counting_end s sum n v h = v.same ∙ (ap (λ (k : ℕ). counted_on s 0 none_counted (shorter k)) (let e : n ≡ 5 = omega (arith, v.low) in e) ∙ count_all s (up_to event_records 4))
