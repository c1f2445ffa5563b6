-- Packing undoes unpacking.
-- Assumes nothing.
use Prim.Native.Nat.{ℕ, zero, suc, ◌+◌, ◌≤◌, ◌<◌}
use mathlib.Core.Path.{◌≡◌, refl, sym, ap, ◌∙◌}
use mathlib.Core.Bool.{true, cond}
use mathlib.Core.List.{List, [], ◌∷◌, ◌++◌}
use native.Mathlib.Omega.{arith}
use lib.ListN.{length, take, drop, get_or, take-append-drop}
use lib.Seq.{drop-cons}
use lib.Dec.{eqb, leb}
use borrow.Author.Tests.{eqb-true, eqb-false}
use Rattle.base_lists.specs.Array.{pad}
use Rattle.base_lists.specs.Bytes.{read_le}
use Rattle.base_lists.specs.Lists.{choose}
use Rattle.base_lists.proofs.Choice.{split, or_true, and_left, and_right}
use Rattle.base_lists.proofs.Slices.{slice_part, slice_each}
use Rattle.base_util.specs.Section.{part}
use Rattle.base_util.proofs.Sets.{set_words}
use Rattle.base_columns.specs.Columns.{words_end, word_bytes, low_word, high_word}
use Rattle.base_columns.proofs.Words.{word_low, word_high}
use Rattle.base_columns.proofs.Sections.{Small, numbers_words, data_words}
use Rattle.base_peer.specs.Data.{bytes_of}
use Rattle.base_peer.specs.Held.{DataFields, fields_in, ValidData}
use Rattle.base_peer.proofs.Data.{bytes_in, length_field}
use Rattle.hyparview_state.specs.Layout as layout
use Rattle.hyparview_state.specs.Unpack.{own_at, settings_at, limit_at, limit_formed, refill_in, station_of, unpack, PackedState}
use Rattle.hyparview_state.proofs.Memory.{two_limit}
use Rattle.hyparview_rules.specs.Pack.{present_word, kind_word, requests_word, front, pack}
use Rattle.hyparview_rules.specs.Ok.{packed_ok}
use Rattle.hyparview_rules.proofs.Under.{under_of}
use Rattle.hyparview_rules.proofs.Widths.{under_at}
use Rattle.hyparview_rules.proofs.Shape.{Shape, ok_shape, packed_shape}
use Rattle.hyparview_rules.proofs.Parts.{rejoined_active}

-- ---- own data

module _ (p l w x : ℕ) (h : p ≤ 1) (v : ValidData (record { present = eqb p 1; len = l; bytes = word_bytes w x })) (f : w < words_end) (g : x < words_end) where
  abbrev pub own : DataFields
  own = record { present = eqb p 1; len = l; bytes = word_bytes w x }

  pub present_back : present_word (fields_in own) ≡ p
  unfolding present_word fields_in choose
  present_back =
      split (eqb p 1) (λ t. rw t (sym (eqb-true p 1 t)))
      (λ t. let n : p ≡ 1 → ⊥ = eqb-false p 1 t in rw t (let z : 0 ≡ p = omega arith in z))

  pub len_back : length (bytes_of (fields_in own)) ≡ l
  len_back = ap length (bytes_in own v) ∙ length_field own v

  pub low_back : low_word (bytes_of (fields_in own)) ≡ w
  unfolding low_word
  low_back = ap (λ (b : List ℕ). read_le 8 (pad 0 16 b) 0) (bytes_in own v) ∙ ap (λ (b : List ℕ). read_le 8 b 0) (sym v.packed) ∙ word_low w x f g

  pub high_back : high_word (bytes_of (fields_in own)) ≡ x
  unfolding high_word
  high_back = ap (λ (b : List ℕ). read_le 8 (pad 0 16 b) 8) (bytes_in own v) ∙ ap (λ (b : List ℕ). read_le 8 b 8) (sym v.packed) ∙ word_high w x f g

-- ---- a bool and the limit

timers_back : (t : ℕ) → t ≤ 1 → cond (eqb t 1) 1 0 ≡ t
timers_back t h =
    split (eqb t 1) (λ e. rw e (sym (eqb-true t 1 e))) (λ e. let n : t ≡ 1 → ⊥ = eqb-false t 1 e in rw e (let z : 0 ≡ t = omega arith in z))

module _ (k n : ℕ) (f : limit_formed k n ≡ true) where
  few_kinds : k ≤ 2
  unfolding limit_formed
  few_kinds = borrow.Author.Tests.leb-true k 2 (and_left (leb k 2) _ f)

  none_left : (k ≡ 1 → ⊥) → n ≡ 0
  unfolding limit_formed
  none_left other = or_true (eqb k 1) (eqb n 0) (and_right (leb k 2) _ f) (λ o. absurd (other (eqb-true k 1 o))) (λ z. eqb-true n 0 z)

  kind_back : kind_word (refill_in (two_limit k n)) ≡ k
  unfolding kind_word refill_in choose
  kind_back =
      split (eqb k 0) (λ z. rw z (sym (eqb-true k 0 z)))
      (λ z. let a = eqb-false k 0 z in rw z (split (eqb k 1) (λ o. rw o (sym (eqb-true k 1 o)))
      (λ o. let b = eqb-false k 1 o in rw o (let q : 2 ≡ k = omega (arith, few_kinds) in q))))

  requests_back : requests_word (refill_in (two_limit k n)) ≡ n
  unfolding requests_word refill_in choose
  requests_back =
      split (eqb k 0) (λ z. rw z (sym (none_left (λ o. omega (arith, eqb-true k 0 z)))))
      (λ z. rw z (split (eqb k 1) (λ o. rw o refl) (λ o. rw o (sym (none_left (eqb-false k 1 o))))))

-- ---- the numbers

-- k words from place i on, one by one
unfoldable slots : ℕ → ℕ → List ℕ → List ℕ
slots i zero xs = []
slots i (suc k) xs = get_or xs i 0 ∷ slots (suc i) k xs

slots_are : (k i : ℕ) (xs : List ℕ) → i + k ≤ length xs → slots i k xs ≡ take k (drop i xs)
unfolding slots
slots_are zero i xs h = refl
slots_are (suc k) i xs h = rw (drop-cons xs i 0 (omega arith)) (ap (λ (l : List ℕ). get_or xs i 0 ∷ l) (slots_are k (suc i) xs (omega arith)))

module _ (xs : List ℕ) (v : Shape xs) where
  small : (i : ℕ) → get_or xs i 0 < words_end
  small i = under_at words_end xs (omega arith) v.wide i

  front_back : front (unpack xs) ≡ take layout.numbers_end xs
  unfolding front unpack station_of own_at settings_at limit_at slots
  front_back =
      let p = layout.own_present xs in
      let l = layout.own_len xs in
      let w = layout.own_low xs in
      let x = layout.own_high xs in
      (λ i. layout.me xs ∷ present_back p l w x v.present v.own_data (small layout.own_low_at) (small layout.own_high_at) i ∷ len_back p l w x v.present v.own_data (small layout.own_low_at) (small layout.own_high_at) i
      ∷ layout.active_view_capacity xs ∷ layout.passive_view_capacity xs ∷ layout.active_random_walk_length xs ∷ layout.passive_random_walk_length xs ∷ layout.shuffle_random_walk_length xs ∷ layout.shuffle_active_view_count xs ∷ layout.shuffle_passive_view_count xs ∷ layout.shuffle_interval xs ∷ layout.neighbor_request_timeout xs
      ∷ timers_back (layout.timers_scheduled xs) v.timers i ∷ layout.next_shuffle_interval xs ∷ layout.passes_alone xs ∷ layout.passes_short xs ∷ kind_back (layout.refill_kind xs) (layout.refill_requests xs) v.limit i ∷ requests_back (layout.refill_kind xs) (layout.refill_requests xs) v.limit i
      ∷ layout.next_neighbor_request xs ∷ layout.next_join xs ∷ low_back p l w x v.present v.own_data (small layout.own_low_at) (small layout.own_high_at) i ∷ high_back p l w x v.present v.own_data (small layout.own_low_at) (small layout.own_high_at) i ∷ [])
      ∙ slots_are layout.numbers_end 0 xs (omega (arith, v.size))

-- ---- the sections

small_part : (a k : ℕ) (xs : List ℕ) → Small xs → Small (part a k xs)
unfolding part
small_part a k xs f i = rw (slice_part a k xs) (slice_each (λ x. x < words_end) 0 a (a + k) xs (omega arith) f i)

-- the numbers and the sections, packed again, by tools/make/layout.py
pub shape_back : (xs : List ℕ) → Shape xs → pack (unpack xs) ≡ xs
unfolding pack unpack station_of
shape_back xs v =
    (λ i.
    front_back xs v i
    ++ (sym (set_words layout.active_places _ v.sections.active) i
    ++ (sym (set_words layout.passive_places _ v.sections.passive) i
    ++ (sym (set_words layout.alive_places _ v.sections.alive) i
    ++ (sym (set_words layout.refused_places _ v.sections.refused) i
    ++ (sym (numbers_words layout.requests_places _ v.sections.requests) i
    ++ (sym (set_words layout.bootstrap_places _ v.sections.bootstrap) i
    ++ (sym (set_words layout.recent_places _ v.sections.recent) i
    ++ (sym (numbers_words layout.joins_places _ v.sections.joins) i
    ++ (sym (data_words layout.peer_data_places _ v.sections.peer_data (small_part layout.peer_data_at layout.peer_data_size xs (small xs v))) i
    ++ sym (set_words layout.pins_places _ v.sections.pins) i))))))))))
    ∙ ap (λ (l : List ℕ). take layout.numbers_end xs ++ l) (rejoined_active xs v.size)
    ∙ take-append-drop layout.numbers_end xs

-- end

-- of words that pass the test
pub ok_back : (xs : List ℕ) → packed_ok xs ≡ true → pack (unpack xs) ≡ xs
ok_back xs e = shape_back xs (ok_shape xs e)

-- of words that a step hands back, which have 64 bits
pub packed_back : (xs : List ℕ) → PackedState xs → ((i : ℕ) → get_or xs i 0 < words_end) → pack (unpack xs) ≡ xs
packed_back xs p f = shape_back xs (packed_shape xs p (under_of words_end xs f))
