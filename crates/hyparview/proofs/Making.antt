-- A new station in its words.
-- Assumes nothing.
use Prim.Native.Nat.{ℕ, min, ◌<◌, ◌-◌}
use mathlib.Core.Path.{◌≡◌, refl, sym, ap, ◌∙◌}
use mathlib.Core.Bool.{Bool, true, false, not, ◌&&◌, ◌||◌}
use mathlib.Core.List.{List, [], ◌∷◌, ◌++◌}
use mathlib.Core.Option.{none, some}
use lib.Dec.{leb}
use lib.ListN.{length, take, drop}
use Rattle.std.specs.Prelude.{Option, Some, None}
use Rattle.std.specs.Option.{is_some}
use borrow.Author.Tests.{eq-eqb, ne_eqb}
use Rattle.base_lists.specs.Array.{pad}
use Rattle.base_lists.specs.Bytes.{le, read_le}
use Rattle.base_lists.specs.Lists.{choose}
use Rattle.base_lists.specs.Maps.{keys, values}
use Rattle.base_lists.proofs.Choice.{split, clash, choose_yes, choose_no, and_right}
use Rattle.base_util.specs.Section.{section}
use Rattle.base_columns.specs.Columns.{words_end, word_bytes, numbers_section, low_word, high_word, data_section}
use Rattle.base_columns.proofs.Data.{bytes_back}
use Rattle.base_peer.specs.declared.PeerData.{PeerData}
use Rattle.base_peer.specs.Data.{Data, bytes_of}
use Rattle.base_peer.specs.Held.{data_in, taken}
use Rattle.base_peer.proofs.Data.{length_bytes}
use Rattle.base_timing.specs.declared.Config.{Config}
use Rattle.base_timing.specs.Timing.{initial_shuffle_interval, in_range}
use Rattle.spec_hyparview.specs.Rules.{short_data}
use Rattle.spec_hyparview.specs.Handle as handle
use Rattle.spec_hyparview.specs.Handle.{new_station, zero_config, zero_station}
use Rattle.hyparview_state.specs.Layout as layout
use Rattle.hyparview_rules.specs.Pack.{present_word, kind_word, requests_word, front, pack}
use Rattle.base_columns.proofs.Words.{word_low, word_high}
use Rattle.hyparview.specs.Made.{lent, pack_made, made}

-- the sections of a new station are zeroes, by tools/make/layout.py
none_packed : pad {A = ℕ} 0 (layout.words - layout.numbers_end) [] ≡
    section layout.active_places []
    ++ (section layout.passive_places []
    ++ (section layout.alive_places []
    ++ (section layout.refused_places []
    ++ (numbers_section layout.requests_places []
    ++ (section layout.bootstrap_places []
    ++ (section layout.recent_places []
    ++ (numbers_section layout.joins_places []
    ++ (data_section layout.peer_data_places []
    ++ section layout.pins_places []))))))))
unfolding section numbers_section data_section pad keys values
none_packed = refl

-- end

-- the state of zeroes is a list of zeroes
pub zero_words : pad 0 layout.words [] ≡ pack zero_station
unfolding pack front zero_station new_station zero_config present_word kind_word requests_word bytes_of low_word high_word read_le section numbers_section data_section pad keys values
zero_words = refl

-- ---- own data in its words

module _ (d : PeerData) (low high : ℕ) (e : le 8 low ≡ take 8 (drop 0 d.bytes)) (f : le 8 high ≡ take 8 (drop 8 d.bytes)) (s : low < words_end) (t : high < words_end) where
  same : pad 0 16 (take d.len d.bytes) ≡ word_bytes low high
  same = sym (bytes_back d low high e f ∙ d.packed)

  pub some_low : low ≡ low_word (bytes_of (data_in (Some d)))
  unfolding data_in bytes_of low_word
  some_low = sym (ap (λ (b : List ℕ). read_le 8 b 0) same ∙ word_low low high s t)

  pub some_high : high ≡ high_word (bytes_of (data_in (Some d)))
  unfolding data_in bytes_of high_word
  some_high = sym (ap (λ (b : List ℕ). read_le 8 b 8) same ∙ word_high low high s t)

module _ (o : Option PeerData) (d : PeerData) (e : o ≡ Some d) where
  pub there_present : 1 ≡ present_word (data_in o)
  unfolding data_in present_word
  there_present = rw e

  pub there_len : d.len ≡ length (bytes_of (data_in o))
  unfolding data_in bytes_of
  there_len = rw e (sym (length_bytes d))

  module _ (low high : ℕ) (p : le 8 low ≡ take 8 (drop 0 d.bytes)) (q : le 8 high ≡ take 8 (drop 8 d.bytes)) (s : low < words_end) (t : high < words_end) where
    pub there_low : low ≡ low_word (bytes_of (data_in o))
    there_low = rw e (some_low d low high p q s t)

    pub there_high : high ≡ high_word (bytes_of (data_in o))
    there_high = rw e (some_high d low high p q s t)

-- absent data is zeroes
module _ (o : Option PeerData) (e : o ≡ None) where
  pub none_present : 0 ≡ present_word (data_in o)
  unfolding data_in present_word
  none_present = rw e

  pub none_len : 0 ≡ length (bytes_of (data_in o))
  unfolding data_in bytes_of
  none_len = rw e

  pub none_low : 0 ≡ low_word (bytes_of (data_in o))
  unfolding data_in bytes_of low_word read_le pad
  none_low = rw e

  pub none_high : 0 ≡ high_word (bytes_of (data_in o))
  unfolding data_in bytes_of high_word read_le pad
  none_high = rw e

-- the numbers of a new station, in the order of the layout
pub numbers_are : (own : Data) (p n low high : ℕ) → p ≡ present_word own → n ≡ length (bytes_of own) → low ≡ low_word (bytes_of own) → high ≡ high_word (bytes_of own)
    → (me : ℕ) (c : Config) (k : ℕ) → k ≡ min initial_shuffle_interval c.shuffle_interval
    → me ∷ p ∷ n ∷ c.active_view_capacity ∷ c.passive_view_capacity ∷ c.active_random_walk_length ∷ c.passive_random_walk_length ∷ c.shuffle_random_walk_length
    ∷ c.shuffle_active_view_count ∷ c.shuffle_passive_view_count ∷ c.shuffle_interval ∷ c.neighbor_request_timeout ∷ 0 ∷ k ∷ 0 ∷ 0 ∷ 0 ∷ 0 ∷ 0 ∷ 0 ∷ low ∷ high ∷ [] ≡ front (new_station me own c)
unfolding front new_station kind_word requests_word
numbers_are own p n low high ep en el eh me c k e = λ i.
    me ∷ ep i ∷ en i ∷ c.active_view_capacity ∷ c.passive_view_capacity ∷ c.active_random_walk_length ∷ c.passive_random_walk_length ∷ c.shuffle_random_walk_length
    ∷ c.shuffle_active_view_count ∷ c.shuffle_passive_view_count ∷ c.shuffle_interval ∷ c.neighbor_request_timeout ∷ 0 ∷ e i ∷ 0 ∷ 0 ∷ 0 ∷ 0 ∷ 0 ∷ 0 ∷ el i ∷ eh i ∷ []

-- ---- a new station

-- the numbers in their places, before zeroes
pub placed : (me : ℕ) (d : Data) (c : Config) (ys ns zs : List ℕ) → ys ≡ pad 0 layout.words [] → ns ≡ front (new_station me d c) → zs ≡ ns → zs ++ drop layout.numbers_end ys ≡ pack (new_station me d c)
unfolding pack new_station pad
placed me d c ys ns zs z p q = (λ i. (q ∙ p) i ++ drop layout.numbers_end (z i)) ∙ ap (λ (l : List ℕ). front (new_station me d c) ++ l) none_packed

-- the part of the words that the numbers stand in
pub front_inside : (ys : List ℕ) → ys ≡ pad 0 layout.words [] → layout.numbers_end ≡ length (take layout.numbers_end ys)
unfolding pad
front_inside ys z = sym (ap (λ (l : List ℕ). length (take layout.numbers_end l)) z)

pub front_long : (me : ℕ) (d : Data) (c : Config) (ns : List ℕ) → ns ≡ front (new_station me d c) → length ns ≡ layout.numbers_end
unfolding front
front_long me d c ns p = ap length p

-- ---- own data that is lent

-- r is the data that is lent, or none where that is over 16 bytes
pub record Own (r : Option PeerData) (present : Bool) (b : List ℕ) : Type 0 where
  pub ok : (is_some r || not present) ≡ short_data (lent present b)
  pub held : (is_some r || not present) ≡ true → data_in r ≡ lent present b

there : Data → Bool
there none = false
there (some b) = true

is_there : (r : Option PeerData) (d : Data) → data_in r ≡ d → is_some r ≡ there d
unfolding data_in there
is_there None d e = ap there e
is_there (Some x) d e = ap there e

pub own_taken : (r : Option PeerData) (b : List ℕ) (p : Bool) → p ≡ true → data_in r ≡ taken b → Own r p b
unfolding lent choose short_data there taken
own_taken r b p h e = rw h (split (leb (length b) 16)
    (λ t. let d : data_in r ≡ some b = e ∙ choose_yes _ _ _ t in record { ok = ap (λ (x : Bool). x || false) (is_there r _ d) ∙ sym t; held = λ q. d })
    (λ t. let d : data_in r ≡ none = e ∙ choose_no _ _ _ t in
    record { ok = ap (λ (x : Bool). x || false) (is_there r _ d) ∙ sym t; held = λ q. clash false (sym (ap (λ (x : Bool). x || false) (is_there r _ d)) ∙ q) refl }))

pub own_absent : (r : Option PeerData) (b : List ℕ) (p : Bool) → p ≡ false → r ≡ None → Own r p b
unfolding lent choose short_data data_in
own_absent r b p h e = rw (h, e) (record { ok = refl; held = λ q. refl })

-- ---- the answer

pub other_length : (xs : List ℕ) (me : ℕ) (d : Data) (c : Config) (k : ℕ) → k ≡ 2 → (length xs ≡ layout.words → ⊥) → record { code = k; words = xs } ≡ made xs me d c
unfolding made
other_length xs me d c k z n = rw z (sym (choose_no _ _ _ (ne_eqb (length xs) layout.words n)))

-- the words are cleared before all else
pub cleared : (xs ys : List ℕ) → length xs ≡ layout.words → ys ≡ pad 0 (length xs) (take 0 xs) → ys ≡ pad 0 layout.words []
cleared xs ys l e = e ∙ ap (λ (n : ℕ). pad {A = ℕ} 0 n []) l

module _ (xs : List ℕ) (me : ℕ) (c : Config) (r : Option PeerData) (p : Bool) (own : List ℕ) (b : Bool) (l : length xs ≡ layout.words) (e : b ≡ in_range c) (o : Own r p own) (s : Bool) (is : s ≡ is_some r) where
  abbrev d : Data
  d = lent p own

  abbrev ok : Bool
  ok = s || not p

  there_ok : ok ≡ (is_some r || not p)
  there_ok = ap (λ (x : Bool). x || not p) is

  to_made : pack_made (handle.new me d c) ≡ made xs me d c
  unfolding made
  to_made = sym (choose_yes _ _ _ (eq-eqb (length xs) layout.words l))

  tested : (in_range c && short_data d) ≡ (b && ok)
  tested = λ i. sym e i && sym (there_ok ∙ o.ok) i

  pub accepted : (ys : List ℕ) → (b && ok) ≡ true → ys ≡ pack (new_station me (data_in r) c) → record { code = 0; words = ys } ≡ made xs me d c
  unfolding pack_made handle.new
  accepted ys t q =
      let z : ys ≡ pack (new_station me d c) = q ∙ ap (λ (x : Data). pack (new_station me x c)) (o.held (sym there_ok ∙ and_right b ok t)) in
      let w : record { code = 0; state = new_station me d c } ≡ handle.new me d c = sym (choose_yes _ _ _ (tested ∙ t)) in
      (λ i. record { code = 0; words = z i }) ∙ ap pack_made w ∙ to_made

  pub turned_down : (ys : List ℕ) (k : ℕ) → k ≡ 1 → (b && ok) ≡ false → ys ≡ pad 0 (length xs) (take 0 xs) → record { code = k; words = ys } ≡ made xs me d c
  unfolding pack_made handle.new
  turned_down ys k a t q =
      let z : ys ≡ pack zero_station = cleared xs ys l q ∙ zero_words in
      let w : record { code = 1; state = zero_station } ≡ handle.new me d c = sym (choose_no _ _ _ (tested ∙ t)) in
      (λ i. record { code = a i; words = z i }) ∙ ap pack_made w ∙ to_made
