-- The words of a state, cut into their numbers and their sections: what a store does to each.
-- Assumes nothing.
use Prim.Native.Nat.{ℕ, zero, suc, ◌+◌, ◌≤◌, ◌<◌}
use mathlib.Core.Path.{◌≡◌, refl, sym, ap, ◌∙◌, subst}
use mathlib.Core.List.{List, [], ◌∷◌}
use native.Mathlib.Omega.{arith}
use lib.ListN.{length, take, get_or, set, length-set}
use lib.Seq.{slice, slice-cons, slice_empty, take-set-lt}
use borrow.Rule.Slice.PartMut.{put_mid}
use Rattle.base_util.specs.Section.{part}
use Rattle.base_util.proofs.Parts.{part_before}
use Rattle.base_words.specs.Parts.{parts, begin, end}
use Rattle.base_words.proofs.Parts.{begin_after, begin_within, put_same, put_parts, set_parts}
use Rattle.spec_hyparview.specs.Station.{Station}
use Rattle.hyparview_state.specs.Layout as layout
use Rattle.hyparview_state.specs.Layout.{words, Sections, sections}
use Rattle.hyparview_state.specs.Unpack.{own_at, settings_at, limit_at, station_of, unpack, Packed, shut, Becomes}

-- n words from place i on, one by one
unfoldable pub slots : ℕ → ℕ → List ℕ → List ℕ
slots i zero xs = []
slots i (suc n) xs = get_or xs i 0 ∷ slots (suc i) n xs

slots_are : (n i t : ℕ) (xs : List ℕ) → i + n ≡ t → t ≤ length xs → slots i n xs ≡ slice i t xs
unfolding slots
slots_are zero i t xs e h =
    let q : i ≡ t = omega (arith, e) in
    subst (λ (k : ℕ). [] ≡ slice i k xs) q (sym (slice_empty i xs))
slots_are (suc n) i t xs e h =
    ap (λ (l : List ℕ). get_or xs i 0 ∷ l) (slots_are n (suc i) t xs (omega (arith, e)) h) ∙ sym (slice-cons i t xs 0 (omega (arith, e)) h)

-- the numbers of the words, one by one, so that a store into them and a look at them compute
abbrev pub numbers : List ℕ → List ℕ
numbers xs = slots 0 layout.numbers_end xs

numbers_are : (xs : List ℕ) → length xs ≡ words → numbers xs ≡ take layout.numbers_end xs
numbers_are xs l = slots_are layout.numbers_end 0 layout.numbers_end xs refl (omega (arith, l))

-- ---- a store

-- the sections as a list, by tools/make/layout.py
abbrev pub sizes : List ℕ
sizes = layout.active_size ∷ layout.passive_size ∷ layout.alive_size ∷ layout.refused_size ∷ layout.requests_size ∷ layout.bootstrap_size ∷ layout.recent_size ∷ layout.joins_size ∷ layout.peer_data_size ∷ layout.pins_size ∷ []

abbrev listed : Sections → List (List ℕ)
listed s = s.active ∷ s.passive ∷ s.alive ∷ s.refused ∷ s.requests ∷ s.bootstrap ∷ s.recent ∷ s.joins ∷ s.peer_data ∷ s.pins ∷ []

abbrev gathered : List (List ℕ) → Sections
gathered l = record { active = get_or l 0 []; passive = get_or l 1 []; alive = get_or l 2 []; refused = get_or l 3 []; requests = get_or l 4 []; bootstrap = get_or l 5 []; recent = get_or l 6 []; joins = get_or l 7 []; peer_data = get_or l 8 []; pins = get_or l 9 [] }

-- end

-- ys has the numbers n and the sections s
pub record Cut (ys n : List ℕ) (s : Sections) : Type 0 where
  pub long : length ys ≡ words
  pub front : numbers ys ≡ n
  pub rest : sections ys ≡ s

pub cut_self : (xs : List ℕ) → length xs ≡ words → Cut xs (numbers xs) (sections xs)
cut_self xs l = record { long = l; front = refl; rest = refl }

-- a number is stored
pub cut_set : {ys n : List ℕ} {s : Sections} (i v : ℕ) → i < layout.numbers_end → Cut ys n s → Cut (set ys i v) (set n i v) s
unfolding parts
cut_set {ys} {n} {s} i v h c =
    let l = length-set ys i v ∙ c.long in
    record {
      long = l;
      front =
          numbers_are (set ys i v) l
          ∙ take-set-lt layout.numbers_end ys i v h
          ∙ ap (λ (m : List ℕ). set m i v) (sym (numbers_are ys c.long) ∙ c.front);
      rest = ap gathered (set_parts layout.numbers_end sizes i v ys h) ∙ c.rest;
    }

-- a section is put back
pub cut_put : {ys n : List ℕ} {s : Sections} (i : ℕ) (zs : List ℕ) → i < length sizes → length zs ≡ get_or sizes i 0 → Cut ys n s
    → Cut (put_mid (begin layout.numbers_end sizes i) (get_or sizes i 0) ys zs) n (gathered (set (listed s) i zs))
unfolding parts end part
cut_put {ys} {n} {s} i zs h m c =
    let a = begin layout.numbers_end sizes i in
    let k = get_or sizes i 0 in
    let q : a + k ≤ words = begin_within layout.numbers_end sizes i h in
    let l : length ys ≡ words = c.long in
    let o : length (put_mid a k ys zs) ≡ words = put_same a k ys zs (omega (arith, q, l)) m ∙ l in
    let f : numbers (put_mid a k ys zs) ≡ numbers ys =
    numbers_are (put_mid a k ys zs) o ∙ part_before 0 layout.numbers_end a k ys zs (begin_after layout.numbers_end sizes i) (omega (arith, q, l)) ∙ sym (numbers_are ys l) in
    record {
      long = o;
      front = f ∙ c.front;
      rest = ap gathered (put_parts layout.numbers_end sizes i ys zs h (omega (arith, l)) m) ∙ ap (λ (t : Sections). gathered (set (listed t) i zs)) c.rest;
    }

-- words with these numbers and sections stand for what those stand for
pub becomes : {ys n : List ℕ} {s : Sections} {g : Station} → Cut ys n s → Packed n s → station_of n s ≡ g → Becomes ys g
unfolding unpack station_of own_at settings_at limit_at slots
becomes {ys} {n} {s} {g} c p r =
    let q : Packed (numbers ys) (sections ys) = subst (λ (m : List ℕ). Packed m (sections ys)) (sym c.front) (subst (λ (t : Sections). Packed n t) (sym c.rest) p) in
    record {
      packed =
          shut c.long
          (record {
            present = q.present;
            timers = q.timers;
            limit = q.limit;
            alone = q.alone;
            short = q.short;
            own_data = q.own_data;
            settings = q.settings;
            short_interval = q.short_interval;
            sections = q.sections;
            active_fits = q.active_fits;
            passive_fits = q.passive_fits;
          });
      same = ap (λ (m : List ℕ). station_of m (sections ys)) c.front ∙ ap (station_of n) c.rest ∙ r;
    }
