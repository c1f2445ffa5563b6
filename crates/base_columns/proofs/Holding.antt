-- Whether a peer has exactly some bytes, by its words.
-- Assumes nothing.
use Prim.Native.Nat.{ℕ, ◌+◌, ◌≤◌, ◌<◌}
use mathlib.Core.Path.{◌≡◌, sym, ap, ◌∙◌}
use mathlib.Core.Bool.{true, false, ◌&&◌}
use mathlib.Core.List.{List}
use native.Mathlib.Omega.{arith}
use lib.ListN.{take, drop, get_or}
use lib.Dec.{eqb}
use borrow.Author.Tests.{eq-eqb, ne_eqb, eqb-true, eqb-false}
use Rattle.base_lists.specs.Array.{pad}
use Rattle.base_lists.specs.Bytes.{le, read_le}
use Rattle.base_lists.specs.Lists.{index_of, same}
use Rattle.base_lists.specs.Maps.{lookup}
use Rattle.base_lists.proofs.Choice.{split}
use Rattle.base_lists.proofs.Sets.{same_true, same_refl}
use Rattle.base_lists.proofs.Tests.{same_length}
use Rattle.base_lists.proofs.Entries.{entries_none}
use Rattle.base_peer.specs.declared.PeerData.{PeerData}
use Rattle.base_peer.specs.Data.{bytes_of, holds}
use Rattle.std.specs.Prelude.{Some}
use Rattle.base_peer.specs.Held.{data_in}
use Rattle.base_peer.specs.Maps.{DataEntry, no_data, entry_bytes, ValidEntry}
use Rattle.base_peer.proofs.Data.{length_bytes}
use Rattle.base_peer.proofs.Maps.{length_entry}
use Rattle.base_columns.specs.Columns.{words_end, word_bytes, row, count_of, data_map_at, ValidDataWords}
use Rattle.base_columns.proofs.Words.{word_low, word_high}
use Rattle.base_columns.proofs.Data.{bytes_back, data_entries, data_at_key, row_fine, data_looked}

module _ (n : ℕ) (m : List ℕ) (v : ValidDataWords n m) (p i : ℕ) (e : i ≡ index_of p (take (count_of n m) m)) where
  pub holds_none : (b : List ℕ) → count_of n m ≤ i → false ≡ holds (lookup p (data_map_at n m)) b
  unfolding holds
  holds_none b h = sym (ap (λ (o : _). holds o b) (entries_none no_data n entry_bytes ValidEntry _ _ _ _ (data_entries n m v) p i (data_at_key n m v p i e) h))

  module _ (d : PeerData) (h : i < count_of n m) where
    asked : holds (lookup p (data_map_at n m)) (bytes_of (data_in (Some d))) ≡ same (take (get_or m (n + i) 0) (word_bytes (get_or m (n + n + i) 0) (get_or m (n + n + n + i) 0))) (take d.len d.bytes)
    unfolding holds data_in bytes_of
    asked = ap (λ (o : _). holds o (take d.len d.bytes)) (data_looked n m v p i e h)

    holds_len : (get_or m (n + i) 0 ≡ d.len → ⊥) → false ≡ holds (lookup p (data_map_at n m)) (bytes_of (data_in (Some d)))
    holds_len o =
        let f = row_fine n m v p i e h in
        let r : DataEntry = row (get_or m (n + i) 0) (get_or m (n + n + i) 0) (get_or m (n + n + n + i) 0) in
        sym (asked ∙ same_length _ _ (λ q. o (sym (length_entry r f) ∙ q ∙ length_bytes d)))

    module _ (low high : ℕ) (l : get_or m (n + i) 0 ≡ d.len) (f : le 8 low ≡ take 8 (drop 0 d.bytes)) (g : le 8 high ≡ take 8 (drop 8 d.bytes))
        (s : low < words_end) (t : high < words_end) (a : get_or m (n + n + i) 0 < words_end) (b : get_or m (n + n + n + i) 0 < words_end) where
      -- where the bytes are the same, the words are
      agreed : holds (lookup p (data_map_at n m)) (bytes_of (data_in (Some d))) ≡ true → word_bytes (get_or m (n + n + i) 0) (get_or m (n + n + n + i) 0) ≡ word_bytes low high
      agreed q =
          let k = same_true _ _ (sym asked ∙ q) in
          (row_fine n m v p i e h).packed ∙ ap (pad 0 16) k ∙ sym d.packed ∙ sym (bytes_back d low high f g)

      agreed_low : holds (lookup p (data_map_at n m)) (bytes_of (data_in (Some d))) ≡ true → get_or m (n + n + i) 0 ≡ low
      agreed_low q = sym (word_low (get_or m (n + n + i) 0) (get_or m (n + n + n + i) 0) a b) ∙ ap (λ (z : List ℕ). read_le 8 z 0) (agreed q) ∙ word_low low high s t

      agreed_high : holds (lookup p (data_map_at n m)) (bytes_of (data_in (Some d))) ≡ true → get_or m (n + n + n + i) 0 ≡ high
      agreed_high q = sym (word_high (get_or m (n + n + i) 0) (get_or m (n + n + n + i) 0) a b) ∙ ap (λ (z : List ℕ). read_le 8 z 8) (agreed q) ∙ word_high low high s t

      holds_low : (get_or m (n + n + i) 0 ≡ low → ⊥) → false ≡ holds (lookup p (data_map_at n m)) (bytes_of (data_in (Some d)))
      holds_low o = split (holds (lookup p (data_map_at n m)) (bytes_of (data_in (Some d)))) (λ q. absurd (o (agreed_low q))) (λ q. sym q)

      holds_high : get_or m (n + n + i) 0 ≡ low → eqb (get_or m (n + n + n + i) 0) high ≡ holds (lookup p (data_map_at n m)) (bytes_of (data_in (Some d)))
      holds_high o =
          split (holds (lookup p (data_map_at n m)) (bytes_of (data_in (Some d)))) (λ q. eq-eqb _ _ (agreed_high q) ∙ sym q)
          (λ q. ne_eqb (get_or m (n + n + n + i) 0) high (λ z. clash z q) ∙ sym q)
        where
          clash : get_or m (n + n + n + i) 0 ≡ high → holds (lookup p (data_map_at n m)) (bytes_of (data_in (Some d))) ≡ false → ⊥
          clash z q =
              let k : word_bytes (get_or m (n + n + i) 0) (get_or m (n + n + n + i) 0) ≡ d.bytes = (λ j. word_bytes (o j) (z j)) ∙ bytes_back d low high f g in
              let y : holds (lookup p (data_map_at n m)) (bytes_of (data_in (Some d))) ≡ true = asked ∙ (λ j. same (take (l j) (k j)) (take d.len d.bytes)) ∙ same_refl _ in
              let x : ◌≡◌ {A = ℕ} 0 1 = cc in omega arith

    pub holds_all : (low high : ℕ) → le 8 low ≡ take 8 (drop 0 d.bytes) → le 8 high ≡ take 8 (drop 8 d.bytes) → low < words_end → high < words_end → get_or m (n + n + i) 0 < words_end → get_or m (n + n + n + i) 0 < words_end
        → ((eqb (get_or m (n + i) 0) d.len && eqb (get_or m (n + n + i) 0) low) && eqb (get_or m (n + n + n + i) 0) high) ≡ holds (lookup p (data_map_at n m)) (bytes_of (data_in (Some d)))
    holds_all low high f g s t a b =
        split (eqb (get_or m (n + i) 0) d.len)
        (λ y. split (eqb (get_or m (n + n + i) 0) low)
        (λ z. rw (y, z) (holds_high low high (eqb-true _ _ y) f g s t a b (eqb-true _ _ z)))
        (λ z. rw (y, z) (holds_low low high (eqb-true _ _ y) f g s t a b (eqb-false _ _ z))))
        (λ y. rw y (holds_len (eqb-false _ _ y)))
