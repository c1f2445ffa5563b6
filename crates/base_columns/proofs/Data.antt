-- The section of a map of data: its two halves are put back.
-- Assumes nothing.
use Prim.Native.Nat.{ℕ, ◌+◌, ◌-◌, ◌≤◌, ◌<◌}
use mathlib.Core.Path.{◌≡◌, refl, sym, ap, ◌∙◌, subst}
use mathlib.Core.Bool.{Bool, true, ◌||◌}
use mathlib.Core.List.{List, ◌++◌}
use mathlib.Core.Option.{some}
use native.Mathlib.Omega.{arith}
use lib.ListN.{length, take, drop, get_or, set, length-set, length-drop, take-append-drop}
use lib.Seq.{length-take-le, take-take, take_all, take-set-lt, get_or-take, get_or-set_other}
use lib.Dec.{ltb}
use borrow.Rule.Slice.PartMut.{put_mid}
use mir.Syntax.{w8}
use mir.Val.{Fits}
use Rattle.base_lists.specs.Array.{pad}
use Rattle.base_lists.specs.Lists.{mem, index_of, rank, shift_remove, insert_at, Rising}
use Rattle.base_lists.specs.Maps.{keys, has, lookup, cut, put}
use Rattle.base_lists.specs.Bytes.{le}
use Rattle.base_lists.proofs.Places.{cut_missing}
use Rattle.base_lists.proofs.Array.{length_pad, set_pad, length_shift_remove, length_insert_at}
use Rattle.base_lists.proofs.Entries.{Entries, entries_keys, entries_length, entries_taken, entries_found, entries_none, entries_each, entries_room, entries_cut, entries_replace, entries_insert}
use Rattle.base_peer.specs.declared.PeerData.{PeerData}
use Rattle.base_peer.specs.Data.{bytes_of}
use Rattle.std.specs.Prelude.{Some, None}
use Rattle.base_peer.specs.Held.{data_in}
use Rattle.base_peer.specs.Maps.{DataEntry, no_data, entry_bytes, ValidEntry}
use Rattle.base_peer.proofs.Maps.{unread}
use Rattle.base_util.specs.Section.{part, Filled}
use Rattle.base_columns.specs.Columns.{Two, word_bytes, row, rows, head_of, tail_of, count_of, entries_at, data_map_at, ValidDataWords, HoldsDataWords}
use Rattle.base_util.proofs.Columns.{filled_of, filled_length}
use Rattle.base_util.proofs.Parts.{part_long, part_read, part_set_after, part_set_in, part_set_before}
use Rattle.base_columns.proofs.Numbers.{Stored, twice_long, both_stored, once_second}
use Rattle.base_columns.proofs.Rows.{take_rows, pad_rows, shift_rows, insert_rows, set_rows, get_d_rows}

-- ---- the section and the map

module _ (n : ℕ) (m : List ℕ) (l : length m ≡ n + n + (n + n) + 1) where
  pub head_long : length (head_of n m) ≡ n + n
  unfolding head_of
  head_long = part_long 0 (n + n) m (omega arith)

  pub tail_long : length (tail_of n m) ≡ n + n
  unfolding tail_of
  tail_long = part_long (n + n) (n + n) m (omega arith)

-- a column of n places of which k are in use
pub filled_to : (n : ℕ) (s : List ℕ) (k : ℕ) → length s ≡ n → Filled s k → s ≡ pad 0 n (take k s)
filled_to n s k l f = subst (λ (j : ℕ). s ≡ pad 0 j (take k s)) l f.packed

module _ (n : ℕ) (m : List ℕ) (v : ValidDataWords n m) where
  pub keys_long : length (part 0 n (head_of n m)) ≡ n
  keys_long = part_long 0 n (head_of n m) (omega (arith, head_long n m v.long))

  pub lens_long : length (part n n (head_of n m)) ≡ n
  lens_long = part_long n n (head_of n m) (omega (arith, head_long n m v.long))

  pub lows_long : length (part 0 n (tail_of n m)) ≡ n
  lows_long = part_long 0 n (tail_of n m) (omega (arith, tail_long n m v.long))

  pub highs_long : length (part n n (tail_of n m)) ≡ n
  highs_long = part_long n n (tail_of n m) (omega (arith, tail_long n m v.long))

  pub taken_rows : take (count_of n m) (entries_at n m) ≡ rows (take (count_of n m) (part n n (head_of n m))) (take (count_of n m) (part 0 n (tail_of n m))) (take (count_of n m) (part n n (tail_of n m)))
  unfolding entries_at
  taken_rows = take_rows (count_of n m) (part n n (head_of n m)) (part 0 n (tail_of n m)) (part n n (tail_of n m))

  pub lows_like : length (take (count_of n m) (part 0 n (tail_of n m))) ≡ length (take (count_of n m) (part n n (head_of n m)))
  lows_like = filled_length _ _ v.lows ∙ sym (filled_length _ _ v.lens)

  pub highs_like : length (take (count_of n m) (part n n (tail_of n m))) ≡ length (take (count_of n m) (part n n (head_of n m)))
  highs_like = filled_length _ _ v.highs ∙ sym (filled_length _ _ v.lens)

  pub data_entries : Entries no_data n entry_bytes ValidEntry (part 0 n (head_of n m)) (entries_at n m) (count_of n m) (data_map_at n m)
  unfolding data_map_at entries_at
  data_entries = record {
    fits = v.fits;
    keyed = filled_to n _ _ keys_long v.keyed;
    packed = (λ i. rows (filled_to n _ _ lens_long v.lens i) (filled_to n _ _ lows_long v.lows i) (filled_to n _ _ highs_long v.highs i))
        ∙ pad_rows n _ _ _ lows_like highs_like ∙ ap (pad no_data n) (sym taken_rows);
    each = v.each;
    rises = v.rises;
    items = refl;
  }

  -- the peers of the first half
  peers_read : take (count_of n m) (head_of n m) ≡ take (count_of n m) (part 0 n (head_of n m))
  unfolding part
  peers_read = sym (take-take (count_of n m) n (head_of n m) v.fits)

  pub data_keys : keys (data_map_at n m) ≡ take (count_of n m) (head_of n m)
  data_keys = entries_keys no_data n entry_bytes ValidEntry _ _ _ _ data_entries ∙ sym peers_read

  -- the peers, as the code lends them
  pub peers_lent : take (count_of n m) m ≡ keys (data_map_at n m)
  unfolding head_of part
  peers_lent = sym (data_keys ∙ take-take (count_of n m) (n + n) m (omega (arith, v.fits)))

  pub data_counted : count_of n m ≡ length (take (count_of n m) m)
  data_counted = sym (length-take-le (count_of n m) m (omega (arith, v.fits, v.long)))

  pub data_has : (p : ℕ) (r : Bool) → r ≡ mem p (take (count_of n m) m) → r ≡ has p (data_map_at n m)
  unfolding has
  data_has p r q = q ∙ ap (mem p) peers_lent

-- the two halves hold the columns ks, bs, cs and ds
pub data_held : (n : ℕ) (m us ws : List ℕ) (c : ℕ) (ks bs cs ds : List ℕ) (l : List (ℕ × List ℕ)) → Stored (n + n) m us ws c → Two n us ks bs → Two n ws cs ds → c ≡ length ks → c ≡ length bs → c ≡ length cs → c ≡ length ds → c ≤ n
    → Entries no_data n entry_bytes ValidEntry (pad 0 n ks) (pad no_data n (rows bs cs ds)) c l → HoldsDataWords n m l
unfolding data_map_at entries_at head_of tail_of
data_held n m us ws c ks bs cs ds l s a b p q r o h e =
    let k : part 0 n (part 0 (n + n) m) ≡ pad 0 n ks = ap (part 0 n) s.first ∙ a.first in
    let x : part n n (part 0 (n + n) m) ≡ pad 0 n bs = ap (part n n) s.first ∙ a.second in
    let y : part 0 n (part (n + n) (n + n) m) ≡ pad 0 n cs = ap (part 0 n) s.second ∙ b.first in
    let z : part n n (part (n + n) (n + n) m) ≡ pad 0 n ds = ap (part n n) s.second ∙ b.second in
    let j : entries_at n m ≡ pad no_data n (rows bs cs ds) = (λ i. rows (x i) (y i) (z i)) ∙ pad_rows n bs cs ds (omega arith) (omega arith) in
    let g : Entries no_data n entry_bytes ValidEntry (part 0 n (part 0 (n + n) m)) (entries_at n m) (count_of n m) l =
    subst (λ (i : ℕ). Entries no_data n entry_bytes ValidEntry (part 0 n (part 0 (n + n) m)) (entries_at n m) i l) (sym s.count)
    (subst (λ (t : List DataEntry). Entries no_data n entry_bytes ValidEntry (part 0 n (part 0 (n + n) m)) t c l) (sym j)
    (subst (λ (t : List ℕ). Entries no_data n entry_bytes ValidEntry t (pad no_data n (rows bs cs ds)) c l) (sym k) e)) in
    let w : (t xs : List ℕ) → t ≡ pad 0 n xs → c ≡ length xs → Filled t (count_of n m) =
    λ t xs f i. subst (Filled t) (sym s.count) (filled_of n t xs c f i h) in
    record {
      valid = record {
        long = s.long;
        fits = g.fits;
        counted = ap length g.items ∙ entries_length no_data n entry_bytes ValidEntry _ _ _ l g;
        keyed = w _ ks k p;
        lens = w _ bs x q;
        lows = w _ cs y r;
        highs = w _ ds z o;
        each = g.each;
        rises = subst (λ (t : List (ℕ × List ℕ)). Rising (keys t)) (sym g.items) g.rises;
      };
      items = g.items;
    }

-- ---- bytes and words

pub bytes_back : (d : PeerData) (low high : ℕ) → le 8 low ≡ take 8 (drop 0 d.bytes) → le 8 high ≡ take 8 (drop 8 d.bytes) → word_bytes low high ≡ d.bytes
unfolding word_bytes
bytes_back d low high p q =
    let l : length d.bytes ≡ 16 = ap length d.packed ∙ length_pad 0 16 _ in
    let r : take 8 (drop 8 d.bytes) ≡ drop 8 d.bytes = take_all 8 (drop 8 d.bytes) (omega (arith, length-drop 8 d.bytes)) in
    (λ i. p i ++ q i) ∙ ap (λ (t : List ℕ). take 8 d.bytes ++ t) r ∙ take-append-drop 8 d.bytes

module _ (d : PeerData) (low high : ℕ) (e : word_bytes low high ≡ d.bytes) where
  row_valid : ValidEntry (row d.len low high)
  row_valid = record { fits = d.fits; packed = subst (λ (b : List ℕ). b ≡ pad 0 16 (take d.len b)) (sym e) d.packed }

  row_value : entry_bytes (row d.len low high) ≡ bytes_of (data_in (Some d))
  unfolding data_in bytes_of
  row_value = ap (take d.len) e

-- ---- a word of a half

first_set : (n : ℕ) (s : List ℕ) (i x : ℕ) → i < n → part 0 n (set s i x) ≡ set (part 0 n s) i x
unfolding part
first_set n s i x h = take-set-lt n s i x h

head_set : (n : ℕ) (m : List ℕ) (i x : ℕ) → i < n → part 0 (n + n) (set m (n + i) x) ≡ set (part 0 (n + n) m) (n + i) x
head_set n m i x h = first_set (n + n) m (n + i) x (omega arith)

pub head_read : (n : ℕ) (m : List ℕ) (i : ℕ) → i < n → get_or (part n n (head_of n m)) i 0 ≡ get_or m (n + i) 0
unfolding part head_of
head_read n m i h = part_read n n i (head_of n m) h ∙ get_or-take (n + n) m (n + i) 0 (omega arith)

pub low_read : (n : ℕ) (m : List ℕ) (i : ℕ) → i < n → get_or (part 0 n (tail_of n m)) i 0 ≡ get_or m (n + n + i) 0
unfolding part tail_of
low_read n m i h = get_or-take n (tail_of n m) i 0 h ∙ part_read (n + n) (n + n) i m (omega arith)

pub high_read : (n : ℕ) (m : List ℕ) (i : ℕ) → i < n → get_or (part n n (tail_of n m)) i 0 ≡ get_or m (n + n + n + i) 0
unfolding tail_of
high_read n m i h =
    let q : n + n + (n + i) ≡ n + n + n + i = omega arith in
    part_read n n i (tail_of n m) h ∙ part_read (n + n) (n + n) (n + i) m (omega arith) ∙ ap (λ (j : ℕ). get_or m j 0) q

-- ---- the steps

module _ (n : ℕ) (m : List ℕ) (v : ValidDataWords n m) where
  -- what the leaves ask of the first half
  pub data_inside : n + n ≡ length (part 0 (n + n) m)
  data_inside = sym (part_long 0 (n + n) m (omega (arith, v.long)))

  pub data_size : length (part 0 (n + n) m) ≡ n + n
  data_size = part_long 0 (n + n) m (omega (arith, v.long))

  pub data_keyed : Filled (part 0 n (head_of n m)) (count_of n m)
  data_keyed = v.keyed

  pub data_lens : Filled (part n n (head_of n m)) (count_of n m)
  data_lens = v.lens

  pub store_2 : (i x : ℕ) → i < count_of n m → n + n + i < length (set m (n + i) x)
  store_2 i x h = omega (arith, v.fits, v.long, length-set m (n + i) x)

  pub store_3 : (i x y : ℕ) → i < count_of n m → n + n + n + i < length (set (set m (n + i) x) (n + n + i) y)
  store_3 i x y h = omega (arith, v.fits, v.long, length-set m (n + i) x, length-set (set m (n + i) x) (n + n + i) y)

  -- and of the second, after the first was put back
  module _ (ys ks bs : List ℕ) (t : Two n ys ks bs) where
    tail_is : part (n + n) (n + n + (n + n) - (n + n)) (put_mid 0 (n + n) m ys) ≡ tail_of n m
    unfolding tail_of
    tail_is =
        let d : n + n + (n + n) - (n + n) ≡ n + n = omega arith in
        ap (λ (k : ℕ). part (n + n) k (put_mid 0 (n + n) m ys)) d ∙ once_second (n + n) m ys ys 0 v.long t.long

    pub tail_size : length (part (n + n) (n + n + (n + n) - (n + n)) (put_mid 0 (n + n) m ys)) ≡ n + n
    tail_size = ap length tail_is ∙ tail_long n m v.long

    pub tail_lows : Filled (part 0 n (part (n + n) (n + n + (n + n) - (n + n)) (put_mid 0 (n + n) m ys))) (count_of n m)
    tail_lows = subst (λ (s : List ℕ). Filled (part 0 n s) (count_of n m)) (sym tail_is) v.lows

    pub tail_highs : Filled (part n n (part (n + n) (n + n + (n + n) - (n + n)) (put_mid 0 (n + n) m ys))) (count_of n m)
    tail_highs = subst (λ (s : List ℕ). Filled (part n n s) (count_of n m)) (sym tail_is) v.highs

    pub data_long : (zs cs ds : List ℕ) (c : ℕ) → Two n zs cs ds → length (set (put_mid (n + n) (n + n + (n + n) - (n + n)) (put_mid 0 (n + n) m ys) zs) (n + n + (n + n)) c) ≡ length m
    data_long zs cs ds c u = length-set (put_mid (n + n) (n + n + (n + n) - (n + n)) (put_mid 0 (n + n) m ys) zs) (n + n + (n + n)) c ∙ twice_long (n + n) m ys zs c v.long t.long u.long ∙ sym v.long

    stored : (zs cs ds : List ℕ) (c : ℕ) → Two n zs cs ds → Stored (n + n) (set (put_mid (n + n) (n + n + (n + n) - (n + n)) (put_mid 0 (n + n) m ys) zs) (n + n + (n + n)) c) ys zs c
    stored zs cs ds c u = both_stored (n + n) m ys zs c v.long t.long u.long

  module _ (p i : ℕ) (e : i ≡ index_of p (take (count_of n m) m)) where
    pub data_at_key : i ≡ index_of p (keys (data_map_at n m))
    data_at_key = e ∙ ap (index_of p) (peers_lent n m v)

    pub data_kept : count_of n m ≤ i → HoldsDataWords n m (cut p (data_map_at n m))
    data_kept h = record { valid = v; items = sym (cut_missing p (data_map_at n m) (omega (arith, v.counted, data_at_key))) }

    pub data_room : count_of n m ≤ i → (has p (data_map_at n m) || ltb (length (data_map_at n m)) n) ≡ true → count_of n m < n
    data_room h t = entries_room no_data n entry_bytes ValidEntry _ _ _ _ (data_entries n m v) p i data_at_key h t

    pub data_removed : (ys zs : List ℕ) → i < count_of n m
        → Two n ys (shift_remove i (take (count_of n m) (part 0 n (head_of n m)))) (shift_remove i (take (count_of n m) (part n n (head_of n m))))
        → Two n zs (shift_remove i (take (count_of n m) (part 0 n (part (n + n) (n + n + (n + n) - (n + n)) (put_mid 0 (n + n) m ys))))) (shift_remove i (take (count_of n m) (part n n (part (n + n) (n + n + (n + n) - (n + n)) (put_mid 0 (n + n) m ys)))))
        → HoldsDataWords n (set (put_mid (n + n) (n + n + (n + n) - (n + n)) (put_mid 0 (n + n) m ys) zs) (n + n + (n + n)) (count_of n m - 1)) (cut p (data_map_at n m))
    data_removed ys zs h a b =
        let u : Two n zs (shift_remove i (take (count_of n m) (part 0 n (tail_of n m)))) (shift_remove i (take (count_of n m) (part n n (tail_of n m)))) =
        subst (λ (s : List ℕ). Two n zs (shift_remove i (take (count_of n m) (part 0 n s))) (shift_remove i (take (count_of n m) (part n n s)))) (tail_is ys _ _ a) b in
        let z : (s : List ℕ) → Filled s (count_of n m) → count_of n m - 1 ≡ length (shift_remove i (take (count_of n m) s)) =
        λ s f. omega (arith, filled_length s (count_of n m) f, length_shift_remove i (take (count_of n m) s) (omega (arith, filled_length s (count_of n m) f))) in
        data_held n _ ys zs (count_of n m - 1) _ _ _ _ _ (stored ys _ _ a zs _ _ (count_of n m - 1) u) a u
        (z _ v.keyed) (z _ v.lens) (z _ v.lows) (z _ v.highs) (omega (arith, v.fits))
        (entries_cut no_data n entry_bytes ValidEntry _ _ _ _ (data_entries n m v) p i _ _ (count_of n m - 1) data_at_key h refl
        (ap (pad no_data n) (shift_rows i _ _ _ (lows_like n m v) (highs_like n m v) ∙ ap (shift_remove i) (sym (taken_rows n m v)))) (omega arith))

    module _ (d : PeerData) (low high : ℕ) (f : le 8 low ≡ take 8 (drop 0 d.bytes)) (g : le 8 high ≡ take 8 (drop 8 d.bytes)) where
      pub data_inserted : (a : ℕ) (ys zs : List ℕ) → count_of n m ≤ i → (has p (data_map_at n m) || ltb (length (data_map_at n m)) n) ≡ true → a ≡ rank p (take (count_of n m) m)
          → Two n ys (insert_at a p (take (count_of n m) (part 0 n (head_of n m)))) (insert_at a d.len (take (count_of n m) (part n n (head_of n m))))
          → Two n zs (insert_at a low (take (count_of n m) (part 0 n (part (n + n) (n + n + (n + n) - (n + n)) (put_mid 0 (n + n) m ys))))) (insert_at a high (take (count_of n m) (part n n (part (n + n) (n + n + (n + n) - (n + n)) (put_mid 0 (n + n) m ys)))))
          → HoldsDataWords n (set (put_mid (n + n) (n + n + (n + n) - (n + n)) (put_mid 0 (n + n) m ys) zs) (n + n + (n + n)) (count_of n m + 1)) (put p (bytes_of (data_in (Some d))) (data_map_at n m))
      data_inserted a ys zs h t r x b =
          let k = bytes_back d low high f g in
          let u : Two n zs (insert_at a low (take (count_of n m) (part 0 n (tail_of n m)))) (insert_at a high (take (count_of n m) (part n n (tail_of n m)))) =
          subst (λ (s : List ℕ). Two n zs (insert_at a low (take (count_of n m) (part 0 n s))) (insert_at a high (take (count_of n m) (part n n s)))) (tail_is ys _ _ x) b in
          let z : (y : ℕ) (s : List ℕ) → Filled s (count_of n m) → count_of n m + 1 ≡ length (insert_at a y (take (count_of n m) s)) =
          λ y s o. omega (arith, filled_length s (count_of n m) o, length_insert_at a y (take (count_of n m) s)) in
          data_held n _ ys zs (count_of n m + 1) _ _ _ _ _ (stored ys _ _ x zs _ _ (count_of n m + 1) u) x u
          (z p _ v.keyed) (z d.len _ v.lens) (z low _ v.lows) (z high _ v.highs) (omega (arith, data_room h t))
          (entries_insert no_data n entry_bytes ValidEntry _ _ _ _ (data_entries n m v) p (bytes_of (data_in (Some d))) a (row d.len low high) _ _ (r ∙ ap (rank p) (peers_lent n m v))
          (subst (λ (j : ℕ). count_of n m ≤ j) data_at_key h) (data_room h t) (row_valid d low high k) (row_value d low high k) refl
          (ap (pad no_data n) (insert_rows a d.len low high _ _ _ (lows_like n m v) (highs_like n m v) ∙ ap (insert_at a (row d.len low high)) (sym (taken_rows n m v)))))

      -- the words of the entry are stored over
      pub data_replaced : i < count_of n m → HoldsDataWords n (set (set (set m (n + i) d.len) (n + n + i) low) (n + n + n + i) high) (put p (bytes_of (data_in (Some d))) (data_map_at n m))
      unfolding head_of tail_of
      data_replaced h =
          let k = bytes_back d low high f g in
          let y = v.fits in
          let y' = v.long in
          let c : ℕ = count_of n m in
          let r : List ℕ = set (set (set m (n + i) d.len) (n + n + i) low) (n + n + n + i) high in
          let us : List ℕ = set (part 0 (n + n) m) (n + i) d.len in
          let ws : List ℕ = set (set (part (n + n) (n + n) m) i low) (n + i) high in
          let q : n + n + n + i ≡ n + n + (n + i) = omega arith in
          let s : Stored (n + n) r us ws c = record {
            long = simp length-set v.long;
            first = part_set_after 0 (n + n) (n + n + n + i) high _ (omega arith) ∙ part_set_after 0 (n + n) (n + n + i) low _ (omega arith) ∙ head_set n m i d.len (omega arith);
            second = ap (λ (j : ℕ). part (n + n) (n + n) (set (set (set m (n + i) d.len) (n + n + i) low) j high)) q
                ∙ part_set_in (n + n) (n + n) (n + i) high (set (set m (n + i) d.len) (n + n + i) low) (omega arith)
                ∙ ap (λ (t : List ℕ). set t (n + i) high) (part_set_in (n + n) (n + n) i low (set m (n + i) d.len) (omega arith) ∙ ap (λ (t : List ℕ). set t i low) (part_set_before (n + n) (n + n) (n + i) d.len m (omega arith)));
            count = get_or-set_other (set (set m (n + i) d.len) (n + n + i) low) (n + n + n + i) (n + n + (n + n)) high 0 (λ j. omega arith)
                ∙ get_or-set_other (set m (n + i) d.len) (n + n + i) (n + n + (n + n)) low 0 (λ j. omega arith) ∙ get_or-set_other m (n + i) (n + n + (n + n)) d.len 0 (λ j. omega arith);
          } in
          let over : (t : List ℕ) (x : ℕ) → length t ≡ n → Filled t c → set t i x ≡ pad 0 n (set (take c t) i x) =
          λ t x l o. ap (λ (j : List ℕ). set j i x) (filled_to n t c l o) ∙ set_pad 0 n (take c t) i x (omega (arith, filled_length t c o)) in
          let a : Two n us (take c (part 0 n (head_of n m))) (set (take c (part n n (head_of n m))) i d.len) = record {
            long = length-set (part 0 (n + n) m) (n + i) d.len ∙ data_size;
            first = part_set_after 0 n (n + i) d.len (part 0 (n + n) m) (omega arith) ∙ filled_to n _ c (keys_long n m v) v.keyed;
            second = part_set_in n n i d.len (part 0 (n + n) m) (omega arith) ∙ over _ d.len (lens_long n m v) v.lens;
          } in
          let b : Two n ws (set (take c (part 0 n (tail_of n m))) i low) (set (take c (part n n (tail_of n m))) i high) = record {
            long = simp length-set (tail_long n m v.long);
            first = part_set_after 0 n (n + i) high (set (part (n + n) (n + n) m) i low) (omega arith) ∙ first_set n (part (n + n) (n + n) m) i low (omega arith) ∙ over _ low (lows_long n m v) v.lows;
            second = part_set_in n n i high (set (part (n + n) (n + n) m) i low) (omega arith) ∙ ap (λ (t : List ℕ). set t i high) (part_set_before n n i low (part (n + n) (n + n) m) (omega arith)) ∙ over _ high (highs_long n m v) v.highs;
          } in
          let x = entries_replace no_data n entry_bytes ValidEntry _ _ _ _ (data_entries n m v) p (bytes_of (data_in (Some d))) i (row d.len low high) data_at_key h (row_valid d low high k) (row_value d low high k) in
          let e₁ : set (entries_at n m) i (row d.len low high) ≡ pad no_data n (rows (set (take c (part n n (head_of n m))) i d.len) (set (take c (part 0 n (tail_of n m))) i low) (set (take c (part n n (tail_of n m))) i high)) =
          ap (λ (t : List DataEntry). set t i (row d.len low high)) (data_entries n m v).packed
          ∙ set_pad no_data n (take c (entries_at n m)) i (row d.len low high) (omega (arith, entries_taken no_data n entry_bytes ValidEntry _ _ _ _ (data_entries n m v)))
          ∙ ap (pad no_data n) (ap (λ (t : List DataEntry). set t i (row d.len low high)) (taken_rows n m v) ∙ sym (set_rows i d.len low high _ _ _)) in
          let z : (t : List ℕ) (j : ℕ) → Filled t c → c ≡ length (set (take c t) i j) = λ t j o. sym (length-set (take c t) i j ∙ filled_length t c o) in
          data_held n r us ws c _ _ _ _ _ s a b (sym (filled_length _ _ v.keyed)) (z _ d.len v.lens) (z _ low v.lows) (z _ high v.highs) v.fits
          (subst (λ (t : List DataEntry). Entries no_data n entry_bytes ValidEntry (pad 0 n (take c (part 0 n (head_of n m)))) t c (put p (bytes_of (data_in (Some d))) (data_map_at n m))) e₁
          (subst (λ (t : List ℕ). Entries no_data n entry_bytes ValidEntry t (set (entries_at n m) i (row d.len low high)) c (put p (bytes_of (data_in (Some d))) (data_map_at n m))) (filled_to n _ c (keys_long n m v) v.keyed) x))

    -- ---- a read

    row_at : i < count_of n m → get_or (entries_at n m) i unread ≡ row (get_or m (n + i) 0) (get_or m (n + n + i) 0) (get_or m (n + n + n + i) 0)
    unfolding entries_at
    row_at h =
        let y = v.fits in
        let a : get_or (part n n (head_of n m)) i 0 ≡ get_or m (n + i) 0 = head_read n m i (omega arith) in
        let b : get_or (part 0 n (tail_of n m)) i 0 ≡ get_or m (n + n + i) 0 = low_read n m i (omega arith) in
        let c : get_or (part n n (tail_of n m)) i 0 ≡ get_or m (n + n + n + i) 0 = high_read n m i (omega arith) in
        get_d_rows i unread _ _ _ (lows_long n m v ∙ sym (lens_long n m v)) (highs_long n m v ∙ sym (lens_long n m v)) (omega (arith, lens_long n m v)) ∙ (λ j. row (a j) (b j) (c j))

    pub row_fine : i < count_of n m → ValidEntry (row (get_or m (n + i) 0) (get_or m (n + n + i) 0) (get_or m (n + n + n + i) 0))
    row_fine h = subst ValidEntry (row_at h) (entries_each no_data n entry_bytes ValidEntry _ _ _ _ (data_entries n m v) i unread h)

    pub len_fits : i < count_of n m → get_or m (n + i) 0 ≤ 16
    len_fits h = (row_fine h).fits

    pub len_byte : i < count_of n m → Fits w8 (get_or m (n + i) 0)
    len_byte h = let y = len_fits h in omega arith

    pub data_looked : i < count_of n m → lookup p (data_map_at n m) ≡ some (entry_bytes (row (get_or m (n + i) 0) (get_or m (n + n + i) 0) (get_or m (n + n + n + i) 0)))
    data_looked h = entries_found no_data n entry_bytes ValidEntry _ _ _ _ (data_entries n m v) p i unread data_at_key h ∙ ap (λ (r : DataEntry). some (entry_bytes r)) (row_at h)

    pub bytes_packed : (b : List ℕ) → b ≡ word_bytes (get_or m (n + n + i) 0) (get_or m (n + n + n + i) 0) → i < count_of n m → b ≡ pad 0 16 (take (get_or m (n + i) 0) b)
    bytes_packed b q h = subst (λ (t : List ℕ). t ≡ pad 0 16 (take (get_or m (n + i) 0) t)) (sym q) (row_fine h).packed

    pub data_found : (d : PeerData) → d.len ≡ get_or m (n + i) 0 → d.bytes ≡ word_bytes (get_or m (n + n + i) 0) (get_or m (n + n + n + i) 0) → i < count_of n m → data_in (Some d) ≡ lookup p (data_map_at n m)
    unfolding data_in
    data_found d a q h = (λ j. some (take (a j) (q j))) ∙ sym (data_looked h)

    pub data_missing : count_of n m ≤ i → data_in None ≡ lookup p (data_map_at n m)
    unfolding data_in
    data_missing h = sym (entries_none no_data n entry_bytes ValidEntry _ _ _ _ (data_entries n m v) p i data_at_key h)
