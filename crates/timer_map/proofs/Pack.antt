-- Packing and unpacking undo each other, and what storing a row and taking one out do to packed words.
-- Assumes nothing.
use Prim.Native.Nat.{ℕ, zero, suc, ◌+◌, ◌*◌, ◌-◌, ◌≤◌, ◌<◌}
use mathlib.Core.Path.{◌≡◌, refl, sym, ap, ◌∙◌, subst}
use mathlib.Core.Bool.{true}
use mathlib.Core.List.{List, [], ◌∷◌, ◌++◌, append_assoc, append-nil}
use native.Mathlib.Nat.{add-zero}
use native.Mathlib.Omega.{arith}
use lib.ListN.{length, take, drop, get_or, set, replicate, length-append, length-drop, length-replicate, take-append-drop, replicate-append-replicate}
use lib.Seq.{paste, take_at, drop_at, split_at, length-take-le, take-add, drop-drop, drop-cons, get_or-drop, get_or-append-add}
use borrow.Rule.Slice.PartMut.{put_mid}
use Rattle.std.proofs.lemmas.List.{drop_all}
use Rattle.std.proofs.lemmas.List.Edits.{paste_all}
use lib.Dec.{eqb, leb}
use borrow.Author.Tests.{eqb-true, eq-eqb, leb-true, le-leb}
use Rattle.base_lists.specs.Lists.{shift_remove}
use Rattle.base_lists.specs.Tests.{every}
use Rattle.base_lists.proofs.Choice.{and_left, and_right}
use Rattle.base_lists.proofs.Tests.{both_true}
use Rattle.timer_map.specs.Entries.{queue_entry_ok, no_queue_entry}
use Rattle.timer_map.specs.Words.{queue_row, queue_rows, pack_queue, queue_entry_at, queue_entries_at, entries_of, queue_count, unused_word, queue_ok, SoundQueue}
use Rattle.timer_map.specs.declared.TimerMapEntry.{TimerMapEntry}

-- ---- rows

pub length_rows : (es : List TimerMapEntry) → length (queue_rows es) ≡ 8 * length es
unfolding queue_rows queue_row
length_rows [] = refl
length_rows (e ∷ es) = omega (arith, length_rows es)

pub row_length : (e : TimerMapEntry) → length (queue_row e) ≡ 8
unfolding queue_row
row_length e = refl

one_row : (e : TimerMapEntry) → queue_rows (e ∷ []) ≡ queue_row e
unfolding queue_rows queue_row
one_row e = refl

pub rows_append : (xs ys : List TimerMapEntry) → queue_rows (xs ++ ys) ≡ queue_rows xs ++ queue_rows ys
unfolding queue_rows
rows_append [] ys = refl
rows_append (x ∷ xs) ys = ap (λ (l : List ℕ). queue_row x ++ l) (rows_append xs ys) ∙ sym (append_assoc (queue_row x) (queue_rows xs) (queue_rows ys))

pub length_entries : (ws : List ℕ) (at n : ℕ) → length (queue_entries_at ws at n) ≡ n
unfolding queue_entries_at
length_entries ws at zero = refl
length_entries ws at (suc n) = ap suc (length_entries ws (at + 8) n)

pub getD_entries : (ws : List ℕ) (at n i : ℕ) (d : TimerMapEntry) → i < n → get_or (queue_entries_at ws at n) i d ≡ queue_entry_at ws (at + 8 * i)
unfolding queue_entries_at
getD_entries ws at zero i d h = absurd (omega (arith, h))
getD_entries ws at (suc n) zero d h = let e : at ≡ at + 8 * 0 = omega arith in ap (queue_entry_at ws) e
getD_entries ws at (suc n) (suc i) d h = let e : at + 8 + 8 * i ≡ at + 8 * suc i = omega arith in getD_entries ws (at + 8) n i d (omega arith) ∙ ap (queue_entry_at ws) e

-- the first eight of a list
eight : (l : List ℕ) → 8 ≤ length l → take 8 l ≡ get_or l 0 0 ∷ get_or l 1 0 ∷ get_or l 2 0 ∷ get_or l 3 0 ∷ get_or l 4 0 ∷ get_or l 5 0 ∷ get_or l 6 0 ∷ get_or l 7 0 ∷ []
eight [] h = absurd (omega arith)
eight (a ∷ []) h = absurd (omega arith)
eight (a ∷ b ∷ []) h = absurd (omega arith)
eight (a ∷ b ∷ c ∷ []) h = absurd (omega arith)
eight (a ∷ b ∷ c ∷ d ∷ []) h = absurd (omega arith)
eight (a ∷ b ∷ c ∷ d ∷ e ∷ []) h = absurd (omega arith)
eight (a ∷ b ∷ c ∷ d ∷ e ∷ f ∷ []) h = absurd (omega arith)
eight (a ∷ b ∷ c ∷ d ∷ e ∷ f ∷ g ∷ []) h = absurd (omega arith)
eight (a ∷ b ∷ c ∷ d ∷ e ∷ f ∷ g ∷ k ∷ l) h = refl

row_read : (ws : List ℕ) (at : ℕ) → at + 8 ≤ length ws → take 8 (drop at ws) ≡ queue_row (queue_entry_at ws at)
unfolding queue_row queue_entry_at
row_read ws at h =
    let z : get_or (drop at ws) 0 0 ≡ get_or ws at 0 = get_or-drop at ws 0 0 ∙ ap (λ (n : ℕ). get_or ws n 0) (add-zero at) in
    eight (drop at ws) (omega (arith, length-drop at ws))
    ∙ (λ i. z i ∷ get_or-drop at ws 1 0 i ∷ get_or-drop at ws 2 0 i ∷ get_or-drop at ws 3 0 i ∷ get_or-drop at ws 4 0 i ∷ get_or-drop at ws 5 0 i ∷ get_or-drop at ws 6 0 i ∷ get_or-drop at ws 7 0 i ∷ [])

rows_entries : (ws : List ℕ) (at n : ℕ) → at + 8 * n ≤ length ws → queue_rows (queue_entries_at ws at n) ≡ take (8 * n) (drop at ws)
unfolding queue_rows queue_entries_at
rows_entries ws at zero h = refl
rows_entries ws at (suc n) h =
    let k : 8 + 8 * n ≡ 8 * suc n = omega arith in
    ap (λ (l : List ℕ). queue_row (queue_entry_at ws at) ++ l) (rows_entries ws (at + 8) n (omega arith) ∙ ap (take (8 * n)) (sym (drop-drop 8 at ws)))
    ∙ ap (λ (l : List ℕ). l ++ take (8 * n) (drop 8 (drop at ws))) (sym (row_read ws at (omega arith)))
    ∙ sym (take-add 8 (8 * n) (drop at ws)) ∙ ap (λ (j : ℕ). take j (drop at ws)) k

zeroes : (l : List ℕ) → every unused_word l ≡ true → l ≡ replicate (length l) 0
unfolding every
zeroes [] e = refl
zeroes (x ∷ l) e = λ i. eqb-true x 0 (and_left (eqb x 0) _ e) i ∷ zeroes l (and_right (eqb x 0) _ e) i

all_zero : (n : ℕ) → every unused_word (replicate n 0) ≡ true
unfolding every
all_zero zero = refl
all_zero (suc n) = all_zero n

-- ---- words that keep the rules are packed

back : (ws : List ℕ) → length ws ≡ 513 → queue_count ws ≤ 64 → every unused_word (drop (1 + 8 * queue_count ws) ws) ≡ true → ws ≡ pack_queue (entries_of ws)
unfolding pack_queue entries_of
back ws l f z =
    let n : ℕ = queue_count ws in
    let c : length (queue_entries_at ws 1 n) ≡ n = length_entries ws 1 n in
    let r : length (drop (1 + 8 * n) ws) ≡ 512 - 8 * n = omega (arith, length-drop (1 + 8 * n) ws) in
    drop-cons ws 0 0 (omega arith)
    ∙ ap (λ (l : List ℕ). n ∷ l)
    (sym (take-append-drop (8 * n) (drop 1 ws))
    ∙ ap (λ (l : List ℕ). l ++ drop (8 * n) (drop 1 ws)) (sym (rows_entries ws 1 n (omega arith)))
    ∙ ap (λ (l : List ℕ). queue_rows (queue_entries_at ws 1 n) ++ l) (drop-drop (8 * n) 1 ws ∙ zeroes (drop (1 + 8 * n) ws) z ∙ ap (λ (k : ℕ). replicate k 0) r))
    ∙ ap (λ (k : ℕ). k ∷ (queue_rows (queue_entries_at ws 1 n) ++ replicate (512 - 8 * k) 0)) (sym c)

pub entries_count : (ws : List ℕ) → length (entries_of ws) ≡ queue_count ws
unfolding entries_of
entries_count ws = length_entries ws 1 (queue_count ws)

pub sound : (ws : List ℕ) → queue_ok ws ≡ true → SoundQueue ws
unfolding queue_ok
sound ws e =
    let l : length ws ≡ 513 = eqb-true (length ws) 513 (and_left (eqb (length ws) 513) _ e) in
    let e₁ = and_right (eqb (length ws) 513) _ e in
    let f : queue_count ws ≤ 64 = leb-true (queue_count ws) 64 (and_left (leb (queue_count ws) 64) _ e₁) in
    let e₂ = and_right (leb (queue_count ws) 64) _ e₁ in
    record {
      long = l;
      few = f;
      count = entries_count ws;
      timers = and_left (every queue_entry_ok (entries_of ws)) _ e₂;
      is = back ws l f (and_right (every queue_entry_ok (entries_of ws)) _ e₂);
    }

-- ---- packed words keep the rules

read_row : (xs : List ℕ) (e : TimerMapEntry) (ys : List ℕ) → queue_entry_at (xs ++ (queue_row e ++ ys)) (length xs) ≡ e
unfolding queue_entry_at queue_row
read_row xs e ys = λ i. record {
  time = (ap (λ (n : ℕ). get_or (xs ++ (queue_row e ++ ys)) n 0) (sym (add-zero (length xs))) ∙ get_or-append-add xs (queue_row e ++ ys) 0 0) i;
  item = record {
    kind = get_or-append-add xs (queue_row e ++ ys) 1 0 i;
    peer = get_or-append-add xs (queue_row e ++ ys) 2 0 i;
    number = get_or-append-add xs (queue_row e ++ ys) 3 0 i;
    id = record {
      0 = get_or-append-add xs (queue_row e ++ ys) 4 0 i;
      1 = get_or-append-add xs (queue_row e ++ ys) 5 0 i;
      2 = get_or-append-add xs (queue_row e ++ ys) 6 0 i;
      3 = get_or-append-add xs (queue_row e ++ ys) 7 0 i;
    };
  };
}

length_more : (xs : List ℕ) (e : TimerMapEntry) → length (xs ++ queue_row e) ≡ length xs + 8
unfolding queue_row
length_more xs e = length-append xs (queue_row e)

entries_rows : (xs : List ℕ) (es : List TimerMapEntry) (ys : List ℕ) → queue_entries_at (xs ++ (queue_rows es ++ ys)) (length xs) (length es) ≡ es
unfolding queue_entries_at queue_rows
entries_rows xs [] ys = refl
entries_rows xs (e ∷ es) ys =
    let g : xs ++ (queue_row e ++ queue_rows es ++ ys) ≡ xs ++ (queue_row e ++ (queue_rows es ++ ys)) = ap (λ (l : List ℕ). xs ++ l) (append_assoc (queue_row e) (queue_rows es) ys) in
    let h : xs ++ (queue_row e ++ (queue_rows es ++ ys)) ≡ xs ++ queue_row e ++ (queue_rows es ++ ys) = sym (append_assoc xs (queue_row e) (queue_rows es ++ ys)) in
    λ i. (ap (λ (l : List ℕ). queue_entry_at l (length xs)) g ∙ read_row xs e (queue_rows es ++ ys)) i
    ∷ (ap (λ (l : List ℕ). queue_entries_at l (length xs + 8) (length es)) (g ∙ h) ∙ ap (λ (n : ℕ). queue_entries_at (xs ++ queue_row e ++ (queue_rows es ++ ys)) n (length es)) (sym (length_more xs e)) ∙ entries_rows (xs ++ queue_row e) es ys) i

pub entries_pack : (es : List TimerMapEntry) → entries_of (pack_queue es) ≡ es
unfolding pack_queue entries_of
entries_pack es = entries_rows (length es ∷ []) es (replicate (512 - 8 * length es) 0)

pub length_pack : (es : List TimerMapEntry) → length es ≤ 64 → length (pack_queue es) ≡ 513
unfolding pack_queue
length_pack es h = simp (length-append, length_rows, length-replicate) (omega arith)

-- the words after the entries
after : (es : List TimerMapEntry) → drop (1 + 8 * length es) (pack_queue es) ≡ replicate (512 - 8 * length es) 0
unfolding pack_queue
after es = drop_at (length es ∷ queue_rows es) (replicate (512 - 8 * length es) 0) (1 + 8 * length es) (omega (arith, length_rows es))

counted : (es : List TimerMapEntry) → queue_count (pack_queue es) ≡ length es
unfolding pack_queue
counted es = refl

pub ok_pack : (es : List TimerMapEntry) → length es ≤ 64 → every queue_entry_ok es ≡ true → queue_ok (pack_queue es) ≡ true
unfolding queue_ok
ok_pack es h e =
    both_true (eqb (length (pack_queue es)) 513) _ (eq-eqb (length (pack_queue es)) 513 (length_pack es h))
    (both_true (leb (queue_count (pack_queue es)) 64) _ (le-leb (queue_count (pack_queue es)) 64 (omega (arith, counted es)))
    (both_true (every queue_entry_ok (entries_of (pack_queue es))) _ (ap (every queue_entry_ok) (entries_pack es) ∙ e)
    (ap (λ (n : ℕ). every unused_word (drop (1 + 8 * n) (pack_queue es))) (counted es) ∙ ap (every unused_word) (after es) ∙ all_zero (512 - 8 * length es))))

-- ---- one entry more

abbrev zero_words : ℕ → List ℕ
zero_words n = replicate n 0

fewer : (n : ℕ) → 8 ≤ n → drop 8 (zero_words n) ≡ zero_words (n - 8)
fewer n h =
    let e : n ≡ 8 + (n - 8) = omega arith in
    ap (λ (k : ℕ). drop 8 (zero_words k)) e ∙ ap (drop 8) (sym (replicate-append-replicate 8 (n - 8) 0)) ∙ drop_at (zero_words 8) (zero_words (n - 8)) 8 refl

put_row : (es : List TimerMapEntry) (e : TimerMapEntry) → length es < 64
    → take (1 + 8 * length es) (pack_queue es) ++ (queue_row e ++ drop (1 + 8 * length es + 8) (pack_queue es)) ≡ length es ∷ (queue_rows es ++ queue_row e ++ replicate (512 - 8 * length es - 8) 0)
unfolding pack_queue
put_row es e h =
    let n : ℕ = length es in
    let z : List ℕ = replicate (512 - 8 * n) 0 in
    let p : length (n ∷ queue_rows es) ≡ 1 + 8 * n = omega (arith, length_rows es) in
    ap (λ (l : List ℕ). l ++ (queue_row e ++ drop (1 + 8 * n + 8) (n ∷ (queue_rows es ++ z)))) (take_at (n ∷ queue_rows es) z (1 + 8 * n) p)
    ∙ ap (λ (l : List ℕ). (n ∷ queue_rows es) ++ (queue_row e ++ l))
    (sym (drop-drop 8 (1 + 8 * n) (n ∷ (queue_rows es ++ z))) ∙ ap (drop 8) (drop_at (n ∷ queue_rows es) z (1 + 8 * n) p) ∙ fewer (512 - 8 * n) (omega arith))
    ∙ sym (append_assoc (n ∷ queue_rows es) (queue_row e) (replicate (512 - 8 * n - 8) 0))

push_pack : (es : List TimerMapEntry) (e : TimerMapEntry) → length es < 64
    → set (take (1 + 8 * length es) (pack_queue es) ++ (queue_row e ++ drop (1 + 8 * length es + 8) (pack_queue es))) 0 (length es + 1) ≡ pack_queue (es ++ (e ∷ []))
unfolding pack_queue
push_pack es e h =
    let n : length (es ++ (e ∷ [])) ≡ length es + 1 = length-append es (e ∷ []) in
    let k : 512 - 8 * length es - 8 ≡ 512 - 8 * (length es + 1) = omega arith in
    ap (λ (l : List ℕ). set l 0 (length es + 1)) (put_row es e h)
    ∙ ap (λ (l : List ℕ). (length es + 1) ∷ l) (ap (λ (l : List ℕ). l ++ replicate (512 - 8 * length es - 8) 0) (sym (rows_append es (e ∷ []) ∙ last))
    ∙ ap (λ (m : ℕ). queue_rows (es ++ (e ∷ [])) ++ replicate m 0) k)
    ∙ ap (λ (m : ℕ). m ∷ (queue_rows (es ++ (e ∷ [])) ++ replicate (512 - 8 * m) 0)) (sym n)
  where
    last : queue_rows es ++ queue_rows (e ∷ []) ≡ queue_rows es ++ queue_row e
    last = ap (λ (l : List ℕ). queue_rows es ++ l) (one_row e)

-- the words after the two stores of `push_entry`: a is the row
pub push_law : (ws : List ℕ) (e : TimerMapEntry) (a : List ℕ) → SoundQueue ws → queue_count ws < 64 → a ≡ queue_row e
    → set (put_mid (1 + 8 * queue_count ws) (1 + 8 * queue_count ws + 8 - (1 + 8 * queue_count ws)) ws a) 0 (queue_count ws + 1) ≡ pack_queue (entries_of ws ++ (e ∷ []))
push_law ws e a s h p =
    let at : ℕ = 1 + 8 * queue_count ws in
    let k : at + (at + 8 - at) ≡ at + 8 = omega arith in
    ap (λ (l : List ℕ). set (take at ws ++ (l ++ drop (at + 8 - at) (drop at ws))) 0 (queue_count ws + 1)) p
    ∙ ap (λ (l : List ℕ). set (take at ws ++ (queue_row e ++ l)) 0 (queue_count ws + 1)) (drop-drop (at + 8 - at) at ws ∙ ap (λ (m : ℕ). drop m ws) k)
    ∙ subst (λ (n : ℕ). set (take (1 + 8 * n) ws ++ (queue_row e ++ drop (1 + 8 * n + 8) ws)) 0 (n + 1) ≡ pack_queue (entries_of ws ++ (e ∷ []))) s.count
    (subst (λ (l : List ℕ). set (take (1 + 8 * length (entries_of ws)) l ++ (queue_row e ++ drop (1 + 8 * length (entries_of ws) + 8) l)) 0 (length (entries_of ws) + 1) ≡ pack_queue (entries_of ws ++ (e ∷ []))) (sym s.is)
    (push_pack (entries_of ws) e (omega (arith, s.count))))

-- ---- zeroes from a place on

pub cleared : (s c : List ℕ) (at : ℕ) → at ≤ length s → c ≡ replicate (length (take (length s - at) (drop at s))) 0 → put_mid at (length s - at) s c ≡ take at s ++ replicate (length s - at) 0
cleared s c at h e =
    let n : length (take (length s - at) (drop at s)) ≡ length s - at = length-take-le (length s - at) (drop at s) (omega (arith, length-drop at s)) in
    let z : drop (length s - at) (drop at s) ≡ [] = drop_all (length s - at) (drop at s) (omega (arith, length-drop at s)) in
    ap (λ (l : List ℕ). take at s ++ (l ++ drop (length s - at) (drop at s))) (e ∙ ap (λ (m : ℕ). replicate m 0) n)
    ∙ ap (λ (l : List ℕ). take at s ++ (replicate (length s - at) 0 ++ l)) z ∙ ap (λ (l : List ℕ). take at s ++ l) (append-nil (replicate (length s - at) 0))

-- ---- one entry less

module _ (A : List TimerMapEntry) (x : TimerMapEntry) (B : List TimerMapEntry) (few : length (A ++ (x ∷ B)) ≤ 64) where
  size : length (A ++ (x ∷ B)) ≡ length A + length B + 1
  size = length-append A (x ∷ B) ∙ omega arith

  parts : pack_queue (A ++ (x ∷ B)) ≡ (length (A ++ (x ∷ B)) ∷ queue_rows A) ++ (queue_row x ++ (queue_rows B ++ replicate (512 - 8 * length (A ++ (x ∷ B))) 0))
  unfolding pack_queue queue_rows
  parts =
      let z : List ℕ = replicate (512 - 8 * length (A ++ (x ∷ B))) 0 in
      ap (λ (l : List ℕ). length (A ++ (x ∷ B)) ∷ l)
      (ap (λ (l : List ℕ). l ++ z) (rows_append A (x ∷ B)) ∙ append_assoc (queue_rows A) (queue_row x ++ queue_rows B) z ∙ ap (λ (l : List ℕ). queue_rows A ++ l) (append_assoc (queue_row x) (queue_rows B) z))

-- in words: P is before the row, then the row, then Q up to the end; T is what stood in the last row
cut_row : (n m : ℕ) (p r q t : List ℕ) (at : ℕ) → length (n ∷ p) ≡ at → length r ≡ 8 → length ((n ∷ p) ++ q) ≡ 505
    → set (take 505 (take at ((n ∷ p) ++ (r ++ q)) ++ (drop (at + 8) ((n ∷ p) ++ (r ++ q)) ++ t)) ++ replicate 8 0) 0 m ≡ m ∷ (p ++ q ++ replicate 8 0)
cut_row n m p r q t at a b c =
    let d : drop (at + 8) ((n ∷ p) ++ (r ++ q)) ≡ q = sym (drop-drop 8 at ((n ∷ p) ++ (r ++ q))) ∙ ap (drop 8) (drop_at (n ∷ p) (r ++ q) at a) ∙ drop_at r q 8 b in
    let f : take at ((n ∷ p) ++ (r ++ q)) ≡ n ∷ p = take_at (n ∷ p) (r ++ q) at a in
    let g : take 505 ((n ∷ p) ++ (q ++ t)) ≡ (n ∷ p) ++ q = ap (take 505) (sym (append_assoc (n ∷ p) q t)) ∙ take_at ((n ∷ p) ++ q) t 505 c in
    ap (λ (l : List ℕ). set (take 505 (l ++ (drop (at + 8) ((n ∷ p) ++ (r ++ q)) ++ t)) ++ replicate 8 0) 0 m) f
    ∙ ap (λ (l : List ℕ). set (take 505 ((n ∷ p) ++ (l ++ t)) ++ replicate 8 0) 0 m) d
    ∙ ap (λ (l : List ℕ). set (l ++ replicate 8 0) 0 m) g

module _ (A : List TimerMapEntry) (x : TimerMapEntry) (B : List TimerMapEntry) (few : length (A ++ (x ∷ B)) ≤ 64) where
  shorter : (t : List ℕ) (n : ℕ) → n ≡ length (A ++ (x ∷ B))
      → set (take 505 (take (1 + 8 * length A) (pack_queue (A ++ (x ∷ B))) ++ (drop (1 + 8 * length A + 8) (pack_queue (A ++ (x ∷ B))) ++ t)) ++ replicate 8 0) 0 (n - 1) ≡ pack_queue (A ++ B)
  unfolding pack_queue
  shorter t n e =
      let k : ℕ = length (A ++ (x ∷ B)) in
      let z : List ℕ = replicate (512 - 8 * k) 0 in
      let s : k ≡ length A + length B + 1 = size A x B few in
      let lz : length z ≡ 512 - 8 * k = length-replicate (512 - 8 * k) 0 in
      let lq : length (queue_rows B ++ z) ≡ 8 * length B + (512 - 8 * k) = length-append (queue_rows B) z ∙ omega (arith, length_rows B, lz) in
      let lp : length (queue_rows A ++ (queue_rows B ++ z)) ≡ 8 * length A + (8 * length B + (512 - 8 * k)) = length-append (queue_rows A) (queue_rows B ++ z) ∙ omega (arith, length_rows A, lq) in
      let m : length (A ++ B) ≡ n - 1 = length-append A B ∙ omega (arith, s, e) in
      let w : 512 - 8 * k + 8 ≡ 512 - 8 * (n - 1) = omega (arith, s, e) in
      ap (λ (l : List ℕ). set (take 505 (take (1 + 8 * length A) l ++ (drop (1 + 8 * length A + 8) l ++ t)) ++ replicate 8 0) 0 (n - 1)) (parts A x B few)
      ∙ cut_row k (n - 1) (queue_rows A) (queue_row x) (queue_rows B ++ z) t (1 + 8 * length A) (omega (arith, length_rows A)) (row_length x) (omega (arith, lp, s))
      ∙ ap (λ (l : List ℕ). (n - 1) ∷ l)
      (append_assoc (queue_rows A) (queue_rows B ++ z) (replicate 8 0) ∙ ap (λ (l : List ℕ). queue_rows A ++ l) (append_assoc (queue_rows B) z (replicate 8 0))
      ∙ sym (append_assoc (queue_rows A) (queue_rows B) (z ++ replicate 8 0))
      ∙ ap (λ (l : List ℕ). l ++ (z ++ replicate 8 0)) (sym (rows_append A B))
      ∙ ap (λ (l : List ℕ). queue_rows (A ++ B) ++ l) (replicate-append-replicate (512 - 8 * k) 8 0 ∙ ap (λ (j : ℕ). replicate j 0) w))
      ∙ ap (λ (j : ℕ). j ∷ (queue_rows (A ++ B) ++ replicate (512 - 8 * j) 0)) (sym m)

removed : (es : List TimerMapEntry) (i : ℕ) → i < length es → shift_remove i es ≡ take i es ++ drop (suc i) es
unfolding shift_remove
removed [] i h = absurd (omega arith)
removed (e ∷ es) zero h = refl
removed (e ∷ es) (suc i) h = ap (λ (l : List TimerMapEntry). e ∷ l) (removed es i (omega arith))

pub remove_pack : (es : List TimerMapEntry) (i : ℕ) (t : List ℕ) → length es ≤ 64 → i < length es
    → set (take 505 (take (1 + 8 * i) (pack_queue es) ++ (drop (1 + 8 * i + 8) (pack_queue es) ++ t)) ++ replicate 8 0) 0 (length es - 1) ≡ pack_queue (shift_remove i es)
remove_pack es i t f h =
    let a : length (take i es) ≡ i = length-take-le i es (omega arith) in
    let g : es ≡ take i es ++ (get_or es i no_queue_entry ∷ drop (suc i) es) = split_at es i no_queue_entry h in
    subst (λ (l : List TimerMapEntry). set (take 505 (take (1 + 8 * i) (pack_queue l) ++ (drop (1 + 8 * i + 8) (pack_queue l) ++ t)) ++ replicate 8 0) 0 (length es - 1) ≡ pack_queue (shift_remove i es)) (sym g)
    (ap (λ (j : ℕ). set (take 505 (take (1 + 8 * j) (pack_queue (take i es ++ (get_or es i no_queue_entry ∷ drop (suc i) es))) ++ (drop (1 + 8 * j + 8) (pack_queue (take i es ++ (get_or es i no_queue_entry ∷ drop (suc i) es))) ++ t)) ++ replicate 8 0) 0 (length es - 1)) (sym a)
    ∙ shorter (take i es) (get_or es i no_queue_entry) (drop (suc i) es) (subst (λ (l : List TimerMapEntry). length l ≤ 64) g f) t (length es) (ap length g)
    ∙ ap pack_queue (sym (removed es i h)))

shifted_length : (ws : List ℕ) (i : ℕ) → length ws ≡ 513 → 1 + 8 * i ≤ 505 → length (take (1 + 8 * i) ws ++ (drop (1 + 8 * i + 8) ws ++ drop 505 ws)) ≡ 513
shifted_length ws i l h =
    length-append (take (1 + 8 * i) ws) (drop (1 + 8 * i + 8) ws ++ drop 505 ws)
    ∙ omega (arith, length-take-le (1 + 8 * i) ws (omega arith), length-append (drop (1 + 8 * i + 8) ws) (drop 505 ws), length-drop (1 + 8 * i + 8) ws, length-drop 505 ws)

-- what `copy_within` leaves: the rows from i on are those one row on
moved : (ws s : List ℕ) (i : ℕ) → length ws ≡ 513 → 1 + 8 * i ≤ 505 → s ≡ paste ws (1 + 8 * i) (drop (1 + 8 * i + 8) ws) (length ws - (1 + 8 * i + 8))
    → s ≡ take (1 + 8 * i) ws ++ (drop (1 + 8 * i + 8) ws ++ drop 505 ws)
moved ws s i l h e =
    let k : 1 + 8 * i + (length ws - (1 + 8 * i + 8)) ≡ 505 = omega arith in
    e ∙ paste_all ws (1 + 8 * i) (drop (1 + 8 * i + 8) ws) (length ws - (1 + 8 * i + 8)) (sym (length-drop (1 + 8 * i + 8) ws))
    ∙ ap (λ (n : ℕ). take (1 + 8 * i) ws ++ (drop (1 + 8 * i + 8) ws ++ drop n ws)) k

-- the words after the three steps of `remove_entry`: s is moved, and z stands in its last row
pub remove_law : (ws : List ℕ) (i : ℕ) (s z : List ℕ) → SoundQueue ws → i < queue_count ws
    → s ≡ paste ws (1 + 8 * i) (drop (1 + 8 * i + 8) ws) (length ws - (1 + 8 * i + 8)) → z ≡ replicate (length (take (length s - 505) (drop 505 s))) 0
    → set (put_mid 505 (length s - 505) s z) 0 (queue_count ws - 1) ≡ pack_queue (shift_remove i (entries_of ws))
remove_law ws i s z v h m p =
    let q : s ≡ take (1 + 8 * i) ws ++ (drop (1 + 8 * i + 8) ws ++ drop 505 ws) = moved ws s i v.long (omega (arith, v.few)) m in
    let l : length s ≡ 513 = ap length q ∙ shifted_length ws i v.long (omega (arith, v.few)) in
    let k : length s - 505 ≡ 8 = omega arith in
    let r : put_mid 505 (length s - 505) s z ≡ take 505 (take (1 + 8 * i) ws ++ (drop (1 + 8 * i + 8) ws ++ drop 505 ws)) ++ replicate 8 0 =
    cleared s z 505 (omega arith) p ∙ ap (λ (n : ℕ). take 505 s ++ replicate n 0) k ∙ ap (λ (l : List ℕ). take 505 l ++ replicate 8 0) q in
    ap (λ (l : List ℕ). set l 0 (queue_count ws - 1)) r
    ∙ ap (λ (n : ℕ). set (take 505 (take (1 + 8 * i) ws ++ (drop (1 + 8 * i + 8) ws ++ drop 505 ws)) ++ replicate 8 0) 0 (n - 1)) (sym v.count)
    ∙ ap (λ (l : List ℕ). set (take 505 (take (1 + 8 * i) l ++ (drop (1 + 8 * i + 8) l ++ drop 505 ws)) ++ replicate 8 0) 0 (length (entries_of ws) - 1)) v.is
    ∙ remove_pack (entries_of ws) i (drop 505 ws) (omega (arith, v.count, v.few)) (omega (arith, v.count))

-- ---- the first n entries alone

pub truncate_pack : (es : List TimerMapEntry) (n : ℕ) → n ≤ length es → length es ≤ 64 → set (take (1 + 8 * n) (pack_queue es) ++ replicate (513 - (1 + 8 * n)) 0) 0 n ≡ pack_queue (take n es)
unfolding pack_queue
truncate_pack es n h f =
    let a : length (take n es) ≡ n = length-take-le n es h in
    let r : queue_rows es ≡ queue_rows (take n es) ++ queue_rows (drop n es) = ap queue_rows (sym (take-append-drop n es)) ∙ rows_append (take n es) (drop n es) in
    let z : List ℕ = replicate (512 - 8 * length es) 0 in
    let k : 513 - (1 + 8 * n) ≡ 512 - 8 * n = omega arith in
    ap (λ (l : List ℕ). set (take (1 + 8 * n) (length es ∷ l) ++ replicate (513 - (1 + 8 * n)) 0) 0 n)
    (ap (λ (l : List ℕ). l ++ z) r ∙ append_assoc (queue_rows (take n es)) (queue_rows (drop n es)) z)
    ∙ ap (λ (l : List ℕ). set (l ++ replicate (513 - (1 + 8 * n)) 0) 0 n) (take_at (length es ∷ queue_rows (take n es)) (queue_rows (drop n es) ++ z) (1 + 8 * n) (omega (arith, length_rows (take n es))))
    ∙ ap (λ (j : ℕ). n ∷ (queue_rows (take n es) ++ replicate j 0)) k
    ∙ ap (λ (j : ℕ). j ∷ (queue_rows (take n es) ++ replicate (512 - 8 * j) 0)) (sym a)

pub truncate_law : (ws : List ℕ) (n : ℕ) (c : List ℕ) → SoundQueue ws → n ≤ queue_count ws → c ≡ take (1 + 8 * n) ws ++ replicate (length ws - (1 + 8 * n)) 0 → set c 0 n ≡ pack_queue (take n (entries_of ws))
truncate_law ws n c v h p =
    ap (λ (l : List ℕ). set l 0 n) (p ∙ ap (λ (k : ℕ). take (1 + 8 * n) ws ++ replicate (k - (1 + 8 * n)) 0) v.long)
    ∙ ap (λ (l : List ℕ). set (take (1 + 8 * n) l ++ replicate (513 - (1 + 8 * n)) 0) 0 n) v.is
    ∙ truncate_pack (entries_of ws) n (omega (arith, v.count)) (omega (arith, v.count, v.few))
