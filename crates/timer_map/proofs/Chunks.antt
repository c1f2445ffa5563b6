-- The rows of a queue's words: eight words each, behind the count.
-- Assumes nothing.
use Prim.Native.Nat.{ℕ, zero, suc, ◌+◌, ◌*◌, ◌<◌}
use mathlib.Core.Path.{◌≡◌, refl, ap, ◌∙◌}
use mathlib.Core.Bool.{Bool, ◌&&◌}
use mathlib.Core.List.{List}
use native.Mathlib.Nat.{add-zero}
use native.Mathlib.Omega.{arith}
use lib.ListN.{get_or, take, drop}
use lib.Seq.{drop-drop, get_or-drop}
use Rattle.std.specs.List.{list_all}
use Rattle.std.specs.Simd.{first_chunks}
use Rattle.std.proofs.lemmas.List.{get_or-take}
use Rattle.base_lists.specs.Tests.{every}
use Rattle.timer_map.specs.Entries.{queue_entry_ok}
use Rattle.timer_map.specs.Words.{queue_entry_at, queue_entries_at}

-- a word of the row at place `at`
pub word_read : (ws : List ℕ) (at k : ℕ) → k < 8 → get_or (take 8 (drop at ws)) k 0 ≡ get_or ws (at + k) 0
word_read ws at k h = get_or-take 8 (drop at ws) k 0 h ∙ get_or-drop at ws k 0

-- the entry of the row at place `at`
pub entry_read : (ws : List ℕ) (at : ℕ) → queue_entry_at (take 8 (drop at ws)) 0 ≡ queue_entry_at ws at
unfolding queue_entry_at
entry_read ws at = λ i. record {
  time = (word_read ws at 0 (omega arith) ∙ ap (λ (n : ℕ). get_or ws n 0) (add-zero at)) i;
  item = record {
    kind = word_read ws at 1 (omega arith) i;
    peer = word_read ws at 2 (omega arith) i;
    number = word_read ws at 3 (omega arith) i;
    id = record {
      0 = word_read ws at 4 (omega arith) i;
      1 = word_read ws at 5 (omega arith) i;
      2 = word_read ws at 6 (omega arith) i;
      3 = word_read ws at 7 (omega arith) i;
    };
  };
}

chunk_at : (n i : ℕ) (xs d : List ℕ) → i < n → get_or (first_chunks 8 n xs) i d ≡ take 8 (drop (8 * i) xs)
chunk_at zero i xs d h = absurd (omega (arith, h))
chunk_at (suc n) zero xs d h = refl
chunk_at (suc n) (suc i) xs d h =
    let e : 8 + 8 * i ≡ 8 * suc i = omega arith in
    chunk_at n i (drop 8 xs) d (omega arith) ∙ ap (take 8) (drop-drop (8 * i) 8 xs ∙ ap (λ (k : ℕ). drop k xs) e)

-- row i
pub row_is : (n i : ℕ) (ws d : List ℕ) → i < n → get_or (first_chunks 8 n (drop 1 ws)) i d ≡ take 8 (drop (1 + 8 * i) ws)
row_is n i ws d h = chunk_at n i (drop 1 ws) d h ∙ ap (take 8) (drop-drop (8 * i) 1 ws)

-- the test of every row is that of every entry
pub rows_test : (m n : ℕ) (ws : List ℕ) (at : ℕ) → n < m + 1
    → list_all (λ (r : List ℕ). queue_entry_ok (queue_entry_at r 0)) (take n (first_chunks 8 m (drop at ws))) ≡ every queue_entry_ok (queue_entries_at ws at n)
unfolding every queue_entries_at
rows_test m zero ws at h = refl
rows_test zero (suc n) ws at h = absurd (omega (arith, h))
rows_test (suc m) (suc n) ws at h =
    ap (λ (b : Bool). b && list_all (λ (r : List ℕ). queue_entry_ok (queue_entry_at r 0)) (take n (first_chunks 8 m (drop 8 (drop at ws))))) (ap queue_entry_ok (entry_read ws at))
    ∙ ap (λ (b : Bool). queue_entry_ok (queue_entry_at ws at) && b)
    (ap (λ (l : List ℕ). list_all (λ (r : List ℕ). queue_entry_ok (queue_entry_at r 0)) (take n (first_chunks 8 m l))) (drop-drop 8 at ws) ∙ rows_test m n ws (at + 8) (omega arith))

-- the due time in row i
pub time_read : (ws : List ℕ) (rs : List (List ℕ)) (d : List ℕ) (i : ℕ) → rs ≡ first_chunks 8 64 (drop 1 ws) → i < 64 → get_or (get_or rs i d) 0 0 ≡ get_or ws (1 + 8 * i) 0
time_read ws rs d i e h =
    ap (λ (l : List (List ℕ)). get_or (get_or l i d) 0 0) e ∙ ap (λ (r : List ℕ). get_or r 0 0) (row_is 64 i ws d h)
    ∙ word_read ws (1 + 8 * i) 0 (omega arith) ∙ ap (λ (n : ℕ). get_or ws n 0) (add-zero (1 + 8 * i))
