-- Which entry comes out first: the search for the smallest due time finds the first place of it.
-- Assumes nothing.
use Prim.Native.Nat.{ℕ, zero, suc, ◌+◌, ◌*◌, ◌-◌, ◌≤◌, ◌<◌}
use mathlib.Core.Path.{◌≡◌, refl, sym, ap, ◌∙◌}
use mathlib.Core.Bool.{false}
use mathlib.Core.List.{List, [], ◌∷◌}
use native.Mathlib.Omega.{arith}
use lib.ListN.{length, get_or}
use lib.Dec.{ltb, eqb}
use borrow.Author.Tests.{ltb-true, ltb-false, lt-ltb, le-ltb, eq-eqb, ne_eqb, eqb-true, eqb-false}
use Rattle.base_lists.specs.Lists.{choose, index_of}
use Rattle.base_lists.proofs.Choice.{split, choose_yes, choose_no}
use Rattle.timer_map.specs.Entries.{due_times, least, smallest, soonest, first_entry, no_queue_entry}
use Rattle.timer_map.specs.Words.{queue_entry_at, queue_entries_at}
use Rattle.timer_map.specs.declared.TimerMapEntry.{TimerMapEntry}

-- b is the best place so far, and m its time; the times xs from place i on are to come
unfoldable pub seek : ℕ → ℕ → ℕ → List ℕ → ℕ
seek b m i [] = b
seek b m i (x ∷ xs) = choose (ltb x m) (seek i x (i + 1) xs) (seek b m (i + 1) xs)

pub least_le : (m : ℕ) (xs : List ℕ) → least m xs ≤ m
unfolding least choose
least_le m [] = omega arith
least_le m (x ∷ xs) =
    split (ltb x m)
    (λ t. rw t (omega (arith, least_le x xs, ltb-true x m t)))
    (λ t. rw t (least_le m xs))

-- what the search answers: the best so far, or the first of the smallest to come
record Seeks (b m i : ℕ) (xs : List ℕ) : Type 0 where
  old : least m xs ≡ m → seek b m i xs ≡ b
  new : least m xs < m → seek b m i xs ≡ i + index_of (least m xs) xs

here : (i x : ℕ) (xs : List ℕ) → i ≡ i + index_of x (x ∷ xs)
unfolding index_of
here i x xs = rw (eq-eqb x x refl) (omega arith)

here_first : (x : ℕ) (xs : List ℕ) → 0 ≡ index_of x (x ∷ xs)
here_first x xs = omega (arith, here 0 x xs)

there : (i m x : ℕ) (xs : List ℕ) → (m ≡ x → ⊥) → i + 1 + index_of m xs ≡ i + index_of m (x ∷ xs)
unfolding index_of
there i m x xs h = rw (ne_eqb m x h) (omega arith)

there_first : (m x : ℕ) (xs : List ℕ) → (m ≡ x → ⊥) → 1 + index_of m xs ≡ index_of m (x ∷ xs)
there_first m x xs h = omega (arith, there 0 m x xs h)

seeks : (b m i : ℕ) (xs : List ℕ) → Seeks b m i xs
unfolding seek least choose
seeks b m i [] = record { old = λ e. refl; new = λ h. absurd (omega (arith, h)) }
seeks b m i (x ∷ xs) =
    split (ltb x m)
    (λ t. let s : Seeks i x (i + 1) xs = seeks i x (i + 1) xs in
    let l : x < m = ltb-true x m t in
    record {
      old = λ e. absurd (omega (arith, least_le x xs, l, simp t at e));
      new = λ h. rw t (split (eqb (least x xs) x)
          (λ u. let z : least x xs ≡ x = eqb-true (least x xs) x u in s.old z ∙ rw z (here i x xs))
          (λ u. let z : least x xs ≡ x → ⊥ = eqb-false (least x xs) x u in s.new (omega (arith, least_le x xs, z)) ∙ there i (least x xs) x xs z));
    })
    (λ t. let s : Seeks b m (i + 1) xs = seeks b m (i + 1) xs in
    let l : m ≤ x = ltb-false x m t in
    record {
      old = λ e. rw t (s.old (simp t at e));
      new = λ h. rw t (let k : least m xs < m = simp t at h in s.new k ∙ there i (least m xs) x xs (λ z. omega (arith, k, z)));
    })

-- from the first time on, the search finds the first of the smallest
pub seek_is : (x : ℕ) (xs : List ℕ) → seek 0 x 1 xs ≡ index_of (smallest (x ∷ xs)) (x ∷ xs)
unfolding smallest
seek_is x xs =
    let s : Seeks 0 x 1 xs = seeks 0 x 1 xs in
    (split (eqb (least x xs) x)
    (λ u. let z : least x xs ≡ x = eqb-true (least x xs) x u in s.old z ∙ rw z (here_first x xs))
    (λ u. let z : least x xs ≡ x → ⊥ = eqb-false (least x xs) x u in s.new (omega (arith, least_le x xs, z)) ∙ there_first (least x xs) x xs z))

-- ---- the loop

pub record Seeking (ws : List ℕ) (n whole best i : ℕ) : Type 0 where
  pub low : i ≤ n
  pub room : 1 + 8 * n ≤ length ws
  pub under : best < n
  pub same : whole ≡ seek best (get_or ws (1 + 8 * best) 0) i (due_times (queue_entries_at ws (1 + 8 * i) (n - i)))

-- the search from the second time on
begun : (ws : List ℕ) (j : ℕ) → soonest (queue_entries_at ws 1 (suc j)) ≡ seek 0 (get_or ws 1 0) 1 (due_times (queue_entries_at ws 9 j))
unfolding soonest due_times queue_entries_at queue_entry_at
begun ws j = sym (seek_is (get_or ws 1 0) (due_times (queue_entries_at ws 9 j)))

pub seek_start : (ws : List ℕ) (n : ℕ) → 1 + 8 * n ≤ length ws → 0 < n → Seeking ws n (soonest (queue_entries_at ws 1 n)) 0 1
seek_start ws n h z =
    let k : n ≡ suc (n - 1) = omega arith in
    record { low = omega arith; room = h; under = z; same = ap (λ (j : ℕ). soonest (queue_entries_at ws 1 j)) k ∙ begun ws (n - 1) }

-- one time more
taken : (ws : List ℕ) (b m i j at : ℕ) → seek b m i (due_times (queue_entries_at ws at (suc j))) ≡ choose (ltb (get_or ws at 0) m) (seek i (get_or ws at 0) (i + 1) (due_times (queue_entries_at ws (at + 8) j))) (seek b m (i + 1) (due_times (queue_entries_at ws (at + 8) j)))
unfolding seek due_times queue_entries_at queue_entry_at
taken ws b m i j at = refl

module _ (ws : List ℕ) (n whole best i : ℕ) (v : Seeking ws n whole best i) where
  seek_next : i < n → whole ≡ choose (ltb (get_or ws (1 + 8 * i) 0) (get_or ws (1 + 8 * best) 0)) (seek i (get_or ws (1 + 8 * i) 0) (i + 1) (due_times (queue_entries_at ws (1 + 8 * (i + 1)) (n - (i + 1))))) (seek best (get_or ws (1 + 8 * best) 0) (i + 1) (due_times (queue_entries_at ws (1 + 8 * (i + 1)) (n - (i + 1)))))
  seek_next h =
      let k : n - i ≡ suc (n - (i + 1)) = omega arith in
      let p : 1 + 8 * i + 8 ≡ 1 + 8 * (i + 1) = omega arith in
      let m : ℕ = get_or ws (1 + 8 * best) 0 in
      v.same ∙ ap (λ (j : ℕ). seek best m i (due_times (queue_entries_at ws (1 + 8 * i) j))) k ∙ taken ws best m i (n - (i + 1)) (1 + 8 * i)
      ∙ ap (λ (at : ℕ). choose (ltb (get_or ws (1 + 8 * i) 0) m) (seek i (get_or ws (1 + 8 * i) 0) (i + 1) (due_times (queue_entries_at ws at (n - (i + 1))))) (seek best m (i + 1) (due_times (queue_entries_at ws at (n - (i + 1)))))) p

  pub seek_takes : i < n → get_or ws (1 + 8 * i) 0 < get_or ws (1 + 8 * best) 0 → Seeking ws n whole i (i + 1)
  seek_takes h l = record { low = omega arith; room = v.room; under = h; same = seek_next h ∙ choose_yes _ _ _ (lt-ltb _ _ l) }

  pub seek_keeps : i < n → get_or ws (1 + 8 * best) 0 ≤ get_or ws (1 + 8 * i) 0 → Seeking ws n whole best (i + 1)
  seek_keeps h l = record { low = omega arith; room = v.room; under = v.under; same = seek_next h ∙ choose_no _ _ _ (le-ltb _ _ l) }

  pub seek_end : n ≤ i → (best ≡ whole) × (best < n)
  unfolding seek due_times queue_entries_at
  seek_end h = let k : n - i ≡ 0 = omega arith in (sym (v.same ∙ ap (λ (j : ℕ). seek best (get_or ws (1 + 8 * best) 0) i (due_times (queue_entries_at ws (1 + 8 * i) j))) k), v.under)

-- ---- what the first with the smallest due time is

length_times : (es : List TimerMapEntry) → length (due_times es) ≡ length es
unfolding due_times
length_times [] = refl
length_times (e ∷ es) = ap suc (length_times es)

-- the smallest of m and the numbers is m or one of them
least_there : (m : ℕ) (xs : List ℕ) → (least m xs ≡ m → ⊥) → index_of (least m xs) xs < length xs
unfolding least index_of
least_there m [] h = absurd (h refl)
least_there m (x ∷ xs) h =
    let n : ℕ = choose (ltb x m) x m in
    split (eqb (least n xs) x)
    (λ u. rw u (omega arith))
    (λ u. let p : index_of (least n xs) xs < length xs = least_there n xs (λ e. split (ltb x m) (λ t. eqb-false (least n xs) x u (e ∙ choose_yes (ltb x m) x m t)) (λ t. h (e ∙ choose_no (ltb x m) x m t))) in
    rw u (omega arith))

smallest_there : (x : ℕ) (xs : List ℕ) → index_of (smallest (x ∷ xs)) (x ∷ xs) < suc (length xs)
unfolding smallest index_of
smallest_there x xs = split (eqb (least x xs) x) (λ u. rw u (omega arith)) (λ u. rw u (omega (arith, least_there x xs (eqb-false (least x xs) x u))))

pub soonest_below : (es : List TimerMapEntry) → 0 < length es → soonest es < length es
unfolding soonest due_times
soonest_below [] h = absurd (omega arith)
soonest_below (e ∷ es) h = omega (arith, smallest_there e.time (due_times es), length_times es)

least_all : (m : ℕ) (xs : List ℕ) (k : ℕ) → k < length xs → least m xs ≤ get_or xs k 0
unfolding least
least_all m [] k h = absurd (omega arith)
least_all m (x ∷ xs) zero h =
    split (ltb x m)
    (λ t. omega (arith, least_le (choose (ltb x m) x m) xs, choose_yes (ltb x m) x m t))
    (λ t. omega (arith, least_le (choose (ltb x m) x m) xs, choose_no (ltb x m) x m t, ltb-false x m t))
least_all m (x ∷ xs) (suc k) h = least_all (choose (ltb x m) x m) xs k (omega arith)

smallest_all : (xs : List ℕ) (k : ℕ) → k < length xs → smallest xs ≤ get_or xs k 0
unfolding smallest
smallest_all [] k h = absurd (omega arith)
smallest_all (x ∷ xs) zero h = least_le x xs
smallest_all (x ∷ xs) (suc k) h = least_all x xs k (omega arith)

-- what stands at the first place of m is m, and before it stands no m
getD_index : (m : ℕ) (xs : List ℕ) → index_of m xs < length xs → get_or xs (index_of m xs) 0 ≡ m
unfolding index_of
getD_index m [] h = absurd (omega arith)
getD_index m (x ∷ xs) h = split (eqb m x) (λ u. rw u (sym (eqb-true m x u))) (λ u. rw u (getD_index m xs (let q : suc (index_of m xs) < suc (length xs) = rw u at h in omega arith)))

before : (m x : ℕ) (xs : List ℕ) (k : ℕ) → k < suc (index_of m xs) → get_or (x ∷ xs) k 0 ≡ m → eqb m x ≡ false → ((j : ℕ) → j < index_of m xs → get_or xs j 0 ≡ m → ⊥) → ⊥
before m x xs zero h e u f = eqb-false m x u (sym e)
before m x xs (suc k) h e u f = f k (omega arith) e

index_first : (m : ℕ) (xs : List ℕ) (k : ℕ) → k < index_of m xs → get_or xs k 0 ≡ m → ⊥
unfolding index_of
index_first m [] k h e = absurd (omega arith)
index_first m (x ∷ xs) k h e = split (eqb m x) (λ u. let q : k < 0 = rw u at h in omega arith) (λ u. before m x xs k (rw u at h) e u (λ j. index_first m xs j))

getD_times : (es : List TimerMapEntry) (k : ℕ) → k < length es → get_or (due_times es) k 0 ≡ (get_or es k no_queue_entry).time
unfolding due_times
getD_times [] k h = absurd (omega arith)
getD_times (e ∷ es) zero h = refl
getD_times (e ∷ es) (suc k) h = getD_times es k (omega arith)

module _ (es : List TimerMapEntry) (some : 0 < length es) where
  pub first_time : (first_entry es).time ≡ smallest (due_times es)
  unfolding first_entry soonest
  first_time =
      let b : soonest es < length es = soonest_below es some in
      sym (getD_times es (soonest es) b) ∙ getD_index (smallest (due_times es)) (due_times es) (omega (arith, length_times es, b))

  -- "The earliest due comes out first"
  pub first_earliest : (k : ℕ) → k < length es → (first_entry es).time ≤ (get_or es k no_queue_entry).time
  first_earliest k h = omega (arith, first_time, smallest_all (due_times es) k (omega (arith, length_times es)), getD_times es k h)

  -- "equal times come out in the order put in": what was put in before it is due later
  pub first_oldest : (k : ℕ) → k < soonest es → (first_entry es).time < (get_or es k no_queue_entry).time
  unfolding soonest
  first_oldest k h =
      let b : soonest es < length es = soonest_below es some in
      let n : get_or (due_times es) k 0 ≡ smallest (due_times es) → ⊥ = index_first (smallest (due_times es)) (due_times es) k h in
      let l : smallest (due_times es) ≤ get_or (due_times es) k 0 = smallest_all (due_times es) k (omega (arith, length_times es)) in
      omega (arith, first_time, getD_times es k (omega (arith, b)), n, l)

  pub first_place : index_of (first_entry es).time (due_times es) ≡ soonest es
  unfolding soonest
  first_place = ap (λ (t : ℕ). index_of t (due_times es)) first_time
