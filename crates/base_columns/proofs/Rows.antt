-- Three columns as one list of entries: a change of all three at one place is a change of the list there.
-- Assumes nothing.
use Prim.Native.Nat.{ℕ, zero, suc, ◌<◌}
use mathlib.Core.Path.{◌≡◌, refl, ap}
use mathlib.Core.List.{List, [], ◌∷◌}
use native.Mathlib.Nat.{le_of_suc-le-suc, not-suc-le-zero}
use native.Mathlib.Omega.{arith}
use lib.ListN.{length, take, get_or, set}
use Rattle.base_lists.specs.Array.{pad}
use Rattle.base_lists.specs.Bytes.{le}
use Rattle.base_lists.specs.Lists.{shift_remove, insert_at}
use Rattle.base_peer.specs.Maps.{DataEntry, no_data}
use Rattle.base_columns.specs.Columns.{word_bytes, row, rows}

blank : row 0 0 0 ≡ no_data
unfolding word_bytes le
blank = refl

pub take_rows : (k : ℕ) (ls bs cs : List ℕ) → take k (rows ls bs cs) ≡ rows (take k ls) (take k bs) (take k cs)
unfolding rows
take_rows zero ls bs cs = refl
take_rows (suc k) [] bs cs = refl
take_rows (suc k) (a ∷ ls) [] cs = refl
take_rows (suc k) (a ∷ ls) (b ∷ bs) [] = refl
take_rows (suc k) (a ∷ ls) (b ∷ bs) (c ∷ cs) = ap (λ (l : List DataEntry). row a b c ∷ l) (take_rows k ls bs cs)

pub length_rows : (ls bs cs : List ℕ) → length bs ≡ length ls → length cs ≡ length ls → length (rows ls bs cs) ≡ length ls
unfolding rows
length_rows [] bs cs p q = refl
length_rows (a ∷ ls) [] cs p q = absurd (omega arith)
length_rows (a ∷ ls) (b ∷ bs) [] p q = absurd (omega arith)
length_rows (a ∷ ls) (b ∷ bs) (c ∷ cs) p q = ap suc (length_rows ls bs cs (omega arith) (omega arith))

blanks : (n : ℕ) → rows (pad 0 n []) (pad 0 n []) (pad 0 n []) ≡ pad no_data n []
unfolding rows pad
blanks zero = refl
blanks (suc n) = λ i. blank i ∷ blanks n i

pub pad_rows : (n : ℕ) (ls bs cs : List ℕ) → length bs ≡ length ls → length cs ≡ length ls → rows (pad 0 n ls) (pad 0 n bs) (pad 0 n cs) ≡ pad no_data n (rows ls bs cs)
unfolding rows pad
pad_rows n [] [] [] p q = blanks n
pad_rows n [] (b ∷ bs) cs p q = absurd (omega arith)
pad_rows n [] [] (c ∷ cs) p q = absurd (omega arith)
pad_rows n (a ∷ ls) [] cs p q = absurd (omega arith)
pad_rows n (a ∷ ls) (b ∷ bs) [] p q = absurd (omega arith)
pad_rows zero (a ∷ ls) (b ∷ bs) (c ∷ cs) p q = refl
pad_rows (suc n) (a ∷ ls) (b ∷ bs) (c ∷ cs) p q = ap (λ (l : List DataEntry). row a b c ∷ l) (pad_rows n ls bs cs (omega arith) (omega arith))

pub shift_rows : (i : ℕ) (ls bs cs : List ℕ) → length bs ≡ length ls → length cs ≡ length ls → rows (shift_remove i ls) (shift_remove i bs) (shift_remove i cs) ≡ shift_remove i (rows ls bs cs)
unfolding rows shift_remove
shift_rows i [] bs cs p q = refl
shift_rows i (a ∷ ls) [] cs p q = absurd (omega arith)
shift_rows i (a ∷ ls) (b ∷ bs) [] p q = absurd (omega arith)
shift_rows zero (a ∷ ls) (b ∷ bs) (c ∷ cs) p q = refl
shift_rows (suc i) (a ∷ ls) (b ∷ bs) (c ∷ cs) p q = ap (λ (l : List DataEntry). row a b c ∷ l) (shift_rows i ls bs cs (omega arith) (omega arith))

pub insert_rows : (i x y z : ℕ) (ls bs cs : List ℕ) → length bs ≡ length ls → length cs ≡ length ls → rows (insert_at i x ls) (insert_at i y bs) (insert_at i z cs) ≡ insert_at i (row x y z) (rows ls bs cs)
unfolding rows insert_at
insert_rows zero x y z ls bs cs p q = refl
insert_rows (suc i) x y z [] [] [] p q = refl
insert_rows (suc i) x y z [] (b ∷ bs) cs p q = absurd (omega arith)
insert_rows (suc i) x y z [] [] (c ∷ cs) p q = absurd (omega arith)
insert_rows (suc i) x y z (a ∷ ls) [] cs p q = absurd (omega arith)
insert_rows (suc i) x y z (a ∷ ls) (b ∷ bs) [] p q = absurd (omega arith)
insert_rows (suc i) x y z (a ∷ ls) (b ∷ bs) (c ∷ cs) p q = ap (λ (l : List DataEntry). row a b c ∷ l) (insert_rows i x y z ls bs cs (omega arith) (omega arith))

pub set_rows : (i x y z : ℕ) (ls bs cs : List ℕ) → rows (set ls i x) (set bs i y) (set cs i z) ≡ set (rows ls bs cs) i (row x y z)
unfolding rows
set_rows i x y z [] bs cs = refl
set_rows i x y z (a ∷ ls) [] cs = none i
  where
    none : (i : ℕ) → rows (set (a ∷ ls) i x) [] (set cs i z) ≡ []
    none zero = refl
    none (suc i) = refl
set_rows zero x y z (a ∷ ls) (b ∷ bs) [] = refl
set_rows (suc i) x y z (a ∷ ls) (b ∷ bs) [] = refl
set_rows zero x y z (a ∷ ls) (b ∷ bs) (c ∷ cs) = refl
set_rows (suc i) x y z (a ∷ ls) (b ∷ bs) (c ∷ cs) = ap (λ (l : List DataEntry). row a b c ∷ l) (set_rows i x y z ls bs cs)

pub get_d_rows : (i : ℕ) (d : DataEntry) (ls bs cs : List ℕ) → length bs ≡ length ls → length cs ≡ length ls → i < length ls → get_or (rows ls bs cs) i d ≡ row (get_or ls i 0) (get_or bs i 0) (get_or cs i 0)
unfolding rows
get_d_rows i d [] bs cs p q h = absurd (not-suc-le-zero h)
get_d_rows i d (a ∷ ls) [] cs p q h = absurd (omega (arith, p))
get_d_rows i d (a ∷ ls) (b ∷ bs) [] p q h = absurd (omega (arith, q))
get_d_rows zero d (a ∷ ls) (b ∷ bs) (c ∷ cs) p q h = refl
get_d_rows (suc i) d (a ∷ ls) (b ∷ bs) (c ∷ cs) p q h = get_d_rows i d ls bs cs (omega (arith, p)) (omega (arith, q)) (le_of_suc-le-suc h)
