-- What a reader of an output finds are the timers of the records written.
-- Assumes nothing.
use mathlib.Core.Path.{◌≡◌, refl, sym, ap, ◌∙◌}
use mathlib.Core.Bool.{Bool, true, false}
use mathlib.Core.List.{List, [], ◌∷◌, ◌++◌, append_assoc}
use Prim.Native.Nat.{ℕ, ◌<◌}
use native.Mathlib.Omega.{arith}
use lib.ListN.{length, replicate, length-append}
use lib.Dec.{ltb, eqb}
use borrow.Author.Tests.{ltb-true}
use Rattle.record.specs.Kinds.{DoShuffle, kind_byte}
use Rattle.base_lists.specs.Lists.{choose}
use Rattle.base_lists.specs.Bytes.{le, read_le}
use Rattle.base_lists.proofs.Choice.{choose_yes, choose_no, and_left, and_right}
use Rattle.record.specs.Format.{Rec, size, header_by, encode, encode_by}
use Rattle.record.specs.Read.{header_of, header_of_by}
use Rattle.record.specs.Walk.{headers}
use Rattle.record.proofs.Format.{length_encode}
use Rattle.record.proofs.Walk.{records_written, records_zeros}
use Rattle.spec_hyparview.specs.Station.{draws_end}
use Rattle.spec_hyparview.specs.Rules.{all_under}
use Rattle.spec_hyparview.specs.Written.{encode_all}
use Rattle.shuffle_times.specs.Histories.{timer_delays}

-- the delays of the timers of kind k among them
unfoldable pub timers_of : ℕ → List Rec → List ℕ
timers_of k [] = []
timers_of k (e ∷ es) = choose (eqb e.kind k) (e.second ∷ timers_of k es) (timers_of k es)

abbrev pub shuffles : List Rec → List ℕ
shuffles es = timers_of 1 es

pub shuffles_append : (a b : List Rec) → shuffles (a ++ b) ≡ shuffles a ++ shuffles b
unfolding timers_of
shuffles_append [] b = refl
shuffles_append (e ∷ es) b = rw (shuffles_append es b) (either (eqb e.kind (kind_byte DoShuffle)))
  where
    either : (t : Bool) → choose t (e.second ∷ (shuffles es ++ shuffles b)) (shuffles es ++ shuffles b) ≡ choose t (e.second ∷ shuffles es) (shuffles es) ++ shuffles b
    either true = choose_yes true _ _ refl ∙ ap (λ (l : List ℕ). l ++ shuffles b) (sym (choose_yes true _ _ refl))
    either false = choose_no false _ _ refl ∙ ap (λ (l : List ℕ). l ++ shuffles b) (sym (choose_no false _ _ refl))

-- one record in front of other bytes
module _ (e : Rec) (rest : List ℕ) where
  second_is : e.second < draws_end → (header_of (encode e ++ rest)).second ≡ e.second
  unfolding header_of_by encode_by header_by le read_le
  second_is h = omega arith

  kind_is : (header_of (encode e ++ rest)).kind ≡ e.kind
  unfolding header_of_by encode_by header_by
  kind_is = refl

-- the delays of a refused call: none
pub none_told : (k zeros : ℕ) → timer_delays k (headers (replicate zeros 0)) ≡ []
unfolding timer_delays headers
none_told k zeros = rw (records_zeros zeros)

first_second : (t : Bool) (x : ℕ) (xs : List ℕ) → all_under draws_end (choose t (x ∷ xs) xs) ≡ true → (t ≡ true → x < draws_end) × (all_under draws_end xs ≡ true)
unfolding choose all_under
first_second true x xs e = ((λ _. ltb-true x draws_end (and_left (ltb x draws_end) (all_under draws_end xs) e)), and_right (ltb x draws_end) (all_under draws_end xs) e)
first_second false x xs e = ((λ f. let z : ◌≡◌ {A = ℕ} 0 1 = cc in absurd (omega arith)), e)

same_first : (t : Bool) (x y : ℕ) (xs : List ℕ) → (t ≡ true → x ≡ y) → choose t (x ∷ xs) xs ≡ choose t (y ∷ xs) xs
unfolding choose
same_first true x y xs h = ap (λ (z : ℕ). z ∷ xs) (h refl)
same_first false x y xs h = refl

-- what is read in records followed by zeroes
pub told : (n : ℕ) (es : List Rec) (zeros : ℕ) → length (encode_all es) < 65536 → all_under draws_end (timers_of n es) ≡ true → timer_delays n (headers (encode_all es ++ replicate zeros 0)) ≡ timers_of n es
unfolding encode_all timers_of timer_delays headers
told n [] zeros l u = none_told n zeros
told n (e ∷ es) zeros l u =
    let rest : List ℕ = encode_all es ++ replicate zeros 0 in
    let k = first_second (eqb e.kind n) e.second (timers_of n es) u in
    let s : size e < 65536 = omega (arith, length-append (encode e) (encode_all es), length_encode e) in
    let i : timer_delays n (headers rest) ≡ timers_of n es = told n es zeros (omega (arith, length-append (encode e) (encode_all es))) k.1 in
    rw (append_assoc (encode e) (encode_all es) (replicate zeros 0), records_written e rest s, i, kind_is e rest)
    (same_first (eqb e.kind n) _ _ (timers_of n es) (λ t. second_is e rest (k.0 t)))
