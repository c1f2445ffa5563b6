-- Laws of an input: its numbers, the length of an event, and what an input that is not refused says of its places.
-- Assumes nothing.
use Prim.Native.Nat.{ℕ, zero, suc, ◌+◌, ◌*◌, ◌-◌, ◌/◌, ◌≤◌, ◌<◌}
use mathlib.Core.Path.{◌≡◌, refl, sym, ap, subst, ◌∙◌}
use mathlib.Core.Bool.{Bool, true, false, ◌&&◌}
use mathlib.Core.List.{List}
use native.Mathlib.Nat.{add-zero, add-suc, suc-add, not-suc-le-zero, le_of_suc-le-suc}
use native.Mathlib.Omega.{arith}
use lib.ListN.{length, get_or, drop}
use lib.Dec.{leb, eqb}
use borrow.Author.Tests.{leb-true, le-leb, lt-leb, eqb-true, eq-eqb, ne_eqb}
use Rattle.base_lists.specs.Bytes.{read_le}
use Rattle.record.specs.Format.{header_length}
use Rattle.record.specs.Walk.{whole_length}
use Rattle.base_lists.proofs.Choice.{by_choice, split, choose_yes, choose_no, and_left, and_right}
use Rattle.run_input.specs.Input.{head_length, most_bytes, event_offset, draw_count, draw_offset, number, numbers, event_length, are_events, places_ok, events_part, events_ok, input_head, input_of}
pub use Rattle.run_input.specs.Input.{Laid}
use Rattle.run_input.specs.declared.Head.{Head}
use Rattle.std.specs.Prelude.{Option, Some, None}

module _ (b : List ℕ) (i : ℕ) where
  pub number_read : i < length b / 4 → number b i ≡ read_le 4 b (4 * i)
  unfolding number
  number_read h = choose_yes (leb (4 * i + 4) (length b)) _ _ (le-leb (4 * i + 4) (length b) (omega arith))

  pub number_none : length b / 4 ≤ i → number b i ≡ 0
  unfolding number
  number_none h = choose_no (leb (4 * i + 4) (length b)) _ _ (lt-leb (4 * i + 4) (length b) (omega arith))

-- the j-th of n numbers
pub numbers_at : (n i j : ℕ) (b : List ℕ) → j < n → get_or (numbers n i b) j 0 ≡ number b (i + j)
unfolding numbers
numbers_at zero i j b h = absurd (not-suc-le-zero h)
numbers_at (suc n) i zero b h = rw (add-zero i)
numbers_at (suc n) i (suc j) b h = numbers_at n (suc i) j b (le_of_suc-le-suc h) ∙ rw (add-suc i j, suc-add i j)

pub length_numbers : (n i : ℕ) (b : List ℕ) → length (numbers n i b) ≡ n
unfolding numbers
length_numbers zero i b = refl
length_numbers (suc n) i b = ap suc (length_numbers n (suc i) b)

module _ (l : List ℕ) where
  -- an event that is shorter than a header or runs over the end is none
  pub event_none : (header_length ≤ whole_length l → whole_length l ≤ length l → ⊥) → event_length l ≡ 0
  unfolding event_length
  event_none h =
      let low : Bool = leb header_length (whole_length l) in
      let most : Bool = leb (whole_length l) (length l) in
      by_choice (λ (x : ℕ). x ≡ 0) (low && most) (λ e. absurd (h (leb-true _ _ (and_left low most e)) (leb-true _ _ (and_right low most e)))) (λ e. refl)

-- where there is no event at the front
pub none_first : (k : ℕ) (l : List ℕ) → 0 < k → event_length l ≡ 0 → are_events k l ≡ false
unfolding are_events
none_first zero l h e = absurd (omega arith)
none_first (suc k) l h e = rw (eq-eqb _ _ e)

-- where there is one
pub one_first : (k : ℕ) (l : List ℕ) → 0 < k → (event_length l ≡ 0 → ⊥) → are_events k l ≡ are_events (k - 1) (drop (event_length l) l)
unfolding are_events
one_first zero l h e = absurd (omega arith)
one_first (suc k) l h e = let q : suc k - 1 ≡ k = omega arith in rw (ne_eqb _ _ e, q)

-- where the parts of an input stand
pub record Places (b : List ℕ) : Type 0 where
  pub low : head_length ≤ number b draw_offset
  pub full : number b draw_offset + 4 * number b draw_count ≡ length b
  pub most : length b ≤ most_bytes

pub places_true : (b : List ℕ) → places_ok b ≡ true → Places b
unfolding places_ok
places_true b e =
    let t₅ : Bool = eqb (number b draw_offset + 4 * number b draw_count) (length b) in
    let t₄ : Bool = leb head_length (number b draw_offset) in
    let t₃ : Bool = eqb (number b event_offset) head_length in
    let t₂ : Bool = leb (length b) most_bytes in
    let t₁ : Bool = leb head_length (length b) in
    let e₂ : (t₂ && (t₃ && (t₄ && t₅))) ≡ true = and_right t₁ (t₂ && (t₃ && (t₄ && t₅))) e in
    let e₄ : (t₄ && t₅) ≡ true = and_right t₃ (t₄ && t₅) (and_right t₂ (t₃ && (t₄ && t₅)) e₂) in
    record {
      low = leb-true _ _ (and_left t₄ t₅ e₄);
      full = eqb-true _ _ (and_right t₄ t₅ e₄);
      most = leb-true _ _ (and_left t₂ (t₃ && (t₄ && t₅)) e₂);
    }

laid_of : (b : List ℕ) → places_ok b ≡ true → events_ok b ≡ true → Laid b (input_head b)
unfolding input_head events_ok events_part
laid_of b p e = let at : Places b = places_true b p in record { low = at.low; full = at.full; most = at.most; events = e }

whole_is : (x y : Head) → ◌≡◌ {A = Option Head} (Some x) (Some y) → x ≡ y
whole_is x y e = cc

pub laid : (b : List ℕ) (h : Head) → input_of b ≡ Some h → Laid b h
unfolding input_of
laid b h e =
    let p : Bool = places_ok b in
    let q : Bool = events_ok b in
    split (p && q)
    (λ t.
    let s : input_head b ≡ h = whole_is _ _ (sym (choose_yes (p && q) (Some (input_head b)) None t) ∙ e) in
    subst (Laid b) s (laid_of b (and_left p q t) (and_right p q t)))
    (λ f. let s : None ≡ Some h = sym (choose_no (p && q) (Some (input_head b)) None f) ∙ e in let z : ◌≡◌ {A = ℕ} 0 1 = cc in absurd (omega arith))
