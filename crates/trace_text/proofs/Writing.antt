-- Loops that write a text piece by piece: bytes in hex, and the records of an output.
-- Assumes nothing.
use Prim.Native.Nat.{ℕ, suc, min, ◌+◌, ◌*◌, ◌-◌, ◌/◌, ◌%◌, ◌≤◌, ◌<◌}
use mathlib.Core.Path.{◌≡◌, refl, sym, ap, ◌∙◌}
use mathlib.Core.Bool.{Bool, cond}
use mathlib.Core.List.{List, [], ◌∷◌, ◌++◌, append-nil, append_assoc}
use native.Mathlib.Omega.{arith}
use lib.ListN.{length, take, drop, get_or, drop_of_length-le}
use lib.Seq.{drop-cons}
use lib.Dec.{ltb}
use borrow.Author.Tests.{ltb-true, ltb-false}
use Rattle.std.proofs.lemmas.List.{take_min}
use Rattle.base_lists.proofs.Choice.{split}
use Rattle.io.specs.Digits.{hex_digit_ascii}
use Rattle.record.specs.declared.Header.{Header}
use Rattle.record.specs.Format.{header_length}
use Rattle.record.specs.Read.{header_of}
use Rattle.record.specs.Walk.{records_in}
use Rattle.record.proofs.Walk.{size_is}
use Rattle.run_text.specs.declared.Page.{Page}
use Rattle.run_text.specs.Text.{Prints}
use Rattle.run_text.proofs.Written.{nothing, then, named}
use Rattle.trace_text.specs.Hex.{hex, hex_lines}

-- rest is to come of the whole text, after what was written
pub record Writing (whole : List ℕ) (t r : Page) (rest : List ℕ) : Type 0 where
  pub done : List ℕ
  pub so_far : Prints done t r
  pub same : whole ≡ done ++ rest

pub writing_start : (whole : List ℕ) (t : Page) → Writing whole t t whole
writing_start whole t = record { done = []; so_far = nothing; same = refl }

module _ {whole : List ℕ} {t r : Page} {rest : List ℕ} (v : Writing whole t r rest) where
  pub writing_next : {s : Page} (x left : List ℕ) → rest ≡ x ++ left → Prints x r s → Writing whole t s left
  writing_next x left e k = record {
    done = v.done ++ x;
    so_far = then k v.so_far;
    same = v.same ∙ (ap (λ (z : List ℕ). v.done ++ z) e ∙ sym (append_assoc v.done x left));
  }

  pub writing_end : rest ≡ [] → Prints whole t r
  writing_end e = named (sym (v.same ∙ (ap (λ (z : List ℕ). v.done ++ z) e ∙ append-nil v.done))) v.so_far

-- ---- bytes in hex

-- a digit past 9 stands 39 further on
digit : (d : ℕ) → d < 16 → 48 + d + 39 * (d / 10) ≡ hex_digit_ascii d
digit d h =
    split (ltb d 10) (λ y. let l = ltb-true d 10 y in let e : 48 + d + 39 * (d / 10) ≡ 48 + d = omega (arith, l) in e ∙ ap (λ (b : Bool). cond b (48 + d) (87 + d)) (sym y))
    (λ n. let l = ltb-false d 10 n in let e : 48 + d + 39 * (d / 10) ≡ 87 + d = omega (arith, l, h) in e ∙ ap (λ (b : Bool). cond b (48 + d) (87 + d)) (sym n))

module _ (s : List ℕ) (t r : Page) (i : ℕ) (v : Writing (hex s) t r (hex (drop i s))) where
  two_digits : i < length s → hex (drop i s) ≡ (hex_digit_ascii (get_or s i 0 / 16 % 16) ∷ hex_digit_ascii (get_or s i 0 % 16) ∷ []) ++ hex (drop (i + 1) s)
  unfolding hex
  two_digits h = let e : suc i ≡ i + 1 = omega arith in ap hex (drop-cons s i 0 h ∙ (λ j. get_or s i 0 ∷ drop (e j) s))

  pub hex_next : (y z : ℕ) (a b : Page) → i < length s → get_or s i 0 < 256
      → y ≡ 48 + get_or s i 0 / 16 + 39 * (get_or s i 0 / 16 / 10) → z ≡ 48 + get_or s i 0 % 16 + 39 * (get_or s i 0 % 16 / 10)
      → Prints (z ∷ []) a b → Prints (y ∷ []) r a → Writing (hex s) t b (hex (drop (i + 1) s))
  hex_next y z a b h m e f p₂ p₁ =
      let w : get_or s i 0 / 16 ≡ get_or s i 0 / 16 % 16 = omega (arith, m) in
      let high : hex_digit_ascii (get_or s i 0 / 16 % 16) ≡ y = sym (e ∙ (digit (get_or s i 0 / 16) (omega (arith, m)) ∙ ap hex_digit_ascii w)) in
      let low : hex_digit_ascii (get_or s i 0 % 16) ≡ z = sym (f ∙ digit (get_or s i 0 % 16) (omega arith)) in
      writing_next v (y ∷ z ∷ []) (hex (drop (i + 1) s)) (two_digits h ∙ (λ j. (high j ∷ low j ∷ []) ++ hex (drop (i + 1) s))) (then p₂ p₁)

  pub hex_end : (n : ℕ) (b : List ℕ) → s ≡ take (min n (length b)) b → length s ≤ i → Prints (hex (take n b)) t r
  unfolding hex
  hex_end n b e h = named (ap hex (e ∙ take_min n b)) (writing_end v (ap hex (drop_of_length-le s h)))

-- ---- the records of an output

module _ (whole : List ℕ) (t r : Page) (b : List ℕ) (v : Writing whole t r (hex_lines (records_in b))) where
  pub lines_end : records_in b ≡ [] → Prints whole t r
  unfolding hex_lines
  lines_end e = writing_end v (ap hex_lines e)

  pub lines_next : (h : Header) (c more : List ℕ) (a s : Page) → records_in b ≡ c ∷ records_in more → h ≡ header_of c → Prints (10 ∷ []) a s → Prints (hex (take h.size c)) r a
      → Writing whole t s (hex_lines (records_in more))
  unfolding hex_lines
  lines_next h c more a s e is k₂ k₁ =
      writing_next v (hex (take h.size c) ++ (10 ∷ [])) (hex_lines (records_in more))
      (ap hex_lines e ∙ ap (λ (n : ℕ). (hex (take n c) ++ (10 ∷ [])) ++ hex_lines (records_in more)) (sym (size_is c h is)))
      (then k₂ k₁)
