-- The lines as they are put.
-- Assumes nothing.
use Prim.Native.Nat.{ℕ, ◌≤◌, min}
use mathlib.Core.Path.{◌≡◌, sym}
use mathlib.Core.List.{List, []}
use native.Mathlib.Nat.{min-le_right}
use native.Mathlib.Omega.{arith}
use lib.ListN.{length, take}
use lib.Seq.{length-take-le}
use Rattle.base_lists.specs.Bytes.{overwrite}
use denote.MutBor.{MutBor}
use Rattle.run_text.specs.Text.{Prints, Begins, Shows}
use Rattle.run_text.specs.Numbers.{field}
use Rattle.run_text.specs.declared.Page.{Page}
use Rattle.run_text.proofs.Written.{begun, then}
use Rattle.endings.specs.declared.Ends.{Ends}
use Rattle.run_stories.specs.Lines.{ends_line, ends_text}

pub line_put : (a p n : ℕ) (t t₁ t₂ r : Page) → Prints (field n 10) t₂ r → Prints (field p 32) t₁ t₂ → Prints (field a 32) t t₁ → Prints (ends_line a p n) t r
unfolding ends_line
line_put a p n t t₁ t₂ r k₃ k₂ k₁ = then (then k₃ k₂) k₁

pub ends_put : (c : Ends) (t t₁ t₂ t₃ r : Page) → Prints (ends_line 1 1 c.both) t₃ r → Prints (ends_line 1 0 c.active) t₂ t₃ → Prints (ends_line 0 1 c.passive) t₁ t₂ → Prints (ends_line 0 0 c.neither) t t₁
    → Prints (ends_text c) t r
unfolding ends_text
ends_put c t t₁ t₂ t₃ r k₄ k₃ k₂ k₁ = then (then (then k₄ k₃) k₂) k₁

module _ (w : List ℕ) (out : MutBor (List ℕ)) (t r : Page) (b : Begins out t) (k : Prints w t r) where
  shown : Shows w out.now r
  shown = k.puts [] out.now (begun b)

  pub told : r.text.at ≡ min (length w) (length out.now)
  told = shown.reached

  pub told_inside : r.text.at ≤ length out.now
  told_inside = rw shown.reached (min-le_right (length w) (length out.now))

  pub bytes_told : r.out.now ≡ overwrite out.now 0 w
  bytes_told = shown.bytes

pub cut_length : (n : ℕ) (b : List ℕ) → n ≤ 64 → length b ≡ 64 → n ≡ length (take n b)
cut_length n b l e = sym (length-take-le n b (omega (arith, l, e)))
