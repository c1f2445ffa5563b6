-- Text written into lent bytes from their start on.
-- Assumes nothing.
use Rattle.std.specs.Prelude.{ℕ, min, ◌≡◌, false, List, ◌++◌, length, ltb}
use Rattle.std.specs.Borrow.{MutBor}
use Rattle.base_lists.specs.Bytes.{overwrite}
use Rattle.run_text.specs.declared.Page.{Page}

-- t is what the text w leaves of bytes that were out₀: what fits of w, then the old bytes
pub record Shows (w out₀ : List ℕ) (t : Page) : Type 0 where
  pub reached : t.text.at ≡ min (length w) (length out₀)
  pub over : t.text.full ≡ ltb (length out₀) (length w)
  pub bytes : t.out.now ≡ overwrite out₀ 0 w

-- r is t with x written after it, whatever text was written before, in the same lent bytes
pub record Prints (x : List ℕ) (t r : Page) : Type 0 where
  pub same : r.out.ghost_name ≡ t.out.ghost_name
  pub long : length r.out.now ≡ length t.out.now
  pub puts : (w out₀ : List ℕ) → Shows w out₀ t → Shows (w ++ x) out₀ r

-- no text, in these lent bytes
pub record Begins (out : MutBor (List ℕ)) (t : Page) : Type 0 where
  pub same : t.out.ghost_name ≡ out.ghost_name
  pub bytes : t.out.now ≡ out.now
  pub at_start : t.text.at ≡ 0
  pub room : t.text.full ≡ false
