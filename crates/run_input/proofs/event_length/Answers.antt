-- By cases: too short for a header, or the length read is within the bytes or not, as the definition chooses.
use Prim.Native.Nat.{ℕ, ◌≤◌, ◌<◌}
use mathlib.Core.Path.{◌≡◌, sym, ap, ◌∙◌}
use mathlib.Core.Bool.{Bool, true, false, ◌&&◌}
use mathlib.Core.List.{List}
use native.Mathlib.Omega.{arith}
use lib.ListN.{length}
use lib.Dec.{leb}
use borrow.Author.Tests.{leb-true}
use Rattle.base_lists.proofs.Choice.{choose_yes, choose_no, and_right}
use Rattle.record.specs.declared.Header.{Header}
use Rattle.record.specs.Format.{header_length}
use Rattle.record.specs.Read.{header_of, header_of_by}
use Rattle.record.specs.Walk.{whole_length}
use Rattle.run_input.specs.Input.{event_length}
use Rattle.run_input.proofs.Laws.{event_none}
use borrow.Author.Rules.{rules}
use Rattle.run_input.proofs.event_length.Goals as goal

short : (b : List ℕ) → length b < header_length → 0 ≡ event_length b
short b h = sym (event_none b (λ p q. omega (arith, h, p, q)))

module _ (b : List ℕ) (h : Header) (e : h ≡ header_of b) where
  -- whether a size is that of an event at the front
  abbrev fits : ℕ → Bool
  fits n = leb header_length n && leb n (length b)

  size_is : h.size ≡ whole_length b
  unfolding header_of_by whole_length
  size_is = ap (λ (g : Header). g.size) e

  cut : fits h.size ≡ true → h.size ≡ event_length b
  unfolding event_length
  cut t = size_is ∙ sym (choose_yes (fits (whole_length b)) (whole_length b) 0 (ap fits (sym size_is) ∙ t))

  none : fits h.size ≡ false → 0 ≡ event_length b
  unfolding event_length
  none f = sym (choose_no (fits (whole_length b)) (whole_length b) 0 (ap fits (sym size_is) ∙ f))

  within : fits h.size ≡ true → h.size ≤ length b
  within t = leb-true _ _ (and_right (leb header_length h.size) (leb h.size (length b)) t)

pub returns-then-size-b : goal.returns-then-size-b
returns-then-size-b c = (search cut, search within)

pub returns-else-size-b : goal.returns-else-size-b
returns-else-size-b c = (search none, search rules)

pub returns-else-b-ge-HEADER : goal.returns-else-b-ge-HEADER
returns-else-b-ge-HEADER c = (search short, search rules)
