-- By cases: too short for a header, or the lesser of its length and what is there, each as `first_record` chooses.
use Prim.Native.Nat.{ℕ, ◌<◌, ◌≤◌, min}
use mathlib.Core.Path.{◌≡◌, sym, ap}
use mathlib.Core.List.{List}
use native.Mathlib.Omega.{arith}
use lib.ListN.{length, length-take}
use Rattle.record.specs.Format.{place_by}
use Rattle.record.specs.Read.{header_of_by}
use Rattle.record.specs.declared.Header.{Header}
use Rattle.record_convert.specs.Walk.{first_record}
use Rattle.record_convert.proofs.Walk.{first_short, first_long}
use borrow.Author.Rules.{rules}
use Rattle.record_convert.proofs.first_length.Goals as goal

module _ (v : ℕ) (b : List ℕ) (at : ℕ) (e : at ≡ place_by v 0) where
  short : length b < at → length b ≡ length (first_record v b)
  short l = ap length (sym (first_short v b (omega (arith, e))))

  lesser : at ≤ length b → (h : Header) → h ≡ header_of_by v b → (r : ℕ) → r ≡ min (length b) h.size → (r ≡ length (first_record v b)) × (r ≤ length b)
  unfolding header_of_by
  lesser l h q r p =
      (omega (arith, p, ap (λ (x : Header). x.size) q, ap length (first_long v b (omega (arith, e))), length-take (header_of_by v b).size b), omega (arith, p))

pub returns-then-b-place : goal.returns-then-b-place
returns-then-b-place c = (short _ _ _ c.place.ensures.0 c.if-b-place.true, search rules)

pub returns : goal.returns
returns c = lesser _ _ _ c.place.ensures.0 c.if-b-place.false _ c.read_header_by-h.ensures _ c.min.ensures
