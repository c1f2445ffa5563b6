-- By cases on kind 0, which alone has messages past 0.
use Prim.Native.Nat.{ℕ}
use mathlib.Core.Path.{◌≡◌}
use mathlib.Core.Bool.{not, ◌&&◌}
use lib.Dec.{eqb, leb}
use Rattle.base_lists.specs.Lists.{choose}
use Rattle.record.specs.Read.{fixed_size, kind_ok}
use Rattle.record.specs.declared.Header.{Header}
use Rattle.record.proofs.Laws.{at_most_none}
use borrow.Author.Tests.{eq-eqb, ne_eqb}
use Rattle.record.proofs.Header.kind_ok.Goals.{then-self-eq-MESSAGE, else-self-eq-MESSAGE}
use Rattle.record.proofs.Header.kind_ok.Goals as goal

module _ (h : Header) (f last : ℕ) (p : f ≡ fixed_size h.kind) where
  message : h.kind ≡ 0 → last ≡ 5 → (not (eqb f 0) && leb h.message last) ≡ kind_ok h
  unfolding kind_ok choose
  message k q = rw (p, q, eq-eqb h.kind 0 k)

  other : (h.kind ≡ 0 → ⊥) → last ≡ 0 → (not (eqb f 0) && leb h.message last) ≡ kind_ok h
  unfolding kind_ok choose
  other k q = rw (p, q, ne_eqb h.kind 0 k, at_most_none h.message)

pub returns : goal.returns
returns c =
    elim c.if-self-eq-MESSAGE.branch [
      | then-self-eq-MESSAGE w ↦ message _ _ _ c.fixed_size.ensures w.if-self-eq-MESSAGE.true w.last-is
      | else-self-eq-MESSAGE w ↦ other _ _ _ c.fixed_size.ensures w.if-self-eq-MESSAGE.false w.last-is
    ]
