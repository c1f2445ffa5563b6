-- Each item is written by the form of its field, and at the end all are.
use borrow.Author.Rules.{rules}
use native.Mathlib.Omega.{arith}
use Rattle.trace_text.proofs.Listing.{listed_some, listed_alone, listed_full, single_next, numbered_next, held_next}
use Rattle.trace_text.proofs.put_items.Goals as goal
use Rattle.trace_text.proofs.put_items.Goals.{then-columns-eq0, else-columns-eq0, then-columns-gt1+then-columns-eq2, then-columns-gt1+else-columns-eq2, else-columns-gt1}

pub loop-i-init : goal.loop-i-init
loop-i-init c =
    elim c.if-columns-eq0.branch [ then-columns-eq0 w ↦ search (listed_alone, rules) | else-columns-eq0 w ↦ search (listed_some, rules) ]

pub loop-i-preserved : goal.loop-i-preserved
loop-i-preserved c =
    elim c.if-columns-gt1.branch [ then-columns-gt1+then-columns-eq2 w ↦ rw w.t-is (numbered_next _ _ _ _ _ _ _ _ c.loop-i.invariant (omega (arith, c.min-i-end.ensures)) (omega (arith, c.min-i-end.ensures)) _ _ c.put_decimal.ensures c.put_comma.ensures _ _ w.put.ensures w.if-columns-eq2.true w.put_decimal-then-columns-eq2.ensures) | then-columns-gt1+else-columns-eq2 w ↦ rw w.t-is (held_next _ _ _ _ _ _ _ _ c.loop-i.invariant (omega (arith, c.min-i-end.ensures)) (omega (arith, c.min-i-end.ensures)) _ _ c.put_decimal.ensures c.put_comma.ensures _ _ w.put.ensures _ w.if-columns-gt1.true w.if-columns-eq2.false w.bytes_of-bytes.ensures w.put_front.ensures) | else-columns-gt1 w ↦ rw w.t-is (single_next _ _ _ _ _ _ _ _ c.loop-i.invariant (omega (arith, c.min-i-end.ensures)) (omega (arith, c.min-i-end.ensures)) _ _ c.put_decimal.ensures c.put_comma.ensures w.if-columns-gt1.false) ]

pub returns : goal.returns
returns c = listed_full _ _ _ _ _ _ _ _ c.loop-i.invariant (omega (arith, c.min-i-end.ensures))
