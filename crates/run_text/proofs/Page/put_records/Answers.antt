-- Each record gives one line, and where none is left the lines are whole.
use borrow.Author.Rules.{rules}
use Rattle.record.proofs.Walk.{next_record, next_header, no_record_left}
use Rattle.run_text.proofs.Laws.{listing_start, listing_next, listing_end}
use Rattle.run_text.proofs.Page.put_records.Goals as goal

pub loop-h-init : goal.loop-h-init
loop-h-init c = record { can = tt; finite = tt; listing = search (listing_start, rules) }

pub loop-h-preserved : goal.loop-h-preserved
loop-h-preserved c = record {
  can = tt;
  finite = tt;
  listing = listing_next _ _ _ _ _ c.loop-h.invariant.listing _ _ _ _ (next_record _ _ _ _ c.in-Some.ensures.steps) (next_header _ _ _ _ c.in-Some.ensures.steps) c.put_record.ensures;
}

pub returns : goal.returns
returns c = listing_end _ _ _ _ _ c.loop-h.invariant.listing (no_record_left _ c.in-None.ensures.steps.0)
