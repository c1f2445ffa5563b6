-- By cases: a comma, or nothing before the first.
use Rattle.trace_text.proofs.Listing.{comma_none, comma_some}
use Rattle.trace_text.proofs.put_comma.Goals as goal

pub returns-then-i-ne0 : goal.returns-then-i-ne0
returns-then-i-ne0 c = comma_some _ _ _ c.if-i-ne0.true c.put.ensures

pub returns-else-i-ne0 : goal.returns-else-i-ne0
returns-else-i-ne0 c = comma_none _ _ c.if-i-ne0.false
