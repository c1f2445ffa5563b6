-- By cases: fewer bytes than a header, a length of 0, or a line, which has the space that it needs.
use borrow.Author.Rules.{rules}
use Rattle.run_listing.proofs.Stream.{lines_few_bytes, lines_none, lines_one}
use Rattle.run_listing.proofs.record_line.Goals as goal

pub returns-then-records-lt-HEADER : goal.returns-then-records-lt-HEADER
returns-then-records-lt-HEADER c = search lines_few_bytes

pub returns-then-n-eq0 : goal.returns-then-n-eq0
returns-then-n-eq0 c = search (lines_none, rules)

pub returns : goal.returns
returns c =
    lines_one _ _ _ c.read_header-h.ensures c.if-records-lt-HEADER.false _ _ _ _ c.if-n-eq0.false c.requires c.new-t.ensures c.put_record.ensures (search rules)
