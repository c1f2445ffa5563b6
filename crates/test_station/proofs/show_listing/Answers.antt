-- A text that fits has no more bytes than were lent, so the part lent has exactly its length.
use borrow.Author.Rules.{rules}
use Rattle.run_listing.proofs.Laws.{shown_within, shown_counted}
use Rattle.test_station.proofs.show_listing.Goals as goal

pub slice_bounds-write_all-end : goal.slice_bounds-write_all-end
slice_bounds-write_all-end c = search (shown_within, rules)

pub slice_bounds-write_all-end-in-Some : goal.slice_bounds-write_all-end-in-Some
slice_bounds-write_all-end-in-Some c = search (shown_counted, rules)
