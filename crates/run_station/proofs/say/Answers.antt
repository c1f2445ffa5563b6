-- An input with events has them, and its draws, in their places.
use mathlib.Core.Path.{refl}
use borrow.Author.Rules.{rules}
use Rattle.run_walk.proofs.Draws.{numbers_read}
use Rattle.run_listing.proofs.Laws.{opened_laid}
use Rattle.run_station.proofs.say.Goals as goal

pub slice_bounds-read_numbers-count : goal.slice_bounds-read_numbers-count
slice_bounds-read_numbers-count c = search (rules, opened_laid _ _ _ c.open.ensures c.in-Ok.is)

pub slice_bounds-read_numbers-start : goal.slice_bounds-read_numbers-start
slice_bounds-read_numbers-start c = search (rules, opened_laid _ _ _ c.open.ensures c.in-Ok.is)

pub slice_bounds-events-count : goal.slice_bounds-events-count
slice_bounds-events-count c = search (rules, opened_laid _ _ _ c.open.ensures c.in-Ok.is)

pub slice_bounds-events-start : goal.slice_bounds-events-start
slice_bounds-events-start c = search (rules, opened_laid _ _ _ c.open.ensures c.in-Ok.is)

pub slice_bounds-events-end : goal.slice_bounds-events-end
slice_bounds-events-end c = search (rules, opened_laid _ _ _ c.open.ensures c.in-Ok.is)

pub slice_bounds-drawn-end : goal.slice_bounds-drawn-end
slice_bounds-drawn-end c = search (rules, (numbers_read _ _ _ _ (opened_laid _ _ _ c.open.ensures c.in-Ok.is) refl c.read_numbers.ensures).0.0)

pub slice_bounds-draws-end : goal.slice_bounds-draws-end
slice_bounds-draws-end c = search (rules, (numbers_read _ _ _ _ (opened_laid _ _ _ c.open.ensures c.in-Ok.is) refl c.read_numbers.ensures).0)
