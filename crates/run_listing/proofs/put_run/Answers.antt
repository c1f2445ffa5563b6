-- By cases on what `open` decided: one line, or the events; a head that it handed on is laid within the input.
use borrow.Author.Rules.{rules}
use mathlib.Core.Path.{refl}
use Rattle.run_walk.proofs.Draws.{numbers_read}
use Rattle.run_listing.proofs.Laws.{opened_laid, run_line, run_events}
use Rattle.run_listing.proofs.put_run.Goals as goal

pub slice_bounds-read_numbers-count : goal.slice_bounds-read_numbers-count
slice_bounds-read_numbers-count c =
    search (rules, opened_laid _ _ _ c.open.ensures c.in-Ok.is)

pub slice_bounds-read_numbers-start : goal.slice_bounds-read_numbers-start
slice_bounds-read_numbers-start c =
    search (rules, opened_laid _ _ _ c.open.ensures c.in-Ok.is)

pub put_walk-requires-clause-laid : goal.put_walk-requires-clause-laid
put_walk-requires-clause-laid c = opened_laid _ _ _ c.open.ensures c.in-Ok.is

pub put_walk-requires-clause-prefix_len : goal.put_walk-requires-clause-prefix_len
put_walk-requires-clause-prefix_len c = (numbers_read _ _ _ _ (opened_laid _ _ _ c.open.ensures c.in-Ok.is) refl c.read_numbers.ensures).0

pub put_walk-requires-clause-drawn_value : goal.put_walk-requires-clause-drawn_value
put_walk-requires-clause-drawn_value c = (numbers_read _ _ _ _ (opened_laid _ _ _ c.open.ensures c.in-Ok.is) refl c.read_numbers.ensures).1

pub returns-in-Err : goal.returns-in-Err
returns-in-Err c = run_line _ _ c.open.ensures _ _ _ _ c.in-Err.is c.from.ensures c.put_end.ensures

pub returns-in-Ok : goal.returns-in-Ok
returns-in-Ok c =
    run_events _ _ c.open.ensures _ _ _ _ c.in-Ok.is c.begin-p.ensures c.put_walk.ensures
