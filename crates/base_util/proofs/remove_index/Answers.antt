-- The last item goes into the gap, zero into its place, and the count falls: by `last_in_gap` that is `swap_remove`.
use lib.ListN.{length-set}
use Rattle.base_util.proofs.Sets.{last_in_gap}
use borrow.Author.Rules.{rules}
use Rattle.base_util.proofs.remove_index.Goals as goal

pub bounds-s-last-2 : goal.bounds-s-last-2
bounds-s-last-2 c = simp length-set (search rules)

pub bounds-s-cap-2 : goal.bounds-s-cap-2
bounds-s-cap-2 c = simp length-set (search rules)

pub returns : goal.returns
returns c = search last_in_gap
