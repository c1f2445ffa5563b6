-- A place below the count is one of the items, so the word there is the item.
use Rattle.base_util.proofs.Sets.{item_read}
use Rattle.base_util.proofs.get_index.Goals as goal

pub returns : goal.returns
returns c = search item_read
