-- The items of the second set stand after those of the first, and the rest is as it was.
use Rattle.base_util.proofs.Copies.{appended}
use Rattle.base_util.proofs.append.Goals as goal

pub returns : goal.returns
returns c = appended _ _ _ _ c.requires.valid_set c.requires.valid_set_2 c.requires.more_len_bound _ c.copy_from_slice.ensures.after
