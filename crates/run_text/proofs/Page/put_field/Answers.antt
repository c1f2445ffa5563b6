-- The digits and then one byte are the field, by `put_after`.
use Rattle.run_text.proofs.Spelled.{put_after}
use Rattle.run_text.proofs.Page.put_field.Goals as goal

pub returns : goal.returns
returns c = put_after _ _ _ _ _ c.put.ensures c.put_decimal.ensures
