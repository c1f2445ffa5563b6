-- By the contract of `reach` one draw on; a draw that is not there is read as 0.
use Rattle.work.proofs.Any.{drew_one}
use Rattle.std.proofs.Common.{arith}
use Rattle.std.proofs.lemmas.Grind.{common_steps}
use Rattle.std.proofs.lemmas.Option.{unwrap_or-slice_get}
use Rattle.work.proofs.draw.Goals as goal

pub returns-clause-draws_any : goal.returns-clause-draws_any
returns-clause-draws_any c = search drew_one

pub returns-clause-value_value : goal.returns-clause-value_value
returns-clause-value_value c = grind (arith, common_steps, unwrap_or-slice_get)
