-- By cases on the form, as the definition's test of its width.
use Prim.Native.Nat.{ℕ}
use mathlib.Core.Path.{◌≡◌}
use mathlib.Core.Bool.{true, not}
use lib.Dec.{eqb}
use Rattle.record.specs.Forms.{form_width}
use Rattle.record.specs.declared.Form.{Form}
use Rattle.record.specs.declared.Form.TheVariants.{Old, This}
use Rattle.record_convert.specs.Convert.{kind_in_form}
use Rattle.record_convert.proofs.kind_in_form.Goals as goal

module _ (k : ℕ) (f : Form) where
  old : f ≡ Old → not (eqb k 13) ≡ kind_in_form (form_width f) k
  unfolding kind_in_form
  old e = rw e

  this : f ≡ This → true ≡ kind_in_form (form_width f) k
  unfolding kind_in_form
  this e = rw e

pub returns-in-Old : goal.returns-in-Old
returns-in-Old c = search old

pub returns-in-This : goal.returns-in-This
returns-in-This c = search this
