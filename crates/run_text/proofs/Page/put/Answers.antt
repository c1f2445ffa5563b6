-- By cases on the room: the byte is stored and the place moves on, or nothing is written and the text is full.
use mathlib.Core.Path.{refl}
use Rattle.run_text.proofs.Written.{put_fits, put_past}
use Rattle.run_text.proofs.Page.put.Goals as goal

pub returns-then-self : goal.returns-then-self
returns-then-self c = put_fits _ _ _ refl c.if-self.true refl refl refl

pub returns-else-self : goal.returns-else-self
returns-else-self c = put_past _ _ _ refl c.if-self.false refl refl refl
