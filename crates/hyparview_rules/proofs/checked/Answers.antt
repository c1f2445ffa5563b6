-- By cases: another length, words that are not packed, and packed words that keep the rules or break one.
use Rattle.hyparview_rules.proofs.Held.{other_length, unpacked}
use Rattle.hyparview_rules.proofs.checked.Goals as goal

pub returns-in_default : goal.returns-in_default
returns-in_default c = other_length _ c.in_default.ensures.cases

pub returns-then-not-is_packed : goal.returns-then-not-is_packed
returns-then-not-is_packed c = unpacked _ _ c.in-Some.ensures.cases.same _ c.is_packed.ensures c.if-not-is_packed.true
