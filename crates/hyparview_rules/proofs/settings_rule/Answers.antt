-- Each test of a word is that of its setting, and all of them are the definition's range.
use Rattle.hyparview_rules.proofs.Held.{settings_are}
use Rattle.hyparview_rules.proofs.settings_rule.Goals as goal

pub returns : goal.returns
returns c = search settings_are
