-- An answer with a header was read of a well_formed record, which is what `show_nodes` requires.
use mathlib.Core.Path.{sym, ◌∙◌}
use Rattle.record.proofs.Laws.{answer_found}
use Rattle.test_record.proofs.show_record.Goals as goal

pub show_nodes-requires : goal.show_nodes-requires
show_nodes-requires c = answer_found _ _ (sym c.read.ensures ∙ c.in-Some.is)
