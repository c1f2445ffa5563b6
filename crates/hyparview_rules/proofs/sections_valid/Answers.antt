-- What each call says of its section, put together. Written by tools/make/layout.py.
use Rattle.base_util.specs.Section.{part}
use Rattle.hyparview_rules.proofs.Under.{sections_are}
use Rattle.hyparview_rules.proofs.sections_valid.Goals as goal

pub returns : goal.returns
unfolding part
returns c =
    sections_are _ _ _ _ _ _ _ _ _ _ _ c.is_section.ensures c.is_section-2.ensures c.is_section-3.ensures c.is_section-4.ensures c.numbers_valid.ensures c.is_section-5.ensures c.is_section-6.ensures c.numbers_valid-2.ensures c.data_valid.ensures c.is_section-7.ensures
