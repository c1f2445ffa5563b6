-- Own data is its four words, and the interval the shorter of two, so the list is the front of a new station, in the layout's order.
use Rattle.hyparview.proofs.Making.{numbers_are}
use Rattle.hyparview.proofs.first_numbers.Goals as goal

pub returns : goal.returns
returns c =
    let w = c.own_words-present.ensures in
    numbers_are _ _ _ _ _ w.present w.len w.low w.high _ _ _ c.shorter-interval.ensures
