-- By cases: the words of data that is there, and zeroes for none.
use Rattle.hyparview.proofs.Making.{there_present, there_len, there_low, there_high, none_present, none_len, none_low, none_high}
use Rattle.hyparview.proofs.own_words.Goals as goal

pub returns-in-Some : goal.returns-in-Some
returns-in-Some c =
    let low = c.word_at-low.ensures in
    let high = c.word_at-high.ensures in
    let is = c.in-Some.is in
    record {
      present = there_present _ _ is;
      len = there_len _ _ is;
      low = there_low _ _ is _ _ low.0 high.0 low.1 high.1;
      high = there_high _ _ is _ _ low.0 high.0 low.1 high.1;
    }

pub returns-in-None : goal.returns-in-None
returns-in-None c =
    let is = c.in-None.is in record { present = none_present _ is; len = none_len _ is; low = none_low _ is; high = none_high _ is }
