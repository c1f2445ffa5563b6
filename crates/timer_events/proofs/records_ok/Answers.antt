-- The queue only grew at its end, so a refusal that truncates it to the first count leaves the entries it had.
use mathlib.Core.Path.{sym, ap, ◌∙◌}
use borrow.Author.Rules.{rules}
use Rattle.timer_map.proofs.Ways.{words_of}
use Rattle.timer_events.proofs.Inserting.{all_sound, all_more, none_put, all_put, ok_code, err_code}
use Rattle.timer_events.proofs.records_ok.Goals as goal

pub truncate_entries-requires-clause-sound_queue : goal.truncate_entries-requires-clause-sound_queue
truncate_entries-requires-clause-sound_queue c = search all_sound

pub truncate_entries-requires-clause-n_bound : goal.truncate_entries-requires-clause-n_bound
truncate_entries-requires-clause-n_bound c = search (all_more, rules)

pub returns-then-is_err : goal.returns-then-is_err
returns-then-is_err c =
    none_put _ _ _ c.requires _ _ c.insert_all-put.ensures _ c.truncate_entries.ensures (err_code c.insert_all-put.result (sym c.is_err.ensures.value ∙ c.if-is_err.true))

pub returns-else-is_err : goal.returns-else-is_err
returns-else-is_err c =
    let z = ok_code c.insert_all-put.result (sym c.is_err.ensures.value ∙ c.if-is_err.false) in
    ap (λ n. words_of n c.insert_all-put.new.q) z ∙ all_put _ _ _ c.requires _ _ c.insert_all-put.ensures z
