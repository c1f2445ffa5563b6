-- Each call takes one more list out of the copy of the passive view; by cases of having a neighbor the refused peers go too, or stay in.
use Rattle.base_util.specs.Section.{part}
use Rattle.base_util.proofs.Sets.{set_inside, set_column}
use Rattle.hyparview_state.specs.Unpack.{unpack, station_of}
use Rattle.hyparview_state.proofs.Access.{of_packed}
use Rattle.step_refill.proofs.Asking.{left_list, left_of, left_by, candidates_alone, candidates_else}
use borrow.Author.Rules.{rules}
use Rattle.step_refill.proofs.candidates.Goals as goal

pub copy_into-requires-clause-valid_set : goal.copy_into-requires-clause-valid_set
unfolding part
copy_into-requires-clause-valid_set c = search (of_packed, rules)

pub slice_bounds-without_all_in-end-2 : goal.slice_bounds-without_all_in-end-2
unfolding part
slice_bounds-without_all_in-end-2 c = search set_inside

pub without_all_in-m-requires : goal.without_all_in-m-requires
unfolding part
without_all_in-m-requires c = search set_column

pub keys_into-requires-clause-valid_numbers : goal.keys_into-requires-clause-valid_numbers
unfolding part
keys_into-requires-clause-valid_numbers c = search (of_packed, rules)

pub without_all-requires : goal.without_all-requires
unfolding part
without_all-requires c =
    let copied = c.copy_into.ensures in
    let others = left_list _ _ _ _ copied.valid c.without_all_in-m.ensures.changes_column c.without_all_in-m.ensures.value.0 c.without_all_in-m.ensures.value.1 in record {
      valid_set = others.valid;
      valid_set_2 = c.keys_into.ensures.valid;
    }

pub returns-then-is_alone : goal.returns-then-is_alone
unfolding unpack station_of part
returns-then-is_alone c =
    let copied = c.copy_into.ensures in
    let xs = c.args.st.now in
    let others = left_list _ _ _ _ copied.valid c.without_all_in-m.ensures.changes_column c.without_all_in-m.ensures.value.0 c.without_all_in-m.ensures.value.1 in
    let free = left_by _ _ _ _ c.without_all.ensures c.keys_into.ensures in
    candidates_alone xs _ _ _ _ (left_of _ _ _ _ others copied) free c.is_alone.ensures c.if-is_alone.true

pub without_all-requires-2-clause-valid_set : goal.without_all-requires-2-clause-valid_set
unfolding part
without_all-requires-2-clause-valid_set c = search (of_packed, rules)

pub without_all-requires-2-clause-valid_set_2 : goal.without_all-requires-2-clause-valid_set_2
unfolding part
without_all-requires-2-clause-valid_set_2 c = search (of_packed, rules)

pub returns : goal.returns
unfolding unpack station_of part
returns c =
    let copied = c.copy_into.ensures in
    let xs = c.args.st.now in
    let others = left_list _ _ _ _ copied.valid c.without_all_in-m.ensures.changes_column c.without_all_in-m.ensures.value.0 c.without_all_in-m.ensures.value.1 in
    let free = left_by _ _ _ _ c.without_all.ensures c.keys_into.ensures in
    candidates_else xs _ _ _ _ (left_of _ _ _ _ others copied) free c.is_alone.ensures _ c.if-is_alone.false c.without_all-2.ensures
