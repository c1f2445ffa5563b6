-- By cases on the byte of the line: what it stands for is written.
use borrow.Author.Rules.{rules}
use Prim.Native.Nat.{◌<◌}
use Rattle.trace_text.specs.Items.{ascii}
use Rattle.trace_text.proofs.Line.{line, places, rooms, line_start, own_next, limit_next, under_next, over_next, field_there, field_in, field_next, line_end, fields}
use Rattle.trace_text.proofs.Laws.{event_put}
use Rattle.trace_text.proofs.put_trace_event.Goals as goal
use Rattle.trace_text.proofs.put_trace_event.Goals.{in-79, in-76, in-48-to-52, in_default+in_default, in_default-via-then-x-lt48, in_default-via-else-x-lt48+else-x-lt53}

pub loop-x-init : goal.loop-x-init
loop-x-init c = search (line_start, rules)

pub offset_bounds-field : goal.offset_bounds-field
unfolding line ascii
offset_bounds-field c = let there : c.loop-x.field < fields = search field_there in search rules

pub bounds-field : goal.bounds-field
unfolding line ascii
bounds-field c = search field_there

pub bounds-field-in-48-to-52 : goal.bounds-field-in-48-to-52
unfolding line ascii
bounds-field-in-48-to-52 c = search field_there

pub offset_bounds-field-in-48-to-52 : goal.offset_bounds-field-in-48-to-52
unfolding line ascii
offset_bounds-field-in-48-to-52 c = let there : c.loop-x.field < fields = search field_there in search rules

pub put_items-requires : goal.put_items-requires
unfolding line places rooms ascii
put_items-requires c = search field_in

pub overflow_add-field : goal.overflow_add-field
unfolding line ascii
overflow_add-field c = let there : c.loop-x.field < fields = search field_there in search rules

pub loop-x-preserved : goal.loop-x-preserved
unfolding line places rooms ascii
loop-x-preserved c =
    elim c.match-x.branch [
      | in-79 w ↦ rw (w.t-is, w.field-is) (own_next _ _ _ _ _ c.loop-x.invariant c.loop-x-test.true _ w.in-79.is w.put_own.ensures)
      | in-76 w ↦ rw (w.t-is, w.field-is) (limit_next _ _ _ _ _ c.loop-x.invariant c.loop-x-test.true _ w.in-76.is w.put_limit.ensures)
      | in-48-to-52 w ↦ rw (w.t-is, w.field-is) (search (field_next, rules))
      | in_default+in_default w ↦ elim w.in_default.branch [ in_default-via-then-x-lt48 v ↦ rw (w.t-is, w.field-is) (search (under_next, rules)) | in_default-via-else-x-lt48+else-x-lt53 v ↦ rw (w.t-is, w.field-is) (search (over_next, rules)) ]
    ]

pub returns : goal.returns
returns c =
    event_put _ _ _ _ _ _ _ _ (line_end _ _ _ _ _ c.loop-x.invariant c.loop-x-test.false) c.put_end.ensures c.put_record_lines.ensures
