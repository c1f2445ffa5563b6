-- By cases: nobody known, alone, short in a recovery, short with a refill due or not, and enough; a count, refused or not, is one change.
use Prim.Native.Nat.{ℕ}
use mathlib.Core.Path.{◌≡◌}
use mathlib.Core.List.{List}
use native.Mathlib.Omega.{arith}
use Rattle.spec_hyparview.specs.Station.{is_alone}
use Rattle.spec_hyparview.specs.Setters.{set_passes_alone}
use Rattle.spec_hyparview.specs.Run.{on}
use Rattle.spec_hyparview.specs.Timers.{count_short, pass_known, not_alone, maintain}
use Rattle.work.specs.declared.Work.{Work}
use Rattle.hyparview_state.specs.Unpack.{unpack}
use Rattle.hyparview_state.specs.Work.{work_of, run, Changes, Fine, Does}
use Rattle.hyparview_state.proofs.Access.{of_short}
use Rattle.hyparview_state.proofs.Bridge.{on_passed}
use Rattle.step_refill.proofs.Asking.{fine_after}
use Rattle.step_maintenance.proofs.Counted.{alone_reset, short_refused, short_counted}
use Rattle.step_maintenance.proofs.Passes.{refilled_anew, refill_due, refill_not_due, recovery_known, paused, passed_short, short_passed, enough_passed, recovers, neighbors_passed, none_known, maintained_alone, maintained, knows_some, words_as, alone_still}
use Rattle.step_maintenance.proofs.maintain.Goals as goal
use Rattle.step_maintenance.proofs.maintain.Goals.{Joined-w-eq0, After-end_recovery-a, Joined-b-eq0, then-w-eq0, then-b-eq0, else-w-eq0, else-b-eq0}

-- A node that knows a peer counts no pass alone any more.
reset : (c : Joined-w-eq0) → Changes (on (set_passes_alone 0)) (work_of c.args.w c.args.st.now) (work_of c.args.w c.if-w-eq0.st)
reset c =
    elim c.if-w-eq0.branch [ then-w-eq0 s ↦ words_as _ _ _ _ _ s.st-is (alone_reset _ _ c.requires.given.ready.packed s.if-w-eq0.true) | else-w-eq0 s ↦ words_as _ _ _ _ _ s.st-is (on_passed _ c.requires.given.ready.packed _ s.if-w-eq0.false) ]

reset_then : (c : After-end_recovery-a) → Changes (on (set_passes_alone 0)) (work_of c.args.w c.args.st.now) (work_of c.args.w c.if-w-eq0.st)
reset_then c =
    elim c.if-w-eq0.branch [ then-w-eq0 s ↦ words_as _ _ _ _ _ s.st-is (alone_reset _ _ c.requires.given.ready.packed s.if-w-eq0.true) | else-w-eq0 s ↦ words_as _ _ _ _ _ s.st-is (on_passed _ c.requires.given.ready.packed _ s.if-w-eq0.false) ]

knows : (c : After-end_recovery-a) → Changes (on not_alone) (work_of c.args.w c.args.st.now) (work_of c.end_recovery-a.result c.end_recovery-a.new.st)
knows c = knows_some _ _ _ c.end_recovery-a.ensures (reset_then c)

known : (c : After-end_recovery-a) → Fine (work_of c.end_recovery-a.result c.end_recovery-a.new.st) c.args.draws.now c.args.out.now
known c = fine_after _ _ _ _ _ _ c.requires.given (knows c)

-- What is made of a node that knows a peer is what the maintenance makes.
pass : (c : After-end_recovery-a) (r : Work) (ys o : List ℕ) → Does (work_of r ys) c.args.draws.now o (pass_known (run (work_of c.end_recovery-a.result c.end_recovery-a.new.st) c.args.draws.now c.args.out.now))
    → Does (work_of r ys) c.args.draws.now o (maintain (run (work_of c.args.w c.args.st.now) c.args.draws.now c.args.out.now))
pass c r ys o k =
    maintained _ _ _ _ _ c.requires.given _ _ _ _ _ (none_known _ _ c.requires.given.ready.packed c.is_alone-alone.ensures) c.if-alone-st.false k (knows c)

alone : (c : After-end_recovery-a) → c.is_alone-alone.result ≡ is_alone (unpack c.end_recovery-a.new.st)
alone c = alone_still _ _ _ _ _ (knows c) c.is_alone-alone.ensures

-- The pass of a short node, counted where it can be.
counted : (c : Joined-b-eq0) → Changes count_short (work_of c.end_recovery-a.result c.end_recovery-a.new.st) (work_of c.require-b.result c.if-b-eq0.st)
counted c =
    let packed = c.end_recovery-a.ensures.packed in
    let tested = c.require-b.ensures in
    elim c.if-b-eq0.branch [ then-b-eq0 s ↦ words_as _ _ _ _ _ s.st-is (short_counted _ _ _ packed tested s.if-b-eq0.true) | else-b-eq0 s ↦ words_as _ _ _ _ _ s.st-is (short_refused _ _ _ packed tested s.if-b-eq0.false) ]

pub returns-then-alone-st : goal.returns-then-alone-st
returns-then-alone-st c =
    maintained_alone _ _ _ _ _ c.requires.given _ _ _ (none_known _ _ c.requires.given.ready.packed c.is_alone-alone.ensures) c.if-alone-st.true c.pass_alone.ensures

pub end_recovery-a-requires : goal.end_recovery-a-requires
end_recovery-a-requires c =
    let packed = (reset (goal.at.end_recovery-a-requires c).Joined-w-eq0).packed in record {
      packed_state = packed;
    }

pub returns-then-alone : goal.returns-then-alone
returns-then-alone c =
    let ended = (goal.at.returns-then-alone c).After-end_recovery-a in
    pass ended _ _ _ (recovers _ _ _ _ _ (known ended) _ _ _ (alone ended) c.if-alone.true c.start_refill.ensures)

pub returns-then-is_recovery : goal.returns-then-is_recovery
returns-then-is_recovery c =
    let ended = (goal.at.returns-then-is_recovery c).After-end_recovery-a in
    let given = known ended in
    pass ended _ _ _
    (neighbors_passed _ _ _ _ _ given _ _ _ (alone ended) c.if-alone.false
    (short_passed _ _ _ _ _ given _ _ _ c.is_short.ensures c.if-is_short.true
    (paused _ _ _ _ _ given (recovery_known _ _ _ c.limit_of.ensures c.is_recovery.ensures) c.if-is_recovery.true)))

pub overflow_cast-st : goal.overflow_cast-st
overflow_cast-st c =
    record { fits = omega (arith, of_short _ (counted (goal.at.overflow_cast-st c).Joined-b-eq0).packed) }

pub clear_refused-c-requires : goal.clear_refused-c-requires
clear_refused-c-requires c =
    let packed = (counted (goal.at.clear_refused-c-requires c).Joined-b-eq0).packed in record {
      packed_state = packed;
    }

pub returns-then-backoff_due : goal.returns-then-backoff_due
returns-then-backoff_due c =
    let there = goal.at.returns-then-backoff_due c in
    let ended = there.After-end_recovery-a in
    let given = known ended in
    let counts = counted there.Joined-b-eq0 in
    pass ended _ _ _
    (neighbors_passed _ _ _ _ _ given _ _ _ (alone ended) c.if-alone.false
    (short_passed _ _ _ _ _ given _ _ _ c.is_short.ensures c.if-is_short.true
    (passed_short _ _ _ _ _ given _ _ _ _ _ (recovery_known _ _ _ c.limit_of.ensures c.is_recovery.ensures) c.if-is_recovery.false
    (refill_due _ _ _ _ _ c.backoff_due.ensures _ _ _ c.if-backoff_due.true
    (refilled_anew _ _ _ _ _ _ _ _ _ _ (fine_after _ _ _ _ _ _ given counts) c.few_requests.ensures c.start_refill-then-backoff_due.ensures c.clear_refused-c.ensures))
    counts)))

pub returns-then-is_short : goal.returns-then-is_short
returns-then-is_short c =
    let there = goal.at.returns-then-is_short c in
    let ended = there.After-end_recovery-a in
    let given = known ended in
    let counts = counted there.Joined-b-eq0 in
    pass ended _ _ _
    (neighbors_passed _ _ _ _ _ given _ _ _ (alone ended) c.if-alone.false
    (short_passed _ _ _ _ _ given _ _ _ c.is_short.ensures c.if-is_short.true
    (passed_short _ _ _ _ _ given _ _ _ _ _ (recovery_known _ _ _ c.limit_of.ensures c.is_recovery.ensures) c.if-is_recovery.false
    (refill_not_due _ _ _ _ _ c.backoff_due.ensures (fine_after _ _ _ _ _ _ given counts) c.if-backoff_due.false)
    counts)))

pub returns : goal.returns
returns c =
    let ended = (goal.at.returns c).After-end_recovery-a in
    let given = known ended in
    pass ended _ _ _
    (neighbors_passed _ _ _ _ _ given _ _ _ (alone ended) c.if-alone.false
    (enough_passed _ _ _ _ _ given _ _ c.is_short.ensures c.if-is_short.false c.clear_refused.ensures))
