-- By cases: broken words, an unread event, a step refused, whose words are put back from the copy, and one accepted, whose output ends in zeroes.
use Prim.Native.Nat.{◌<◌}
use mathlib.Core.Path.{◌≡◌, refl, sym, ◌∙◌}
use native.Mathlib.Omega.{arith}
use Rattle.spec_hyparview.specs.Station.{peers_end}
use Rattle.hyparview_state.specs.Unpack.{long}
use Rattle.hyparview_rules.specs.Ok.{Keeps}
use Rattle.work.specs.declared.Work.{Work}
use Rattle.hyparview.specs.Taken.{ReadAs}
use Rattle.hyparview.proofs.Laws.{ended_refused, ended_accepted, filled}
use Rattle.hyparview.proofs.Opening.{starts, opens, event_handled, recorded, kept_ok, long_ok, handled_broken, handled_unread}
use borrow.Author.Rules.{rules}
use Rattle.hyparview.proofs.handle.Goals as goal
use Rattle.hyparview.proofs.handle.Goals.{In-Ok, In-Some-as_mut_array}

-- what the reader says where a header was read
reads : (c : In-Ok) → ReadAs c.args.b.now c.in-Ok.h
reads c = recorded _ _ _ c.read_event.ensures c.in-Ok.is

-- the words that the steps begin with are those lent, which keep the rules
lent : (c : In-Some-as_mut_array) → Keeps c.args.st.now c.in-Some-as_mut_array.words.now
lent c = record { ok = c.in-Some.ensures.ok; same = c.in-Some-as_mut_array.ensures.cases.same }

-- a peer is a word
narrow : (c : In-Ok) → c.in-Ok.h.peer < peers_end
narrow c = search rules

-- the work that a call begins with
first : (w : Work) → w.drawn ≡ 0 × (w.written ≡ 0 × w.code ≡ 0) → w ≡ record { drawn = 0; written = 0; code = 0 }
first w e = λ i. record { drawn = e.0 i; written = e.1.0 i; code = e.1.1 i }

pub returns-in_default : goal.returns-in_default
returns-in_default c = handled_broken _ _ _ _ _ _ c.into.ensures c.in_default.ensures c.refuse.ensures

pub returns-in-Err : goal.returns-in-Err
returns-in-Err c = handled_unread _ _ _ _ _ _ _ _ c.in-Some.ensures.ok c.read_event.ensures c.in-Err.is c.into-in-Err.ensures c.refuse-in-Err.ensures

pub unreachable-requires : goal.unreachable-requires
unreachable-requires c = c.in_default-as_mut_array.ensures.cases (long_ok _ c.in-Some.ensures.ok)

pub steps-a-requires : goal.steps-a-requires
steps-a-requires c =
    let d = (goal.at.steps-a-requires c).In-Some-as_mut_array in
    let v = reads (goal.at.steps-a-requires c).In-Ok in
    let ok = kept_ok _ _ (lent d) in
    rw (first _ c.default.ensures) (record {
      given = starts _ _ _ ok;
      headed = v.headed;
      meets = opens _ _ _ _ _ ok v (narrow (goal.at.steps-a-requires c).In-Ok);
    })

pub copy_from_slice-requires : goal.copy_from_slice-requires
copy_from_slice-requires c = long c.steps-a.ensures.fine.ready.packed ∙ sym (long_ok _ (kept_ok _ _ c.in-Some.ensures))

pub returns-then-code-ne0 : goal.returns-then-code-ne0
returns-then-code-ne0 c =
    event_handled _ _ _ _ _ _ _ _ _ _ (lent (goal.at.returns-then-code-ne0 c).In-Some-as_mut_array) (reads (goal.at.returns-then-code-ne0 c).In-Ok) (λ z. absurd (c.if-code-ne0.true z))
    (ended_refused _ _ _ _ _ _ _ c.if-code-ne0.true (c.copy_from_slice.ensures.after ∙ c.in-Some.ensures.same) c.refuse-then-code-ne0.ensures) (rw (first _ c.default.ensures) at c.steps-a.ensures)

pub returns-else-code-ne0 : goal.returns-else-code-ne0
returns-else-code-ne0 c =
    event_handled _ _ _ _ _ _ _ _ _ _ (lent (goal.at.returns-else-code-ne0 c).In-Some-as_mut_array) (reads (goal.at.returns-else-code-ne0 c).In-Ok) (λ z i. omega (arith, c.type_inv.st i))
    (ended_accepted _ _ _ _ _ _ c.if-code-ne0.false refl (filled _ _ _ (search rules) (c.fill.ensures.after (λ y e. e))))
    (rw (first _ c.default.ensures) at c.steps-a.ensures)
