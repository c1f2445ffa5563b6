-- By cases: another length touches nothing; else the words are zeroed, and the numbers go in front only where settings and own data are in range.
use Prim.Native.Nat.{ℕ}
use mathlib.Core.Path.{◌≡◌, sym, ap, ◌∙◌}
use mathlib.Core.List.{[]}
use Rattle.base_lists.specs.Array.{pad}
use Rattle.base_peer.specs.Held.{data_in}
use Rattle.hyparview_state.specs.Layout.{words}
use Rattle.hyparview.proofs.Making.{Own, own_taken, own_absent, placed, front_inside, front_long, other_length, cleared, accepted, turned_down}
use Rattle.hyparview.proofs.new.Goals as goal
use Rattle.hyparview.proofs.new.Goals.{Joined-present, After-clear_from, then-present, else-present}

-- own data is what is lent, whichever way it was taken
own_of : (c : Joined-present) → Own c.if-present.«data» c.args.present c.args.own.now
own_of c =
    elim c.if-present.branch [ then-present w ↦ own_taken _ _ _ w.if-present.true (ap data_in w.data-is ∙ w.from_slice-data.ensures) | else-present w ↦ own_absent _ _ _ w.if-present.false w.data-is ]

-- the words are zero when they have been cleared
zeroed : (c : After-clear_from) → c.clear_from.new.s ≡ pad {A = ℕ} 0 words []
zeroed c = cleared c.args.st.now _ c.if-st-ne-LENGTH.false c.clear_from.ensures

pub returns-then-st-ne-LENGTH : goal.returns-then-st-ne-LENGTH
returns-then-st-ne-LENGTH c = other_length _ _ _ _ _ c.into.ensures c.if-st-ne-LENGTH.true

pub copy_from_slice-requires : goal.copy_from_slice-requires
copy_from_slice-requires c =
    sym (front_long _ _ _ _ c.first_numbers-numbers.ensures ∙ front_inside _ (zeroed (goal.at.copy_from_slice-requires c).After-clear_from))

pub returns-then-in_range-is_some : goal.returns-then-in_range-is_some
returns-then-in_range-is_some c =
    let own = own_of (goal.at.returns-then-in_range-is_some c).Joined-present in
    accepted _ _ _ _ _ _ _ c.if-st-ne-LENGTH.false c.in_range.ensures own _ c.is_some.ensures _ c.if-in_range-is_some.true
    (placed _ _ _ _ _ _ (zeroed (goal.at.returns-then-in_range-is_some c).After-clear_from) c.first_numbers-numbers.ensures c.copy_from_slice.ensures.after)

pub returns : goal.returns
returns c =
    let own = own_of (goal.at.returns c).Joined-present in
    turned_down _ _ _ _ _ _ _ c.if-st-ne-LENGTH.false c.in_range.ensures own _ c.is_some.ensures _ _ c.into-2.ensures c.if-in_range-is_some.false
    c.clear_from.ensures
