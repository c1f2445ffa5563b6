-- What holds of every list of calls to the program holds of the calls from C: the tally beside the words changes no answer.
-- Assumes nothing.
use Prim.Native.Nat.{ℕ, ◌≤◌}
use mathlib.Core.Path.{◌≡◌, refl, sym, ap, subst, ◌∙◌}
use mathlib.Core.Bool.{Bool, true, not, ◌&&◌}
use mathlib.Core.List.{List, [], ◌∷◌, ◌++◌}
use native.Mathlib.Omega.{arith}
use lib.ListN.{drop}
use lib.Dec.{leb, eqb}
use borrow.Author.Tests.{ne_eqb}
use Rattle.base_lists.specs.Lists.{choose, null, mem}
use Rattle.base_lists.specs.Tests.{every}
use Rattle.base_lists.proofs.Choice.{choose_no}
use Rattle.base_timing.specs.declared.Config.{Config}
use Rattle.spec_history.specs.Ledger.{Ledger, empty_ledger, feed}
use Rattle.spec_history.specs.Calls.{Call, code_of, state_of, output_of, state_after, codes, ledger_after}
use Rattle.spec_history.specs.Demand.{Views, Booked}
use Rattle.spec_history.specs.Outputs.{OutputsRead}
use Rattle.spec_history.specs.Rejoin.{Tick, is_tick, ticks}
use Rattle.tally.specs.declared.Tally.{Tally}
use Rattle.tally.specs.Counts.{top}
use Rattle.tally.specs.Sum.{total}
use Rattle.tally.specs.History.{no_messages, tally_after}
use Rattle.shuffle_times.specs.Histories.{Brought, set_by, shuffles_due, counts, start_of, fires, is_first, on_time, punctual, every_timer_fires, timer_kinds, none_asked, none_numbered, numbered_kinds}
use Rattle.shuffle_times.proofs.Carried.{timed_carried}
use Rattle.hyparview_state.specs.Unpack.{unpack}
use Rattle.hyparview_rules.specs.Ok.{state_ok}
use Rattle.controller.specs.Calls.{with_tally, begun, tallied, called}
use Rattle.spec_demand.specs.Program as D
use Rattle.spec_demand.specs.Program.{program}
use Rattle.spec_demand.proofs.Program as P
use Rattle.spec_demand_calls.specs.Memory as M
use Rattle.spec_demand_calls.specs.Memory.{LentMemory, memory_made, memory_outcome, c_calls, station_in, ledger}

pub states_follow : (vs : List Call) (x : LentMemory) → state_after c_calls vs x ≡ record { words = state_after program vs x.words; tally = tally_after program vs x.words x.tally }
unfolding state_after tally_after memory_outcome D.program_outcome called tallied
states_follow [] x = refl
states_follow (v ∷ vs) x = states_follow vs (state_of c_calls v x)

codes_follow : (vs : List Call) (x : LentMemory) → codes c_calls vs x ≡ codes program vs x.words
unfolding codes memory_outcome D.program_outcome called tallied
codes_follow [] x = refl
codes_follow (v ∷ vs) x = ap (λ (cs : List ℕ). code_of c_calls v x ∷ cs) (codes_follow vs (state_of c_calls v x))

ledgers_follow : (a : ℕ) (vs : List Call) (x : LentMemory) (l : Ledger) → ledger_after c_calls a vs x l ≡ ledger_after program a vs x.words l
unfolding ledger_after memory_outcome D.program_outcome called tallied
ledgers_follow a [] x l = refl
ledgers_follow a (v ∷ vs) x l = ledgers_follow a vs (state_of c_calls v x) (feed a v.event (code_of c_calls v x) (output_of c_calls v x) l)

outputs_follow : (vs : List Call) (x : LentMemory) → OutputsRead program vs x.words → OutputsRead c_calls vs x
unfolding OutputsRead memory_outcome D.program_outcome called tallied
outputs_follow [] x o = tt
outputs_follow (v ∷ vs) x o = (o.0, outputs_follow vs (state_of c_calls v x) o.1)

ticks_follow : (vs : List Call) (x : LentMemory) → ticks c_calls station_in vs x ≡ ticks program unpack vs x.words
unfolding ticks is_tick memory_outcome D.program_outcome called tallied
ticks_follow [] x = refl
ticks_follow (v ∷ vs) x =
    ap (λ (ts : List Tick). choose (is_tick program v x.words) (record { met = station_in x; output = output_of c_calls v x } ∷ ts) ts) (ticks_follow vs (state_of c_calls v x))

shuffles_follow : (vs : List Brought) (x : LentMemory) → shuffles_due c_calls vs x ≡ shuffles_due program vs x.words
unfolding shuffles_due set_by memory_outcome D.program_outcome called tallied
shuffles_follow [] x = refl
shuffles_follow (v ∷ vs) x = ap (λ (ts : List ℕ). set_by 1 c_calls v x ++ ts) (shuffles_follow vs (state_of c_calls v.call x))

start_follows : (vs : List Brought) (x : LentMemory) → start_of c_calls vs x ≡ start_of program vs x.words
unfolding start_of counts memory_outcome D.program_outcome called tallied
start_follows [] x = refl
start_follows (v ∷ vs) x = ap (choose (counts c_calls v x) v.at) (start_follows vs (state_of c_calls v.call x))

on_time_follows : (vs : List Brought) (x : LentMemory) (waiting : List ℕ) → on_time c_calls vs x waiting ≡ on_time program vs x.words waiting
unfolding on_time fires set_by memory_outcome D.program_outcome called tallied
on_time_follows [] x waiting = refl
on_time_follows (v ∷ vs) x waiting =
    let rest = on_time_follows vs (state_of c_calls v.call x) in
    (λ i. choose (fires 1 c_calls v x) (is_first v.at waiting && rest (drop 1 waiting ++ set_by 1 c_calls v x) i) (rest (waiting ++ set_by 1 c_calls v x) i))

punctual_follows : (n : ℕ) (vs : List Brought) (x : LentMemory) (waiting : List ℕ) → punctual n c_calls vs x waiting ≡ punctual n program vs x.words waiting
unfolding punctual fires set_by memory_outcome D.program_outcome called tallied
punctual_follows n [] x waiting = refl
punctual_follows n (v ∷ vs) x waiting =
    let rest = punctual_follows n vs (state_of c_calls v.call x) in
    (λ i. every (leb v.at) waiting && choose (fires n c_calls v x) (is_first v.at waiting && rest (drop 1 waiting ++ set_by n c_calls v x) i) (rest (waiting ++ set_by n c_calls v x) i))

every_follows : (vs : List Brought) (x : LentMemory) → every_timer_fires c_calls vs x ≡ every_timer_fires program vs x.words
unfolding every_timer_fires
every_follows vs x = λ i. every (λ n. punctual_follows n vs x [] i) timer_kinds

asked_follows : (n : ℕ) (vs : List Brought) (x : LentMemory) → none_asked n c_calls vs x ≡ none_asked n program vs x.words
unfolding none_asked set_by memory_outcome D.program_outcome called tallied
asked_follows n [] x = refl
asked_follows n (v ∷ vs) x = ap (λ (b : Bool). null (set_by n c_calls v x) && b) (asked_follows n vs (state_of c_calls v.call x))

numbered_follow : (vs : List Brought) (x : LentMemory) → none_numbered c_calls vs x ≡ none_numbered program vs x.words
unfolding none_numbered
numbered_follow vs x = λ i. every (λ n. asked_follows n vs x i) numbered_kinds

-- what the program is lent by it
abbrev pub lent_by : M.MemoryLending → D.Lending
lent_by g = record { words = g.held.words; present = not (eqb g.present 0); own = g.own }

-- with any other code than 2 `new` leaves a tally of zeroes
tally_zeroed : (me : ℕ) (g : M.MemoryLending) (c : Config) → (c_calls.new_code me g c ≡ 2 → ⊥) → (c_calls.new_state me g c).tally ≡ no_messages
unfolding memory_made begun with_tally
tally_zeroed me g c n = choose_no _ _ _ (ne_eqb (c_calls.new_code me g c) 2 n)

pub demand_3_holds : M.Demand3Holds
unfolding memory_made begun with_tally D.program_made
demand_3_holds me g c t z vs =
    let start = c_calls.new_state me g c in
    let d = P.demand_3_holds me (lent_by g) c t z vs in
    let same = states_follow vs start in
    record {
      none_is_two = ap (mem 2) (codes_follow vs start) ∙ d.none_is_two;
      rules_hold = ap (λ (y : LentMemory). state_ok y.words) same ∙ d.rules_hold;
      views = subst (λ (y : LentMemory). Views me c (unpack y.words)) (sym same) d.views;
      booked = subst (λ (y : LentMemory). Booked (unpack y.words) (ledger c vs start)) (sym same)
          (subst (Booked (unpack (state_after program vs start.words))) (sym (ledgers_follow c.active_view_capacity vs start empty_ledger)) d.booked);
    }

pub outputs_read_back : M.OutputsReadBack
unfolding memory_made begun with_tally D.program_made
outputs_read_back me g c t z vs n = outputs_follow vs (c_calls.new_state me g c) (P.outputs_read_back me (lent_by g) c t z vs n)

pub every_message_counted : M.EveryMessageCounted
unfolding memory_made begun with_tally D.program_made
every_message_counted me g c t z vs n few =
    let start = c_calls.new_state me g c in
    let e : (ledger c vs start).sent ≡ (ledger_after program c.active_view_capacity vs start.words empty_ledger).sent = ap (λ (l : Ledger). l.sent) (ledgers_follow c.active_view_capacity vs start empty_ledger) in
    ap (λ (y : LentMemory). total y.tally) (states_follow vs start)
    ∙ (ap (λ (u : Tally). total (tally_after program vs start.words u)) (tally_zeroed me g c (λ two. omega (arith, two, z)))
    ∙ (P.every_message_counted me (lent_by g) c t z vs n (subst (λ (k : ℕ). k ≤ top) e few) ∙ sym e))

pub rejoin_promise : M.RejoinPromise
unfolding memory_made begun with_tally D.program_made
rejoin_promise me g c t z vs before twelve after e =
    P.rejoin_promise me (lent_by g) c t z vs before twelve after (sym (ticks_follow vs (c_calls.new_state me g c)) ∙ e)

pub shuffles_timed : M.ShufflesTimed
unfolding memory_made begun with_tally D.program_made
shuffles_timed me g c t z =
    let start = c_calls.new_state me g c in
    timed_carried (λ vs. shuffles_follow vs start) (λ vs. start_follows vs start) (λ vs. on_time_follows vs start []) (λ vs. every_follows vs start) (λ vs. numbered_follow vs start) c (P.shuffles_timed me (lent_by g) c t z)

-- One call: the tally stands beside the answer, and changes neither code nor draws.
pub enough_lent : M.EnoughLent
unfolding memory_outcome D.program_outcome called tallied
enough_lent x ok v w =
    let k = P.enough_lent x.words ok v w in
    record { five = k.five; kept_used = k.kept_used; no_five = k.no_five; no_nine = k.no_nine; draws_used = k.draws_used; few_draws = k.few_draws }

pub same_from_either : M.SameFromEitherOfCalls
unfolding memory_outcome D.program_outcome called
same_from_either x b ds out few l = ap (tallied x.tally) (P.same_from_either x.words b ds out few l)

pub few_draws_used : M.FewDrawsUsedOfCalls
unfolding memory_outcome D.program_outcome called tallied
few_draws_used x b ds out = P.few_draws_used x.words b ds out

pub enough_for_radio : M.EnoughForRadioOfCalls
unfolding memory_outcome D.program_outcome called tallied
enough_for_radio x b ds out bytes few long kept two =
    let k = P.enough_for_radio x.words b ds out bytes few long kept two in (k.0, ap (tallied x.tally) k.1)

pub never_one : M.NeverOne
unfolding memory_outcome D.program_outcome called tallied
never_one x v e = P.never_one x.words v e

pub never_eight : M.NeverEight
unfolding memory_outcome D.program_outcome called tallied
never_eight x ok v e = P.never_eight x.words ok v e

pub never_eight_after : M.NeverEightAfter
unfolding memory_made begun with_tally D.program_made
never_eight_after me g c t z vs = ap (mem 8) (codes_follow vs (c_calls.new_state me g c)) ∙ P.never_eight_after me (lent_by g) c t z vs

pub pins_stay : M.PinsStay
unfolding memory_made begun with_tally D.program_made
pins_stay me g c t z vs ws p m n =
    let start = c_calls.new_state me g c in
    let same : (us : List Call) → (state_after c_calls us start).words ≡ state_after program us start.words = (λ us. ap (λ (y : LentMemory). y.words) (states_follow us start)) in
    subst (λ (xs : List ℕ). (mem p (unpack xs).pins ≡ true) × (mem p (unpack xs).active ≡ true)) (sym (same (vs ++ ws)))
    (P.pins_stay me (lent_by g) c t z vs ws p (subst (λ (xs : List ℕ). mem p (unpack xs).pins ≡ true) (same vs) m) n)

pub never_unreachable : M.NeverUnreachable
never_unreachable x ok = P.never_unreachable x.words ok

pub never_unreachable_after : M.NeverUnreachableAfter
never_unreachable_after me g c t z vs =
    never_unreachable (state_after c_calls vs (c_calls.new_state me g c)) (demand_3_holds me g c t z vs).rules_hold

pub refused_zeroes : M.RefusedZeroes
unfolding memory_made begun with_tally D.program_made
refused_zeroes me g c one =
    let zeroes = P.refused_zeroes me (lent_by g) c one in
    let none = tally_zeroed me g c (λ two. omega (arith, two, one)) in
    (λ i. record { words = zeroes i; tally = none i })
