-- Demand 3, the rejoin promise, S-11, "always suffice" and the rest hold of the program.
-- Assumes nothing.
use Prim.Native.Nat.{ℕ, ◌≤◌}
use mathlib.Core.Path.{◌≡◌, refl, sym, ap, subst, ◌∙◌}
use mathlib.Core.Bool.{Bool, true, false, ◌&&◌}
use mathlib.Core.List.{List, [], ◌++◌}
use native.Mathlib.Omega.{arith}
use lib.ListN.{length, take, replicate}
use lib.Dec.{eqb}
use Rattle.base_lists.specs.Array.{pad}
use Rattle.base_lists.specs.Lists.{choose, mem}
use Rattle.base_lists.proofs.Choice.{by_choice, choose_yes, choose_no, split, and_left, and_right}
use Rattle.base_timing.specs.declared.Config.{Config}
use Rattle.base_timing.specs.Timing.{in_range}
use Rattle.spec_hyparview.specs.Station.{Station}
use Rattle.spec_hyparview.specs.Rules.{all_under, short_data, station_ok}
use Rattle.spec_hyparview.specs.Handle as Handle
use Rattle.record.specs.Read.{Reading, read_event, rec_of}
use Rattle.spec_hyparview.proofs.Reading.{by_reading}
use Rattle.spec_hyparview.proofs.Bounds.{finished}
use Rattle.spec_hyparview.specs.Kept.{FewerKept}
use Rattle.spec_hyparview.specs.Sides.{Side, wired, radio_draws, draws_from, handle_from}
use Rattle.spec_hyparview.proofs.Sides.{by_side}
use Rattle.spec_hyparview.proofs.Sides as sides
use Rattle.spec_hyparview.proofs.Enough.{enough}
use Rattle.spec_hyparview.proofs.Decided.{fewer_as, fewer_kept, most_kept}
use Rattle.spec_hyparview.proofs.Uncrowded as crowded
use Rattle.spec_hyparview.proofs.Unreachable as unreachable
use Rattle.spec_history.specs.Calls.{Call, NewGiven, result_of, answered, state_after, codes}
use Rattle.spec_history.specs.Calls as calls
use Rattle.spec_history.specs.Demand.{Demand3, Demand3Of}
use Rattle.spec_history.specs.Outputs.{OutputsRead, OutputsOf}
use Rattle.spec_history.specs.Rejoin.{ticks, Promised}
use Rattle.spec_history.specs.Packing.{Packs}
use Rattle.spec_history.specs.Pinned.{no_partings}
use Rattle.spec_history.proofs.Pinned.{pins_packed}
use Rattle.spec_history.proofs.Packing.{demand_packed, eight_packed, rejoin_packed, outputs_packed, states_packed}
use Rattle.tally.proofs.History.{counts_all}
use Rattle.shuffle_times.specs.Claims.{Timed}
use Rattle.shuffle_times.proofs.Packed.{timed_packed}
use Rattle.hyparview_state.specs.Layout.{words}
use Rattle.hyparview_state.specs.Unpack.{unpack}
use Rattle.hyparview_rules.specs.Pack.{pack}
use Rattle.hyparview_rules.specs.Ok.{packed_ok, state_ok}
use Rattle.hyparview_rules.proofs.Fitting.{ok_unpacked, pack_ok}
use Rattle.hyparview.specs.Made.{MadeWords, lent, pack_made}
use Rattle.hyparview.specs.Made as lending
use Rattle.hyparview.proofs.Making.{zero_words}
use Rattle.hyparview.specs.Handled.{Outcome, packed_answer, handled_from}
use Rattle.hyparview.specs.Handled as Handled
use Rattle.hyparview.proofs.Sides.{from_two}
use Rattle.spec_demand.specs.Program as D
use Rattle.spec_demand.specs.Program.{program_made, program_outcome, program, made_state, value_program, unpack_state, state_passes}

ok_both : (xs : List ℕ) → state_ok xs ≡ true → (packed_ok xs && station_ok (unpack xs)) ≡ true
unfolding state_ok
ok_both xs ok = ok

pub rules_kept : (xs : List ℕ) → state_ok xs ≡ true → station_ok (unpack xs) ≡ true
rules_kept xs ok = and_right (packed_ok xs) (station_ok (unpack xs)) (ok_both xs ok)

-- at words that keep the rules the program answers what the definition does, packed
pub answers : (xs : List ℕ) → state_ok xs ≡ true → (v : Call) → program_outcome v.side v.event v.draws v.output xs ≡ packed_answer (result_of v (unpack xs))
unfolding program_outcome handled_from answered
answers xs ok v = choose_yes _ _ _ (and_left (packed_ok xs) _ (ok_both xs ok))

pub answers_packed : (v : Call) (g : Station) → station_ok g ≡ true → program_outcome v.side v.event v.draws v.output (pack g) ≡ packed_answer (result_of v g)
answers_packed v g t = answers (pack g) (pack_ok g t) v ∙ ap (λ (x : Station). packed_answer (result_of v x)) (ok_unpacked g t)

pub packs : Packs program pack unpack state_ok
unfolding packed_answer
packs = record {
  stands = ok_unpacked;
  passes = pack_ok;
  code = λ v g t. ap (λ (x : Outcome). x.code) (answers_packed v g t);
  state = λ v g t. ap (λ (x : Outcome). x.words) (answers_packed v g t);
  output = λ v g t. ap (λ (x : Outcome). x.output) (answers_packed v g t);
}

-- ---- a new station

-- with any other code than 2 the words lent were as many as a state has, and hold what the definition's `new` answers
whole : (xs : List ℕ) (me : ℕ) (present : Bool) (own : List ℕ) (c : Config) → ((program_made xs me present own c).code ≡ 2 → ⊥) → program_made xs me present own c ≡ pack_made (Handle.new me (lent present own) c)
unfolding program_made lending.made
whole xs me present own c h =
    split (eqb (length xs) words) (λ y. choose_yes _ _ _ y) (λ n. absurd (h (ap (λ (m : MadeWords). m.code) (choose_no _ _ _ n))))

-- a claim on what `new` answered with code 0 is one on the definition's answer, packed
pub from_new : (X : List ℕ → Type 0) (me : ℕ) (g : D.Lending) (c : Config) → program.new_code me g c ≡ 0
    → ((Handle.new me (program.own g) c).code ≡ 0 → X (pack (Handle.new me (program.own g) c).state)) → X (program.new_state me g c)
unfolding pack_made
from_new X me g c z h =
    let e = whole g.words me g.present g.own c (λ two. omega (arith, two, z)) in
    subst (λ (m : MadeWords). X m.words) (sym e) (h (sym (ap (λ (m : MadeWords). m.code) e) ∙ z))

-- Demand 3 for the program.
pub demand_3_holds : D.Demand3Holds
demand_3_holds me g c t z vs =
    from_new (λ (s : List ℕ). Demand3 program unpack state_ok me c s vs) me g c z (λ e. demand_packed packs me (program.own g) c t e vs)

pub rejoin_promise : D.RejoinPromise
rejoin_promise me g c t z vs =
    from_new (λ (s : List ℕ). Promised (ticks program unpack vs s)) me g c z (λ e. rejoin_packed packs me (program.own g) c t e vs)

-- What the program writes is read back, and every message is counted.
pub outputs_read_back : D.OutputsReadBack
outputs_read_back me g c t z vs n =
    from_new (λ (s : List ℕ). OutputsRead program vs s) me g c z (λ e. outputs_packed packs me (program.own g) c t e vs n)

pub every_message_counted : D.EveryMessageCounted
every_message_counted me g c t z vs n = counts_all program _ vs _ (outputs_read_back me g c t z vs n)

-- When the program's shuffles are due.
pub shuffles_timed : D.ShufflesTimed
shuffles_timed me g c t z =
    from_new (λ (s : List ℕ). Timed program c s) me g c z (λ e. timed_packed packs me (program.own g) c t e)

-- A refused `new` hands back zeroes.
zeroes : replicate words 0 ≡ pad {A = ℕ} 0 words []
unfolding pad
zeroes = refl

pub refused_zeroes : D.RefusedZeroes
unfolding pack_made Handle.new
refused_zeroes me g c one =
    let d = program.own g in
    let e = whole g.words me g.present g.own c (λ two. omega (arith, two, one)) in
    split (in_range c && short_data d)
    (λ y. let zero : 0 ≡ 1 = sym (ap (λ (m : Handle.Made). m.code) (choose_yes (in_range c && short_data d) _ _ y)) ∙ (sym (ap (λ (m : MadeWords). m.code) e) ∙ one) in absurd (omega (arith, zero)))
    (λ n. ap (λ (m : MadeWords). m.words) e ∙ (ap (λ (m : Handle.Made). pack m.state) (choose_no (in_range c && short_data d) _ _ n) ∙ (sym zero_words ∙ sym zeroes)))

-- ---- one call

-- a call from the wired side
abbrev wired_call : (b : List ℕ) → all_under 256 b ≡ true → List ℕ → List ℕ → Call
wired_call b bytes ds out = record { side = wired; event = b; are_bytes = bytes; draws = ds; output = out }

module _ (xs : List ℕ) (ok : state_ok xs ≡ true) (v : Call) where
  -- whatever draws are lent
  lent_with : (l : List ℕ) → program_outcome wired v.event l v.output xs ≡ packed_answer (Handle.handle (unpack xs) v.event l (length v.output))
  unfolding answered handle_from
  lent_with l = answers xs ok (wired_call v.event v.are_bytes l v.output)

  -- which draws are kept is the program's as it is the definition's
  kept_as : (n : ℕ) (ds : List ℕ)
      → FewerKept n (λ l. (Handle.handle (unpack xs) v.event l (length v.output)).code) (λ l. (Handle.handle (unpack xs) v.event l (length v.output)).used) (λ l. (Handle.handle (unpack xs) v.event l (length v.output)).state) ds
      → FewerKept n (λ l. (program_outcome wired v.event l v.output xs).code) (λ l. (program_outcome wired v.event l v.output xs).draws) (λ l. unpack (program_outcome wired v.event l v.output xs).words) ds
  unfolding packed_answer
  kept_as n ds k =
      fewer_as (λ (g : Station). unpack (pack g)) (λ l. ap (λ (x : Outcome). x.code) (lent_with l)) (λ l. ap (λ (x : Outcome). x.draws) (lent_with l)) (λ l. ap (λ (x : Outcome). unpack x.words) (lent_with l)) k

-- A draw is missed only where fewer than 512 were kept, an accepted call keeps at most 512 of those it uses, and 512 draws below 2^32 - 32 and 8,192 bytes suffice, whatever the event and the words that keep the rules.
enough_wired : (xs : List ℕ) → state_ok xs ≡ true → (v : Call) → D.Suffices program unpack xs (wired_call v.event v.are_bytes v.draws v.output)
unfolding answered packed_answer handle_from
enough_wired xs ok v =
    let room = length v.output in
    let e = lent_with xs ok v v.draws in
    let code = ap (λ (x : Outcome). x.code) e in
    let draws = ap (λ (x : Outcome). x.draws) e in
    let k = enough (unpack xs) (rules_kept xs ok) v.draws room v.event v.are_bytes in
    record {
      five = λ f. kept_as xs ok v 512 v.draws (fewer_kept (unpack xs) (rules_kept xs ok) v.event v.are_bytes v.draws room (sym code ∙ f));
      kept_used = λ z. subst (λ (n : ℕ). FewerKept 513 (λ l. (program_outcome wired v.event l v.output xs).code) (λ l. (program_outcome wired v.event l v.output xs).draws) (λ l. unpack (program_outcome wired v.event l v.output xs).words) (take n v.draws))
          (sym draws) (kept_as xs ok v 513 (take (Handle.handle (unpack xs) v.event v.draws room).used v.draws) (most_kept (unpack xs) (rules_kept xs ok) v.event v.are_bytes v.draws room (sym code ∙ z)));
      no_five = λ h a f. k.no_five h a (sym code ∙ f);
      no_nine = λ h f. k.no_nine h (sym code ∙ f);
      draws_used = draws;
      few_draws = rw draws k.few_draws;
    }

pub enough_lent : D.EnoughLent
enough_lent xs ok v w =
    subst (λ (side : Side). D.Suffices program unpack xs (record { side = side; event = v.event; are_bytes = v.are_bytes; draws = v.draws; output = v.output })) (sym w) (enough_wired xs ok v)

pub same_from_either : D.SameFromEitherOfCalls
unfolding program_outcome handled_from
same_from_either xs b ds out few l =
    ap (λ (a : Handle.Result). choose (packed_ok xs) (packed_answer a) (Handled.refused_words 2 xs (length out))) (sides.same_from_either (unpack xs) b ds (length out) few l)

pub few_draws_used : D.FewDrawsUsedOfCalls
unfolding program_outcome handled_from packed_answer Handled.refused_words
few_draws_used xs b ds out =
    by_choice (λ (o : Outcome). o.draws ≤ radio_draws) (packed_ok xs) (λ _. sides.few_draws_used (unpack xs) b ds (length out)) (λ _. omega arith)

pub enough_for_radio : D.EnoughForRadioOfCalls
unfolding program_outcome handled_from packed_answer Handled.refused_words
enough_for_radio xs b ds out bytes few long kept two =
    let k = sides.enough_for_radio (unpack xs) b ds (length out) bytes few long kept two in (
      by_choice (λ (o : Outcome). o.code ≡ 5 → ⊥) (packed_ok xs) (λ _. k.not_five) (λ _ e. omega (arith, e)),
      ap (λ (a : Handle.Result). choose (packed_ok xs) (packed_answer a) (Handled.refused_words 2 xs (length out))) k.as_wired,
    )

-- a code of `handle` at a station that keeps the rules is 0, from 3 to 10, or from 16 to 18
not_one : (g : Station) → station_ok g ≡ true → (v : Call) → (result_of v g).code ≡ 1 → ⊥
unfolding answered Handle.handle Handle.handle_reading Handle.finish Handle.accepted Handle.refusal
not_one g ok v =
    let room = length v.output in
    let ds = draws_from v.side v.draws in
    by_side (λ (a : Handle.Result). a.code ≡ 1 → ⊥) v.side g v.event v.draws room (λ e. omega (arith, e))
    (rw (choose_yes (station_ok g) (Handle.handle_reading (read_event v.event) g ds room) (Handle.refusal 2 g room) ok)
    (by_reading v.event v.are_bytes (λ (x : Reading). (Handle.handle_reading x g ds room).code ≡ 1 → ⊥) (λ c l h e. omega (arith, l, e))
    (λ w. let r = Handle.steps (rec_of v.event) (Handle.start g ds room) in
    let k = finished g ok ds room (rec_of v.event) w in
    by_choice (λ (a : Handle.Result). a.code ≡ 1 → ⊥) (eqb r.code 0) (λ z e. omega (arith, e)) (λ z e. let five = k.codes.low (omega (arith, e)) in omega (arith, five, e)))))

pub never_one : D.NeverOne
unfolding program_outcome packed_answer Handled.refused_words
never_one xs v e =
    split (state_ok xs)
    (λ ok. not_one (unpack xs) (rules_kept xs ok) v (sym (ap (λ (x : Outcome). x.code) (answers xs ok v)) ∙ e))
    (λ broken. let two : 2 ≡ 1 = ap (λ (x : Outcome). x.code) (from_two v.side xs v.event v.draws (length v.output) broken) ∙ e in omega (arith, two))

-- No call is answered 8.
pub never_eight : D.NeverEight
unfolding answered packed_answer Handle.refusal
never_eight xs ok v e =
    let room = length v.output in
    by_side (λ (a : Handle.Result). a.code ≡ 8 → ⊥) v.side (unpack xs) v.event v.draws room (λ f. omega (arith, f))
    (crowded.never_eight (unpack xs) (rules_kept xs ok) (draws_from v.side v.draws) room v.event v.are_bytes) (sym (ap (λ (x : Outcome). x.code) (answers xs ok v)) ∙ e)

pub never_eight_after : D.NeverEightAfter
never_eight_after me g c t z vs =
    from_new (λ (s : List ℕ). mem 8 (codes program vs s) ≡ false) me g c z (λ e. eight_packed packs me (program.own g) c t e vs)

-- A pinned neighbour stays one.
pub pins_stay : D.PinsStay
pins_stay me g c t z vs ws p =
    from_new (λ (s : List ℕ). mem p (unpack (state_after program vs s)).pins ≡ true → no_partings p ws ≡ true → (mem p (unpack (state_after program (vs ++ ws) s)).pins ≡ true) × (mem p (unpack (state_after program (vs ++ ws) s)).active ≡ true)) me g c z
    (λ e. pins_packed packs me (program.own g) c t e vs ws p)

-- `unreachable!` is never reached.
pub never_unreachable : D.NeverUnreachable
never_unreachable xs ok = unreachable.never_unreachable (unpack xs) (rules_kept xs ok)

pub never_unreachable_after : D.NeverUnreachableAfter
never_unreachable_after me g c t z vs =
    never_unreachable (state_after program vs (program.new_state me g c)) (demand_3_holds me g c t z vs).rules_hold

-- ---- by value

pub value_packs : Packs value_program (λ g. record { words = pack g }) unpack_state state_passes
value_packs = record {
  stands = packs.stands;
  passes = packs.passes;
  code = packs.code;
  state = λ v g t. ap (λ (xs : List ℕ). record { words = xs }) (packs.state v g t);
  output = packs.output;
}

-- The state after a list of calls is the definition's, packed.
pub states_same : (me : ℕ) (g : Bool × List ℕ) (c : Config) → NewGiven me (value_program.own g) → value_program.new_code me g c ≡ 0
    → (vs : List Call) → state_after value_program vs (value_program.new_state me g c) ≡ record { words = pack (state_after calls.definition vs (Handle.new me (value_program.own g) c).state) }
unfolding made_state pack_made
states_same me g c t z vs = states_packed value_packs me (value_program.own g) c t z vs

pub by_value_holds : D.ByValueHolds
unfolding made_state pack_made
by_value_holds =
    let demand : Demand3Of value_program unpack_state state_passes = (λ me g c t z vs. demand_packed value_packs me (value_program.own g) c t z vs) in
    let outputs : OutputsOf value_program = (λ me g c t z vs n. outputs_packed value_packs me (value_program.own g) c t z vs n) in
    record {
      demand_3 = demand;
      rejoins = λ me g c t z vs. rejoin_packed value_packs me (value_program.own g) c t z vs;
      read_back = outputs;
      counted = λ me g c t z vs n. counts_all value_program _ vs _ (outputs me g c t z vs n);
      timed = λ me g c t z. timed_packed value_packs me (value_program.own g) c t z;
      never_eight = λ me g c t z vs. eight_packed value_packs me (value_program.own g) c t z vs;
      pins_stay = λ me g c t z vs ws p. pins_packed value_packs me (value_program.own g) c t z vs ws p;
      goes_on = λ me g c t z vs. never_unreachable (state_after value_program vs (value_program.new_state me g c)).words (demand me g c t z vs).rules_hold;
    }
