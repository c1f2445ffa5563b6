-- A refusal by the definition is one packed, and words that are packed come back as they were.
-- Assumes nothing.
use Prim.Native.Nat.{ℕ}
use mathlib.Core.Path.{◌≡◌, refl, sym, ap, ◌∙◌}
use mathlib.Core.Bool.{true}
use mathlib.Core.List.{List}
use lib.ListN.{length}
use lib.Dec.{eqb}
use Rattle.base_lists.proofs.Choice.{split, choose_yes, choose_no, and_left}
use Rattle.record.specs.Read.{Reading, read_event, rec_of}
use Rattle.spec_hyparview.specs.Station.{Station}
use Rattle.spec_hyparview.specs.Rules.{station_ok}
use Rattle.spec_hyparview.specs.Handle as H
use Rattle.spec_hyparview.proofs.Reading.{by_reading}
use Rattle.spec_hyparview.proofs.Bounds.{finished}
use Rattle.spec_hyparview.specs.Sides.{draws_from}
use Rattle.spec_hyparview.proofs.Sides.{by_side}
use Rattle.spec_history.specs.Calls.{Call, result_of, answered}
use Rattle.hyparview_state.specs.Unpack.{unpack}
use Rattle.hyparview_rules.specs.Ok.{packed_ok, state_ok}
use Rattle.hyparview_rules.proofs.Back.{ok_back}
use Rattle.hyparview.specs.Handled.{Outcome, packed_answer, refused_words}
use Rattle.hyparview.proofs.Sides.{from_two}
use Rattle.spec_demand.specs.Program.{program_outcome}
use Rattle.spec_demand.specs.Refusal as R
use Rattle.spec_demand.proofs.Program.{rules_kept, answers}

-- the definition's answer, where it is not accepted
definition_refuses : (g : Station) → station_ok g ≡ true → (v : Call) → ((result_of v g).code ≡ 0 → ⊥) → result_of v g ≡ H.refusal (result_of v g).code g (length v.output)
unfolding answered H.handle H.handle_reading H.finish H.accepted H.refusal
definition_refuses g ok v =
    let room = length v.output in
    let ds = draws_from v.side v.draws in
    by_side (λ (a : H.Result). (a.code ≡ 0 → ⊥) → a ≡ H.refusal a.code g room) v.side g v.event v.draws room (λ n. refl)
    (rw (choose_yes (station_ok g) (H.handle_reading (read_event v.event) g ds room) (H.refusal 2 g room) ok)
    (by_reading v.event v.are_bytes (λ (x : Reading). let a = H.handle_reading x g ds room in (a.code ≡ 0 → ⊥) → a ≡ H.refusal a.code g room) (λ c l h n. refl)
    (λ w n. let r = H.steps (rec_of v.event) (H.start g ds room) in
    split (eqb r.code 0) (λ y. absurd (n (ap (λ (a : H.Result). a.code) (choose_yes _ _ _ y))))
    (λ z. let q : H.finish g r ≡ H.refusal r.code g room = choose_no _ _ _ z ∙ ap (H.refusal r.code g) (finished g ok ds room (rec_of v.event) w).codes.space in
    q ∙ ap (λ (c : ℕ). H.refusal c g room) (sym (ap (λ (a : H.Result). a.code) q))))))

packed_of : (xs : List ℕ) → state_ok xs ≡ true → packed_ok xs ≡ true
unfolding state_ok
packed_of xs e = and_left _ _ e

-- the whole outcome of a call that is not accepted
pub outcome_refused : (xs : List ℕ) (v : Call) → let o = program_outcome v.side v.event v.draws v.output xs in (o.code ≡ 0 → ⊥) → o ≡ refused_words o.code xs (length v.output)
unfolding program_outcome packed_answer refused_words H.refusal
outcome_refused xs v n =
    let room = length v.output in
    split (state_ok xs)
    (λ ok.
    let e = answers xs ok v in
    let code = ap (λ (o : Outcome). o.code) e in
    let d = definition_refuses (unpack xs) (rules_kept xs ok) v (λ z. n (code ∙ z)) in
    e ∙ (ap packed_answer d ∙ (λ i. refused_words (sym code i) (ok_back xs (packed_of xs ok) i) room)))
    (λ broken.
    let e = from_two v.side xs v.event v.draws room broken in
    sym e ∙ ap (λ (c : ℕ). refused_words c xs room) (ap (λ (o : Outcome). o.code) e))

pub refusals_kept : R.RefusalsKept
unfolding refused_words
refusals_kept xs v n =
    let e = outcome_refused xs v n in
    record {
      same_state = ap (λ (o : Outcome). o.words) e;
      zeroes = ap (λ (o : Outcome). o.output) e;
      no_draws = ap (λ (o : Outcome). o.draws) e;
    }

pub refusals_kept_by_value : R.RefusalsKeptByValue
refusals_kept_by_value s v n =
    let k = refusals_kept s.words v n in
    record { same_state = λ i. record { words = k.same_state i }; zeroes = k.zeroes; no_draws = k.no_draws }
