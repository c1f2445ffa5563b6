-- An accepted output is the definition's, whose records of kind 12 are the evictions; a refused one is zeroes, and tells of none.
-- Assumes nothing.
use Prim.Native.Nat.{ℕ}
use mathlib.Core.Path.{◌≡◌, refl, sym, ap, subst, ◌∙◌}
use mathlib.Core.Bool.{true}
use mathlib.Core.List.{List, [], ◌∷◌, ◌++◌, map}
use mathlib.Core.Option.{some}
use native.Mathlib.Omega.{arith}
use lib.ListN.{length, replicate}
use lib.Dec.{eqb}
use borrow.Author.Tests.{eqb-true, eqb-false}
use Rattle.base_lists.specs.Lists.{choose}
use Rattle.base_lists.specs.Tests.{All}
use Rattle.base_lists.proofs.Choice.{split, choose_yes, choose_no, and_left, and_right}
use Rattle.record.specs.Format.{Rec}
use Rattle.spec_hyparview.specs.Station.{Station, draws_end}
use Rattle.spec_hyparview.specs.Rules.{all_under, station_ok}
use Rattle.spec_hyparview.specs.Handle.{Result, refusal}
use Rattle.spec_hyparview.specs.Sides.{draws_from}
use Rattle.spec_hyparview.proofs.Sides.{by_side, under_from}
use Rattle.spec_hyparview.specs.Evictions.{named, Names}
use Rattle.spec_hyparview.specs.Written.{encode_all, WrittenOut}
use Rattle.spec_hyparview.proofs.Written.{names_evictions}
use Rattle.spec_history.specs.Calls.{Call, narrow_draws, Machine, code_of, state_of, output_of, answered, result_of}
use Rattle.spec_history.proofs.Outputs.{read_back}
use Rattle.hyparview_state.specs.Unpack.{unpack}
use Rattle.hyparview_rules.specs.Ok.{state_ok}
use Rattle.hyparview.specs.Handled.{Outcome, packed_answer, refused_words}
use Rattle.hyparview.proofs.Sides.{from_two}
use Rattle.spec_demand.specs.Program.{program_outcome, unpack_state}
use Rattle.spec_demand.specs.Refusal.{RefusalsOf}
use Rattle.spec_demand.specs.Evictions as E
use Rattle.spec_demand.specs.Evictions.{evicted_in, those_read, told, told_after, evicted_after}
use Rattle.spec_demand.proofs.Program.{rules_kept, answers}
use Rattle.spec_demand.proofs.Refusal.{refusals_kept, refusals_kept_by_value}

all_read : (es : List Rec) → those_read (map some es) ≡ es
unfolding those_read
all_read [] = refl
all_read (e ∷ es) = ap (λ (l : List Rec). e ∷ l) (all_read es)

-- a panel reads the records that were written
told_written : (out : List ℕ) (w : WrittenOut out) → told out ≡ named w.records
unfolding told
told_written out w = ap (λ es. named (those_read es)) (read_back out w) ∙ ap named (all_read w.records)

told_zeroes : (n : ℕ) → told (replicate n 0) ≡ []
unfolding encode_all All named
told_zeroes n = told_written (replicate n 0) (record { records = []; in_form = tt; zeros = n; bytes = refl })

-- of any machine that names the evictions of one call and refuses with zeroes
module _ {G S : Type 0} {m : Machine G S} (station : S → Station) (names : E.NamesEvictedOf m station) (refuses : RefusalsOf m) where
  told_once : (v : Call) (s : S) → all_under draws_end v.draws ≡ true → told (output_of m v s) ≡ choose (eqb (code_of m v s) 0) (evicted_in station v s) []
  told_once v s n =
      split (eqb (code_of m v s) 0)
      (λ y. let k = names s v n (eqb-true _ _ y) in told_written _ k.written ∙ (k.exactly ∙ sym (choose_yes _ _ _ y)))
      (λ z. ap told (refuses s v (eqb-false _ _ z)).zeroes ∙ (told_zeroes (length v.output) ∙ sym (choose_no _ _ _ z)))

  pub told_all : E.EvictionsToldOf m station
  unfolding told_after evicted_after narrow_draws
  told_all [] s n = refl
  told_all (v ∷ vs) s n = λ i. told_once v s (and_left (all_under draws_end v.draws) _ n) i ++ told_all vs (state_of m v s) (and_right (all_under draws_end v.draws) _ n) i

evicted_named : (v : Call) (s : Station) → station_ok s ≡ true → all_under draws_end v.draws ≡ true → (result_of v s).code ≡ 0 → Names (evicted_in (λ g. g) v s) (result_of v s).output
unfolding answered refusal
evicted_named v s ok n =
    let room = length v.output in
    by_side (λ (a : Result). a.code ≡ 0 → Names (evicted_in (λ g. g) v s) a.output) v.side s v.event v.draws room (λ z. absurd (omega (arith, z)))
    (λ z. names_evictions s ok v.event v.are_bytes (draws_from v.side v.draws) (under_from draws_end v.side v.draws n) room z)

pub names_evicted : E.NamesEvicted
unfolding program_outcome answered packed_answer refused_words
names_evicted xs v n z =
    split (state_ok xs)
    (λ ok. let e = answers xs ok v in
    subst (Names _) (sym (ap (λ (x : Outcome). x.output) e))
    (evicted_named v (unpack xs) (rules_kept xs ok) n (sym (ap (λ (x : Outcome). x.code) e) ∙ z)))
    (λ broken. let two : 2 ≡ 0 = ap (λ (x : Outcome). x.code) (from_two v.side xs v.event v.draws (length v.output) broken) ∙ z in absurd (omega (arith, two)))

pub names_evicted_by_value : E.NamesEvictedByValue
names_evicted_by_value s v n z = names_evicted s.words v n z

pub evictions_told : E.EvictionsTold
evictions_told = told_all unpack names_evicted refusals_kept

pub evictions_told_by_value : E.EvictionsToldByValue
evictions_told_by_value = told_all unpack_state names_evicted_by_value refusals_kept_by_value
