-- Every record of an accepted output is read back, for every list of calls to a new station.
-- Assumes nothing.
use mathlib.Core.Path.{◌≡◌, refl, sym, ap, subst, ◌∙◌}
use mathlib.Core.Bool.{true, ◌&&◌}
use mathlib.Core.List.{List, [], ◌∷◌, ◌++◌, append_assoc, map}
use mathlib.Core.Option.{some}
use Prim.Native.Nat.{ℕ, ◌≤◌, ◌<◌}
use native.Mathlib.Omega.{arith}
use lib.ListN.{length, take, replicate}
use lib.Seq.{take_at}
use Rattle.base_lists.specs.Tests.{All}
use Rattle.base_lists.proofs.Choice.{choose_yes, and_left, and_right}
use Rattle.base_timing.specs.Timing.{in_range}
use Rattle.base_timing.specs.declared.Config.{Config}
use Rattle.record.specs.Format.{Rec, size, encode}
use Rattle.record.specs.Read.{decode}
use Rattle.record.specs.InForm.{InForm}
use Rattle.record.specs.Walk.{whole_length}
use Rattle.record.proofs.Format.{length_encode}
use Rattle.record.proofs.Forth.{size_most}
use Rattle.record.proofs.Walk.{whole_is, records_written, records_zeros}
use Rattle.record.proofs.RoundTrip.{written_reads_back}
use Rattle.spec_hyparview.specs.Station.{Station, draws_end}
use Rattle.spec_hyparview.specs.Rules.{all_under, short_data, station_ok}
use Rattle.spec_hyparview.specs.Handle.{Result, Made, new, new_station, refusal}
use Rattle.spec_hyparview.specs.Sides.{draws_from}
use Rattle.spec_hyparview.proofs.Sides.{by_side, under_from}
use Rattle.spec_hyparview.specs.Written.{encode_all, WrittenOut}
use Rattle.spec_hyparview.proofs.Tested.{rules_of}
use Rattle.spec_hyparview.proofs.Written.{writes_records}
use Rattle.spec_history.specs.Ledger.{Ledger}
use Rattle.spec_history.specs.Calls.{Call, narrow_draws, answered, result_of, definition}
use Rattle.spec_history.specs.Outputs.{cut_records, ReadsBack, OutputsRead, OutputsReadBack}
use Rattle.spec_history.proofs.Kept.{Kept, fine_answer, kept_new, accepted_new}

abbrev cut : List (List ℕ) → List (List ℕ)
cut bs = map (λ b. take (whole_length b) b) bs

-- a record in form is shorter than a whole length can say
pub form_small : (e : Rec) → InForm e → size e < 65536
form_small e f = let m : size e ≤ 928 = size_most e f in omega arith

cut_all : (es : List Rec) (zeros : ℕ) → All InForm es → cut_records (encode_all es ++ replicate zeros 0) ≡ map encode es
unfolding cut_records encode_all All
cut_all [] zeros a = ap cut (records_zeros zeros)
cut_all (e ∷ es) zeros a =
    let s = form_small e a.0 in
    let rest : List ℕ = encode_all es ++ replicate zeros 0 in
    rw (append_assoc (encode e) (encode_all es) (replicate zeros 0))
    (ap cut (records_written e rest s) ∙ rw (whole_is e rest s, take_at (encode e) rest (size e) (length_encode e)) (ap (λ (bs : List (List ℕ)). encode e ∷ bs) (cut_all es zeros a.1)))

decode_all : (es : List Rec) → All InForm es → map decode (map encode es) ≡ map some es
unfolding All
decode_all [] a = refl
decode_all (e ∷ es) a = λ i. written_reads_back e a.0 i ∷ decode_all es a.1 i

-- what is written reads back: the parts of the output, and the records in them
parts_of : (out : List ℕ) (w : WrittenOut out) → cut_records out ≡ map encode w.records
parts_of out w = subst (λ (x : List ℕ). cut_records x ≡ map encode w.records) (sym w.bytes) (cut_all w.records w.zeros w.in_form)

pub read_back : (out : List ℕ) (w : WrittenOut out) → map decode (cut_records out) ≡ map some w.records
read_back out w = ap (map decode) (parts_of out w) ∙ decode_all w.records w.in_form

pub reads : (out : List ℕ) → WrittenOut out → ReadsBack out
reads out w = record { written = w; parts = parts_of out w; read = read_back out w }

pub written : (v : Call) (s : Station) → station_ok s ≡ true → all_under draws_end v.draws ≡ true → (result_of v s).code ≡ 0 → WrittenOut (result_of v s).output
unfolding answered refusal
written v s ok narrow =
    let room = length v.output in
    by_side (λ (a : Result). a.code ≡ 0 → WrittenOut a.output) v.side s v.event v.draws room (λ z. absurd (omega (arith, z)))
    (λ z. writes_records s ok v.event v.are_bytes (draws_from v.side v.draws) (under_from draws_end v.side v.draws narrow) room z)

module _ {c : Config} {me : ℕ} (ranges : in_range c ≡ true) where
  pub outputs_read : (vs : List Call) {l : Ledger} {s : Station} → narrow_draws vs ≡ true → Kept c me l s → OutputsRead definition vs s
  unfolding OutputsRead narrow_draws answered
  outputs_read [] n h = tt
  outputs_read (v ∷ vs) {s = s} n h = (
    (λ z. reads _ (written v s (rules_of s ranges h) (and_left (all_under draws_end v.draws) _ n) z)),
    outputs_read vs (and_right (all_under draws_end v.draws) _ n) (fine_answer ranges v h).kept,
  )

-- Whatever is brought to a new station, all that it writes in an accepted call is read back.
pub outputs_read_back : OutputsReadBack
unfolding new
outputs_read_back me d c given z vs n =
    let t = accepted_new me d c z in
    let r = and_left (in_range c) (short_data d) t in
    let e : (new me d c).state ≡ new_station me d c = ap (λ (m : Made). m.state) (choose_yes (in_range c && short_data d) _ _ t) in
    subst (λ (s : Station). OutputsRead definition vs s) (sym e) (outputs_read r vs n (kept_new me d c given r (and_right (in_range c) (short_data d) t)))
