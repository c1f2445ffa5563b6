-- What an accepted call leaves in the output reads back, and the station that it hands back keeps to its widths.
-- Assumes nothing.
use mathlib.Core.Path.{◌≡◌, ap}
use mathlib.Core.List.{List, ◌++◌}
use Prim.Native.Nat.{ℕ, ◌-◌}
use native.Mathlib.Omega.{arith}
use lib.ListN.{length, replicate}
use lib.Dec.{eqb}
use borrow.Author.Tests.{eqb-true, eqb-false}
use Rattle.base_lists.proofs.Choice.{by_choice, choose_yes}
use Rattle.record.specs.Format.{Rec}
use Rattle.record.specs.InForm.{InForm}
use Rattle.record.specs.Read.{Reading, rec_of, read_event}
use Rattle.spec_hyparview.specs.Station.{Station, draws_end}
use Rattle.spec_hyparview.specs.Run.{Run}
use Rattle.spec_hyparview.specs.Rules.{station_ok}
use Rattle.spec_hyparview.specs.Handle.{Result, start, steps, refusal, accepted, finish, handle_reading, handle}
use Rattle.spec_hyparview.specs.Written.{WritesRecords}
use Rattle.spec_hyparview.specs.Evictions.{evictions, Names, NamesEvictions}
use Rattle.spec_hyparview.proofs.Narrow.{Narrow}
use Rattle.spec_hyparview.proofs.Formed.{Formed, Draws, nothing_spelled, nothing_told}
use Rattle.spec_hyparview.proofs.FormedWhole.{formed_steps}
use Rattle.spec_hyparview.proofs.Reading.{Readable, by_form}
use Rattle.spec_hyparview.proofs.Tested.{all_true, between_of}

-- the run of an event in form, from a station that keeps to its widths
pub formed_event : (s : Station) → Narrow s → (ds : List ℕ) (room : ℕ) (e : Rec) → Readable e → InForm e → Formed ds (evictions e (start s ds room)) (steps e (start s ds room))
formed_event s n ds room e w f =
    formed_steps e f w.few (record { lent = λ i. ds; narrow = n; spelled = λ d. nothing_spelled; told = λ d z. nothing_told })

named_run : (s : Station) (r : Run) {ds es : List ℕ} → Formed ds es r → Draws ds → (finish s r).code ≡ 0 → Names es (finish s r).output
unfolding finish accepted refusal
named_run s r {ds} {es} k d =
    by_choice (λ (a : Result). a.code ≡ 0 → Names es a.output) (eqb r.code 0)
    (λ z e. let w = k.spelled d in record {
      written = record {
        records = w.records;
        in_form = w.in_form;
        zeros = r.room - length r.out;
        bytes = ap (λ (l : List ℕ). l ++ replicate (r.room - length r.out) 0) w.bytes;
      };
      exactly = k.told d (eqb-true r.code 0 z);
    })
    (λ z e. absurd (eqb-false r.code 0 z e))

-- 02, S-2: the records of kind 12 of every accepted call name those that its event evicts, in order, and no others.
pub names_evictions : NamesEvictions
unfolding handle handle_reading refusal
names_evictions s ok b bytes ds narrow room =
    rw (choose_yes (station_ok s) (handle_reading (read_event b) s ds room) (refusal 2 s room) ok)
    (by_form b bytes (λ (x : Reading). (handle_reading x s ds room).code ≡ 0 → Names (evictions (rec_of b) (start s ds room)) (handle_reading x s ds room).output)
    (λ c l h e. absurd (omega (arith, e)))
    (λ w f. named_run s _ (formed_event s (between_of s ok).narrow ds room _ w f) (all_true draws_end ds narrow)))

-- The output of every accepted call is records in form, which read back, and zeroes.
pub writes_records : WritesRecords
writes_records s ok b bytes ds narrow room e = (names_evictions s ok b bytes ds narrow room e).written
