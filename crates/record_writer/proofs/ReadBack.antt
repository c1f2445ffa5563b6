-- What a writer wrote is read back, on its own part of the output, as the same record.
-- Assumes nothing.
use Prim.Native.Nat.{ℕ, ◌+◌, ◌≤◌}
use mathlib.Core.Path.{◌≡◌, refl, sym, ◌∙◌}
use mathlib.Core.Bool.{Bool, true, false}
use mathlib.Core.List.{List}
use mathlib.Core.Option.{some}
use native.Mathlib.Omega.{arith}
use borrow.Author.Tests.{leb-true}
use lib.ListN.{length}
use lib.Seq.{slice}
use Rattle.base_lists.specs.Lists.{choose}
use Rattle.base_lists.specs.Bytes.{overwrite}
use Rattle.base_lists.proofs.Choice.{choose_yes}
use Rattle.base_lists.proofs.Stored.{slice_stored}
use Rattle.record.specs.Format.{Rec, size, encode}
use Rattle.record.specs.Read.{decode}
use Rattle.record.specs.InForm.{header_in, InForm}
use Rattle.record.specs.Answers.{answer}
use Rattle.std.specs.Prelude.{Option, Some, None}
use Rattle.record.proofs.Format.{length_encode}
use Rattle.record.proofs.Forth.{answer_encode}
use Rattle.record.proofs.RoundTrip.{written_reads_back}
use Rattle.record_writer.specs.Write.{fits, written, reached, Wrote}

module _ (e : Rec) (at : ℕ) (out : List ℕ) (r : Option ℕ) (o : List ℕ) (k : ℕ) (w : Wrote e at out r o) (a : r ≡ Some k) where
  at_by : (t : Bool) → choose t (Some (at + size e)) None ≡ Some k → (t ≡ true) × (at + size e ≡ k)
  unfolding choose
  at_by true q = (refl, cc)
  at_by false q = absurd (let z : ◌≡◌ {A = ℕ} 0 1 = cc in omega arith)

  -- the record was stored, where it fits
  record Stored : Type 0 where
    room : at + length (encode e) ≤ length out
    place : at + length (encode e) ≡ k
    bytes : o ≡ overwrite out at (encode e)

  stored : Stored
  unfolding reached written fits
  stored =
      let f = at_by (fits e at (length out)) (sym w.answer ∙ a) in
      record {
        room = omega (arith, length_encode e, leb-true (at + size e) (length out) f.0);
        place = omega (arith, length_encode e, f.1);
        bytes = w.bytes ∙ choose_yes (fits e at (length out)) (overwrite out at (encode e)) out f.0;
      }

  -- where the writer answers a place, the bytes up to there are the record's
  pub part_written : slice at k o ≡ encode e
  part_written = rw (← stored.place, stored.bytes) (slice_stored out at (encode e) stored.room)

  pub record ReadsBack : Type 0 where
    pub record_is : decode (slice at k o) ≡ some e
    pub header_is : answer (slice at k o) ≡ Some (header_in e)

  pub wrote_reads_back : InForm e → ReadsBack
  wrote_reads_back f = record { record_is = rw part_written (written_reads_back e f); header_is = rw part_written (answer_encode e f) }
