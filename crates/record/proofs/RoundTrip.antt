-- Both round trips, once over all kinds of records.
-- Assumes nothing.
use Prim.Native.Nat.{ℕ}
use mathlib.Core.Path.{◌≡◌, subst}
use mathlib.Core.Bool.{true}
use mathlib.Core.List.{List}
use mathlib.Core.Option.{some}
use native.Mathlib.Omega.{arith}
use Rattle.base_lists.proofs.Numbers.{Bytes}
use Rattle.record.specs.Format.{Rec, peer_length, encode, encode_by}
use Rattle.record.specs.Read.{well_formed_by, decode, decode_by}
use Rattle.record.specs.InForm.{InForm, InFormBy}
use Rattle.record.proofs.Forth.{decode_encode}
use Rattle.record.proofs.Back.{encode_back, in_form_back, decoded}

-- what is written reads back as the same record, for every record in form
pub written_reads_back : (e : Rec) → InForm e → decode (encode e) ≡ some e
written_reads_back e f = decode_encode peer_length (omega arith) e f

-- the bytes are those of the record, which is in form
pub record BytesOf (w : ℕ) (b : List ℕ) (e : Rec) : Type 0 where
  pub bytes : encode_by w e ≡ b
  pub form : InFormBy w e

-- every list of bytes that reads as a record is what is written of that record
pub read_writes_back : (w : ℕ) (b : List ℕ) (e : Rec) → Bytes b → decode_by w b ≡ some e → BytesOf w b e
read_writes_back w b e ok d =
    let y : well_formed_by w b ≡ true = (decoded w b e d).0 in
    subst (λ (r : Rec). BytesOf w b r) (decoded w b e d).1 (record { bytes = encode_back w b ok y; form = in_form_back w b ok y })
