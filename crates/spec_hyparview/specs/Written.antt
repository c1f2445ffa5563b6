-- What an accepted call leaves in the output: records that the reader reads back, and zeroes.
-- Assumes nothing.
use Rattle.std.specs.Prelude.{ℕ, true, List, [], ◌∷◌, ◌++◌, ◌≡◌, replicate}
use Rattle.base_lists.specs.Tests.{All}
use Rattle.record.specs.Format.{Rec, encode}
use Rattle.record.specs.InForm.{InForm}
use Rattle.spec_hyparview.specs.Station.{Station, draws_end}
use Rattle.spec_hyparview.specs.Rules.{all_under, station_ok}
use Rattle.spec_hyparview.specs.Handle.{handle}

-- the bytes of records, in order
unfoldable pub encode_all : List Rec → List ℕ
encode_all [] = []
encode_all (e ∷ es) = encode e ++ encode_all es

-- "records in the output followed by zero bytes", each of them in form, so that it reads back (law `written_reads_back` of `record`)
pub record WrittenOut (out : List ℕ) : Type 0 where
  pub records : List Rec
  pub in_form : All InForm records
  pub zeros : ℕ
  pub bytes : out ≡ encode_all records ++ replicate zeros 0

-- of every accepted call to a station that keeps the rules; an event is bytes, and draws have 32 bits
abbrev pub WritesRecords : Type 0
WritesRecords =
    (s : Station) → station_ok s ≡ true → (b : List ℕ) → all_under 256 b ≡ true → (ds : List ℕ) → all_under draws_end ds ≡ true
    → (room : ℕ) → (handle s b ds room).code ≡ 0 → WrittenOut (handle s b ds room).output
