-- By cases: kind, ids and length fit or not, and then the room; a well_formed record's length bounds all that is computed.
use Prim.Native.Nat.{ℕ, ◌≤◌}
use mathlib.Core.Path.{◌≡◌}
use mathlib.Core.Bool.{true, ◌&&◌}
use mathlib.Core.List.{List}
use lib.Dec.{ltb}
use lib.ListN.{length}
use Rattle.record.specs.Format.{header_length_by, size_by}
use Rattle.record.specs.Forms.{form_width}
use Rattle.record.specs.Read.{rec_of_by}
use Rattle.record.proofs.Laws.{well_formed_long}
use Rattle.record_convert.specs.Convert.{is_record, has_form, resized}
use Rattle.record_convert.proofs.Laws.{all_bytes, well_of, reach, short, size_is, formed, full, done, none_such}
use Rattle.record_convert.proofs.other_form.Goals.{After-ids_fit}
use Rattle.record_convert.proofs.other_form.Goals as goal

long : (v : ℕ) (b : List ℕ) → is_record v b ≡ true → header_length_by v ≤ length b
long v b i = well_formed_long v b (well_of v b i)

-- the length computed is that of the other form
sized : (c : After-ids_fit) → c.other_size-size.result ≡ size_by (form_width c.args.to) (rec_of_by (form_width c.args.from) c.args.b.now)
sized c = size_is _ _ _ (well_of _ _ c.requires) (all_bytes _ c.type_inv.b) _ c.read_header_by-h.ensures _ c.other_size-size.ensures

-- and what is tested is whether there is one
tested : (c : After-ids_fit) → has_form (form_width c.args.to) (rec_of_by (form_width c.args.from) c.args.b.now)
    ≡ (c.kind_in_form.result && c.fits.result && c.fits-2.result && c.ids_fit.result && ltb c.other_size-size.result 65536)
tested c = formed _ _ _ c.requires _ c.read_header_by-h.ensures _ (sized c) _ _ _ _ c.kind_in_form.ensures c.fits.ensures c.fits-2.ensures c.ids_fit.ensures

pub read_header_by-h-requires : goal.read_header_by-h-requires
read_header_by-h-requires c = search long

pub other_size-size-requires-clause-n_bound_2 : goal.other_size-size-requires-clause-n_bound_2
other_size-size-requires-clause-n_bound_2 c = reach _ _ (well_of _ _ c.requires) _ c.read_header_by-h.ensures

pub other_size-size-requires-clause-len_bound : goal.other_size-size-requires-clause-len_bound
other_size-size-requires-clause-len_bound c = short _ _ (well_of _ _ c.requires) _ c.read_header_by-h.ensures (all_bytes _ c.type_inv.b)

pub ids_fit-requires-clause-n_in_bounds : goal.ids_fit-requires-clause-n_in_bounds
ids_fit-requires-clause-n_in_bounds c = reach _ _ (well_of _ _ c.requires) _ c.read_header_by-h.ensures

pub returns-then-not-has_form-clause-code : goal.returns-then-not-has_form-clause-code
returns-then-not-has_form-clause-code c = none_such _ _ _ c.requires _ _ (tested (goal.at.returns-then-not-has_form-clause-code c).After-ids_fit) c.if-not-has_form.true

pub returns-then-room-size-clause-code : goal.returns-then-room-size-clause-code
returns-then-room-size-clause-code c =
    let p = (goal.at.returns-then-room-size-clause-code c).After-ids_fit in
    full _ _ _ c.requires _ _ (tested p) _ (sized p) c.if-not-has_form.false c.if-room-size.true

pub returns-clause-code : goal.returns-clause-code
returns-clause-code c =
    let p = (goal.at.returns-clause-code c).After-ids_fit in
    done _ _ _ c.requires _ _ (tested p) _ (sized p) c.if-not-has_form.false c.if-room-size.false

pub returns-clause-header : goal.returns-clause-header
returns-clause-header c = λ i. resized (c.read_header_by-h.ensures i) (sized (goal.at.returns-clause-header c).After-ids_fit i)
