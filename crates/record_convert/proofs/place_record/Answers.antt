-- By cases on the answer: a header means that the record is well formed and its other form fits; otherwise nothing is written.
use Prim.Native.Nat.{ℕ, ◌≤◌}
use mathlib.Core.Path.{◌≡◌, sym, ap}
use mathlib.Core.Bool.{true}
use mathlib.Core.List.{List}
use native.Mathlib.Omega.{arith}
use Rattle.std.proofs.lemmas.Result.{err_from_is_err_and}
use Rattle.record.specs.Format.{size_by}
use Rattle.record.specs.Read.{header_of_by, well_formed_by, rec_of_by}
use Rattle.record.specs.declared.Header.{Header}
use Rattle.record_convert.specs.Convert.{conversion_code, resized}
use Rattle.record_convert.proofs.Laws.{accepted, refused_placed, done_placed}
use Rattle.record_convert.proofs.place_record.Goals as goal

module _ (v w : ℕ) (b : List ℕ) (r : ℕ) (p : 0 ≡ conversion_code v w b r) where
  well : well_formed_by v b ≡ true
  well = (accepted v w b r (sym p)).well

  fits : (h : Header) → h ≡ resized (header_of_by v b) (size_by w (rec_of_by v b)) → h.size ≤ r
  fits h d = omega (arith, (accepted v w b r (sym p)).fits, ap (λ (x : Header). x.size) d)

pub returns-in_err-h : goal.returns-in_err-h
returns-in_err-h c =
    let p = err_from_is_err_and c.from_residual.result c.from_residual.ensures.1 in
    rw (p.1, p.2) (refused_placed _ _ _ _ c.in_err-h.field-0.0 c.in_err-h.ensures.code)

pub write_form-requires-clause-b_value : goal.write_form-requires-clause-b_value
write_form-requires-clause-b_value c = well _ _ _ _ c.in_ok-h.ensures.code

pub write_form-requires-clause-size_in_bounds : goal.write_form-requires-clause-size_in_bounds
write_form-requires-clause-size_in_bounds c = fits _ _ _ _ c.in_ok-h.ensures.code _ c.in_ok-h.ensures.header

pub returns : goal.returns
returns c = done_placed _ _ _ _ _ _ c.in_ok-h.ensures.code c.in_ok-h.ensures.header c.write_form.ensures
