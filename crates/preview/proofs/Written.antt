-- The records of an accepted output are those that the event wrote, so that the price counts these and no zeroes.
-- Assumes nothing.
use Prim.Native.Nat.{ℕ, ◌+◌, ◌≤◌, ◌<◌}
use mathlib.Core.Path.{◌≡◌, refl, sym, ap, subst, ◌∙◌}
use mathlib.Core.Bool.{true}
use mathlib.Core.List.{List, [], ◌∷◌, ◌++◌, append_assoc}
use native.Mathlib.Omega.{arith}
use lib.ListN.{length, replicate, length-append}
use lib.Dec.{eqb}
use borrow.Author.Tests.{eq-eqb}
use Rattle.base_lists.specs.Tests.{All}
use Rattle.base_lists.proofs.Choice.{split, choose_yes, choose_no}
use Rattle.record.specs.Format.{Rec, size, encode, encode_by, header_by}
use Rattle.record.specs.InForm.{InForm}
use Rattle.record.specs.Walk.{kind_in, whole_length, records_in, walk}
use Rattle.record.proofs.Format.{length_encode}
use Rattle.record.proofs.Forth.{size_most}
use Rattle.record.proofs.Walk.{whole_is, records_written, records_zeros}
use Rattle.spec_hyparview.specs.Rules.{all_under}
use Rattle.spec_hyparview.specs.Station.{draws_end}
use Rattle.spec_hyparview.specs.Handle as P
use Rattle.spec_hyparview.specs.Sides.{Side, draws_from, handle_from}
use Rattle.spec_hyparview.specs.Written.{encode_all, WrittenOut}
use Rattle.spec_hyparview.proofs.Sides.{by_side, under_from}
use Rattle.spec_hyparview.proofs.Written.{writes_records}
use Rattle.hyparview_state.specs.Unpack.{unpack}
use Rattle.hyparview_rules.specs.Ok.{state_ok}
use Rattle.hyparview.specs.Room.{output_room}
use Rattle.hyparview.specs.Handled.{Outcome, packed_answer, refused_words, handled_from}
use Rattle.hyparview.proofs.Opening.{rules_of}
use Rattle.hyparview.proofs.Sides.{from_two}
use Rattle.preview.specs.declared.Count.{Count}
use Rattle.preview.specs.declared.Price.{Price}
use Rattle.preview.specs.Preview.{add_message, add, priced_records, no_price, price, preview, messages_of, PriceTells, PriceTellsWritten}
use Rattle.preview.proofs.Nine.{price_code, keeps}

abbrev both : ℕ → ℕ → Count
both m n = record { messages = m; bytes = n }

-- a message before the others or after them
add_before : (k m n : ℕ) → add_message k m + n ≡ m + add_message k n
unfolding add_message
add_before k m n =
    split (eqb k 0) (λ y. let p = choose_yes (eqb k 0) (m + 1) m y in let q = choose_yes (eqb k 0) (n + 1) n y in omega (arith, p, q))
    (λ f. let p = choose_no (eqb k 0) (m + 1) m f in let q = choose_no (eqb k 0) (n + 1) n f in omega (arith, p, q))

module _ (e : Rec) (rest : List ℕ) (f : InForm e) where
  small : size e < 65536
  small = let m : size e ≤ 928 = size_most e f in omega arith

  one_added : (m n : ℕ) → add (encode e ++ rest) (both m n) ≡ both (add_message e.kind m) (n + size e)
  unfolding add kind_in encode_by header_by
  one_added m n = ap (λ (l : ℕ). both (add_message e.kind m) (n + l)) (whole_is e rest small)

priced_records_all : (es : List Rec) (zeros m n : ℕ) → All InForm es
    → walk add (records_in (encode_all es ++ replicate zeros 0)) (both m n) ≡ both (m + messages_of es) (n + length (encode_all es))
unfolding walk encode_all messages_of All
priced_records_all [] zeros m n a =
    ap (λ (bs : List (List ℕ)). walk add bs (both m n)) (records_zeros zeros)
    ∙ (let p : m ≡ m + 0 = omega arith in let q : n ≡ n + 0 = omega arith in λ i. both (p i) (q i))
priced_records_all (e ∷ es) zeros m n a =
    let rest : List ℕ = encode_all es ++ replicate zeros 0 in
    let k : ℕ = add_message e.kind m in
    let p : k + messages_of es ≡ m + add_message e.kind (messages_of es) = add_before e.kind m (messages_of es) in
    let q : n + size e + length (encode_all es) ≡ n + length (encode e ++ encode_all es) =
    omega (arith, length-append (encode e) (encode_all es), length_encode e) in
    rw (append_assoc (encode e) (encode_all es) (replicate zeros 0))
    (ap (λ (bs : List (List ℕ)). walk add bs (both m n)) (records_written e rest (small e rest a.0))
    ∙ (ap (walk add (records_in rest)) (one_added e rest a.0 m n)
    ∙ (priced_records_all es zeros k (n + size e) a.1 ∙ (λ i. both (p i) (q i)))))

priced_records_written : (out : List ℕ) (w : WrittenOut out) → priced_records out ≡ both (messages_of w.records) (length (encode_all w.records))
unfolding priced_records
priced_records_written out w =
    let p : 0 + messages_of w.records ≡ messages_of w.records = omega arith in
    let q : 0 + length (encode_all w.records) ≡ length (encode_all w.records) = omega arith in
    subst (λ (x : List ℕ). walk add (records_in x) (both 0 0) ≡ both (messages_of w.records) (length (encode_all w.records))) (sym w.bytes)
    (priced_records_all w.records w.zeros 0 0 w.in_form ∙ (λ i. both (p i) (q i)))

priced : (o : Outcome) → o.code ≡ 0 → WrittenOut o.output → PriceTells o.output (price o)
unfolding price
priced o z w =
    let full : Price = record { code = o.code; messages = (priced_records o.output).messages; bytes = (priced_records o.output).bytes; draws = o.draws } in
    let p : price o ≡ full = choose_yes (eqb o.code 0) full (no_price o.code) (eq-eqb o.code 0 z) in
    let q = priced_records_written o.output w in
    record {
      written = w;
      messages = ap (λ (x : Price). x.messages) p ∙ ap (λ (x : Count). x.messages) q;
      bytes = ap (λ (x : Price). x.bytes) p ∙ ap (λ (x : Count). x.bytes) q;
    }

module _ (xs : List ℕ) (side : Side) (b ds : List ℕ) (bytes : all_under 256 b ≡ true) (narrow : all_under draws_end ds ≡ true) where
  by_definition : state_ok xs ≡ true → (handle_from side (unpack xs) b ds output_room).code ≡ 0 → WrittenOut (handle_from side (unpack xs) b ds output_room).output
  unfolding P.refusal
  by_definition ok =
      by_side (λ (a : P.Result). a.code ≡ 0 → WrittenOut a.output) side (unpack xs) b ds output_room (λ z. absurd (omega (arith, z)))
      (λ z. writes_records (unpack xs) (rules_of xs ok) b bytes (draws_from side ds) (under_from draws_end side ds narrow) output_room z)

  written_of : (handled_from side xs b ds output_room).code ≡ 0 → WrittenOut (handled_from side xs b ds output_room).output
  unfolding packed_answer refused_words
  written_of z =
      split (state_ok xs)
      (λ ok. let e = keeps xs side b ds output_room ok in
      subst (λ (o : Outcome). WrittenOut o.output) (sym e) (by_definition ok (sym (ap (λ (o : Outcome). o.code) e) ∙ z)))
      (λ broken. let two : 2 ≡ 0 = ap (λ (o : Outcome). o.code) (from_two side xs b ds output_room broken) ∙ z in absurd (omega (arith, two)))

-- The price of every accepted call is that of the records which it writes.
pub tells_written : PriceTellsWritten
unfolding preview
tells_written xs side b ds bytes narrow z =
    let o : Outcome = handled_from side xs b ds output_room in
    let code : o.code ≡ 0 = sym (price_code o) ∙ z in
    priced o code (written_of xs side b ds bytes narrow code)
