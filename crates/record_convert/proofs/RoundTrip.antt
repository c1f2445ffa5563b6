-- Document 02, S-8: "back again gives the old bytes", "A new record goes to the old form and back unchanged", and which records have no other form.
-- Assumes nothing.
use Prim.Native.Nat.{ℕ, ◌≤◌}
use mathlib.Core.Path.{◌≡◌, refl, ap, ◌∙◌}
use mathlib.Core.Bool.{Bool, true, false, not, ◌&&◌, ◌||◌}
use mathlib.Core.List.{List, []}
use native.Mathlib.Omega.{arith}
use borrow.Author.Tests.{le-ltb}
use lib.ListN.{length, get_or}
use lib.Dec.{ltb, eqb}
use Rattle.base_lists.specs.Lists.{choose}
use Rattle.base_lists.proofs.Array.{take_pad}
use Rattle.base_lists.proofs.Choice.{choose_yes, split, and_right}
use Rattle.base_lists.proofs.Numbers.{Bytes}
use Rattle.record.specs.Format.{Rec, most_nodes, peer_length, old_peer_length, header_length_by, size_by, encode_by}
use Rattle.record.specs.Kinds.{Pin, kind_byte}
use Rattle.record.specs.Read.{well_formed_by, rec_of_by}
use Rattle.record.specs.InForm.{InFormBy}
use Rattle.record.proofs.Format.{length_encode_by}
use Rattle.record.proofs.Back.{encode_back, in_form_back}
use Rattle.record.proofs.Forth.{well_formed_encode_by, rec_of_encode_by}
use Rattle.record_convert.specs.Convert.{kind_in_form, is_record, has_form, conversion_code, outcome, converted, conversion, bytes_in, large}
use Rattle.record_convert.proofs.Laws.{well_of, answer_well}
use Rattle.record_convert.proofs.Forms.{kind_of, other_in_form, wide_form, old_form_of}

-- the bytes of a record are converted where they fit
module _ (v w : ℕ) (b : List ℕ) (i : is_record v b ≡ true) (f : has_form w (rec_of_by v b) ≡ true) (r : ℕ) (l : size_by w (rec_of_by v b) ≤ r) where
  pub accepts : conversion_code v w b r ≡ 0
  unfolding choose
  accepts = answer_well v w b i r ∙ rw (f, le-ltb r (size_by w (rec_of_by v b)) l)

  pub converts : conversion v w b r ≡ outcome 0 (encode_by w (rec_of_by v b)) r
  unfolding conversion converted
  converts = rw (accepts) (ap (λ (bs : List ℕ). outcome 0 bs r) (choose_yes (eqb 0 0) (encode_by w (rec_of_by v b)) [] refl))

  pub converts_to : bytes_in (conversion v w b r) ≡ encode_by w (rec_of_by v b)
  unfolding bytes_in outcome
  converts_to = ap bytes_in converts ∙ take_pad 0 r (encode_by w (rec_of_by v b)) (omega (arith, length_encode_by w (rec_of_by v b)))

-- ---- there and back, between any two forms

module _ (v w : ℕ) (p : v ≤ peer_length) (q : w ≤ peer_length) (b : List ℕ) (ok : Bytes b) (i : is_record v b ≡ true) (f : has_form w (rec_of_by v b) ≡ true) where
  abbrev e : Rec
  e = rec_of_by v b

  t : well_formed_by v b ≡ true
  t = well_of v b i

  first : InFormBy v e
  first = in_form_back v b ok t

  second : InFormBy w e
  second = other_in_form e v w first f

  -- what was written reads as what was read
  pub again : rec_of_by w (encode_by w e) ≡ e
  again = rec_of_encode_by w q e second

  pub back : encode_by v (rec_of_by w (encode_by w e)) ≡ b
  back = ap (encode_by v) again ∙ encode_back v b ok t

  pub sound : is_record w (encode_by w e) ≡ true
  unfolding is_record
  sound = rw (well_formed_encode_by w q e second, again) (kind_of e v w f)

  pub has_form_back : has_form v (rec_of_by w (encode_by w e)) ≡ true
  unfolding is_record
  has_form_back = rw again (wide_form v v e (omega arith) p first (and_right (well_formed_by v b) (kind_in_form v e.kind) i))

  -- the conversion of what the conversion wrote, with enough room for both
  pub there_and_back : (r s : ℕ) → size_by w e ≤ r → length b ≤ s → conversion w v (bytes_in (conversion v w b r)) s ≡ outcome 0 b s
  there_and_back r s l m =
      let n : size_by v (rec_of_by w (encode_by w e)) ≤ s = omega (arith, m, length_encode_by v (rec_of_by w (encode_by w e)), ap length back) in
      ap (λ (c : List ℕ). conversion w v c s) (converts_to v w b i f r l) ∙ converts w v (encode_by w e) sound has_form_back s n ∙ ap (λ (c : List ℕ). outcome 0 c s) back

-- ---- S-8's two claims

-- this form has every kind
same_record : (b : List ℕ) → is_record peer_length b ≡ well_formed_by peer_length b
unfolding is_record kind_in_form
same_record b = and_true (well_formed_by peer_length b)
  where
    and_true : (a : Bool) → (a && true) ≡ a
    and_true true = refl
    and_true false = refl

every_kind : (b : List ℕ) → well_formed_by peer_length b ≡ true → is_record peer_length b ≡ true
every_kind b t = same_record b ∙ t

module _ (b : List ℕ) (ok : Bytes b) where
  -- every old record has a form of today
  pub new_form_of_old : is_record old_peer_length b ≡ true → has_form peer_length (rec_of_by old_peer_length b) ≡ true
  unfolding kind_in_form
  new_form_of_old i = wide_form old_peer_length peer_length (rec_of_by old_peer_length b) (omega arith) (omega arith) (in_form_back old_peer_length b ok (well_of old_peer_length b i)) refl

  -- "A conversion of old records .. back again gives the old bytes."
  pub old_new_old : is_record old_peer_length b ≡ true → encode_by old_peer_length (rec_of_by peer_length (encode_by peer_length (rec_of_by old_peer_length b))) ≡ b
  old_new_old i = back old_peer_length peer_length (omega arith) (omega arith) b ok i (new_form_of_old i)

  pub old_new_old_outcome : is_record old_peer_length b ≡ true → (r s : ℕ) → size_by peer_length (rec_of_by old_peer_length b) ≤ r → length b ≤ s
      → conversion peer_length old_peer_length (bytes_in (conversion old_peer_length peer_length b r)) s ≡ outcome 0 b s
  old_new_old_outcome i = there_and_back old_peer_length peer_length (omega arith) (omega arith) b ok i (new_form_of_old i)

  -- "A new record goes to the old form and back unchanged.", where it has one
  pub new_old_new : well_formed_by peer_length b ≡ true → has_form old_peer_length (rec_of_by peer_length b) ≡ true
      → encode_by peer_length (rec_of_by old_peer_length (encode_by old_peer_length (rec_of_by peer_length b))) ≡ b
  new_old_new t f = back peer_length old_peer_length (omega arith) (omega arith) b ok (every_kind b t) f

  pub new_old_new_outcome : well_formed_by peer_length b ≡ true → has_form old_peer_length (rec_of_by peer_length b) ≡ true → (r s : ℕ) → size_by old_peer_length (rec_of_by peer_length b) ≤ r → length b ≤ s
      → conversion old_peer_length peer_length (bytes_in (conversion peer_length old_peer_length b r)) s ≡ outcome 0 b s
  new_old_new_outcome t f = there_and_back peer_length old_peer_length (omega arith) (omega arith) b ok (every_kind b t) f

-- ---- 19

by_reader : (s t : Bool) (x : ℕ) → eqb (choose s 3 (choose t 4 (choose true 3 x))) 19 ≡ false
unfolding choose
by_reader true t x = refl
by_reader false true x = refl
by_reader false false x = refl

by_form : (f t : Bool) → eqb (choose (not f) 19 (choose t 9 0)) 19 ≡ not f
unfolding choose
by_form true true = refl
by_form true false = refl
by_form false t = refl

-- bytes that are no record are answered by the reader
malformed : (v w : ℕ) (b : List ℕ) (r : ℕ) → is_record v b ≡ false → eqb (conversion_code v w b r) 19 ≡ false
unfolding conversion_code
malformed v w b r n =
    rw n
    (by_reader (ltb (length b) (header_length_by v)) (ltb 32 (get_or b 3 0)) (choose (not (has_form w (rec_of_by v b))) 19 (choose (ltb r (size_by w (rec_of_by v b))) 9 0)))

-- 19 is the answer to the records that have no other form, and to nothing else
pub nineteen : (v w : ℕ) (b : List ℕ) (r : ℕ) → eqb (conversion_code v w b r) 19 ≡ (is_record v b && not (has_form w (rec_of_by v b)))
nineteen v w b r =
    split (is_record v b) (λ t. rw (answer_well v w b t r, t) (by_form (has_form w (rec_of_by v b)) (ltb r (size_by w (rec_of_by v b))))) (λ n. malformed v w b r n ∙ rw n)

-- an old record is never answered 19
pub never_nineteen : (b : List ℕ) → Bytes b → (r : ℕ) → eqb (conversion_code old_peer_length peer_length b r) 19 ≡ false
never_nineteen b ok r =
    nineteen old_peer_length peer_length b r ∙ split (is_record old_peer_length b) (λ i. rw (i, new_form_of_old b ok i)) (λ n. rw n)

-- a record of today is, exactly where it is a pin, or its peer, second field or a node's id has 2^32 or more
pub exactly_nineteen : (b : List ℕ) → Bytes b → (r : ℕ)
    → eqb (conversion_code peer_length old_peer_length b r) 19 ≡ (well_formed_by peer_length b && (eqb (rec_of_by peer_length b).kind (kind_byte Pin) || large (rec_of_by peer_length b)))
exactly_nineteen b ok r =
    let e : Rec = rec_of_by peer_length b in
    nineteen peer_length old_peer_length b r
    ∙ rw (same_record b) (split (well_formed_by peer_length b) (λ t. rw (t, old_form_of e (in_form_back peer_length b ok t)) (twice (eqb e.kind (kind_byte Pin) || large e))) (λ n. rw n))
  where
    twice : (a : Bool) → not (not a) ≡ a
    twice true = refl
    twice false = refl

-- ---- S-14: bytes that would be a pin in the old form are malformed

pub no_old_pin : (w : ℕ) (b : List ℕ) (r : ℕ) → (rec_of_by old_peer_length b).kind ≡ kind_byte Pin → get_or b 3 0 ≤ most_nodes → conversion_code old_peer_length w b r ≡ 3
unfolding conversion_code is_record kind_in_form choose
no_old_pin w b r k n =
    split (ltb (length b) (header_length_by old_peer_length)) (λ y. rw y) (λ m. rw (m, le-ltb most_nodes (get_or b 3 0) n, k, lost (well_formed_by old_peer_length b)))
  where
    lost : (a : Bool) → (a && false) ≡ false
    lost true = refl
    lost false = refl
