-- Laws of peer data.
-- Assumes nothing.
use Prim.Native.Nat.{ℕ, zero, suc, ◌≤◌, ◌<◌, zero-le}
use mathlib.Core.Path.{◌≡◌, refl, sym, ap, ◌∙◌}
use mathlib.Core.HLevel.{is_prop→PathP}
use mathlib.Core.Bool.{Bool, true, false}
use mathlib.Core.List.{List, [], ◌∷◌, ◌++◌}
use mathlib.Core.Option.{none, some}
use native.Mathlib.Nat.{le_of_suc-le-suc, not-suc-le-zero}
use native.Mathlib.Omega.{arith}
use native.Mathlib.Bridge.{le_prop}
use denote.Struct.Props.{props}
use borrow.Author.Tests.{eqb-true, eq-eqb, leb-true, le-leb, lt-leb}
use lib.ListN.{length, take, drop, replicate}
use lib.Seq.{length-take-le}
use lib.Dec.{eqb, leb}
use Rattle.std.specs.Prelude.{Option, Some, None}
use Rattle.base_lists.specs.Lists.{choose}
use Rattle.base_lists.specs.Array.{pad}
use Rattle.base_lists.specs.Tests.{packed}
use Rattle.base_lists.proofs.Choice.{and_left, and_right, or_true, split, clash}
use Rattle.base_lists.proofs.Array.{length_pad, take_pad}
use Rattle.base_lists.proofs.Tests.{both_true, packed_true, true_packed}
use Rattle.base_peer.specs.Data.{Data, bytes_of}
use Rattle.base_peer.specs.Held.{data_in, taken, DataFields, fields_in, ValidData, HoldsData, valid_data, zero_byte}
use Rattle.base_peer.specs.declared.PeerData.{PeerData}

-- ---- what a `PeerData` stands for

pub length_bytes : (d : PeerData) → length (take d.len d.bytes) ≡ d.len
length_bytes d =
    length-take-le d.len d.bytes (omega (arith, d.fits, ap length d.packed ∙ length_pad 0 16 (take d.len d.bytes)))

pub short_bytes : (d : Option PeerData) → length (bytes_of (data_in d)) ≤ 16
unfolding data_in bytes_of
short_bytes None = zero-le
short_bytes (Some d) = omega (arith, length_bytes d, d.fits)

-- ---- the bytes that an array of 16 zeroes is stored with

filled_to : (n : ℕ) (b : List ℕ) → length b ≤ n → b ++ drop (length b) (replicate n 0) ≡ pad 0 n b
unfolding pad
filled_to zero [] h = refl
filled_to (suc n) [] h = ap (λ (l : List ℕ). 0 ∷ l) (filled_to n [] zero-le)
filled_to zero (x ∷ b) h = absurd (not-suc-le-zero h)
filled_to (suc n) (x ∷ b) h = ap (λ (l : List ℕ). x ∷ l) (filled_to n b (le_of_suc-le-suc h))

module _ (b bytes : List ℕ) (h : length b ≤ 16) (e : bytes ≡ b ++ drop (length b) (replicate 16 0)) where
  first : take (length b) bytes ≡ b
  first = ap (take (length b)) (e ∙ filled_to 16 b h) ∙ take_pad 0 16 b h

  pub packed_bytes : bytes ≡ pad 0 16 (take (length b) bytes)
  packed_bytes = e ∙ filled_to 16 b h ∙ ap (pad 0 16) (sym first)

  pub taken_bytes : some (take (length b) bytes) ≡ taken b
  unfolding taken choose
  taken_bytes = rw (le-leb (length b) 16 h) (ap some first)

pub not_taken : (b : List ℕ) → 16 < length b → none ≡ taken b
unfolding taken choose
not_taken b h = rw (lt-leb (length b) 16 h) refl

-- ---- what it stands for determines it

some_same : (d e : PeerData) → take d.len d.bytes ≡ take e.len e.bytes → d ≡ e
some_same d e b =
    let n : d.len ≡ e.len = sym (length_bytes d) ∙ ap length b ∙ length_bytes e in
    let a : ◌≡◌ {A = List ℕ} d.bytes e.bytes = d.packed ∙ ap (pad 0 16) b ∙ sym e.packed in
    λ i. record {
      len = n i;
      bytes = a i;
      fits = is_prop→PathP (λ j. n j ≤ 16) (λ j. le_prop) d.fits e.fits i;
      packed = is_prop→PathP (λ j. ◌≡◌ {A = List ℕ} (a j) (pad 0 16 (take (n j) (a j)))) (λ j. hlevel props) d.packed e.packed i;
    }

bytes_or : List ℕ → Data → List ℕ
bytes_or z none = z
bytes_or z (some b) = b

there : Data → Bool
there none = false
there (some b) = true

pub data_same : (d e : Option PeerData) → data_in d ≡ data_in e → d ≡ e
unfolding data_in there bytes_or
data_same None None q = refl
data_same None (Some e) q = clash false (ap there q) refl
data_same (Some d) None q = clash true refl (ap there q)
data_same (Some d) (Some e) q = ap Some (some_same d e (ap (bytes_or []) q))

-- ---- data as three fields

pub fields_present : (d : DataFields) → d.present ≡ true → fields_in d ≡ some (take d.len d.bytes)
unfolding fields_in choose
fields_present d e = rw e

pub fields_absent : (d : DataFields) → d.present ≡ false → fields_in d ≡ none
unfolding fields_in choose
fields_absent d e = rw e

pub length_field : (d : DataFields) → ValidData d → length (take d.len d.bytes) ≡ d.len
length_field d v =
    length-take-le d.len d.bytes (omega (arith, v.fits, ap length v.packed ∙ length_pad 0 16 (take d.len d.bytes)))

-- the bytes are the first of the array, absent or not
pub bytes_in : (d : DataFields) → ValidData d → bytes_of (fields_in d) ≡ take d.len d.bytes
unfolding bytes_of
bytes_in d v =
    split d.present (λ t. ap bytes_of (fields_present d t))
    (λ t. ap bytes_of (fields_absent d t) ∙ ap (λ (n : ℕ). take n d.bytes) (sym (v.absent t)))

-- the array that holds the bytes b
pub holds_some : (b bytes : List ℕ) (n : ℕ) → bytes ≡ pad 0 16 b → n ≡ length b → length b ≤ 16 → HoldsData (record { present = true; len = n; bytes = bytes }) (some b)
unfolding fields_in choose
holds_some b bytes n p q h =
    let t : take n bytes ≡ b = ap (λ (k : ℕ). take k bytes) q ∙ ap (take (length b)) p ∙ take_pad 0 16 b h in
    record {
      valid = record { fits = omega arith; packed = p ∙ ap (pad 0 16) (sym t); absent = λ e. absurd (let z : ◌≡◌ {A = ℕ} 0 1 = cc in omega arith) };
      holds = ap some t;
    }

-- the fields of data, or those of none
unfoldable pub fields_of : Option PeerData → DataFields
fields_of None = record { present = false; len = 0; bytes = replicate 16 0 }
fields_of (Some d) = record { present = true; len = d.len; bytes = d.bytes }

pub fields_hold : (d : Option PeerData) → HoldsData (fields_of d) (data_in d)
unfolding fields_of data_in fields_in choose pad
fields_hold None = record { valid = record { fits = zero-le; packed = refl; absent = λ e. refl }; holds = refl }
fields_hold (Some d) = record { valid = record { fits = d.fits; packed = d.packed; absent = λ e. clash true refl e }; holds = refl }

-- what the fields stand for determines them
there_in : (d : DataFields) → there (fields_in d) ≡ d.present
unfolding there
there_in d = split d.present (λ t. ap there (fields_present d t) ∙ sym t) (λ t. ap there (fields_absent d t) ∙ sym t)

pub fields_same : (d e : DataFields) (x : Data) → HoldsData d x → HoldsData e x → d ≡ e
fields_same d e x v w =
    let q : fields_in d ≡ fields_in e = v.holds ∙ sym w.holds in
    let p : d.present ≡ e.present = sym (there_in d) ∙ ap there q ∙ there_in e in
    let b : take d.len d.bytes ≡ take e.len e.bytes = sym (bytes_in d v.valid) ∙ ap bytes_of q ∙ bytes_in e w.valid in
    let n : d.len ≡ e.len = sym (length_field d v.valid) ∙ ap length b ∙ length_field e w.valid in
    let a : d.bytes ≡ e.bytes = v.valid.packed ∙ ap (pad 0 16) b ∙ sym w.valid.packed in
    λ i. record { present = p i; len = n i; bytes = a i }

-- ---- the test of the fields, both ways

pub valid_data_true : (d : DataFields) → valid_data d ≡ true → ValidData d
unfolding valid_data
valid_data_true d e =
    let r = and_right (leb d.len 16) _ e in
    record {
      fits = leb-true d.len 16 (and_left (leb d.len 16) _ e);
      packed = packed_true 0 zero_byte (λ x. eqb-true x 0) 16 d.len d.bytes (and_left (packed zero_byte 16 d.len d.bytes) _ r);
      absent = λ t. or_true d.present (eqb d.len 0) (and_right (packed zero_byte 16 d.len d.bytes) _ r) (λ f. clash d.present f t) (eqb-true d.len 0);
    }

pub true_valid_data : (d : DataFields) → ValidData d → valid_data d ≡ true
unfolding valid_data
true_valid_data d v =
    both_true (leb d.len 16) _ (le-leb d.len 16 v.fits)
    (both_true (packed zero_byte 16 d.len d.bytes) _ (true_packed 0 zero_byte refl 16 d.len d.bytes v.packed)
    (split d.present (λ t. rw t) (λ t. rw t (eq-eqb d.len 0 (v.absent t)))))
