-- Laws of what a map has for a peer: the entries of data, and their test both ways.
-- Assumes nothing.
use Prim.Native.Nat.{ℕ}
use mathlib.Core.Path.{◌≡◌, refl, ap, ◌∙◌}
use mathlib.Core.Bool.{true}
use mathlib.Core.List.{List, [], ◌∷◌, map}
use native.Mathlib.Omega.{arith}
use borrow.Author.Tests.{eqb-true, leb-true, le-leb}
use lib.ListN.{length, take}
use lib.Seq.{length-take-le}
use lib.Dec.{leb}
use Rattle.base_lists.specs.Tests.{All}
use Rattle.base_lists.proofs.Choice.{and_left, and_right}
use Rattle.base_lists.proofs.Array.{length_pad}
use Rattle.base_lists.proofs.Tests.{both_true, packed_true, true_packed}
use Rattle.base_peer.specs.Held.{zero_byte}
use Rattle.base_peer.specs.Maps.{DataEntry, ValidEntry, valid_entry}

-- ---- numbers by peer

-- a number is its own value, and nothing is asked of it
abbrev pub itself : ℕ → ℕ
itself n = n

abbrev pub Any : ℕ → Type 0
Any n = Unit {0}

pub all_any : (l : List ℕ) → All Any l
unfolding All
all_any [] = tt
all_any (n ∷ l) = (tt, all_any l)

pub map_itself : (l : List ℕ) → map itself l ≡ l
map_itself [] = refl
map_itself (n ∷ l) = ap (λ (t : List ℕ). n ∷ t) (map_itself l)

-- ---- data by peer

pub valid_entry_true : (e : DataEntry) → valid_entry e ≡ true → ValidEntry e
unfolding valid_entry
valid_entry_true e t = record {
  fits = leb-true e.len 16 (and_left (leb e.len 16) _ t);
  packed = packed_true 0 zero_byte (λ x. eqb-true x 0) 16 e.len e.bytes (and_right (leb e.len 16) _ t);
}

pub true_valid_entry : (e : DataEntry) → ValidEntry e → valid_entry e ≡ true
unfolding valid_entry
true_valid_entry e v =
    both_true (leb e.len 16) _ (le-leb e.len 16 v.fits) (true_packed 0 zero_byte refl 16 e.len e.bytes v.packed)

-- what a read past the end of the array would give
abbrev pub unread : DataEntry
unread = record { len = 0; bytes = [] }

pub length_entry : (e : DataEntry) → ValidEntry e → length (take e.len e.bytes) ≡ e.len
length_entry e v =
    length-take-le e.len e.bytes (omega (arith, v.fits, ap length v.packed ∙ length_pad 0 16 (take e.len e.bytes)))
