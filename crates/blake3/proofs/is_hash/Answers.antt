-- `is_hash` meets its contract: the numbers are equal just where the bytes are, and bytes of another length are no hash.
use borrow.Author.Rules.{rules}
use Prim.Native.Nat.{ℕ}
use mathlib.Core.Bool.{Bool}
use mathlib.Core.Path.{◌≡◌, sym, ◌∙◌}
use mathlib.Core.List.{List}
use native.Mathlib.Omega.{arith}
use lib.Dec.{eqb}
use lib.ListN.{length}
use lib.Pointwise.{pointwise}
use Rattle.base_lists.specs.Lists.{same}
use Rattle.base_lists.proofs.Numbers.{Bytes}
use Rattle.blake3.specs.Blake3.{out_length, hash, quarters}
use Rattle.blake3.proofs.Compare.{pointwise_same, same_tests, other_length}
use Rattle.blake3.proofs.is_hash.Goals as goal

tested : (l b n h : List ℕ) (r : Bool) → Bytes l → length l ≡ out_length → r ≡ pointwise eqb n h → h ≡ quarters (hash b) → n ≡ quarters l → r ≡ same l (hash b)
tested l b n h r p w er eh en = er ∙ pointwise_same n h ∙ (λ k. same (en k) (eh k)) ∙ same_tests l b p w

pub returns-then-id-eq-OUT_LEN : goal.returns-then-id-eq-OUT_LEN
returns-then-id-eq-OUT_LEN c =
    tested _ _ _ _ _ (λ k. omega (arith, c.type_inv.id k)) (search rules) c.eq.ensures c.hash.ensures c.read_quarters.ensures

pub returns : goal.returns
returns c = sym (other_length _ _ (search rules))
