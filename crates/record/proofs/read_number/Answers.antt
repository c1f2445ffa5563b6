-- The bytes from place i on are read, into a number that as many bytes hold.
use Prim.Native.Nat.{ℕ, suc, ◌+◌, ◌*◌, ◌-◌, ◌^◌, ◌≤◌, ◌<◌}
use mathlib.Core.Path.{◌≡◌, refl, ap, ◌∙◌}
use mathlib.Core.List.{List}
use native.Mathlib.Nat.{pow-suc, pow-le-pow_right}
use native.Mathlib.Omega.{arith}
use lib.ListN.{get_or}
use Rattle.base_lists.specs.Bytes.{read_le}
use Rattle.record.proofs.read_number.Invariants.{Inv}
use Rattle.record.proofs.read_number.Goals as goal

start : (b : List ℕ) (at k : ℕ) → Inv b at k 0 (at + k)
unfolding read_le
start b at k =
    let z : at + k - (at + k) ≡ 0 = omega arith in
    record { low = omega arith; high = omega arith; small = rw z (omega arith); same = rw z refl }

module _ (b : List ℕ) (at k r i : ℕ) (v : Inv b at k r i) where
  most : k ≤ 8 → at < i → r < 72057594037927936
  most t h =
      let s : at + k - i ≤ 7 = omega arith in
      let p : 0 < 256 = omega arith in
      let m : 256 ^ (at + k - i) ≤ 256 ^ 7 = pow-le-pow_right p s in
      omega (arith, v.small, m)

  next : at < i → get_or b (i - 1) 0 < 256 → Inv b at k (get_or b (i - 1) 0 + 256 * r) (i - 1)
  unfolding read_le
  next h s =
      let q : at + k - (i - 1) ≡ suc (at + k - i) = omega (arith, v.high) in
      let p : i ≡ suc (i - 1) = omega arith in
      record {
        low = omega arith;
        high = omega (arith, v.high);
        small = rw (q, pow-suc) (omega (arith, v.small));
        same = rw q (ap (λ (x : ℕ). get_or b (i - 1) 0 + 256 * x) (v.same ∙ ap (read_le (at + k - i) b) p));
      }

  end : i ≤ at → (r ≡ read_le k b at) × (r < 256 ^ k)
  end h =
      let q : i ≡ at = omega (arith, v.low) in
      let p : at + k - i ≡ k = omega arith in
      (v.same ∙ rw (p, q), rw p at v.small)

pub loop-i-init : goal.loop-i-init
loop-i-init c = start _ _ _

pub overflow_mul-r : goal.overflow_mul-r
overflow_mul-r c = omega (arith, most _ _ _ _ _ c.loop-i.invariant c.requires.k_bound c.loop-i-test.true)

pub overflow_add-r : goal.overflow_add-r
overflow_add-r c =
    omega
    (arith, most _ _ _ _ _ c.loop-i.invariant c.requires.k_bound c.loop-i-test.true, c.type_inv.b (c.loop-i.i - 1))

pub loop-i-preserved : goal.loop-i-preserved
loop-i-preserved c =
    next _ _ _ _ _ c.loop-i.invariant c.loop-i-test.true (c.type_inv.b (c.loop-i.i - 1)).fits

pub returns : goal.returns
returns c = end _ _ _ _ _ c.loop-i.invariant c.loop-i-test.false
