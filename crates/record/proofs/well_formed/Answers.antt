-- What remains: the entries from i on, whose data stand from `at` on.
use Prim.Native.Nat.{ℕ, suc, ◌+◌, ◌-◌, ◌≤◌, ◌<◌}
use mathlib.Core.Path.{◌≡◌, refl, sym, ap, ◌∙◌}
use mathlib.Core.Bool.{Bool, true, false, ◌&&◌}
use mathlib.Core.List.{List}
use native.Mathlib.Nat.{mul-le-mul_left}
use native.Mathlib.Numerals.{add-one}
use native.Mathlib.Omega.{arith}
use borrow.Author.Tests.{le-leb, lt-leb, leb-true, leb-false}
use borrow.Author.Rules.{rules}
use lib.ListN.{length}
use lib.Dec.{eqb, leb}
use Rattle.base_lists.proofs.Choice.{and_left, and_right}
use Rattle.record.specs.Format.{header_length_by, node_length_by, place_by}
use Rattle.record.specs.Read.{header_of_by, header_ok, entry_from, entry_at_by, entry_ok, entries_ok_by, well_formed_by}
use Rattle.record.specs.declared.Header.{Header}
use Rattle.record.specs.declared.Entry.{Entry}
use Rattle.record.proofs.Laws.{entries_short}
use Rattle.record.proofs.well_formed.Invariants.{Inv}
use Rattle.record.proofs.well_formed.Goals as goal

-- the first entry stands right behind the header
first_place : (w p : ℕ) → p ≡ place_by w 0 → p ≡ header_length_by w
first_place w p e = e ∙ omega arith

long : (w : ℕ) (b : List ℕ) (p : ℕ) → p ≡ place_by w 0 → p ≤ length b → header_length_by w ≤ length b
long w b p e l = omega (arith, first_place w p e)

short : (w : ℕ) (b : List ℕ) (p : ℕ) → p ≡ place_by w 0 → length b < p → false ≡ well_formed_by w b
unfolding well_formed_by
short w b p e l = let h : length b < header_length_by w = omega (arith, first_place w p e) in rw (lt-leb _ _ h)

-- where the last of three tests fails, what takes its place fails too
instead : (r s t e : Bool) → (t ≡ false → e ≡ false) → (r && s && t) ≡ false → false ≡ (r && (s && e))
instead false s t e k z = refl
instead true false t e k z = refl
instead true true t e k z = sym (k z)

module _ (w : ℕ) (b : List ℕ) (h : Header) (r : Bool) (at : ℕ) (l : header_length_by w ≤ length b) (p : h ≡ header_of_by w b) (q : r ≡ header_ok h) (e : at ≡ place_by w h.nodes) where
  whole : well_formed_by w b ≡ (r && (eqb h.size (length b) && entries_ok_by w h b 0 h.nodes at))
  unfolding well_formed_by
  whole = rw (q, e, p, le-leb _ _ l)

  unsound : (r && eqb h.size (length b) && leb at (length b)) ≡ false → false ≡ well_formed_by w b
  unsound z = instead r (eqb h.size (length b)) (leb at (length b)) (entries_ok_by w h b 0 h.nodes at) (λ n. entries_short w h b 0 h.nodes at (leb-false _ _ n)) z ∙ sym whole

  start : at ≤ 3092 → h.nodes ≤ 255 → (r && eqb h.size (length b) && leb at (length b)) ≡ true → Inv w b h.nodes at 0
  start s f t =
      let fits : at ≤ length b = leb-true at (length b) (and_right (r && eqb h.size (length b)) (leb at (length b)) t) in
      let first = and_left (r && eqb h.size (length b)) (leb at (length b)) t in
      record {
        few = f;
        room = omega (arith, e, fits);
        small = omega arith;
        same = λ left k. let n : left ≡ h.nodes = omega arith in
            whole ∙ rw (n, and_left r (eqb h.size (length b)) first, and_right r (eqb h.size (length b)) first, p);
      }

module _ (w : ℕ) (b : List ℕ) (n at i : ℕ) (v : Inv w b n at i) where
  entry-fits : (p : ℕ) → p ≡ place_by w i → i < n → p + node_length_by w ≤ length b
  entry-fits p a l = omega (arith, a, v.room, mul-le-mul_left (node_length_by w) l)

  module _ (h : Header) (p : ℕ) (e : Entry) (x : Bool) (z : h ≡ header_of_by w b) (a : p ≡ place_by w i) (q : e ≡ entry_from w b p) (o : x ≡ entry_ok h e at) where
    there : e ≡ entry_at_by w b i
    unfolding entry_at_by
    there = q ∙ ap (entry_from w b) a

    test : entry_ok (header_of_by w b) (entry_at_by w b i) at ≡ x
    test = sym (o ∙ rw (z, there) refl)

    next : i < n → e.len ≤ 255 → x ≡ true → Inv w b n (at + e.len) (i + 1)
    unfolding entries_ok_by
    next l s y = record {
      few = v.few;
      room = v.room;
      small = omega (arith, v.small);
      same = λ left k. v.same (suc left) (omega arith) ∙ rw (test, y, ← there, add-one i);
    }

    bad : i < n → x ≡ false → false ≡ well_formed_by w b
    unfolding entries_ok_by
    bad l y = sym (v.same (suc (n - suc i)) (omega arith) ∙ rw (test, y))

  end : i ≡ n → eqb at (length b) ≡ well_formed_by w b
  unfolding entries_ok_by
  end l = sym (v.same 0 (omega (arith, l)))

pub returns-then-b-place : goal.returns-then-b-place
returns-then-b-place c = search short

pub returns-then-not-is_ok-h : goal.returns-then-not-is_ok-h
returns-then-not-is_ok-h c =
    unsound _ _ _ _ _ (long _ c.args.b.now _ c.place.ensures.0 c.if-b-place.false) c.read_header_by-h.ensures c.is_ok.ensures c.place-at.ensures.0 c.if-not-is_ok-h.true

pub loop-i-init : goal.loop-i-init
loop-i-init c =
    start _ _ _ _ _ (long _ c.args.b.now _ c.place.ensures.0 c.if-b-place.false) c.read_header_by-h.ensures c.is_ok.ensures c.place-at.ensures.0 c.place-at.ensures.1 (search rules) c.if-not-is_ok-h.false

pub returns-then-not-entry_ok : goal.returns-then-not-entry_ok
returns-then-not-entry_ok c =
    bad _ _ _ _ _ c.loop-i.invariant _ _ _ _ c.read_header_by-h.ensures c.place-in-loop-i.ensures.0 c.read_entry-e.ensures c.entry_ok.ensures c.loop-i-test.true c.if-not-entry_ok.true

pub loop-i-preserved : goal.loop-i-preserved
loop-i-preserved c =
    next _ _ _ _ _ c.loop-i.invariant _ _ _ _ c.read_header_by-h.ensures c.place-in-loop-i.ensures.0 c.read_entry-e.ensures c.entry_ok.ensures c.loop-i-test.true (search rules) c.if-not-entry_ok.false

pub returns : goal.returns
returns c = end _ _ _ _ _ c.loop-i.invariant (search rules)
