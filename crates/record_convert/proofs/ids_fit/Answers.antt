-- What `all` says of the numbers from 0 to n is the definition of the ids of the nodes there.
use Prim.Native.Nat.{ℕ, zero, suc, ◌+◌, ◌^◌}
use mathlib.Core.Path.{◌≡◌, refl, ap, ◌∙◌}
use mathlib.Core.Bool.{Bool, ◌&&◌}
use mathlib.Core.List.{List}
use native.Mathlib.Numerals.{add-one}
use native.Mathlib.Omega.{arith}
use borrow.Author.Rules.{rules}
use Rattle.std.proofs.Common.{tests}
use lib.Dec.{ltb}
use Rattle.std.specs.List.{list_all, range_with_len}
use Rattle.std.proofs.lemmas.Iterator.{YieldsList-from_range}
use Rattle.std.proofs.lemmas.Iterator.Search.{all_from_yields_List}
use Rattle.base_lists.specs.Tests.{every}
use Rattle.record.specs.Forms.{form_width}
use Rattle.record.specs.Read.{entry_at_by, node_at_by, nodes_of_by}
use Rattle.record_convert.specs.Convert.{ids_fit}
use Rattle.record_convert.proofs.ids_fit.Goals as goal

abbrev one_fits : ℕ → ℕ → List ℕ → ℕ → Bool
one_fits v w b i = ltb (entry_at_by v b i).id (256 ^ w)

all_fit : (v w : ℕ) (b : List ℕ) (n i : ℕ) → list_all (one_fits v w b) (range_with_len i n) ≡ ids_fit w (nodes_of_by v b i n)
unfolding ids_fit every nodes_of_by node_at_by
all_fit v w b zero i = refl
all_fit v w b (suc n) i = ap (λ (t : Bool). one_fits v w b i && t) (all_fit v w b n (i + 1) ∙ ap (λ (k : ℕ). ids_fit w (nodes_of_by v b k n)) (add-one i))

pub returns : goal.returns
returns c =
    all_from_yields_List (one_fits (form_width c.args.from) (form_width c.args.to) c.args.b.now) _ _ _ c.all.ensures.ran (YieldsList-from_range 0 c.args.n c.args.n refl (omega arith)) (λ x b q k. search (rules, tests))
    ∙ all_fit _ _ _ _ 0
