-- The bits of all words together are none where each word is zero.
use Prim.Native.Nat.{◌-◌}
use mathlib.Core.Path.{◌≡◌, ap, ◌∙◌}
use lib.ListN.{take, drop}
use lib.Bits.{bit_or}
use lib.Dec.{eqb}
use borrow.Author.Rules.{rules}
use Rattle.std.specs.Prelude.{fold}
use Rattle.base_lists.specs.Tests.{every}
use Rattle.base_lists.proofs.Bits.{all_bits}
use Rattle.base_scan.specs.Words.{unused}
use Rattle.base_util.proofs.Parts.{slice_lent}
use Rattle.base_util.proofs.zero_from.Goals as goal

pub returns : goal.returns
returns c =
    let l = slice_lent c.args.from c.args.end c.args.s.now c.requires.from_le_end c.requires.end_in_bounds in
    let f : c.fold.result ≡ fold bit_or 0 (take (c.args.end - c.args.from) (drop c.args.from c.args.s.now)) = search rules in
    ap (λ (b : _). eqb b 0) f ∙ all_bits 0 _ ∙ ap (every unused) l
