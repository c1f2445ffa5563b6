-- The bits of all words together are none where each word is zero.
use Prim.Native.Nat.{◌-◌}
use mathlib.Core.Path.{◌≡◌, ap, ◌∙◌}
use lib.ListN.{length, take, drop}
use lib.Bits.{bit_or}
use lib.Dec.{eqb}
use borrow.Author.Rules.{rules}
use Rattle.std.proofs.Common.{arith}
use Rattle.std.proofs.Math.Seq.{take_all}
use Rattle.std.proofs.lemmas.List.{length-drop}
use Rattle.std.specs.Prelude.{fold}
use Rattle.base_lists.specs.Tests.{every}
use Rattle.base_lists.proofs.Bits.{all_bits}
use Rattle.timer_map.specs.Words.{unused_word}
use Rattle.timer_map.proofs.unused_from.Goals as goal

pub returns : goal.returns
returns c =
    let l = drop c.args.from c.args.q.now in
    let n = length c.args.q.now - c.args.from in
    let bits : c.fold.result ≡ fold bit_or 0 (take n l) = search rules in
    let whole : take n l ≡ l = take_all n l (omega (arith, length-drop c.args.from c.args.q.now)) in
    ap (λ (b : _). eqb b 0) bits ∙ all_bits 0 (take n l) ∙ ap (every unused_word) whole
