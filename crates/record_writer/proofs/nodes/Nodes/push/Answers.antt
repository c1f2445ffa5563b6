-- The node is stored at the first unused place and the length grows, which puts it at the end.
use borrow.Author.Rules.{rules}
use Rattle.record_writer.specs.Nodes.{nodes_in}
use Rattle.record_writer.proofs.Laws.{stored, pushed}
use Rattle.record_writer.proofs.nodes.Nodes.push.Goals as goal

pub invariant_of-self : goal.invariant_of-self
invariant_of-self c = record { fits = search rules; packed = stored _ _ _ c.requires c.args.self.now.packed }

pub returns : goal.returns
unfolding nodes_in
returns c = pushed _ _ _ c.requires c.args.self.now.packed
