-- `rounds` meets its contract: a turn takes one round off those to come.
use Prim.Native.Nat.{◌-◌}
use mathlib.Core.Path.{◌≡◌}
use Rattle.blake3.specs.Blake3.{rounds}
use Rattle.blake3.proofs.rounds.Given as goal

abbrev pub invariant-loop-turn : goal.invariant-loop-turn
invariant-loop-turn l = rounds 7 l.initial.m l.initial.v ≡ rounds (7 - l._turn) l.m l.v
