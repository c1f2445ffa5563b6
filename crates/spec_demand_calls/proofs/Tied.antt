-- The contracts of `hyparview_new` and `hyparview_handle`, which the exported functions have too (controller_c/proofs/Tied), are the definitions that the claims over C calls speak of, and ask nothing of the caller: one that said less, or asked more, would not be admitted here.
-- Assumes nothing.
use mathlib.Core.Path.{◌≡◌, refl}
use Prim.Native.Nat.{ℕ}
use mathlib.Core.Bool.{Bool}
use seplogic.Ra.Ura.{Ura}
use base.Logic.{SProp}
use prog.Memory.{Memory}
use prog.Routine.{Routine}
use types.Logic.{Logic}
use contract.Lifetimes.{Lfts}
use contract.Monad.{Fun, fact}
use contract.Notation.{connectives}
use Rattle.std.specs.Borrow.{MutBor}
use Rattle.base_lists.specs.Lent.{Slice, MutSlice}
use Rattle.base_timing.specs.declared.Config.{Config}
use Rattle.spec_hyparview.specs.Sides.{side_of}
use Rattle.tally.specs.declared.Tally.{Tally}
use Rattle.hyparview.specs.declared.Done.{Done}
use Rattle.controller.specs.contracts.hyparview_new as new
use Rattle.controller.specs.contracts.hyparview_handle as handle
use Rattle.spec_demand_calls.specs.Memory.{LentMemory, memory_made, memory_outcome}

-- what the references to words and tally show
abbrev held : MutSlice → MutBor Tally → LentMemory
held s t = record { words = s.now; tally = t.now }

module _ {M : Type 1} {𝓤 : Ura M} (𝓛 : Logic 𝓤) (at_mem : Memory → SProp 𝓤) (run : Routine → Fun 𝓤) where
  module _ (κs : Lfts 3) (s : MutSlice) (t : MutBor Tally) (me present : ℕ) (own : Slice) (c : Config) where
    pub new_asks : (new.clauses 𝓛 at_mem run κs (s, (t, (me, (present, (own, (c, tt))))))).requires tt ≡ (connectives 𝓤).⊤ₛ
    new_asks = refl

    pub new_says : (s' : MutSlice) (t' : MutBor Tally) (own' : Slice) (code : ℕ)
        → (new.clauses 𝓛 at_mem run κs (s, (t, (me, (present, (own, (c, tt))))))).ensures tt code (s', (t', (me, (present, (own', (c, tt))))))
        ≡ fact 𝓤 (record { code = code; words = s'.now; tally = t'.now } ≡ memory_made (held s t) me present own.now c)
    unfolding memory_made
    new_says s' t' own' code = refl

  module _ (κs : Lfts 5) (s : MutSlice) (t : MutBor Tally) (radio : Bool) (e d : Slice) (o : MutSlice) where
    pub handle_asks : (handle.clauses 𝓛 at_mem run κs (s, (t, (radio, (e, (d, (o, tt))))))).requires tt ≡ (connectives 𝓤).⊤ₛ
    handle_asks = refl

    pub handle_says : (s' : MutSlice) (t' : MutBor Tally) (e' d' : Slice) (o' : MutSlice) (r : Done)
        → (handle.clauses 𝓛 at_mem run κs (s, (t, (radio, (e, (d, (o, tt))))))).ensures tt r (s', (t', (radio, (e', (d', (o', tt))))))
        ≡ fact 𝓤 (record { code = r.code; draws = r.draws; words = s'.now; tally = t'.now; output = o'.now } ≡ memory_outcome (side_of radio) e.now d.now o.now (held s t))
    unfolding memory_outcome
    handle_says s' t' e' d' o' r = refl
