-- The contracts of the program's `new` and `handle`, lent the words and by value, are the definitions that the claims speak of, and ask nothing of the caller: one that said less, or asked more, would not be admitted here.
-- Assumes nothing.
use Prim.Native.Nat.{ℕ}
use mathlib.Core.Path.{◌≡◌, refl, ap}
use mathlib.Core.Bool.{Bool}
use seplogic.Ra.Ura.{Ura}
use base.Logic.{SProp, ent}
use prog.Memory.{Memory}
use prog.Routine.{Routine}
use types.Logic.{Logic}
use contract.Lifetimes.{Lfts}
use contract.Monad.{Fun, fact, fact_mono}
use contract.Notation.{connectives}
use Rattle.base_lists.specs.Lent.{Slice, MutSlice}
use Rattle.base_timing.specs.declared.Config.{Config}
use Rattle.spec_hyparview.specs.Sides.{side_of}
use Rattle.hyparview.specs.Made.{MadeWords}
use Rattle.hyparview.specs.declared.Done.{Done}
use Rattle.hyparview.specs.declared.State.{State}
use Rattle.hyparview.specs.declared.MadeState.{MadeState}
use Rattle.hyparview.specs.declared.HandledState.{HandledState}
use Rattle.hyparview.specs.contracts.new as new
use Rattle.hyparview.specs.contracts.handle_from as handle
use Rattle.hyparview.specs.contracts.State.new as value-new
use Rattle.hyparview.specs.contracts.State.handle_from as value-handle
use Rattle.spec_demand.specs.Program.{program_made, program_outcome, made_state}

module _ {M : Type 1} {𝓤 : Ura M} (𝓛 : Logic 𝓤) (at_mem : Memory → SProp 𝓤) (run : Routine → Fun 𝓤) where
  module _ (κs : Lfts 2) (s : MutSlice) (me : ℕ) (present : Bool) (own : Slice) (c : Config) where
    pub new_asks : (new.clauses 𝓛 at_mem run κs (s, (me, (present, (own, (c, tt)))))).requires tt ≡ (connectives 𝓤).⊤ₛ
    new_asks = refl

    pub new_says : (s' : MutSlice) (own' : Slice) (code : ℕ)
        → (new.clauses 𝓛 at_mem run κs (s, (me, (present, (own, (c, tt)))))).ensures tt code (s', (me, (present, (own', (c, tt)))))
        ≡ fact 𝓤 (record { code = code; words = s'.now } ≡ program_made s.now me present own.now c)
    unfolding program_made
    new_says s' own' code = refl

  module _ (κs : Lfts 4) (s : MutSlice) (radio : Bool) (e d : Slice) (o : MutSlice) where
    pub handle_asks : (handle.clauses 𝓛 at_mem run κs (s, (radio, (e, (d, (o, tt)))))).requires tt ≡ (connectives 𝓤).⊤ₛ
    handle_asks = refl

    pub handle_says : (s' : MutSlice) (e' d' : Slice) (o' : MutSlice) (r : Done)
        → (handle.clauses 𝓛 at_mem run κs (s, (radio, (e, (d, (o, tt)))))).ensures tt r (s', (radio, (e', (d', (o', tt)))))
        ≡ fact 𝓤 (record { code = r.code; draws = r.draws; words = s'.now; output = o'.now } ≡ program_outcome (side_of radio) e.now d.now o.now s.now)
    unfolding program_outcome
    handle_says s' e' d' o' r = refl

  -- ---- by value

  module _ (κs : Lfts 1) (me : ℕ) (present : Bool) (own : Slice) (c : Config) where
    pub value_new_asks : (value-new.clauses 𝓛 at_mem run κs (me, (present, (own, (c, tt))))).requires tt ≡ (connectives 𝓤).⊤ₛ
    value_new_asks = refl

    -- the contract has code and words beside each other, and from it follows what is handed back
    pub value_new_says : (own' : Slice) (r : MadeState)
        → ent 𝓤 ((value-new.clauses 𝓛 at_mem run κs (me, (present, (own, (c, tt))))).ensures tt r (me, (present, (own', (c, tt))))) (fact 𝓤 (r ≡ made_state me present own.now c))
    unfolding made_state
    value_new_says own' r = fact_mono 𝓤 _ _ (ap (λ (m : MadeWords). record { code = m.code; state = record { words = m.words } }))

  module _ (κs : Lfts 3) (s : State) (radio : Bool) (e d : Slice) (o : MutSlice) where
    pub value_handle_asks : (value-handle.clauses 𝓛 at_mem run κs (s, (radio, (e, (d, (o, tt)))))).requires tt ≡ (connectives 𝓤).⊤ₛ
    value_handle_asks = refl

    pub value_handle_says : (e' d' : Slice) (o' : MutSlice) (r : HandledState)
        → (value-handle.clauses 𝓛 at_mem run κs (s, (radio, (e, (d, (o, tt)))))).ensures tt r (s, (radio, (e', (d', (o', tt)))))
        ≡ fact 𝓤 (record { code = r.code; draws = r.draws; words = r.state.words; output = o'.now } ≡ program_outcome (side_of radio) e.now d.now o.now s.words)
    unfolding program_outcome
    value_handle_says e' d' o' r = refl
