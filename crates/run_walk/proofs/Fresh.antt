-- A new station without own data.
-- Assumes nothing.
use Prim.Native.Nat.{ℕ}
use mathlib.Core.Path.{◌≡◌, refl, ap, ◌∙◌}
use mathlib.Core.Bool.{false}
use mathlib.Core.List.{List}
use mathlib.Core.Option.{none}
use Rattle.base_lists.specs.Lists.{choose}
use Rattle.base_timing.specs.declared.Config.{Config}
use Rattle.base_peer.specs.Data.{Data}
use Rattle.spec_hyparview.specs.Handle.{new}
use Rattle.hyparview.specs.Made.{MadeWords, lent, pack_made}

no_data : (own : List ℕ) → lent false own ≡ none
unfolding lent choose
no_data own = refl

pub made_bare : (me : ℕ) (config : Config) (m : MadeWords) (own : List ℕ) → m ≡ pack_made (new me (lent false own) config) → m ≡ pack_made (new me none config)
made_bare me config m own e = e ∙ ap (λ (d : Data). pack_made (new me d config)) (no_data own)
