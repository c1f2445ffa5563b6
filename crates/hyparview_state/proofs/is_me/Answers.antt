-- The station's own number is the first word, unfolded.
use mathlib.Core.Path.{refl}
use Rattle.spec_hyparview.specs.Station.{is_me}
use Rattle.hyparview_state.specs.Unpack.{unpack, station_of}
use Rattle.hyparview_state.proofs.is_me.Goals as goal

pub returns : goal.returns
unfolding is_me unpack station_of
returns c = refl
