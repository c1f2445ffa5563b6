-- Document 01, "Codes", with S-12's and S-14's of document 02: the code of each refusal.
-- Assumes nothing.
use Rattle.std.specs.Prelude.{ℕ}
use Rattle.record.specs.declared.Refusal.{Refusal}
use Rattle.record.specs.declared.Refusal.TheVariants.{Settings, State, Malformed, Nodes, Draws, Requests, RefusedPeers, Data, Output, Counter, RadioNodes, PinStranger, PinLimit, NoOtherForm}

abbrev pub refusal_code : Refusal → ℕ
refusal_code Settings = 1
refusal_code State = 2
refusal_code Malformed = 3
refusal_code Nodes = 4
refusal_code Draws = 5
refusal_code Requests = 6
refusal_code RefusedPeers = 7
refusal_code Data = 8
refusal_code Output = 9
refusal_code Counter = 10
refusal_code RadioNodes = 16
refusal_code PinStranger = 17
refusal_code PinLimit = 18
refusal_code NoOtherForm = 19
