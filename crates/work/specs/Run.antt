-- One event is one run: the state, the draws used and the bytes written so far, and a code that is 0 while all is well.
-- Every step is a function from run to run that leaves a refused run alone, so the first refusal met stands.
-- Assumes nothing.
use Rattle.std.specs.Prelude.{ℕ, ◌+◌, Bool, List, [], ◌∷◌, ◌++◌, length, get_or, drop, leb, eqb}
use Rattle.std.proofs.Math.Option.{some}
use Rattle.base_lists.specs.Lists.{choose}
use Rattle.base_util.specs.Chances.{pick_draws, pick, shuffle, shuffle_draws}
use Rattle.base_peer.specs.Data.{Data, Node}
use Rattle.record.specs.Kinds.{Message, PeerData, kind_byte, output_byte}
use Rattle.record.specs.Format.{Rec, size, encode}

pub record Run (S : Type 0) : Type 0 where
  pub station : S
  -- the draws lent, and how many are used
  pub draws : List ℕ
  pub used : ℕ
  -- the bytes of output lent, and those written
  pub room : ℕ
  pub out : List ℕ
  pub code : ℕ

abbrev pub with_station : {S : Type 0} → S → Run S → Run S
with_station s r = record { station = s; draws = r.draws; used = r.used; room = r.room; out = r.out; code = r.code }

abbrev pub with_used : {S : Type 0} → ℕ → Run S → Run S
with_used n r = record { station = r.station; draws = r.draws; used = n; room = r.room; out = r.out; code = r.code }

abbrev pub with_out : {S : Type 0} → List ℕ → Run S → Run S
with_out o r = record { station = r.station; draws = r.draws; used = r.used; room = r.room; out = o; code = r.code }

abbrev pub with_code : {S : Type 0} → ℕ → Run S → Run S
with_code c r = record { station = r.station; draws = r.draws; used = r.used; room = r.room; out = r.out; code = c }

-- a refused run is left alone
unfoldable pub guard : {S : Type 0} → Run S → Run S → Run S
guard r after = choose (eqb r.code 0) after r

-- a change of the station
unfoldable pub on : {S : Type 0} → (S → S) → Run S → Run S
on f r = guard r (with_station (f r.station) r)

-- a record into the output; code 9: it does not fit
unfoldable pub emit : {S : Type 0} → Rec → Run S → Run S
emit e r = guard r (choose (leb (length r.out + size e) r.room) (with_out (r.out ++ encode e) r) (with_code 9 r))

-- n draws taken; code 5: there are not so many left
unfoldable pub draw : {S : Type 0} → ℕ → Run S → Run S
draw n r = guard r (choose (leb (r.used + n) (length r.draws)) (with_used (r.used + n) r) (with_code 5 r))

-- code c unless the test holds: 6, 7, 8 and 10, and of a pin 17 and 18
unfoldable pub require : {S : Type 0} → ℕ → Bool → Run S → Run S
require c b r = guard r (choose b r (with_code c r))

-- the next draw, which `draw 1` takes: a delay passes over none
unfoldable pub drawn : {S : Type 0} → Run S → ℕ
drawn r = get_or r.draws r.used 0

-- the draws that are left
unfoldable pub to_draw : {S : Type 0} → Run S → List ℕ
to_draw r = drop r.used r.draws

-- "One of n items": the place that the next draws decide, which `draw_one_of` takes
unfoldable pub one_of : {S : Type 0} → ℕ → Run S → ℕ
one_of n r = pick n (to_draw r)

unfoldable pub draw_one_of : {S : Type 0} → ℕ → Run S → Run S
draw_one_of n r = draw (pick_draws n (to_draw r)) r

-- the item at that place
unfoldable pub picked : {S : Type 0} → List ℕ → Run S → ℕ
picked xs r = get_or xs (one_of (length xs) r) 0

-- "Shuffle": the items in the order that the next draws decide, which `draw_shuffle` takes
unfoldable pub shuffled : {S : Type 0} → List ℕ → Run S → List ℕ
shuffled xs r = shuffle (to_draw r) xs

unfoldable pub draw_shuffle : {S : Type 0} → List ℕ → Run S → Run S
draw_shuffle xs r = draw (shuffle_draws (to_draw r) xs) r

-- a record for each of the peers, in order
unfoldable pub emit_all : {S : Type 0} → (ℕ → Rec) → List ℕ → Run S → Run S
emit_all f [] r = r
emit_all f (p ∷ ps) r = emit_all f ps (emit (f p) r)

-- The records of the output, after 01, "Records"

abbrev pub node : ℕ → Data → Node
node p d = record { id = p; data_of = d }

-- io.send: message m with its flags, origin, ttl and nodes
abbrev pub message : ℕ → ℕ → ℕ → ℕ → ℕ → List Node → Rec
message m to f o t ns = record { kind = kind_byte Message; message = m; flags = f; peer = to; second = o; ttl = t; number = 0; nodes = ns }

-- io.schedule: timer k, one of the four, after so many milliseconds
abbrev pub timer : ℕ → ℕ → ℕ → ℕ → Rec
timer k p delay n = record { kind = k; message = 0; flags = 0; peer = p; second = delay; ttl = 0; number = n; nodes = [] }

-- io.emit: NeighborUp or NeighborDown; by document 02, S-2, the peer that the passive view evicted
abbrev pub notice : ℕ → ℕ → Rec
notice k p = timer k p 0 0

-- a notice with a node
abbrev pub node_notice : ℕ → ℕ → Node → Rec
node_notice k p n = record { kind = k; message = 0; flags = 0; peer = p; second = 0; ttl = 0; number = 0; nodes = n ∷ [] }

-- io.peer_data
abbrev pub data_notice : ℕ → List ℕ → Rec
data_notice p b = node_notice (output_byte PeerData) p (node 0 (some b))

-- a flag as a number
unfoldable pub flag : Bool → ℕ
flag b = choose b 1 0
