-- How many bytes a step may write, as sums of a few units: other widths of a record change the units alone. `Ok` (Invariant) counts by them.
-- Assumes nothing.
use Rattle.std.specs.Prelude.{ℕ, ◌+◌, ◌*◌}
use Rattle.record.specs.Format.{most_nodes, header_length, node_length}

-- The units

-- a record without nodes
abbrev pub bare : ℕ
bare = header_length

-- a node with the 16 bytes of data that it may have
abbrev pub full_node : ℕ
full_node = node_length + 16

-- a record of one node: Join, ForwardJoin, Neighbor, peer data
abbrev pub single : ℕ
single = bare + full_node

-- a Shuffle or a ShuffleReply of the most nodes
abbrev pub crowd : ℕ
crowd = bare + most_nodes * full_node

-- The steps that others are made of

-- `add_passive`: the newcomer's data, and who was evicted
abbrev pub adding : ℕ
adding = single + bare

-- `send_neighbor`: a Neighbor and its timer
abbrev pub asking : ℕ
asking = single + bare

-- `send_disconnect`: a ShuffleReply and a Disconnect
abbrev pub disconnecting : ℕ
disconnecting = crowd + bare

-- `remove_active_by_index` of a peer that knows it is dropped: a notice and a demotion
abbrev pub leaving : ℕ
leaving = bare + adding

-- `remove_active`: that, and a request to another
abbrev pub removing : ℕ
removing = leaving + asking

-- `free_random_slot_in_active_view`: a notice, a Disconnect, a demotion
abbrev pub freeing : ℕ
freeing = bare + disconnecting + adding

-- `add_active_unchecked`: a notice and a reply
abbrev pub entering : ℕ
entering = bare + asking

-- `add_active` at a full view before the peer enters: its data, and a place for it
abbrev pub arriving : ℕ
arriving = single + freeing

-- `add_active`
abbrev pub admitting : ℕ
admitting = arriving + entering
