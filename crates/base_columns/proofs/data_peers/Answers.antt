-- Three appends to a cleared set: before each one the places left suffice by the counts, and the items join in that order.
use Rattle.base_columns.proofs.Kept.{room_active, room_passive, room_asked, peers_known}
use Rattle.base_columns.proofs.data_peers.Goals as goal

pub append-requires-clause-more_len_bound : goal.append-requires-clause-more_len_bound
append-requires-clause-more_len_bound c = search room_active

pub append-requires-2-clause-more_len_bound : goal.append-requires-2-clause-more_len_bound
append-requires-2-clause-more_len_bound c = search room_passive

pub append-requires-3-clause-more_len_bound : goal.append-requires-3-clause-more_len_bound
append-requires-3-clause-more_len_bound c = search room_asked

pub returns : goal.returns
returns c = search peers_known
