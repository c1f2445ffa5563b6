-- The sixteen events differ, so each history of them stands in the list exactly one time and in its order: by evaluating their records.
-- Assumes nothing.
use mathlib.Core.Path.{◌≡◌, refl}
use mathlib.Core.Bool.{true}
use lib.ListN.{length}
use Rattle.base_lists.specs.Bytes.{le}
use Rattle.base_lists.specs.Lists.{choose, same}
use Rattle.base_peer.specs.Data.{bytes_of}
use Rattle.record.specs.Format.{present, offset, entry_by, entries_by, datas, size_by, header_by, encode_by}
use Rattle.spec_stories.specs.Histories.{History, among, differ, is_history, times, before, ordered}
use Rattle.spec_stories.proofs.Once.{exactly_once, how_many as histories-in-all}
use Rattle.spec_stories.proofs.Order.{in_order}
use Rattle.endings.specs.Events.{of_peer, events, event_records}
use Rattle.endings.specs.Ends.{events_in_all, longest_history, all_histories}

pub sixteen : length event_records ≡ events_in_all
unfolding event_records events of_peer
sixteen = refl

pub all_differ : differ event_records ≡ true
unfolding event_records events of_peer encode_by header_by entries_by entry_by datas size_by bytes_of offset present le among differ same
all_differ = refl

-- "Each is proved to appear exactly one time", and nothing else does: of lists of records
pub appears_once : (h : History) → times h all_histories ≡ choose (is_history event_records longest_history h) 1 0
unfolding all_histories
appears_once h = exactly_once event_records all_differ longest_history h

-- "shorter first, then by the order of events"
pub listed_in_order : ordered (before event_records) all_histories ≡ true
unfolding all_histories
listed_in_order = in_order event_records all_differ longest_history

-- "69,905 in all"
pub listed_in_all : length all_histories ≡ 69905
unfolding all_histories
listed_in_all = histories-in-all event_records sixteen
