-- By cases: work with a code, no data declined, so nothing goes, and else the data kept is that of the peers known.
use Rattle.base_util.specs.Section.{part}
use Rattle.spec_hyparview.specs.Station.{data_peers}
use Rattle.spec_hyparview.specs.Handle.{forget_declined}
use Rattle.hyparview_state.specs.Unpack.{unpack, station_of}
use Rattle.hyparview_state.proofs.Access.{of_packed, of_active, of_passive, of_requests, of_peer_data}
use Rattle.hyparview_state.proofs.Bridge.{on_passed, on_done}
use Rattle.hyparview_state.proofs.Fields.{put_peer_data}
use borrow.Author.Rules.{rules}
use Rattle.step_peers.proofs.Declined.{none_declined, retained}
use Rattle.step_peers.proofs.forget_declined.Goals as goal

pub returns-then-w-ne0 : goal.returns-then-w-ne0
returns-then-w-ne0 c = search on_passed

pub data_known-requires : goal.data_known-requires
unfolding part
data_known-requires c =
    let p = c.requires.packed_state in record {
      valid_data_words = of_peer_data _ p;
      valid_set = of_active _ p;
      valid_set_2 = of_passive _ p;
      valid_numbers = of_requests _ p;
    }

pub returns-then-data_known : goal.returns-then-data_known
unfolding data_peers unpack station_of part
returns-then-data_known c = on_done _ (search rules) _ _ (search rules) (search none_declined)

pub data_peers-requires : goal.data_peers-requires
unfolding part
data_peers-requires c =
    let p = c.requires.packed_state in record {
      valid_set = of_active _ p;
      valid_set_2 = of_passive _ p;
      valid_numbers = of_requests _ p;
      v_len = search rules;
    }

pub retain_data-requires-clause-valid_data_words : goal.retain_data-requires-clause-valid_data_words
unfolding part
retain_data-requires-clause-valid_data_words c = search (of_packed, rules)

pub returns : goal.returns
unfolding forget_declined data_peers unpack station_of part
returns c = on_done _ (search rules) _ _ (search rules) (put_peer_data (retained _ _ _ _ c.retain_data.ensures (search rules)))
