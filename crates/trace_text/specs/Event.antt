-- The text of an event: its output records, its code with the draws used, and the state that it led to.
-- Assumes nothing.
use Rattle.std.specs.Prelude.{ℕ, List, ◌++◌}
use Rattle.std.proofs.Math.Option.{none, some}
use Rattle.base_peer.specs.Data.{Data}
use Rattle.base_peer.specs.Held.{fields_in}
use Rattle.record.specs.Walk.{records_in}
use Rattle.base_util.specs.Section.{items_at}
use Rattle.base_columns.specs.Columns.{numbers_at, data_map_at}
use Rattle.hyparview_state.specs.declared.RefillLimit.{RefillLimit}
use Rattle.hyparview_state.specs.declared.RefillLimit.TheVariants.{Automatic, Requests, Recovery}
use Rattle.hyparview_state.specs.Layout as layout
use Rattle.hyparview_state.specs.Unpack.{own_at, limit_at}
use Rattle.run_text.specs.Numbers.{decimal}
use Rattle.run_text.specs.Lines.{end_line}
use Rattle.trace_text.specs.Hex.{hex, hex_lines}
use Rattle.trace_text.specs.Items.{ascii, list_field, number_field, numbered_text, held_text}

-- the station's own data, after an `x`, or `-` where there is none
unfoldable pub own_field : Data → List ℕ
own_field none = ascii "state me=" ++ ascii "-"
own_field (some b) = ascii "state me=" ++ (ascii "x" ++ hex b)

-- the limit on refills
unfoldable pub refill_field : RefillLimit → List ℕ
refill_field Automatic = ascii " refill=" ++ ascii "A"
refill_field (Requests n) = ascii " refill=" ++ (ascii "R" ++ decimal n)
refill_field Recovery = ascii " refill=" ++ ascii "V"

-- the fields of the words xs; of each list no more than it has places, by tools/make/layout.py
unfoldable pub fields_text : List ℕ → List ℕ
fields_text xs =
    list_field (ascii " active=[") decimal (items_at layout.active_places (layout.active_part xs))
    ++ (list_field (ascii " passive=[") decimal (items_at layout.passive_places (layout.passive_part xs))
    ++ (list_field (ascii " bootstrap=[") decimal (items_at layout.bootstrap_places (layout.bootstrap_part xs))
    ++ (list_field (ascii " recent=[") decimal (items_at layout.recent_places (layout.recent_part xs))
    ++ (list_field (ascii " requests=[") numbered_text (numbers_at layout.requests_places (layout.requests_part xs))
    ++ (number_field (ascii " next_request=") (layout.next_neighbor_request xs)
    ++ (list_field (ascii " joins=[") numbered_text (numbers_at layout.joins_places (layout.joins_part xs))
    ++ (number_field (ascii " next_join=") (layout.next_join xs)
    ++ (list_field (ascii " data=[") held_text (data_map_at layout.peer_data_places (layout.peer_data_part xs))
    ++ (list_field (ascii " alive=[") decimal (items_at layout.alive_places (layout.alive_part xs))
    ++ (list_field (ascii " refused=[") decimal (items_at layout.refused_places (layout.refused_part xs))
    ++ (refill_field (limit_at xs)
    ++ (number_field (ascii " timers=") (layout.timers_scheduled xs)
    ++ (number_field (ascii " interval=") (layout.next_shuffle_interval xs)
    ++ (number_field (ascii " alone=") (layout.passes_alone xs)
    ++ (number_field (ascii " short=") (layout.passes_short xs)
    ++ (list_field (ascii " pins=[") decimal (items_at layout.pins_places (layout.pins_part xs))
    ++ ascii "\n"))))))))))))))))

-- end

-- the line of a state, of its words
unfoldable pub state_line : List ℕ → List ℕ
state_line xs = own_field (fields_in (own_at xs)) ++ fields_text xs

-- an event: its output, its code, the draws used, and the words of the state
unfoldable pub trace_event : List ℕ → ℕ → ℕ → List ℕ → List ℕ
trace_event out code draws xs = hex_lines (records_in out) ++ (end_line code draws ++ state_line xs)
