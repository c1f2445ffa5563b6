-- Document 02, S-8: a record of one form as a record of the other. v is the bytes of a peer where it is read, w where it is written.
-- Assumes nothing.
use Rattle.std.specs.Prelude.{ℕ, ◌^◌, ◌≡◌, Bool, false, not, ◌&&◌, ◌||◌, List, [], ◌∷◌, ◌++◌, length, get_or, take, leb, ltb, eqb, Result, Ok, Err}
use Rattle.base_lists.specs.Lists.{choose}
use Rattle.base_lists.specs.Array.{pad}
use Rattle.base_lists.specs.Bytes.{le, overwrite}
use Rattle.base_lists.specs.Lent.{Lent, Seen}
use Rattle.base_lists.specs.Tests.{every}
use Rattle.base_peer.specs.Data.{Node}
use Rattle.record.specs.Format.{Rec, most_nodes, old_peer_length, header_length_by, place_by, entries_by, size_by, encode_by, four_bytes_end}
use Rattle.record.specs.Kinds.{Pin, kind_byte}
use Rattle.record.specs.Read.{well_formed_by, nodes_of_by, rec_of_by}
use Rattle.record.specs.Refusals.{refusal_code}
use Rattle.record.specs.declared.Header.{Header}
use Rattle.record.specs.declared.Refusal.{Refusal}
use Rattle.record.specs.declared.Entry.{Entry}

-- S-14: kind 13 is "without an old form"
unfoldable pub kind_in_form : ℕ → ℕ → Bool
kind_in_form w k = not (eqb w old_peer_length) || not (eqb k (kind_byte Pin))

-- the bytes are a record of the form
unfoldable pub is_record : ℕ → List ℕ → Bool
is_record v b = well_formed_by v b && kind_in_form v (rec_of_by v b).kind

-- the nodes' ids have w bytes
unfoldable pub ids_fit : ℕ → List Node → Bool
ids_fit w ns = every (λ (n : Node). ltb n.id (256 ^ w)) ns

-- a kind that the other form has, and "a number or whole length too large for the other form": none is
unfoldable pub has_form : ℕ → Rec → Bool
has_form w e =
    kind_in_form w e.kind
    && (ltb e.peer (256 ^ w) && (ltb e.second (256 ^ w) && (ids_fit w e.nodes && ltb (size_by w e) 65536)))

-- "Answers, in this order: the reader's; 19 ..; 9"; 0 where there is none
unfoldable pub conversion_code : ℕ → ℕ → List ℕ → ℕ → ℕ
conversion_code v w b room =
    choose (ltb (length b) (header_length_by v)) 3
    (choose (ltb most_nodes (get_or b 3 0)) 4
    (choose (not (is_record v b)) 3
    (choose (not (has_form w (rec_of_by v b))) 19
    (choose (ltb room (size_by w (rec_of_by v b))) 9 0))))

-- the code of the code's answer: 0 where it has the header to be written
abbrev pub code_to : Result Header Refusal → ℕ
code_to (Ok h) = 0
code_to (Err r) = refusal_code r

-- the answer, the bytes written, and the whole output
pub record Conversion : Type 0 where
  pub code : ℕ
  pub written : ℕ
  pub output : List ℕ

-- the bytes from place 0 on, and zeroes behind them
unfoldable pub outcome : ℕ → List ℕ → ℕ → Conversion
outcome code bytes room = record { code = code; written = length bytes; output = pad 0 room bytes }

-- the bytes in the other form: none where there is a refusal
unfoldable pub converted : ℕ → ℕ → List ℕ → ℕ → List ℕ
converted v w b room = choose (eqb (conversion_code v w b room) 0) (encode_by w (rec_of_by v b)) []

-- the conversion into an output of so much room
unfoldable pub conversion : ℕ → ℕ → List ℕ → ℕ → Conversion
conversion v w b room = outcome (conversion_code v w b room) (converted v w b room) room

-- the same onto what stands in the output
unfoldable pub placed : ℕ → ℕ → List ℕ → List ℕ → Conversion
placed v w b out = record {
  code = conversion_code v w b (length out);
  written = length (converted v w b (length out));
  output = overwrite out 0 (converted v w b (length out));
}

-- what the code hands back, and the output that it leaves
abbrev pub outcome_of : Result ℕ Refusal → List ℕ → Conversion
outcome_of (Ok n) out = record { code = 0; written = n; output = out }
outcome_of (Err r) out = record { code = refusal_code r; written = 0; output = out }

-- r and the output are the conversion of b, as a contract says it of the parameters
abbrev pub Converts : ℕ → ℕ → Result ℕ Refusal → Seen → Lent → Type 0
Converts v w r b out = outcome_of r out.exit.now ≡ conversion v w b.entry.now (length out.entry.now)

-- the bytes that an outcome says were written
unfoldable pub bytes_in : Conversion → List ℕ
bytes_in o = take o.written o.output

-- "a number .. too large" for the old form: a peer, the second field or a node's id
unfoldable pub large_id : List Node → Bool
large_id [] = false
large_id (n ∷ ns) = leb four_bytes_end n.id || large_id ns

unfoldable pub large : Rec → Bool
large e = leb four_bytes_end e.peer || (leb four_bytes_end e.second || large_id e.nodes)

-- ---- a header and an entry by their fields

unfoldable pub tail_bytes : Header → List ℕ
tail_bytes h = le 2 h.ttl ++ (le 2 h.size ++ le 8 h.number)

unfoldable pub header_fields : ℕ → Header → List ℕ
header_fields w h = h.kind ∷ h.message ∷ h.flags ∷ h.nodes ∷ (le w h.peer ++ (le w h.second ++ tail_bytes h))

unfoldable pub entry_fields : ℕ → Entry → List ℕ
entry_fields w e = le w e.id ++ (le 2 e.offset ++ (e.len ∷ e.present ∷ []))

-- the entries of the n nodes of b, in the other form
abbrev pub entries_of_by : ℕ → ℕ → ℕ → Seen → List ℕ
entries_of_by v w n b = entries_by w (nodes_of_by v b.entry.now 0 n) (place_by w n)

-- an entry whose data stand at the place reached, if it has any
unfoldable pub moved_entry : Entry → ℕ → Entry
moved_entry e at = record { id = e.id; offset = choose (eqb e.present 0) 0 at; len = e.len; present = e.present }

-- a header with another whole length
abbrev pub resized : Header → ℕ → Header
resized h size = record {
  kind = h.kind;
  message = h.message;
  flags = h.flags;
  nodes = h.nodes;
  peer = h.peer;
  second = h.second;
  ttl = h.ttl;
  size = size;
  number = h.number;
}
