-- Laws of the reader's answers, one for each way through the code.
-- Assumes nothing.
use Prim.Native.Nat.{ℕ, ◌+◌, ◌*◌, ◌≤◌, ◌<◌}
use mathlib.Core.Path.{◌≡◌, sym, ◌∙◌}
use mathlib.Core.Bool.{true, false}
use mathlib.Core.List.{List}
use native.Mathlib.Omega.{arith}
use lib.ListN.{length}
use borrow.Author.Tests.{lt-ltb, le-ltb}
use Rattle.base_lists.specs.Lists.{choose}
use Rattle.base_lists.proofs.Choice.{choose_yes, split}
use Rattle.record.specs.declared.Header.{Header}
use Rattle.record.specs.declared.Entry.{Entry}
use Rattle.std.specs.Prelude.{Option, Some, None}
use Rattle.record.specs.Format.{header_length, node_length}
use Rattle.record.specs.Read.{well_formed, header_of, entry_at}
use Rattle.record.specs.Answers.{answer}
use Rattle.record.proofs.Laws.{Found, answer_found}
use Rattle.record.proofs.Nodes.{entry_room}
use Rattle.controller.specs.declared.NodeReading.{NodeReading}
use Rattle.controller.specs.Reader.{no_header, reading, no_entry, node_reading}

-- bytes that the reader finds malformed are no record
malformed : (b : List ℕ) → answer b ≡ None → well_formed b ≡ false
unfolding answer
malformed b a =
    split (well_formed b)
    (λ y. absurd (let q : Some (header_of b) ≡ None = sym (choose_yes (well_formed b) (Some (header_of b)) None y) ∙ a in let z : ◌≡◌ {A = ℕ} 0 1 = cc in omega arith))
    (λ n. n)

module _ (b : List ℕ) (a : Option Header) (p : a ≡ answer b) where
  module _ (h : Header) (q : a ≡ Some h) where
    found : Found b h
    found = answer_found b h (sym p ∙ q)

    pub read_record : record { ok = true; header = h } ≡ reading b
    unfolding reading choose
    read_record = rw (found.header, found.well)

    pub node_room : (i : ℕ) → i < h.nodes → header_length + node_length * i + node_length ≤ length b
    node_room i l = entry_room b i found.well (rw (← found.header) l)

    pub node_there : (i : ℕ) (e : Entry) → i < h.nodes → e ≡ entry_at b i → record { ok = true; node = e } ≡ node_reading b i
    unfolding node_reading choose
    node_there i e l r = rw (r, found.well, lt-ltb i (header_of b).nodes (rw (← found.header) l))

    pub node_past : (i : ℕ) (r : NodeReading) → h.nodes ≤ i → r ≡ no_entry → r ≡ node_reading b i
    unfolding node_reading choose
    node_past i r l e = rw (e, found.well, le-ltb i (header_of b).nodes (rw (← found.header) l))

  module _ (q : a ≡ None) where
    pub read_nothing : (h : Header) → h ≡ no_header → record { ok = false; header = h } ≡ reading b
    unfolding reading choose
    read_nothing h e = rw (e, malformed b (sym p ∙ q))

    pub node_nothing : (i : ℕ) (r : NodeReading) → r ≡ no_entry → r ≡ node_reading b i
    unfolding node_reading choose
    node_nothing i r e = rw (e, malformed b (sym p ∙ q))
