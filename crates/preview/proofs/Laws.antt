-- Laws of the loop over an output's records: what came before is counted, and no count leaves its bound.
-- Assumes nothing.
use Prim.Native.Nat.{ℕ, zero, suc, ◌+◌, ◌-◌, ◌≤◌, ◌<◌}
use mathlib.Core.Path.{◌≡◌, refl, sym, ap, ◌∙◌}
use mathlib.Core.List.{List, [], ◌∷◌}
use native.Mathlib.Omega.{arith}
use lib.ListN.{length, drop, length-drop}
use lib.Seq.{get_or-drop}
use lib.Dec.{ltb, eqb}
use mir.Val.{bool_byte}
use borrow.Author.Tests.{ltb-true, ltb-false, eqb-false}
use Rattle.base_lists.specs.Lists.{choose}
use Rattle.base_lists.proofs.Choice.{by_choice, split}
use Rattle.base_lists.proofs.Numbers.{Bytes, read_below}
use Rattle.record.specs.declared.Header.{Header}
use Rattle.record.specs.Format.{header_length}
use Rattle.record.specs.Read.{header_of, header_of_by}
use Rattle.record.specs.Walk.{kind_in, whole_length, records_from, records_in, walk}
use Rattle.record.proofs.Walk.{size_is}
use Rattle.preview.specs.declared.Count.{Count}
use Rattle.preview.specs.Preview.{add_message, add, priced_records}

abbrev both : ℕ → ℕ → Count
both m n = record { messages = m; bytes = n }

-- ---- how many records there are, and how long they say they are: only the last can say more than is there

abbrev sizes : List (List ℕ) → ℕ
sizes [] = 0
sizes (b ∷ bs) = whole_length b + sizes bs

record Room (b : List ℕ) (bs : List (List ℕ)) : Type 0 where
  few : length bs ≤ length b
  within : sizes bs ≤ length b + 65535
  empty : length b ≡ 0 → sizes bs ≡ 0

no_records : (b : List ℕ) → Room b []
no_records b = record { few = omega arith; within = omega arith; empty = λ _. refl }

whole_below : (b : List ℕ) → Bytes b → whole_length b < 65536
unfolding whole_length header_of_by
whole_below b h = read_below 2 b _ h

bytes_drop : (k : ℕ) (b : List ℕ) → Bytes b → Bytes (drop k b)
bytes_drop k b h i = rw (get_or-drop k b i 0) (h (k + i))

room_from : (n : ℕ) (b : List ℕ) → Bytes b → Room b (records_from n b)
unfolding records_from
room_from zero b h = no_records b
room_from (suc n) b h =
    by_choice (Room b) (ltb (length b) header_length) (λ _. no_records b)
    (λ l. by_choice (Room b) (eqb (whole_length b) 0) (λ _. no_records b)
    (λ z. let more : Room (drop (whole_length b) b) (records_from n (drop (whole_length b) b)) = room_from n (drop (whole_length b) b) (bytes_drop (whole_length b) b h) in
    let long : header_length ≤ length b = ltb-false (length b) header_length l in
    let some : whole_length b ≡ 0 → ⊥ = eqb-false (whole_length b) 0 z in
    let left : length (drop (whole_length b) b) ≡ length b - whole_length b = length-drop (whole_length b) b in
    let w : whole_length b < 65536 = whole_below b h in
    record {
      few = omega (arith, more.few, left, some, long);
      within = split (ltb (length b) (whole_length b)) (λ t. let o = ltb-true _ _ t in omega (arith, more.empty (omega (arith, left, o)), w, o)) (λ t. omega (arith, more.within, left, ltb-false _ _ t));
      empty = λ e. absurd (omega (arith, e, long));
    }))

-- ---- the loop

-- The records of `rest` are to come, and n came before.
pub record Counting (out : List ℕ) (n : Count) (rest : List ℕ) : Type 0 where
  pub same : priced_records out ≡ walk add (records_in rest) n
  pub few : n.messages + length (records_in rest) ≤ length out
  pub within : n.bytes + sizes (records_in rest) ≤ length out + 65535

room : (out : List ℕ) → Bytes out → Room out (records_in out)
unfolding records_in
room out h = room_from (length out) out h

pub counting_start : (out rest : List ℕ) (n : Count) → Bytes out → n.messages ≡ 0 → n.bytes ≡ 0 → rest ≡ out → Counting out n rest
unfolding priced_records
counting_start out rest n h p q e =
    let r : Room out (records_in out) = room out h in
    rw e (record { same = ap (walk add (records_in out)) (sym (λ i. both (p i) (q i))); few = omega (arith, r.few, p); within = omega (arith, r.within, q) })

-- a message is one more
add_bool : (k n : ℕ) → n + bool_byte (eqb k 0) ≡ add_message k n
unfolding add_message choose
add_bool k n = split (eqb k 0) (λ t. rw t refl) (λ t. rw t (omega arith))

module _ (out rest : List ℕ) (n : Count) (v : Counting out n rest) where
  pub counting_end : records_in rest ≡ [] → n ≡ priced_records out
  unfolding walk
  counting_end e = sym (v.same ∙ ap (λ (bs : List (List ℕ)). walk add bs n) e)

  module _ (b more : List ℕ) (h : Header) (r : records_in rest ≡ b ∷ records_in more) (is : h ≡ header_of b) where
    pub messages_fit : n.messages + 1 ≤ length out
    messages_fit = omega (arith, v.few, ap length r)

    pub bytes_fit : n.bytes + h.size ≤ length out + 65535
    bytes_fit = omega (arith, v.within, ap sizes r, size_is b h is)

    pub counting_next : Counting out (both (n.messages + bool_byte (eqb h.kind 0)) (n.bytes + h.size)) more
    unfolding walk add header_of_by kind_in
    counting_next =
        let p : n.messages + bool_byte (eqb h.kind 0) ≡ add_message (kind_in b) n.messages = add_bool h.kind n.messages ∙ ap (λ (x : Header). add_message x.kind n.messages) is in
        let q : n.bytes + h.size ≡ n.bytes + whole_length b = ap (λ (m : ℕ). n.bytes + m) (size_is b h is) in
        let one : bool_byte (eqb h.kind 0) ≤ 1 = split (eqb h.kind 0) (λ t. rw t (omega arith)) (λ t. rw t (omega arith)) in
        record {
          same = v.same ∙ ap (λ (bs : List (List ℕ)). walk add bs n) r ∙ ap (walk add (records_in more)) (sym (λ i. both (p i) (q i)));
          few = omega (arith, v.few, ap length r, one);
          within = omega (arith, v.within, ap sizes r, size_is b h is);
        }
