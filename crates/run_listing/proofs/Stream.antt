-- A run printed line by line: each line fits, and all of them one after another are the text of the run.
-- Assumes nothing.
use Prim.Native.Nat.{ℕ, zero, suc, ◌-◌, ◌/◌, ◌≤◌, ◌<◌}
use mathlib.Core.Path.{◌≡◌, refl, sym, ap, ◌∙◌, subst}
use mathlib.Core.List.{List, [], ◌++◌}
use native.Mathlib.Omega.{arith}
use lib.ListN.{length, drop, length-append}
use lib.Seq.{slice}
use lib.Dec.{ltb}
use borrow.Author.Tests.{lt-ltb, le-ltb, ltb-true, ltb-false, eq-eqb, ne_eqb}
use Rattle.base_lists.specs.Bytes.{overwrite}
use Rattle.base_lists.proofs.Bytes.{length_overwrite}
use Rattle.base_lists.proofs.Choice.{by_choice, split, choose_yes, choose_no}
use Rattle.record.specs.declared.Header.{Header}
use Rattle.record.specs.Format.{header_length}
use Rattle.record.specs.Read.{header_of}
use Rattle.run_text.specs.declared.Page.{Page}
use denote.MutBor.{MutBor}
use Rattle.std.specs.Prelude.{Some, None, Ok}
use Rattle.run_text.specs.Text.{Prints, Begins}
use Rattle.run_text.specs.Numbers.{digits_within, decimal, field}
use Rattle.run_text.proofs.Written.{begun}
use Rattle.run_text.specs.Lines.{four, record_line, end_line, event_text}
use Rattle.run_text.proofs.Laws.{text_few, text_none, text_step}
use Rattle.hyparview.specs.Room.{output_room}
use Rattle.run_input.specs.declared.Head.{Head}
use Rattle.run_input.specs.Input.{head_length, numbers, cut_events}
use Rattle.run_walk.proofs.Draws.{counted}
use Rattle.run_listing.specs.Run.{events_text, laid_text, run_text}
use Rattle.run_listing.specs.Place.{Fronts, Lines, first_line, first_size}
use Rattle.run_listing.specs.Opened.{first_place, opened_run, rest_text}
use Rattle.run_listing.proofs.Laws.{whole_text}

-- ---- how long a line is

digits_few : (k n : ℕ) → length (digits_within k n) ≤ k
unfolding digits_within
digits_few zero n = omega arith
digits_few (suc k) n = by_choice (λ (x : List ℕ). length x ≤ suc k) (ltb n 10) (λ _. omega arith) (λ _. let h = digits_few k (n / 10) in simp length-append (omega (arith, h)))

field_few : (n after : ℕ) → length (field n after) ≤ 21
unfolding field decimal
field_few n after = let h = digits_few 20 n in simp length-append (omega (arith, h))

four_few : (a b c d after : ℕ) → length (four a b c d after) ≤ 84
unfolding four
four_few a b c d after =
    let ha = field_few a 32 in
    let hb = field_few b 32 in
    let hc = field_few c 32 in
    let hd = field_few d after in
    simp length-append (omega (arith, ha, hb, hc, hd))

line_few : (i : ℕ) (h : Header) → length (record_line i h) ≤ 168
unfolding record_line
line_few i h =
    let a = four_few i h.kind h.message h.peer 32 in
    let b = four_few h.second h.ttl h.number h.nodes 10 in
    simp length-append (omega (arith, a, b))

end_few : (code draws : ℕ) → length (end_line code draws) ≤ 44
unfolding end_line
end_few code draws =
    let a = field_few code 32 in
    let b = field_few draws 10 in
    simp length-append (omega (arith, a, b))

-- ---- lines at the front of lent bytes

-- a text that fits stands at the front
fronts : (w : List ℕ) (out : MutBor (List ℕ)) (t₀ t : Page) (o : List ℕ) → o ≡ t.out.now → length w ≤ length out.now → Begins out t₀ → Prints w t₀ t → Fronts w out.now t.text.at o
fronts w out t₀ t o e l h k =
    let s = k.puts [] out.now (begun h) in
    let long : length t.out.now ≡ length out.now = ap length s.bytes ∙ length_overwrite out.now 0 w in
    let few : t.text.at ≤ length o = omega (arith, s.reached, l, long, ap length e) in
    record { size = omega (arith, s.reached, l); counts = (few, counted t.text.at o few); bytes = e ∙ s.bytes }

pub end_fronts : (code draws : ℕ) (t r : Page) (out : MutBor (List ℕ)) (o : List ℕ) → 44 ≤ length out.now → Begins out t → Prints (end_line code draws) t r → o ≡ r.out.now → Fronts (end_line code draws) out.now r.text.at o
end_fronts code draws t r out o l h k e = let few = end_few code draws in fronts (end_line code draws) out t r o e (omega (arith, few, l)) h k

-- no text leaves the bytes as they are
empty_fronts : (w out : List ℕ) → w ≡ [] → Fronts w out 0 out
unfolding overwrite
empty_fronts w out e = record { size = ap length (sym e); counts = (omega arith, refl); bytes = ap (overwrite out 0) (sym e) }

module _ (i : ℕ) (b : List ℕ) where
  -- too few bytes for a header
  pub lines_few_bytes : (out : List ℕ) → length b < header_length → Lines i b out None out
  unfolding first_line first_size
  lines_few_bytes out l =
      let y = lt-ltb (length b) header_length l in
      record { line = empty_fronts _ out (choose_yes _ _ _ y); taken = sym (choose_yes _ _ _ y); none = λ _. refl }

  module _ (h : Header) (is : h ≡ header_of b) (m : header_length ≤ length b) where
    size_is : h.size ≡ first_size b
    unfolding first_size
    size_is = ap (λ (x : Header). x.size) is ∙ sym (choose_no _ _ _ (le-ltb (length b) header_length m))

    -- the zeroes behind the last record
    pub lines_none : (out : List ℕ) → h.size ≡ 0 → Lines i b out None out
    unfolding first_line
    lines_none out z =
        let e : (header_of b).size ≡ 0 = ap (λ (x : Header). x.size) (sym is) ∙ z in
        record { line = empty_fronts _ out (choose_no _ _ _ (le-ltb (length b) header_length m) ∙ choose_yes _ _ _ (eq-eqb _ 0 e)); taken = sym z ∙ size_is; none = λ _. refl }

    pub lines_one : (out : MutBor (List ℕ)) (t r : Page) (o : List ℕ) → (h.size ≡ 0 → ⊥) → 168 ≤ length out.now → Begins out t → Prints (record_line i h) t r → o ≡ r.out.now
        → Lines i b out.now (Some (record { size = r.text.at; taken = h.size })) o
    unfolding first_line
    lines_one out t r o z l g k q =
        let few = line_few i h in
        let w : record_line i h ≡ first_line i b =
        ap (record_line i) is ∙ sym (choose_no _ _ _ (le-ltb (length b) header_length m) ∙ choose_no _ _ _ (ne_eqb _ 0 (λ e. z (ap (λ (x : Header). x.size) is ∙ e)))) in
        record {
          line = subst (λ (x : List ℕ). Fronts x out.now r.text.at o) w (fronts (record_line i h) out t r o q (omega (arith, few, l)) g k);
          taken = size_is;
          none = λ e. absurd (z (size_is ∙ e));
        }

-- ---- the events one after another

-- an input with events prints what is left at their first place
pub rest_first : (b : List ℕ) (head : Head) → opened_run b ≡ Ok head
    → run_text b ≡ rest_text output_room (first_place head) 0 head.events (slice head_length head.draws_at b) (numbers head.draws 0 (drop head.draws_at b))
unfolding rest_text laid_text first_place
rest_first b head e =
    let n : head.events ≡ head.events - 0 = omega arith in
    whole_text b (opened_run b) refl head e ∙ ap (λ (x : ℕ). events_text output_room 0 (first_place head).state.words (cut_events x (slice head_length head.draws_at b)) (numbers head.draws 0 (drop head.draws_at b))) n

-- the lines of an event are its first record's and those of the output behind that record, to the first place where none is
pub lines_step : (i code draws : ℕ) (b : List ℕ) → (first_size b ≡ 0 → ⊥) → event_text i code draws b ≡ first_line i b ++ event_text i code draws (drop (first_size b) b)
unfolding first_line first_size
lines_step i code draws b z =
    split (ltb (length b) header_length) (λ y. absurd (z (choose_yes _ _ _ y)))
    (λ n. let same : first_size b ≡ (header_of b).size = choose_no _ _ _ n in
    let e : (header_of b).size ≡ 0 → ⊥ = λ q. z (same ∙ q) in
    let line : first_line i b ≡ record_line i (header_of b) = choose_no _ _ _ n ∙ choose_no _ _ _ (ne_eqb _ 0 e) in
    text_step i code draws b (ltb-false _ _ n) e ∙ (λ j. sym line j ++ event_text i code draws (drop (sym same j) b)))

pub lines_end : (i code draws : ℕ) (b : List ℕ) → first_size b ≡ 0 → event_text i code draws b ≡ end_line code draws
unfolding first_size
lines_end i code draws b z =
    split (ltb (length b) header_length) (λ y. text_few i code draws b (ltb-true _ _ y)) (λ n. text_none i code draws b (sym (choose_no _ _ _ n) ∙ z))
