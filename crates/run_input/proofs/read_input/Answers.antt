-- By cases on the test of the places, which bounds the events' part, and on that of the events; the head has the numbers read.
use Prim.Native.Nat.{ℕ, ◌+◌, ◌*◌, ◌-◌, ◌≤◌, ◌<◌}
use mathlib.Core.Path.{◌≡◌, sym, ap, ◌∙◌}
use mathlib.Core.Bool.{Bool, true, false, ◌&&◌}
use mathlib.Core.List.{List}
use native.Mathlib.Nat.{zero-add}
use native.Mathlib.Omega.{arith}
use lib.ListN.{length, take, drop, get_or}
use lib.Seq.{slice}
use lib.Dec.{leb, eqb}
use borrow.Author.Rules.{rules}
use Rattle.std.proofs.lemmas.List.{get_or-take, get_or-drop}
use Rattle.base_lists.proofs.Choice.{choose_yes, choose_no}
use Rattle.base_lists.proofs.Tests.{both_true, and_no}
use Rattle.base_lists.proofs.Slices.{slice_part}
use Rattle.base_timing.specs.declared.Config.{Config}
use Rattle.run_input.specs.Input.{head_length, most_bytes, self_low, self_high, event_count, event_offset, draw_count, draw_offset, number, numbers, from_halves, settings_of, config_of, are_events, places_ok, events_part, events_ok, input_head, input_of}
use Rattle.run_input.specs.declared.Head.{Head}
use Rattle.std.specs.Prelude.{Some, None}
use Rattle.run_input.proofs.Laws.{Places, places_true, numbers_at}
use Rattle.run_input.proofs.read_input.Goals as goal

-- the test of the places
abbrev placed : List ℕ → ℕ → ℕ → ℕ → Bool
placed b start end d = leb head_length (length b) && (leb (length b) most_bytes && (eqb start head_length && (leb head_length end && eqb (end + 4 * d) (length b))))

module _ (b : List ℕ) (start end d : ℕ) (se : start ≡ number b event_offset) (ee : end ≡ number b draw_offset) (de : d ≡ number b draw_count) where
  placed-is : placed b start end d ≡ places_ok b
  unfolding places_ok
  placed-is = λ i. placed b (se i) (ee i) (de i)

  no-places : placed b start end d ≡ false → None ≡ input_of b
  unfolding input_of
  no-places f = sym (choose_no (places_ok b && events_ok b) (Some (input_head b)) None (ap (λ (p : Bool). p && events_ok b) (sym placed-is ∙ f)))

  module _ (t : placed b start end d ≡ true) where
    at : Places b
    at = places_true b (sym placed-is ∙ t)

    from : head_length ≤ end
    from = omega (arith, at.low, ee)

    upto : end ≤ length b
    upto = omega (arith, at.full, ee)

    module _ (n : ℕ) (ne : n ≡ number b event_count) (q : Bool) (qe : q ≡ are_events n (take (end - head_length) (drop head_length b))) where
      filled : q ≡ events_ok b
      unfolding events_ok events_part
      filled =
          let k : head_length + (end - head_length) ≡ number b draw_offset = omega (arith, from, ee) in
          qe ∙ (ap (λ (m : ℕ). are_events m (take (end - head_length) (drop head_length b))) ne
          ∙ ap (are_events (number b event_count)) (slice_part head_length (end - head_length) b ∙ ap (λ (m : ℕ). slice head_length m b) k))

      whole : (h : Head) → q ≡ true → h ≡ input_head b → Some h ≡ input_of b
      unfolding input_of
      whole h u e = sym (choose_yes (places_ok b && events_ok b) (Some (input_head b)) None (both_true _ _ (sym placed-is ∙ t) (sym filled ∙ u)) ∙ ap Some (sym e))

      no_events : q ≡ false → None ≡ input_of b
      unfolding input_of
      no_events f = sym (choose_no (places_ok b && events_ok b) (Some (input_head b)) None (ap (λ (p : Bool). places_ok b && p) (sym filled ∙ f) ∙ and_no (places_ok b)))

settings : (b ns : List ℕ) → ((k : ℕ) → k < 9 → get_or ns k 0 ≡ number b (2 + k)) → settings_of ns ≡ config_of b
unfolding settings_of config_of
settings b ns n =
    λ i. record {
      active_view_capacity = n 0 (omega arith) i;
      passive_view_capacity = n 1 (omega arith) i;
      active_random_walk_length = n 2 (omega arith) i;
      passive_random_walk_length = n 3 (omega arith) i;
      shuffle_random_walk_length = n 4 (omega arith) i;
      shuffle_active_view_count = n 5 (omega arith) i;
      shuffle_passive_view_count = n 6 (omega arith) i;
      shuffle_interval = n 7 (omega arith) i;
      neighbor_request_timeout = n 8 (omega arith) i;
    }

headed : (b : List ℕ) (low high me n end d : ℕ) (config : Config) → low ≡ number b self_low → high ≡ number b self_high → me ≡ from_halves low high
    → config ≡ config_of b → n ≡ number b event_count → end ≡ number b draw_offset → d ≡ number b draw_count
    → record { me = me; config = config; events = n; draws_at = end; draws = d } ≡ input_head b
unfolding input_head
headed b low high me n end d config l h m e₁ e₂ e₃ e₄ =
    let own : me ≡ from_halves (number b self_low) (number b self_high) = m ∙ (λ i. from_halves (l i) (h i)) in
    λ i. record { me = own i; config = e₁ i; events = e₂ i; draws_at = e₃ i; draws = e₄ i }

module _ (b ns : List ℕ) (e : ns ≡ numbers 15 0 b) where
  nth : (k : ℕ) → k < 15 → get_or ns k 0 ≡ number b k
  nth k h = ap (λ (l : List ℕ). get_or l k 0) e ∙ (numbers_at 15 0 k b h ∙ ap (number b) (zero-add k))

pub slice_bounds-are_events-count : goal.slice_bounds-are_events-count
slice_bounds-are_events-count c = search (from, rules)

pub slice_bounds-are_events-start : goal.slice_bounds-are_events-start
slice_bounds-are_events-start c = search (from, rules)

pub slice_bounds-are_events-end : goal.slice_bounds-are_events-end
slice_bounds-are_events-end c =
    let n = nth _ _ c.read_numbers.ensures in
    upto _ _ _ _ (n 12 (omega arith)) (n 14 (omega arith)) (n 13 (omega arith)) c.if-not-placed.false

pub returns-then-not-placed : goal.returns-then-not-placed
returns-then-not-placed c =
    let n = nth _ _ c.read_numbers.ensures in
    no-places _ _ _ _ (n 12 (omega arith)) (n 14 (omega arith)) (n 13 (omega arith)) c.if-not-placed.true

pub returns-then-not-are_events : goal.returns-then-not-are_events
returns-then-not-are_events c =
    let n = nth _ _ c.read_numbers.ensures in
    no_events _ _ _ _ (n 12 (omega arith)) (n 14 (omega arith)) (n 13 (omega arith)) c.if-not-placed.false _ (n 11 (omega arith)) _ c.are_events.ensures c.if-not-are_events.true

pub returns : goal.returns
returns c =
    let n = nth _ _ c.read_numbers.ensures in
    whole _ _ _ _ (n 12 (omega arith)) (n 14 (omega arith)) (n 13 (omega arith)) c.if-not-placed.false _ (n 11 (omega arith)) _ c.are_events.ensures _ c.if-not-are_events.false
    (headed _ _ _ _ _ _ _ _ (n 0 (omega arith)) (n 1 (omega arith)) c.from_halves.ensures
    (c.settings_of.ensures ∙ settings _ _ (λ k h. get_or-take 13 _ k 0 (omega (arith, h)) ∙ (get_or-drop 2 _ k 0 ∙ n (2 + k) (omega (arith, h)))))
    (n 11 (omega arith)) (n 14 (omega arith)) (n 13 (omega arith)))
