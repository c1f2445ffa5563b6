-- Laws of the place reached in a run.
-- Assumes nothing.
use Prim.Native.Nat.{ℕ, min, ◌+◌, ◌-◌, ◌≤◌, ◌<◌}
use mathlib.Core.Path.{◌≡◌, sym, ap, ◌∙◌}
use mathlib.Core.List.{List}
use native.Mathlib.Decide.{dec_lt}
use native.Mathlib.Omega.{arith}
use lib.ListN.{length, take, drop, length-drop, drop_of_length-le}
use lib.Seq.{take_all, drop-drop, drop-length}
use Rattle.hyparview.specs.declared.HandledState.{HandledState}
use Rattle.hyparview.specs.Handled.{Outcome, handled}
use Rattle.run_input.specs.Input.{event_length}
use Rattle.base_draws.specs.Place.{past}
use Rattle.base_draws.proofs.Laws.{past_rest}
use Rattle.run_walk.specs.declared.Runner.{Runner}
use Rattle.run_walk.specs.Place.{Runs, met, passed}

module _ (events : List ℕ) (at from : ℕ) (e : from ≡ min at (length events)) where
  same : Dec (at < length events) → drop from events ≡ drop at events
  same (yes h) = let q : from ≡ at = omega (arith, e, h) in ap (λ (x : ℕ). drop x events) q
  same (no h) = let q : from ≡ length events = omega (arith, e) in ap (λ (x : ℕ). drop x events) q ∙ (drop-length events ∙ sym (drop_of_length-le events (omega arith)))

  -- the rest as the code cuts it: from the place reached on, and nothing past the end
  pub rest_is : take (length events - from) (drop from events) ≡ drop at events
  rest_is = take_all (length events - from) (drop from events) (omega (arith, length-drop from events)) ∙ same (dec_lt at (length events))

  pub size_left : (size : ℕ) → size ≤ length (take (length events - from) (drop from events)) → size ≤ length events - at
  size_left size h = omega (arith, h, ap length rest_is, length-drop at events)

module _ (room : ℕ) (p : Runner) (events draws : List ℕ) where
  -- the call with the event cut out by its length
  pub ran : (n : ℕ) (a : HandledState) (event left recs : List ℕ) (u : ℕ) → n ≡ event_length (drop p.at events) → event ≡ take n (drop p.at events) → left ≡ drop p.used draws
      → record { code = a.code; draws = a.draws; words = a.state.words; output = recs } ≡ handled p.state.words event left room → u ≡ past draws p.used a.draws
      → Runs room p events draws (record { runner = record { state = a.state; at = p.at + n; used = u }; code = a.code; draws = a.draws }) recs
  unfolding passed
  ran n a event left recs u e cut rest h q =
      let b : event ≡ take (event_length (drop p.at events)) (drop p.at events) = cut ∙ ap (λ (x : ℕ). take x (drop p.at events)) e in
      let m : record { code = a.code; draws = a.draws; words = a.state.words; output = recs } ≡ met room p events draws = h ∙ (λ j. handled p.state.words (b j) (rest j) room) in
      let reached : u ≡ past draws p.used (met room p events draws).draws = q ∙ ap (λ (x : Outcome). past draws p.used x.draws) m in
      record {
        runner = λ j. record { state = record { words = (m j).words }; at = p.at + e j; used = reached j };
        code = ap (λ (x : Outcome). x.code) m;
        draws = ap (λ (x : Outcome). x.draws) m;
        output = ap (λ (x : Outcome). x.output) m;
      }

  -- what the next place says of the state, the events and the draws that are left
  module _ (q : Runner) (e : q ≡ passed room p events draws) where
    pub next_words : q.state.words ≡ (met room p events draws).words
    unfolding passed
    next_words = ap (λ (x : Runner). x.state.words) e

    pub next_at : q.at ≡ p.at + event_length (drop p.at events)
    unfolding passed
    next_at = ap (λ (x : Runner). x.at) e

    pub next_left : drop q.used draws ≡ drop (met room p events draws).draws (drop p.used draws)
    unfolding passed
    next_left = ap (λ (x : Runner). drop x.used draws) e ∙ past_rest draws p.used (met room p events draws).draws

    -- the events after it
    pub next_events : drop (event_length (drop p.at events)) (drop p.at events) ≡ drop q.at events
    next_events = drop-drop (event_length (drop p.at events)) p.at events ∙ ap (λ (x : ℕ). drop x events) (sym next_at)
