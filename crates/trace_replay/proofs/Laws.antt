-- Laws of how a history ends.
-- Assumes nothing.
use Prim.Native.Nat.{ℕ, suc, ◌+◌, ◌-◌, ◌≤◌, ◌<◌}
use mathlib.Core.Path.{◌≡◌, refl, sym, ap, ◌∙◌}
use mathlib.Core.Bool.{false}
use mathlib.Core.List.{List}
use mathlib.Core.Option.{none}
use native.Mathlib.Omega.{arith}
use lib.ListN.{length, take, drop, set, replicate}
use lib.Dec.{eqb}
use borrow.Author.Tests.{eq-eqb, ne_eqb}
use Rattle.io.specs.Counts.{IsPrefixLen}
use Rattle.base_lists.proofs.Choice.{choose_yes, choose_no}
use Rattle.spec_hyparview.specs.Station.{Station}
use Rattle.spec_hyparview.specs.Handle as P
use Rattle.base_lists.specs.Array.{pad}
use Rattle.hyparview_state.specs.Layout.{words, next_neighbor_request_at, next_join_at, passes_alone_at, passes_short_at}
use Rattle.hyparview_rules.specs.Pack.{pack, front}
use Rattle.hyparview.specs.Made as packed
use Rattle.hyparview.specs.Made.{lent, pack_made}
use Rattle.hyparview.specs.declared.State.{State}
use Rattle.hyparview.specs.declared.MadeState.{MadeState}
use Rattle.hyparview.proofs.Making.{zero_words}
use Rattle.hyparview.specs.Handled.{handled}
use Rattle.run_input.specs.declared.Head.{Head}
use Rattle.std.specs.Prelude.{Option, Some, None}
use Rattle.run_input.specs.Input.{head_length, numbers, event_length, cut_events, input_of}
use Rattle.run_input.proofs.Laws.{Laid, laid}
use Rattle.run_walk.specs.declared.Runner.{Runner}
use Rattle.run_walk.specs.Place.{passed}
use Rattle.run_walk.proofs.Laws.{next_words, next_left, next_events}
use Rattle.run_walk.proofs.Draws.{first_draws, part_is}
use Rattle.run_walk.proofs.Fresh.{made_bare}
use Rattle.trace_replay.specs.declared.TraceStart.{TraceStart}
use Rattle.trace_replay.specs.declared.Ended.{Ended}
use Rattle.trace_replay.specs.Ending.{room_of, counting, words_after, laid_words, ended_at, made_end, input_end, ended_of}

-- ---- the events in order

-- the words that the events to come lead to, of n with i passed
pub record Walking (room : ℕ) (last events draws : List ℕ) (p : Runner) (n i : ℕ) : Type 0 where
  pub same : last ≡ words_after room p.state.words (cut_events (n - i) (drop p.at events)) (drop p.used draws)

pub walking_start : (room : ℕ) (s : State) (events draws : List ℕ) (n : ℕ)
    → Walking room (words_after room s.words (cut_events n events) draws) events draws (record { state = s; at = 0; used = 0 }) n 0
walking_start room s events draws n = record { same = let e : n ≡ n - 0 = omega arith in ap (λ (x : ℕ). words_after room s.words (cut_events x events) draws) e }

one_event : (room k : ℕ) (xs l ds : List ℕ) → words_after room xs (cut_events (suc k) l) ds
    ≡ words_after room (handled xs (take (event_length l) l) ds room).words (cut_events k (drop (event_length l) l)) (drop (handled xs (take (event_length l) l) ds room).draws ds)
unfolding cut_events words_after
one_event room k xs l ds = refl

module _ (room : ℕ) (last events draws : List ℕ) (p : Runner) (n i : ℕ) (v : Walking room last events draws p n i) where
  pub walking_next : (q : Runner) (k : ℕ) → i < n → k ≡ room → q ≡ passed k p events draws → Walking room last events draws q n (i + 1)
  walking_next q k h z lent =
      let c : n - i ≡ suc (n - (i + 1)) = omega (arith, h) in
      let e : q ≡ passed room p events draws = lent ∙ ap (λ (x : ℕ). passed x p events draws) z in
      let words = next_words room p events draws q e in
      let places = next_events room p events draws q e in
      let rest = next_left room p events draws q e in
      record {
        same = v.same
            ∙ (ap (λ (x : ℕ). words_after room p.state.words (cut_events x (drop p.at events)) (drop p.used draws)) c
            ∙ (one_event room (n - (i + 1)) p.state.words (drop p.at events) (drop p.used draws)
            ∙ (λ j. words_after room (sym words j) (cut_events (n - (i + 1)) (places j)) (sym rest j))));
      }

  pub walking_end : n ≤ i → p.state.words ≡ last
  unfolding cut_events words_after
  walking_end h =
      let z : n - i ≡ 0 = omega (arith, h) in
      sym (v.same ∙ ap (λ (x : ℕ). words_after room p.state.words (cut_events x (drop p.at events)) (drop p.used draws)) z)

pub walked : (room : ℕ) (xs ys : List ℕ) (head : Head) (b ns : List ℕ) → IsPrefixLen head.draws ns → ns ≡ numbers (length ns) 0 (drop head.draws_at b)
    → ys ≡ words_after room xs (cut_events head.events (take (head.draws_at - head_length) (drop head_length b))) (take head.draws ns) → ys ≡ laid_words room xs head b
unfolding laid_words
walked room xs ys head b ns h e k = k ∙ (λ j. words_after room xs (cut_events head.events (sym (part_is head_length head.draws_at b) j)) (first_draws b ns head h e j))

-- ---- the whole

-- an input that is refused has a state of zeroes
no_state : replicate words 0 ≡ pack P.zero_station
unfolding pad
no_state = zero_words

module _ (start : TraceStart) (head : Head) (b : List ℕ) (m : MadeState) (own : List ℕ) (e : record { code = m.code; words = m.state.words } ≡ pack_made (P.new head.me (lent false own) head.config)) where
  made_code : m.code ≡ (P.new head.me none head.config).code
  unfolding pack_made
  made_code = ap (λ (x : packed.MadeWords). x.code) (made_bare head.me head.config _ own e)

  made_words : m.state.words ≡ pack (P.new head.me none head.config).state
  unfolding pack_made
  made_words = ap (λ (x : packed.MadeWords). x.words) (made_bare head.me head.config _ own e)

  pub whole_refused : (m.code ≡ 0 → ⊥) → ◌≡◌ {A = Ended} (record { code = m.code; state = m.state }) (made_end start (P.new head.me none head.config) head b)
  unfolding made_end
  whole_refused h = (λ j. ended_at (made_code j) (made_words j)) ∙ sym (choose_no _ _ _ (ap (λ (x : ℕ). eqb x 0) (sym made_code) ∙ ne_eqb _ _ h))

  pub whole_run : (s last : State) (room : ℕ) → m.code ≡ 0 → ((g : Station) → m.state.words ≡ pack g → s.words ≡ pack (counting start g)) → room ≡ room_of start → last.words ≡ laid_words room s.words head b
      → ◌≡◌ {A = Ended} (record { code = 0; state = last }) (made_end start (P.new head.me none head.config) head b)
  unfolding made_end
  whole_run s last room h c q k =
      let first : s.words ≡ pack (counting start (P.new head.me none head.config).state) = c _ made_words in
      ap (ended_at 0) (k ∙ (λ i. laid_words (q i) (first i) head b))
      ∙ sym (choose_yes _ _ _ (ap (λ (x : ℕ). eqb x 0) (sym made_code) ∙ eq-eqb _ _ h))

-- A station's words with the counters of the start stored in them.
pub counters_stored : (start : TraceStart) (g : Station) (xs : List ℕ) → xs ≡ pack g
    → set (set (set (set xs next_neighbor_request_at start.next_neighbor_request) next_join_at start.next_join) passes_alone_at start.passes_alone) passes_short_at start.passes_short ≡ pack (counting start g)
unfolding pack front counting
counters_stored start g xs e = rw e

module _ (start : TraceStart) (b : List ℕ) (x : Option Head) (e : x ≡ input_of b) where
  pub ends_refused : (n : ℕ) → n ≡ 3 → x ≡ None → ended_at n (replicate words 0) ≡ ended_of start b
  unfolding ended_of input_end
  ends_refused n q h = ap (λ (m : ℕ). ended_at m (replicate words 0)) q ∙ ap (ended_at 3) no_state ∙ ap (λ (y : Option Head). input_end start y b) (sym h ∙ e)

  pub ends_whole : (head : Head) (r : Ended) → x ≡ Some head → r ≡ made_end start (P.new head.me none head.config) head b → r ≡ ended_of start b
  unfolding ended_of input_end
  ends_whole head r h k = k ∙ ap (λ (y : Option Head). input_end start y b) (sym h ∙ e)

  pub there : (head : Head) → x ≡ Some head → Laid b head
  there head h = laid b head (sym e ∙ h)
