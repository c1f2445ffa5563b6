-- Laws of the text of a run.
-- Assumes nothing.
use Prim.Native.Nat.{ℕ, suc, ◌+◌, ◌-◌, ◌≤◌, ◌<◌}
use mathlib.Core.Path.{◌≡◌, refl, sym, ap, ◌∙◌, subst}
use mathlib.Core.Bool.{Bool, true, false}
use mathlib.Core.Option.{none}
use mathlib.Core.List.{List, [], ◌++◌, append-nil, append_assoc}
use native.Mathlib.Omega.{arith}
use lib.ListN.{length, take, drop}
use Rattle.io.specs.Counts.{IsPrefixLen}
use lib.Dec.{leb, eqb}
use borrow.Author.Tests.{le-leb, lt-leb, leb-true, ltb-true, ltb-false, eq-eqb, ne_eqb}
use Rattle.base_lists.proofs.Choice.{split, choose_yes, choose_no}
use Rattle.hyparview.specs.declared.State.{State}
use Rattle.hyparview.specs.Handled.{handled}
use Rattle.run_text.specs.declared.Page.{Page}
use denote.MutBor.{MutBor}
use Rattle.run_text.specs.Text.{Prints, Begins}
use Rattle.run_text.proofs.Written.{begun, nothing, then, named}
use Rattle.base_lists.specs.Bytes.{overwrite}
use Rattle.spec_hyparview.specs.Handle.{new}
use Rattle.hyparview.specs.declared.MadeState.{MadeState}
use Rattle.hyparview.specs.Made as packed
use Rattle.hyparview.specs.Made.{lent, pack_made}
use Rattle.hyparview.specs.Room.{output_room}
use Rattle.record.specs.declared.Refusal.{Refusal}
use Rattle.record.specs.declared.Refusal.TheVariants.{Settings, Malformed}
use Rattle.record.specs.Refusals.{refusal_code}
use Rattle.run_input.specs.declared.Head.{Head}
use Rattle.std.specs.Prelude.{Option, Some, None, Result, Ok, Err}
use Rattle.run_input.specs.Input.{head_length, numbers, event_length, cut_events, input_of}
use Rattle.run_input.proofs.Laws.{Laid, laid}
use Rattle.run_walk.specs.declared.Runner.{Runner}
use Rattle.run_walk.specs.declared.Ran.{Ran}
use Rattle.run_walk.specs.Place.{Runs, met, passed}
use Rattle.run_walk.proofs.Laws.{next_words, next_left, next_events}
use Rattle.run_walk.proofs.Draws.{counted, first_draws, part_is}
use Rattle.run_walk.proofs.Fresh.{made_bare}
use Rattle.run_text.specs.Lines.{end_line, event_text}
use Rattle.run_listing.specs.Run.{outcome_text, events_text, laid_text, made_text, input_text, run_text}
use Rattle.run_listing.specs.Place.{fitting}
use Rattle.run_listing.specs.Opened.{first_place, opened_head, opened_input, opened_run, opened_text, rest_text}

-- ---- the events in order

pub record Running (room : ℕ) (whole events draws : List ℕ) (n : ℕ) (t : Page) (recs : List ℕ) (p : Runner) (r : Page) (i : ℕ) : Type 0 where
  pub low : i ≤ n
  pub records : length recs ≡ room
  pub done : List ℕ
  pub so_far : Prints done t r
  pub same : whole ≡ done ++ rest_text room p i n events draws

pub running_start : (s : State) (events draws : List ℕ) (n : ℕ) (t : Page) (recs : List ℕ)
    → Running (length recs) (events_text (length recs) 0 s.words (cut_events n events) draws) events draws n t recs (record { state = s; at = 0; used = 0 }) t 0
unfolding rest_text
running_start s events draws n t recs = record {
  low = omega arith;
  records = refl;
  done = [];
  so_far = nothing;
  same = let e : n ≡ n - 0 = omega arith in ap (λ (x : ℕ). events_text (length recs) 0 s.words (cut_events x events) draws) e;
}

one_event : (room i k : ℕ) (xs l ds : List ℕ) → events_text room i xs (cut_events (suc k) l) ds
    ≡ outcome_text i (handled xs (take (event_length l) l) ds room) ++ events_text room (i + 1) (handled xs (take (event_length l) l) ds room).words (cut_events k (drop (event_length l) l)) (drop (handled xs (take (event_length l) l) ds room).draws ds)
unfolding cut_events events_text
one_event room i k xs l ds = refl

-- what is left at a place is the lines of its event and what is left at the next
pub rest_step : (room : ℕ) (p q : Runner) (i n : ℕ) (events draws : List ℕ) → i < n → q ≡ passed room p events draws
    → rest_text room p i n events draws ≡ outcome_text i (met room p events draws) ++ rest_text room q (i + 1) n events draws
unfolding rest_text
rest_step room p q i n events draws h e =
    let c : n - i ≡ suc (n - (i + 1)) = omega (arith, h) in
    let words = next_words room p events draws q e in
    let places = next_events room p events draws q e in
    let left = next_left room p events draws q e in
    ap (λ (x : ℕ). events_text room i p.state.words (cut_events x (drop p.at events)) (drop p.used draws)) c
    ∙ (one_event room i (n - (i + 1)) p.state.words (drop p.at events) (drop p.used draws)
    ∙ (λ j. outcome_text i (met room p events draws) ++ events_text room (i + 1) (sym words j) (cut_events (n - (i + 1)) (places j)) (sym left j)))

pub rest_end : (room : ℕ) (p : Runner) (i n : ℕ) (events draws : List ℕ) → n ≤ i → rest_text room p i n events draws ≡ []
unfolding rest_text cut_events events_text
rest_end room p i n events draws h =
    let z : n - i ≡ 0 = omega (arith, h) in
    ap (λ (x : ℕ). events_text room i p.state.words (cut_events x (drop p.at events)) (drop p.used draws)) z

module _ (room : ℕ) (whole events draws : List ℕ) (n : ℕ) (t : Page) (recs : List ℕ) (p : Runner) (r : Page) (i : ℕ) (v : Running room whole events draws n t recs p r i) where
  -- the walk's step, and the lines of its event
  pub running_next : (a : Ran) (s : Page) (recs₂ : List ℕ) → i < n → Runs (length recs) p events draws a recs₂ → Prints (event_text i a.code a.draws recs₂) r s
      → length recs₂ ≡ length recs → Running room whole events draws n t recs₂ a.runner s (i + 1)
  unfolding outcome_text
  running_next a s recs₂ h ran put e₂ =
      let k : Runs room p events draws a recs₂ = subst (λ (x : ℕ). Runs x p events draws a recs₂) v.records ran in
      record {
        low = omega (arith, h);
        records = e₂ ∙ v.records;
        done = v.done ++ outcome_text i (met room p events draws);
        so_far = then (named (λ j. event_text i (k.code j) (k.draws j) (k.output j)) put) v.so_far;
        same = v.same
            ∙ (ap (λ (x : List ℕ). v.done ++ x) (rest_step room p a.runner i n events draws h k.runner)
            ∙ sym (append_assoc v.done (outcome_text i (met room p events draws)) _));
      }

  pub running_end : n ≤ i → Prints whole t r
  running_end h = named (sym (v.same ∙ (ap (λ (x : List ℕ). v.done ++ x) (rest_end room p i n events draws h) ∙ append-nil v.done))) v.so_far

-- ---- the whole

bytes_is : (m n : ℕ) → ◌≡◌ {A = Option ℕ} (Some m) (Some n) → m ≡ n
bytes_is m n e = cc

-- a text that fits is no longer than the bytes lent
module _ (w : ℕ) (out o : List ℕ) (r : Option ℕ) (n : ℕ) (e : r ≡ fitting w (length out)) (h : r ≡ Some n) (q : length o ≡ length out) where
  pub shown_within : n ≤ length o
  unfolding fitting
  shown_within =
      let t : Bool = leb w (length out) in
      split t (λ y. let s : w ≡ n = bytes_is w n (sym (choose_yes t (Some w) None y) ∙ (sym e ∙ h)) in omega (arith, s, q, leb-true w (length out) y))
      (λ f. let s : None ≡ Some n = sym (choose_no t (Some w) None f) ∙ (sym e ∙ h) in let z : ◌≡◌ {A = ℕ} 0 1 = cc in absurd (omega arith))

  pub shown_counted : n ≡ length (take n o)
  shown_counted = counted n o shown_within

pub walked : (room : ℕ) (xs : List ℕ) (head : Head) (b ns : List ℕ) (t r : Page) → IsPrefixLen head.draws ns → ns ≡ numbers (length ns) 0 (drop head.draws_at b)
    → Prints (events_text room 0 xs (cut_events head.events (take (head.draws_at - head_length) (drop head_length b))) (take head.draws ns)) t r → Prints (laid_text room xs head b) t r
unfolding laid_text
walked room xs head b ns t r h e k =
    named (λ j. events_text room 0 xs (cut_events head.events (sym (part_is head_length head.draws_at b) j)) (first_draws b ns head h e j)) k

-- ---- what is decided before the first event

module _ (head : Head) (m : MadeState) (own : List ℕ) (e : record { code = m.code; words = m.state.words } ≡ pack_made (new head.me (lent false own) head.config)) where
  made_is : record { code = m.code; words = m.state.words } ≡ pack_made (new head.me none head.config)
  made_is = made_bare head.me head.config _ own e

  pub open_unset : (m.code ≡ 0 → ⊥) → Err Settings ≡ opened_head head
  unfolding opened_head
  open_unset h = sym (choose_no _ (Ok head) (Err Settings) (ap (λ (x : packed.MadeWords). eqb x.code 0) (sym made_is) ∙ ne_eqb _ _ h))

  pub open_events : m.code ≡ 0 → Ok head ≡ opened_head head
  unfolding opened_head
  open_events h = sym (choose_yes _ (Ok head) (Err Settings) (ap (λ (x : packed.MadeWords). eqb x.code 0) (sym made_is) ∙ eq-eqb _ _ h))

  pub begins_at : ◌≡◌ {A = Runner} (record { state = m.state; at = 0; used = 0 }) (first_place head)
  unfolding first_place
  begins_at = λ j. record { state = record { words = (made_is j).words }; at = 0; used = 0 }

module _ (b : List ℕ) (x : Option Head) (e : x ≡ input_of b) where
  pub open_refused : x ≡ None → Err Malformed ≡ opened_run b
  unfolding opened_run opened_input
  open_refused h = ap opened_input (sym h ∙ e)

  pub open_whole : (head : Head) (r : Result Head Refusal) → x ≡ Some head → r ≡ opened_head head → r ≡ opened_run b
  unfolding opened_run opened_input
  open_whole head r h k = k ∙ ap opened_input (sym h ∙ e)

head_text : (head : Head) (b : List ℕ) → made_text (pack_made (new head.me none head.config)) head b ≡ opened_text (opened_head head) b
unfolding made_text opened_head opened_text first_place
head_text head b =
    let t : Bool = eqb (pack_made (new head.me none head.config)).code 0 in
    split t (λ e. choose_yes t _ _ e ∙ sym (ap (λ (o : Result Head Refusal). opened_text o b) (choose_yes t (Ok head) (Err Settings) e)))
    (λ e. choose_no t _ _ e ∙ sym (ap (λ (o : Result Head Refusal). opened_text o b) (choose_no t (Ok head) (Err Settings) e)))

input_opened : (x : Option Head) (b : List ℕ) → input_text x b ≡ opened_text (opened_input x) b
unfolding input_text opened_input opened_text
input_opened None b = refl
input_opened (Some head) b = head_text head b

-- the text of a run is what is printed after the decision
pub text_opened : (b : List ℕ) → run_text b ≡ opened_text (opened_run b) b
unfolding run_text opened_run
text_opened b = input_opened (input_of b) b

module _ (b : List ℕ) (o : Result Head Refusal) (e : o ≡ opened_run b) where
  text_is : run_text b ≡ opened_text o b
  text_is = text_opened b ∙ ap (λ (x : Result Head Refusal). opened_text x b) (sym e)

  pub line_text : (c : Refusal) → o ≡ Err c → run_text b ≡ end_line (refusal_code c) 0
  unfolding opened_text
  line_text c h = text_is ∙ ap (λ (x : Result Head Refusal). opened_text x b) h

  pub whole_text : (head : Head) → o ≡ Ok head → run_text b ≡ laid_text output_room (first_place head).state.words head b
  unfolding opened_text
  whole_text head h = text_is ∙ ap (λ (x : Result Head Refusal). opened_text x b) h

  pub run_line : (c : Refusal) (n : ℕ) (t r : Page) → o ≡ Err c → n ≡ refusal_code c → Prints (end_line n 0) t r → Prints (run_text b) t r
  run_line c n t r h e k = named (ap (λ (m : ℕ). end_line m 0) e ∙ sym (line_text c h)) k

  pub run_events : (head : Head) (q : Runner) (t r : Page) → o ≡ Ok head → q ≡ first_place head → Prints (laid_text output_room q.state.words head b) t r → Prints (run_text b) t r
  run_events head q t r h f k = named (ap (λ (x : Runner). laid_text output_room x.state.words head b) f ∙ sym (whole_text head h)) k

events_is : (x y : Head) → ◌≡◌ {A = Result Head Refusal} (Ok x) (Ok y) → x ≡ y
events_is x y e = cc

line_not : {C : Type 0} (c : Refusal) (head : Head) → ◌≡◌ {A = Result Head Refusal} (Err c) (Ok head) → C
line_not c head e = let z : ◌≡◌ {A = ℕ} 0 1 = cc in absurd (omega arith)

whole_head : (m head : Head) → opened_head m ≡ Ok head → m ≡ head
unfolding opened_head
whole_head m head e =
    let t : Bool = eqb (pack_made (new m.me none m.config)).code 0 in
    split t (λ y. events_is _ _ (sym (choose_yes t (Ok m) (Err Settings) y) ∙ e)) (λ n. line_not Settings head (sym (choose_no t (Ok m) (Err Settings) n) ∙ e))

whole_input : (x : Option Head) (head : Head) → opened_input x ≡ Ok head → x ≡ Some head
unfolding opened_input
whole_input None head e = line_not Malformed head e
whole_input (Some m) head e = ap Some (whole_head m head e)

-- an input with events has them in their places
pub opened_laid : (b : List ℕ) (o : Result Head Refusal) (head : Head) → o ≡ opened_run b → o ≡ Ok head → Laid b head
unfolding opened_run
opened_laid b o head e h = laid b head (whole_input (input_of b) head (sym e ∙ h))

-- ---- the answer

module _ (b : List ℕ) (out : MutBor (List ℕ)) (t₀ t : Page) (h : Begins out t₀) (k : Prints (run_text b) t₀ t) where
  pub run_fits : t.text.full ≡ false → (Some t.text.at ≡ fitting (length (run_text b)) (length out.now)) × (t.out.now ≡ overwrite out.now 0 (run_text b))
  unfolding fitting
  run_fits f =
      let s = k.puts [] out.now (begun h) in
      let l : length (run_text b) ≤ length out.now = ltb-false (length out.now) (length (run_text b)) (sym s.over ∙ f) in
      let m : t.text.at ≡ length (run_text b) = omega (arith, s.reached, l) in
      (ap Some m ∙ sym (choose_yes _ _ _ (le-leb (length (run_text b)) (length out.now) l)), s.bytes)

  pub run_cut : t.text.full ≡ true → (None ≡ fitting (length (run_text b)) (length out.now)) × (t.out.now ≡ overwrite out.now 0 (run_text b))
  unfolding fitting
  run_cut f =
      let s = k.puts [] out.now (begun h) in
      let l : length out.now < length (run_text b) = ltb-true (length out.now) (length (run_text b)) (sym s.over ∙ f) in
      (sym (choose_no _ _ _ (lt-leb (length (run_text b)) (length out.now) l)), s.bytes)
