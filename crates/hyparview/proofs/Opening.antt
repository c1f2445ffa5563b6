-- How an event starts at a state that keeps the rules, and that its end is the definition's answer.
-- Assumes nothing.
use Prim.Native.Nat.{ℕ, ◌≤◌, ◌<◌}
use mathlib.Core.Path.{◌≡◌, refl, sym, ap, ◌∙◌, subst}
use mathlib.Core.Bool.{true, false, ◌&&◌}
use mathlib.Core.List.{List}
use native.Mathlib.Omega.{arith}
use lib.ListN.{length, get_or}
use lib.Seq.{length-take-le}
use lib.Dec.{eqb, ltb}
use borrow.Author.Tests.{ne_eqb, eqb-true, ltb-false}
use Rattle.base_lists.proofs.Choice.{by_choice, choose_yes, choose_no, split, and_left, and_right, and_false, clash}
use Rattle.base_columns.specs.Columns.{words_end}
use Rattle.record.specs.Kinds.{is_event_kind}
use Rattle.record.specs.declared.Header.{Header}
use Rattle.record.specs.Refusals.{refusal_code}
use Rattle.record.specs.declared.Refusal.{Refusal}
use Rattle.std.specs.Prelude.{Result, Ok, Err}
use Rattle.record.specs.Read as R
use Rattle.record.specs.Answers.{EventIs, coded, answer_to, event_answer, event_in}
use Rattle.spec_hyparview.specs.Budgets.{arriving}
use Rattle.spec_hyparview.specs.Station.{peers_end}
use Rattle.spec_hyparview.specs.Run.{Run}
use Rattle.spec_hyparview.specs.Rules.{station_ok}
use Rattle.spec_hyparview.specs.Handle as P
use Rattle.spec_hyparview.specs.Handle.{start, steps, handle_reading}
use Rattle.spec_hyparview.proofs.Invariant as I
use Rattle.spec_hyparview.proofs.Invariant.{calm}
use Rattle.spec_hyparview.proofs.Keeping.{ease}
use Rattle.spec_hyparview.proofs.Reading.{readable}
use Rattle.spec_hyparview.proofs.Bounds.{begun, ready}
use Rattle.work.specs.declared.Work.{Work}
use Rattle.hyparview_state.specs.Layout as layout
use Rattle.hyparview_state.specs.Unpack.{unpack, long}
use Rattle.hyparview_state.specs.Work.{Held, work_of, run, run_of, Fine, Does}
use Rattle.hyparview_rules.specs.Ok.{packed_ok, state_ok, Keeps}
use Rattle.hyparview_rules.proofs.Back.{ok_back, packed_back}
use Rattle.hyparview_rules.proofs.Packed.{ok_state}
use Rattle.hyparview.specs.Taken.{ReadAs}
use Rattle.hyparview.specs.Handled.{Outcome, cleared, refused_words, ended, packed_answer, handled}
use Rattle.step_dispatch.specs.Begun.{Opens}

-- ---- what holds at the start

-- the work at the start of an event
abbrev pub at_start : List ℕ → Held
at_start xs = record { state = xs; drawn = 0; written = 0; code = 0 }

module _ (xs ds out : List ℕ) (ok : state_ok xs ≡ true) where
  pub starts : Fine (at_start xs) ds out
  starts = record { ready = record { packed = (ok_state xs ok).packed; drawn = omega arith }; written = omega arith }

  start_is : run (at_start xs) ds out ≡ start (unpack xs) ds (length out)
  unfolding run_of
  start_is = refl

pub opens : (xs b : List ℕ) (h : Header) (ds out : List ℕ) → state_ok xs ≡ true → ReadAs b h → h.peer < peers_end → Opens h.kind (run (at_start xs) ds out)
unfolding R.rec_of_by
opens xs b h ds out ok v narrow =
    let e = v.headed.head in
    let w = readable b v.headed.formed (subst (λ (x : Header). is_event_kind x.kind ≡ true) e v.known) (subst (λ (x : Header). x.nodes ≤ 32) e v.few) (subst (λ (x : Header). x.peer < peers_end) e narrow) in
    record {
      between = λ n. let k = ready (unpack xs) (ok_state xs ok).rules ds (length out) (R.rec_of b) w (ne_eqb _ _ (λ z. n (ap (λ (x : Header). x.kind) e ∙ z))) in
          record {
            fixed = begun (unpack xs) (ok_state xs ok).rules ds (length out) (R.rec_of b) w;
            messages = 0;
            bytes = 0;
            draws = 0;
            ok = subst (I.Ok (begun (unpack xs) (ok_state xs ok).rules ds (length out) (R.rec_of b) w) calm 0 arriving 40) (sym (start_is xs ds out ok)) (ease (omega arith) (omega arith) (omega arith) k);
          };
    }

-- ---- the end

-- words that a step hands back, which have 64 bits
accepted_is : (a : Held) (ds o : List ℕ) → Fine a ds o → ((i : ℕ) → get_or a.state i 0 < words_end) → record { code = 0; draws = a.drawn; words = a.state; output = cleared a.written o } ≡ packed_answer (P.accepted (run a ds o))
unfolding packed_answer P.accepted cleared run_of
accepted_is a ds o v small = rw (packed_back a.state v.ready.packed small, length-take-le a.written o v.written)

module _ (xs : List ℕ) (ok : packed_ok xs ≡ true) where
  pub refusal_is : (c room : ℕ) → refused_words c xs room ≡ packed_answer (P.refusal c (unpack xs) room)
  unfolding refused_words packed_answer P.refusal
  refusal_is c room = rw (ok_back xs ok)

  ended_is : (a : Work) (ys ds o : List ℕ) → Fine (work_of a ys) ds o → (a.code ≡ 0 → (i : ℕ) → get_or ys i 0 < words_end) → ended xs a ys o ≡ packed_answer (P.finish (unpack xs) (run (work_of a ys) ds o))
  unfolding ended P.finish run_of
  ended_is a ys ds o v small =
      split (eqb a.code 0)
      (λ z. choose_yes _ _ _ z ∙ (accepted_is (work_of a ys) ds o v (small (eqb-true _ _ z)) ∙ ap packed_answer (sym (choose_yes _ _ _ z))))
      (λ z. choose_no _ _ _ z ∙ (refusal_is a.code (length o) ∙ ap packed_answer (sym (choose_no _ _ _ z))))

pub packed_of : (xs : List ℕ) → state_ok xs ≡ true → packed_ok xs ≡ true
unfolding state_ok
packed_of xs e = and_left _ _ e

pub rules_of : (xs : List ℕ) → state_ok xs ≡ true → station_ok (unpack xs) ≡ true
unfolding state_ok
rules_of xs e = and_right (packed_ok xs) _ e

-- ---- the whole call

-- the answer at words that keep the rules is that to what b reads as
handled_ok : (xs b ds : List ℕ) (room : ℕ) → state_ok xs ≡ true → handled xs b ds room ≡ packed_answer (handle_reading (R.read_event b) (unpack xs) ds room)
unfolding handled P.handle
handled_ok xs b ds room ok = choose_yes _ _ _ (packed_of xs ok) ∙ ap packed_answer (choose_yes _ _ _ (rules_of xs ok))

pub event_handled : (xs b : List ℕ) (h : Header) (a : Work) (ys zs ds out o₁ : List ℕ) (r : Outcome) → Keeps xs zs → ReadAs b h → (a.code ≡ 0 → (i : ℕ) → get_or ys i 0 < words_end) → r ≡ ended xs a ys o₁
    → Does (work_of a ys) ds o₁ (steps (R.rec_of b) (run (at_start zs) ds out)) → r ≡ handled xs b ds (length out)
unfolding handle_reading
event_handled xs b h a ys zs ds out o₁ r k v small e d =
    let ok = k.ok in
    e ∙ (ended_is xs (packed_of xs ok) a ys ds o₁ d.fine small
    ∙ (ap (λ (g : Run). packed_answer (P.finish (unpack xs) g)) (d.same ∙ ap (λ (l : List ℕ). steps (R.rec_of b) (run (at_start l) ds out)) k.same ∙ ap (steps (R.rec_of b)) (start_is xs ds out ok))
    ∙ (ap (λ (x : R.Reading). packed_answer (handle_reading x (unpack xs) ds (length out))) v.reads ∙ sym (handled_ok xs b ds (length out) ok))))

pub handled_two : (xs b ds : List ℕ) (room : ℕ) → state_ok xs ≡ false → refused_words 2 xs room ≡ handled xs b ds room
unfolding handled P.handle state_ok
handled_two xs b ds room broken =
    split (packed_ok xs)
    (λ p. refusal_is xs p 2 room ∙ (ap packed_answer (sym (choose_no _ _ _ (and_false (packed_ok xs) (station_ok (unpack xs)) broken (clash (packed_ok xs) p) (λ z. z)))) ∙ sym (choose_yes _ _ _ p)))
    (λ p. sym (choose_no _ _ _ p))

module _ (xs b ds : List ℕ) (room : ℕ) (r : Outcome) where
  pub handled_broken : (k : ℕ) → k ≡ 2 → state_ok xs ≡ false → r ≡ refused_words k xs room → r ≡ handled xs b ds room
  handled_broken k z broken e = e ∙ ap (λ (n : ℕ). refused_words n xs room) z ∙ handled_two xs b ds room broken

  pub handled_unread : (x : Result Header Refusal) (c : Refusal) (k : ℕ) → state_ok xs ≡ true → EventIs b x → x ≡ Err c → k ≡ refusal_code c → r ≡ refused_words k xs room → r ≡ handled xs b ds room
  unfolding event_in handle_reading
  handled_unread x c k ok is q z d =
      let reads : R.refused (refusal_code c) ≡ R.read_event b = ap (event_in b) (sym q) ∙ is.reads in
      d ∙ (ap (λ (n : ℕ). refused_words n xs room) z ∙ (refusal_is xs (packed_of xs ok) (refusal_code c) room
      ∙ (ap (λ (y : R.Reading). packed_answer (handle_reading y (unpack xs) ds room)) reads ∙ sym (handled_ok xs b ds room ok))))

-- words that keep the rules are as many as a state has
pub long_ok : (xs : List ℕ) → state_ok xs ≡ true → length xs ≡ layout.words
long_ok xs ok = long (ok_state xs ok).packed

-- the array of words that keep the rules keeps them
pub kept_ok : (xs ys : List ℕ) → Keeps xs ys → state_ok ys ≡ true
kept_ok xs ys k = ap state_ok k.same ∙ k.ok

-- ---- the header that was read

header_in : Header → Result Header ℕ → Header
header_in w (Err c) = w
header_in w (Ok h) = h

is_record : Result Header ℕ → ℕ
is_record (Err c) = 0
is_record (Ok h) = 1

read_of : (b : List ℕ) (h : Header) → R.event (R.rec_of b) ≡ R.read_event b → event_answer b ≡ Ok h → ReadAs b h
unfolding event_answer answer_to R.read_event R.is_event R.header_of_by header_in is_record
read_of b h reads =
    by_choice X _ (λ z q. absurd (no_refusal 3 q))
    (λ z. by_choice X (ltb 32 (R.header_of b).nodes) (λ y q. absurd (no_refusal 4 q))
    (λ y. by_choice X (R.well_formed b && R.is_event (R.header_of b))
    (λ f q. let e : R.header_of b ≡ h = ap (header_in h) q in record {
      headed = record { formed = and_left _ _ f; head = sym e };
      known = subst (λ (w : Header). is_event_kind w.kind ≡ true) e (and_left (is_event_kind (R.header_of b).kind) _ (and_right (R.well_formed b) _ f));
      few = subst (λ (w : Header). w.nodes ≤ 32) e (let n = ltb-false 32 (R.header_of b).nodes y in omega (arith, n));
      reads = reads;
    })
    (λ f q. absurd (no_refusal 3 q))))
  where
    X : R.Reading → Type 0
    X x = answer_to b x ≡ Ok h → ReadAs b h

    no_refusal : (c : ℕ) → ◌≡◌ {A = Result Header ℕ} (Err c) (Ok h) → ⊥
    no_refusal c q = let z : ◌≡◌ {A = ℕ} 0 1 = ap is_record q in omega (arith, z)

pub recorded : (b : List ℕ) (x : Result Header Refusal) (h : Header) → EventIs b x → x ≡ Ok h → ReadAs b h
unfolding event_in coded
recorded b x h k q = read_of b h (ap (event_in b) (sym q) ∙ k.reads) (sym k.is ∙ ap coded q)
