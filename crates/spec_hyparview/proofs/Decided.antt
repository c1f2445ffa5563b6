-- Code 5 is answered only where fewer than 512 of the draws lent were kept, and of those that an accepted call uses at most 512 are kept.
-- Assumes nothing.
use mathlib.Core.Path.{◌≡◌, refl, sym, ap, subst, ◌∙◌}
use mathlib.Core.Bool.{true}
use mathlib.Core.List.{List, [], ◌∷◌, ◌++◌, append-nil}
use Prim.Native.Nat.{ℕ, ◌+◌, ◌≤◌}
use native.Mathlib.Omega.{arith}
use lib.ListN.{length, take, length-append, length-drop}
use lib.Seq.{take-length, take-append_seam}
use lib.Dec.{eqb}
use borrow.Author.Tests.{eqb-true, eqb-false, lt-ltb}
use Rattle.base_lists.specs.Tests.{All}
use Rattle.base_lists.proofs.Choice.{by_choice, choose_yes, split}
use Rattle.base_util.specs.Chances.{sure_end, sure}
use Rattle.record.specs.Format.{Rec}
use Rattle.record.specs.Read.{Reading, read_event, refused, event}
use Rattle.spec_hyparview.specs.Station.{Station}
use Rattle.spec_hyparview.specs.Run.{Run}
use Rattle.spec_hyparview.specs.Rules.{all_under, station_ok}
use Rattle.spec_hyparview.specs.Kept.{Struck, FewerKept}
use Rattle.spec_hyparview.specs.Handle.{Result, start, steps, refusal, accepted, finish, handle_reading, handle}
use Rattle.spec_hyparview.proofs.Reading.{Readable, by_reading}
use Rattle.spec_hyparview.proofs.Whole.{ok_steps}
use Rattle.spec_hyparview.proofs.Tested.{between_of}
use Rattle.spec_hyparview.proofs.Readers.{Which, whole, kept, small, part, Sure}
use Rattle.spec_hyparview.proofs.Plays.{Like, At, Alike, Follows, goes, ends, crowded}
use Rattle.spec_hyparview.proofs.Played.{plays_steps}
use Rattle.spec_hyparview.proofs.Front.{finish_code}
use Rattle.spec_hyparview.proofs.Enough.{pays_all, all_sure}

-- the same of a machine that answers as another does
pub fewer_as : {S T : Type 0} {n : ℕ} {code used code' used' : List ℕ → ℕ} {state : List ℕ → S} {state' : List ℕ → T} {ds : List ℕ} (f : S → T)
    → ((l : List ℕ) → code' l ≡ code l) → ((l : List ℕ) → used' l ≡ used l) → ((l : List ℕ) → state' l ≡ f (state l)) → FewerKept n code used state ds → FewerKept n code' used' state' ds
fewer_as {ds = ds} f c u s k =
    let ks = k.kept in
    let a = k.are in
    record {
      kept = ks;
      are = record {
        struck = a.struck;
        same_code = λ more. c (ks ++ more) ∙ (a.same_code more ∙ sym (c (ds ++ more)));
        same_state = λ more. s (ks ++ more) ∙ (ap f (a.same_state more) ∙ sym (s (ds ++ more)));
        same_used = λ more z. omega (arith, u (ks ++ more), u (ds ++ more), a.same_used more (sym (c (ds ++ more)) ∙ z));
      };
      few = k.few;
    }

all_below : (js : List ℕ) → All Sure js → all_under sure_end js ≡ true
unfolding all_under All
all_below [] a = refl
all_below (j ∷ js) a = rw (lt-ltb j sure_end a.0) (all_below js a.1)

finish_open : (s : Station) (r : Run) → r.code ≡ 0 → ((finish s r).state ≡ r.station) × ((finish s r).used ≡ r.used)
unfolding finish accepted refusal
finish_open s r z = by_choice (λ (a : Result). (a.state ≡ r.station) × (a.used ≡ r.used)) (eqb r.code 0) (λ e. (refl, refl)) (λ e. absurd (eqb-false r.code 0 e z))

finish_shut : (s : Station) (r : Run) → (r.code ≡ 0 → ⊥) → (finish s r).state ≡ s
unfolding finish accepted refusal
finish_shut s r n = by_choice (λ (a : Result). a.state ≡ s) (eqb r.code 0) (λ e. absurd (n (eqb-true r.code 0 e))) (λ e. refl)

same_finish : (s : Station) (r w : Run) → Like r w → (finish s w).state ≡ (finish s r).state
same_finish s r w l =
    split (eqb r.code 0)
    (λ e. let z = eqb-true r.code 0 e in (finish_open s w (l.code ∙ z)).0 ∙ (l.station ∙ sym (finish_open s r z).0))
    (λ e. let n = eqb-false r.code 0 e in finish_shut s w (λ o. n (sym l.code ∙ o)) ∙ sym (finish_shut s r n))

module _ (s : Station) (ok : station_ok s ≡ true) (room : ℕ) (e : Rec) (w : Readable e) where
  abbrev run : List ℕ → Run
  run ds = steps e (start s ds room)

  abbrev answered : List ℕ → Result
  answered ds = finish s (run ds)

  all_drawn : (ds : List ℕ) (rest : List ℕ) → At (run ds) rest → (run ds).used + length rest ≡ length ds
  all_drawn ds rest a =
      let k = ok_steps (s.config.active_view_capacity + 9) ds room e w (pays_all s.config.active_view_capacity e) (between_of s ok) in
      omega (arith, a.within, ap length a.left, length-drop (run ds).used (run ds).draws, ap length k.codes.lent)

  from_start : (ds js : List ℕ) → Like (start s ds room) (start s js room)
  from_start ds js = record { station = refl; room = refl; written = refl; code = refl }

  at_start : (ds : List ℕ) → At (start s ds room) ds
  at_start ds = record { within = omega arith; left = refl }

  few_kept : (ds : List ℕ) → (run ds).code ≡ 5 → Follows (steps e) (start s ds room) ds → FewerKept 512 (λ l. (answered l).code) (λ l. (answered l).used) (λ l. (answered l).state) ds
  unfolding part
  few_kept ds five (goes p t q n k) = absurd (n five)
  few_kept ds five (crowded js sure k) =
      let o = ok_steps (s.config.active_view_capacity + 9) js room e w (pays_all s.config.active_view_capacity e) (between_of s ok) in
      let x = k (start s js room) (from_start ds js) (at_start js) in
      absurd (x.1 (o.codes.roomy x.0))
  few_kept ds five (ends p q k h) =
      let js = p.small_of in
      let ks = p.kept_of in
      let o = ok_steps (s.config.active_view_capacity + 9) js room e w (pays_all s.config.active_view_capacity e) (between_of s ok) in
      let g = o.codes.five (k small (start s js room) (from_start ds js) (at_start js)) in
      let alike : (more : List ℕ) → Alike (run (ds ++ more)) (run (ks ++ more)) = (λ more.
      h more (start s (ds ++ more) room) (start s (ks ++ more) room) (from_start ds (ds ++ more)) (from_start ds (ks ++ more))
      (subst (λ (l : List ℕ). At (start s (ds ++ more) room) (l ++ more)) q (at_start (ds ++ more))) (at_start (ks ++ more))) in
      record {
        kept = ks;
        are = record {
          struck = subst (λ (l : List ℕ). Struck l ks) (sym q) p.struck;
          same_code = λ more. finish_code s (run (ks ++ more)) ∙ ((alike more).like.code ∙ sym (finish_code s (run (ds ++ more))));
          same_state = λ more. same_finish s (run (ds ++ more)) (run (ks ++ more)) (alike more).like;
          same_used = λ more z.
              let y : (run (ds ++ more)).code ≡ 0 = sym (finish_code s (run (ds ++ more))) ∙ z in
              let b = (alike more).both y in
              omega (arith, (finish_open s (run (ds ++ more)) y).1, (finish_open s (run (ks ++ more)) ((alike more).like.code ∙ y)).1, all_drawn (ds ++ more) b.rest b.here, all_drawn (ks ++ more) b.rest b.there, length-append ds more, length-append ks more);
        };
        few = omega (arith, g, all_sure js (all_below js p.sure), p.paired);
      }

  kept_event : (ds : List ℕ) → (answered ds).code ≡ 5 → FewerKept 512 (λ l. (answered l).code) (λ l. (answered l).used) (λ l. (answered l).state) ds
  kept_event ds five = few_kept ds (sym (finish_code s (run ds)) ∙ five) ((plays_steps e).follows (start s ds room) ds refl (at_start ds))

  -- an accepted run has read what it used, and does the same with what is kept of it
  used_kept : (ds : List ℕ) → (run ds).code ≡ 0 → Follows (steps e) (start s ds room) ds → FewerKept 513 (λ l. (answered l).code) (λ l. (answered l).used) (λ l. (answered l).state) (take (run ds).used ds)
  unfolding part
  used_kept ds z (ends p q k h) = absurd (omega (arith, z, k whole (start s ds room) (from_start ds ds) (subst (At (start s ds room)) q (at_start ds))))
  used_kept ds z (crowded js sure k) =
      let o = ok_steps (s.config.active_view_capacity + 9) js room e w (pays_all s.config.active_view_capacity e) (between_of s ok) in
      let x = k (start s js room) (from_start ds js) (at_start js) in
      absurd (x.1 (o.codes.roomy x.0))
  used_kept ds z (goes p t q n k) =
      let js = p.small_of in
      let ks = p.kept_of in
      let ws = p.whole_of in
      let o = ok_steps (s.config.active_view_capacity + 9) js room e w (pays_all s.config.active_view_capacity e) (between_of s ok) in
      let reads : (i : Which) (more : List ℕ) → Like (run ds) (run (part i p ++ more)) × At (run (part i p ++ more)) more = (λ i more.
      k i (start s (part i p ++ more) room) more (from_start ds (part i p ++ more)) (at_start (part i p ++ more))) in
      let small-read = k small (start s js room) [] (from_start ds js) (subst (At (start s js room)) (sym (append-nil js)) (at_start js)) in
      let used-of : (i : Which) (more : List ℕ) → (run (part i p ++ more)).used ≡ length (part i p) = (λ i more.
      omega (arith, all_drawn (part i p ++ more) more (reads i more).1, length-append (part i p) more)) in
      let all : (run ds).used ≡ length ws = ap (λ (l : List ℕ). (run l).used) q ∙ used-of whole t in
      let front : take (run ds).used ds ≡ ws = ap (λ (l : List ℕ). take (run ds).used l) q ∙ (ap (λ (j : ℕ). take j (ws ++ t)) all ∙ take-append_seam ws t) in
      let spent_all : (run js).used ≡ length js = omega (arith, all_drawn js [] small-read.1) in
      let g = o.good (small-read.0.code ∙ z) in
      let drawn : sure (take (run js).used (run js).draws) ≡ sure js =
      ap (λ (l : List ℕ). sure (take (run js).used l)) o.codes.lent ∙ (ap (λ (j : ℕ). sure (take j js)) spent_all ∙ ap sure (take-length js)) in
      subst (FewerKept 513 (λ l. (answered l).code) (λ l. (answered l).used) (λ l. (answered l).state)) (sym front) (record {
        kept = ks;
        are = record {
          struck = p.struck;
          same_code = λ more. finish_code s (run (ks ++ more)) ∙ ((reads kept more).0.code ∙ (sym (reads whole more).0.code ∙ sym (finish_code s (run (ws ++ more)))));
          same_state = λ more. same_finish s (run ds) (run (ks ++ more)) (reads kept more).0 ∙ sym (same_finish s (run ds) (run (ws ++ more)) (reads whole more).0);
          same_used = λ more y. omega (
            arith,
            (finish_open s (run (ws ++ more)) ((reads whole more).0.code ∙ z)).1,
            (finish_open s (run (ks ++ more)) ((reads kept more).0.code ∙ z)).1,
            used-of whole more,
            used-of kept more,
          );
        };
        few = omega (arith, g.draws_left, drawn, all_sure js (all_below js p.sure), p.paired);
      })

  used_event : (ds : List ℕ) → (answered ds).code ≡ 0 → FewerKept 513 (λ l. (answered l).code) (λ l. (answered l).used) (λ l. (answered l).state) (take (answered ds).used ds)
  used_event ds zero =
      let z = sym (finish_code s (run ds)) ∙ zero in
      subst (λ (n : ℕ). FewerKept 513 (λ l. (answered l).code) (λ l. (answered l).used) (λ l. (answered l).state) (take n ds)) (sym (finish_open s (run ds) z).1)
      (used_kept ds z ((plays_steps e).follows (start s ds room) ds refl (at_start ds)))

-- by what the event is read as
module _ (s : Station) (ok : station_ok s ≡ true) (room : ℕ) (ds : List ℕ) where
  abbrev KeptOf : ℕ → Reading → List ℕ → Type 0
  KeptOf n x l = FewerKept n (λ k. (handle_reading x s k room).code) (λ k. (handle_reading x s k room).used) (λ k. (handle_reading x s k room).state) l

  abbrev Fewer : Reading → Type 0
  Fewer x = (handle_reading x s ds room).code ≡ 5 → KeptOf 512 x ds

  abbrev Used : Reading → Type 0
  Used x = (handle_reading x s ds room).code ≡ 0 → KeptOf 513 x (take (handle_reading x s ds room).used ds)

  no_event : (c : ℕ) → 3 ≤ c → c ≤ 4 → Fewer (refused c) × Used (refused c)
  unfolding handle_reading refusal
  no_event c l h = (λ five. absurd (omega (arith, h, five)), λ zero. absurd (omega (arith, l, zero)))

  an_event : (e : Rec) → Readable e → Fewer (event e) × Used (event e)
  unfolding handle_reading
  an_event e w = (λ five. kept_event s ok room e w ds five, λ zero. used_event s ok room e w ds zero)

module _ (s : Station) (ok : station_ok s ≡ true) (b : List ℕ) (bytes : all_under 256 b ≡ true) (ds : List ℕ) (room : ℕ) where
  abbrev KeptBy : ℕ → List ℕ → Type 0
  KeptBy n l = FewerKept n (λ k. (handle s b k room).code) (λ k. (handle s b k room).used) (λ k. (handle s b k room).state) l

  is_reading : (l : List ℕ) → handle s b l room ≡ handle_reading (read_event b) s l room
  unfolding handle
  is_reading l = choose_yes (station_ok s) (handle_reading (read_event b) s l room) (refusal 2 s room) ok

  decided : Fewer s ok room ds (read_event b) × Used s ok room ds (read_event b)
  decided = by_reading b bytes (λ (x : Reading). Fewer s ok room ds x × Used s ok room ds x) (λ c l h. no_event s ok room ds c l h) (λ w. an_event s ok room ds _ w)

  carried : (n : ℕ) (l : List ℕ) → KeptOf s ok room ds n (read_event b) l → KeptBy n l
  carried n l k =
      fewer_as (λ (x : Station). x) (λ l. ap (λ (a : Result). a.code) (is_reading l)) (λ l. ap (λ (a : Result). a.used) (is_reading l)) (λ l. ap (λ (a : Result). a.state) (is_reading l)) k

  -- of one call at a station that passes the rules
  pub fewer_kept : (handle s b ds room).code ≡ 5 → KeptBy 512 ds
  fewer_kept five = carried 512 ds (decided.0 (sym (ap (λ (a : Result). a.code) (is_reading ds)) ∙ five))

  pub most_kept : (handle s b ds room).code ≡ 0 → KeptBy 513 (take (handle s b ds room).used ds)
  most_kept zero =
      subst (λ (n : ℕ). KeptBy 513 (take n ds)) (sym (ap (λ (a : Result). a.used) (is_reading ds)))
      (carried 513 (take (handle_reading (read_event b) s ds room).used ds) (decided.1 (sym (ap (λ (a : Result). a.code) (is_reading ds)) ∙ zero)))
