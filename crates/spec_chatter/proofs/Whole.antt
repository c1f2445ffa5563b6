-- The claims of every list of calls to a new station.
-- Assumes nothing.
use mathlib.Core.Path.{◌≡◌, refl, sym, ap, subst, ◌∙◌}
use mathlib.Core.Bool.{Bool, true, ◌&&◌}
use mathlib.Core.List.{List, [], ◌∷◌, ◌++◌}
use mathlib.Core.Option.{some}
use Prim.Native.Nat.{ℕ, ◌+◌}
use native.Mathlib.Omega.{arith}
use lib.Dec.{leb}
use borrow.Author.Tests.{leb-true, leb-false}
use Rattle.base_lists.specs.Lists.{choose}
use Rattle.base_lists.specs.Maps.{keys, lookup}
use Rattle.base_lists.proofs.Choice.{choose_yes, split, and_left, and_right}
use Rattle.base_timing.specs.Timing.{in_range}
use Rattle.base_timing.specs.declared.Config.{Config}
use Rattle.base_peer.specs.Data.{Data}
use Rattle.record.specs.Kinds.{RetryJoin, kind_byte}
use Rattle.spec_hyparview.specs.Station.{Station}
use Rattle.spec_hyparview.specs.Rules.{short_data}
use Rattle.spec_hyparview.specs.Handle.{Made, new, new_station}
use Rattle.spec_history.specs.Ledger.{Ledger}
use Rattle.spec_history.specs.Calls.{Call, NewGiven, state_after, definition}
use Rattle.spec_history.proofs.Kept.{Kept, fine_answer, kept_new, accepted_new}
use Rattle.spec_chatter.specs.Traffic.{Item, came, went, traffic}
use Rattle.spec_chatter.proofs.Book.{Book, empty_book, book_after, keeps_book}
use Rattle.spec_chatter.specs.Claims.{times_scheduled, times_expired, accepted_events, waiting, Among, Chatter, ChatterHolds}
use Rattle.spec_chatter.proofs.Moves.{book_of}
use Rattle.spec_chatter.proofs.History.{running, Follows, no_more, called}
use Rattle.spec_chatter.proofs.Words.{after_append, keeps_append, in_words, event_between}
use Rattle.spec_chatter.proofs.Lists.{none_found}
use Rattle.spec_chatter.proofs.Waits.{Timed, timed_after}

scheduled_append : (k : ℕ) (xs ys : List Item) → times_scheduled k (xs ++ ys) ≡ times_scheduled k xs + times_scheduled k ys
unfolding times_scheduled
scheduled_append k [] ys = omega arith
scheduled_append k (came h ∷ xs) ys = scheduled_append k xs ys
scheduled_append k (went h ∷ xs) ys = omega (arith, scheduled_append k xs ys)

expired_append : (k : ℕ) (xs ys : List Item) → times_expired k (xs ++ ys) ≡ times_expired k xs + times_expired k ys
unfolding times_expired
expired_append k [] ys = omega arith
expired_append k (came h ∷ xs) ys = omega (arith, expired_append k xs ys)
expired_append k (went h ∷ xs) ys = expired_append k xs ys

events_append : (xs ys : List Item) → accepted_events (xs ++ ys) ≡ accepted_events xs + accepted_events ys
unfolding accepted_events
events_append [] ys = omega arith
events_append (came h ∷ xs) ys = omega (arith, events_append xs ys)
events_append (went h ∷ xs) ys = events_append xs ys

waiting_append : (k : ℕ) (xs ys : List Item) (ws : List (ℕ × ℕ)) → waiting k (xs ++ ys) ws ≡ waiting k ys (waiting k xs ws)
unfolding waiting
waiting_append k [] ys ws = refl
waiting_append k (came h ∷ xs) ys ws = waiting_append k xs ys _
waiting_append k (went h ∷ xs) ys ws = waiting_append k xs ys _

joined : {xs ys : List Item} {s t u : Station} → Follows xs s t → Follows ys t u → Follows (xs ++ ys) s u
joined {xs} {ys} {s} {t} {u} f g = record {
  books = after_append xs ys (book_of s) ∙ (ap (book_after ys) f.books ∙ g.books);
  clean = keeps_append xs ys (book_of s) ∙ (ap (λ (b : Bool). b && keeps_book ys (book_after xs (book_of s))) f.clean ∙ (ap (keeps_book ys) f.books ∙ g.clean));
  ones = omega (arith, scheduled_append 1 xs ys, expired_append 1 xs ys, f.ones, g.ones);
  twos = omega (arith, scheduled_append 2 xs ys, expired_append 2 xs ys, f.twos, g.twos);
  starts = λ h. split (leb 1 (accepted_events xs + running s))
      (λ e. let a = f.starts (leb-true 1 (accepted_events xs + running s) e) in g.starts (omega (arith, a)))
      (λ e. let a = leb-false 1 (accepted_events xs + running s) e in g.starts (omega (arith, a, h, events_append xs ys)));
  awaits = λ ws w. subst (Timed u.joins) (sym (waiting_append 4 xs ys ws)) (g.awaits (waiting (kind_byte RetryJoin) xs ws) (f.awaits ws w));
}

follows : {c : Config} {me : ℕ} → in_range c ≡ true → (vs : List Call) {l : Ledger} {s : Station} → Kept c me l s → Follows (traffic definition vs s) s (state_after definition vs s)
unfolding traffic state_after
follows ranges [] {s = s} h = no_more s
follows ranges (v ∷ vs) h = joined (called ranges h v) (follows ranges vs (fine_answer ranges v h).kept)

module _ (me : ℕ) (d : Data) (c : Config) where
  abbrev fresh : Station
  fresh = new_station me d c

  no_book : book_of fresh ≡ empty_book
  unfolding new_station empty_book keys
  no_book = refl

  not_running : running fresh ≡ 0
  unfolding new_station choose
  not_running = refl

  none_asked : (p n : ℕ) → lookup p empty_book.asked ≡ some n → Among p n []
  unfolding empty_book lookup
  none_asked p n e = none_found e

  none_awaited : Timed fresh.joins []
  unfolding new_station lookup
  none_awaited p n e = none_found e

  from_new : NewGiven me d → in_range c ≡ true → short_data d ≡ true → (vs : List Call) → Chatter (traffic definition vs fresh) (state_after definition vs fresh)
  from_new given r sd vs =
      let xs = traffic definition vs fresh in
      let f = follows r vs (kept_new me d c given r sd) in
      let k : keeps_book xs empty_book ≡ true = ap (keeps_book xs) (sym no_book) ∙ f.clean in
      let b : book_after xs empty_book ≡ book_of (state_after definition vs fresh) = ap (book_after xs) (sym no_book) ∙ f.books in
      record {
        no_chatter = in_words xs k;
        one_in_each_event = event_between xs k;
        no_lost_clock = record {
          shuffles = λ e. let o = f.starts (omega (arith, e)) in omega (arith, f.ones, o, not_running);
          maintenance = λ e. let o = f.starts (omega (arith, e)) in omega (arith, f.twos, o, not_running);
        };
        requests_timed = λ p n q. timed_after xs empty_book [] none_asked p n (subst (λ (x : Book). lookup p x.asked ≡ some n) (sym b) q);
        joins_timed = f.awaits [] none_awaited;
      }

-- Whatever is brought to a new station: no Neighbor is sent twice without a reason, both clocks go on, and each open request and each join awaiting retry has its timer.
pub chatter_holds : ChatterHolds
unfolding new
chatter_holds me d c given z vs =
    let t = accepted_new me d c z in
    let e : (new me d c).state ≡ new_station me d c = ap (λ (m : Made). m.state) (choose_yes (in_range c && short_data d) _ _ t) in
    subst (λ (s : Station). Chatter (traffic definition vs s) (state_after definition vs s)) (sym e) (from_new me d c given (and_left (in_range c) (short_data d) t) (and_right (in_range c) (short_data d) t) vs)
