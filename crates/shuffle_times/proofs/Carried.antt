-- S-11 of one machine is S-11 of another whose shuffle timers, start and firing are the same for every list of calls.
-- Assumes nothing.
use Prim.Native.Nat.{ℕ, ◌-◌, ◌≤◌}
use mathlib.Core.Path.{◌≡◌, sym, ap, subst, ◌∙◌}
use mathlib.Core.List.{List, []}
use lib.ListN.{length, get_or}
use Rattle.base_timing.specs.declared.Config.{Config}
use Rattle.spec_history.specs.Calls.{Machine}
use Rattle.shuffle_times.specs.Times.{first_interval, dues, shuffle_times}
use Rattle.shuffle_times.specs.Histories.{Brought, shuffles_due, start_of, on_time, every_timer_fires, none_numbered}
use Rattle.shuffle_times.specs.Claims.{Timed}

module _ {G H S T : Type 0} {m : Machine G S} {n : Machine H T} {s : S} {t : T}
    (due : (vs : List Brought) → shuffles_due m vs s ≡ shuffles_due n vs t) (start : (vs : List Brought) → start_of m vs s ≡ start_of n vs t)
    (fire : (vs : List Brought) → on_time m vs s [] ≡ on_time n vs t []) (all-fire : (vs : List Brought) → every_timer_fires m vs s ≡ every_timer_fires n vs t)
    (alone : (vs : List Brought) → none_numbered m vs s ≡ none_numbered n vs t) where
  pub timed_carried : (c : Config) → Timed n c t → Timed m c s
  timed_carried c d =
      let top = c.shuffle_interval in
      record {
        due_times_tied = λ vs o. let w = d.due_times_tied vs (sym (fire vs) ∙ o) in record {
          draws = w.draws;
          are_draws = w.are_draws;
          same = due vs ∙ (w.same ∙ ap (λ (x : ℕ). dues top (first_interval top) x w.draws) (sym (start vs)));
        };
        nothing_outside = λ vs o earliest latest k e from to many.
            let w = d.nothing_outside vs (sym (fire vs) ∙ o) earliest latest k e (subst (λ (x : ℕ). earliest ≤ x) (start vs) from)
            (subst (λ (x : ℕ). x ≤ latest) (start vs) to) (subst (λ (x : List ℕ). k ≤ length x) (due vs) many) in
            record {
              not_before = subst (λ (x : List ℕ). (shuffle_times earliest latest c k).earliest ≤ get_or x (k - 1) 0) (sym (due vs)) w.not_before;
              not_after = subst (λ (x : List ℕ). get_or x (k - 1) 0 ≤ (shuffle_times earliest latest c k).latest) (sym (due vs)) w.not_after;
            };
        every_one_reached = λ earliest latest k e x from to. let w = d.every_one_reached earliest latest k e x from to in record {
          calls = w.calls;
          fire = all-fire w.calls ∙ w.fire;
          alone = alone w.calls ∙ w.alone;
          ordered = w.ordered;
          not_early = subst (λ (y : ℕ). earliest ≤ y) (sym (start w.calls)) w.not_early;
          not_late = subst (λ (y : ℕ). y ≤ latest) (sym (start w.calls)) w.not_late;
          enough = subst (λ (y : List ℕ). k ≤ length y) (sym (due w.calls)) w.enough;
          due_then = ap (λ (y : List ℕ). get_or y (k - 1) 0) (due w.calls) ∙ w.due_then;
        };
      }
