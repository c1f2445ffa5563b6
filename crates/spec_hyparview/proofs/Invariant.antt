-- The invariant (specs/Invariant) with one part of the views changed.
-- Assumes nothing.
use mathlib.Core.List.{List}
use Prim.Native.Nat.{ℕ, ◌+◌, ◌≤◌}
use lib.ListN.{length}
use Rattle.base_lists.specs.Lists.{count}
use Rattle.base_timing.specs.declared.Config.{Config}
pub use Rattle.spec_hyparview.specs.Invariant.{Fixed, Terms, busy, calm, Ranges, Still, Seats, Waits, Account, Core, Good, spent, Told, Roomy, Codes, Ok}

module _ {guest loose inside : List ℕ} {slots places me : ℕ} {cfg : Config} {act pas ali : List ℕ} (h : Seats guest loose inside slots places me cfg act pas ali) where
  pub with_marks : {xs : List ℕ} → ((x : ℕ) → count x xs ≤ count x pas + count x loose) → Seats guest loose inside slots places me cfg act pas xs
  with_marks v = record { one = h.one; guests = h.guests; within = h.within; slots_left = h.slots_left; places_left = h.places_left; marks = v; narrow = h.narrow }

  pub with_slots : {n : ℕ} → length act + n ≤ cfg.active_view_capacity → Seats guest loose inside n places me cfg act pas ali
  with_slots v = record { one = h.one; guests = h.guests; within = h.within; slots_left = v; places_left = h.places_left; marks = h.marks; narrow = h.narrow }

  pub with_places : {n : ℕ} → length pas + n ≤ cfg.passive_view_capacity → Seats guest loose inside slots n me cfg act pas ali
  with_places v = record { one = h.one; guests = h.guests; within = h.within; slots_left = h.slots_left; places_left = v; marks = h.marks; narrow = h.narrow }

  pub with_inside : {xs : List ℕ} → ((x : ℕ) → count x xs ≤ count x act) → Seats guest loose xs slots places me cfg act pas ali
  with_inside v = record { one = h.one; guests = h.guests; within = v; slots_left = h.slots_left; places_left = h.places_left; marks = h.marks; narrow = h.narrow }
