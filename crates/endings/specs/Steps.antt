-- What the functions below the count speak of: the same histories on values of `State`, one after the other.
-- Assumes nothing.
use Rattle.std.specs.Prelude.{ℕ, ◌+◌, ◌≤◌, ◌<◌, List, [], ◌∷◌, false, ◌&&◌, length, eqb}
use Rattle.base_lists.specs.Lists.{choose}
use Rattle.spec_stories.specs.Histories.{Event, History}
use Rattle.spec_hyparview.specs.Sides.{wired}
use Rattle.hyparview.specs.Queries.{neighbors_in, spare_addresses_in}
use Rattle.hyparview.specs.declared.State.{State}
use Rattle.spec_demand.specs.Program.{value_program}
use Rattle.endings.specs.declared.Ends.{Ends}
use Rattle.endings.specs.Events.{tiny, draws, output, after_history}
use Rattle.endings.specs.Ends.{Sizes, digest_end, next_digest, number_from}

-- what the program's `new` hands back
unfoldable pub first_state : State
first_state = value_program.new_state 1 (false, []) tiny

-- one event
unfoldable pub played : Event → State → State
played e s = value_program.state wired e draws output s

-- the sizes of both views after a history of the program, from the state s on
unfoldable pub sizes_in : State → Sizes
sizes_in s h =
    let e = after_history value_program h s in
    (length (neighbors_in e.words), spare_addresses_in e.words)

-- one more history, which has the number k and ended with these sizes
unfoldable pub one_more : ℕ × ℕ → ℕ → Ends → Ends
one_more z k c = record {
  neither = c.neither + choose (eqb z.0 0 && eqb z.1 0) 1 0;
  passive = c.passive + choose (eqb z.0 0 && eqb z.1 1) 1 0;
  active = c.active + choose (eqb z.0 1 && eqb z.1 0) 1 0;
  both = c.both + choose (eqb z.0 1 && eqb z.1 1) 1 0;
  digest = next_digest c.digest k;
}

-- the histories hs counted one after the other, each of which goes on from the state s, after one with the number k
unfoldable pub counted_on : State → ℕ → Ends → List History → Ends
counted_on s k c [] = c
counted_on s k c (h ∷ hs) = counted_on s k (one_more (sizes_in s h) (number_from k h) c) hs

-- the last value of a count, which has 32 bits
abbrev pub top_ends : ℕ
top_ends = 4294967295

-- n more histories can be counted
pub record CountRoom (c : Ends) (n : ℕ) : Type 0 where
  pub neither : c.neither + n ≤ top_ends
  pub passive : c.passive + n ≤ top_ends
  pub active : c.active + n ≤ top_ends
  pub both : c.both + n ≤ top_ends
  pub digest : c.digest < digest_end
