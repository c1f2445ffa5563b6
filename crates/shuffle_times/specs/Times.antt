-- Document 02, S-11: when the k-th shuffle is due, at the earliest and at the latest.
-- Assumes nothing.
use Rattle.std.specs.Prelude.{ℕ, ◌+◌, ◌*◌, min, Bool, ◌&&◌, List, [], ◌∷◌, replicate, leb}
use Rattle.base_lists.specs.Lists.{choose}
use Rattle.base_timing.specs.Timing.{in_range, initial_shuffle_interval, delay}
use Rattle.base_timing.specs.declared.Config.{Config}
use Rattle.shuffle_times.specs.declared.ShuffleTimes.{ShuffleTimes}

-- "a number k from 1 to 1,000"
abbrev pub most_shuffles : ℕ
most_shuffles = 1000

-- "a start above 2^63" is out of range
abbrev pub latest_start : ℕ
latest_start = 9223372036854775808

-- a draw has 32 bits
abbrev pub lowest_draw : ℕ
lowest_draw = 0

abbrev pub highest_draw : ℕ
highest_draw = 4294967295

-- State::new: the first interval, where the setting is `top`
unfoldable pub first_interval : ℕ → ℕ
first_interval top = min initial_shuffle_interval top

-- schedule_shuffle: the interval after i is twice as long, but never longer than the setting
unfoldable pub next_interval : ℕ → ℕ → ℕ
next_interval top i = min (2 * i) top

-- the due times of shuffle timers in a row, of which the first is set at time t with the interval i, and each other
-- when the one before it is due: one for each draw
unfoldable pub dues : ℕ → ℕ → ℕ → List ℕ → List ℕ
dues top i t [] = []
dues top i t (d ∷ ds) = (t + delay i d) ∷ dues top (next_interval top i) (t + delay i d) ds

-- the last of them
unfoldable pub due : ℕ → ℕ → ℕ → List ℕ → ℕ
due top i t [] = t
due top i t (d ∷ ds) = due top (next_interval top i) (t + delay i d) ds

-- the due time of the k-th shuffle of a station that starts at time t, where every draw is d
unfoldable pub due_by : Config → ℕ → ℕ → ℕ → ℕ
due_by c t k d = due c.shuffle_interval (first_interval c.shuffle_interval) t (replicate k d)

-- both ends after k shuffles, where the setting is `top`
abbrev pub both_ends : ℕ → ℕ → ℕ → ℕ → ShuffleTimes
both_ends top earliest latest k = record {
  earliest = due top (first_interval top) earliest (replicate k lowest_draw);
  latest = due top (first_interval top) latest (replicate k highest_draw);
}

-- starts in order and not above 2^63, k from 1 to 1,000, settings in range
unfoldable pub has_times : ℕ → ℕ → Config → ℕ → Bool
has_times earliest latest c k =
    leb earliest latest && (leb latest latest_start && (leb 1 k && (leb k most_shuffles && in_range c)))

-- "Reversed starts give an empty range with both ends 0, and so do a start above 2^63 and a k or settings out of range."
unfoldable pub shuffle_times : ℕ → ℕ → Config → ℕ → ShuffleTimes
shuffle_times earliest latest c k =
    choose (has_times earliest latest c k)
    (record { earliest = due_by c earliest k lowest_draw; latest = due_by c latest k highest_draw })
    (record { earliest = 0; latest = 0 })
