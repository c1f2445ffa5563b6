-- Document 01, part 1, with "Settings and station rules", the backoff of "Steps that trip a copyist" and the delay of "Random choices".
-- Assumes nothing.
use Rattle.std.specs.Prelude.{ℕ, ◌+◌, ◌-◌, ◌*◌, ◌/◌, ◌%◌, ◌^◌, Bool, ◌&&◌, leb, ltb, eqb}
use Rattle.std.specs.Int.Count.{ones}
use Rattle.base_lists.specs.Lists.{choose}
use Rattle.base_timing.specs.declared.Config.{Config}

-- Ttl::expired
unfoldable pub expired : ℕ → Bool
expired t = eqb t 0

-- Ttl::next, which stops at 0
unfoldable pub next : ℕ → ℕ
next t = t - 1

-- The Rust's constants; times in milliseconds. Why each number is so, the code says at its constants.
abbrev pub initial_shuffle_interval : ℕ
initial_shuffle_interval = 1000

abbrev pub maintenance_interval : ℕ
maintenance_interval = 5000

abbrev pub join_retry_delay : ℕ
join_retry_delay = 10000

abbrev pub max_backoff_passes : ℕ
max_backoff_passes = 12

abbrev pub max_requests_per_refill : ℕ
max_requests_per_refill = 3

abbrev pub max_bootstrap_peers : ℕ
max_bootstrap_peers = 8

abbrev pub max_recent_neighbors : ℕ
max_recent_neighbors = 8

-- Config::default: the paper's settings (its page 9), but for the two times, which it does not name
unfoldable pub default : Config
default = record {
  active_view_capacity = 5;
  passive_view_capacity = 30;
  active_random_walk_length = 6;
  passive_random_walk_length = 3;
  shuffle_random_walk_length = 6;
  shuffle_active_view_count = 3;
  shuffle_passive_view_count = 4;
  shuffle_interval = 60000;
  neighbor_request_timeout = 3000;
}

-- The top of each range: of the capacities, the walk lengths, what a shuffle takes of either view, and the times.
abbrev pub most_active : ℕ
most_active = 8

abbrev pub most_passive : ℕ
most_passive = 32

abbrev pub longest_walk : ℕ
longest_walk = 65535

abbrev pub most_shuffle_active : ℕ
most_shuffle_active = 8

abbrev pub most_shuffle_passive : ℕ
most_shuffle_passive = 23

abbrev pub longest_time : ℕ
longest_time = 3600000

-- from low to high, both included
unfoldable pub within : ℕ → ℕ → ℕ → Bool
within low high x = leb low x && leb x high

-- "Settings in `Config`'s order": the range of each
unfoldable pub in_range : Config → Bool
in_range c =
    within 1 most_active c.active_view_capacity
    && (within 1 most_passive c.passive_view_capacity
    && (within 0 longest_walk c.active_random_walk_length
    && (within 0 longest_walk c.passive_random_walk_length
    && (within 0 longest_walk c.shuffle_random_walk_length
    && (within 0 most_shuffle_active c.shuffle_active_view_count
    && (within 0 most_shuffle_passive c.shuffle_passive_view_count
    && (within 1 longest_time c.shuffle_interval
    && within 1 longest_time c.neighbor_request_timeout)))))))

-- backoff_due: below 12 exactly one bit of n is set, from 12 on 12 divides n; so what fails is tried soon, and later once a minute
unfoldable pub backoff_due : ℕ → Bool
backoff_due n = choose (ltb n max_backoff_passes) (eqb (ones n) 1) (eqb (n % max_backoff_passes) 0)

-- "Delay": the jittered interval for the draw d, from three quarters of it to just under five, in whole numbers
unfoldable pub delay : ℕ → ℕ → ℕ
delay interval d = interval * (3 * 2 ^ 31 + d) / 2 ^ 33
