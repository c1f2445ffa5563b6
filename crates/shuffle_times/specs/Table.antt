-- Worked values: 02's own, and each way to an empty range.
-- Assumes nothing.
use Rattle.std.specs.Prelude.{ℕ, ◌≡◌, refl}
use Rattle.base_lists.specs.Lists.{choose}
use Rattle.base_timing.specs.Timing.{default, within, in_range, delay}
use Rattle.shuffle_times.specs.declared.ShuffleTimes.{ShuffleTimes}
use Rattle.shuffle_times.specs.Times.{first_interval, next_interval, due, due_by, has_times, shuffle_times}

abbrev pub from_to : ℕ → ℕ → ShuffleTimes
from_to a b = record { earliest = a; latest = b }

pub record TimesTable : Type 0 where
  -- "From start 0 with default settings the third lies from 5250 to 8747."
  pub third : shuffle_times 0 0 default 3 ≡ from_to 5250 8747
  pub first : shuffle_times 0 0 default 1 ≡ from_to 750 1249
  pub first_of_starts : shuffle_times 10 5000 default 1 ≡ from_to 760 6249
  pub none_is_zeroth : shuffle_times 0 0 default 0 ≡ from_to 0 0
  pub too_many : shuffle_times 0 0 default 1001 ≡ from_to 0 0
  pub reversed : shuffle_times 1 0 default 3 ≡ from_to 0 0
  pub last_start : shuffle_times 0 9223372036854775808 default 1 ≡ from_to 750 9223372036854777057
  pub start_above : shuffle_times 0 9223372036854775809 default 1 ≡ from_to 0 0

pub times_table : TimesTable
unfolding choose default within in_range delay first_interval next_interval due due_by has_times shuffle_times
times_table = record {
  third = refl;
  first = refl;
  first_of_starts = refl;
  none_is_zeroth = refl;
  too_many = refl;
  reversed = refl;
  last_start = refl;
  start_above = refl;
}
