-- The calls that the test reads (docs/FORMAT.md).
-- Assumes nothing.
use Rattle.std.specs.Prelude.{ℕ}

-- six numbers of 8 bytes
abbrev pub timer_call_bytes : ℕ
timer_call_bytes = 48
