-- What a step counts on before it opens a join. Open joins are joins to bootstrap peers, and so at most 8.
-- Assumes nothing.
use Rattle.std.specs.Prelude.{ℕ, ◌≤◌, ◌≡◌, true, ◌||◌, length, ltb}
use Rattle.base_lists.specs.Lists.{count}
use Rattle.base_lists.specs.Maps.{keys, has}
use Rattle.base_timing.specs.Timing.{max_bootstrap_peers}
use Rattle.spec_hyparview.specs.Station.{Station}

-- unless a code is set, each open join is to a bootstrap peer, none of which stands twice, and there are at most 8
pub record KnownJoins (code : ℕ) (s : Station) : Type 0 where
  pub known : code ≡ 0 → (x : ℕ) → count x (keys s.joins) ≤ count x s.bootstrap
  pub once : code ≡ 0 → (x : ℕ) → count x s.bootstrap ≤ 1
  pub few : code ≡ 0 → length s.bootstrap ≤ max_bootstrap_peers

-- unless a code is set, the join to p is open or there is a place for it
pub record FreeJoin (p code : ℕ) (s : Station) : Type 0 where
  pub free : code ≡ 0 → (has p s.joins || ltb (length s.joins) max_bootstrap_peers) ≡ true
