-- Document 01, "Held to account", d: ten backoff values, three delays, one shuffle and one removal, as one table of 15 cases about the definitions.
-- Assumes nothing.
use Rattle.std.specs.Prelude.{ℕ, ◌^◌, ◌-◌, ◌≡◌, refl, true, false, [], ◌∷◌}
use Rattle.std.specs.Int.Count.{ones, ones_in}
use Rattle.base_lists.specs.Lists.{choose, mem, index_of, swap, swap_remove, remove}
use Rattle.base_timing.specs.Timing.{backoff_due, delay}
use Rattle.base_util.specs.Chances.{kept_end, is_kept, passed_over, pick_draws, pick, shuffle, shuffle_down}

pub record Table : Type 0 where
  pub backoff_1 : backoff_due 1 ≡ true
  pub backoff_2 : backoff_due 2 ≡ true
  pub backoff_4 : backoff_due 4 ≡ true
  pub backoff_8 : backoff_due 8 ≡ true
  pub backoff_12 : backoff_due 12 ≡ true
  pub backoff_24 : backoff_due 24 ≡ true
  pub backoff_0 : backoff_due 0 ≡ false
  pub backoff_3 : backoff_due 3 ≡ false
  pub backoff_11 : backoff_due 11 ≡ false
  pub backoff_16 : backoff_due 16 ≡ false
  pub delay_lowest : ◌≡◌ {A = ℕ} (delay 1000 0) 750
  pub delay_middle : ◌≡◌ {A = ℕ} (delay 1000 (2 ^ 31)) 1000
  pub delay_highest : ◌≡◌ {A = ℕ} (delay 1000 (2 ^ 32 - 1)) 1249
  pub shuffled : shuffle (0 ∷ 0 ∷ []) (10 ∷ 11 ∷ 12 ∷ []) ≡ 11 ∷ 12 ∷ 10 ∷ []
  pub removed : remove 11 (10 ∷ 11 ∷ 12 ∷ 13 ∷ []) ≡ 10 ∷ 13 ∷ 12 ∷ []

pub table : Table
unfolding choose ones ones_in backoff_due delay kept_end is_kept passed_over pick_draws pick shuffle shuffle_down swap mem index_of swap_remove remove
table = record {
  backoff_1 = refl;
  backoff_2 = refl;
  backoff_4 = refl;
  backoff_8 = refl;
  backoff_12 = refl;
  backoff_24 = refl;
  backoff_0 = refl;
  backoff_3 = refl;
  backoff_11 = refl;
  backoff_16 = refl;
  delay_lowest = refl;
  delay_middle = refl;
  delay_highest = refl;
  shuffled = refl;
  removed = refl;
}
