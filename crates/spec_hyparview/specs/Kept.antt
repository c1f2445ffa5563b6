-- Document 02, S-6: which draws of a list were kept by the choices that read them, told by what the draws do.
-- Assumes nothing.
use Rattle.std.specs.Prelude.{ℕ, ◌+◌, ◌≤◌, ◌<◌, ◌≡◌, false, List, [], ◌∷◌, ◌++◌, length}
use Rattle.base_util.specs.Chances.{is_kept}

-- ks is ds without some draws, each of which a choice of one of at most 32 items passes over
pub data Struck : List ℕ → List ℕ → Type 0 where
  none_left : Struck [] []
  stays : {d : ℕ} {ds ks : List ℕ} → Struck ds ks → Struck (d ∷ ds) (d ∷ ks)
  goes : {d : ℕ} {ds ks : List ℕ} (n : ℕ) → 0 < n → n ≤ 32 → is_kept n d ≡ false → Struck ds ks → Struck (d ∷ ds) ks

-- of the draws ds those kept are ks, and the others are passed over: a call, of which code, draws used and state are given for each list that is lent, does with ks what it does with ds, whatever more is lent after them
pub record KeptAre {S : Type 0} (code used : List ℕ → ℕ) (state : List ℕ → S) (ds ks : List ℕ) : Type 0 where
  pub struck : Struck ds ks
  pub same_code : (more : List ℕ) → code (ks ++ more) ≡ code (ds ++ more)
  pub same_state : (more : List ℕ) → state (ks ++ more) ≡ state (ds ++ more)
  -- an accepted call uses as many of the draws after them
  pub same_used : (more : List ℕ) → code (ds ++ more) ≡ 0 → used (ks ++ more) + length ds ≡ used (ds ++ more) + length ks

-- fewer than n are kept
pub record FewerKept {S : Type 0} (n : ℕ) (code used : List ℕ → ℕ) (state : List ℕ → S) (ds : List ℕ) : Type 0 where
  pub kept : List ℕ
  pub are : KeptAre code used state ds kept
  pub few : length kept < n
