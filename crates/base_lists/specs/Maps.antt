-- Maps by peer, as lists of pairs in rising order of the keys: what stands for the Rust's HashMap, whose order is never seen.
-- Assumes nothing.
use Rattle.std.specs.Prelude.{Bool, List, [], ◌∷◌, ℕ, ltb, eqb}
use Rattle.std.proofs.Math.Option.{Option, none, some}
use Rattle.base_lists.specs.Lists.{choose, mem}

module _ {A : Type 0} where
  unfoldable pub keys : List (ℕ × A) → List ℕ
  keys [] = []
  keys (e ∷ m) = e.0 ∷ keys m

  unfoldable pub values : List (ℕ × A) → List A
  values [] = []
  values (e ∷ m) = e.1 ∷ values m

  -- the pairs of a list of keys and a list of their values
  unfoldable pub zip : List ℕ → List A → List (ℕ × A)
  zip [] vs = []
  zip (k ∷ ks) [] = []
  zip (k ∷ ks) (v ∷ vs) = (k, v) ∷ zip ks vs

  -- HashMap::contains_key
  unfoldable pub has : ℕ → List (ℕ × A) → Bool
  has k m = mem k (keys m)

  -- HashMap::get
  unfoldable pub lookup : ℕ → List (ℕ × A) → Option A
  lookup k [] = none
  lookup k (e ∷ m) = choose (eqb k e.0) (some e.1) (lookup k m)

  -- HashMap::remove
  unfoldable pub cut : ℕ → List (ℕ × A) → List (ℕ × A)
  cut k [] = []
  cut k (e ∷ m) = choose (eqb k e.0) (cut k m) (e ∷ cut k m)

  -- HashMap::retain: the entries of those among ps
  unfoldable pub retain : List ℕ → List (ℕ × A) → List (ℕ × A)
  retain ps [] = []
  retain ps (e ∷ m) = choose (mem e.0 ps) (e ∷ retain ps m) (retain ps m)

  unfoldable pub replace : ℕ → A → List (ℕ × A) → List (ℕ × A)
  replace k v [] = []
  replace k v (e ∷ m) = choose (eqb k e.0) ((k, v) ∷ replace k v m) (e ∷ replace k v m)

  unfoldable pub place_entry : ℕ → A → List (ℕ × A) → List (ℕ × A)
  place_entry k v [] = (k, v) ∷ []
  place_entry k v (e ∷ m) = choose (ltb k e.0) ((k, v) ∷ e ∷ m) (e ∷ place_entry k v m)

  -- HashMap::insert
  unfoldable pub put : ℕ → A → List (ℕ × A) → List (ℕ × A)
  put k v m = choose (has k m) (replace k v m) (place_entry k v m)

-- of every value of a map
module _ {A : Type 0} (P : A → Type 0) where
  unfoldable pub Each : List (ℕ × A) → Type 0
  Each [] = Unit {0}
  Each (e ∷ m) = P e.1 × Each m
