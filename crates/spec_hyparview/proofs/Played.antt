-- Every step of the definition reads draws by delays, choices and shuffles alone.
-- Assumes nothing.
use mathlib.Core.Path.{◌≡◌, refl, ap, ◌∙◌}
use mathlib.Core.List.{List, [], ◌∷◌}
use Prim.Native.Nat.{ℕ, ◌≤◌}
use native.Mathlib.Omega.{arith}
use lib.ListN.{length, get_or}
use lib.Dec.{leb, eqb}
use borrow.Author.Tests.{leb-true, leb-false}
use Rattle.base_lists.specs.Lists.{choose}
use Rattle.base_lists.proofs.Choice.{split}
use Rattle.record.specs.Format.{Rec, size}
use Rattle.base_util.specs.Chances.{pick_draws, pick, shuffle, shuffle_draws}
use Rattle.spec_hyparview.specs.Station.{Station}
use Rattle.spec_hyparview.specs.Invariant.{Roomy}
use Rattle.spec_hyparview.specs.Run.{Run, on, emit, draw, drawn, to_draw, one_of, draw_one_of, picked, shuffled, draw_shuffle}
use Rattle.spec_hyparview.specs.Handle as H
use Rattle.spec_hyparview.proofs.Readers.{read_pick, read_shuffle, read_one, map_reading, read_any, read_few}
use Rattle.spec_hyparview.proofs.Readers as R
use Rattle.spec_hyparview.proofs.Plays.{Plays, same_plays, by_station, idle, either, thens, changes, tests, tells, told, reads}
use Rattle.spec_hyparview.proofs.Built.{Built, place, of_steps}

-- of no items none is picked
pub no_item : (xs l m : List ℕ) → length xs ≡ 0 → get_or xs (pick (length xs) l) 0 ≡ get_or xs (pick (length xs) m) 0
no_item [] l m e = refl
no_item (x ∷ xs) l m e = absurd (omega (arith, e))

-- a choice of an item, and of a place
module _ (xs : Station → List ℕ) (few : (s : Station) → Roomy s → length (xs s) ≤ 32) (g : Station → ℕ → Run → Run) (k : (s : Station) (i : ℕ) → Plays (g s i)) where
  picks_item : Plays (λ r. g r.station (picked (xs r.station) r) (draw_one_of (length (xs r.station)) r))
  unfolding picked one_of draw_one_of to_draw
  picks_item =
      reads (λ s. pick_draws (length (xs s))) (λ s l. get_or (xs s) (pick (length (xs s)) l) 0)
      (λ s ds. let c : (length (xs s) ≤ 32 → ⊥) → Roomy s → ⊥ = (λ n o. n (few s o)) in
      read_any (length (xs s)) c (λ l. get_or (xs s) (pick (length (xs s)) l) 0) ds (no_item (xs s))
      (λ h. read_few (length (xs s)) c (λ l. get_or (xs s) (pick (length (xs s)) l) 0) ds h (λ l. map_reading (λ i. get_or (xs s) i 0) (read_pick (length (xs s)) h l ds))))
      g k

  picks_place : Plays (λ r. g r.station (place (length (xs r.station)) r) (draw_one_of (length (xs r.station)) r))
  unfolding draw_one_of to_draw choose
  picks_place =
      reads (λ s. pick_draws (length (xs s))) (λ s l. choose (eqb (length (xs s)) 0) 0 (pick (length (xs s)) l))
      (λ s ds. let n = length (xs s) in let c : (n ≤ 32 → ⊥) → Roomy s → ⊥ = (λ o w. o (few s w)) in
      let v : List ℕ → ℕ = (λ l. choose (eqb n 0) 0 (pick n l)) in
      read_any n c v ds (λ l m e. rw e) (λ h. read_few n c v ds h (λ l. map_reading (λ i. choose (eqb n 0) 0 i) (read_pick n h l ds))))
      g k

shuffles : (xs : Station → List ℕ) → ((s : Station) → Roomy s → length (xs s) ≤ 32) → (g : Station → List ℕ → Run → Run) → ((s : Station) (ys : List ℕ) → Plays (g s ys)) → Plays (λ r. g r.station (shuffled (xs r.station) r) (draw_shuffle (xs r.station) r))
unfolding shuffled draw_shuffle to_draw
shuffles xs few g k =
    reads (λ s l. shuffle_draws l (xs s)) (λ s l. shuffle l (xs s))
    (λ s ds. split (leb (length (xs s)) 32) (λ e. read_shuffle (xs s) ds (leb-true (length (xs s)) 32 e)) (λ e. let l = leb-false (length (xs s)) 32 e in R.crowded (λ o. omega (arith, l, few s o)) (R.shuffle_wants (xs s) l)))
    g k

delays : Plays (λ r. draw 1 r)
delays = reads (λ s l. 1) (λ s l. tt) (λ s ds. read_one ds) (λ s a r. r) (λ s a. idle)

delayed : (e : Station → ℕ → Rec) → ((s : Station) (c d : ℕ) → size (e s d) ≡ size (e s c)) → (f : Station → Station)
    → Plays (λ r. emit (e r.station (drawn r)) (draw 1 (on f r)))
delayed e h f = tells (thens (changes f) delays) (λ r. e r.station (drawn r)) (λ r w q. ap (λ (s : Station). size (e s (drawn w))) q ∙ h r.station (drawn r) (drawn w))

plays : Built Plays
plays = record {
  same_step = same_plays;
  by_station = by_station;
  idle = idle;
  either = either;
  thens = thens;
  changes = changes;
  tests = tests;
  told = told;
  picks_item = picks_item;
  picks_place = picks_place;
  shuffles = shuffles;
  delayed = delayed;
}

pub plays_steps : (e : Rec) → Plays (H.steps e)
plays_steps e = of_steps Plays plays e
