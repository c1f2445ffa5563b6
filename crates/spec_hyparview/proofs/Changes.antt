-- Each change of a part of the station keeps what the rules say of that part.
-- Assumes nothing.
use mathlib.Core.Path.{◌≡◌, refl}
use mathlib.Core.Bool.{Bool, true, false, ◌||◌}
use mathlib.Core.List.{List, [], ◌∷◌, ◌++◌}
use Prim.Native.Nat.{ℕ, ◌+◌, ◌-◌, ◌≤◌, ◌<◌}
use native.Mathlib.Omega.{arith}
use lib.ListN.{length}
use lib.Dec.{ltb, eqb}
use borrow.Author.Tests.{ltb-true}
use Rattle.base_lists.specs.Lists.{choose, is, count, mem, without, insert, renew, Rising}
use Rattle.base_lists.specs.Maps.{keys, has, lookup, cut, retain, put, Each}
use Rattle.base_lists.proofs.Choice.{by_choice}
use Rattle.base_lists.proofs.Count.{count_without, length_without, count_snoc, count_insert}
use Rattle.base_lists.proofs.Maps.{keys_cut, keys_put, length_cut, length_put, length_retain, count_retain, rising_retain}
use Rattle.base_lists.proofs.Rising.{rising_without, rising_insert}
use Rattle.spec_hyparview.specs.Station.{Refill, automatic, requests_left, recovery, is_recovery, top_counter}
use Rattle.spec_hyparview.specs.Refill.{one_less, unless_recovery}
use Rattle.spec_hyparview.specs.Timers.{renew_all}
use Rattle.base_lists.proofs.Members.{each_cut, each_retain, each_put, each_more, count_cut, length_insert, count_absent, rising_once, renewed}
use Rattle.spec_hyparview.proofs.Law.{Short, Small, InOrder, Numbered, Requests, HeldData, Refused, Recent, Pinned}

pub put_numbered : {n : ℕ} {m : List (ℕ × ℕ)} (p : ℕ) → ltb n top_counter ≡ true → Numbered m n → Numbered (put p n m) (n + 1)
put_numbered {n} {m} p t h = record {
  rise = rw (keys_put p n m) (rising_insert p (keys m) h.rise);
  below = each_put (λ w. w < n + 1) p n m (omega arith) (each_more n (n + 1) m (omega arith) h.below);
  next_top = omega (arith, ltb-true n top_counter t);
}

pub cut_numbered : {n : ℕ} {m : List (ℕ × ℕ)} (p : ℕ) → Numbered m n → Numbered (cut p m) n
cut_numbered {n} {m} p h = record {
  rise = rw (keys_cut p m) (rising_without p (keys m) h.rise);
  below = each_cut (λ w. w < n) p m h.below;
  next_top = h.next_top;
}

or_so : {b : Bool} (a : Bool) → b ≡ true → (a || b) ≡ true
or_so true e = refl
or_so false e = e

pub put_request : {n : ℕ} {m : List (ℕ × ℕ)} (p : ℕ) → ltb (length m) 32 ≡ true → ltb n top_counter ≡ true → Requests m n → Requests (put p n m) (n + 1)
put_request {n} {m} p r t h =
    record { numbered = put_numbered p t h.numbered; few = length_put p 32 n m (or_so (has p m) r) h.few }

pub cut_request : {n : ℕ} {m : List (ℕ × ℕ)} (p : ℕ) → Requests m n → Requests (cut p m) n
cut_request {n} {m} p h = record { numbered = cut_numbered p h.numbered; few = omega (arith, h.few, length_cut p m) }

pub cut_held : {me : ℕ} {m : List (ℕ × List ℕ)} (p : ℕ) → HeldData me m → HeldData me (cut p m)
cut_held {me} {m} p h = record {
  rise = rw (keys_cut p m) (rising_without p (keys m) h.rise);
  few = omega (arith, h.few, length_cut p m);
  shorts = each_cut (λ w. length w ≤ 16) p m h.shorts;
  not_own = omega (arith, h.not_own, count_cut me p m (omega (arith, h.not_own)));
}

pub retain_held : {me : ℕ} {m : List (ℕ × List ℕ)} (ps : List ℕ) → HeldData me m → HeldData me (retain ps m)
retain_held {me} {m} ps h = record {
  rise = rising_retain ps m h.rise;
  few = omega (arith, h.few, length_retain ps m);
  shorts = each_retain (λ w. length w ≤ 16) ps m h.shorts;
  not_own = omega (arith, h.not_own, count_retain me ps m);
}

pub put_held : {me : ℕ} {m : List (ℕ × List ℕ)} (p : ℕ) (b : List ℕ) → eqb p me ≡ false → length b ≤ 16 → (has p m || ltb (length m) 80) ≡ true → HeldData me m → HeldData me (put p b m)
put_held {me} {m} p b n l t h = record {
  rise = rw (keys_put p b m) (rising_insert p (keys m) h.rise);
  few = length_put p 80 b m t h.few;
  shorts = each_put (λ w. length w ≤ 16) p b m l h.shorts;
  not_own = rw (keys_put p b m) (count_absent me p (keys m) n h.not_own);
}

pub short_lookup : (p : ℕ) (m : List (ℕ × List ℕ)) → Each (λ b. length b ≤ 16) m → Short (lookup p m)
unfolding lookup Each Short
short_lookup p [] h = tt
short_lookup p (e ∷ m) h = by_choice Short (eqb p e.0) (λ t. h.0) (λ t. short_lookup p m h.1)

pub unmark : {xs : List ℕ} (p : ℕ) → InOrder xs → InOrder (without p xs)
unmark {xs} p h = record { rise = rising_without p xs h.rise }

pub mark : {xs : List ℕ} (p : ℕ) → InOrder xs → InOrder (insert p xs)
mark {xs} p h = record { rise = rising_insert p xs h.rise }

pub add_refusal : {xs : List ℕ} (p : ℕ) → (mem p xs || ltb (length xs) 32) ≡ true → Refused xs → Refused (insert p xs)
add_refusal {xs} p t h = record { rise = rising_insert p xs h.rise; few = length_insert p 32 xs t h.few }

pub no_refusals : Refused []
unfolding Rising
no_refusals = record { rise = tt; few = omega arith }

-- a pin ends where its peer leaves, stays where another peer enters, and is given to a neighbour within the limit
module _ {cap : ℕ} {act pin : List ℕ} (p : ℕ) (h : Pinned cap act pin) where
  pub unpin : (rest : List ℕ) → ((x : ℕ) → count x act ≤ count x rest + is x p) → Pinned cap rest (without p pin)
  unpin rest l = record {
    rise = rising_without p pin h.rise;
    among = λ x. omega (arith, l x, h.among x, count_without x p pin (rising_once pin h.rise x));
    few = omega (arith, h.few, length_without p pin);
  }

  pub pins_stay : Pinned cap (act ++ (p ∷ [])) pin
  pins_stay = record { rise = h.rise; among = λ x. omega (arith, h.among x, count_snoc x act p); few = h.few }

  pub add_pin : 1 ≤ count p act → (mem p pin || ltb (length pin) (cap - 1)) ≡ true → Pinned cap act (insert p pin)
  add_pin i t = record {
    rise = rising_insert p pin h.rise;
    among = λ x. count_insert x p pin (λ y. count y act) i (h.among x);
    few = length_insert p (cap - 1) pin t h.few;
  }

pub without_recent : {xs : List ℕ} (p : ℕ) → Recent xs → Recent (without p xs)
without_recent {xs} p h =
    record { once = λ x. omega (arith, h.once x, count_without x p xs (h.once x)); few = omega (arith, h.few, length_without p xs) }

pub renew_recent : {xs : List ℕ} (p : ℕ) → Recent xs → Recent (renew 8 p xs)
renew_recent {xs} p h = let w = renewed 8 p xs (omega arith) h.few h.once in record { once = w.once; few = w.few }

pub renew_all_recent : (ps xs : List ℕ) → Recent xs → Recent (renew_all ps xs)
unfolding renew_all
renew_all_recent [] xs h = h
renew_all_recent (p ∷ ps) xs h = renew_all_recent ps (renew 8 p xs) (renew_recent p h)

pub small_less : (v : Refill) → Small v → Small (one_less v)
unfolding Small one_less
small_less automatic h = tt
small_less (requests_left n) h = omega arith
small_less recovery h = tt

pub small_or : (v w : Refill) → Small w → Small (unless_recovery v w)
unfolding Small unless_recovery choose is_recovery
small_or automatic w h = h
small_or (requests_left n) w h = h
small_or recovery w h = tt
