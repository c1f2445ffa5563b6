-- Own data and the limit on refills, as they are stored, and a limit that is a recovery.
-- Assumes nothing.
use Prim.Native.Nat.{ℕ, ◌-◌}
use mathlib.Core.Path.{◌≡◌, refl, sym, ap, subst, ◌∙◌}
use mathlib.Core.Bool.{Bool, true, false, ◌&&◌, ◌||◌}
use mathlib.Core.List.{List}
use mathlib.Core.Option.{some}
use native.Mathlib.Omega.{arith}
use borrow.Author.Tests.{eqb-true, eqb-false, leb-true}
use lib.Dec.{eqb, leb}
use lib.ListN.{get_or, set, take, drop}
use lib.Seq.{get_or-set_other, set-get_or}
use Rattle.base_lists.specs.Lists.{choose}
use Rattle.base_lists.specs.Bytes.{le}
use Rattle.base_lists.proofs.Choice.{split, clash, choose_yes, choose_no, and_left, and_right, or_true}
use Rattle.std.specs.Prelude.{Some, None}
use Rattle.base_lists.specs.Array.{pad}
use Rattle.base_columns.specs.Columns.{word_bytes}
use Rattle.base_columns.proofs.Data.{bytes_back}
use Rattle.base_peer.specs.declared.PeerData.{PeerData}
use Rattle.base_peer.specs.Held.{data_in, fields_in, HoldsData}
use Rattle.spec_hyparview.specs.Station.{Refill, automatic, requests_left, recovery, is_automatic, is_spent, is_recovery}
use Rattle.spec_hyparview.specs.Setters.{set_own_data, set_refill}
use Rattle.spec_hyparview.specs.Refill.{unless_recovery, one_less}
use Rattle.hyparview_state.specs.declared.RefillLimit.{RefillLimit}
use Rattle.hyparview_state.specs.declared.RefillLimit.TheVariants.{Automatic, Requests, Recovery}
use Rattle.hyparview_state.specs.Layout.{refill_kind, refill_requests, own_high_at, own_len_at, own_low_at, own_present_at, refill_kind_at, refill_requests_at}
use Rattle.hyparview_state.specs.Unpack.{unpack, station_of, limit_at, limit_formed, refill_in, PackedState, opened, Becomes}
use Rattle.hyparview_state.proofs.Memory.{two_limit}
use Rattle.hyparview_state.proofs.Fields.{put_own_data, put_refill}

as_they_are : (xs : List ℕ) → PackedState xs → Becomes xs (unpack xs)
as_they_are xs p = record { packed = p; same = refl }

module _ (xs : List ℕ) (l : RefillLimit) (p : PackedState xs) where
  pub kept_automatic : l ≡ Automatic → Becomes (set (set xs refill_kind_at 0) refill_requests_at 0) (set_refill (refill_in l) (unpack xs))
  unfolding choose limit_formed
  kept_automatic e = rw e (put_refill 0 0 Automatic refl refl (as_they_are xs p))

  pub kept_requests : (n : ℕ) → l ≡ Requests n → Becomes (set (set xs refill_kind_at 1) refill_requests_at n) (set_refill (refill_in l) (unpack xs))
  unfolding choose limit_formed
  kept_requests n e = rw e (put_refill 1 n (Requests n) refl refl (as_they_are xs p))

  pub kept_recovery : l ≡ Recovery → Becomes (set (set xs refill_kind_at 2) refill_requests_at 0) (set_refill (refill_in l) (unpack xs))
  unfolding choose limit_formed
  kept_recovery e = rw e (put_refill 2 0 Recovery refl refl (as_they_are xs p))

-- ---- what the two words of a limit say of it

module _ (k n : ℕ) where
  words_automatic : eqb k 0 ≡ is_automatic (refill_in (two_limit k n))
  unfolding choose refill_in is_automatic
  words_automatic = split (eqb k 0) (λ e. rw e) (λ e. split (eqb k 1) (λ f. rw (e, f)) (λ f. rw (e, f)))

  words_spent : (eqb k 1 && eqb n 0) ≡ is_spent (refill_in (two_limit k n))
  unfolding choose refill_in is_spent
  words_spent = split (eqb k 0) (λ e. rw (eqb-true k 0 e)) (λ e. split (eqb k 1) (λ f. rw (e, f)) (λ f. rw (e, f)))

  words_recovery : limit_formed k n ≡ true → eqb k 2 ≡ is_recovery (refill_in (two_limit k n))
  unfolding choose refill_in is_recovery limit_formed
  words_recovery h =
      split (eqb k 0) (λ e. rw (eqb-true k 0 e))
      (λ e. split (eqb k 1) (λ f. rw (eqb-true k 1 f))
      (λ f. let z : k ≡ 2 = omega (arith, leb-true k 2 (and_left (leb k 2) (eqb k 1 || eqb n 0) h), eqb-false k 0 e, eqb-false k 1 f) in rw z))

  words_less : k ≡ 1 → one_less (refill_in (two_limit k n)) ≡ requests_left (n - 1)
  unfolding choose refill_in one_less
  words_less e = rw e

  words_none : n ≡ 0 → one_less (refill_in (two_limit k n)) ≡ refill_in (two_limit k n)
  unfolding choose refill_in one_less
  words_none h = split (eqb k 0) (λ e. rw e) (λ e. split (eqb k 1) (λ f. rw (e, f, h)) (λ f. rw (e, f)))

  words_kept : k ≡ 2 → recovery ≡ refill_in (two_limit k n)
  unfolding choose refill_in
  words_kept e = rw e

module _ (xs : List ℕ) where
  pub says_automatic : eqb (refill_kind xs) 0 ≡ is_automatic (unpack xs).refill
  unfolding unpack station_of limit_at
  says_automatic = words_automatic (refill_kind xs) (refill_requests xs)

  pub says_spent : (eqb (refill_kind xs) 1 && eqb (refill_requests xs) 0) ≡ is_spent (unpack xs).refill
  unfolding unpack station_of limit_at
  says_spent = words_spent (refill_kind xs) (refill_requests xs)

  pub says_recovery : PackedState xs → eqb (refill_kind xs) 2 ≡ is_recovery (unpack xs).refill
  unfolding unpack station_of limit_at
  says_recovery p = words_recovery (refill_kind xs) (refill_requests xs) (opened p).limit

  -- the requests are 0 but in kind 1
  pub no_requests : PackedState xs → (refill_kind xs ≡ 1 → ⊥) → refill_requests xs ≡ 0
  unfolding limit_formed
  no_requests p h =
      or_true (eqb (refill_kind xs) 1) (eqb (refill_requests xs) 0) (and_right (leb (refill_kind xs) 2) _ (opened p).limit)
      (λ e. absurd (h (eqb-true _ _ e))) (λ e. eqb-true _ _ e)

  -- a limit is lifted that has no requests: only its kind is stored
  pub lifted : PackedState xs → (refill_kind xs ≡ 1 → ⊥) → Becomes (set xs refill_kind_at 0) (set_refill automatic (unpack xs))
  unfolding choose limit_formed refill_in
  lifted p h =
      let e : get_or (set xs refill_kind_at 0) refill_requests_at 0 ≡ 0 = get_or-set_other xs refill_kind_at refill_requests_at 0 0 (λ q. omega (arith, q)) ∙ no_requests p h in
      let s : set (set xs refill_kind_at 0) refill_requests_at 0 ≡ set xs refill_kind_at 0 = ap (set (set xs refill_kind_at 0) refill_requests_at) (sym e) ∙ set-get_or (set xs refill_kind_at 0) refill_requests_at 0 in
      subst (λ (ys : List ℕ). Becomes ys (set_refill automatic (unpack xs))) s (put_refill 0 0 Automatic refl refl (as_they_are xs p))

  -- another number of requests is left: only the number is stored
  pub left_over : (n : ℕ) → PackedState xs → refill_kind xs ≡ 1 → Becomes (set xs refill_requests_at n) (set_refill (requests_left n) (unpack xs))
  unfolding choose limit_formed refill_in
  left_over n p h =
      let s : set xs refill_kind_at 1 ≡ xs = ap (set xs refill_kind_at) (sym h) ∙ set-get_or xs refill_kind_at 0 in
      subst (λ (ys : List ℕ). Becomes (set ys refill_requests_at n) (set_refill (requests_left n) (unpack xs))) s (put_refill 1 n (Requests n) refl refl (as_they_are xs p))

  -- one request is used, of those that are left
  pub one_used : PackedState xs → (refill_requests xs ≡ 0 → ⊥) → Becomes (set xs refill_requests_at (refill_requests xs - 1)) (set_refill (one_less (unpack xs).refill) (unpack xs))
  unfolding unpack station_of limit_at
  one_used p h =
      let k : refill_kind xs ≡ 1 = split (eqb (refill_kind xs) 1) (λ e. eqb-true _ _ e) (λ e. absurd (h (no_requests p (eqb-false _ _ e)))) in
      subst (λ (x : Refill). Becomes (set xs refill_requests_at (refill_requests xs - 1)) (set_refill x (unpack xs))) (sym (words_less (refill_kind xs) (refill_requests xs) k)) (left_over (refill_requests xs - 1) p k)

  pub none_used : refill_requests xs ≡ 0 → one_less (unpack xs).refill ≡ (unpack xs).refill
  unfolding unpack station_of limit_at
  none_used h = words_none (refill_kind xs) (refill_requests xs) h

  pub recovery_kept : refill_kind xs ≡ 2 → recovery ≡ (unpack xs).refill
  unfolding unpack station_of limit_at
  recovery_kept h = words_kept (refill_kind xs) (refill_requests xs) h

recovery_in : refill_in Recovery ≡ recovery
unfolding refill_in
recovery_in = refl

module _ (old new : RefillLimit) (t : Bool) (e : t ≡ is_recovery (refill_in old)) where
  pub in_recovery : t ≡ true → refill_in Recovery ≡ unless_recovery (refill_in old) (refill_in new)
  unfolding unless_recovery
  in_recovery h = recovery_in ∙ sym (choose_yes (is_recovery (refill_in old)) recovery (refill_in new) (sym e ∙ h))

  pub no_recovery : t ≡ false → refill_in new ≡ unless_recovery (refill_in old) (refill_in new)
  unfolding unless_recovery
  no_recovery h = sym (choose_no (is_recovery (refill_in old)) recovery (refill_in new) (sym e ∙ h))

-- own data as it is stored: there, or absent
some_held : (d : PeerData) (low high : ℕ) → word_bytes low high ≡ d.bytes → HoldsData (record { present = true; len = d.len; bytes = word_bytes low high }) (data_in (Some d))
unfolding data_in fields_in choose
some_held d low high b = record {
  valid = record {
    fits = d.fits;
    packed = subst (λ (t : List ℕ). t ≡ pad 0 16 (take d.len t)) (sym b) d.packed;
    absent = λ z. clash true refl z;
  };
  holds = ap (λ (t : List ℕ). some (take d.len t)) b;
}

none_held : HoldsData (record { present = false; len = 0; bytes = word_bytes 0 0 }) (data_in None)
unfolding data_in fields_in choose word_bytes le pad
none_held = record { valid = record { fits = omega arith; packed = refl; absent = λ z. refl }; holds = refl }

pub kept_some : (xs : List ℕ) (d : PeerData) (low high : ℕ) → PackedState xs → le 8 low ≡ take 8 (drop 0 d.bytes) → le 8 high ≡ take 8 (drop 8 d.bytes)
    → Becomes (set (set (set (set xs own_present_at 1) own_len_at d.len) own_low_at low) own_high_at high) (set_own_data (data_in (Some d)) (unpack xs))
kept_some xs d low high p e f = put_own_data 1 d.len low high (omega arith) (some_held d low high (bytes_back d low high e f)) (as_they_are xs p)

pub kept_none : (xs : List ℕ) → PackedState xs → Becomes (set (set (set (set xs own_present_at 0) own_len_at 0) own_low_at 0) own_high_at 0) (set_own_data (data_in None) (unpack xs))
kept_none xs p = put_own_data 0 0 0 0 (omega arith) none_held (as_they_are xs p)
