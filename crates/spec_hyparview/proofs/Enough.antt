-- "8,192 output bytes always suffice", and 512 draws that no choice passes over (02, S-6), for every station that passes the rules.
-- Assumes nothing.
use mathlib.Core.Path.{◌≡◌, refl, subst, ◌∙◌}
use mathlib.Core.Bool.{true}
use mathlib.Core.List.{List, [], ◌∷◌, ◌++◌}
use mathlib.Core.Option.{Option, none, some}
use Prim.Native.Nat.{ℕ, zero, suc, ◌+◌, ◌-◌, ◌≤◌, ◌<◌}
use native.Mathlib.Omega.{arith}
use lib.ListN.{length, drop, replicate}
use lib.Seq.{drop-append-add}
use lib.Dec.{eqb, ltb}
use borrow.Author.Tests.{eqb-true}
use Rattle.base_lists.proofs.Choice.{by_choice, choose_yes, and_left, and_right}
use Rattle.base_util.specs.Chances.{sure_end, sure}
use Rattle.record.specs.Kinds.{EventKind, Message, DoShuffle, DoMaintenance, PendingNeighborRequest, RetryJoin, PeerDisconnected, RequestJoin, UpdatePeerData, Quit, Pin}
use Rattle.record.specs.Format.{Rec}
use Rattle.record.proofs.ByKind.{by_kind}
use Rattle.spec_hyparview.specs.Numbers.{message_number, kind_number}
use Rattle.record.specs.Read.{Reading, read_event}
use Rattle.spec_hyparview.specs.Station.{Station}
use Rattle.spec_hyparview.specs.Rules.{all_under, station_ok}
use Rattle.spec_hyparview.specs.Handle.{Result, start, steps, refusal, accepted, finish, handle_reading, handle}
use Rattle.spec_hyparview.proofs.Reading.{Readable, by_reading}
use Rattle.spec_hyparview.proofs.Whole.{Pays, ok_steps}
use Rattle.spec_hyparview.proofs.Tested.{between_of}

-- of an answer, to a call that lends the draws ds and room bytes
pub record Enough (ds : List ℕ) (room : ℕ) (a : Result) : Type 0 where
  -- a byte is missed only where fewer than 8,192 are lent
  pub no_nine : 8192 ≤ room → a.code ≡ 9 → ⊥
  -- a draw below 2^32 - 32 is passed over by no choice, so 512 of them suffice
  pub no_five : 512 ≤ length ds → all_under sure_end ds ≡ true → a.code ≡ 5 → ⊥
  -- at most the draws lent are used, those passed over among them, and past 8,192 bytes nothing is written
  pub few_draws : a.used ≤ length ds
  pub few_bytes : drop 8192 a.output ≡ replicate (room - 8192) 0

pub all_sure : (ds : List ℕ) → all_under sure_end ds ≡ true → sure ds ≡ length ds
unfolding all_under sure
all_sure [] e = refl
all_sure (d ∷ ds) e =
    let b = ltb d sure_end in
    omega (arith, choose_yes {A = ℕ} b 1 0 (and_left b (all_under sure_end ds) e), all_sure ds (and_right b (all_under sure_end ds) e))

zeros : ℕ → List ℕ
zeros n = replicate n 0

drop_zeros : (k n m : ℕ) → m ≡ n - k → drop k (zeros n) ≡ zeros m
unfolding zeros
drop_zeros zero n m e = let z : m ≡ n = omega arith in rw z
drop_zeros (suc k) zero m e = let z : m ≡ 0 = omega arith in rw z
drop_zeros (suc k) (suc n) m e = drop_zeros k n m (omega arith)

-- past the bytes written there are zeroes
rest_zero : (out : List ℕ) (room : ℕ) → length out ≤ 8192 → drop 8192 (out ++ replicate (room - length out) 0) ≡ replicate (room - 8192) 0
unfolding zeros
rest_zero out room l =
    subst (λ (k : ℕ). drop k (out ++ replicate (room - length out) 0) ≡ replicate (room - 8192) 0) (omega_sum (length out) l)
    (drop-append-add out (zeros (room - length out)) (8192 - length out) ∙ drop_zeros (8192 - length out) (room - length out) (room - 8192) (omega arith))
  where
    omega_sum : (n : ℕ) → n ≤ 8192 → n + (8192 - n) ≡ 8192
    omega_sum n l = omega arith

few_messages : (a m : ℕ) (k : EventKind) → kind_number a m (some k) ≤ a + 9
unfolding kind_number message_number
few_messages a m Message =
    by_choice (λ (w : ℕ). w ≤ a + 9) (eqb m 0) (λ _. omega arith) (λ _. by_choice (λ (w : ℕ). w ≤ a + 9) (eqb m 4) (λ _. omega arith) (λ _. omega arith))
few_messages a m DoShuffle = omega arith
few_messages a m DoMaintenance = omega arith
few_messages a m PendingNeighborRequest = omega arith
few_messages a m RetryJoin = omega arith
few_messages a m PeerDisconnected = omega arith
few_messages a m RequestJoin = omega arith
few_messages a m UpdatePeerData = omega arith
few_messages a m Quit = omega arith
few_messages a m Pin = omega arith

no_message : (a m : ℕ) → kind_number a m none ≤ a + 9
unfolding kind_number
no_message a m = omega arith

pub pays_all : (a : ℕ) (e : Rec) → Pays a (a + 9) e
pays_all a e = by_kind (λ (o : Option EventKind). kind_number a e.message o ≤ a + 9) e.kind (λ _. no_message a e.message) (λ k _. few_messages a e.message k)

enough_refusal : (ds : List ℕ) (c room : ℕ) (s : Station) → (c ≡ 5 → sure ds < 512) → (c ≡ 9 → room < 8192) → Enough ds room (refusal c s room)
unfolding refusal zeros
enough_refusal ds c room s f g = record {
  no_five = λ l a e. absurd (omega (arith, f e, all_sure ds a));
  no_nine = λ l e. absurd (omega (arith, g e));
  few_draws = omega arith;
  few_bytes = drop_zeros 8192 room (room - 8192) refl;
}

module _ (s : Station) (ok : station_ok s ≡ true) (ds : List ℕ) (room : ℕ) where
  enough_event : (e : Rec) → Readable e → Enough ds room (finish s (steps e (start s ds room)))
  unfolding finish accepted
  enough_event e w =
      let a = s.config.active_view_capacity in
      let r = steps e (start s ds room) in
      let k = ok_steps (a + 9) ds room e w (pays_all a e) (between_of s ok) in
      by_choice (Enough ds room) (eqb r.code 0)
      (λ z. let g = k.good (eqb-true r.code 0 z) in record {
        no_five = λ l a f. omega arith;
        no_nine = λ l f. omega arith;
        few_draws = k.codes.within;
        few_bytes = rw k.codes.space (rest_zero r.out room (omega (arith, g.bytes_left)));
      })
      (λ z. rw k.codes.space (enough_refusal ds r.code room s k.codes.five k.codes.nine))

  -- With 512 draws below 2^32 - 32 and 8,192 bytes lent, no event is answered 5 or 9; and whatever is lent, no event uses more draws or past 8,192 bytes.
  pub enough : (b : List ℕ) → all_under 256 b ≡ true → Enough ds room (handle s b ds room)
  unfolding handle handle_reading
  enough b bytes =
      rw (choose_yes (station_ok s) (handle_reading (read_event b) s ds room) (refusal 2 s room) ok)
      (by_reading b bytes (λ (x : Reading). Enough ds room (handle_reading x s ds room))
      (λ c l h. enough_refusal ds c room s (λ e. absurd (omega arith)) (λ e. absurd (omega arith)))
      (λ w. enough_event _ w))
