-- What the ledger reads in an output is what the run's records tell.
-- Assumes nothing.
use mathlib.Core.Path.{◌≡◌, refl, sym, ap, ◌∙◌}
use mathlib.Core.Bool.{Bool, true, false}
use mathlib.Core.List.{List, [], ◌∷◌, ◌++◌, append_assoc, append-nil, reverse_aux}
use Prim.Native.Nat.{ℕ, ◌+◌, ◌≤◌, ◌<◌}
use native.Mathlib.Omega.{arith}
use lib.ListN.{replicate}
use lib.Dec.{eqb}
use borrow.Author.Tests.{eqb-true, ne_eqb}
use Rattle.base_lists.specs.Lists.{choose, without, push_new}
use Rattle.base_lists.specs.Bytes.{le, read_le}
use Rattle.base_lists.proofs.Choice.{split, choose_no}
use Rattle.record.specs.Format.{Rec, header_by, encode, encode_by}
use Rattle.record.specs.Walk.{kind_in, peer_in, records_in, walk}
use Rattle.record.proofs.Walk.{records_written, records_zeros}
use Rattle.spec_hyparview.specs.Station.{peers_end}
use Rattle.spec_hyparview.specs.Written.{encode_all}
use Rattle.spec_hyparview.proofs.Told.{spell, note, up_after, sent_after, Sound, AllSound, no_more, one_more}
use Rattle.spec_history.specs.Ledger.{Ledger, count_message, note_up, note_down, note_record, read_records}

-- the ledger after the records of a run, of which the newest stands first
unfoldable pub booked : List Rec → Ledger → Ledger
booked o l = record { up = up_after o l.up; sent = sent_after o l.sent; allowance = l.allowance }

by_kinds : (a b c : Bool) (p : ℕ) (l : Ledger) → (a ≡ true → b ≡ false) → (a ≡ true → c ≡ false) → choose a (count_message l) (choose b (note_up p l) (choose c (note_down p l) l))
    ≡ record { up = choose b (push_new p l.up) (choose c (without p l.up) l.up); sent = choose a (l.sent + 1) l.sent; allowance = l.allowance }
unfolding choose count_message note_up note_down
by_kinds true true c p l f g = let z : ◌≡◌ {A = ℕ} 0 1 = cc (f refl) in absurd (omega arith)
by_kinds true false true p l f g = let z : ◌≡◌ {A = ℕ} 0 1 = cc (g refl) in absurd (omega arith)
by_kinds true false false p l f g = refl
by_kinds false true c p l f g = refl
by_kinds false false true p l f g = refl
by_kinds false false false p l f g = refl

enter_booked : (e : Rec) (o : List Rec) (l : Ledger) → note_record e.kind e.peer (booked o l) ≡ booked (e ∷ o) l
unfolding note_record booked up_after sent_after note
enter_booked e o l =
    by_kinds (eqb e.kind 0) (eqb e.kind 9) (eqb e.kind 10) e.peer (booked o l) (other 9 (λ z. omega arith)) (other 10 (λ z. omega arith))
  where
    other : (n : ℕ) → (0 ≡ n → ⊥) → eqb e.kind 0 ≡ true → eqb e.kind n ≡ false
    other n d z = ne_eqb e.kind n (λ w. d (sym (eqb-true e.kind 0 z) ∙ w))

-- the peer counts only in notices
enter_same : (k p q : ℕ) (l : Ledger) → (9 ≤ k → k ≤ 10 → p ≡ q) → note_record k p l ≡ note_record k q l
unfolding note_record
enter_same k p q l h =
    split (eqb k 9)
    (λ e. let z : p ≡ q = h (omega (arith, eqb-true k 9 e)) (omega (arith, eqb-true k 9 e)) in rw z)
    (λ e. split (eqb k 10)
    (λ f. let z : p ≡ q = h (omega (arith, eqb-true k 10 f)) (omega (arith, eqb-true k 10 f)) in rw z)
    (λ f. rw (e, f) (same_rest (eqb k 0) p q l)))
  where
    same_rest : (a : Bool) (p q : ℕ) (l : Ledger) → choose a (count_message l) (choose false (note_up p l) (choose false (note_down p l) l)) ≡ choose a (count_message l) (choose false (note_up q l) (choose false (note_down q l) l))
    same_rest a p q l = ap (choose a (count_message l)) (choose_no false _ _ refl ∙ choose_no false _ _ refl ∙ sym (choose_no false _ _ refl ∙ choose_no false _ _ refl))

-- one record in front of other bytes
module _ (e : Rec) (rest : List ℕ) (s : Sound e) where
  peer_is : e.peer < peers_end → peer_in (encode e ++ rest) ≡ e.peer
  unfolding peer_in encode_by header_by le read_le
  peer_is n = omega (arith, n)

  kind_is : kind_in (encode e ++ rest) ≡ e.kind
  unfolding kind_in encode_by header_by
  kind_is = refl

  entered : (l : Ledger) → note_record (kind_in (encode e ++ rest)) (peer_in (encode e ++ rest)) l ≡ note_record e.kind e.peer l
  entered l = rw kind_is (enter_same e.kind (peer_in (encode e ++ rest)) e.peer l (λ a b. peer_is (s.narrow a b)))

-- by an output's records
by_records : (out : List ℕ) (bs : List (List ℕ)) (l : Ledger) → records_in out ≡ bs → read_records out l ≡ walk (λ b. note_record (kind_in b) (peer_in b)) bs l
unfolding read_records
by_records out bs l e = ap (λ (x : List (List ℕ)). walk (λ b. note_record (kind_in b) (peer_in b)) x l) e

one_read : (e : Rec) (rest : List ℕ) (l : Ledger) → Sound e → read_records (encode e ++ rest) l ≡ read_records rest (note_record e.kind e.peer l)
unfolding read_records walk
one_read e rest l s = by_records (encode e ++ rest) _ l (records_written e rest s.small) ∙ ap (read_records rest) (entered e rest s l)

-- the ledger after records, the oldest first
unfoldable enter_all : List Rec → Ledger → Ledger
enter_all [] l = l
enter_all (e ∷ es) l = enter_all es (note_record e.kind e.peer l)

all_read : (es : List Rec) (zeros : ℕ) (l : Ledger) → AllSound es → read_records (encode_all es ++ replicate zeros 0) l ≡ enter_all es l
unfolding encode_all enter_all walk
all_read [] zeros l no_more = by_records (replicate zeros 0) [] l (records_zeros zeros)
all_read (e ∷ es) zeros l (one_more s h) =
    rw (append_assoc (encode e) (encode_all es) (replicate zeros 0)) (one_read e (encode_all es ++ replicate zeros 0) l s ∙ all_read es zeros _ h)

-- and with the newest first
turned : (o acc : List Rec) (l : Ledger) → enter_all (reverse_aux o acc) l ≡ enter_all acc (booked o l)
unfolding enter_all booked up_after sent_after
turned [] acc l = refl
turned (e ∷ es) acc l = turned es (e ∷ acc) l ∙ ap (enter_all acc) (enter_booked e es l)

spelled_back : (o acc : List Rec) → spell o ++ encode_all acc ≡ encode_all (reverse_aux o acc)
unfolding spell encode_all
spelled_back [] acc = refl
spelled_back (e ∷ es) acc = append_assoc (spell es) (encode e) (encode_all acc) ∙ spelled_back es (e ∷ acc)

sound_back : (o acc : List Rec) → AllSound o → AllSound acc → AllSound (reverse_aux o acc)
sound_back [] acc no_more b = b
sound_back (e ∷ es) acc (one_more s h) b = sound_back es (e ∷ acc) h (one_more s b)

-- what the ledger makes of an output as the call left it
pub heard : (o : List Rec) (out : List ℕ) (zeros : ℕ) (l : Ledger) → AllSound o → out ≡ spell o → read_records (out ++ replicate zeros 0) l ≡ booked o l
unfolding enter_all encode_all
heard o out zeros l h e =
    let es = reverse_aux o [] in
    let back : out ≡ encode_all es = e ∙ (sym (append-nil (spell o)) ∙ spelled_back o []) in
    rw back (all_read es zeros l (sound_back o [] h no_more) ∙ turned o [] l)
