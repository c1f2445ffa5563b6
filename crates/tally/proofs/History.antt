-- Over a whole history the tally counts every message that the ledger reads.
-- Assumes nothing.
use Prim.Native.Nat.{ℕ, ◌+◌, ◌≤◌}
use mathlib.Core.Path.{◌≡◌, refl, sym, ap, subst, ◌∙◌}
use mathlib.Core.Bool.{true, not, ◌&&◌}
use mathlib.Core.List.{List, [], ◌∷◌, ◌++◌, append_assoc}
use native.Mathlib.Omega.{arith}
use lib.ListN.{replicate}
use lib.Dec.{leb, eqb}
use borrow.Author.Tests.{leb-true, lt-ltb}
use Rattle.base_lists.specs.Lists.{choose}
use Rattle.base_lists.specs.Tests.{every, All}
use Rattle.base_lists.proofs.Choice.{split, and_left, and_right}
use Rattle.record.specs.Format.{Rec, header_by, encode, encode_by}
use Rattle.record.specs.Read as Rd
use Rattle.record.specs.InForm.{InForm, header_in_by}
use Rattle.record.specs.Walk.{kind_in, message_in}
use Rattle.record.proofs.Walk.{records_written, records_zeros}
use Rattle.spec_hyparview.specs.Written.{encode_all}
use Rattle.base_lists.proofs.Members.{both}
use Rattle.spec_history.specs.Ledger.{Ledger, empty_ledger, feed}
use Rattle.spec_history.specs.Calls.{Call, Machine, code_of, state_of, output_of, ledger_after}
use Rattle.spec_history.specs.Outputs.{ReadsBack, OutputsRead}
use Rattle.spec_history.proofs.Outputs.{form_small, outputs_read_back}
use Rattle.tally.specs.declared.Tally.{Tally}
use Rattle.tally.specs.Counts.{top, raised}
use Rattle.tally.specs.Sum.{total, has_count, all_have}
use Rattle.tally.specs.History.{no_messages, tally_after, CountsAll, EveryMessageCounted}
use Rattle.tally.proofs.Sum.{never_less_fed, sum_agrees}

-- a message in form has one of the six values in byte 1
form_counts : (e : Rec) (rest : List ℕ) → InForm e → has_count (encode e ++ rest) ≡ true
unfolding has_count kind_in message_in encode_by header_by header_in_by Rd.header_ok Rd.kind_ok choose
form_counts e rest f =
    let k = and_right (not (eqb (Rd.fixed_size e.kind) 0)) _ (and_left (not (eqb (Rd.fixed_size e.kind) 0) && choose (eqb e.kind 0) (leb e.message 5) (eqb e.message 0)) _ f.header) in
    split (eqb e.kind 0)
    (λ z. rw z (lt-ltb e.message 6 (let l : e.message ≤ 5 = leb-true e.message 5 (rw z at k) in omega arith)))
    (λ z. rw z)

all_count : (es : List Rec) (zeros : ℕ) → All InForm es → all_have (encode_all es ++ replicate zeros 0) ≡ true
unfolding all_have every encode_all All
all_count [] zeros a = ap (every has_count) (records_zeros zeros)
all_count (e ∷ es) zeros a =
    let rest : List ℕ = encode_all es ++ replicate zeros 0 in
    rw (append_assoc (encode e) (encode_all es) (replicate zeros 0))
    (ap (every has_count) (records_written e rest (form_small e a.0)) ∙ both _ _ (form_counts e rest a.0) (all_count es zeros a.1))

read_counts : (out : List ℕ) → ReadsBack out → all_have out ≡ true
read_counts out r =
    let w = r.written in
    subst (λ (x : List ℕ). all_have x ≡ true) (sym w.bytes) (all_count w.records w.zeros w.in_form)

module _ {G S : Type 0} (m : Machine G S) (a : ℕ) where
  never_less_after : (vs : List Call) (s : S) (l : Ledger) → l.sent ≤ (ledger_after m a vs s l).sent
  unfolding ledger_after
  never_less_after [] s l = omega arith
  never_less_after (v ∷ vs) s l =
      let fed = feed a v.event (code_of m v s) (output_of m v s) l in
      omega (arith, never_less_fed a (code_of m v s) v.event (output_of m v s) l, never_less_after vs (state_of m v s) fed)

  sums_agree : (vs : List Call) (s : S) → OutputsRead m vs s → (t : Tally) (l : Ledger) → total t + (ledger_after m a vs s l).sent ≤ l.sent + top
      → total (tally_after m vs s t) + l.sent ≡ total t + (ledger_after m a vs s l).sent
  unfolding ledger_after tally_after OutputsRead
  sums_agree [] s o t l h = refl
  sums_agree (v ∷ vs) s o t l h =
      let code = code_of m v s in
      let out = output_of m v s in
      let n = state_of m v s in
      let fed = feed a v.event code out l in
      let one = sum_agrees a code v.event out t l (λ z. read_counts out (o.0 z)) (omega (arith, h, never_less_after vs n fed)) in
      omega (arith, one, sums_agree vs n o.1 (raised code out t) fed (omega (arith, h, one)))

  -- Of any machine whose outputs are read back, the program too: the six counts together are the ledger's messages.
  pub counts_all : (vs : List Call) (s : S) → OutputsRead m vs s → CountsAll m a vs s
  unfolding no_messages total empty_ledger
  counts_all vs s o h = omega (arith, sums_agree vs s o no_messages empty_ledger (omega (arith, h)))

pub every_message_counted : EveryMessageCounted
every_message_counted me d c given z vs n = counts_all _ _ vs _ (outputs_read_back me d c given z vs n)
