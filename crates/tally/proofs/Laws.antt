-- The tally of an output's records.
-- Assumes nothing.
use Prim.Native.Nat.{ℕ}
use mathlib.Core.Path.{◌≡◌, refl}
use mathlib.Core.List.{List}
use borrow.Author.Tests.{eq-eqb, ne_eqb}
use Rattle.std.proofs.Common.{fold}
use Rattle.base_lists.specs.Lists.{choose}
use Rattle.record.specs.declared.Header.{Header}
use Rattle.record.specs.Read.{header_of_by}
use Rattle.record.specs.Walk.{kind_in, message_in, with_headers}
use Rattle.record.proofs.Walk.{folded}
use Rattle.tally.specs.declared.Tally.{Tally}
use Rattle.tally.specs.Counts.{enter, raise_records, raised}

pub refused : (code : ℕ) (out : List ℕ) (t : Tally) → (code ≡ 0 → ⊥) → t ≡ raised code out t
unfolding raised choose
refused code out t e = rw (ne_eqb code 0 e)

-- what `fold` makes of the records
abbrev pub entered : Tally → Header × List ℕ → Tally
entered t p = enter p.0.kind p.0.message t

pub accepted : (code : ℕ) (out : List ℕ) (t : Tally) → code ≡ 0 → fold entered t (with_headers out) ≡ raised code out t
unfolding raised raise_records choose header_of_by kind_in message_in
accepted code out t e = rw (eq-eqb code 0 e) (folded entered (λ b. enter (kind_in b) (message_in b)) (λ b x. refl) out t)
