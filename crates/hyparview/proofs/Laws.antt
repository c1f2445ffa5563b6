-- Laws of the ends of a call.
-- Assumes nothing.
use Prim.Native.Nat.{ℕ, ◌-◌, ◌≤◌}
use mathlib.Core.Path.{◌≡◌, sym, ap, ◌∙◌}
use mathlib.Core.List.{List, [], ◌++◌, append-nil}
use native.Mathlib.Omega.{arith}
use lib.ListN.{length, replicate, take, drop, length-drop}
use lib.Seq.{length-take-le}
use Rattle.std.proofs.lemmas.List.{drop_all}
use borrow.Rule.Slice.PartMut.{put_mid}
use borrow.Author.Tests.{eq-eqb, ne_eqb}
use Rattle.base_lists.proofs.Choice.{choose_yes, choose_no}
use Rattle.base_peer.specs.Data.{Data}
use Rattle.base_timing.specs.declared.Config.{Config}
use Rattle.spec_hyparview.specs.Handle.{new}
use Rattle.hyparview.specs.Made.{MadeWords, made, pack_made}
use Rattle.work.specs.declared.Work.{Work}
use Rattle.hyparview_state.specs.Layout as layout
use Rattle.hyparview.specs.declared.Done.{Done}
use Rattle.hyparview.specs.Handled.{cleared, refused_words, ended}

pub all_zero : (xs : List ℕ) (k : ℕ) (out o : List ℕ) → o ≡ replicate (length out) 0 → record { code = k; draws = 0; words = xs; output = o } ≡ refused_words k xs (length out)
unfolding refused_words
all_zero xs k out o e = ap (λ (l : List ℕ). record { code = k; draws = 0; words = xs; output = l }) e

module _ (old : List ℕ) (w : Work) (ys out o : List ℕ) where
  pub ended_refused : (zs : List ℕ) (r : Done) → (w.code ≡ 0 → ⊥) → zs ≡ old → record { code = r.code; draws = r.draws; words = zs; output = o } ≡ refused_words w.code zs (length out)
      → record { code = r.code; draws = r.draws; words = zs; output = o } ≡ ended old w ys out
  unfolding ended
  ended_refused zs r h q e = e ∙ (ap (λ (l : List ℕ). refused_words w.code l (length out)) q ∙ sym (choose_no _ _ _ (ne_eqb _ _ h)))

  pub ended_accepted : (zs : List ℕ) → w.code ≡ 0 → zs ≡ ys → o ≡ cleared w.written out → record { code = 0; draws = w.drawn; words = zs; output = o } ≡ ended old w ys out
  unfolding ended
  ended_accepted zs h q e = (λ i. record { code = 0; draws = w.drawn; words = q i; output = e i }) ∙ sym (choose_yes _ _ _ (eq-eqb _ _ h))

-- the places from k on, filled with zeroes
pub filled : (k : ℕ) (out fs : List ℕ) → k ≤ length out → fs ≡ replicate (length (take (length out - k) (drop k out))) 0 → put_mid k (length out - k) out fs ≡ cleared k out
unfolding cleared
filled k out fs h e =
    let n : length (drop k out) ≡ length out - k = length-drop k out in
    let t : length (take (length out - k) (drop k out)) ≡ length out - k = length-take-le (length out - k) (drop k out) (omega (arith, n)) in
    let r : drop (length out - k) (drop k out) ≡ [] = drop_all (length out - k) (drop k out) (omega (arith, n)) in
    ap (λ (l : List ℕ). take k out ++ l) (rw r (append-nil fs) ∙ e ∙ ap (λ (i : ℕ). replicate i 0) t)

-- `new` on as many words as a state has
pub made_whole : (xs : List ℕ) (me : ℕ) (d : Data) (c : Config) (r : MadeWords) → length xs ≡ layout.words → r ≡ made xs me d c → r ≡ pack_made (new me d c)
unfolding made
made_whole xs me d c r l e = e ∙ choose_yes _ _ _ (eq-eqb _ _ l)
