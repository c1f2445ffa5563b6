-- What every step keeps, whether or not the run is refused: the station keeps to its widths, and what is written is records in form.
-- Assumes nothing.
use mathlib.Core.Path.{◌≡◌, refl, sym, ap, subst, ◌∙◌}
use mathlib.Core.Bool.{Bool, true, false}
use mathlib.Core.List.{List, [], ◌∷◌, ◌++◌, append_assoc, append-nil}
use Prim.Native.Nat.{ℕ, ◌<◌}
use native.Mathlib.Omega.{arith}
use lib.Dec.{eqb}
use borrow.Author.Tests.{eqb-true, eqb-false}
use Rattle.record.specs.Kinds.{Evicted, output_byte}
use Rattle.base_lists.specs.Lists.{choose}
use Rattle.base_lists.specs.Tests.{All}
use Rattle.base_lists.proofs.Choice.{by_choice, choose_no}
use Rattle.record.specs.Format.{Rec, encode}
use Rattle.record.specs.InForm.{InForm}
use Rattle.spec_hyparview.specs.Station.{Station, draws_end}
use Rattle.spec_hyparview.specs.Run as R
use Rattle.spec_hyparview.specs.Run.{Run, guard, on, emit, draw, require, emit_all}
use Rattle.spec_hyparview.specs.Written.{encode_all}
use Rattle.spec_hyparview.specs.Evictions.{named}
use Rattle.spec_hyparview.proofs.Among.{all_append, all_get, all_shuffle}
use Rattle.spec_hyparview.proofs.Keeping.{Plain, require_fine}
use Rattle.spec_hyparview.proofs.Narrow.{Peer, Peers, no_peer, Narrow}

-- the bytes of some records, all in form
pub record Spelled (out : List ℕ) : Type 0 where
  pub records : List Rec
  pub in_form : All InForm records
  pub bytes : out ≡ encode_all records

pub nothing_spelled : Spelled []
unfolding encode_all All
nothing_spelled = record { records = []; in_form = tt; bytes = refl }

pub nothing_told : named nothing_spelled.records ≡ []
unfolding nothing_spelled named
nothing_told = refl

encode_more : (es : List Rec) (e : Rec) → encode_all (es ++ (e ∷ [])) ≡ encode_all es ++ encode e
unfolding encode_all
encode_more [] e = append-nil (encode e)
encode_more (x ∷ es) e = ap (λ (l : List ℕ). encode x ++ l) (encode_more es e) ∙ sym (append_assoc (encode x) (encode_all es) (encode e))

more_spelled : {out : List ℕ} (e : Rec) → InForm e → Spelled out → Spelled (out ++ encode e)
unfolding All
more_spelled e f w = record {
  records = w.records ++ (e ∷ []);
  in_form = all_append InForm w.records (e ∷ []) w.in_form (f, tt);
  bytes = ap (λ (l : List ℕ). l ++ encode e) w.bytes ∙ sym (encode_more w.records e);
}

-- draws have 32 bits, so that a timer's delay fits its field
abbrev pub Draws : List ℕ → Type 0
Draws ds = All (λ d. d < draws_end) ds

-- of a run that was lent the draws ds and evicted es, which its records of kind 12 name unless it is refused
pub record Formed (ds es : List ℕ) (r : Run) : Type 0 where
  pub lent : r.draws ≡ ds
  pub narrow : Narrow r.station
  pub spelled : Draws ds → Spelled r.out
  pub told : (d : Draws ds) → r.code ≡ 0 → named (spelled d).records ≡ es

-- a refused run tells nothing of whom it evicted
pub kept : {ds es fs : List ℕ} {r : Run} {after : Run} → Formed ds es r → (r.code ≡ 0 → Formed ds fs after) → Formed ds fs (guard r after)
unfolding guard
kept {ds} {es} {fs} {r} k f =
    by_choice (Formed ds fs) (eqb r.code 0) (λ e. f (eqb-true r.code 0 e))
    (λ e. record { lent = k.lent; narrow = k.narrow; spelled = k.spelled; told = λ d z. absurd (eqb-false r.code 0 e z) })

-- a test that decides on the run and on whom it evicted
pub either_way : {ds fs gs : List ℕ} (test : Bool) {x y : Run} → Formed ds fs x → Formed ds gs y → Formed ds (choose test fs gs) (choose test x y)
unfolding choose
either_way true f g = f
either_way false f g = g

split_named : (test : Bool) (p : ℕ) (xs ys zs : List ℕ) → xs ≡ ys ++ zs → choose test (p ∷ xs) xs ≡ choose test (p ∷ ys) ys ++ zs
unfolding choose
split_named true p xs ys zs e = ap (λ (l : List ℕ). p ∷ l) e
split_named false p xs ys zs e = e

named_more : (es : List Rec) (e : Rec) → named (es ++ (e ∷ [])) ≡ named es ++ named (e ∷ [])
unfolding named
named_more [] e = refl
named_more (x ∷ es) e =
    split_named (eqb x.kind (output_byte Evicted)) x.peer (named (es ++ (e ∷ []))) (named es) (named (e ∷ [])) (named_more es e)

more_told : {out : List ℕ} (e : Rec) (f : InForm e) (w : Spelled out) (es : List ℕ) → named w.records ≡ es → named (more_spelled e f w).records ≡ es ++ named (e ∷ [])
unfolding more_spelled
more_told e f w es z = named_more w.records e ∙ ap (λ (l : List ℕ). l ++ named (e ∷ [])) z

module _ {ds es : List ℕ} where
  pub either : (test : Bool) {x y : Run} → Formed ds es x → Formed ds es y → Formed ds es (choose test x y)
  either test f g = by_choice (Formed ds es) test (λ e. f) (λ e. g)

  -- a change of the station
  altered : (f : Station → Station) {r : Run} → (r.code ≡ 0 → Narrow r.station → Narrow (f r.station)) → Formed ds es r → Formed ds es (on f r)
  unfolding on
  altered f {r} h k = kept k (λ z. record { lent = k.lent; narrow = h z k.narrow; spelled = k.spelled; told = k.told })

  pub alter : (f : Station → Station) {r : Run} → (Narrow r.station → Narrow (f r.station)) → Formed ds es r → Formed ds es (on f r)
  alter f h k = altered f (λ z. h) k

  pub asked : (c : ℕ) (test : Bool) {r : Run} → Formed ds es r → Formed ds es (require c test r)
  unfolding require
  asked c test k =
      kept k (λ z. either test k (record { lent = k.lent; narrow = k.narrow; spelled = k.spelled; told = λ d y. k.told d z }))

  -- a change that a test stands before
  pub claim : {c : ℕ} → Plain c → (test : Bool) (f : Station → Station) {r : Run} → (r.code ≡ 0 → test ≡ true → Narrow r.station → Narrow (f r.station)) → Formed ds es r → Formed ds es (on f (require c test r))
  claim {c} p test f {r} h k =
      altered f (λ z. let e = require_fine p test r z in
      subst (λ (w : Run). Narrow w.station → Narrow (f w.station)) (sym e.0) (h (subst (λ (w : Run). w.code ≡ 0) e.0 z) e.1)) (asked c test k)

  pub drew : (n : ℕ) {r : Run} → Formed ds es r → Formed ds es (draw n r)
  unfolding draw
  drew n k =
      kept k (λ z. either _ (record { lent = k.lent; narrow = k.narrow; spelled = k.spelled; told = k.told }) (record { lent = k.lent; narrow = k.narrow; spelled = k.spelled; told = λ d y. k.told d z }))

  pub drew_one_of : (n : ℕ) {r : Run} → Formed ds es r → Formed ds es (R.draw_one_of n r)
  unfolding R.draw_one_of
  drew_one_of n k = drew _ k

  pub drew_shuffle : (xs : List ℕ) {r : Run} → Formed ds es r → Formed ds es (R.draw_shuffle xs r)
  unfolding R.draw_shuffle
  drew_shuffle xs k = drew _ k

  -- a record in form, and whom it names as evicted
  wrote_any : (e : Rec) {r : Run} → (Draws ds → InForm e) → Formed ds es r → Formed ds (es ++ named (e ∷ [])) (emit e r)
  unfolding emit
  wrote_any e {r} f k =
      kept k (λ z. by_choice (Formed ds (es ++ named (e ∷ []))) _ (λ i. record {
        lent = k.lent;
        narrow = k.narrow;
        spelled = λ d. more_spelled e (f d) (k.spelled d);
        told = λ d y. more_told e (f d) (k.spelled d) es (k.told d z);
      })
      (λ i. record { lent = k.lent; narrow = k.narrow; spelled = k.spelled; told = λ d y. absurd (omega (arith, y)) }))

  -- a record that names nobody; a timer's delay is in form where the draws are
  pub wrote_if : (e : Rec) {r : Run} → eqb e.kind (output_byte Evicted) ≡ false → (Draws ds → InForm e) → Formed ds es r → Formed ds es (emit e r)
  unfolding named
  wrote_if e {r} n f k =
      subst (λ (l : List ℕ). Formed ds l (emit e r)) (ap (λ (l : List ℕ). es ++ l) (choose_no (eqb e.kind (output_byte Evicted)) (e.peer ∷ []) [] n) ∙ append-nil es) (wrote_any e f k)

  pub wrote : (e : Rec) {r : Run} → eqb e.kind (output_byte Evicted) ≡ false → InForm e → Formed ds es r → Formed ds es (emit e r)
  wrote e n f k = wrote_if e n (λ d. f) k

  -- one that names p
  pub wrote_evicted : (p : ℕ) {r : Run} → InForm (R.notice (output_byte Evicted) p) → Formed ds es r → Formed ds (es ++ (p ∷ [])) (emit (R.notice (output_byte Evicted) p) r)
  unfolding named choose
  wrote_evicted p f k = wrote_any (R.notice (output_byte Evicted) p) (λ d. f) k

  pub wrote_all : (f : ℕ → Rec) → ((p : ℕ) → eqb (f p).kind (output_byte Evicted) ≡ false) → ((p : ℕ) → Peer p → InForm (f p)) → (ps : List ℕ) {r : Run} → Peers ps → Formed ds es r → Formed ds es (emit_all f ps r)
  unfolding emit_all All
  wrote_all f n h [] a k = k
  wrote_all f n h (p ∷ ps) a k = wrote_all f n h ps a.1 (wrote (f p) (n p) (h p a.0) k)

-- what is picked from peers, and peers in another order
pub picked_peer : (ps : List ℕ) (r : Run) → Peers ps → Peer (R.picked ps r)
unfolding R.picked
picked_peer ps r a = all_get Peer ps _ 0 no_peer a

pub shuffled_peers : (ps : List ℕ) (r : Run) → Peers ps → Peers (R.shuffled ps r)
unfolding R.shuffled
shuffled_peers ps r a = all_shuffle Peer no_peer (R.to_draw r) ps a
