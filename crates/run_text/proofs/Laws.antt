-- Laws of the lines of an event.
-- Assumes nothing.
use Prim.Native.Nat.{ℕ, zero, suc, ◌+◌, ◌≤◌, ◌<◌}
use mathlib.Core.Path.{◌≡◌, refl, sym, ap, ◌∙◌}
use mathlib.Core.List.{List, [], ◌∷◌, ◌++◌, append-nil, append_assoc, map}
use native.Mathlib.Omega.{arith}
use lib.ListN.{length, take, drop, get_or}
use lib.Seq.{take_all}
use Rattle.record.specs.declared.Header.{Header}
use Rattle.record.specs.Format.{header_length}
use Rattle.record.specs.Read.{header_of}
use Rattle.record.specs.Walk.{records_in, headers}
use Rattle.record.proofs.Walk.{records_few, taken_none, taken_one}
use Rattle.run_text.specs.declared.Page.{Page}
use Rattle.run_text.specs.Text.{Prints}
use Rattle.run_text.specs.Numbers.{field}
use Rattle.run_text.proofs.Written.{nothing, then, named}
use Rattle.run_text.specs.Lines.{space, newline, four, record_line, end_line, record_lines, event_text}

-- ---- the line of a record: numbers, each with a space behind it, and the last

pub spaced : List ℕ → List ℕ
spaced [] = []
spaced (n ∷ ns) = field n space ++ spaced ns

spaced_more : (ns : List ℕ) (k : ℕ) → k < length ns → spaced (take k ns) ++ field (get_or ns k 0) space ≡ spaced (take (suc k) ns)
unfolding spaced
spaced_more [] k h = absurd (omega (arith, h))
spaced_more (n ∷ ns) zero h = sym (append-nil (field n space))
spaced_more (n ∷ ns) (suc k) h =
    append_assoc (field n space) (spaced (take k ns)) (field (get_or ns k 0) space) ∙ ap (λ (x : List ℕ). field n space ++ x) (spaced_more ns k (omega (arith, h)))

pub spacing_start : (t : Page) → Prints (spaced []) t t
unfolding spaced
spacing_start t = nothing

pub spacing_next : (ns : List ℕ) (t a r : Page) (k : ℕ) → Prints (spaced (take k ns)) t a → k < length ns → Prints (field (get_or ns k 0) space) a r → Prints (spaced (take (k + 1) ns)) t r
spacing_next ns t a r k v h p = let e : suc k ≡ k + 1 = omega arith in named (spaced_more ns k h ∙ ap (λ (j : ℕ). spaced (take j ns)) e) (then p v)

module _ (i : ℕ) (h : Header) where
  abbrev pub numbers : List ℕ
  numbers = i ∷ h.kind ∷ h.message ∷ h.peer ∷ h.second ∷ h.ttl ∷ h.number ∷ []

  line_is : spaced numbers ++ field h.nodes newline ≡ record_line i h
  unfolding spaced record_line four
  line_is = simp append_assoc

  pub record_put : (t a r : Page) (k : ℕ) → 7 ≤ k → Prints (field h.nodes newline) a r → Prints (spaced (take k numbers)) t a → Prints (record_line i h) t r
  record_put t a r k l p v = named (ap (λ (x : List ℕ). spaced x ++ field h.nodes newline) (take_all k numbers (omega arith)) ∙ line_is) (then p v)

pub end_put : (code n : ℕ) (t a b c r : Page) → Prints (field n 10) c r → Prints (field code 32) b c → Prints (32 ∷ []) a b → Prints (61 ∷ []) t a → Prints (end_line code n) t r
unfolding end_line
end_put code n t a b c r k₄ k₃ k₂ k₁ = then (then (then k₄ k₃) k₂) k₁

pub event_put : (i code n : ℕ) (b : List ℕ) (t a r : Page) → Prints (end_line code n) a r → Prints (record_lines i (headers b)) t a → Prints (event_text i code n b) t r
unfolding event_text
event_put i code n b t a r k₂ k₁ = then k₂ k₁

-- ---- the records of an output

-- the lines of an event are its first record's, and those of the output behind that record
module _ (i code draws : ℕ) (b : List ℕ) where
  text_by : (bs : List (List ℕ)) → records_in b ≡ bs → event_text i code draws b ≡ record_lines i (map header_of bs) ++ end_line code draws
  unfolding event_text headers
  text_by bs e = ap (λ (x : List (List ℕ)). record_lines i (map header_of x) ++ end_line code draws) e

  pub text_few : length b < header_length → event_text i code draws b ≡ end_line code draws
  unfolding record_lines
  text_few h = text_by [] (records_few b h)

  pub text_none : (header_of b).size ≡ 0 → event_text i code draws b ≡ end_line code draws
  unfolding record_lines
  text_none e = text_by [] (taken_none b (header_of b) refl e)

  pub text_step : header_length ≤ length b → ((header_of b).size ≡ 0 → ⊥) → event_text i code draws b ≡ record_line i (header_of b) ++ event_text i code draws (drop (header_of b).size b)
  unfolding record_lines event_text headers
  text_step h e =
      let rest : List (List ℕ) = records_in (drop (header_of b).size b) in
      text_by (b ∷ rest) (taken_one b (header_of b) refl h e) ∙ append_assoc (record_line i (header_of b)) (record_lines i (map header_of rest)) (end_line code draws)

-- the lines of `rest` are to come, after what was written
pub record Listing (i : ℕ) (whole : List ℕ) (t r : Page) (rest : List ℕ) : Type 0 where
  pub done : List ℕ
  pub so_far : Prints done t r
  pub same : whole ≡ done ++ record_lines i (headers rest)

pub listing_start : (i : ℕ) (t : Page) (b : List ℕ) → Listing i (record_lines i (headers b)) t t b
listing_start i t b = record { done = []; so_far = nothing; same = refl }

module _ (i : ℕ) (whole : List ℕ) (t r : Page) (b : List ℕ) (v : Listing i whole t r b) where
  by_records : (bs : List (List ℕ)) → records_in b ≡ bs → whole ≡ v.done ++ record_lines i (map header_of bs)
  unfolding headers
  by_records bs e = v.same ∙ ap (λ (x : List (List ℕ)). v.done ++ record_lines i (map header_of x)) e

  pub listing_end : records_in b ≡ [] → Prints whole t r
  unfolding record_lines
  listing_end e = named (sym (by_records [] e ∙ append-nil v.done)) v.so_far

  pub listing_next : (h : Header) (c more : List ℕ) (s : Page) → records_in b ≡ c ∷ records_in more → h ≡ header_of c → Prints (record_line i h) r s → Listing i whole t s more
  unfolding record_lines headers
  listing_next h c more s e is k = record {
    done = v.done ++ record_line i h;
    so_far = then k v.so_far;
    same = by_records (c ∷ records_in more) e
        ∙ (ap (λ (x : Header). v.done ++ (record_line i x ++ record_lines i (map header_of (records_in more)))) (sym is)
        ∙ sym (append_assoc v.done (record_line i h) (record_lines i (map header_of (records_in more)))));
  }
