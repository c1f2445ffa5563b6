-- Laws of a file's records, one after the other.
-- Assumes nothing.
use Prim.Native.Nat.{ℕ, zero, suc, ◌+◌, ◌*◌, ◌-◌, ◌≤◌, ◌<◌}
use mathlib.Core.Path.{◌≡◌, refl, sym, ap, ◌∙◌}
use mathlib.Core.Bool.{false}
use mathlib.Core.List.{List, [], ◌∷◌, ◌++◌, append_assoc, append-nil}
use native.Mathlib.Nat.{not-suc-le-zero, le_of_suc-le-suc, add_assoc, zero-add}
use native.Mathlib.Omega.{arith}
use borrow.Author.Tests.{lt-ltb, le-ltb, leb-true, leb-false, eq-eqb, ne_eqb}
use borrow.Rule.Slice.PartMut.{put_mid}
use lib.ListN.{length, take, drop, length-drop, length-append}
use lib.Seq.{take_all, take-length, take_at, length-take-le, drop_at, drop-length, drop-drop}
use lib.Dec.{leb, ltb}
use Rattle.base_lists.specs.Lists.{choose, null}
use Rattle.base_lists.specs.Array.{pad}
use Rattle.base_lists.specs.Bytes.{read_le}
use Rattle.base_lists.proofs.Array.{length_pad}
use Rattle.base_lists.proofs.Choice.{by_choice, choose_yes, choose_no, split}
use Rattle.record.specs.Format.{header_length_by}
use Rattle.record.specs.Read.{header_of_by}
use Rattle.std.specs.Prelude.{None}
use Rattle.record_convert.specs.Convert.{conversion_code, Conversion, outcome, converted, conversion, placed}
use Rattle.record_convert.specs.Walk.{first_record, Walked, behind, stopped, converting, walked, Outcomes, outcomes, outcomes_of}
use Rattle.record.proofs.Laws.{well_formed_long}
use Rattle.record_convert.proofs.Laws.{Accepted, accepted, converted_fits, placed_zeroes}

-- ---- the first record

module _ (v : ℕ) (b : List ℕ) where
  pub first_short : length b < header_length_by v → first_record v b ≡ b
  unfolding first_record header_of_by
  first_short l = choose_yes _ _ _ (lt-ltb (length b) (header_length_by v) l)

  module _ (l : header_length_by v ≤ length b) where
    pub first_long : first_record v b ≡ take (read_le 2 b (6 + 2 * v)) b
    unfolding first_record header_of_by
    first_long = choose_no _ _ _ (le-ltb (length b) (header_length_by v) l)

-- the part of b that the code cuts
part_again : (s : ℕ) (b : List ℕ) → take (length (take s b)) b ≡ take s b
part_again s b =
    split (leb s (length b)) (λ y. ap (λ (k : ℕ). take k b) (length-take-le s b (leb-true s (length b) y)))
    (λ n. let e : take s b ≡ b = take_all s b (omega (arith, leb-false s (length b) n)) in rw e (take-length b))

pub first_part : (v : ℕ) (b : List ℕ) → take (length (first_record v b)) b ≡ first_record v b
unfolding first_record header_of_by
first_part v b =
    by_choice (λ (f : List ℕ). take (length f) b ≡ f) (ltb (length b) (header_length_by v)) (λ _. take-length b) (λ _. part_again (read_le 2 b (6 + 2 * v)) b)

-- ---- one more record

null_some : (c : List ℕ) → 0 < length c → null c ≡ false
unfolding null
null_some [] h = absurd (not-suc-le-zero h)
null_some (x ∷ c) h = refl

module _ (v w n : ℕ) (c : List ℕ) (r : ℕ) (some : 0 < length c) where
  pub walk_on : conversion_code v w (first_record v c) r ≡ 0
      → converting v w (suc n) c r ≡ behind (length (first_record v c)) (converted v w (first_record v c) r) (converting v w n (drop (length (first_record v c)) c) (r - length (converted v w (first_record v c) r)))
  unfolding converting
  walk_on e = choose_no _ _ _ (null_some c some) ∙ choose_yes _ _ _ (eq-eqb (conversion_code v w (first_record v c) r) 0 e)

  pub walk_stop : (conversion_code v w (first_record v c) r ≡ 0 → ⊥) → converting v w (suc n) c r ≡ stopped (conversion_code v w (first_record v c) r)
  unfolding converting
  walk_stop e = choose_no _ _ _ (null_some c some) ∙ choose_no _ _ _ (ne_eqb (conversion_code v w (first_record v c) r) 0 e)

pub walk_end : (v w n : ℕ) (r : ℕ) → converting v w n [] r ≡ stopped 0
unfolding converting null choose
walk_end v w zero r = refl
walk_end v w (suc n) r = refl

pub behind_behind : (k m : ℕ) (xs ys : List ℕ) (x : Walked) → behind k xs (behind m ys x) ≡ behind (k + m) (xs ++ ys) x
unfolding behind
behind_behind k m xs ys x = λ j. record { code = x.code; taken = sym (add_assoc k m x.taken) j; bytes = sym (append_assoc xs ys x.bytes) j }

-- ---- the output: the bytes that are done, and zeroes behind them

pad_append : (r : ℕ) (xs ys : List ℕ) → length xs ≤ r → pad 0 r (xs ++ ys) ≡ xs ++ pad 0 (r - length xs) ys
unfolding pad
pad_append r [] ys h = let z : r - 0 ≡ r = omega arith in rw z
pad_append zero (x ∷ xs) ys h = absurd (not-suc-le-zero h)
pad_append (suc r) (x ∷ xs) ys h =
    let e : suc r - suc (length xs) ≡ r - length xs = omega arith in
    ap (λ (l : List ℕ). x ∷ l) (pad_append r xs ys (le_of_suc-le-suc h) ∙ rw (← e))

module _ (room to : ℕ) (done out : List ℕ) (long : length done ≡ to) (top : to ≤ room) (is : out ≡ pad 0 room done) where
  len : length out ≡ room
  len = ap length is ∙ length_pad {A = ℕ} 0 room done

  abbrev zeroes : List ℕ
  zeroes = pad 0 (room - to) []

  apart : out ≡ done ++ zeroes
  apart = is ∙ ap (pad 0 room) (sym (append-nil done)) ∙ pad_append room done [] (omega (arith, long, top)) ∙ ap (λ (n : ℕ). done ++ pad 0 (room - n) []) long

  rest : drop to out ≡ zeroes
  rest = ap (drop to) apart ∙ drop_at done zeroes to long

  as_long : length zeroes ≡ length out - to
  as_long = length_pad {A = ℕ} 0 (room - to) [] ∙ rw len

  -- the part that is lent
  pub lent : take (length out - to) (drop to out) ≡ zeroes
  lent = ap (take (length out - to)) rest ∙ take_all (length out - to) zeroes (omega (arith, as_long))

  -- and the output when it is back
  pub lent_back : (part bs : List ℕ) → part ≡ pad 0 (room - to) bs → put_mid to (length out - to) out part ≡ pad 0 room (done ++ bs)
  lent_back part bs e =
      let f : take to out ≡ done = ap (take to) apart ∙ take_at done zeroes to long in
      let g : drop (length out - to) (drop to out) ≡ [] = ap (drop (length out - to)) rest ∙ ap (λ (k : ℕ). drop k zeroes) (sym as_long) ∙ drop-length zeroes in
      (λ j. f j ++ (e j ++ g j)) ∙ ap (λ (l : List ℕ). done ++ l) (append-nil (pad 0 (room - to) bs)) ∙ sym (pad_append room done bs (omega (arith, long, top)) ∙ ap (λ (n : ℕ). done ++ pad 0 (room - n) bs) long)

-- ---- where the code stands: the records before `from` are done, and their bytes stand before `to`

pub record Walking (v w : ℕ) (b : List ℕ) (room : ℕ) (out : List ℕ) (from to : ℕ) : Type 0 where
  pub low : from ≤ length b
  pub top : to ≤ room
  pub done : List ℕ
  pub long : length done ≡ to
  pub is : out ≡ pad 0 room done
  pub left : ℕ
  pub enough : length b ≤ from + left
  pub same : walked v w b room ≡ behind from done (converting v w left (drop from b) (room - to))

pub walking_start : (v w : ℕ) (b : List ℕ) (room : ℕ) (out : List ℕ) → out ≡ pad 0 room [] → Walking v w b room out 0 0
unfolding walked behind
walking_start v w b room out e =
    let z : room - 0 ≡ room = omega arith in
    record {
      low = omega arith;
      top = omega arith;
      done = [];
      long = refl;
      is = e;
      left = length b;
      enough = omega arith;
      same = rw z (λ j. record {
        code = (converting v w (length b) b room).code;
        taken = sym (zero-add (converting v w (length b) b room).taken) j;
        bytes = (converting v w (length b) b room).bytes;
      });
    }

module _ (v w : ℕ) (b : List ℕ) (room : ℕ) (out : List ℕ) (from to : ℕ) (u : Walking v w b room out from to) where
  pub walking_len : length out ≡ room
  walking_len = len room to u.done out u.long u.top u.is

  at_end : (n : ℕ) → length b ≤ from → converting v w n (drop from b) (room - to) ≡ stopped 0
  at_end n l =
      let e : from ≡ length b = omega (arith, u.low) in
      ap (λ (c : List ℕ). converting v w n c (room - to)) (ap (λ (k : ℕ). drop k b) e ∙ drop-length b) ∙ walk_end v w n (room - to)

  -- what the code hands back where it stops, with the output
  abbrev handed : ℕ → List ℕ → Outcomes
  handed code o = record { code = code; taken = from; written = to; output = o }

  stops : (code : ℕ) → converting v w u.left (drop from b) (room - to) ≡ stopped code → handed code (pad 0 room u.done) ≡ outcomes (walked v w b room) room
  unfolding outcomes behind
  stops code e =
      let q : walked v w b room ≡ behind from u.done (stopped code) = u.same ∙ ap (behind from u.done) e in
      let n : from + 0 ≡ from = omega arith in
      sym (ap (λ (x : Walked). outcomes x room) q ∙ rw (append-nil u.done, n, u.long))

  pub walking_end : length b ≤ from → outcomes_of (record { refused = None; taken = from; written = to }) out ≡ outcomes (walked v w b room) room
  walking_end l = ap (λ (o : List ℕ). handed 0 o) u.is ∙ stops 0 (at_end u.left l)

  module _ (more : from < length b) (k : ℕ) (ke : k ≡ length (first_record v (take (length b - from) (drop from b)))) (code written : ℕ) (part : List ℕ)
      (x : ◌≡◌ {A = Conversion} (record { code = code; written = written; output = part }) (placed v w (take (from + k - from) (drop from b)) (take (length out - to) (drop to out)))) where
    abbrev c : List ℕ
    c = drop from b

    abbrev r : ℕ
    r = room - to

    all : take (length b - from) c ≡ c
    all = take_all (length b - from) c (simp length-drop (omega arith))

    one : take (from + k - from) c ≡ first_record v c
    one =
        let e : from + k - from ≡ length (first_record v c) = omega (arith, ke, ap (λ (l : List ℕ). length (first_record v l)) all) in
        ap (λ (n : ℕ). take n c) e ∙ first_part v c

    result : ◌≡◌ {A = Conversion} (record { code = code; written = written; output = part }) (conversion v w (first_record v c) r)
    result = placed_zeroes v w (first_record v c) _ r _ (lent room to u.done out u.long u.top u.is) (x ∙ ap (λ (f : List ℕ). placed v w f (take (length out - to) (drop to out))) one)

    abbrev bs : List ℕ
    bs = converted v w (first_record v c) r

    code_is : code ≡ conversion_code v w (first_record v c) r
    unfolding conversion outcome
    code_is = ap (λ (o : Conversion). o.code) result

    written_is : written ≡ length bs
    unfolding conversion outcome
    written_is = ap (λ (o : Conversion). o.written) result

    part_is : part ≡ pad 0 r bs
    unfolding conversion outcome
    part_is = ap (λ (o : Conversion). o.output) result

    length_c : length c ≡ length b - from
    length_c = length-drop from b

    some : 0 < length c
    some = omega (arith, length_c)

    -- a record was done or not, the place in the output is within it
    pub walking_top : to + written ≤ room
    walking_top = omega (arith, written_is, converted_fits v w (first_record v c) r, u.top)

    one_left : u.left ≡ suc (u.left - 1)
    one_left = omega (arith, u.enough)

    pub walking_stop : (code ≡ 0 → ⊥) → handed code (put_mid to (length out - to) out part) ≡ outcomes (walked v w b room) room
    unfolding converted
    walking_stop n =
        let none : bs ≡ [] = choose_no _ _ _ (ne_eqb (conversion_code v w (first_record v c) r) 0 (λ z. n (code_is ∙ z))) in
        let o : put_mid to (length out - to) out part ≡ pad 0 room u.done = lent_back room to u.done out u.long u.top u.is part [] (part_is ∙ ap (pad 0 r) none) ∙ ap (pad 0 room) (append-nil u.done) in
        ap (λ (l : List ℕ). handed code l) o
        ∙ stops code (ap (λ (m : ℕ). converting v w m c r) one_left ∙ walk_stop v w (u.left - 1) c r some (λ z. n (code_is ∙ z)) ∙ ap stopped (sym code_is))

    module _ (z : code ≡ 0) where
      accept : Accepted v w (first_record v c) r
      accept = accepted v w (first_record v c) r (sym code_is ∙ z)

      pub walking_less : length b - (from + k) < length b - from
      walking_less = omega (arith, ke, ap (λ (l : List ℕ). length (first_record v l)) all, well_formed_long v (first_record v c) accept.well)

      pub walking_next : k ≤ length (take (length b - from) (drop from b)) → Walking v w b room (put_mid to (length out - to) out part) (from + k) (to + written)
      walking_next h =
          let kc : k ≡ length (first_record v c) = ke ∙ ap (λ (l : List ℕ). length (first_record v l)) all in
          let d : drop (length (first_record v c)) c ≡ drop (from + k) b = drop-drop (length (first_record v c)) from b ∙ ap (λ (m : ℕ). drop (from + m) b) (sym kc) in
          let left-room : r - length bs ≡ room - (to + written) = omega (arith, written_is) in
          let on : converting v w u.left c r ≡ behind k bs (converting v w (u.left - 1) (drop (from + k) b) (room - (to + written))) =
          ap (λ (m : ℕ). converting v w m c r) one_left ∙ walk_on v w (u.left - 1) c r some (sym code_is ∙ z)
          ∙ (λ j. behind (sym kc j) bs (converting v w (u.left - 1) (d j) (left-room j))) in
          record {
            low = omega (arith, ap length all, length_c);
            top = walking_top;
            done = u.done ++ bs;
            long = omega (arith, length-append u.done bs, u.long, written_is);
            is = lent_back room to u.done out u.long u.top u.is part bs part_is;
            left = u.left - 1;
            enough = omega (arith, u.enough, walking_less);
            same = u.same ∙ ap (behind from u.done) on ∙ behind_behind from k u.done bs (converting v w (u.left - 1) (drop (from + k) b) (room - (to + written)));
          }
