-- Requests to join.
-- Assumes nothing.
use Prim.Native.Nat.{ℕ, ◌+◌, ◌≤◌, ◌<◌}
use mathlib.Core.Path.{◌≡◌, refl, sym, ap, ◌∙◌, subst}
use mathlib.Core.Bool.{Bool, true, false, ◌||◌}
use mathlib.Core.List.{List, [], ◌∷◌, ◌++◌}
use native.Mathlib.Omega.{arith}
use lib.ListN.{length, take, drop, get_or}
use lib.Seq.{get_or-take}
use lib.Dec.{eqb, ltb}
use borrow.Author.Tests.{ltb-true, lt-ltb, le-ltb, eqb-true, eqb-false}
use borrow.Rule.Slice.PartMut.{put_mid}
use Rattle.record.specs.Kinds.{RetryJoin, kind_byte}
use Rattle.base_lists.specs.Lists.{choose, is, count, mem, without, renew}
use Rattle.base_lists.specs.Maps.{keys, cut, has}
use Rattle.base_lists.proofs.Choice.{split, by_choice, choose_yes, choose_no}
use Rattle.base_lists.proofs.Count.{is_self, is_split, mem_false}
use Rattle.base_lists.proofs.Maps.{length_keys}
use Rattle.base_util.specs.Section.{part, items_at, ValidSet, HoldsSet}
use Rattle.base_util.proofs.Parts.{part_read, part_put}
use Rattle.base_columns.specs.Columns.{numbers_at, ValidNumbers, HoldsNumbers}
use Rattle.base_timing.specs.Timing.{join_retry_delay, max_bootstrap_peers}
use Rattle.record.specs.Format.{Rec}
use Rattle.spec_hyparview.specs.Setters.{set_joins, set_bootstrap}
use Rattle.spec_hyparview.specs.Station.{Station, is_me, in_active, top_counter}
use Rattle.spec_hyparview.specs.Run.{Run, guard, on, emit, require, timer}
use Rattle.spec_hyparview.specs.Sending.{join_to, join}
use Rattle.spec_hyparview.specs.Events.{must_drop_oldest, oldest, drop_oldest_join, push_bootstrap, join_counts, note_join, open_join, await_join, join_other, join_new, handle_join}
use Rattle.base_lists.proofs.Members.{shorter, renewed}
use Rattle.spec_hyparview.proofs.Requested.{fewer_joins}
use Rattle.work.specs.declared.Work.{Work}
use Rattle.hyparview_state.specs.Layout.{bootstrap_part, joins_part, next_join, bootstrap_at, bootstrap_count, bootstrap_places, bootstrap_size, joins_at, joins_places, joins_size}
use Rattle.hyparview_state.specs.Unpack.{unpack, station_of, long, PackedState, Becomes}
use Rattle.hyparview_state.specs.Work.{Held, work_of, run, run_of, Changes, ChangesAny, Room, Tells, TellsAny}
use Rattle.hyparview_state.proofs.Access.{of_bootstrap, of_joins}
use Rattle.hyparview_state.proofs.Any.{required_at, told_at}
use Rattle.hyparview_state.proofs.Bridge.{on_passed, on_done, emit_passed, required_code, require_said, unchanged, change_then, telling, tell_then, tell_yes, tell_no}
use Rattle.hyparview_state.proofs.Fields.{put_bootstrap, put_joins}
use Rattle.step_events.specs.Free.{KnownJoins, FreeJoin}

-- ---- the bootstrap peers

without_twice : (p : ℕ) (l : List ℕ) → without p (without p l) ≡ without p l
unfolding without
without_twice p [] = refl
without_twice p (q ∷ l) = split (eqb p q) (λ e. rw e (without_twice p l)) (λ e. rw e (rw e (ap (λ (m : List ℕ). q ∷ m) (without_twice p l))))

renew_again : (n p : ℕ) (l : List ℕ) → renew n p (without p l) ≡ renew n p l
unfolding renew
renew_again n p l = ap (λ (m : List ℕ). choose (ltb n (length m + 1)) (drop 1 (m ++ (p ∷ []))) (m ++ (p ∷ []))) (without_twice p l)

-- the sections as they are lent
module _ (xs ys : List ℕ) (p : ℕ) where
  pub lent_without : HoldsSet bootstrap_places ys (without p (items_at bootstrap_places (take bootstrap_size (drop bootstrap_at xs)))) → HoldsSet bootstrap_places ys (without p (items_at bootstrap_places (bootstrap_part xs)))
  unfolding part
  lent_without h = h

  pub lent_renew : HoldsSet bootstrap_places ys (renew max_bootstrap_peers p (items_at bootstrap_places (take bootstrap_size (drop bootstrap_at xs)))) → HoldsSet bootstrap_places ys (renew max_bootstrap_peers p (items_at bootstrap_places (bootstrap_part xs)))
  unfolding part
  lent_renew h = h

  pub lent_cut : HoldsNumbers joins_places ys (cut p (numbers_at joins_places (take joins_size (drop joins_at xs)))) → HoldsNumbers joins_places ys (cut p (numbers_at joins_places (joins_part xs)))
  unfolding part
  lent_cut h = h

-- p is taken out of the bootstrap peers, and stored as the newest
module _ (xs ys : List ℕ) (p : ℕ) (v : PackedState xs) (s : HoldsSet bootstrap_places ys (without p (items_at bootstrap_places (bootstrap_part xs)))) where
  stored : part bootstrap_at bootstrap_size (put_mid bootstrap_at bootstrap_size xs ys) ≡ ys
  stored = part_put bootstrap_at bootstrap_size xs ys (omega (arith, long v)) s.valid.long

  read_stored : (i : ℕ) → i < bootstrap_size → get_or (put_mid bootstrap_at bootstrap_size xs ys) (bootstrap_at + i) 0 ≡ get_or ys i 0
  read_stored i h = sym (part_read bootstrap_at bootstrap_size i (put_mid bootstrap_at bootstrap_size xs ys) h) ∙ ap (λ (l : List ℕ). get_or l i 0) stored

  -- the section without p, as it is lent next
  pub others_lent : ValidSet bootstrap_places (take bootstrap_size (drop bootstrap_at (put_mid bootstrap_at bootstrap_size xs ys)))
  unfolding part
  others_lent = of_bootstrap _ (put_bootstrap s (record { packed = v; same = refl })).packed

  how_many : get_or (put_mid bootstrap_at bootstrap_size xs ys) bootstrap_count 0 ≡ length (without p (items_at bootstrap_places (bootstrap_part xs)))
  how_many = read_stored bootstrap_places (omega arith) ∙ sym s.valid.counted ∙ ap length s.items

  first : 0 < length (without p (items_at bootstrap_places (bootstrap_part xs))) → get_or (put_mid bootstrap_at bootstrap_size xs ys) bootstrap_at 0 ≡ get_or (without p (items_at bootstrap_places (bootstrap_part xs))) 0 0
  unfolding items_at part
  first h =
      let c : 0 < get_or ys bootstrap_places 0 = omega (arith, h, s.valid.counted, ap length s.items) in
      read_stored 0 (omega arith) ∙ sym (get_or-take bootstrap_places ys 0 0 (omega arith)) ∙ sym (get_or-take (get_or ys bootstrap_places 0) (take bootstrap_places ys) 0 0 c) ∙ ap (λ (l : List ℕ). get_or l 0 0) s.items

  few_left : get_or (put_mid bootstrap_at bootstrap_size xs ys) bootstrap_count 0 < bootstrap_places → ltb max_bootstrap_peers (length (without p (items_at bootstrap_places (bootstrap_part xs))) + 1) ≡ false
  few_left h = le-ltb max_bootstrap_peers (length (without p (items_at bootstrap_places (bootstrap_part xs))) + 1) (omega (arith, how_many, h))

  many_left : bootstrap_places ≤ get_or (put_mid bootstrap_at bootstrap_size xs ys) bootstrap_count 0 → ltb max_bootstrap_peers (length (without p (items_at bootstrap_places (bootstrap_part xs))) + 1) ≡ true
  many_left h = lt-ltb max_bootstrap_peers (length (without p (items_at bootstrap_places (bootstrap_part xs))) + 1) (omega (arith, how_many, h))

  module _ (zs : List ℕ) (t : HoldsSet bootstrap_places zs (renew max_bootstrap_peers p (items_at bootstrap_places (bootstrap_part (put_mid bootstrap_at bootstrap_size xs ys))))) where
    newest : HoldsSet bootstrap_places zs (renew max_bootstrap_peers p (items_at bootstrap_places (bootstrap_part xs)))
    unfolding part
    newest = record { valid = t.valid; items = t.items ∙ (ap (λ (l : List ℕ). renew max_bootstrap_peers p (items_at bootstrap_places l)) stored ∙ (ap (renew max_bootstrap_peers p) s.items ∙ renew_again max_bootstrap_peers p _)) }

    renewed_words : Becomes (put_mid bootstrap_at bootstrap_size (put_mid bootstrap_at bootstrap_size xs ys) zs) (set_bootstrap (renew max_bootstrap_peers p (items_at bootstrap_places (bootstrap_part xs))) (unpack xs))
    renewed_words = put_bootstrap newest (put_bootstrap s (record { packed = v; same = refl }))

    pub joins_lent : ValidNumbers joins_places (take joins_size (drop joins_at (put_mid bootstrap_at bootstrap_size (put_mid bootstrap_at bootstrap_size xs ys) zs)))
    unfolding part
    joins_lent = of_joins _ renewed_words.packed

    pub none_dropped : (w : Work) → w.code ≡ 0 → get_or (put_mid bootstrap_at bootstrap_size xs ys) bootstrap_count 0 < bootstrap_places → Changes (on (push_bootstrap p)) (work_of w xs) (work_of w (put_mid bootstrap_at bootstrap_size (put_mid bootstrap_at bootstrap_size xs ys) zs))
    unfolding push_bootstrap drop_oldest_join must_drop_oldest unpack station_of
    none_dropped w z h =
        on_done (work_of w xs) v (push_bootstrap p) _ z
        (λ b. subst (λ (m : List (ℕ × ℕ)). Becomes (put_mid bootstrap_at bootstrap_size (put_mid bootstrap_at bootstrap_size xs ys) zs) (set_bootstrap (renew max_bootstrap_peers p (items_at bootstrap_places (bootstrap_part xs))) (set_joins m (unpack xs)))) (sym (choose_no _ _ _ (few_left h))) renewed_words)

    pub one_dropped : (w : Work) (js : List ℕ) → w.code ≡ 0 → bootstrap_places ≤ get_or (put_mid bootstrap_at bootstrap_size xs ys) bootstrap_count 0
        → HoldsNumbers joins_places js (cut (get_or (put_mid bootstrap_at bootstrap_size xs ys) bootstrap_at 0) (numbers_at joins_places (joins_part (put_mid bootstrap_at bootstrap_size (put_mid bootstrap_at bootstrap_size xs ys) zs))))
        → Changes (on (push_bootstrap p)) (work_of w xs) (work_of w (put_mid joins_at joins_size (put_mid bootstrap_at bootstrap_size (put_mid bootstrap_at bootstrap_size xs ys) zs) js))
    unfolding push_bootstrap drop_oldest_join must_drop_oldest oldest unpack station_of
    one_dropped w js z h k =
        let old : get_or (put_mid bootstrap_at bootstrap_size xs ys) bootstrap_at 0 ≡ get_or (without p (items_at bootstrap_places (bootstrap_part xs))) 0 0 = first (omega (arith, how_many, h)) in
        let same : numbers_at joins_places (joins_part (put_mid bootstrap_at bootstrap_size (put_mid bootstrap_at bootstrap_size xs ys) zs)) ≡ (unpack xs).joins = ap (λ (g : Station). g.joins) renewed_words.same in
        on_done (work_of w xs) v (push_bootstrap p) _ z
        (λ b. subst (λ (m : List (ℕ × ℕ)). Becomes (put_mid joins_at joins_size (put_mid bootstrap_at bootstrap_size (put_mid bootstrap_at bootstrap_size xs ys) zs) js) (set_bootstrap (renew max_bootstrap_peers p (items_at bootstrap_places (bootstrap_part xs))) (set_joins m (unpack xs))))
        ((λ i. cut (old i) (same i)) ∙ sym (choose_yes _ _ _ (many_left h)))
        (put_joins k renewed_words))

-- ---- a place and a number

number_counted : (xs : List ℕ) → ltb (next_join xs) top_counter ≡ join_counts (unpack xs)
unfolding join_counts unpack station_of
number_counted xs = refl

module _ (w a : Work) (xs : List ℕ) (p : ℕ) (v : PackedState xs) (k : ChangesAny (require 10 (ltb (next_join xs) top_counter)) w a) where
  pub number_left : a.code ≡ 0 → next_join xs < top_counter
  number_left z = ltb-true _ _ (require_said (work_of w xs) (work_of a xs) 10 _ (omega arith) (required_at xs v _ _ k) z).1

  pub place_left : FreeJoin p w.code (unpack xs) → a.code ≡ 0 → (has p (numbers_at joins_places (joins_part xs)) || ltb (length (numbers_at joins_places (joins_part xs))) joins_places) ≡ true
  unfolding unpack station_of
  place_left h z = h.free (required_code 10 _ (work_of w xs) (work_of a xs) (required_at xs v _ _ k) z)

  pub join_opened : (r : Work) (ys : List ℕ) → Changes (on (note_join p)) (work_of a xs) (work_of r ys) → Changes (open_join p) (work_of w xs) (work_of r ys)
  unfolding open_join run_of
  join_opened r ys k₂ = change_then _ (λ ds out. ap (λ (b : Bool). on (note_join p) (require 10 b (run (work_of w xs) ds out))) (sym (number_counted xs))) k₂ (required_at xs v _ _ k)

  pub join_refused : (out : List ℕ) → Room (work_of w xs) out → (a.code ≡ 0 → ⊥) → Tells (await_join p) (work_of w xs) (work_of a xs) out out
  unfolding await_join run_of
  join_refused out r h =
      let o = telling r (join_opened a xs (on_passed (work_of a xs) v (note_join p) h)) in
      tell_then (await_join p) (λ ds. refl) (emit_passed a xs out (timer (kind_byte RetryJoin) p join_retry_delay (unpack xs).next_join) o.room h) o

-- there is a place for the join to a bootstrap peer
placed : (p : ℕ) (js : List (ℕ × ℕ)) (boo : List ℕ) → ((x : ℕ) → count x (keys js) ≤ count x boo) → is p p ≤ count p boo → length boo ≤ max_bootstrap_peers → (has p js || ltb (length js) joins_places) ≡ true
unfolding has count
placed p js boo h n l =
    split (mem p (keys js)) (λ e. rw e)
    (λ e.
    let f : length (p ∷ keys js) ≤ length boo =
    shorter (p ∷ keys js) boo (λ x. is_split (λ y. count y (p ∷ keys js) ≤ count y boo) x p (omega (arith, mem_false p (keys js) e, n, is_self p)) (λ z. omega (arith, h x, z))) in
    rw (e, lt-ltb (length js) joins_places (omega (arith, f, length_keys js, l))))

push_free : (p : ℕ) (g : Run) → KnownJoins g.code g.station → FreeJoin p (on (push_bootstrap p) g).code (on (push_bootstrap p) g).station
unfolding on guard push_bootstrap drop_oldest_join must_drop_oldest oldest
push_free p g h =
    by_choice (λ (x : Run). FreeJoin p x.code x.station) (eqb g.code 0)
    (λ f. record {
      free = λ z.
          let boo = g.station.bootstrap in
          let w = renewed max_bootstrap_peers p boo (omega arith) (h.few z) (h.once z) in
          placed p _ (renew max_bootstrap_peers p boo)
          (λ x. omega (arith, h.known z x, fewer_joins (ltb max_bootstrap_peers (length (without p boo) + 1)) (get_or (without p boo) 0 0) g.station.joins x (omega (arith, h.known z x, h.once z x)), w.stays x))
          (w.has_new p) w.few;
    })
    (λ f. record { free = λ z. absurd (eqb-false _ _ f z) })

-- a record takes no place
emit_free : (p : ℕ) (e : Rec) (g : Run) → FreeJoin p g.code g.station → FreeJoin p (emit e g).code (emit e g).station
unfolding emit guard
emit_free p e g h =
    by_choice (λ (x : Run). FreeJoin p x.code x.station) (eqb g.code 0)
    (λ f. by_choice (λ (x : Run). FreeJoin p x.code x.station) _ (λ q. record { free = h.free }) (λ q. record { free = λ z. h.free (eqb-true _ _ f) }))
    (λ f. h)

pub free_after_join : (w a : Work) (xs ys out o : List ℕ) (p : ℕ) → Tells (join p) (work_of w xs) (work_of a ys) out o → FreeJoin p w.code (unpack xs) → FreeJoin p a.code (unpack ys)
unfolding join run_of
free_after_join w a xs ys out o p k h =
    subst (λ (x : Run). FreeJoin p x.code x.station) (sym (k.same [])) (emit_free p (join_to (unpack xs).own_data p) (run (work_of w xs) [] out) h)

pub free_after_push : (w a : Work) (xs ys : List ℕ) (p : ℕ) → Changes (on (push_bootstrap p)) (work_of w xs) (work_of a ys) → KnownJoins w.code (unpack xs) → FreeJoin p a.code (unpack ys)
unfolding run_of
free_after_push w a xs ys p k h = subst (λ (x : Run). FreeJoin p x.code x.station) (sym (k.same [] [])) (push_free p (run (work_of w xs) [] []) h)

-- ---- the steps

pub room_kept : (f : Run → Run) (w a : Held) (out : List ℕ) → Changes f w a → Room w out → Room a out
room_kept f w a out k v = (telling v k).room

pub awaited : (w a r : Work) (xs ys out o : List ℕ) (p : ℕ) → Room (work_of w xs) out
    → TellsAny (emit (timer (kind_byte RetryJoin) p join_retry_delay (next_join xs))) a r out o → Changes (open_join p) (work_of w xs) (work_of a ys)
    → Tells (await_join p) (work_of w xs) (work_of r ys) out o
unfolding await_join run_of unpack station_of
awaited w a r xs ys out o p v k₂ k₁ = tell_then (await_join p) (λ ds. refl) (told_at ys k₁.packed _ k₂) (telling v k₁)

module _ (w a : Held) (out : List ℕ) (p : ℕ) (t : Bool) (v : Room w out) (k : Changes (on (push_bootstrap p)) w a) (e : t ≡ in_active p (unpack a.state)) where
  pub not_new : t ≡ true → Tells (handle_join p) w a out out
  unfolding handle_join join_new
  not_new h = tell_then _ (λ ds. refl) (tell_yes (in_active p) e (join_other p) h (telling (telling v k).room (unchanged (λ g. g) k.packed (λ ds o. refl)))) (telling v k)

  module _ (u : Bool) (i : t ≡ false) (f : u ≡ is_me p (unpack a.state)) where
    joined_new : (r : Held) (o : List ℕ) → Tells (join_other p) a r out o → Tells (handle_join p) w r out o
    unfolding handle_join join_new
    joined_new r o d = tell_then _ (λ ds. refl) (tell_no (in_active p) e (λ g. g) i d) (telling v k)

    pub joined_self : (r : Held) (o : List ℕ) → u ≡ true → Tells (join p) a r out o → Tells (handle_join p) w r out o
    unfolding join_other
    joined_self r o h d = joined_new r o (tell_yes (is_me p) f _ h d)

    pub joined_other : (b r : Held) (o₁ o₂ : List ℕ) → u ≡ false → Tells (await_join p) b r o₁ o₂ → Tells (join p) a b out o₁ → Tells (handle_join p) w r out o₂
    unfolding join_other
    joined_other b r o₁ o₂ h d₂ d₁ = joined_new r o₂ (tell_no (is_me p) f _ h (tell_then _ (λ ds. refl) d₂ d₁))
