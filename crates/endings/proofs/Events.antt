-- The events as they are written, and the state after one.
-- Assumes nothing.
use Prim.Native.Nat.{ℕ, zero, suc, ◌+◌, ◌-◌, ◌≤◌, ◌<◌}
use mathlib.Core.Path.{◌≡◌, refl, sym, ap, subst, ◌∙◌}
use mathlib.Core.Bool.{Bool, true, false}
use mathlib.Core.List.{List, [], ◌∷◌, ◌++◌}
use mathlib.Core.Option.{none}
use native.Mathlib.Omega.{arith}
use lib.ListN.{length, get_or, take, replicate, get_or-append}
use lib.Seq.{get_or-append-add, length-take-le}
use lib.Dec.{ltb, leb}
use borrow.Author.Tests.{ltb-true, ltb-false, leb-true}
use Rattle.record.specs.Kinds.{DoMaintenance, PeerDisconnected, RequestJoin, Quit, kind_byte}
use Rattle.base_lists.specs.Bytes.{overwrite}
use Rattle.base_lists.specs.Tests.{every}
use Rattle.base_lists.proofs.Choice.{split, choose_yes, and_left, and_right}
use Rattle.base_lists.proofs.Stored.{take_stored}
use Rattle.base_timing.specs.Timing.{default}
use Rattle.base_timing.specs.declared.Config.{Config}
use Rattle.base_peer.specs.Data.{Data, bytes_of}
use Rattle.std.specs.Prelude.{Option, Some, None, unwrap_or}
use Rattle.base_peer.specs.Held.{node_in, data_in}
use Rattle.record.specs.Format.{header_length, node_length, Rec, datas, size, size_by, encode}
use Rattle.record.proofs.Format.{length_encode}
use Rattle.record_writer.specs.Write.{rec_in, fits, written, reached, Wrote}
use Rattle.spec_hyparview.specs.Handle.{new}
use Rattle.hyparview.specs.declared.State.{State}
use Rattle.hyparview.specs.declared.MadeState.{MadeState}
use Rattle.hyparview.specs.declared.HandledState.{HandledState}
use Rattle.hyparview.specs.Made.{MadeWords, lent, pack_made}
use Rattle.spec_hyparview.specs.Sides.{handle_from}
use Rattle.hyparview.specs.Handled.{Outcome, handled, handled_from}
use Rattle.spec_demand.specs.Program.{program_outcome, made_state}
use Rattle.endings.specs.Events.{no_data_node, event, message_event, of_peer, maintenance, quit, events, event_at, tiny, draws, output}
use Rattle.endings.specs.Ends.{next_number}
use Rattle.endings.specs.Steps.{first_state, played}

-- ---- the writers

pub wrote_one : (m f p : ℕ) (out : List ℕ) (r : Option ℕ) (o : List ℕ)
    → Wrote (rec_in (record { kind = 0; message = m; flags = f; peer = p; second = 0; ttl = 0; number = 0 }) (node_in (record { id = 0; «data» = None }) ∷ [])) 0 out r o
    → Wrote (message_event m f p no_data_node) 0 out r o
unfolding rec_in node_in data_in
wrote_one m f p out r o w = w

-- below suc n and not n
down : (i n : ℕ) → i < suc n → (i ≡ n → ⊥) → i < n
down i n h f = split (ltb i n) (λ t. ltb-true i n t) (λ t. absurd (f (omega (arith, ltb-false i n t))))

module _ (p i : ℕ) (out : List ℕ) (r : Option ℕ) (o : List ℕ) where
  pub at_0 : i ≡ 0 → Wrote (event (kind_byte RequestJoin) 0 0 p []) 0 out r o → Wrote (get_or (of_peer p) i quit) 0 out r o
  unfolding of_peer
  at_0 h w = rw h w

  pub at_1 : i ≡ 1 → Wrote (message_event 0 0 p no_data_node) 0 out r o → Wrote (get_or (of_peer p) i quit) 0 out r o
  unfolding of_peer
  at_1 h w = rw h w

  pub at_2 : i ≡ 2 → Wrote (message_event 4 1 p no_data_node) 0 out r o → Wrote (get_or (of_peer p) i quit) 0 out r o
  unfolding of_peer
  at_2 h w = rw h w

  pub at_3 : i ≡ 3 → Wrote (message_event 4 0 p no_data_node) 0 out r o → Wrote (get_or (of_peer p) i quit) 0 out r o
  unfolding of_peer
  at_3 h w = rw h w

  pub at_4 : i ≡ 4 → Wrote (message_event 5 1 p []) 0 out r o → Wrote (get_or (of_peer p) i quit) 0 out r o
  unfolding of_peer
  at_4 h w = rw h w

  pub at_5 : i ≡ 5 → Wrote (message_event 5 0 p []) 0 out r o → Wrote (get_or (of_peer p) i quit) 0 out r o
  unfolding of_peer
  at_5 h w = rw h w

  pub at_6 : i < 7 → (i ≡ 0 → ⊥) → (i ≡ 1 → ⊥) → (i ≡ 2 → ⊥) → (i ≡ 3 → ⊥) → (i ≡ 4 → ⊥) → (i ≡ 5 → ⊥)
      → Wrote (event (kind_byte PeerDisconnected) 0 0 p []) 0 out r o → Wrote (get_or (of_peer p) i quit) 0 out r o
  unfolding of_peer
  at_6 h f0 f1 f2 f3 f4 f5 w = rw (six (λ l. down i 0 (down i 1 (down i 2 (down i 3 (down i 4 (down i 5 l f5) f4) f3) f2) f1) f0)) w
    where
      six : (i < 6 → i < 0) → i ≡ 6
      six never = split (ltb i 6) (λ t. absurd (omega (arith, never (ltb-true i 6 t)))) (λ t. omega (arith, h, ltb-false i 6 t))

module _ (i : ℕ) (out : List ℕ) (r : Option ℕ) (o : List ℕ) where
  pub of_two : i < 7 → Wrote (get_or (of_peer 2) i quit) 0 out r o → Wrote (event_at i) 0 out r o
  unfolding event_at events of_peer
  of_two h w = rw (get_or-append (of_peer 2) (of_peer 3 ++ (maintenance ∷ quit ∷ [])) quit i h) w

  pub of_three : 7 ≤ i → i < 14 → Wrote (get_or (of_peer 3) (i - 7) quit) 0 out r o → Wrote (event_at i) 0 out r o
  unfolding event_at events of_peer
  of_three l h w =
      let e : 7 + (i - 7) ≡ i = omega arith in
      let there : get_or events i quit ≡ get_or (of_peer 3) (i - 7) quit =
      ap (λ (k : ℕ). get_or events k quit) (sym e)
      ∙ (get_or-append-add (of_peer 2) (of_peer 3 ++ (maintenance ∷ quit ∷ [])) (i - 7) quit ∙ get_or-append (of_peer 3) (maintenance ∷ quit ∷ []) quit (i - 7) (omega arith)) in
      subst (λ (e : Rec). Wrote e 0 out r o) (sym there) w

  pub at_14 : i ≡ 14 → Wrote (event (kind_byte DoMaintenance) 0 0 0 []) 0 out r o → Wrote (event_at i) 0 out r o
  unfolding event_at events of_peer
  at_14 h w = rw h w

  pub at_15 : i < 16 → 14 ≤ i → (i ≡ 14 → ⊥) → Wrote (event (kind_byte Quit) 0 0 0 []) 0 out r o → Wrote (event_at i) 0 out r o
  unfolding event_at events of_peer
  at_15 h l f w = rw (split (ltb 14 i) (λ t. let k : i ≡ 15 = omega (arith, h, ltb-true 14 i t) in k) (λ t. absurd (f (omega (arith, l, ltb-false 14 i t))))) w

-- ---- the new station

-- these settings with both capacities 1
abbrev narrowed : Config → Config
narrowed d = record {
  active_view_capacity = 1;
  passive_view_capacity = 1;
  active_random_walk_length = d.active_random_walk_length;
  passive_random_walk_length = d.passive_random_walk_length;
  shuffle_random_walk_length = d.shuffle_random_walk_length;
  shuffle_active_view_count = d.shuffle_active_view_count;
  shuffle_passive_view_count = d.shuffle_passive_view_count;
  shuffle_interval = d.shuffle_interval;
  neighbor_request_timeout = d.neighbor_request_timeout;
}

pub begins : (d : Config) (m : MadeState) → d ≡ default → record { code = m.code; words = m.state.words } ≡ pack_made (new 1 (lent false []) (narrowed d)) → m.state ≡ first_state
unfolding first_state made_state tiny
begins d m e w = ap (λ (x : MadeWords). record { words = x.words }) (w ∙ ap (λ (x : Config). pack_made (new 1 (lent false []) (narrowed x))) e)

-- ---- one event

-- an event has a node at most
abbrev longest : ℕ
longest = header_length + node_length

-- what every item of a list passes, and what stands for one past its end, the item at any place passes
passes_at : (t : Rec → Bool) (d : Rec) → t d ≡ true → (es : List Rec) → every t es ≡ true → (i : ℕ) → t (get_or es i d) ≡ true
unfolding every
passes_at t d e [] h i = e
passes_at t d e (x ∷ xs) h zero = and_left (t x) _ h
passes_at t d e (x ∷ xs) h (suc i) = passes_at t d e xs (and_right (t x) _ h) i

small : (i : ℕ) → leb (0 + size (event_at i)) longest ≡ true
unfolding event_at events of_peer size_by datas bytes_of every
small i = passes_at (λ e. leb (0 + size e) longest) quit refl events refl i

module _ (i : ℕ) (out : List ℕ) (long : length out ≡ longest) (w : Option ℕ) (b : List ℕ) (h : Wrote (event_at i) 0 out w b) where
  fitting : leb (0 + size (event_at i)) (length out) ≡ true
  fitting = ap (λ (n : ℕ). leb (0 + size (event_at i)) n) long ∙ small i

  fit : w ≡ Some (0 + size (event_at i))
  unfolding reached fits
  fit = h.answer ∙ choose_yes _ _ _ fitting

  stored : b ≡ overwrite out 0 (encode (event_at i))
  unfolding written fits
  stored = h.bytes ∙ choose_yes _ _ _ fitting

  reaches : (n : ℕ) → n ≡ unwrap_or w 0 → 0 + size (event_at i) ≡ n
  reaches n e = sym (e ∙ ap (λ (x : Option ℕ). unwrap_or x 0) fit)

  pub few_bytes : (n : ℕ) → n ≡ unwrap_or w 0 → n ≤ longest
  few_bytes n e = subst (λ (k : ℕ). k ≤ longest) (reaches n e) (leb-true _ _ (small i))

  pub the_bytes : (n : ℕ) → n ≡ unwrap_or w 0 → take n b ≡ encode (event_at i)
  the_bytes n e =
      let whole = length_encode (event_at i) in
      let k : 0 + length (encode (event_at i)) ≡ n = omega (arith, whole, reaches n e) in
      rw (← k, stored) (take_stored out 0 (encode (event_at i)) (omega (arith, whole, leb-true (0 + size (event_at i)) (length out) fitting)))

pub plays : (i : ℕ) (s : State) (b : List ℕ) (n : ℕ) (a : HandledState) (o : List ℕ) → take n b ≡ encode (event_at i) → record { code = a.code; draws = a.draws; words = a.state.words; output = o } ≡ handled s.words (take n b) (replicate 512 0) (length {A = ℕ} (replicate 8192 0)) → a.state ≡ played (encode (event_at i)) s
unfolding played program_outcome handled handled_from handle_from draws output
plays i s b n a o e q = ap (λ (x : Outcome). record { words = x.words }) (q ∙ ap (λ (l : List ℕ). handled s.words l (replicate 512 0) (length {A = ℕ} (replicate 8192 0))) e)

-- the number goes on with the same bytes
pub numbers : (i number : ℕ) (b : List ℕ) (n r : ℕ) → take n b ≡ encode (event_at i) → r ≡ next_number number (take n b) → r ≡ next_number number (encode (event_at i))
numbers i number b n r e q = q ∙ ap (next_number number) e

pub cut_length : (n : ℕ) (b : List ℕ) → n ≤ longest → length b ≡ longest → n ≡ length (take n b)
cut_length n b l e = sym (length-take-le n b (omega (arith, l, e)))
