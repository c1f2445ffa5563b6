-- The line of a state as `STATE_LINE`, `FIELD_PLACES` and `FIELD_ROOMS` say it, and the loop that writes it.
-- Assumes nothing.
use Prim.Native.Nat.{ℕ, suc, ◌+◌, ◌*◌, ◌-◌, ◌≤◌, ◌<◌}
use mathlib.Core.Path.{◌≡◌, refl, sym, ap, ◌∙◌, subst}
use mathlib.Core.Bool.{Bool, true, false, ◌&&◌, ◌||◌}
use mathlib.Core.List.{List, [], ◌∷◌, ◌++◌, map, append-nil, append_assoc}
use mathlib.Core.Logic.{◌⊎◌, inl, inr}
use mathlib.Core.Option.{none, some}
use native.Mathlib.Omega.{arith}
use lib.ListN.{length, drop, get_or, drop_of_length-le}
use lib.Seq.{drop-cons}
use lib.Dec.{eqb, ltb, leb}
use borrow.Author.Tests.{eq-eqb, ne_eqb, eqb-true, eqb-false, lt-ltb, le-ltb, ltb-true, leb-true}
use Rattle.base_lists.specs.Lists.{choose}
use Rattle.base_lists.proofs.Choice.{choose_yes, choose_no, split, and_left, and_right}
use Rattle.base_peer.specs.Data.{Data}
use Rattle.base_peer.specs.Held.{fields_in}
use Rattle.base_util.specs.Section.{part, items_at}
use Rattle.base_columns.specs.Columns.{numbers_at, data_map_at}
use Rattle.hyparview_state.specs.declared.RefillLimit.{RefillLimit}
use Rattle.hyparview_state.specs.declared.RefillLimit.TheVariants.{Automatic, Requests, Recovery}
use Rattle.hyparview_state.specs.Layout as layout
use Rattle.hyparview_state.specs.Layout.{words}
use Rattle.hyparview_state.specs.Unpack.{own_at, limit_at}
use Rattle.run_text.specs.declared.Page.{Page}
use Rattle.run_text.specs.Text.{Prints}
use Rattle.run_text.specs.Numbers.{decimal}
use Rattle.trace_text.specs.Items.{ascii, comma_before, item_text, items_text, list_field, number_field, numbered_text, held_text}
use Rattle.trace_text.specs.Fields.{texts_at, field_at, InWords}
use Rattle.trace_text.specs.Event.{own_field, refill_field, fields_text, state_line}
use Rattle.trace_text.proofs.Writing.{Writing, writing_start, writing_next, writing_end}

-- the constants of the code, by tools/make/layout.py
unfoldable pub line : List ℕ
line = ascii "state me=O active=[1] passive=[1] bootstrap=[1] recent=[1] requests=[2] next_request=0 joins=[2] next_join=0 data=[4] alive=[1] refused=[1] refill=L timers=0 interval=0 alone=0 short=0 pins=[1]\n"

abbrev pub line_size : ℕ
line_size = 194

abbrev pub fields : ℕ
fields = 16

unfoldable pub places : List ℕ
places = layout.active_at ∷ layout.passive_at ∷ layout.bootstrap_at ∷ layout.recent_at ∷ layout.requests_at ∷ layout.next_neighbor_request_at ∷ layout.joins_at ∷ layout.next_join_at ∷ layout.peer_data_at ∷ layout.alive_at ∷ layout.refused_at ∷ layout.timers_scheduled_at ∷ layout.next_shuffle_interval_at ∷ layout.passes_alone_at ∷ layout.passes_short_at ∷ layout.pins_at ∷ []

unfoldable pub rooms : List ℕ
rooms = layout.active_places ∷ layout.passive_places ∷ layout.bootstrap_places ∷ layout.recent_places ∷ layout.requests_places ∷ 1 ∷ layout.joins_places ∷ 1 ∷ layout.peer_data_places ∷ layout.alive_places ∷ layout.refused_places ∷ 1 ∷ 1 ∷ 1 ∷ 1 ∷ layout.pins_places ∷ []

-- end

-- a byte that stands for a field
unfoldable pub digit : ℕ → Bool
digit x = ltb 47 x && ltb x 53

-- what is written for a byte of the line, where the next field is the k-th
unfoldable pub byte_text : ℕ → ℕ → List ℕ → List ℕ
byte_text x k xs =
    choose (eqb x 79) (drop (length (ascii "state me=")) (own_field (fields_in (own_at xs))))
    (choose (eqb x 76) (drop (length (ascii " refill=")) (refill_field (limit_at xs))) (choose (digit x) (field_at (x - 48) (get_or places k 0) (get_or rooms k 0) xs) (x ∷ [])))

-- which field is the next after it
unfoldable pub after : ℕ → ℕ → ℕ
after x k = choose (digit x) (suc k) k

unfoldable pub line_text : List ℕ → ℕ → List ℕ → List ℕ
line_text [] k xs = []
line_text (x ∷ p) k xs = byte_text x k xs ++ line_text p (after x k) xs

-- the k-th field has a row, and stands in the words; there are such columns
unfoldable pub row_fits : ℕ → ℕ → Bool
row_fits c k = (eqb c 4 || ltb c 3) && (ltb k fields && (ltb (get_or places k 0 + c * get_or rooms k 0) words && (leb (get_or places k 0 + get_or rooms k 0) words && leb 1 (get_or rooms k 0))))

unfoldable pub line_fits : List ℕ → ℕ → Bool
line_fits [] k = true
line_fits (x ∷ p) k = choose (digit x) (row_fits (x - 48) k) true && line_fits p (after x k)

-- ---- it is the definition's line

mapped : {A : Type 0} (f : A → List ℕ) (i : ℕ) (ys : List A) → items_text (λ (x : List ℕ). x) i (map f ys) ≡ items_text f i ys
unfolding items_text item_text
mapped f i [] = refl
mapped f i (y ∷ ys) = ap (λ (z : List ℕ). (comma_before i ++ f y) ++ z) (mapped f (suc i) ys)

own_whole : (d : Data) → ascii "state me=" ++ drop (length (ascii "state me=")) (own_field d) ≡ own_field d
unfolding own_field ascii
own_whole none = refl
own_whole (some b) = refl

limit_whole : (l : RefillLimit) → ascii " refill=" ++ drop (length (ascii " refill=")) (refill_field l) ≡ refill_field l
unfolding refill_field ascii
limit_whole Automatic = refl
limit_whole (Requests n) = refl
limit_whole Recovery = refl

module _ (xs : List ℕ) (name p : List ℕ) (k a n : ℕ) (plain : (q : List ℕ) → line_text (name ++ q) k xs ≡ name ++ line_text q k xs) (e : get_or places k 0 ≡ a) (f : get_or rooms k 0 ≡ n) where
  listed : {A : Type 0} (c : ℕ) (g : A → List ℕ) (ys : List A)
      → line_text (c ∷ 93 ∷ p) k xs ≡ field_at (c - 48) (get_or places k 0) (get_or rooms k 0) xs ++ (93 ∷ line_text p (suc k) xs)
      → field_at (c - 48) a n xs ≡ items_text g 0 ys
      → line_text (name ++ (c ∷ 93 ∷ p)) k xs ≡ list_field name g ys ++ line_text p (suc k) xs
  unfolding list_field ascii
  listed c g ys u w =
      plain (c ∷ 93 ∷ p)
      ∙ (ap (λ (z : List ℕ). name ++ z)
      (u ∙ ((λ j. field_at (c - 48) (e j) (f j) xs ++ (93 ∷ line_text p (suc k) xs)) ∙ ap (λ (z : List ℕ). z ++ (93 ∷ line_text p (suc k) xs)) w))
      ∙ sym (append_assoc name _ _ ∙ ap (λ (z : List ℕ). name ++ z) (append_assoc (items_text g 0 ys) (93 ∷ []) _)))

  peers_line : line_text (name ++ (49 ∷ 93 ∷ p)) k xs ≡ list_field name decimal (items_at n (part a (n + 1) xs)) ++ line_text p (suc k) xs
  unfolding line_text byte_text after digit choose field_at texts_at
  peers_line = listed 49 decimal _ refl (mapped decimal 0 _)

  numbers_line : line_text (name ++ (50 ∷ 93 ∷ p)) k xs ≡ list_field name numbered_text (numbers_at n (part a (n + n + 1) xs)) ++ line_text p (suc k) xs
  unfolding line_text byte_text after digit choose field_at texts_at
  numbers_line = listed 50 numbered_text _ refl (mapped numbered_text 0 _)

  data_line : line_text (name ++ (52 ∷ 93 ∷ p)) k xs ≡ list_field name held_text (data_map_at n (part a (n + n + (n + n) + 1) xs)) ++ line_text p (suc k) xs
  unfolding line_text byte_text after digit choose field_at texts_at
  data_line = listed 52 held_text _ refl (mapped held_text 0 _)

  number_line : line_text (name ++ (48 ∷ p)) k xs ≡ number_field name (get_or xs a 0) ++ line_text p (suc k) xs
  unfolding line_text byte_text after digit choose field_at texts_at number_field items_text item_text comma_before
  number_line =
      plain (48 ∷ p)
      ∙ (ap (λ (z : List ℕ). name ++ z) (ap (λ (z : List ℕ). z ++ line_text p (suc k) xs) (append-nil (decimal (get_or xs (get_or places k 0) 0)) ∙ ap (λ (z : ℕ). decimal (get_or xs z 0)) e))
      ∙ sym (append_assoc name (decimal (get_or xs a 0)) _))

module _ (xs : List ℕ) (p : List ℕ) where
  own_line : line_text (ascii "state me=O" ++ p) 0 xs ≡ own_field (fields_in (own_at xs)) ++ line_text p 0 xs
  unfolding line_text byte_text after digit choose ascii
  own_line = sym (append_assoc (ascii "state me=") (drop (length (ascii "state me=")) (own_field (fields_in (own_at xs)))) _) ∙ ap (λ (z : List ℕ). z ++ line_text p 0 xs) (own_whole (fields_in (own_at xs)))

  limit_line : (k : ℕ) → line_text (ascii " refill=L" ++ p) k xs ≡ refill_field (limit_at xs) ++ line_text p k xs
  unfolding line_text byte_text after digit choose ascii
  limit_line k = sym (append_assoc (ascii " refill=") (drop (length (ascii " refill=")) (refill_field (limit_at xs))) (line_text p k xs)) ∙ ap (λ (z : List ℕ). z ++ line_text p k xs) (limit_whole (limit_at xs))

-- from each field on, by tools/make/layout.py
module _ (xs : List ℕ) where
  abbrev end_text : List ℕ
  end_text = ascii "\n"

  abbrev pins_text : List ℕ
  pins_text = list_field (ascii " pins=[") decimal (items_at layout.pins_places (layout.pins_part xs)) ++ end_text

  abbrev short_text : List ℕ
  short_text = number_field (ascii " short=") (layout.passes_short xs) ++ pins_text

  abbrev alone_text : List ℕ
  alone_text = number_field (ascii " alone=") (layout.passes_alone xs) ++ short_text

  abbrev interval_text : List ℕ
  interval_text = number_field (ascii " interval=") (layout.next_shuffle_interval xs) ++ alone_text

  abbrev timers_text : List ℕ
  timers_text = number_field (ascii " timers=") (layout.timers_scheduled xs) ++ interval_text

  abbrev refill_text : List ℕ
  refill_text = refill_field (limit_at xs) ++ timers_text

  abbrev refused_text : List ℕ
  refused_text = list_field (ascii " refused=[") decimal (items_at layout.refused_places (layout.refused_part xs)) ++ refill_text

  abbrev alive_text : List ℕ
  alive_text = list_field (ascii " alive=[") decimal (items_at layout.alive_places (layout.alive_part xs)) ++ refused_text

  abbrev data_text : List ℕ
  data_text = list_field (ascii " data=[") held_text (data_map_at layout.peer_data_places (layout.peer_data_part xs)) ++ alive_text

  abbrev next_join_text : List ℕ
  next_join_text = number_field (ascii " next_join=") (layout.next_join xs) ++ data_text

  abbrev joins_text : List ℕ
  joins_text = list_field (ascii " joins=[") numbered_text (numbers_at layout.joins_places (layout.joins_part xs)) ++ next_join_text

  abbrev next_request_text : List ℕ
  next_request_text = number_field (ascii " next_request=") (layout.next_neighbor_request xs) ++ joins_text

  abbrev requests_text : List ℕ
  requests_text = list_field (ascii " requests=[") numbered_text (numbers_at layout.requests_places (layout.requests_part xs)) ++ next_request_text

  abbrev recent_text : List ℕ
  recent_text = list_field (ascii " recent=[") decimal (items_at layout.recent_places (layout.recent_part xs)) ++ requests_text

  abbrev bootstrap_text : List ℕ
  bootstrap_text = list_field (ascii " bootstrap=[") decimal (items_at layout.bootstrap_places (layout.bootstrap_part xs)) ++ recent_text

  abbrev passive_text : List ℕ
  passive_text = list_field (ascii " passive=[") decimal (items_at layout.passive_places (layout.passive_part xs)) ++ bootstrap_text

  abbrev active_text : List ℕ
  active_text = list_field (ascii " active=[") decimal (items_at layout.active_places (layout.active_part xs)) ++ passive_text

  from_end : line_text (ascii "\n") 16 xs ≡ end_text
  unfolding line_text byte_text after digit choose ascii
  from_end = refl

  from_pins : line_text (ascii " pins=[1]\n") 15 xs ≡ pins_text
  unfolding line_text byte_text after digit choose ascii places rooms
  from_pins = peers_line xs (ascii " pins=[") (ascii "\n") 15 layout.pins_at layout.pins_places (λ q. refl) refl refl ∙ ap (λ (z : List ℕ). list_field (ascii " pins=[") decimal (items_at layout.pins_places (layout.pins_part xs)) ++ z) from_end

  from_short : line_text (ascii " short=0 pins=[1]\n") 14 xs ≡ short_text
  unfolding line_text byte_text after digit choose ascii places rooms
  from_short = number_line xs (ascii " short=") (ascii " pins=[1]\n") 14 layout.passes_short_at 1 (λ q. refl) refl refl ∙ ap (λ (z : List ℕ). number_field (ascii " short=") (layout.passes_short xs) ++ z) from_pins

  from_alone : line_text (ascii " alone=0 short=0 pins=[1]\n") 13 xs ≡ alone_text
  unfolding line_text byte_text after digit choose ascii places rooms
  from_alone = number_line xs (ascii " alone=") (ascii " short=0 pins=[1]\n") 13 layout.passes_alone_at 1 (λ q. refl) refl refl ∙ ap (λ (z : List ℕ). number_field (ascii " alone=") (layout.passes_alone xs) ++ z) from_short

  from_interval : line_text (ascii " interval=0 alone=0 short=0 pins=[1]\n") 12 xs ≡ interval_text
  unfolding line_text byte_text after digit choose ascii places rooms
  from_interval = number_line xs (ascii " interval=") (ascii " alone=0 short=0 pins=[1]\n") 12 layout.next_shuffle_interval_at 1 (λ q. refl) refl refl ∙ ap (λ (z : List ℕ). number_field (ascii " interval=") (layout.next_shuffle_interval xs) ++ z) from_alone

  from_timers : line_text (ascii " timers=0 interval=0 alone=0 short=0 pins=[1]\n") 11 xs ≡ timers_text
  unfolding line_text byte_text after digit choose ascii places rooms
  from_timers = number_line xs (ascii " timers=") (ascii " interval=0 alone=0 short=0 pins=[1]\n") 11 layout.timers_scheduled_at 1 (λ q. refl) refl refl ∙ ap (λ (z : List ℕ). number_field (ascii " timers=") (layout.timers_scheduled xs) ++ z) from_interval

  from_refill : line_text (ascii " refill=L timers=0 interval=0 alone=0 short=0 pins=[1]\n") 11 xs ≡ refill_text
  unfolding line_text byte_text after digit choose ascii places rooms
  from_refill = limit_line xs (ascii " timers=0 interval=0 alone=0 short=0 pins=[1]\n") 11 ∙ ap (λ (z : List ℕ). refill_field (limit_at xs) ++ z) from_timers

  from_refused : line_text (ascii " refused=[1] refill=L timers=0 interval=0 alone=0 short=0 pins=[1]\n") 10 xs ≡ refused_text
  unfolding line_text byte_text after digit choose ascii places rooms
  from_refused = peers_line xs (ascii " refused=[") (ascii " refill=L timers=0 interval=0 alone=0 short=0 pins=[1]\n") 10 layout.refused_at layout.refused_places (λ q. refl) refl refl ∙ ap (λ (z : List ℕ). list_field (ascii " refused=[") decimal (items_at layout.refused_places (layout.refused_part xs)) ++ z) from_refill

  from_alive : line_text (ascii " alive=[1] refused=[1] refill=L timers=0 interval=0 alone=0 short=0 pins=[1]\n") 9 xs ≡ alive_text
  unfolding line_text byte_text after digit choose ascii places rooms
  from_alive = peers_line xs (ascii " alive=[") (ascii " refused=[1] refill=L timers=0 interval=0 alone=0 short=0 pins=[1]\n") 9 layout.alive_at layout.alive_places (λ q. refl) refl refl ∙ ap (λ (z : List ℕ). list_field (ascii " alive=[") decimal (items_at layout.alive_places (layout.alive_part xs)) ++ z) from_refused

  from_data : line_text (ascii " data=[4] alive=[1] refused=[1] refill=L timers=0 interval=0 alone=0 short=0 pins=[1]\n") 8 xs ≡ data_text
  unfolding line_text byte_text after digit choose ascii places rooms
  from_data = data_line xs (ascii " data=[") (ascii " alive=[1] refused=[1] refill=L timers=0 interval=0 alone=0 short=0 pins=[1]\n") 8 layout.peer_data_at layout.peer_data_places (λ q. refl) refl refl ∙ ap (λ (z : List ℕ). list_field (ascii " data=[") held_text (data_map_at layout.peer_data_places (layout.peer_data_part xs)) ++ z) from_alive

  from_next_join : line_text (ascii " next_join=0 data=[4] alive=[1] refused=[1] refill=L timers=0 interval=0 alone=0 short=0 pins=[1]\n") 7 xs ≡ next_join_text
  unfolding line_text byte_text after digit choose ascii places rooms
  from_next_join = number_line xs (ascii " next_join=") (ascii " data=[4] alive=[1] refused=[1] refill=L timers=0 interval=0 alone=0 short=0 pins=[1]\n") 7 layout.next_join_at 1 (λ q. refl) refl refl ∙ ap (λ (z : List ℕ). number_field (ascii " next_join=") (layout.next_join xs) ++ z) from_data

  from_joins : line_text (ascii " joins=[2] next_join=0 data=[4] alive=[1] refused=[1] refill=L timers=0 interval=0 alone=0 short=0 pins=[1]\n") 6 xs ≡ joins_text
  unfolding line_text byte_text after digit choose ascii places rooms
  from_joins = numbers_line xs (ascii " joins=[") (ascii " next_join=0 data=[4] alive=[1] refused=[1] refill=L timers=0 interval=0 alone=0 short=0 pins=[1]\n") 6 layout.joins_at layout.joins_places (λ q. refl) refl refl ∙ ap (λ (z : List ℕ). list_field (ascii " joins=[") numbered_text (numbers_at layout.joins_places (layout.joins_part xs)) ++ z) from_next_join

  from_next_request : line_text (ascii " next_request=0 joins=[2] next_join=0 data=[4] alive=[1] refused=[1] refill=L timers=0 interval=0 alone=0 short=0 pins=[1]\n") 5 xs ≡ next_request_text
  unfolding line_text byte_text after digit choose ascii places rooms
  from_next_request = number_line xs (ascii " next_request=") (ascii " joins=[2] next_join=0 data=[4] alive=[1] refused=[1] refill=L timers=0 interval=0 alone=0 short=0 pins=[1]\n") 5 layout.next_neighbor_request_at 1 (λ q. refl) refl refl ∙ ap (λ (z : List ℕ). number_field (ascii " next_request=") (layout.next_neighbor_request xs) ++ z) from_joins

  from_requests : line_text (ascii " requests=[2] next_request=0 joins=[2] next_join=0 data=[4] alive=[1] refused=[1] refill=L timers=0 interval=0 alone=0 short=0 pins=[1]\n") 4 xs ≡ requests_text
  unfolding line_text byte_text after digit choose ascii places rooms
  from_requests = numbers_line xs (ascii " requests=[") (ascii " next_request=0 joins=[2] next_join=0 data=[4] alive=[1] refused=[1] refill=L timers=0 interval=0 alone=0 short=0 pins=[1]\n") 4 layout.requests_at layout.requests_places (λ q. refl) refl refl ∙ ap (λ (z : List ℕ). list_field (ascii " requests=[") numbered_text (numbers_at layout.requests_places (layout.requests_part xs)) ++ z) from_next_request

  from_recent : line_text (ascii " recent=[1] requests=[2] next_request=0 joins=[2] next_join=0 data=[4] alive=[1] refused=[1] refill=L timers=0 interval=0 alone=0 short=0 pins=[1]\n") 3 xs ≡ recent_text
  unfolding line_text byte_text after digit choose ascii places rooms
  from_recent = peers_line xs (ascii " recent=[") (ascii " requests=[2] next_request=0 joins=[2] next_join=0 data=[4] alive=[1] refused=[1] refill=L timers=0 interval=0 alone=0 short=0 pins=[1]\n") 3 layout.recent_at layout.recent_places (λ q. refl) refl refl ∙ ap (λ (z : List ℕ). list_field (ascii " recent=[") decimal (items_at layout.recent_places (layout.recent_part xs)) ++ z) from_requests

  from_bootstrap : line_text (ascii " bootstrap=[1] recent=[1] requests=[2] next_request=0 joins=[2] next_join=0 data=[4] alive=[1] refused=[1] refill=L timers=0 interval=0 alone=0 short=0 pins=[1]\n") 2 xs ≡ bootstrap_text
  unfolding line_text byte_text after digit choose ascii places rooms
  from_bootstrap = peers_line xs (ascii " bootstrap=[") (ascii " recent=[1] requests=[2] next_request=0 joins=[2] next_join=0 data=[4] alive=[1] refused=[1] refill=L timers=0 interval=0 alone=0 short=0 pins=[1]\n") 2 layout.bootstrap_at layout.bootstrap_places (λ q. refl) refl refl ∙ ap (λ (z : List ℕ). list_field (ascii " bootstrap=[") decimal (items_at layout.bootstrap_places (layout.bootstrap_part xs)) ++ z) from_recent

  from_passive : line_text (ascii " passive=[1] bootstrap=[1] recent=[1] requests=[2] next_request=0 joins=[2] next_join=0 data=[4] alive=[1] refused=[1] refill=L timers=0 interval=0 alone=0 short=0 pins=[1]\n") 1 xs ≡ passive_text
  unfolding line_text byte_text after digit choose ascii places rooms
  from_passive = peers_line xs (ascii " passive=[") (ascii " bootstrap=[1] recent=[1] requests=[2] next_request=0 joins=[2] next_join=0 data=[4] alive=[1] refused=[1] refill=L timers=0 interval=0 alone=0 short=0 pins=[1]\n") 1 layout.passive_at layout.passive_places (λ q. refl) refl refl ∙ ap (λ (z : List ℕ). list_field (ascii " passive=[") decimal (items_at layout.passive_places (layout.passive_part xs)) ++ z) from_bootstrap

  from_active : line_text (ascii " active=[1] passive=[1] bootstrap=[1] recent=[1] requests=[2] next_request=0 joins=[2] next_join=0 data=[4] alive=[1] refused=[1] refill=L timers=0 interval=0 alone=0 short=0 pins=[1]\n") 0 xs ≡ active_text
  unfolding line_text byte_text after digit choose ascii places rooms
  from_active = peers_line xs (ascii " active=[") (ascii " passive=[1] bootstrap=[1] recent=[1] requests=[2] next_request=0 joins=[2] next_join=0 data=[4] alive=[1] refused=[1] refill=L timers=0 interval=0 alone=0 short=0 pins=[1]\n") 0 layout.active_at layout.active_places (λ q. refl) refl refl ∙ ap (λ (z : List ℕ). list_field (ascii " active=[") decimal (items_at layout.active_places (layout.active_part xs)) ++ z) from_passive

  fields_line : line_text (ascii " active=[1] passive=[1] bootstrap=[1] recent=[1] requests=[2] next_request=0 joins=[2] next_join=0 data=[4] alive=[1] refused=[1] refill=L timers=0 interval=0 alone=0 short=0 pins=[1]\n") 0 xs ≡ fields_text xs
  unfolding fields_text
  fields_line = from_active

-- end

pub line_is : (xs : List ℕ) → line_text line 0 xs ≡ state_line xs
unfolding line ascii state_line
line_is xs = own_line xs _ ∙ ap (λ (z : List ℕ). own_field (fields_in (own_at xs)) ++ z) (fields_line xs)

-- ---- the loop

digit_yes : (x : ℕ) → 48 ≤ x → x < 53 → digit x ≡ true
unfolding digit
digit_yes x h l = λ j. lt-ltb 47 x (omega (arith, h)) j && lt-ltb x 53 l j

digit_under : (x : ℕ) → x < 48 → digit x ≡ false
unfolding digit
digit_under x h = ap (λ (b : Bool). b && ltb x 53) (le-ltb 47 x (omega (arith, h)))

digit_over : (x : ℕ) → 53 ≤ x → digit x ≡ false
unfolding digit
digit_over x h = λ j. lt-ltb 47 x (omega (arith, h)) j && le-ltb x 53 h j

few_columns : (c : ℕ) → c < 3 → (c ≡ 0) ⊎ ((c ≡ 1) ⊎ ((c ≡ 2) ⊎ (c ≡ 4)))
few_columns c h =
    split (eqb c 0) (λ y. inl (eqb-true c 0 y))
    (λ n. split (eqb c 1) (λ y. inr (inl (eqb-true c 1 y))) (λ m. let a = eqb-false c 0 n in let b = eqb-false c 1 m in inr (inr (inl (omega (arith, h, a, b))))))

columns_form : (c : ℕ) → (eqb c 4 || ltb c 3) ≡ true → (c ≡ 0) ⊎ ((c ≡ 1) ⊎ ((c ≡ 2) ⊎ (c ≡ 4)))
columns_form c e =
    split (eqb c 4) (λ y. inr (inr (inr (eqb-true c 4 y)))) (λ n. few_columns c (ltb-true c 3 (ap (λ (b : Bool). b || ltb c 3) (sym n) ∙ e)))

-- i bytes of the line are passed, and k fields
pub record Lining (xs : List ℕ) (t r : Page) (i k : ℕ) : Type 0 where
  pub within : i ≤ line_size
  pub long : length xs ≡ words
  pub fits : line_fits (drop i line) k ≡ true
  pub text : Writing (line_text line 0 xs) t r (line_text (drop i line) k xs)

pub line_start : (xs : List ℕ) (t : Page) → length xs ≡ words → Lining xs t t 0 0
unfolding line line_fits row_fits after digit choose places rooms ascii
line_start xs t l = record { within = omega arith; long = l; fits = refl; text = writing_start (line_text line 0 xs) t }

line_long : length line ≡ line_size
unfolding line ascii
line_long = refl

module _ (xs : List ℕ) (t r : Page) (i k : ℕ) (v : Lining xs t r i k) where
  here : i < line_size → drop i line ≡ get_or line i 0 ∷ drop (i + 1) line
  here h = let e : suc i ≡ i + 1 = omega arith in drop-cons line i 0 (omega (arith, h, line_long)) ∙ ap (λ (j : ℕ). get_or line i 0 ∷ drop j line) e

  pub line_end : line_size ≤ i → Prints (state_line xs) t r
  unfolding line_text
  line_end h = subst (λ (z : List ℕ). Prints z t r) (line_is xs) (writing_end v.text (let q : length line ≤ i = omega (arith, h, line_long) in ap (λ (z : List ℕ). line_text z k xs) (drop_of_length-le line q)))

  module _ (h : i < line_size) where
    fits_here : line_fits (get_or line i 0 ∷ drop (i + 1) line) k ≡ true
    fits_here = ap (λ (z : List ℕ). line_fits z k) (sym (here h)) ∙ v.fits

    fits_after : line_fits (drop (i + 1) line) (after (get_or line i 0) k) ≡ true
    unfolding line_fits
    fits_after = and_right (choose (digit (get_or line i 0)) (row_fits (get_or line i 0 - 48) k) true) _ fits_here

    next : (s : Page) (x : List ℕ) (l : ℕ) → after (get_or line i 0) k ≡ l → byte_text (get_or line i 0) k xs ≡ x → Prints x r s → Lining xs t s (i + 1) l
    unfolding line_text
    next s x l f e u = record {
      within = omega (arith, h);
      long = v.long;
      fits = ap (λ (z : ℕ). line_fits (drop (i + 1) line) z) (sym f) ∙ fits_after;
      text = writing_next v.text x (line_text (drop (i + 1) line) l xs) (ap (λ (z : List ℕ). line_text z k xs) (here h) ∙ (λ j. e j ++ line_text (drop (i + 1) line) (f j) xs)) u;
    }

    same_field : digit (get_or line i 0) ≡ false → after (get_or line i 0) k ≡ k
    unfolding after
    same_field n = choose_no _ _ _ n

    module _ (s : Page) where
      pub own_next : get_or line i 0 ≡ 79 → Prints (drop (length (ascii "state me=")) (own_field (fields_in (own_at xs)))) r s → Lining xs t s (i + 1) k
      unfolding byte_text
      own_next e u = next s _ k (same_field (digit_over (get_or line i 0) (omega (arith, e)))) (choose_yes _ _ _ (eq-eqb (get_or line i 0) 79 e)) u

      pub limit_next : get_or line i 0 ≡ 76 → Prints (drop (length (ascii " refill=")) (refill_field (limit_at xs))) r s → Lining xs t s (i + 1) k
      unfolding byte_text
      limit_next e u =
          next s _ k (same_field (digit_over (get_or line i 0) (omega (arith, e))))
          (choose_no _ _ _ (ne_eqb (get_or line i 0) 79 (λ f. omega (arith, e, f))) ∙ choose_yes _ _ _ (eq-eqb (get_or line i 0) 76 e))
          u

      byte_next : digit (get_or line i 0) ≡ false → (get_or line i 0 ≡ 79 → ⊥) → (get_or line i 0 ≡ 76 → ⊥) → Prints (get_or line i 0 ∷ []) r s → Lining xs t s (i + 1) k
      unfolding byte_text
      byte_next d f g u =
          next s _ k (same_field d) (choose_no _ _ _ (ne_eqb (get_or line i 0) 79 f) ∙ (choose_no _ _ _ (ne_eqb (get_or line i 0) 76 g) ∙ choose_no _ _ _ d)) u

      pub under_next : get_or line i 0 < 48 → (get_or line i 0 ≡ 79 → ⊥) → (get_or line i 0 ≡ 76 → ⊥) → Prints (get_or line i 0 ∷ []) r s → Lining xs t s (i + 1) k
      under_next l f g u = byte_next (digit_under (get_or line i 0) l) f g u

      pub over_next : 53 ≤ get_or line i 0 → (get_or line i 0 ≡ 79 → ⊥) → (get_or line i 0 ≡ 76 → ⊥) → Prints (get_or line i 0 ∷ []) r s → Lining xs t s (i + 1) k
      over_next l f g u = byte_next (digit_over (get_or line i 0) l) f g u

    module _ (l : 48 ≤ get_or line i 0) (m : get_or line i 0 < 53) where
      fits_row : row_fits (get_or line i 0 - 48) k ≡ true
      unfolding line_fits
      fits_row = sym (choose_yes _ _ _ (digit_yes (get_or line i 0) l m)) ∙ and_left (choose (digit (get_or line i 0)) (row_fits (get_or line i 0 - 48) k) true) _ fits_here

      row_there : (ltb k fields && (ltb (get_or places k 0 + (get_or line i 0 - 48) * get_or rooms k 0) words && (leb (get_or places k 0 + get_or rooms k 0) words && leb 1 (get_or rooms k 0)))) ≡ true
      unfolding row_fits
      row_there = and_right (eqb (get_or line i 0 - 48) 4 || ltb (get_or line i 0 - 48) 3) _ fits_row

      pub field_there : k < fields
      field_there = ltb-true k fields (and_left (ltb k fields) _ row_there)

      pub field_in : InWords (get_or line i 0 - 48) (get_or places k 0) (get_or rooms k 0) (length xs)
      unfolding row_fits
      field_in =
          let a = ltb (get_or places k 0 + (get_or line i 0 - 48) * get_or rooms k 0) words in
          let b = leb (get_or places k 0 + get_or rooms k 0) words in
          let q = and_right (ltb k fields) (a && (b && leb 1 (get_or rooms k 0))) row_there in
          let w = and_right a (b && leb 1 (get_or rooms k 0)) q in
          subst (λ (n : ℕ). InWords (get_or line i 0 - 48) (get_or places k 0) (get_or rooms k 0) n) (sym v.long) (record {
            inside = ltb-true _ _ (and_left a (b && leb 1 (get_or rooms k 0)) q);
            first = leb-true _ _ (and_left b (leb 1 (get_or rooms k 0)) w);
            some = leb-true _ _ (and_right b (leb 1 (get_or rooms k 0)) w);
            form = columns_form (get_or line i 0 - 48) (and_left (eqb (get_or line i 0 - 48) 4 || ltb (get_or line i 0 - 48) 3) _ fits_row);
          })

      pub field_next : (s : Page) → Prints (field_at (get_or line i 0 - 48) (get_or places k 0) (get_or rooms k 0) xs) r s → Lining xs t s (i + 1) (k + 1)
      unfolding byte_text after
      field_next s u =
          let e : suc k ≡ k + 1 = omega arith in
          next s _ (k + 1) (choose_yes _ _ _ (digit_yes (get_or line i 0) l m) ∙ e)
          (choose_no _ _ _ (ne_eqb (get_or line i 0) 79 (λ f. omega (arith, m, f)))
          ∙ (choose_no _ _ _ (ne_eqb (get_or line i 0) 76 (λ f. omega (arith, m, f))) ∙ choose_yes _ _ _ (digit_yes (get_or line i 0) l m)))
          u
