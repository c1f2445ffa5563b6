-- A book with one thing more than the open numbers: the peers told, to whom a Neighbor went that nothing closed since. It is what the steps are held against, item by item.
-- Assumes nothing.
use Prim.Native.Nat.{ℕ}
use mathlib.Core.Path.{◌≡◌, refl, ap, ◌∙◌}
use mathlib.Core.Bool.{Bool, true, false, not, ◌&&◌}
use mathlib.Core.List.{List, [], ◌∷◌}
use lib.Dec.{eqb}
use Rattle.base_lists.specs.Lists.{choose, mem, without, insert}
use Rattle.base_lists.specs.Maps.{cut}
use Rattle.record.specs.Kinds.{Message, Quit, kind_byte}
use Rattle.spec_chatter.specs.Traffic.{Item, came, went}
use Rattle.spec_chatter.specs.Open.{neighbor_message, closes, open_on, open_by, open_after}

pub record Book : Type 0 where
  pub told : List ℕ
  pub asked : List (ℕ × ℕ)

unfoldable pub empty_book : Book
empty_book = record { told = []; asked = [] }

-- a Neighbor message, by kind and message
unfoldable pub is_neighbor : ℕ → ℕ → Bool
is_neighbor k m = eqb k (kind_byte Message) && eqb m neighbor_message

unfoldable pub note_sent : ℕ → ℕ → ℕ → ℕ → Book → Book
unfolding open_by
note_sent k m p n d = record {
  told = choose (is_neighbor k m) (insert p d.told) d.told;
  asked = open_by k p n d.asked;
}

unfoldable pub shut : ℕ → Book → Book
shut p d = record { told = without p d.told; asked = cut p d.asked }

unfoldable pub note_event : ℕ → ℕ → ℕ → ℕ → Book → Book
note_event k m p n d = choose (eqb k (kind_byte Quit)) empty_book (choose (closes k m p n d.asked) (shut p d) d)

unfoldable pub note_item : Item → Book → Book
note_item (came h) d = note_event h.kind h.message h.peer h.number d
note_item (went h) d = note_sent h.kind h.message h.peer h.number d

unfoldable pub book_after : List Item → Book → Book
book_after [] d = d
book_after (i ∷ xs) d = book_after xs (note_item i d)

-- a record that the book does not forbid: a Neighbor only to a peer that is not told
unfoldable pub may_send : ℕ → ℕ → ℕ → Book → Bool
may_send k m p d = choose (is_neighbor k m) (not (mem p d.told)) true

unfoldable pub may : Item → Book → Bool
may (came h) d = true
may (went h) d = may_send h.kind h.message h.peer d

unfoldable pub keeps_book : List Item → Book → Bool
keeps_book [] d = true
keeps_book (i ∷ xs) d = may i d && keeps_book xs (note_item i d)

-- ---- its numbers are the open ones

asked_choose : (b : Bool) (x y : Book) → (choose b x y).asked ≡ choose b x.asked y.asked
unfolding choose
asked_choose true x y = refl
asked_choose false x y = refl

asked_on : (k m p n : ℕ) (d : Book) → (note_event k m p n d).asked ≡ open_on k m p n d.asked
unfolding note_event open_on empty_book shut
asked_on k m p n d =
    asked_choose (eqb k (kind_byte Quit)) _ _
    ∙ ap (choose (eqb k (kind_byte Quit)) []) (asked_choose (closes k m p n d.asked) _ _)

pub asked_after : (xs : List Item) (d : Book) → (book_after xs d).asked ≡ open_after xs d.asked
unfolding book_after open_after note_item note_sent
asked_after [] d = refl
asked_after (came h ∷ xs) d = asked_after xs _ ∙ ap (open_after xs) (asked_on h.kind h.message h.peer h.number d)
asked_after (went h ∷ xs) d = asked_after xs _
