-- Document 02, S-13: "List histories of length 0 to 4, shorter first, then by the order of events".
-- An event is the bytes of its record, and a history a list of events. Those that there are stand in a list es, in their order.
-- Assumes nothing.
use Rattle.std.specs.Prelude.{ℕ, zero, suc, ◌+◌, Bool, true, false, not, ◌&&◌, ◌||◌, List, [], ◌∷◌, ◌++◌, map, length, leb, ltb, eqb}
use Rattle.base_lists.specs.Lists.{choose, same}
use Rattle.base_lists.specs.Tests.{every}

abbrev pub Event : Type 0
Event = List ℕ

abbrev pub History : Type 0
History = List Event

-- each of the events es, followed by each of the histories hs
unfoldable pub each : List Event → List History → List History
each [] hs = []
each (e ∷ es) hs = map (λ h. e ∷ h) hs ++ each es hs

-- the histories of exactly n events: "each history is extended by every event until the length is spent"
unfoldable pub of_length : List Event → ℕ → List History
of_length es zero = [] ∷ []
of_length es (suc n) = each es (of_length es n)

-- the histories of at most n events: "For each length in turn, from the empty one"
unfoldable pub up_to : List Event → ℕ → List History
up_to es zero = of_length es zero
up_to es (suc n) = up_to es n ++ of_length es (suc n)

-- ---- what is claimed of that list

-- whether x is one of the events
unfoldable pub among : Event → List Event → Bool
among x [] = false
among x (e ∷ es) = same x e || among x es

-- whether no event stands there twice
unfoldable pub differ : List Event → Bool
differ [] = true
differ (e ∷ es) = not (among e es) && differ es

-- h is a list of at most n of the events
unfoldable pub is_history : List Event → ℕ → History → Bool
is_history es n h = leb (length h) n && every (λ e. among e es) h

-- whether two histories have the same events in the same order
unfoldable pub same_events : History → History → Bool
same_events [] [] = true
same_events [] (y ∷ ys) = false
same_events (x ∷ xs) [] = false
same_events (x ∷ xs) (y ∷ ys) = same x y && same_events xs ys

-- how many times h stands in the list
unfoldable pub times : History → List History → ℕ
times h [] = 0
times h (g ∷ gs) = choose (same_events h g) 1 0 + times h gs

-- the place of x in the order of events, from 0 on
unfoldable pub place_of : Event → List Event → ℕ
place_of x [] = 0
place_of x (e ∷ es) = choose (same x e) 0 (suc (place_of x es))

-- of two histories of one length, the first stands earlier "by the order of events"
unfoldable pub earlier : List Event → History → History → Bool
earlier es [] h = false
earlier es (x ∷ xs) [] = false
earlier es (x ∷ xs) (y ∷ ys) = ltb (place_of x es) (place_of y es) || (same x y && earlier es xs ys)

-- "shorter first, then by the order of events"
unfoldable pub before : List Event → History → History → Bool
before es g h = ltb (length g) (length h) || (eqb (length g) (length h) && earlier es g h)

-- each item stands in this relation to all that come after it
unfoldable pub ordered : (History → History → Bool) → List History → Bool
ordered t [] = true
ordered t (h ∷ hs) = every (t h) hs && ordered t hs
