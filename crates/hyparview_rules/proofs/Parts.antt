-- The numbers and the sections of the words that a station is packed into, and words put together of their sections. Written by tools/make/layout.py.
-- Assumes nothing.
use Prim.Native.Nat.{ℕ, ◌+◌}
use mathlib.Core.Path.{◌≡◌, refl, sym, ap, ◌∙◌}
use mathlib.Core.List.{List, ◌++◌}
use native.Mathlib.Omega.{arith}
use lib.ListN.{length, take, drop, length-append, length-drop, take-append-drop}
use lib.Seq.{take_all, take_at, drop_at, drop-drop}
use Rattle.base_util.specs.Section.{part, section}
use Rattle.base_util.proofs.Sets.{framed_long}
use Rattle.base_columns.specs.Columns.{numbers_section, data_section}
use Rattle.spec_hyparview.specs.Station.{Station}
use Rattle.hyparview_state.specs.Layout as layout
use Rattle.hyparview_state.specs.Layout.{sections}
use Rattle.hyparview_rules.specs.Pack.{front, pack}
use Rattle.hyparview_rules.proofs.Maps.{numbers_stored, data_stored}

section_long : (n : ℕ) (xs : List ℕ) → length (section n xs) ≡ n + 1
unfolding section
section_long n xs = framed_long n xs (length xs)

module _ (a k : ℕ) (xs ys zs : List ℕ) (e : drop a xs ≡ ys ++ zs) (l : length ys ≡ k) where
  part_here : part a k xs ≡ ys
  unfolding part
  part_here = ap (take k) e ∙ take_at ys zs k l

  rest_here : drop (a + k) xs ≡ zs
  rest_here = sym (drop-drop k a xs) ∙ ap (drop k) e ∙ drop_at ys zs k l

joined : (a k : ℕ) (xs : List ℕ) → part a k xs ++ drop (a + k) xs ≡ drop a xs
unfolding part
joined a k xs = ap (λ (l : List ℕ). take k (drop a xs) ++ l) (sym (drop-drop k a xs)) ∙ take-append-drop k (drop a xs)

-- ---- a station that is packed

module _ (g : Station) where
  -- the sections from each on
  abbrev from_pins : List ℕ
  from_pins = section layout.pins_places g.pins

  abbrev from_peer_data : List ℕ
  from_peer_data = data_section layout.peer_data_places g.peer_data ++ from_pins

  abbrev from_joins : List ℕ
  from_joins = numbers_section layout.joins_places g.joins ++ from_peer_data

  abbrev from_recent : List ℕ
  from_recent = section layout.recent_places g.recent ++ from_joins

  abbrev from_bootstrap : List ℕ
  from_bootstrap = section layout.bootstrap_places g.bootstrap ++ from_recent

  abbrev from_requests : List ℕ
  from_requests = numbers_section layout.requests_places g.requests ++ from_bootstrap

  abbrev from_refused : List ℕ
  from_refused = section layout.refused_places g.refused ++ from_requests

  abbrev from_alive : List ℕ
  from_alive = section layout.alive_places g.alive ++ from_refused

  abbrev from_passive : List ℕ
  from_passive = section layout.passive_places g.passive ++ from_alive

  abbrev from_active : List ℕ
  from_active = section layout.active_places g.active ++ from_passive

  at_active : drop layout.active_at (pack g) ≡ from_active
  unfolding pack front
  at_active = drop_at (front g) from_active layout.active_at refl

  at_passive : drop layout.passive_at (pack g) ≡ from_passive
  at_passive = rest_here layout.active_at layout.active_size (pack g) (section layout.active_places g.active) from_passive at_active (section_long layout.active_places g.active)

  at_alive : drop layout.alive_at (pack g) ≡ from_alive
  at_alive = rest_here layout.passive_at layout.passive_size (pack g) (section layout.passive_places g.passive) from_alive at_passive (section_long layout.passive_places g.passive)

  at_refused : drop layout.refused_at (pack g) ≡ from_refused
  at_refused = rest_here layout.alive_at layout.alive_size (pack g) (section layout.alive_places g.alive) from_refused at_alive (section_long layout.alive_places g.alive)

  at_requests : drop layout.requests_at (pack g) ≡ from_requests
  at_requests = rest_here layout.refused_at layout.refused_size (pack g) (section layout.refused_places g.refused) from_requests at_refused (section_long layout.refused_places g.refused)

  at_bootstrap : drop layout.bootstrap_at (pack g) ≡ from_bootstrap
  at_bootstrap = rest_here layout.requests_at layout.requests_size (pack g) (numbers_section layout.requests_places g.requests) from_bootstrap at_requests (numbers_stored layout.requests_places g.requests).long

  at_recent : drop layout.recent_at (pack g) ≡ from_recent
  at_recent = rest_here layout.bootstrap_at layout.bootstrap_size (pack g) (section layout.bootstrap_places g.bootstrap) from_recent at_bootstrap (section_long layout.bootstrap_places g.bootstrap)

  at_joins : drop layout.joins_at (pack g) ≡ from_joins
  at_joins = rest_here layout.recent_at layout.recent_size (pack g) (section layout.recent_places g.recent) from_joins at_recent (section_long layout.recent_places g.recent)

  at_peer_data : drop layout.peer_data_at (pack g) ≡ from_peer_data
  at_peer_data = rest_here layout.joins_at layout.joins_size (pack g) (numbers_section layout.joins_places g.joins) from_peer_data at_joins (numbers_stored layout.joins_places g.joins).long

  at_pins : drop layout.pins_at (pack g) ≡ from_pins
  at_pins = rest_here layout.peer_data_at layout.peer_data_size (pack g) (data_section layout.peer_data_places g.peer_data) from_pins at_peer_data (data_stored layout.peer_data_places g.peer_data).long

  last_part : layout.pins_part (pack g) ≡ from_pins
  unfolding part
  last_part = ap (take layout.pins_size) at_pins ∙ take_all layout.pins_size from_pins (omega (arith, section_long layout.pins_places g.pins))

  pub packed_sections : sections (pack g) ≡ record {
    active = section layout.active_places g.active;
    passive = section layout.passive_places g.passive;
    alive = section layout.alive_places g.alive;
    refused = section layout.refused_places g.refused;
    requests = numbers_section layout.requests_places g.requests;
    bootstrap = section layout.bootstrap_places g.bootstrap;
    recent = section layout.recent_places g.recent;
    joins = numbers_section layout.joins_places g.joins;
    peer_data = data_section layout.peer_data_places g.peer_data;
    pins = section layout.pins_places g.pins;
  }
  packed_sections = λ i. record {
    active = part_here layout.active_at layout.active_size (pack g) (section layout.active_places g.active) from_passive at_active (section_long layout.active_places g.active) i;
    passive = part_here layout.passive_at layout.passive_size (pack g) (section layout.passive_places g.passive) from_alive at_passive (section_long layout.passive_places g.passive) i;
    alive = part_here layout.alive_at layout.alive_size (pack g) (section layout.alive_places g.alive) from_refused at_alive (section_long layout.alive_places g.alive) i;
    refused = part_here layout.refused_at layout.refused_size (pack g) (section layout.refused_places g.refused) from_requests at_refused (section_long layout.refused_places g.refused) i;
    requests = part_here layout.requests_at layout.requests_size (pack g) (numbers_section layout.requests_places g.requests) from_bootstrap at_requests (numbers_stored layout.requests_places g.requests).long i;
    bootstrap = part_here layout.bootstrap_at layout.bootstrap_size (pack g) (section layout.bootstrap_places g.bootstrap) from_recent at_bootstrap (section_long layout.bootstrap_places g.bootstrap) i;
    recent = part_here layout.recent_at layout.recent_size (pack g) (section layout.recent_places g.recent) from_joins at_recent (section_long layout.recent_places g.recent) i;
    joins = part_here layout.joins_at layout.joins_size (pack g) (numbers_section layout.joins_places g.joins) from_peer_data at_joins (numbers_stored layout.joins_places g.joins).long i;
    peer_data = part_here layout.peer_data_at layout.peer_data_size (pack g) (data_section layout.peer_data_places g.peer_data) from_pins at_peer_data (data_stored layout.peer_data_places g.peer_data).long i;
    pins = last_part i;
  }

  pub packed_long : length (pack g) ≡ layout.words
  unfolding pack front
  packed_long =
      omega (
        arith,
        length-append (front g) from_active,
        length-append (section layout.active_places g.active) from_passive,
        length-append (section layout.passive_places g.passive) from_alive,
        length-append (section layout.alive_places g.alive) from_refused,
        length-append (section layout.refused_places g.refused) from_requests,
        length-append (numbers_section layout.requests_places g.requests) from_bootstrap,
        length-append (section layout.bootstrap_places g.bootstrap) from_recent,
        length-append (section layout.recent_places g.recent) from_joins,
        length-append (numbers_section layout.joins_places g.joins) from_peer_data,
        length-append (data_section layout.peer_data_places g.peer_data) from_pins,
        section_long layout.active_places g.active,
        section_long layout.passive_places g.passive,
        section_long layout.alive_places g.alive,
        section_long layout.refused_places g.refused,
        (numbers_stored layout.requests_places g.requests).long,
        section_long layout.bootstrap_places g.bootstrap,
        section_long layout.recent_places g.recent,
        (numbers_stored layout.joins_places g.joins).long,
        (data_stored layout.peer_data_places g.peer_data).long,
        section_long layout.pins_places g.pins,
      )

-- ---- words put together of their sections

rejoined_pins : (xs : List ℕ) → length xs ≡ layout.words → layout.pins_part xs ≡ drop layout.pins_at xs
unfolding part
rejoined_pins xs l = take_all layout.pins_size (drop layout.pins_at xs) (omega (arith, length-drop layout.pins_at xs, l))

rejoined_peer_data : (xs : List ℕ) → length xs ≡ layout.words → layout.peer_data_part xs ++ layout.pins_part xs ≡ drop layout.peer_data_at xs
rejoined_peer_data xs l = ap (λ (m : List ℕ). layout.peer_data_part xs ++ m) (rejoined_pins xs l) ∙ joined layout.peer_data_at layout.peer_data_size xs

rejoined_joins : (xs : List ℕ) → length xs ≡ layout.words → layout.joins_part xs ++ (layout.peer_data_part xs ++ layout.pins_part xs) ≡ drop layout.joins_at xs
rejoined_joins xs l = ap (λ (m : List ℕ). layout.joins_part xs ++ m) (rejoined_peer_data xs l) ∙ joined layout.joins_at layout.joins_size xs

rejoined_recent : (xs : List ℕ) → length xs ≡ layout.words → layout.recent_part xs ++ (layout.joins_part xs ++ (layout.peer_data_part xs ++ layout.pins_part xs)) ≡ drop layout.recent_at xs
rejoined_recent xs l = ap (λ (m : List ℕ). layout.recent_part xs ++ m) (rejoined_joins xs l) ∙ joined layout.recent_at layout.recent_size xs

rejoined_bootstrap : (xs : List ℕ) → length xs ≡ layout.words → layout.bootstrap_part xs ++ (layout.recent_part xs ++ (layout.joins_part xs ++ (layout.peer_data_part xs ++ layout.pins_part xs))) ≡ drop layout.bootstrap_at xs
rejoined_bootstrap xs l = ap (λ (m : List ℕ). layout.bootstrap_part xs ++ m) (rejoined_recent xs l) ∙ joined layout.bootstrap_at layout.bootstrap_size xs

rejoined_requests : (xs : List ℕ) → length xs ≡ layout.words → layout.requests_part xs ++ (layout.bootstrap_part xs ++ (layout.recent_part xs ++ (layout.joins_part xs ++ (layout.peer_data_part xs ++ layout.pins_part xs)))) ≡ drop layout.requests_at xs
rejoined_requests xs l = ap (λ (m : List ℕ). layout.requests_part xs ++ m) (rejoined_bootstrap xs l) ∙ joined layout.requests_at layout.requests_size xs

rejoined_refused : (xs : List ℕ) → length xs ≡ layout.words → layout.refused_part xs ++ (layout.requests_part xs ++ (layout.bootstrap_part xs ++ (layout.recent_part xs ++ (layout.joins_part xs ++ (layout.peer_data_part xs ++ layout.pins_part xs))))) ≡ drop layout.refused_at xs
rejoined_refused xs l = ap (λ (m : List ℕ). layout.refused_part xs ++ m) (rejoined_requests xs l) ∙ joined layout.refused_at layout.refused_size xs

rejoined_alive : (xs : List ℕ) → length xs ≡ layout.words → layout.alive_part xs ++ (layout.refused_part xs ++ (layout.requests_part xs ++ (layout.bootstrap_part xs ++ (layout.recent_part xs ++ (layout.joins_part xs ++ (layout.peer_data_part xs ++ layout.pins_part xs)))))) ≡ drop layout.alive_at xs
rejoined_alive xs l = ap (λ (m : List ℕ). layout.alive_part xs ++ m) (rejoined_refused xs l) ∙ joined layout.alive_at layout.alive_size xs

rejoined_passive : (xs : List ℕ) → length xs ≡ layout.words → layout.passive_part xs ++ (layout.alive_part xs ++ (layout.refused_part xs ++ (layout.requests_part xs ++ (layout.bootstrap_part xs ++ (layout.recent_part xs ++ (layout.joins_part xs ++ (layout.peer_data_part xs ++ layout.pins_part xs))))))) ≡ drop layout.passive_at xs
rejoined_passive xs l = ap (λ (m : List ℕ). layout.passive_part xs ++ m) (rejoined_alive xs l) ∙ joined layout.passive_at layout.passive_size xs

pub rejoined_active : (xs : List ℕ) → length xs ≡ layout.words → layout.active_part xs ++ (layout.passive_part xs ++ (layout.alive_part xs ++ (layout.refused_part xs ++ (layout.requests_part xs ++ (layout.bootstrap_part xs ++ (layout.recent_part xs ++ (layout.joins_part xs ++ (layout.peer_data_part xs ++ layout.pins_part xs)))))))) ≡ drop layout.active_at xs
rejoined_active xs l = ap (λ (m : List ℕ). layout.active_part xs ++ m) (rejoined_passive xs l) ∙ joined layout.active_at layout.active_size xs
