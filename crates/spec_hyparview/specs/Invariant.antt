-- What holds of a run between its steps: the invariant, which contracts of the code ask for by its name. A reader of demand 3 needs none of it.
-- Assumes nothing.
use Rattle.std.specs.Prelude.{◌≡◌, Bool, true, List, [], ◌∷◌, ◌++◌, ℕ, ◌+◌, ◌-◌, ◌*◌, ◌≤◌, ◌<◌, length, take, eqb}
use Rattle.std.proofs.Math.Option.{none, some}
use Rattle.base_lists.specs.Lists.{choose, is, count, without, push_new, Rising}
use Rattle.base_lists.specs.Maps.{keys, Each}
use Rattle.base_timing.specs.declared.Config.{Config}
use Rattle.base_timing.specs.Timing.{max_requests_per_refill, max_bootstrap_peers, max_recent_neighbors, most_active, most_passive, longest_walk, most_shuffle_active, most_shuffle_passive, longest_time}
use Rattle.base_util.specs.Chances.{most_items, sure}
use Rattle.base_peer.specs.Data.{Data}
use Rattle.record.specs.Kinds.{Message, NeighborUp, NeighborDown, kind_byte, output_byte}
use Rattle.record.specs.Format.{Rec, size, encode}
use Rattle.spec_hyparview.specs.Station.{Station, Refill, automatic, requests_left, recovery, max_requests, max_refused, max_peer_data, max_data_length, top_counter, top_passes, peers_end}
use Rattle.spec_hyparview.specs.Run.{Run}

-- The station rules but those on views and joins: what each says of its part of the station

-- at most 16 bytes
unfoldable pub Short : Data → Type 0
Short none = Unit {0}
Short (some b) = length b ≤ max_data_length

-- at most 3 requests
unfoldable pub Small : Refill → Type 0
Small automatic = Unit {0}
Small (requests_left n) = n ≤ max_requests_per_refill
Small recovery = Unit {0}

pub record InOrder (xs : List ℕ) : Type 0 where
  pub rise : Rising xs

-- numbers in rising order of peers, below their counter
pub record Numbered (m : List (ℕ × ℕ)) (next : ℕ) : Type 0 where
  pub rise : Rising (keys m)
  pub below : Each (λ v. v < next) m
  pub next_top : next ≤ top_counter

pub record Requests (m : List (ℕ × ℕ)) (next : ℕ) : Type 0 where
  pub numbered : Numbered m next
  pub few : length m ≤ max_requests

pub record HeldData (me : ℕ) (m : List (ℕ × List ℕ)) : Type 0 where
  pub rise : Rising (keys m)
  pub few : length m ≤ max_peer_data
  pub shorts : Each (λ b. length b ≤ max_data_length) m
  pub not_own : count me (keys m) ≡ 0

pub record Refused (xs : List ℕ) : Type 0 where
  pub rise : Rising xs
  pub few : length xs ≤ max_refused

pub record Recent (xs : List ℕ) : Type 0 where
  pub once : (x : ℕ) → count x xs ≤ 1
  pub few : length xs ≤ max_recent_neighbors

-- in rising order, on active peers only, and fewer than the active view may have: one can always be demoted
pub record Pinned (cap : ℕ) (act pin : List ℕ) : Type 0 where
  pub rise : Rising pin
  pub among : (x : ℕ) → count x pin ≤ count x act
  pub few : length pin ≤ cap - 1

pub record Pace (top int : ℕ) : Type 0 where
  pub low : 1 ≤ int
  pub high : int ≤ top

pub record Passes (n : ℕ) : Type 0 where
  pub high : n ≤ top_passes

-- over the parts that it speaks of, so that a change of another part leaves it as it is
pub record Law (me top : ℕ) (own : Data) (req : List (ℕ × ℕ)) (nreq : ℕ) (joi : List (ℕ × ℕ)) (njoi : ℕ) (dat : List (ℕ × List ℕ)) (ali ref : List ℕ) (fill : Refill) (rec : List ℕ) (int alone short cap : ℕ) (act pin : List ℕ) : Type 0 where
  pub requests_ok : Requests req nreq
  pub joins_ok : Numbered joi njoi
  pub held_ok : HeldData me dat
  pub own_ok : Short own
  pub alive_ok : InOrder ali
  pub refused_ok : Refused ref
  pub fill_ok : Small fill
  pub recent_ok : Recent rec
  pub pace_ok : Pace top int
  pub alone_ok : Passes alone
  pub short_ok : Passes short
  pub pins_ok : Pinned cap act pin

abbrev pub Lawful : Station → Type 0
Lawful s =
    Law s.me s.config.shuffle_interval s.own_data s.requests s.next_request s.joins s.next_join s.peer_data
    s.alive s.refused s.refill s.recent s.next_interval s.passes_alone s.passes_short s.config.active_view_capacity s.active s.pins

-- What the records of a run tell: who is up, and how many messages there are

-- the bytes of records, of which the newest stands first
unfoldable pub spell : List Rec → List ℕ
spell [] = []
spell (e ∷ es) = spell es ++ encode e

-- the peers that are up after the record e
unfoldable pub note : Rec → List ℕ → List ℕ
note e u = choose (eqb e.kind (output_byte NeighborUp)) (push_new e.peer u) (choose (eqb e.kind (output_byte NeighborDown)) (without e.peer u) u)

unfoldable pub up_after : List Rec → List ℕ → List ℕ
up_after [] u = u
up_after (e ∷ es) u = note e (up_after es u)

-- the messages sent, n before the records
unfoldable pub sent_after : List Rec → ℕ → ℕ
sent_after [] n = n
sent_after (e ∷ es) n = choose (eqb e.kind (kind_byte Message)) (sent_after es n + 1) (sent_after es n)

-- a record whose bytes say what it is: its length fits two bytes, and a notice's peer eight
pub record Sound (e : Rec) : Type 0 where
  pub small : size e < 65536
  pub narrow : output_byte NeighborUp ≤ e.kind → e.kind ≤ output_byte NeighborDown → e.peer < peers_end

pub data AllSound : List Rec → Type 0 where
  no_more : AllSound []
  one_more : {e : Rec} {es : List Rec} → Sound e → AllSound es → AllSound (e ∷ es)

-- The invariant

-- what stays as it is during an event: the peers up and the messages sent at its start, those allowed at its end, settings, self,
-- the passes alone and whether they stay (only a maintenance timer changes them), what is lent, and how many draws may be used of those
-- that every choice keeps
pub record Fixed : Type 0 where
  pub up_of : List ℕ
  pub sent_of : ℕ
  pub allowed : ℕ
  pub config_of : Config
  pub self_of : ℕ
  pub alone_of : ℕ
  pub alone_kept : Bool
  pub draws_lent : List ℕ
  pub room_lent : ℕ
  pub most_draws : ℕ

-- what a step in the middle of an event may count on
--   guest    peers that are neither active nor the station, about to become active
--   barred   peers with no join awaiting retry
--   loose    peers in no view: just out of one, or about to become passive; an alive mark may be left
--   inside   peers that are active
--   rooted   bootstrap peers
--   silent   active peers of which no notice is left, while the station quits
--   slots, places   free places in the active and in the passive view
pub record Terms : Type 0 where
  pub guest : List ℕ
  pub barred : List ℕ
  pub loose : List ℕ
  pub inside : List ℕ
  pub rooted : List ℕ
  pub silent : List ℕ
  pub slots : ℕ
  pub places : ℕ

-- terms with these, and nothing else to count on
abbrev pub busy : List ℕ → List ℕ → List ℕ → ℕ → ℕ → Terms
busy g ba lo sl pl = record { guest = g; barred = ba; loose = lo; inside = []; rooted = []; silent = []; slots = sl; places = pl }

-- between events, and in them where nothing is half done
abbrev pub calm : Terms
calm = busy [] [] [] 0 0

-- of the settings in range, those that bounds come from
pub record Ranges (c : Config) : Type 0 where
  pub some_slot : 1 ≤ c.active_view_capacity
  pub few_slots : c.active_view_capacity ≤ most_active
  pub some_place : 1 ≤ c.passive_view_capacity
  pub few_places : c.passive_view_capacity ≤ most_passive
  pub few_active : c.shuffle_active_view_count ≤ most_shuffle_active
  pub few_passive : c.shuffle_passive_view_count ≤ most_shuffle_passive
  pub some_time : 1 ≤ c.shuffle_interval
  pub short_time : c.shuffle_interval ≤ longest_time
  pub short_wait : c.neighbor_request_timeout ≤ longest_time
  pub join_walk : c.active_random_walk_length ≤ longest_walk
  pub shuffle_walk : c.shuffle_random_walk_length ≤ longest_walk

pub record Still (cfg0 : Config) (me0 : ℕ) (kept : Bool) (old : ℕ) (me : ℕ) (cfg : Config) (alone : ℕ) : Type 0 where
  pub fixed : cfg ≡ cfg0
  pub mine : me ≡ me0
  pub ranges : Ranges cfg
  pub alone_stays : kept ≡ true → alone ≡ old

-- the views: without repeats, disjoint and without the station itself, in one line
pub record Seats (guest loose inside : List ℕ) (slots places : ℕ) (me : ℕ) (cfg : Config) (act pas ali : List ℕ) : Type 0 where
  pub one : (x : ℕ) → count x act + count x pas + count x loose + is x me ≤ 1
  pub guests : (x : ℕ) → count x guest + count x act + is x me ≤ 1
  pub within : (x : ℕ) → count x inside ≤ count x act
  pub slots_left : length act + slots ≤ cfg.active_view_capacity
  pub places_left : length pas + places ≤ cfg.passive_view_capacity
  pub marks : (x : ℕ) → count x ali ≤ count x pas + count x loose
  pub narrow : (x : ℕ) → 1 ≤ count x guest + count x act → x < peers_end

-- the joins awaiting retry
pub record Waits (barred rooted : List ℕ) (me : ℕ) (act jks boo : List ℕ) : Type 0 where
  pub barring : (x : ℕ) → count x barred + count x jks ≤ 1
  pub apart : (x : ℕ) → count x jks + count x act + is x me ≤ 1
  pub known : (x : ℕ) → count x jks ≤ count x boo
  pub boots : (x : ℕ) → count x boo ≤ 1
  pub few : length boo ≤ max_bootstrap_peers
  pub rooting : (x : ℕ) → count x rooted ≤ count x boo

-- who is up by the notices, and m messages that may still be sent
pub record Account (silent : List ℕ) (m : ℕ) (act up : List ℕ) (sent allowed : ℕ) : Type 0 where
  pub noted : (x : ℕ) → count x up + count x silent ≡ count x act
  pub bound : sent + 2 * length act + m ≤ allowed

pub record Core (cfg0 : Config) (me0 : ℕ) (kept : Bool) (old : ℕ) (t : Terms) (m : ℕ) (me : ℕ) (cfg : Config) (alone : ℕ) (act pas ali jks boo up : List ℕ) (sent allowed : ℕ) : Type 0 where
  pub still : Still cfg0 me0 kept old me cfg alone
  pub seats : Seats t.guest t.loose t.inside t.slots t.places me cfg act pas ali
  pub waits : Waits t.barred t.rooted me act jks boo
  pub tally : Account t.silent m act up sent allowed

abbrev pub Good : Fixed → Terms → ℕ → Station → List Rec → Type 0
Good q t m s o =
    Core q.config_of q.self_of q.alone_kept q.alone_of t m s.me s.config s.passes_alone s.active s.passive s.alive (keys s.joins) s.bootstrap
    (up_after o q.up_of) (sent_after o q.sent_of) q.allowed

-- of the draws used, how many are kept by every choice: those passed over, which count as used, are never among them
abbrev pub spent : Run → ℕ
spent r = sure (take r.used r.draws)

-- the bytes written are those of some records, which the rest speaks of; b bytes are left of 8,192, and d of such draws
pub record Told (q : Fixed) (t : Terms) (m b d : ℕ) (s : Station) (out : List ℕ) (drawn : ℕ) : Type 0 where
  pub told : List Rec
  pub spelled : out ≡ spell told
  pub sound : AllSound told
  pub core : Good q t m s told
  pub law : Lawful s
  pub bytes_left : length out + b ≤ 8192
  pub draws_left : drawn + d ≤ q.most_draws

-- the lists that choices are made from are short
pub record Roomy (s : Station) : Type 0 where
  pub active_few : length s.active ≤ most_items
  pub passive_few : length s.passive ≤ most_items
  pub recent_few : length s.recent ≤ most_items

-- no more draws are used than are lent; and what a code says: 5 and 9 are met only where less is lent than always suffices
pub record Codes (q : Fixed) (r : Run) : Type 0 where
  pub lent : r.draws ≡ q.draws_lent
  pub within : r.used ≤ length q.draws_lent
  pub space : r.room ≡ q.room_lent
  pub five : r.code ≡ 5 → sure q.draws_lent < q.most_draws
  pub roomy : r.code ≡ 5 → Roomy r.station
  pub nine : r.code ≡ 9 → q.room_lent < 8192
  pub low : 1 ≤ r.code → 5 ≤ r.code

-- the invariant: of a refused run only what its code says
pub record Ok (q : Fixed) (t : Terms) (m b d : ℕ) (r : Run) : Type 0 where
  pub good : r.code ≡ 0 → Told q t m b d r.station r.out (spent r)
  pub codes : Codes q r
