-- Both directions of S-11: nothing outside the two ends, and every whole millisecond between them.
-- Assumes nothing.
use mathlib.Core.Path.{◌≡◌, sym, ap, subst, ◌∙◌}
use mathlib.Core.Bool.{true, ◌&&◌}
use mathlib.Core.List.{List, [], ◌∷◌}
use Prim.Native.Nat.{ℕ, suc, ◌-◌, ◌≤◌}
use native.Mathlib.Omega.{arith}
use lib.ListN.{length, get_or, take, replicate, length-take}
use lib.Seq.{take_all}
use Rattle.base_lists.proofs.Choice.{and_left, and_right, choose_yes}
use Rattle.base_timing.specs.Timing.{in_range}
use Rattle.base_timing.specs.declared.Config.{Config}
use Rattle.base_peer.specs.Data.{Data}
use Rattle.spec_hyparview.specs.Station.{Station, draws_end}
use Rattle.spec_hyparview.specs.Rules.{all_under, short_data}
use Rattle.spec_hyparview.specs.Handle.{Made, new, new_station}
use Rattle.spec_history.specs.Calls.{NewGiven, definition}
use Rattle.spec_history.proofs.Kept.{kept_new, accepted_new}
use Rattle.shuffle_times.specs.Times.{lowest_draw, highest_draw, most_shuffles, first_interval, dues, due, due_by, has_times, shuffle_times}
use Rattle.shuffle_times.specs.declared.ShuffleTimes.{ShuffleTimes}
use Rattle.shuffle_times.specs.Histories.{Brought, on_time, shuffles_due, start_of}
use Rattle.shuffle_times.specs.Claims.{Within, Reached, Timed, ShufflesTimed, ZeroIsEmpty}
use Rattle.shuffle_times.proofs.Delays.{first_ok, length_dues, dues_at, under_take, due_between, found, due_grows}
use Rattle.shuffle_times.proofs.Asked.{asked, times_are}
use Rattle.shuffle_times.proofs.Tied.{due_times_tied}
use Rattle.shuffle_times.proofs.Witness.{history}

-- both ends, with the definitions open
module _ (earliest latest k : ℕ) (c : Config) (e : has_times earliest latest c k ≡ true) where
  abbrev top : ℕ
  top = c.shuffle_interval

  earliest_is : (shuffle_times earliest latest c k).earliest ≡ due top (first_interval top) earliest (replicate k lowest_draw)
  unfolding due_by
  earliest_is = ap (λ (r : ShuffleTimes). r.earliest) (times_are earliest latest c k e)

  latest_is : (shuffle_times earliest latest c k).latest ≡ due top (first_interval top) latest (replicate k highest_draw)
  unfolding due_by
  latest_is = ap (λ (r : ShuffleTimes). r.latest) (times_are earliest latest c k e)

-- the k-th due time of k draws or more
kth : (top i t k : ℕ) (ds xs : List ℕ) → xs ≡ dues top i t ds → 1 ≤ k → k ≤ length xs → get_or xs (k - 1) 0 ≡ due top i t (take k ds)
kth top i t k ds xs e some many =
    let l : length xs ≡ length ds = ap length e ∙ length_dues top i t ds in
    let q : suc (k - 1) ≡ k = omega arith in
    ap (λ (l : List ℕ). get_or l (k - 1) 0) e ∙ (dues_at top i t ds (k - 1) (omega arith) ∙ ap (λ (n : ℕ). due top i t (take n ds)) q)

module _ (me : ℕ) (d : Data) (c : Config) (given : NewGiven me d) (ranges : in_range c ≡ true) (short : short_data d ≡ true) where
  abbrev station : Station
  station = new_station me d c

  abbrev setting : ℕ
  setting = c.shuffle_interval

  -- no shuffle is due outside
  nothing_outside :
      (vs : List Brought) → on_time definition vs station [] ≡ true → (earliest latest k : ℕ) → has_times earliest latest c k ≡ true
      → earliest ≤ start_of definition vs station → start_of definition vs station ≤ latest → k ≤ length (shuffles_due definition vs station) → Within definition earliest latest k c station vs
  nothing_outside vs o earliest latest k e from to many =
      let start = start_of definition vs station in
      let a = asked earliest latest c k e in
      let w = due_times_tied me d c given ranges short vs o in
      let ds = take k w.draws in
      let l : length ds ≡ k = omega (arith, length-take k w.draws, ap length w.same, length_dues setting (first_interval setting) start w.draws) in
      let b = due_between setting (first_interval setting) earliest start latest ds a.top (first_ok setting a.top) (under_take k w.draws w.are_draws) from to in
      let q = kth setting (first_interval setting) start k w.draws (shuffles_due definition vs station) w.same a.some many in
      let p = subst (λ (n : ℕ). due setting (first_interval setting) earliest (replicate n lowest_draw) ≤ due setting (first_interval setting) start ds) l b.not_before in
      let r = subst (λ (n : ℕ). due setting (first_interval setting) start ds ≤ due setting (first_interval setting) latest (replicate n highest_draw)) l b.not_after in
      record { not_before = omega (arith, p, q, earliest_is earliest latest k c e); not_after = omega (arith, r, q, latest_is earliest latest k c e) }

  -- from a start and draws to a history
  reached_by : (earliest latest k t : ℕ) → 1 ≤ k → k ≤ most_shuffles → (start : ℕ) (ds : List ℕ) → earliest ≤ start → start ≤ latest → all_under draws_end ds ≡ true → length ds ≡ k → due setting (first_interval setting) start ds ≡ t → Reached definition earliest latest k t station
  reached_by earliest latest k t some most start [] from to u l e = absurd (omega arith)
  reached_by earliest latest k t some most start (x ∷ ds) from to u l e =
      let w = history me d c ranges (kept_new me d c given ranges short) start x ds u (omega arith) in
      let many : length (shuffles_due definition w.calls station) ≡ k = ap length w.same ∙ (length_dues setting (first_interval setting) start (x ∷ ds) ∙ l) in
      let all : take k (x ∷ ds) ≡ x ∷ ds = take_all k (x ∷ ds) (omega arith) in
      record {
        calls = w.calls;
        fire = w.fire;
        alone = w.alone;
        ordered = w.ordered;
        not_early = omega (arith, w.starts);
        not_late = omega (arith, w.starts);
        enough = omega (arith, many);
        due_then = kth setting (first_interval setting) start k (x ∷ ds) _ w.same some (omega (arith, many)) ∙ (ap (due setting (first_interval setting) start) all ∙ e);
      }

  -- every whole millisecond between is reached
  every_one_reached :
      (earliest latest k : ℕ) → has_times earliest latest c k ≡ true
      → (t : ℕ) → (shuffle_times earliest latest c k).earliest ≤ t → t ≤ (shuffle_times earliest latest c k).latest → Reached definition earliest latest k t station
  every_one_reached earliest latest k e t l m =
      let a = asked earliest latest c k e in
      let f = found k setting (first_interval setting) earliest latest t a.top (first_ok setting a.top) a.ordered (omega (arith, earliest_is earliest latest k c e)) (omega (arith, latest_is earliest latest k c e)) in
      reached_by earliest latest k t a.some a.few f.start f.draws f.from f.to f.are_draws f.many f.is

  timed : Timed definition c station
  timed = record { due_times_tied = due_times_tied me d c given ranges short; nothing_outside = nothing_outside; every_one_reached = every_one_reached }

-- S-11, of the definition of the station.
pub shuffles_timed : ShufflesTimed
unfolding new
shuffles_timed me d c given z =
    let t = accepted_new me d c z in
    let e : (new me d c).state ≡ new_station me d c = ap (λ (w : Made). w.state) (choose_yes (in_range c && short_data d) _ _ t) in
    subst (Timed definition c) (sym e) (timed me d c given (and_left (in_range c) (short_data d) t) (and_right (in_range c) (short_data d) t))

-- Both ends 0 say that there is no such time.
pub zero_is_empty : ZeroIsEmpty
zero_is_empty earliest latest c k e =
    let a = asked earliest latest c k e in
    let top = c.shuffle_interval in
    omega (arith, latest_is earliest latest k c e, due_grows k top (first_interval top) latest a.top (first_ok top a.top))
