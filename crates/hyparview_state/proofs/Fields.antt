-- The words with one number or one section stored anew stand for the station with that field changed: one law for each. Written by tools/make/layout.py.
-- Assumes nothing.
use Prim.Native.Nat.{ℕ, ◌≤◌}
use mathlib.Core.Path.{◌≡◌}
use mathlib.Core.Bool.{Bool, true, cond}
use mathlib.Core.List.{List}
use native.Mathlib.Omega.{arith}
use lib.Dec.{eqb}
use lib.ListN.{length, set}
use borrow.Rule.Slice.PartMut.{put_mid}
use Rattle.base_util.specs.Section.{HoldsSet}
use Rattle.base_columns.specs.Columns.{HoldsNumbers, word_bytes, HoldsDataWords}
use Rattle.base_peer.specs.Data.{Data}
use Rattle.base_peer.specs.Held.{HoldsData}
use Rattle.base_timing.specs.Timing.{longest_time}
use Rattle.base_words.specs.Parts.{begin}
use Rattle.spec_hyparview.specs.Station.{Station, top_passes}
use Rattle.spec_hyparview.specs.Setters as setters
use Rattle.hyparview_state.specs.declared.RefillLimit.{RefillLimit}
use Rattle.hyparview_state.specs.Layout as layout
use Rattle.hyparview_state.specs.Unpack.{unpack, station_of, own_at, limit_at, settings_at, limit_formed, refill_in, opened, long, Becomes}
use Rattle.hyparview_state.proofs.Memory.{bit_fits, bool_back, two_limit}
use Rattle.hyparview_state.proofs.Cuts.{slots, cut_self, cut_set, cut_put, becomes}

pub put_scheduled : {xs : List ℕ} {g : Station} (v : Bool) → Becomes xs g → Becomes (set xs layout.timers_scheduled_at (cond v 1 0)) (setters.set_scheduled v g)
unfolding unpack station_of own_at limit_at settings_at slots
put_scheduled {xs} {g} v b = let old = opened b.packed in
    becomes (cut_set layout.timers_scheduled_at (cond v 1 0) (omega arith) (cut_self xs (long b.packed))) (record { present = old.present; timers = bit_fits v; limit = old.limit; alone = old.alone; short = old.short; own_data = old.own_data; settings = old.settings; short_interval = old.short_interval; sections = old.sections; active_fits = old.active_fits; passive_fits = old.passive_fits }) (λ i. setters.set_scheduled (bool_back v i) (b.same i))

pub put_next_interval : {xs : List ℕ} {g : Station} (v : ℕ) → v ≤ longest_time → Becomes xs g → Becomes (set xs layout.next_shuffle_interval_at v) (setters.set_next_interval v g)
unfolding unpack station_of own_at limit_at settings_at slots
put_next_interval {xs} {g} v h b = let old = opened b.packed in
    becomes (cut_set layout.next_shuffle_interval_at v (omega arith) (cut_self xs (long b.packed))) (record { present = old.present; timers = old.timers; limit = old.limit; alone = old.alone; short = old.short; own_data = old.own_data; settings = old.settings; short_interval = h; sections = old.sections; active_fits = old.active_fits; passive_fits = old.passive_fits }) (λ i. setters.set_next_interval (v) (b.same i))

pub put_passes_alone : {xs : List ℕ} {g : Station} (v : ℕ) → v ≤ top_passes → Becomes xs g → Becomes (set xs layout.passes_alone_at v) (setters.set_passes_alone v g)
unfolding unpack station_of own_at limit_at settings_at slots
put_passes_alone {xs} {g} v h b = let old = opened b.packed in
    becomes (cut_set layout.passes_alone_at v (omega arith) (cut_self xs (long b.packed))) (record { present = old.present; timers = old.timers; limit = old.limit; alone = h; short = old.short; own_data = old.own_data; settings = old.settings; short_interval = old.short_interval; sections = old.sections; active_fits = old.active_fits; passive_fits = old.passive_fits }) (λ i. setters.set_passes_alone (v) (b.same i))

pub put_passes_short : {xs : List ℕ} {g : Station} (v : ℕ) → v ≤ top_passes → Becomes xs g → Becomes (set xs layout.passes_short_at v) (setters.set_passes_short v g)
unfolding unpack station_of own_at limit_at settings_at slots
put_passes_short {xs} {g} v h b = let old = opened b.packed in
    becomes (cut_set layout.passes_short_at v (omega arith) (cut_self xs (long b.packed))) (record { present = old.present; timers = old.timers; limit = old.limit; alone = old.alone; short = h; own_data = old.own_data; settings = old.settings; short_interval = old.short_interval; sections = old.sections; active_fits = old.active_fits; passive_fits = old.passive_fits }) (λ i. setters.set_passes_short (v) (b.same i))

pub put_next_request : {xs : List ℕ} {g : Station} (v : ℕ) → Becomes xs g → Becomes (set xs layout.next_neighbor_request_at v) (setters.set_next_request v g)
unfolding unpack station_of own_at limit_at settings_at slots
put_next_request {xs} {g} v b = let old = opened b.packed in
    becomes (cut_set layout.next_neighbor_request_at v (omega arith) (cut_self xs (long b.packed))) (record { present = old.present; timers = old.timers; limit = old.limit; alone = old.alone; short = old.short; own_data = old.own_data; settings = old.settings; short_interval = old.short_interval; sections = old.sections; active_fits = old.active_fits; passive_fits = old.passive_fits }) (λ i. setters.set_next_request (v) (b.same i))

pub put_next_join : {xs : List ℕ} {g : Station} (v : ℕ) → Becomes xs g → Becomes (set xs layout.next_join_at v) (setters.set_next_join v g)
unfolding unpack station_of own_at limit_at settings_at slots
put_next_join {xs} {g} v b = let old = opened b.packed in
    becomes (cut_set layout.next_join_at v (omega arith) (cut_self xs (long b.packed))) (record { present = old.present; timers = old.timers; limit = old.limit; alone = old.alone; short = old.short; own_data = old.own_data; settings = old.settings; short_interval = old.short_interval; sections = old.sections; active_fits = old.active_fits; passive_fits = old.passive_fits }) (λ i. setters.set_next_join (v) (b.same i))

pub put_own_data : {xs : List ℕ} {g : Station} {x : Data} (p n low high : ℕ) → p ≤ 1 → HoldsData (record { present = eqb p 1; len = n; bytes = word_bytes low high }) x → Becomes xs g → Becomes (set (set (set (set xs layout.own_present_at p) layout.own_len_at n) layout.own_low_at low) layout.own_high_at high) (setters.set_own_data x g)
unfolding unpack station_of own_at limit_at settings_at slots
put_own_data {xs} {g} {x} p n low high k h b = let old = opened b.packed in
    becomes (cut_set layout.own_high_at high (omega arith) (cut_set layout.own_low_at low (omega arith) (cut_set layout.own_len_at n (omega arith) (cut_set layout.own_present_at p (omega arith) (cut_self xs (long b.packed)))))) (record { present = k; timers = old.timers; limit = old.limit; alone = old.alone; short = old.short; own_data = h.valid; settings = old.settings; short_interval = old.short_interval; sections = old.sections; active_fits = old.active_fits; passive_fits = old.passive_fits }) (λ i. setters.set_own_data (h.holds i) (b.same i))

pub put_refill : {xs : List ℕ} {g : Station} (k n : ℕ) (v : RefillLimit) → limit_formed k n ≡ true → two_limit k n ≡ v → Becomes xs g → Becomes (set (set xs layout.refill_kind_at k) layout.refill_requests_at n) (setters.set_refill (refill_in v) g)
unfolding unpack station_of own_at limit_at settings_at slots
put_refill {xs} {g} k n v f e b = let old = opened b.packed in
    becomes (cut_set layout.refill_requests_at n (omega arith) (cut_set layout.refill_kind_at k (omega arith) (cut_self xs (long b.packed)))) (record { present = old.present; timers = old.timers; limit = f; alone = old.alone; short = old.short; own_data = old.own_data; settings = old.settings; short_interval = old.short_interval; sections = old.sections; active_fits = old.active_fits; passive_fits = old.passive_fits }) (λ i. setters.set_refill (refill_in (e i)) (b.same i))

pub put_active : {xs ys : List ℕ} {g : Station} {x : List ℕ} → HoldsSet layout.active_places ys x → length x ≤ layout.active_view_capacity xs → Becomes xs g → Becomes (put_mid layout.active_at layout.active_size xs ys) (setters.set_active x g)
unfolding unpack station_of own_at limit_at settings_at slots begin
put_active {xs} {ys} {g} {x} h l b = let old = opened b.packed in
    becomes (cut_put 0 ys (omega arith) h.valid.long (cut_self xs (long b.packed))) (record { present = old.present; timers = old.timers; limit = old.limit; alone = old.alone; short = old.short; own_data = old.own_data; settings = old.settings; short_interval = old.short_interval; sections = record { active = h.valid; passive = old.sections.passive; alive = old.sections.alive; refused = old.sections.refused; requests = old.sections.requests; bootstrap = old.sections.bootstrap; recent = old.sections.recent; joins = old.sections.joins; peer_data = old.sections.peer_data; pins = old.sections.pins }; active_fits = rw h.items l; passive_fits = old.passive_fits }) (λ i. setters.set_active (h.items i) (b.same i))

pub put_passive : {xs ys : List ℕ} {g : Station} {x : List ℕ} → HoldsSet layout.passive_places ys x → length x ≤ layout.passive_view_capacity xs → Becomes xs g → Becomes (put_mid layout.passive_at layout.passive_size xs ys) (setters.set_passive x g)
unfolding unpack station_of own_at limit_at settings_at slots begin
put_passive {xs} {ys} {g} {x} h l b = let old = opened b.packed in
    becomes (cut_put 1 ys (omega arith) h.valid.long (cut_self xs (long b.packed))) (record { present = old.present; timers = old.timers; limit = old.limit; alone = old.alone; short = old.short; own_data = old.own_data; settings = old.settings; short_interval = old.short_interval; sections = record { active = old.sections.active; passive = h.valid; alive = old.sections.alive; refused = old.sections.refused; requests = old.sections.requests; bootstrap = old.sections.bootstrap; recent = old.sections.recent; joins = old.sections.joins; peer_data = old.sections.peer_data; pins = old.sections.pins }; active_fits = old.active_fits; passive_fits = rw h.items l }) (λ i. setters.set_passive (h.items i) (b.same i))

pub put_alive : {xs ys : List ℕ} {g : Station} {x : List ℕ} → HoldsSet layout.alive_places ys x → Becomes xs g → Becomes (put_mid layout.alive_at layout.alive_size xs ys) (setters.set_alive x g)
unfolding unpack station_of own_at limit_at settings_at slots begin
put_alive {xs} {ys} {g} {x} h b = let old = opened b.packed in
    becomes (cut_put 2 ys (omega arith) h.valid.long (cut_self xs (long b.packed))) (record { present = old.present; timers = old.timers; limit = old.limit; alone = old.alone; short = old.short; own_data = old.own_data; settings = old.settings; short_interval = old.short_interval; sections = record { active = old.sections.active; passive = old.sections.passive; alive = h.valid; refused = old.sections.refused; requests = old.sections.requests; bootstrap = old.sections.bootstrap; recent = old.sections.recent; joins = old.sections.joins; peer_data = old.sections.peer_data; pins = old.sections.pins }; active_fits = old.active_fits; passive_fits = old.passive_fits }) (λ i. setters.set_alive (h.items i) (b.same i))

pub put_refused : {xs ys : List ℕ} {g : Station} {x : List ℕ} → HoldsSet layout.refused_places ys x → Becomes xs g → Becomes (put_mid layout.refused_at layout.refused_size xs ys) (setters.set_refused x g)
unfolding unpack station_of own_at limit_at settings_at slots begin
put_refused {xs} {ys} {g} {x} h b = let old = opened b.packed in
    becomes (cut_put 3 ys (omega arith) h.valid.long (cut_self xs (long b.packed))) (record { present = old.present; timers = old.timers; limit = old.limit; alone = old.alone; short = old.short; own_data = old.own_data; settings = old.settings; short_interval = old.short_interval; sections = record { active = old.sections.active; passive = old.sections.passive; alive = old.sections.alive; refused = h.valid; requests = old.sections.requests; bootstrap = old.sections.bootstrap; recent = old.sections.recent; joins = old.sections.joins; peer_data = old.sections.peer_data; pins = old.sections.pins }; active_fits = old.active_fits; passive_fits = old.passive_fits }) (λ i. setters.set_refused (h.items i) (b.same i))

pub put_requests : {xs ys : List ℕ} {g : Station} {x : List (ℕ × ℕ)} → HoldsNumbers layout.requests_places ys x → Becomes xs g → Becomes (put_mid layout.requests_at layout.requests_size xs ys) (setters.set_requests x g)
unfolding unpack station_of own_at limit_at settings_at slots begin
put_requests {xs} {ys} {g} {x} h b = let old = opened b.packed in
    becomes (cut_put 4 ys (omega arith) h.valid.long (cut_self xs (long b.packed))) (record { present = old.present; timers = old.timers; limit = old.limit; alone = old.alone; short = old.short; own_data = old.own_data; settings = old.settings; short_interval = old.short_interval; sections = record { active = old.sections.active; passive = old.sections.passive; alive = old.sections.alive; refused = old.sections.refused; requests = h.valid; bootstrap = old.sections.bootstrap; recent = old.sections.recent; joins = old.sections.joins; peer_data = old.sections.peer_data; pins = old.sections.pins }; active_fits = old.active_fits; passive_fits = old.passive_fits }) (λ i. setters.set_requests (h.items i) (b.same i))

pub put_bootstrap : {xs ys : List ℕ} {g : Station} {x : List ℕ} → HoldsSet layout.bootstrap_places ys x → Becomes xs g → Becomes (put_mid layout.bootstrap_at layout.bootstrap_size xs ys) (setters.set_bootstrap x g)
unfolding unpack station_of own_at limit_at settings_at slots begin
put_bootstrap {xs} {ys} {g} {x} h b = let old = opened b.packed in
    becomes (cut_put 5 ys (omega arith) h.valid.long (cut_self xs (long b.packed))) (record { present = old.present; timers = old.timers; limit = old.limit; alone = old.alone; short = old.short; own_data = old.own_data; settings = old.settings; short_interval = old.short_interval; sections = record { active = old.sections.active; passive = old.sections.passive; alive = old.sections.alive; refused = old.sections.refused; requests = old.sections.requests; bootstrap = h.valid; recent = old.sections.recent; joins = old.sections.joins; peer_data = old.sections.peer_data; pins = old.sections.pins }; active_fits = old.active_fits; passive_fits = old.passive_fits }) (λ i. setters.set_bootstrap (h.items i) (b.same i))

pub put_recent : {xs ys : List ℕ} {g : Station} {x : List ℕ} → HoldsSet layout.recent_places ys x → Becomes xs g → Becomes (put_mid layout.recent_at layout.recent_size xs ys) (setters.set_recent x g)
unfolding unpack station_of own_at limit_at settings_at slots begin
put_recent {xs} {ys} {g} {x} h b = let old = opened b.packed in
    becomes (cut_put 6 ys (omega arith) h.valid.long (cut_self xs (long b.packed))) (record { present = old.present; timers = old.timers; limit = old.limit; alone = old.alone; short = old.short; own_data = old.own_data; settings = old.settings; short_interval = old.short_interval; sections = record { active = old.sections.active; passive = old.sections.passive; alive = old.sections.alive; refused = old.sections.refused; requests = old.sections.requests; bootstrap = old.sections.bootstrap; recent = h.valid; joins = old.sections.joins; peer_data = old.sections.peer_data; pins = old.sections.pins }; active_fits = old.active_fits; passive_fits = old.passive_fits }) (λ i. setters.set_recent (h.items i) (b.same i))

pub put_joins : {xs ys : List ℕ} {g : Station} {x : List (ℕ × ℕ)} → HoldsNumbers layout.joins_places ys x → Becomes xs g → Becomes (put_mid layout.joins_at layout.joins_size xs ys) (setters.set_joins x g)
unfolding unpack station_of own_at limit_at settings_at slots begin
put_joins {xs} {ys} {g} {x} h b = let old = opened b.packed in
    becomes (cut_put 7 ys (omega arith) h.valid.long (cut_self xs (long b.packed))) (record { present = old.present; timers = old.timers; limit = old.limit; alone = old.alone; short = old.short; own_data = old.own_data; settings = old.settings; short_interval = old.short_interval; sections = record { active = old.sections.active; passive = old.sections.passive; alive = old.sections.alive; refused = old.sections.refused; requests = old.sections.requests; bootstrap = old.sections.bootstrap; recent = old.sections.recent; joins = h.valid; peer_data = old.sections.peer_data; pins = old.sections.pins }; active_fits = old.active_fits; passive_fits = old.passive_fits }) (λ i. setters.set_joins (h.items i) (b.same i))

pub put_peer_data : {xs ys : List ℕ} {g : Station} {x : List (ℕ × List ℕ)} → HoldsDataWords layout.peer_data_places ys x → Becomes xs g → Becomes (put_mid layout.peer_data_at layout.peer_data_size xs ys) (setters.set_peer_data x g)
unfolding unpack station_of own_at limit_at settings_at slots begin
put_peer_data {xs} {ys} {g} {x} h b = let old = opened b.packed in
    becomes (cut_put 8 ys (omega arith) h.valid.long (cut_self xs (long b.packed))) (record { present = old.present; timers = old.timers; limit = old.limit; alone = old.alone; short = old.short; own_data = old.own_data; settings = old.settings; short_interval = old.short_interval; sections = record { active = old.sections.active; passive = old.sections.passive; alive = old.sections.alive; refused = old.sections.refused; requests = old.sections.requests; bootstrap = old.sections.bootstrap; recent = old.sections.recent; joins = old.sections.joins; peer_data = h.valid; pins = old.sections.pins }; active_fits = old.active_fits; passive_fits = old.passive_fits }) (λ i. setters.set_peer_data (h.items i) (b.same i))

pub put_pins : {xs ys : List ℕ} {g : Station} {x : List ℕ} → HoldsSet layout.pins_places ys x → Becomes xs g → Becomes (put_mid layout.pins_at layout.pins_size xs ys) (setters.set_pins x g)
unfolding unpack station_of own_at limit_at settings_at slots begin
put_pins {xs} {ys} {g} {x} h b = let old = opened b.packed in
    becomes (cut_put 9 ys (omega arith) h.valid.long (cut_self xs (long b.packed))) (record { present = old.present; timers = old.timers; limit = old.limit; alone = old.alone; short = old.short; own_data = old.own_data; settings = old.settings; short_interval = old.short_interval; sections = record { active = old.sections.active; passive = old.sections.passive; alive = old.sections.alive; refused = old.sections.refused; requests = old.sections.requests; bootstrap = old.sections.bootstrap; recent = old.sections.recent; joins = old.sections.joins; peer_data = old.sections.peer_data; pins = h.valid }; active_fits = old.active_fits; passive_fits = old.passive_fits }) (λ i. setters.set_pins (h.items i) (b.same i))
