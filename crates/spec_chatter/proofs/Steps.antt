-- Every step, by what it writes: plain records, or requests as the book keeps them.
-- Assumes nothing.
use mathlib.Core.Path.{◌≡◌, refl, sym, ap, subst, ◌∙◌}
use mathlib.Core.Bool.{Bool, true, false}
use mathlib.Core.List.{List, [], ◌∷◌}
use mathlib.Core.Option.{Option, none, some}
use Prim.Native.Nat.{ℕ, ◌≤◌, ◌<◌}
use native.Mathlib.Omega.{arith}
use lib.Dec.{eqb}
use borrow.Author.Tests.{eqb-true, eqb-false}
use Rattle.base_lists.specs.Lists.{choose, is}
use Rattle.base_lists.specs.Maps.{keys, lookup, cut}
use Rattle.base_lists.proofs.Choice.{by_choice, choose_yes, choose_no, clash}
use Rattle.base_lists.proofs.Maps.{keys_cut}
use Rattle.base_peer.specs.Data.{Data, Node}
use Rattle.record.specs.Kinds.{EventKind, Message, DoShuffle, DoMaintenance, PendingNeighborRequest, RetryJoin, PeerDisconnected, RequestJoin, UpdatePeerData, Quit, Pin, kind_byte, is_found, is_event_kind}
use Rattle.record.specs.Format.{Rec}
use Rattle.record.proofs.ByKind.{by_kind}
use Rattle.spec_hyparview.specs.Station.{Station, Refill, peers_end}
use Rattle.spec_hyparview.specs.Run as R
use Rattle.spec_hyparview.specs.Run.{Run, on}
use Rattle.spec_hyparview.specs.Peers as P
use Rattle.spec_hyparview.specs.Sending as S
use Rattle.spec_hyparview.specs.Refill as F
use Rattle.spec_hyparview.specs.Active as A
use Rattle.spec_hyparview.specs.Messages as M
use Rattle.spec_hyparview.specs.Events as E
use Rattle.spec_hyparview.specs.Timers as T
use Rattle.spec_hyparview.specs.Handle as H
use Rattle.spec_hyparview.proofs.Keeping.{seven, eight, ten, seventeen, eighteen}
use Rattle.spec_chatter.specs.Open.{is_answer, is_open, closes}
use Rattle.spec_chatter.proofs.Book.{Book, empty_book, shut, note_event}
use Rattle.spec_chatter.proofs.Lists.{look_cut}
use Rattle.spec_chatter.proofs.Moves.{Quiet, same, then, either, emits, draws, chooses, Fewer, drops, changes, requires, emits_all, sent_all, may_all, book_of, nothing, Moves, quietly, after, before, or_else, opening, taken, send_neighbor, await_join, shuffle_tick, paced, maintenance_tick}

-- ---- plain steps

-- what is held of other peers
insert_peer_info : (p : ℕ) (d : Data) (r : Run) → Quiet r (P.insert_peer_info p d r)
unfolding P.insert_peer_info P.insert_data P.keep_data P.announce_data P.store_data
insert_peer_info p none r = same r
insert_peer_info p (some b) r =
    either _ (same r) (then (either _ (same r) (emits _ refl r)) (then (requires eight _ _) (changes _ (λ s. refl) _)))

forget_peer : (p : ℕ) (r : Run) → Quiet r (P.forget_peer p r)
unfolding P.forget_peer P.drop_traces P.drop_mark P.drop_data
forget_peer p r = either _ (same r) (changes _ (λ s. refl) r)

tell_evicted : (x : Option ℕ) (r : Run) → Quiet r (P.tell_evicted x r)
unfolding P.tell_evicted
tell_evicted none r = same r
tell_evicted (some p) r = emits _ refl r

make_room : (r : Run) → Quiet r (P.make_room r)
unfolding P.make_room P.evict P.evict_at P.shift_passive
make_room r =
    then (either _ (then (chooses _ r) (then (changes _ (λ s. refl) _) (forget_peer _ _))) (same r)) (tell_evicted (P.evicted r) _)

enter_passive : (p : ℕ) (r : Run) → Quiet r (P.enter_passive p r)
unfolding P.enter_passive P.push_passive
enter_passive p r = either _ (then (make_room r) (changes _ (λ s. refl) _)) (same r)

add_passive : (p : ℕ) (d : Data) (r : Run) → Quiet r (P.add_passive p d r)
unfolding P.add_passive
add_passive p d r = then (insert_peer_info p d r) (enter_passive p _)

add_nodes : (ns : List Node) (r : Run) → Quiet r (P.add_nodes ns r)
unfolding P.add_nodes
add_nodes [] r = same r
add_nodes (n ∷ ns) r = then (add_passive n.id n.data_of r) (add_nodes ns _)

drop_passive : (p : ℕ) (r : Run) → Quiet r (P.drop_passive p r)
unfolding P.drop_passive P.remove_passive
drop_passive p r = then (changes _ (λ s. refl) r) (forget_peer p _)

-- what is sent
join : (p : ℕ) (r : Run) → Quiet r (S.join p r)
unfolding S.join S.join_to
join p r = emits _ refl r

send_shuffle_reply : (to len : ℕ) (r : Run) → Quiet r (S.send_shuffle_reply to len r)
unfolding S.send_shuffle_reply S.reply_with S.send_filled S.send_nodes R.draw_shuffle
send_shuffle_reply to len r = then (draws _ r) (either _ (then (draws _ _) (emits _ refl _)) (emits _ refl _))

send_disconnect : (p : ℕ) (alive : Bool) (r : Run) → Quiet r (S.send_disconnect p alive r)
unfolding S.send_disconnect
send_disconnect p alive r = then (send_shuffle_reply _ _ r) (emits _ refl _)

-- the active view
demote : (p : ℕ) (r : Run) → Quiet r (A.demote p r)
unfolding A.demote P.drop_data
demote p r = then (changes _ (λ s. refl) r) (add_passive p _ _)

demote_alive : (p : ℕ) (r : Run) → Quiet r (A.demote_alive p r)
unfolding A.demote_alive A.mark_alive
demote_alive p r = then (demote p r) (changes _ (λ s. refl) _)

settle : (why : A.Reason) (p : ℕ) (r : Run) → Quiet r (A.settle why p r)
unfolding A.settle A.settle_closed P.drop_mark
settle A.connection_closed p r = either _ (then (changes _ (λ s. refl) r) (demote p _)) (forget_peer p r)
settle (A.disconnect_received true) p r = demote_alive p r
settle (A.disconnect_received false) p r = forget_peer p r
settle A.random p r = then (send_disconnect p true r) (demote_alive p _)

remove_at : (i : ℕ) (why : A.Reason) (r : Run) → Quiet r (A.remove_active_by_index i why r)
unfolding A.remove_active_by_index A.drop_active A.swap_active
remove_at i why r = then (changes _ (λ s. refl) r) (then (emits _ refl _) (settle why _ _))

free_slot : (r : Run) → Quiet r (A.free_random_slot_in_active_view r)
unfolding A.free_random_slot_in_active_view A.remove_picked
free_slot r = either _ (same r) (then (chooses _ r) (remove_at _ _ _))

enter_active : (p : ℕ) (r : Run) → Quiet r (A.enter_active p r)
unfolding A.enter_active A.move_in A.remember_neighbor A.push_active P.drop_mark P.remove_passive A.gain_neighbor
enter_active p r = then (changes _ (λ s. refl) r) (then (emits _ refl _) (changes _ (λ s. refl) _))

-- the rest
on_shuffle : (from origin : ℕ) (ns : List Node) (ttl : ℕ) (r : Run) → Quiet r (M.on_shuffle from origin ns ttl r)
unfolding M.on_shuffle M.answer_shuffle M.forward_shuffle
on_shuffle from origin ns ttl r =
    either _ (then (add_nodes ns r) (send_shuffle_reply _ _ _)) (either _ (same r) (then (chooses _ r) (emits _ refl _)))

oldest_fewer : (p : ℕ) (s : Station) → Fewer (E.push_bootstrap p s).joins s.joins
unfolding E.push_bootstrap E.drop_oldest_join
oldest_fewer p s = by_choice (λ (m : List (ℕ × ℕ)). Fewer m s.joins) (E.must_drop_oldest p s) (λ _ x n e. (look_cut x (E.oldest p s) s.joins n e).1) (λ _ x n e. e)

push_bootstrap : (p : ℕ) (r : Run) → Quiet r (on (E.push_bootstrap p) r)
unfolding E.push_bootstrap E.drop_oldest_join
push_bootstrap p r = drops (E.push_bootstrap p) (λ s. refl) (oldest_fewer p) r

handle_join : (p : ℕ) → p < peers_end → (r : Run) → Moves nothing 0 0 r (E.handle_join p r)
unfolding E.handle_join E.join_new E.join_other
handle_join p narrow r =
    before (push_bootstrap p r) (or_else _ (quietly (same _)) (or_else _ (quietly (join p _)) (before (join p _) (await_join p narrow _))))

drop_join : (p : ℕ) (r : Run) → Quiet r (on (M.drop_join p) r)
unfolding M.drop_join
drop_join p r = drops (M.drop_join p) (λ s. refl) (λ s x n e. (look_cut x p s.joins n e).1) r

lose_passive : (p : ℕ) (r : Run) → Quiet r (E.lose_passive p r)
unfolding E.lose_passive E.drop_dead P.drop_data P.remove_passive P.drop_mark
lose_passive p r = either _ (changes _ (λ s. refl) r) (changes _ (λ s. refl) r)

quit_all : (ps : List ℕ) (r : Run) → Quiet r (E.quit_all ps r)
unfolding E.quit_all E.quit_one E.remove_neighbor
quit_all [] r = same r
quit_all (p ∷ ps) r = then (changes _ (λ s. refl) r) (then (send_disconnect p false _) (quit_all ps _))

retry_join : (p id : ℕ) (r : Run) → Quiet r (T.retry_join p id r)
unfolding T.retry_join
retry_join p id r = either _ (then (drop_join p r) (join p _)) (same r)

pass_alone : (r : Run) → Quiet r (T.pass_alone r)
unfolding T.pass_alone T.count_alone T.add_alone T.rejoin_if_due T.rejoin T.rejoin_bootstrap T.rejoin_recent S.join_to
pass_alone r =
    then (requires ten _ r) (then (changes _ (λ s. refl) _)
    (either _ (then (emits_all _ (λ p. refl) _ _) (either _ (same _) (then (chooses _ _) (join _ _)))) (same _)))

pub shuffle_any : (r : Run) → Quiet r (T.shuffle_any r)
unfolding T.shuffle_any T.shuffle_with T.shuffle_passive T.send_shuffle R.draw_shuffle
shuffle_any r = either _ (same r) (then (chooses _ r) (then (draws _ _) (then (draws _ _) (emits _ refl _))))

-- a pin
pin : (p : ℕ) (r : Run) → Quiet r (E.handle_pin p r)
unfolding E.handle_pin E.require_neighbor E.pin_neighbor E.note_pin
pin p r = then (requires seventeen _ r) (then (requires eighteen _ _) (changes _ (λ s. refl) _))

-- ---- steps that may open requests

reply_neighbor : (reply : Bool) (p : ℕ) (high : Bool) (r : Run) → Moves nothing 0 0 r (S.reply_neighbor reply p high r)
unfolding S.reply_neighbor
reply_neighbor reply p high r = or_else _ (send_neighbor p high r) (quietly (same r))

refill : (skip : List ℕ) (r : Run) → Moves nothing 0 0 r (F.refill_active_from_passive skip r)
unfolding F.refill_active_from_passive F.refill_limited F.ask_one F.ask_picked F.limit_short F.end_recovery F.use_request
refill skip r =
    or_else _ (quietly (same r)) (before (changes _ (λ s. refl) r)
    (or_else _ (quietly (changes _ (λ s. refl) _)) (before (chooses _ _) (after (send_neighbor _ _ _) (quietly (changes _ (λ s. refl) _))))))

start_refill : (limit : Refill) (skip : List ℕ) (r : Run) → Moves nothing 0 0 r (F.start_refill limit skip r)
unfolding F.start_refill F.begin_refill
start_refill limit skip r = before (changes _ (λ s. refl) r) (refill skip _)

remove_active : (p : ℕ) (why : A.Reason) (r : Run) → Moves nothing 0 0 r (A.remove_active p why r)
unfolding A.remove_active A.refill_after A.clear_refused
remove_active p why r = or_else _ (before (remove_at _ why r) (before (changes _ (λ s. refl) _) (start_refill _ _ _))) (quietly (same r))

add_unchecked : (p : ℕ) (high reply : Bool) (r : Run) → Moves nothing 0 0 r (A.add_active_unchecked p high reply r)
unfolding A.add_active_unchecked
add_unchecked p high reply r = before (enter_active p r) (reply_neighbor reply p high _)

add_active : (p : ℕ) (d : Data) (high reply : Bool) (r : Run) → Moves nothing 0 0 r (A.add_active p d high reply r)
unfolding A.add_active A.admit A.admit_new A.admit_full
add_active p d high reply r =
    or_else _ (quietly (same r)) (before (insert_peer_info p d r) (or_else _ (reply_neighbor reply p high _)
    (or_else _ (or_else _ (before (free_slot _) (add_unchecked p high reply _)) (quietly (same _))) (add_unchecked p high reply _))))

-- ---- events that close requests

drops_request : (p : ℕ) (r : Run) → Moves (shut p) 0 0 r (on (M.drop_request p) r)
unfolding M.drop_request shut
drops_request p r = opening _ _ (λ s i. record { told = keys_cut p s.requests i; asked = cut p s.requests }) (λ s. refl) (λ s. refl) r

drop_pending : (p : ℕ) (r : Run) → Moves (shut p) 0 0 r (M.drop_pending p r)
unfolding M.drop_pending
drop_pending p r = before (drop_join p r) (drops_request p _)

on_join : (p : ℕ) (d : Data) (r : Run) → Moves (shut p) 0 0 r (M.on_join p d r)
unfolding M.on_join M.forward_joins M.forward_join_to
on_join p d r = after (after (drop_pending p r) (add_active p d true true _)) (quietly (emits_all _ (λ q. refl) _ _))

on_forward_join : (from : ℕ) (n : Node) (ttl : ℕ) (r : Run) → Moves nothing 0 0 r (M.on_forward_join from n ttl r)
unfolding M.on_forward_join M.ask_joiner M.walk_on M.learn_joiner M.forward_join_on M.forward_join_to
on_forward_join from n ttl r =
    or_else _ (before (insert_peer_info _ _ r) (send_neighbor _ _ _))
    (quietly (then (either _ (add_passive _ _ r) (same r)) (either _ (same _) (then (chooses _ _) (emits _ refl _)))))

on_shuffle_reply : (from : ℕ) (ns : List Node) (r : Run) → Moves nothing 0 0 r (M.on_shuffle_reply from ns r)
unfolding M.on_shuffle_reply M.after_reply M.refill_with
on_shuffle_reply from ns r = before (add_nodes ns r) (or_else _ (quietly (same _)) (or_else _ (start_refill _ _ _) (refill _ _)))

on_neighbor : (p : ℕ) (d : Data) (high : Bool) (r : Run) → Moves (shut p) 0 0 r (M.on_neighbor p d high r)
unfolding M.on_neighbor M.answer_neighbor M.refuse_neighbor
on_neighbor p d high r =
    after (drop_pending p r) (or_else _ (add_active p d high _ _) (after (add_active p d high _ _) (quietly (then (send_disconnect p true _) (forget_peer p _)))))

on_disconnect : (p : ℕ) (alive : Bool) (r : Run) → Moves (shut p) 0 0 r (M.on_disconnect p alive r)
unfolding M.on_disconnect M.disconnected M.disconnect_other M.left_topic M.mark_passive M.note_refusal M.note_refused M.add_refused M.forget_recent M.drop_recent A.mark_alive
on_disconnect p alive r =
    before (drop_join p r) (before (either _ (same _) (changes _ (λ s. refl) _)) (after (drops_request p _)
    (or_else _ (remove_active p _ _) (or_else _
    (quietly (then (either _ (then (requires seven _ _) (changes _ (λ s. refl) _)) (same _)) (either _ (changes _ (λ s. refl) _) (same _))))
    (or_else _ (before (drop_passive p _) (refill _ _)) (quietly (drop_passive p _)))))))

connection_closed : (p : ℕ) (r : Run) → Moves (shut p) 0 0 r (E.handle_connection_closed p r)
unfolding E.handle_connection_closed E.lose E.lose_other
connection_closed p r =
    after (drops_request p r)
    (or_else _ (remove_active p _ _) (or_else _ (before (lose_passive p _) (refill _ _)) (quietly (lose_passive p _))))

handle_quit : (r : Run) → Moves (λ d. empty_book) 0 0 r (E.handle_quit r)
unfolding E.handle_quit E.clear_all empty_book keys
handle_quit r = before (quit_all _ r) (opening (λ d. empty_book) E.clear_all (λ s. refl) (λ s. refl) (λ s. refl) _)

-- the station takes a timer's number for the open one where the book does
pub open_alike : (n : ℕ) (o : Option ℕ) → T.is_number n o ≡ is_open n o
unfolding T.is_number is_open
open_alike n none = refl
open_alike n (some m) = refl

-- the request timer, with the open number or another
abbrev timed : ℕ → ℕ → Book → Book
timed p n d = choose (is_open n (lookup p d.asked)) (shut p d) d

request_failed : (p : ℕ) (r : Run) → Moves (shut p) 0 0 r (T.request_failed p r)
unfolding T.request_failed
request_failed p r = after (drops_request p r) (before (drop_passive p _) (refill _ _))

-- maintenance
pass_short : (r : Run) → Moves nothing 0 0 r (T.pass_short r)
unfolding T.pass_short T.count_short T.add_short T.refill_if_due T.refill_anew A.clear_refused
pass_short r =
    or_else _ (quietly (same r)) (before (requires ten _ r) (before (changes _ (λ s. refl) _)
    (or_else _ (before (changes _ (λ s. refl) _) (start_refill _ _ _)) (quietly (same _)))))

maintain : (r : Run) → Moves nothing 0 0 r (T.maintain r)
unfolding T.maintain T.pass_known T.pass_neighbors T.not_alone F.end_recovery A.clear_refused
maintain r =
    or_else _ (quietly (pass_alone _)) (before (changes _ (λ s. refl) _)
    (or_else _ (start_refill _ _ _) (or_else _ (pass_short _) (quietly (changes _ (λ s. refl) _)))))

pub schedule_shuffle : (r : Run) → Moves nothing 1 0 r (T.schedule_shuffle r)
unfolding T.schedule_shuffle T.double_interval
schedule_shuffle r = paced T.double_interval (λ s. refl) (before (draws 1 _) (shuffle_tick _ _))

pub schedule_maintenance : (r : Run) → Moves nothing 0 1 r (T.schedule_maintenance r)
unfolding T.schedule_maintenance
schedule_maintenance r = maintenance_tick _ r

shuffle_timer : (r : Run) → Moves nothing 1 0 r (T.handle_shuffle_timer r)
unfolding T.handle_shuffle_timer
shuffle_timer r = before (shuffle_any r) (schedule_shuffle _)

maintenance_timer : (r : Run) → Moves nothing 0 1 r (T.handle_maintenance_timer r)
unfolding T.handle_maintenance_timer T.remember_all
maintenance_timer r = after (before (changes _ (λ s. refl) r) (maintain _)) (schedule_maintenance _)

-- the same change of the station's own book
here : {f : Book → Book} (g : Book → Book) {a b : ℕ} {r w : Run} → g (book_of r.station) ≡ f (book_of r.station) → Moves g a b r w → Moves f a b r w
here {f} g {r = r} e m = record {
  so = λ z. let k = m.so z in record {
    fine = k.fine;
    lent = k.lent;
    same_pace = k.same_pace;
    records = k.records;
    adds = k.adds;
    books = ap (sent_all k.records) (sym e) ∙ k.books;
    clean = ap (may_all k.records) (sym e) ∙ k.clean;
    shuffles = k.shuffles;
    passes = k.passes;
    rises = k.rises;
    low = k.low;
    joins_rise = k.joins_rise;
    awaited = k.awaited;
    mark = k.mark;
  };
}

neighbor_timer : (p id : ℕ) (r : Run) → Moves (timed p id) 0 0 r (T.handle_pending_neighbor_timer p id r)
unfolding T.handle_pending_neighbor_timer T.request_is
neighbor_timer p id r =
    let number = lookup p r.station.requests in
    by_choice (Moves (timed p id) 0 0 r) (T.is_number id number)
    (λ e. here (λ d. shut p d) (sym (choose_yes (is_open id number) _ _ (sym (open_alike id number) ∙ e))) (request_failed p r))
    (λ e. here nothing (sym (choose_no (is_open id number) _ _ (sym (open_alike id number) ∙ e))) (quietly (same r)))

-- ---- one event

answered : (m p n : ℕ) (d : Book) → is_answer m ≡ true → shut p d ≡ note_event 0 m p n d
unfolding note_event closes choose
answered m p n d h = rw h

unanswered : (m p n : ℕ) (d : Book) → is_answer m ≡ false → d ≡ note_event 0 m p n d
unfolding note_event closes choose
unanswered m p n d h = rw h

answer_at : (m i : ℕ) → is_answer i ≡ true → eqb m i ≡ true → is_answer m ≡ true
answer_at m i h t = ap is_answer (eqb-true m i t) ∙ h

not_answer_at : (m i : ℕ) → is_answer i ≡ false → eqb m i ≡ true → is_answer m ≡ false
not_answer_at m i h t = ap is_answer (eqb-true m i t) ∙ h

record Answers : Type 0 where
  zeroth : is_answer 0 ≡ true
  first : is_answer 1 ≡ false
  second : is_answer 2 ≡ false
  third : is_answer 3 ≡ false
  fourth : is_answer 4 ≡ true
  fifth : is_answer 5 ≡ true

answers : Answers
unfolding is_answer
answers = record { zeroth = refl; first = refl; second = refl; third = refl; fourth = refl; fifth = refl }

three_up : (m : ℕ) → (m ≡ 0 → ⊥) → (m ≡ 1 → ⊥) → (m ≡ 2 → ⊥) → 3 ≤ m
three_up m a b c = omega (arith, a, b, c)

last : (m : ℕ) → m ≤ 5 → 3 ≤ m → (m ≡ 3 → ⊥) → (m ≡ 4 → ⊥) → m ≡ 5
last m l a d f = omega (arith, l, a, d, f)

module _ (e : Rec) (few : e.message ≤ 5) (r : Run) where
  abbrev Noted : Run → Type 0
  Noted w = Moves (note_event 0 e.message e.peer e.number) 0 0 r w

  closed : is_answer e.message ≡ true → {w : Run} → Moves (shut e.peer) 0 0 r w → Noted w
  closed h k = taken (λ d. answered e.message e.peer e.number d h) refl refl k

  passed_over : is_answer e.message ≡ false → {w : Run} → Moves nothing 0 0 r w → Noted w
  passed_over h k = taken (λ d. unanswered e.message e.peer e.number d h) refl refl k

  handle_message : Noted (H.handle_message e r)
  unfolding H.handle_message
  handle_message =
      let m = e.message in
      by_choice Noted (eqb m 0) (λ t. closed (answer_at m 0 answers.zeroth t) (on_join _ _ r))
      (λ a. by_choice Noted (eqb m 1) (λ t. passed_over (not_answer_at m 1 answers.first t) (on_forward_join _ _ _ r))
      (λ b. by_choice Noted (eqb m 2) (λ t. passed_over (not_answer_at m 2 answers.second t) (quietly (on_shuffle _ _ _ _ r)))
      (λ c. by_choice Noted (eqb m 3) (λ t. passed_over (not_answer_at m 3 answers.third t) (on_shuffle_reply _ _ r))
      (λ d. by_choice Noted (eqb m 4) (λ t. closed (answer_at m 4 answers.fourth t) (on_neighbor _ _ _ r))
      (λ f. closed (ap is_answer (last m few (three_up m (eqb-false m 0 a) (eqb-false m 1 b) (eqb-false m 2 c)) (eqb-false m 3 d) (eqb-false m 4 f)) ∙ answers.fifth) (on_disconnect _ _ r))))))

module _ (e : Rec) (narrow : e.peer < peers_end) (few : e.kind ≡ kind_byte Message → e.message ≤ 5) (r : Run) where
  -- an event that is of kind k
  abbrev Event : ℕ → Run → Type 0
  Event k w = Moves (note_event k e.message e.peer e.number) (is k (kind_byte DoShuffle)) (is k (kind_byte DoMaintenance)) r w

  by_each : (k : EventKind) → e.kind ≡ kind_byte k → Event (kind_byte k) (H.handle_kind (some k) e r)
  unfolding H.handle_kind E.update_own_data note_event closes choose is
  by_each Message z = handle_message e (few z) r
  by_each DoShuffle z = shuffle_timer r
  by_each DoMaintenance z = maintenance_timer r
  by_each PendingNeighborRequest z = neighbor_timer _ _ r
  by_each RetryJoin z = quietly (retry_join _ _ r)
  by_each PeerDisconnected z = connection_closed _ r
  by_each RequestJoin z = handle_join _ narrow r
  by_each UpdatePeerData z = quietly (changes _ (λ s. refl) r)
  by_each Quit z = handle_quit r
  by_each Pin z = quietly (pin _ r)

  -- of each kind of event; no event is of another
  pub dispatch : is_event_kind e.kind ≡ true → Event e.kind (H.dispatch e r)
  unfolding H.dispatch is_event_kind is_found
  dispatch =
      by_kind (λ (o : Option EventKind). is_found o ≡ true → Event e.kind (H.handle_kind o e r)) e.kind (λ _ f. clash false f refl)
      (λ k z f. subst (λ (x : ℕ). Event x (H.handle_kind (some k) e r)) (sym z) (by_each k z))
