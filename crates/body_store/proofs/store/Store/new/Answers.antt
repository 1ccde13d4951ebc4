use Rattle.std.proofs.Common.{◌≡◌, ◌+◌, ◌-◌, [], ap, ap₂, arith, is_some, min, length, map, subst, sym, ◌∙◌}
use Rattle.design_model.specs.View.{design_view, process_view}
use Rattle.write_log.specs.value_store.Rooms.{as_usize, processes_queued}
use Rattle.write_log.specs.value_store.Signals.{hidden_at, shape_of, unknown_signals}
use Rattle.write_log.specs.Logs.{around, reads_of}
use Rattle.std.proofs.Math.Nat.{min-eq_left}
use Rattle.word_log.specs.Logs as w
use Rattle.body_store.specs.Tests.{log_room, seconds, tests_by, word_room}
use Rattle.body_store.specs.Scenes.{scene_with}
use Rattle.body_store.specs.Veils.{FitsVeils}
use Rattle.body_store.specs.Made.{AreUnknown}
use Rattle.body_store.proofs.Blank.{made_store, none_shown}
use Rattle.body_store.proofs.Holding.{no_hides}
use Rattle.body_store.specs.Updates.{are_taken}
use Rattle.body_store.proofs.Fit.{new_fits}
use Rattle.body_store.proofs.Tests.{new_logged, new_words_logged}
use Rattle.body_store.proofs.store.Store.new.Goals as goal

pub invariant_of-result : goal.invariant_of-result
invariant_of-result c =
    let ss = c.args.design.now.signals in
    let ms = c.args.design.now.memories in
    let v = c.in_ok-signals.signals in
    let fits = new_fits ss ms v c.in_ok-memories.memories.items
    (c.in_ok-signals.ensures ∙ ap (λ y. unknown_signals (map shape_of y)) c.as_slice.ensures)
    (subst (λ n. AreUnknown n ms c.in_ok-memories.memories.items) c.len.ensures (subst (λ y. AreUnknown c.len.result y c.in_ok-memories.memories.items) c.as_slice-2.ensures c.in_ok-memories.ensures)) in
    record {
      fits = fits;
      logged = new_logged v c.in_ok-log.log c.len-2.result c.log_room-room.result c.in_ok-log.ensures (c.len-2.ensures ∙ sym fits.signals);
      sized = ap (λ l. l.depth) c.in_ok-log.ensures ∙ sym (ap (λ l. l.room) c.in_ok-log.ensures);
      words_logged = new_words_logged c.in_ok-memories.memories.items c.in_ok-words.words c.log_room-room.result (c.in_ok-words.ensures ∙ ap (λ rs. record { done = []; undone = []; tests = []; room = c.log_room-room.result; depth = c.log_room-room.result; sizes = w.sizes_of rs }) c.as_slice-3.ensures.value);
      tests = record {
        word_depth = ap (λ q. q.depth) c.in_ok-words.ensures ∙ sym (ap (λ q. q.room) c.in_ok-words.ensures);
        room = ap (λ q. q.room) c.in_ok-words.ensures ∙ sym (ap (λ l. l.room) c.in_ok-log.ensures);
        branches = ap (λ q. seconds q.tests) c.in_ok-words.ensures ∙ sym (ap (λ l. seconds l.tests) c.in_ok-log.ensures);
      };
      counted = record { log_is = ap (λ l. l.room) c.in_ok-log.ensures ∙ c.log_room-room.ensures; queue_is = ap (λ q. q.room) c.in_ok-updates.ensures ∙ c.queue_room.ensures ∙ ap (λ ps. as_usize (processes_queued (map process_view ps))) c.as_slice-4.ensures };
      taken = ap (λ q. are_taken (design_view c.args.design.now) q.items) c.in_ok-updates.ensures;
      veiled = subst (λ n. FitsVeils n ms c.in_ok-veils.veils) c.len-3.ensures (subst (λ y. FitsVeils c.len-3.result y c.in_ok-veils.veils) c.as_slice-5.ensures c.in_ok-veils.ensures.fits);
    }

pub returns-clause-holds : goal.returns-clause-holds
returns-clause-holds c =
    (made_store (design_view c.args.design.now) c.len.result c.as_slice.result.now c.as_slice-2.result.now _ c.len.ensures c.as_slice.ensures c.as_slice-2.ensures c.in_ok-signals.ensures c.in_ok-memories.ensures c.in_ok-veils.ensures.none).0

pub returns-clause-reads : goal.returns-clause-reads
returns-clause-reads c =
    (made_store (design_view c.args.design.now) c.len.result c.as_slice.result.now c.as_slice-2.result.now _ c.len.ensures c.as_slice.ensures c.as_slice-2.ensures c.in_ok-signals.ensures c.in_ok-memories.ensures c.in_ok-veils.ensures.none).1

pub returns-clause-hides : goal.returns-clause-hides
returns-clause-hides c = λ x.
    let v = c.in_ok-signals.signals in
    let is : v ≡ unknown_signals (map shape_of c.args.design.now.signals) = c.in_ok-signals.ensures ∙ ap (λ y. unknown_signals (map shape_of y)) c.as_slice.ensures in
    no_hides (length c.args.design.now.signals) (λ s. is_some (hidden_at v s)) c.in_ok-veils.veils (λ s. ap is_some (none_shown (design_view c.args.design.now) v is s)) c.in_ok-veils.ensures.none x

pub returns-clause-around : goal.returns-clause-around
returns-clause-around c =
    ap (λ l. tests_by (scene_with c.args.design.now) (around l (reads_of c.in_ok-signals.signals)) (w.around c.in_ok-words.words c.in_ok-memories.memories.items)) c.in_ok-log.ensures

pub returns-clause-log : goal.returns-clause-log
returns-clause-log c =
    let room : c.log_room-room.result - (0 + 0 + 0) ≡ c.log_room-room.result = omega arith in
    ap₂ min (ap log_room c.in_ok-log.ensures ∙ room) (ap word_room c.in_ok-words.ensures ∙ room) ∙ min-eq_left (omega arith) ∙ sym (ap (λ l. l.room) c.in_ok-log.ensures)

pub returns-clause-queue : goal.returns-clause-queue
returns-clause-queue c =
    let e = c.in_ok-updates.ensures in
    let all : c.queue_room.result - 0 ≡ c.queue_room.result = omega arith in
    ap (λ q. q.room - length q.items) e ∙ all ∙ sym (ap (λ q. q.room) e)
