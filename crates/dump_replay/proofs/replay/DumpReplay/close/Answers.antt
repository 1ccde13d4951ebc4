use Rattle.dump_replay.proofs.Closing.{first_closed, first_refused, has_begun, is_new, later_closed, later_refused, not_started, ok_both, ok_map}
use Rattle.dump_replay.proofs.replay.DumpReplay.close.Goals as goal

pub close_step-requires-clause-started : goal.close_step-requires-clause-started
close_step-requires-clause-started g c = has_begun c.args.self.now.replay c.has_started.result c.has_started.ensures c.if-has_started.true

pub returns-then-has_started-clause-followed : goal.returns-then-has_started-clause-followed
returns-then-has_started-clause-followed g c =
    let begun = has_begun c.args.self.now.replay c.has_started.result c.has_started.ensures c.if-has_started.true in
    ok_map c.close_step.result _ _ (λ closed. later_closed c.args.self.now c.close_step.new.self c.args.time begun c.close_step.ensures.made closed) c.close_step.ensures.followed

pub returns-then-has_started-clause-fault : goal.returns-then-has_started-clause-fault
returns-then-has_started-clause-fault g c =
    let begun = has_begun c.args.self.now.replay c.has_started.result c.has_started.ensures c.if-has_started.true in
    later_refused c.args.self.now c.close_step.result c.args.time begun c.close_step.ensures.contradiction c.close_step.ensures.named

pub start-requires-clause-once : goal.start-requires-clause-once
start-requires-clause-once g c = not_started c.args.self.now.replay c.has_started.result c.has_started.ensures c.if-has_started.false

pub returns-clause-followed : goal.returns-clause-followed
returns-clause-followed g c =
    let new = is_new c.args.self.now.replay c.has_started.result c.has_started.ensures c.if-has_started.false in
    ok_both c.start.result _ _ _ (λ started closed. first_closed c.args.self.now c.start.new.self c.args.time new c.start.ensures.ready started c.start.ensures.made c.start.ensures.values closed) c.start.ensures.started c.start.ensures.followed

pub returns-clause-fault : goal.returns-clause-fault
returns-clause-fault g c =
    let new = is_new c.args.self.now.replay c.has_started.result c.has_started.ensures c.if-has_started.false in
    first_refused c.args.self.now c.start.result c.args.time new c.start.ensures.missing c.start.ensures.valued c.start.ensures.contradiction c.start.ensures.named
