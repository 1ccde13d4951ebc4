use Rattle.dump_score.proofs.Stepping.{IfErr-map, OnOk-map}
use Rattle.dump_score.proofs.Widths.{change_width, front_fits, has_room}
use Rattle.dump_score.proofs.items.say.Goals as goal

pub open_step-requires : goal.open_step-requires
open_step-requires c = record { ready = c.requires.6.of.ready }

pub change-requires-clause-ready : goal.change-requires-clause-ready
change-requires-clause-ready c = c.requires.6.of.ready

pub change-requires-clause-width : goal.change-requires-clause-width
change-requires-clause-width c = change_width c.args.replay.now c.in-Change.code c.args.value.now (rw c.in-Change.is at c.requires)

pub returns-in-Time-clause-ok : goal.returns-in-Time-clause-ok
returns-in-Time-clause-ok c =
    rw c.in-Time.is (OnOk-map c.open_step.result (λ ok habit design points vars instance entries fits ordered s. ok habit design points vars instance entries (front_fits vars entries _ fits) ordered s) c.open_step.ensures.followed)

pub returns-in-Time-clause-fault : goal.returns-in-Time-clause-fault
returns-in-Time-clause-fault c =
    rw c.in-Time.is (IfErr-map c.open_step.result (λ f fault habit design points vars instance entries fits ordered s. fault habit design points vars instance entries (front_fits vars entries _ fits) ordered s) c.open_step.ensures.fault)

pub returns-in-Change-clause-ok : goal.returns-in-Change-clause-ok
returns-in-Change-clause-ok c = rw c.in-Change.is (λ habit design points vars instance entries fits ordered s. c.change.ensures.followed habit design points vars instance entries ordered.in_turn s)

pub end_stretch-requires-clause-ready : goal.end_stretch-requires-clause-ready
end_stretch-requires-clause-ready c = c.requires.6.of.ready

pub end_stretch-requires-clause-room : goal.end_stretch-requires-clause-room
end_stretch-requires-clause-room c = has_room c.args.replay.now (rw c.in-Off.is at c.requires)

pub begin_stretch-requires : goal.begin_stretch-requires
begin_stretch-requires c = record { ready = c.requires.6.of.ready }

pub returns-in-Off-clause-ok : goal.returns-in-Off-clause-ok
returns-in-Off-clause-ok c = rw c.in-Off.is (λ habit design points vars instance entries fits ordered s. c.end_stretch.ensures.followed habit design points vars instance entries ordered s)

pub returns-in-On-clause-ok : goal.returns-in-On-clause-ok
returns-in-On-clause-ok c = rw c.in-On.is (λ habit design points vars instance entries fits ordered s. c.begin_stretch.ensures.followed habit design points vars instance entries ordered s)
