use Rattle.std.proofs.Common.{◌≡◌, sym, ap, ◌∙◌, length, Result, Ok}
use Rattle.vcd_reader.specs.Wanted.{item_by}
use Rattle.vcd_reader.specs.declared.fault.DumpFault.{DumpFault}
use Rattle.vcd_reader.specs.declared.item.Heard.{Heard}
use Rattle.vcd_reader.specs.declared.item.Saying.TheVariants as saying
use Rattle.vcd_reader.specs.declared.item.Step.{Step}
use Rattle.vcd_reader.proofs.BodyStanding.{all_heard, fault_behind_at, heard_is}
use Rattle.vcd_reader.proofs.body.Body.next.Goals as goal

pub returns-in-Ok-clause-ok : goal.returns-in-Ok-clause-ok
returns-in-Ok-clause-ok c = λ text b h. rw c.as_step.ensures (record { sound = h.sound; steps = all_heard b _ (c.in-Ok.ensures.ok text b h.stands) })

pub returns-in-Ok-clause-ended : goal.returns-in-Ok-clause-ended
returns-in-Ok-clause-ended c = λ text b h.
    let ended = c.step.ensures.ended text b h.ended in
    let heard : c.in-Ok.heard ≡ record { saying = saying.End; used = length c.args.piece.now } = heard_is _ _ (sym c.in-Ok.is ∙ ended.0) in
    (ap (λ (s : Step). let r : Result Step DumpFault = Ok s in r) (c.as_step.ensures ∙ ap (λ (s : Heard). let step : Step = record { item = item_by s.saying c.step.new.self.reading.change.value; used = s.used } in step) heard), record { sound = h.sound; ended = ended.1 })

pub returns-in-Err-clause-fault : goal.returns-in-Err-clause-fault
returns-in-Err-clause-fault c = λ text b h. rw c.fail.ensures.same (fault_behind_at text c.args.piece.now b _ (all_heard b _ (c.in-Err.ensures.fault text b h.stands)))

pub returns-in-Err-clause-ended : goal.returns-in-Err-clause-ended
returns-in-Err-clause-ended c = λ text b h.
    let ended = c.step.ensures.ended text b h.ended in
    let ok = ended.0 in
    let err = c.in-Err.is in
    absurd cc
