use Rattle.std.proofs.Common.{refl, sym, ◌∙◌}
use Rattle.std.proofs.lemmas.List.Elements.{All-weaker}
use Rattle.vcd_reader.specs.declared.filter.Filter.TheVariants as filter_row
use Rattle.vcd_reader.proofs.BodyStanding.{unwanted_of}
use Rattle.vcd_reader.proofs.body.Body.next_of.Goals as goal

pub returns-in-Ok-clause-ok : goal.returns-in-Ok-clause-ok
returns-in-Ok-clause-ok c = λ text b h.
    let p = c.in-Ok.ensures.ok text b h.stands in
    record {
      passed = p.passed;
      unwanted = All-weaker _ _ (unwanted_of (filter_row.Only c.args.wanted) c.args.wanted.now (λ code. refl)) p.passed p.unheard;
      steps = record { sound = h.sound; steps = p.then };
    }

pub returns-in-Ok-clause-ended : goal.returns-in-Ok-clause-ended
returns-in-Ok-clause-ended c = λ text b h.
    let ended = c.step.ensures.ended text b h.ended in
    (sym c.in-Ok.is ∙ ended.0, record { sound = h.sound; ended = ended.1 })

pub returns-in-Err-clause-fault : goal.returns-in-Err-clause-fault
returns-in-Err-clause-fault c = λ text b h.
    let p = c.in-Err.ensures.fault text b h.stands in
    rw c.fail.ensures.same (record {
      passed = p.passed;
      unwanted = All-weaker _ _ (unwanted_of (filter_row.Only c.args.wanted) c.args.wanted.now (λ code. refl)) p.passed p.unheard;
      is = p.then;
    })

pub returns-in-Err-clause-ended : goal.returns-in-Err-clause-ended
returns-in-Err-clause-ended c = λ text b h.
    let ended = c.step.ensures.ended text b h.ended in
    let ok = ended.0 in
    let err = c.in-Err.is in
    absurd cc
