use Rattle.std.proofs.Common.{◌≡◌, ◌+◌, ◌<◌, ◌∙◌, false, true, suc, subst, sym, arith}
use Rattle.std.proofs.lemmas.Bool.{false≢true}
use Rattle.replay_core.specs.declared.tables.ReplayTables.{ReplayTables}
use Rattle.replay_core.proofs.ClosingStep.{ok_then}
use Rattle.replay_core.proofs.Resting.{counts_none, inputs_rest, next_rests, refused_again, rest_counts, rest_followed, rest_refuted}
use Rattle.replay_core.proofs.replay.Replay.rest.Goals as goal

-- ---- the time is not later

pub returns-then-time-from-clause-followed : goal.returns-then-time-from-clause-followed
returns-then-time-from-clause-followed g c = λ dump followed hidden given. absurd (omega (arith, hidden.later, c.if-time-from.true))

pub returns-then-time-from-clause-steps : goal.returns-then-time-from-clause-steps
returns-then-time-from-clause-steps g c = λ dump followed hidden given. counts_none c.args.self.now dump (suc c.args.from) c.args.steps.now

-- ---- the next time follows at once

pub returns-then-first-time-clause-followed : goal.returns-then-first-time-clause-followed
returns-then-first-time-clause-followed g c = λ dump followed hidden given.
    let same : suc c.args.from ≡ c.args.time = omega (arith, c.if-first-time.true) in
    next_rests c.args.self.now c.args.from c.args.time same dump followed

pub returns-then-first-time-clause-steps : goal.returns-then-first-time-clause-steps
returns-then-first-time-clause-steps g c = λ dump followed hidden given. counts_none c.args.self.now dump (suc c.args.from) c.args.steps.now

-- ---- each input has a code

pub returns-then-not-lacks-clause-followed : goal.returns-then-not-lacks-clause-followed
returns-then-not-lacks-clause-followed g c = λ dump followed hidden given.
    let x = c.args.self.now in
    let lacks : x.tables.value.lacks_input ≡ false = subst (λ (tables : ReplayTables). tables.lacks_input ≡ false) c.deref.ensures c.if-not-lacks.true in
    inputs_rest x c.args.from c.args.time (c.requires.ready.parts.tables.inputs.0 lacks) dump followed hidden

pub returns-then-not-lacks-clause-steps : goal.returns-then-not-lacks-clause-steps
returns-then-not-lacks-clause-steps g c = λ dump followed hidden given. counts_none c.args.self.now dump (suc c.args.from) c.args.steps.now

-- ---- the step of the times between

pub returns-clause-started : goal.returns-clause-started
returns-clause-started g c = ok_then c.close_at.result c.close_at.ensures.started (λ started old. started)

pub returns-clause-followed : goal.returns-clause-followed
returns-clause-followed g c =
    let is : c.args.from + 1 ≡ suc c.args.from = omega arith in
    let next : c.args.from + 1 < c.args.time = omega (arith, c.if-time-from.false, c.if-first-time.false) in
    rest_followed c.args.self.now c.close_at.new.self c.args.from c.args.time (c.args.from + 1) is next c.close_at.result c.close_at.ensures.followed

pub returns-clause-contradiction : goal.returns-clause-contradiction
returns-clause-contradiction g c =
    let is : c.args.from + 1 ≡ suc c.args.from = omega arith in
    let next : c.args.from + 1 < c.args.time = omega (arith, c.if-time-from.false, c.if-first-time.false) in
    rest_refuted c.args.self.now c.close_at.new.self c.args.from c.args.time (c.args.from + 1) is next c.close_at.result c.close_at.ensures.contradiction

pub returns-clause-again : goal.returns-clause-again
returns-clause-again g c = refused_again c.close_at.result c.args.self.now c.close_at.new.self c.close_at.ensures.again

pub returns-clause-steps : goal.returns-clause-steps
returns-clause-steps g c =
    let is : c.args.from + 1 ≡ suc c.args.from = omega arith in
    let next : c.args.from + 1 < c.args.time = omega (arith, c.if-time-from.false, c.if-first-time.false) in
    rest_counts c.args.self.now c.close_at.new.self c.args.from c.args.time (c.args.from + 1) is next c.close_at.result c.args.steps.now c.close_at.new.steps c.close_at.ensures.steps

pub returns-clause-none : goal.returns-clause-none
returns-clause-none g c = λ has.
    let x = c.args.self.now in
    let lacks : x.tables.value.lacks_input ≡ true = subst (λ (tables : ReplayTables). tables.lacks_input ≡ true) c.deref.ensures c.if-not-lacks.false in
    absurd (false≢true (sym (c.requires.ready.parts.tables.inputs.1 has) ∙ lacks))

pub returns-clause-next : goal.returns-clause-next
returns-clause-next g c = λ same. absurd (c.if-first-time.false (let at : c.args.from + 1 ≡ c.args.time = omega (arith, same) in at))
