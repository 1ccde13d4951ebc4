use Rattle.std.proofs.Common.{◌≡◌, ℕ, List, ap, inl, inr}
use Rattle.std.proofs.lemmas.Result.{err_from_is_err_and}
use Rattle.cover_points.specs.declared.listing.Points.{Points}
use Rattle.design_model.specs.declared.design.Design.{Design}
use Rattle.event_machine.specs.Habit.{Habit}
use Rattle.four_state.specs.Vector.{Vector}
use Rattle.vcd_reader.specs.Wanted.{item_by, saying_more}
use Rattle.vcd_reader.specs.WantedPieces.{kept_value}
use Rattle.vcd_reader.specs.declared.vars.Var.{Var}
use Rattle.dump_score.specs.Scoring.{CanEnd}
use Rattle.dump_score.proofs.FirstValues.{found_at_end}
use Rattle.dump_score.proofs.Stepping.{EndStepped, Passed, end_again, end_can_say, end_fault, end_heard, none_passed, saying_in, scored_end}
use Rattle.dump_score.proofs.items.score_end.Goals as goal
use Rattle.dump_score.proofs.items.score_end.Goals.{In_ok-heard}

-- what the last word says, and the changes before it that are not wanted
passed : (c : In_ok-heard) (value : Vector) (is : value ≡ kept_value c.next_of.new.self) (habit : Habit) (design : Design) (points : Points) (vars : List Var) (instance text : List ℕ) (can : CanEnd c.args.body.now c.args.replay.now habit design points vars instance text) → Passed c.wanted.result.now can.b (EndStepped (item_by c.in_ok-heard.heard.saying value) text)
passed c value is habit design points vars instance text can = elim can.stands [
  | inl read ↦ end_heard c.wanted.result.now c.in_ok-heard.heard.saying value c.in_ok-heard.heard.used c.next_of.new.self text can.b is (c.in_ok-heard.ensures.ok text can.b read)
  | inr ended ↦ none_passed c.wanted.result.now can.b _ (end_again (item_by c.in_ok-heard.heard.saying value) text can.b (ap (λ s. item_by s value) (ap saying_in (c.in_ok-heard.ensures.ended text can.b ended).0)) ended.ended.ends)
]

pub returns-in_err-heard-clause-fault : goal.returns-in_err-heard-clause-fault
returns-in_err-heard-clause-fault c =
    let fault = err_from_is_err_and c.from_residual.result c.from_residual.ensures.1 in
    rw (fault.1, fault.2) (λ habit design points vars instance text can.
    elim can.stands [
      | inl read ↦ found_at_end c.wanted.result.now c.args.body.now c.args.replay.now c.wanted.ensures habit design points vars instance text _ can (c.in_err-heard.ensures.fault text can.b read)
      | inr ended ↦ absurd (let no = (c.in_err-heard.ensures.ended text can.b ended).0 in cc)
    ])

pub say-requires : goal.say-requires
say-requires c =
    let at = (goal.at.say-requires c).In_ok-heard in
    let can = c.requires.6 in
    let p = passed at c.value.result.now c.value.ensures c.requires.0 c.requires.1 c.requires.2 c.requires.3 c.requires.4 c.requires.5 can in
    end_can_say (item_by c.in_ok-heard.heard.saying c.value.result.now) c.args.replay.now c.requires.0 c.requires.1 c.requires.2 c.requires.3 c.requires.4 c.requires.5 (saying_more can.b p.passed) p.then can.vars_are
    (c.wanted.ensures c.requires.0 c.requires.1 c.requires.2 c.requires.3 c.requires.4 can.b.items p.passed can.followed p.unwanted)

pub returns-clause-ok : goal.returns-clause-ok
returns-clause-ok c = λ habit design points vars instance text can.
    let at = (goal.at.returns-clause-ok c).In_ok-heard in
    let p = passed at c.value.result.now c.value.ensures habit design points vars instance text can in
    scored_end (item_by c.in_ok-heard.heard.saying c.value.result.now) c.args.replay.now habit design points vars instance text (saying_more can.b p.passed) p.then can.vars_are
    (c.wanted.ensures habit design points vars instance can.b.items p.passed can.followed p.unwanted) c.say.new.replay c.in_ok-say.ensures.ok

pub returns-in_err-say-clause-fault : goal.returns-in_err-say-clause-fault
returns-in_err-say-clause-fault c =
    let fault = err_from_is_err_and c.from_residual-in_err-say.result c.from_residual-in_err-say.ensures.1 in
    let at = (goal.at.returns-in_err-say-clause-fault c).In_ok-heard in
    rw (fault.1, fault.2) (λ habit design points vars instance text can.
    let p = passed at c.value.result.now c.value.ensures habit design points vars instance text can in
    end_fault (item_by c.in_ok-heard.heard.saying c.value.result.now) c.args.replay.now habit design points vars instance text (saying_more can.b p.passed) p.then can.vars_are
    (c.wanted.ensures habit design points vars instance can.b.items p.passed can.followed p.unwanted) _ c.in_err-say.ensures.fault)
