use Rattle.std.proofs.Common.{refl, subst, ◌∙◌}
use Rattle.design_model.specs.MayMove.{AreLastRounds}
use Rattle.design_model.specs.RoundLaws.{read_by}
use Rattle.dump_replay.proofs.Following.{changed}
use Rattle.dump_replay.proofs.replay.DumpReplay.change.Goals as goal

pub returns-clause-followed : goal.returns-clause-followed
returns-clause-followed c =
    changed c.args.self.now record c.args.self.now { replay = c.change.new.self } c.args.code c.args.value.now c.change.ensures.ready c.change.ensures.made (λ n. c.change.ensures.phase ∙ n) c.change.ensures.values refl refl refl refl
    (λ dump t follows rounds by_last. c.change.ensures.followed (read_by dump rounds) t (follows rounds (subst (λ m. AreLastRounds m.design (read_by dump rounds)) c.change.ensures.made by_last)))
    (λ dump t pauses rounds by_last. c.change.ensures.paused (read_by dump rounds) t (pauses rounds (subst (λ m. AreLastRounds m.design (read_by dump rounds)) c.change.ensures.made by_last)))
