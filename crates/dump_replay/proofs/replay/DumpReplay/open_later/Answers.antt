use Rattle.std.proofs.Common.{[], ◌∷◌, ◌++◌, Some, refl, subst, sym, ◌∙◌}
use Rattle.vcd_reader.specs.declared.entry.Entry.TheVariants.{Time}
use Rattle.dump_replay.specs.Faults.{IsReplayFault}
use Rattle.dump_replay.proofs.Closing.{fault_is, rest_closed, rest_fault}
use Rattle.dump_replay.proofs.Following.{later_opened}
use Rattle.dump_replay.proofs.replay.DumpReplay.open_later.Goals as goal

pub returns-in_err-close-clause-fault : goal.returns-in_err-close-clause-fault
returns-in_err-close-clause-fault c =
    fault_is c.from_residual.result _ _ (λ fault is habit design points vars instance entries are ordered f. subst (IsReplayFault habit design vars instance (entries ++ Time c.args.time ∷ [])) (sym is) (c.in_err-close.ensures.fault habit design points vars instance entries c.args.time are ordered.rises (sym f.last ∙ c.requires.last) f)) c.from_residual.ensures.1

pub returns-in_err-rest-clause-fault : goal.returns-in_err-rest-clause-fault
returns-in_err-rest-clause-fault c =
    fault_is c.from_residual-in_err-rest.result _ _ (λ fault is habit design points vars instance entries are ordered f. subst (IsReplayFault habit design vars instance (entries ++ Time c.args.time ∷ [])) (sym is)
    (let is_last = sym f.last ∙ c.requires.last in
    rest_fault c.args.self.now c.close.new.self c.args.last c.args.time c.close.ensures.made c.close.ensures.given c.in_ok-close.ensures.started c.close.ensures.ready _ c.in_err-rest.ensures.fault c.in_err-rest.ensures.named
    habit design points vars instance entries are ordered.rises is_last f (c.in_ok-close.ensures.followed habit design points vars instance entries [] c.args.time are ordered.rises is_last f))) c.from_residual-in_err-rest.ensures.1

pub returns-in_err-rest-clause-made : goal.returns-in_err-rest-clause-made
returns-in_err-rest-clause-made c = c.rest.ensures.made ∙ c.close.ensures.made

pub returns-clause-made : goal.returns-clause-made
returns-clause-made c = c.rest.ensures.made ∙ c.close.ensures.made

pub returns-clause-followed : goal.returns-clause-followed
returns-clause-followed c habit design points vars instance entries are ordered f =
    later_opened c.args.self.now c.rest.new.self record c.rest.new.self { last = Some c.args.time } c.args.last c.args.time c.rest.ensures.ready c.in_ok-rest.ensures.started
    (c.rest.ensures.made ∙ c.close.ensures.made) (c.rest.ensures.given ∙ c.close.ensures.given) (c.rest.ensures.wanted ∙ c.close.ensures.wanted) (c.rest.ensures.windows ∙ c.close.ensures.windows) (c.rest.ensures.first ∙ c.close.ensures.first) c.requires.last
    refl refl refl refl refl
    (λ habit design points vars instance entries more are rises is_last f.
    rest_closed c.args.self.now c.close.new.self c.rest.new.self.replay c.args.last c.args.time c.close.ensures.made c.close.ensures.given c.in_ok-close.ensures.started c.close.ensures.ready c.in_ok-rest.ensures.followed
    habit design points vars instance entries more are rises is_last f (c.in_ok-close.ensures.followed habit design points vars instance entries more c.args.time are rises is_last f))
    habit design points vars instance entries are f
