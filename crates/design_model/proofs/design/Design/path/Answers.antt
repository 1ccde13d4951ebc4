use Rattle.std.proofs.Common.{◌≡◌, ◌-◌, IfOk, Some, ap, subst, sym, ◌∙◌}
use Rattle.std.proofs.lemmas.Bool.{false≢true}
use Rattle.std.specs.Option.{option_copied}
use Rattle.std.specs.List.{slice_get}
use Rattle.std.specs.Prelude.{IsSome}
use Rattle.design_model.specs.View.{design_view}
use Rattle.design_model.proofs.MemoryPath.{memory_path}
use Rattle.design_model.proofs.design.Design.path.Goals as goal

pub returns-in-Some-get : goal.returns-in-Some-get
returns-in-Some-get c =
    subst (λ z. IfOk c.path_in-in-Some-get.result (λ path. path ≡ z))
    (sym (memory_path (design_view c.args.self.now) c.args.thing c.in-Some-get.memory.now
    (λ below. false≢true (subst IsSome c.in-None.is (c.get.ensures.there.1 below)))
    (subst (λ n. slice_get c.args.self.now.memories (c.args.thing - n) ≡ Some c.in-Some-get.memory.now) c.len.ensures (sym c.get-in-None.ensures.value ∙ ap option_copied c.in-Some-get.is))))
    c.path_in-in-Some-get.ensures
