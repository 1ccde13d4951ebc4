use Rattle.std.proofs.Common.{◌≡◌, ◌∙◌, ap, sym, Some, None}
use Rattle.std.specs.Prelude.{slice_get}
use Rattle.std.specs.Option.{option_copied}
use Rattle.verilog_tree.specs.View.{modules_view}
use Rattle.elaborator.specs.Modules.{first_places}
use Rattle.elaborator.proofs.ModuleLemmas.{found_first, none_at, viewed, got}
use Rattle.elaborator.proofs.modules.ModuleTable.find.Goals as goal

pub returns-in-None : goal.returns-in-None
returns-in-None c =
    let placed : first_places 0 (modules_view c.args.self.now.modules.now) c.args.name.now ≡ None = ap (λ f. f c.args.name.now) (sym c.args.self.now.firsts) ∙ sym c.in-None.ensures in
    sym (none_at 0 (modules_view c.args.self.now.modules.now) c.args.name.now placed)

pub returns-in-Some : goal.returns-in-Some
returns-in-Some c =
    let placed : first_places 0 (modules_view c.args.self.now.modules.now) c.args.name.now ≡ Some c.in-Some.place.now = ap (λ f. f c.args.name.now) (sym c.args.self.now.firsts) ∙ sym c.in-Some.ensures in
    let found = found_first (modules_view c.args.self.now.modules.now) c.args.name.now c.in-Some.place.now placed in
    let copied : option_copied c.get-in-Some.result ≡ slice_get c.args.self.now.modules.now c.in-Some.place.now = got c.args.self.now.modules.now c.in-Some.place.now c.get-in-Some.result c.get-in-Some.ensures.lookup in
    viewed c.args.self.now.modules.now c.in-Some.place.now c.get-in-Some.result copied ∙ found
