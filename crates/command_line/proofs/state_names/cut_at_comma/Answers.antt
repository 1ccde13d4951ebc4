use Rattle.std.proofs.Common.{◌∙◌, ◌∷◌, None, Some, ap₂, lit<, sym}
use Rattle.std.specs.Prelude.{ℕ, ◌==◌}
use Rattle.std.proofs.lemmas.List.Splits.{slice_split_first}
use Rattle.std.proofs.lemmas.Str.Pattern.{split_once_first, split_parts}
use Rattle.command_line.specs.MachineWords.{names_in}
use Rattle.command_line.proofs.Names.{one_part}
use Rattle.command_line.proofs.state_names.cut_at_comma.Goals as goal

pub returns-in-Some : goal.returns-in-Some
returns-in-Some c =
    let text = c.args.text.now in
    let parts = split_once_first 44 text (Some (c.in-Some.name, c.in-Some.rest)) c.in-Some.ensures.cases (lit< tt) in
    slice_split_first (λ (byte : ℕ). byte == 44) text 0 parts.0 ∙ ap₂ (λ name rest. name ∷ names_in rest) (sym parts.1) (sym parts.2)

pub returns-in-None : goal.returns-in-None
returns-in-None c = one_part 44 c.args.text.now (split_parts 44 c.args.text.now None c.in-None.ensures.cases (lit< tt))
