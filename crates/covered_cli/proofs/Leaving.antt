-- What a call of the program leaves that ends with a status above 0.
use Rattle.std.proofs.Common.{◌≡◌, ℕ, List, Option, None, Some, sym, subst, ◌∙◌, inl, inr}
use Rattle.command_line.specs.Command.{IsCommand, command_values}
use Rattle.command_line.specs.declared.command.Command.{Command}
use Rattle.cov_host.specs.Outside.{AppendsPrefix, Files, KeepsFiles, Outside, SameFiles, Told}
use Rattle.database_commands.specs.Reporting.{GivesFront, LeavesAll, LeavesFront}
use Rattle.whole_files.specs.Effects.{HoldsFront}
use Rattle.whole_files.proofs.EffectLemmas.{KeepsFiles-trans, Told-trans}
use Rattle.covered_cli.specs.Covered.{Leaves, output_in}
use Rattle.covered_cli.specs.Fault.{output_of}
use Rattle.covered_cli.specs.Scoring.{IsTextOf}
use Rattle.covered_cli.proofs.Causes.{same_output}

-- what a command leaves is left by the call with its words
pub leaves_in_call : (words : List (List ℕ)) (command : Command) (before after : Outside) → IsCommand words command → LeavesFront (IsTextOf (command_values command) before) (output_of command) before after → Leaves words before after
leaves_in_call words command before after is left =
    inr (command_values command, is, subst (λ output. LeavesFront (IsTextOf (command_values command) before) output before after) (sym (same_output command)) left)

-- all that is left stays where nothing changes
pub all_later : (before middle after : Outside) → LeavesAll before middle → KeepsFiles middle after → after.printed ≡ middle.printed → LeavesAll before after
all_later before middle after left files printed = (KeepsFiles-trans before middle after left.0 files, printed ∙ left.1)

front_later_at : (name text : List ℕ) (before middle after : Option Files) → Told (HoldsFront name text) before middle → Told SameFiles middle after → Told (HoldsFront name text) before after
front_later_at name text before middle after holds same =
    Told-trans {R = HoldsFront name text} {S = SameFiles} {T = HoldsFront name text} before middle after
    (λ x y z holds kept. elim holds [ inl as_before ↦ inl (λ other. kept other ∙ as_before other) | inr has ↦ inr (has.0, record { named = kept name ∙ has.1.named; others = λ other apart. kept other ∙ has.1.others other apart }) ]) holds same

front_later : (output : Option (List ℕ)) (text : List ℕ) (before middle after : Outside) → GivesFront output text before middle → KeepsFiles middle after → after.printed ≡ middle.printed → GivesFront output text before after
front_later None text before middle after gives files printed = subst (λ p. Told (AppendsPrefix text) before.printed p) (sym printed) gives
front_later (Some name) text before middle after gives files printed = front_later_at name text before.files middle.files after.files gives files

command_later : (IsText : List ℕ → Type 0) (output : Option (List ℕ)) (before middle after : Outside) → LeavesFront IsText output before middle → KeepsFiles middle after → after.printed ≡ middle.printed → LeavesFront IsText output before after
command_later IsText output before middle after (inl all) files printed = inl (all_later before middle after all files printed)
command_later IsText output before middle after (inr (text, is, gives)) files printed = inr (text, is, front_later output text before middle after gives files printed)

-- and so does what a call leaves
pub left_later : (words : List (List ℕ)) (before middle after : Outside) → Leaves words before middle → KeepsFiles middle after → after.printed ≡ middle.printed → Leaves words before after
left_later words before middle after (inl all) files printed = inl (all_later before middle after all files printed)
left_later words before middle after (inr (values, are, left)) files printed = inr (values, are, command_later (IsTextOf values before) (output_in values) before middle after left files printed)
