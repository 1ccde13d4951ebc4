use Rattle.std.proofs.Common.{◌∙◌, rules, tests}
use Rattle.std.proofs.lemmas.Iterator.Search.{all_from_yields_List}
use Rattle.std.proofs.lemmas.Iterator.Splits.{YieldsList-from_slice_split}
use Rattle.std.specs.Prelude.{ℕ, ◌==◌}
use Rattle.command_line.specs.ValueForm.{is_path_part}
use Rattle.command_line.proofs.value_form.is_instance_path.Goals as goal

pub returns : goal.returns
returns c = all_from_yields_List is_path_part _ _ _ c.all.ensures.ran
    (YieldsList-from_slice_split _ (λ (byte : ℕ). byte == 46) c.args.value.now (c.split.ensures.rest ∙ c.as_bytes.ensures.value) c.split.ensures.done c.split.ensures.closure (λ x b q k. search (rules, tests)))
    (λ x b q k. search (rules, tests))
