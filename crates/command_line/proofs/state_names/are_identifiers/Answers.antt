use Rattle.std.proofs.Common.{rules, tests}
use Rattle.std.proofs.lemmas.Iterator.Search.{all_from_yields_List}
use Rattle.std.proofs.lemmas.Iterator.Splits.{YieldsList-from_slice_split}
use Rattle.std.specs.Prelude.{ℕ, ◌==◌}
use Rattle.cov_host.specs.Identifier.{is_identifier}
use Rattle.command_line.proofs.state_names.are_identifiers.Goals as goal

pub returns : goal.returns
returns c = all_from_yields_List is_identifier _ _ _ c.all.ensures.ran
    (YieldsList-from_slice_split _ (λ (byte : ℕ). byte == 44) c.args.bytes.now c.split.ensures.rest c.split.ensures.done c.split.ensures.closure (λ x b q k. search (rules, tests)))
    (λ x b q k. search (rules, tests))
