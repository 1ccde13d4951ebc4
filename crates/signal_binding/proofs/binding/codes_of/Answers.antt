use Rattle.std.proofs.Common.{◌≡◌, ◌≤◌, length, drop, ◌∙◌, arith}
use Rattle.std.proofs.lemmas.List.{take-append-le, take_all}
use Rattle.signal_binding.proofs.AmongLemmas.{codes_are}
use Rattle.signal_binding.proofs.binding.codes_of.Goals as goal

pub returns : goal.returns
returns c =
    let codes = c.add_aliases.new.codes in
    let n = c.in_ok-codes.codes.len in
    let same : length codes ≡ n = omega (arith, c.add_aliases.auto.codes, c.as_mut_slice.ensures.len) in
    let no_less : n ≤ length codes = omega arith in
    let no_more : length codes ≤ n = omega arith in
    take-append-le n codes (drop (length codes) c.in_ok-codes.codes.items) no_less
    ∙ take_all n codes no_more
    ∙ codes_are c.in_ok-table.table c.args.design.now c.args.vars.now c.args.instance.now c.in_ok-table.ensures codes c.add_aliases.ensures
