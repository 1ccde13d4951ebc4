use Rattle.std.proofs.Common.{◌≡◌, true, false, not, None, Some, is_none, get_or, slice_get, ap, sym, ◌∙◌}
use Rattle.std.specs.Option.{option_copied}
use Rattle.std.proofs.lemmas.Option.{get_or_from_slice_get}
use Rattle.design_model.specs.Design.{no_signal}
use Rattle.design_model.specs.declared.design.Signal.{Signal}
use Rattle.signal_binding.specs.Binding.{signal_of}
use Rattle.signal_binding.specs.Table.{code_in_instance}
use Rattle.signal_binding.proofs.AmongLemmas.{alias_of_found, alias_of_new, alias_of_none, beyond, within}
use Rattle.signal_binding.proofs.binding.add_alias.Goals as goal

pub returns-in_default : goal.returns-in_default
returns-in_default c =
    let none : slice_get c.args.design.now.signals c.args.alias.now.signal ≡ None = sym c.get.ensures.value ∙ ap option_copied c.in_default.is in
    λ aliases h. alias_of_none c.args.table.now c.args.design.now aliases c.args.codes.now c.args.alias.now h (beyond c.args.design.now.signals c.args.alias.now.signal none)

pub returns-then-is_none : goal.returns-then-is_none
returns-then-is_none c =
    let design = c.args.design.now in
    let alias = c.args.alias.now in
    let signal = c.in-Some.signal.now in
    let some : slice_get design.signals alias.signal ≡ Some signal = sym c.get.ensures.value ∙ ap option_copied c.in-Some.is in
    let same : signal_of design alias.signal ≡ signal = get_or_from_slice_get design.signals alias.signal signal no_signal some in
    let none : is_none (get_or c.args.codes.now alias.signal None) ≡ true = ap not (c.is_none.ensures ∙ ap not c.if-is_none.true) in
    λ aliases h.
    alias_of_new c.args.table.now design aliases c.args.codes.now alias h c.code_under.result none (within design.signals alias.signal signal some)
    (c.code_under.ensures ∙ ap (λ (x : Signal). code_in_instance c.args.table.now design alias.instance alias.name x.width) (sym same))

pub returns-else-is_none : goal.returns-else-is_none
returns-else-is_none c =
    let none : is_none (get_or c.args.codes.now c.args.alias.now.signal None) ≡ false = ap not (c.is_none.ensures ∙ ap not c.if-is_none.false) in
    λ aliases h. alias_of_found c.args.table.now c.args.design.now aliases c.args.codes.now c.args.alias.now h none
