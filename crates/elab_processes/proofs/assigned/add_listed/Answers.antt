use Rattle.std.proofs.Common.{◌≡◌, ◌∷◌, [], ◌+◌, ◌++◌, append-nil, sym, ap, ◌∙◌, drop}
use Rattle.flat_design.specs.Processes.{listed_signals, signal_numbers}
use Rattle.flat_design.specs.Scope.{binding_of, look_up}
use Rattle.elab_processes.specs.Listed.{has}
use Rattle.elab_processes.proofs.SignalLemmas.{listed_next, names_next}
use Rattle.elab_processes.proofs.assigned.add_listed.Goals as goal

pub loop-name-preserved : goal.loop-name-preserved
loop-name-preserved c =
    let g = binding_of c.args.scope.now in
    let k = c.loop-name.known in
    let x = c.name-item.result in
    let i = c.loop-name.name-index in
    let here : has c.add_name.new.known ≡ has (listed_signals g (x ∷ []) ++ k) =
    c.in_ok-add_name.ensures ∙ ap (λ y. has (signal_numbers (look_up g y) ++ k)) c.as_slice.ensures ∙ ap (λ l. has (l ++ k)) (sym (append-nil (signal_numbers (look_up g x.name)))) in
    listed_next g k c.add_name.new.known _ (x ∷ []) (drop (i + 1) c.args.names.now) _ (names_next c.args.names.now i x c.loop-name-test.true c.name-item.is) c.loop-name.invariant here
