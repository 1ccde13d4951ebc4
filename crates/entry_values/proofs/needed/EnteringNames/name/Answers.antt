use Rattle.std.proofs.Common.{◌≡◌, ◌∙◌, ◌∷◌, [], arith, false, true, length, sym, ◌+◌}
use Rattle.std.proofs.lemmas.Bool.{false≢true}
use Rattle.early_sets.specs.WakeState.{state_of}
use Rattle.run_views.specs.body_calls.Own.{is_in}
use Rattle.entry_values.proofs.Showing.{all_of_it, in_list, not_in_list, shows_one, shows_other, since_more}
use Rattle.entry_values.proofs.needed.EnteringNames.name.Goals as goal
use Rattle.entry_values.proofs.needed.EnteringNames.name.Goals.{else-thing-things-via-then-thing-things+else-early, else-thing-things-via-else-thing-things}

pub returns-then-early-clause-named : goal.returns-then-early-clause-named
returns-then-early-clause-named c =
    let w = c.args.self.now in
    let early = (state_of w.sets.now).early in
    let is : is_in early c.args.thing ≡ true = in_list early c.args.thing (c.early.ensures.0 c.if-early.true) in
    record {
      taken = λ start earlier h.
          since_more start earlier (c.args.thing ∷ []) w.store.ghost_name early w.codes.now w.values.now w.store.now c.show_early.new.store h
          (shows_one early w.codes.now w.values.now c.args.thing w.store.now c.show_early.new.store is c.show_early.ensures.design c.show_early.ensures.updates c.show_early.ensures.rooms c.show_early.ensures.meets);
    }

pub returns-else-thing-things-clause-named : goal.returns-else-thing-things-clause-named
returns-else-thing-things-clause-named c =
    let w = c.args.self.now in
    let early = (state_of w.sets.now).early in
    let x = c.args.thing in
    let count = length w.design.now.signals + length w.design.now.memories in
    let free : is_in early x ≡ false = elim c.else-thing-things.branch [
      | else-thing-things-via-then-thing-things+else-early v ↦ not_in_list early x (λ k. false≢true (sym v.if-early.false ∙ v.early.ensures.1 k))
      | else-thing-things-via-else-thing-things v ↦ not_in_list early x (λ k.
          let below = all_of_it count early c.requires.inside x (in_list early x k) in
          absurd (omega (arith, below, c.requires.numbers, c.things.ensures, v.if-thing-things.false)))
    ] in
    record {
      taken = λ start earlier h.
          since_more start earlier (x ∷ []) w.store.ghost_name early w.codes.now w.values.now w.store.now w.store.now h (shows_other early w.codes.now w.values.now x w.store.now free);
    }
