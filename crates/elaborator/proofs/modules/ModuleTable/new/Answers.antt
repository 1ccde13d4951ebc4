use Rattle.std.proofs.Common.{◌≡◌, refl, ap, sym, ◌∙◌, ◌+◌, ◌∷◌, [], drop, arith}
use Rattle.std.proofs.lemmas.Grind.{common_steps}
use Rattle.verilog_tree.specs.View.{module_view, modules_view}
use Rattle.elaborator.specs.Modules.{first_places, or_bound}
use Rattle.elab_scope.specs.NameMap.{bound_to}
use Rattle.elab_scope.specs.Tally.{after_faults}
use Rattle.elaborator.proofs.ModuleLemmas.{modules_by, places_next, after_next, or_nothing, by_places}
use Rattle.elaborator.proofs.modules.ModuleTable.new.Goals as goal

pub loop-place-init : goal.loop-place-init
loop-place-init c = record { places = rw c.new-places.ensures refl; faults = rw c.new-places.ensures refl }

pub loop-place-preserved : goal.loop-place-preserved
loop-place-preserved c =
    let k = c.loop-place.place in
    let f = bound_to c.loop-place.places in
    let m = module_view c.index-modules-place.result in
    let ms = modules_view (drop (k + 1) c.args.modules.now) in
    let split : modules_view (drop k c.args.modules.now) ≡ m ∷ ms = grind (arith, common_steps) in
    record {
      places = rw c.in_ok-note_module.ensures.places (places_next f k m ms) ∙ ap (λ ms. or_bound f (first_places k ms)) (sym split) ∙ c.loop-place.invariant.places;
      faults =
          sym (after_next c.loop-place.tally c.note_module.new.tally f (bound_to c.note_module.new.places) k m ms c.in_ok-note_module.ensures.met c.in_ok-note_module.ensures.places) ∙
          ap (λ ms. after_faults c.loop-place.tally (modules_by f k ms)) (sym split) ∙ c.loop-place.invariant.faults;
    }

pub invariant_of-result : goal.invariant_of-result
invariant_of-result c =
    let over : modules_view (drop c.loop-place.place c.args.modules.now) ≡ [] = grind (arith, common_steps) in
    let f = bound_to c.loop-place.places in
    record {
      firsts = sym (or_nothing f c.loop-place.place) ∙ ap (λ ms. or_bound f (first_places c.loop-place.place ms)) (sym over) ∙ c.loop-place.invariant.places;
      countable = c.requires;
    }

pub returns-clause-met : goal.returns-clause-met
returns-clause-met c =
    let over : modules_view (drop c.loop-place.place c.args.modules.now) ≡ [] = grind (arith, common_steps) in
    let f = bound_to c.loop-place.places in
    ap (λ ms. after_faults c.loop-place.tally (modules_by f c.loop-place.place ms)) (sym over) ∙ c.loop-place.invariant.faults ∙ ap (after_faults c.args.tally.now) (sym (by_places [] _ 0 (modules_view c.args.modules.now) (λ x. refl)))
