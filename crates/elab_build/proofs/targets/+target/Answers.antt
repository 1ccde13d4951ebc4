use Rattle.std.proofs.Common.{◌≡◌, ◌+◌, ◌∙◌, map, drop, subst, sym, ap, rules, arith}
use Rattle.std.proofs.lemmas.List.{at_drop_all}
use Rattle.design_model.specs.View.{target_view}
use Rattle.flat_design.specs.Numbering.{nodes, all_nodes}
use Rattle.flat_design.specs.Scope.{binding_of, is_memory_name, shape}
use Rattle.flat_design.specs.Targets as spec
use Rattle.flat_design.specs.Targets.{targets}
use Rattle.verilog_tree.specs.Tree.{exprs_of, an_expr}
use Rattle.verilog_tree.specs.View.{expr_view, exprs_view}
use Rattle.elab_const.proofs.PartLemmas.{next_part_is}
use Rattle.verilog_tree.proofs.ExprViews.{bit_view, part_view}
use Rattle.elab_build.specs.Sound.{IsSoundTarget}
use Rattle.elab_build.specs.SoundTargets.{EachSoundTarget}
use Rattle.elab_build.proofs.SoundTargets.{target_bit, target_part, target_concat, target_sound}
use Rattle.elab_build.proofs.TargetLists.{bit_built, part_built, targets_before, targets_before_none, next_targets}
use Rattle.elab_build.proofs.targets.+target.Goals as goal

pub targets-loop-part-preserved : goal.targets-loop-part-preserved
targets-loop-part-preserved t c =
    let g = binding_of c.args.scope.now in
    let i = c.loop-part.part-index in
    let rest = exprs_of (exprs_view (drop i c.args.parts.now)) in
    let later = exprs_of (exprs_view (drop (i + 1) c.args.parts.now)) in
    let e = expr_view c.part-item.result in
    let next : rest ≡ an_expr e later = next_part_is c.args.parts.now i _ c.part-item.result (omega arith) c.part-item.is in
    let sound : EachSoundTarget g (an_expr e later) = subst (λ es. EachSoundTarget g es) next c.loop-part.invariant.sound in
    let count : all_nodes g rest ≡ nodes g e + all_nodes g later = ap (all_nodes g) next in
    let after : c.target.new.nodes ≡ c.loop-part.nodes + nodes g e = c.in_ok-target.ensures.counted in
    record {
      built = next_targets c.args.base g c.loop-part.all.items c.push.new.self.items c.in_ok-target.field-0 rest later e c.loop-part.nodes c.target.new.nodes _ next c.in_ok-push.ensures.items c.in_ok-target.ensures.built after c.loop-part.invariant.built;
      counted = omega (arith, count, after, c.loop-part.invariant.counted);
      sound = sound.1;
    }

pub targets-returns-clause-built : goal.targets-returns-clause-built
targets-returns-clause-built t c =
    let g = binding_of c.args.scope.now in
    let xs = map target_view c.loop-part.all.items in
    let end = at_drop_all (λ ps. targets_before xs (targets c.args.base g (exprs_of (exprs_view ps)) c.loop-part.nodes)) c.args.parts.now c.loop-part.part-index (omega arith) in
    sym (targets_before_none xs) ∙ sym end ∙ c.loop-part.invariant.built

pub target-alone-requires-clause-sound : goal.target-alone-requires-clause-sound
target-alone-requires-clause-sound t c =
    let e = c.args.expr.now in
    let g = binding_of c.args.scope.now in
    let sound = subst (λ x. IsSoundTarget g x) (bit_view e c.in-Bit.of c.in-Bit.index (sym c.deref.ensures ∙ c.in-Bit.is)) c.requires.sound in
    (target_bit g e.place (expr_view c.in-Bit.of) (expr_view c.in-Bit.index) c.requires.clear sound).0

pub target-alone-requires-clause-few : goal.target-alone-requires-clause-few
target-alone-requires-clause-few t c =
    let e = c.args.expr.now in
    let all = ap (nodes (binding_of c.args.scope.now)) (bit_view e c.in-Bit.of c.in-Bit.index (sym c.deref.ensures ∙ c.in-Bit.is)) in
    omega (arith, all, c.requires.few)

pub target-shape_of-width-requires-in-Part : goal.target-shape_of-width-requires-in-Part
target-shape_of-width-requires-in-Part t c = record { sound = target_sound (binding_of c.args.scope.now) (expr_view c.args.expr.now) c.requires.clear c.requires.sound }

pub target-alone-requires-in-Part-clause-sound : goal.target-alone-requires-in-Part-clause-sound
target-alone-requires-in-Part-clause-sound t c =
    let e = c.args.expr.now in
    let g = binding_of c.args.scope.now in
    let p = c.in-Part in
    let sound = subst (λ x. IsSoundTarget g x) (part_view e p.of p.high p.low p.bracket (sym c.deref.ensures ∙ p.is)) c.requires.sound in
    (target_part g e.place (expr_view p.of) (expr_view p.high) (expr_view p.low) p.bracket c.requires.clear sound).1.0

pub target-alone-requires-in-Part-clause-few : goal.target-alone-requires-in-Part-clause-few
target-alone-requires-in-Part-clause-few t c =
    let p = c.in-Part in
    let all = ap (nodes (binding_of c.args.scope.now)) (part_view c.args.expr.now p.of p.high p.low p.bracket (sym c.deref.ensures ∙ p.is)) in
    omega (arith, all, c.requires.few)

pub concat_target-targets-requires : goal.concat_target-targets-requires
concat_target-targets-requires t c =
    (search rules, (c.requires.base, (c.requires.clear, (target_concat (binding_of c.args.scope.now) c.args.place (exprs_of (exprs_view c.args.parts.now)) c.requires.sound, omega (arith, c.requires.few)))))

pub target-returns-else-is_memory_name-clause-built : goal.target-returns-else-is_memory_name-clause-built
target-returns-else-is_memory_name-clause-built t c =
    let e = c.args.expr.now in
    let g = binding_of c.args.scope.now in
    let n = c.args.nodes.now in
    let of = expr_view c.in-Bit.of in
    let index = expr_view c.in-Bit.index in
    let view = bit_view e c.in-Bit.of c.in-Bit.index (sym c.deref.ensures ∙ c.in-Bit.is) in
    let sound = subst (λ x. IsSoundTarget g x) view c.requires.sound in
    let none = (target_bit g e.place of index c.requires.clear sound).1 in
    let number = c.thing_number-thing.ensures in
    let other = sym c.is_memory_name.ensures ∙ c.if-is_memory_name.false in
    let built = c.in_ok-index-in-Bit.ensures.built in
    c.bits.ensures ∙ bit_built c.args.base g e.place of index n c.thing_number-thing.result _ none other number built ∙ ap (λ x. spec.target c.args.base g x n) (sym view)

pub target-returns-else-is_memory_name-clause-counted : goal.target-returns-else-is_memory_name-clause-counted
target-returns-else-is_memory_name-clause-counted t c =
    let e = c.args.expr.now in
    let g = binding_of c.args.scope.now in
    let view = bit_view e c.in-Bit.of c.in-Bit.index (sym c.deref.ensures ∙ c.in-Bit.is) in
    let sound = subst (λ x. IsSoundTarget g x) view c.requires.sound in
    let none = (target_bit g e.place (expr_view c.in-Bit.of) (expr_view c.in-Bit.index) c.requires.clear sound).1 in
    let all = ap (nodes g) view in
    omega (arith, none, all, c.in_ok-index-in-Bit.ensures.counted)

pub target-returns-in_ok-low-in-Part-clause-built : goal.target-returns-in_ok-low-in-Part-clause-built
target-returns-in_ok-low-in-Part-clause-built t c =
    let e = c.args.expr.now in
    let g = binding_of c.args.scope.now in
    let n = c.args.nodes.now in
    let p = c.in-Part in
    let of = expr_view p.of in
    let high = expr_view p.high in
    let low = expr_view p.low in
    let view = part_view e p.of p.high p.low p.bracket (sym c.deref.ensures ∙ p.is) in
    let sound = subst (λ x. IsSoundTarget g x) view c.requires.sound in
    let none = (target_part g e.place of high low p.bracket c.requires.clear sound).1.1 in
    let number = c.thing_number-signal.ensures in
    let width = ap (λ s. s.width) (c.shape_of-width.ensures.value ∙ ap (shape g) view) in
    let built = c.in_ok-low-in-Part.ensures.built in
    c.bits-in-Part.ensures ∙ part_built c.args.base g e.place of high low p.bracket n c.thing_number-signal.result c.shape_of-width.result.width _ none.0 none.1 number width built ∙ ap (λ x. spec.target c.args.base g x n) (sym view)

pub target-returns-in_ok-low-in-Part-clause-counted : goal.target-returns-in_ok-low-in-Part-clause-counted
target-returns-in_ok-low-in-Part-clause-counted t c =
    let e = c.args.expr.now in
    let g = binding_of c.args.scope.now in
    let p = c.in-Part in
    let view = part_view e p.of p.high p.low p.bracket (sym c.deref.ensures ∙ p.is) in
    let sound = subst (λ x. IsSoundTarget g x) view c.requires.sound in
    let none = (target_part g e.place (expr_view p.of) (expr_view p.high) (expr_view p.low) p.bracket c.requires.clear sound).1.1 in
    let all = ap (nodes g) view in
    omega (arith, none.0, none.1, all, c.in_ok-low-in-Part.ensures.counted)
