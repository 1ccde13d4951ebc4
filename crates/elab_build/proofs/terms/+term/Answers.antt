use Rattle.std.proofs.Common.{◌≡◌, ◌+◌, ◌∙◌, map, drop, subst, sym, ap, rules, arith}
use Rattle.std.proofs.lemmas.List.{at_drop_all}
use Rattle.design_model.specs.View.{term_view}
use Rattle.flat_design.specs.Identifiers.{base_name}
use Rattle.flat_design.specs.Numbering.{nodes, all_nodes, one_if}
use Rattle.flat_design.specs.Scope.{binding_of, is_memory_name, look_up, thing_of, thing_number}
use Rattle.flat_design.specs.Terms.{terms}
use Rattle.verilog_tree.specs.Tree.{exprs_of, an_expr}
use Rattle.verilog_tree.specs.View.{expr_view, exprs_view}
use Rattle.elab_const.proofs.PartLemmas.{next_part_is}
use Rattle.elab_build.specs.Sound.{AreSound}
use Rattle.elab_build.proofs.SoundParts.{sound_binary, sound_choice, sound_part, sound_slide, sound_bit, sound_concat, sound_repeat, no_choice}
use Rattle.elab_build.proofs.TermLists.{terms_before, terms_before_none, next_terms}
use Rattle.elab_build.proofs.terms.+term.Goals as goal

pub binary_term-operand_shapes-requires : goal.binary_term-operand_shapes-requires
binary_term-operand_shapes-requires t c =
    let s = sound_binary (binding_of c.args.scope.now) c.args.around.place c.args.op (expr_view c.args.a.now) (expr_view c.args.b.now) c.requires.sound in
    record { left = s.0; right = s.1 }

pub binary_term-term-requires : goal.binary_term-term-requires
binary_term-term-requires t c =
    let s = sound_binary (binding_of c.args.scope.now) c.args.around.place c.args.op (expr_view c.args.a.now) (expr_view c.args.b.now) c.requires.sound in
    let test = ap one_if c.one_names_thing.ensures in
    (search rules, (c.requires.base, (s.0, omega (arith, c.requires.few, test, c.take_if-node.ensures.counted))))

pub binary_term-term-requires-2 : goal.binary_term-term-requires-2
binary_term-term-requires-2 t c =
    let s = sound_binary (binding_of c.args.scope.now) c.args.around.place c.args.op (expr_view c.args.a.now) (expr_view c.args.b.now) c.requires.sound in
    let test = ap one_if c.one_names_thing.ensures in
    (search rules, (c.requires.base, (s.1, omega (arith, c.requires.few, test, c.take_if-node.ensures.counted, c.in_ok-a.ensures.counted))))

pub choice_term-condition_term-requires : goal.choice_term-condition_term-requires
choice_term-condition_term-requires t c =
    let s = sound_choice (binding_of c.args.scope.now) c.args.around.place (expr_view c.args.test.now) (expr_view c.args.yes.now) (expr_view c.args.no.now) c.requires.sound in
    (search rules, (c.requires.base, (s.0, omega (arith, c.requires.few))))

pub choice_term-term-requires : goal.choice_term-term-requires
choice_term-term-requires t c =
    let s = sound_choice (binding_of c.args.scope.now) c.args.around.place (expr_view c.args.test.now) (expr_view c.args.yes.now) (expr_view c.args.no.now) c.requires.sound in
    (search rules, (c.requires.base, (s.1.0, omega (arith, c.requires.few, c.in_ok-test.ensures.counted))))

pub choice_term-term-requires-2 : goal.choice_term-term-requires-2
choice_term-term-requires-2 t c =
    let s = sound_choice (binding_of c.args.scope.now) c.args.around.place (expr_view c.args.test.now) (expr_view c.args.yes.now) (expr_view c.args.no.now) c.requires.sound in
    (search rules, (c.requires.base, (s.1.1, omega (arith, c.requires.few, c.in_ok-test.ensures.counted, c.in_ok-yes.ensures.counted))))

pub part_term-alone-requires-2 : goal.part_term-alone-requires-2
part_term-alone-requires-2 t c =
    let s = sound_part (binding_of c.args.scope.now) c.args.around.place (expr_view c.args.of.now) (expr_view c.args.high.now) (expr_view c.args.low.now) c.args.bracket c.requires.sound in
    (search rules, (c.requires.base, (s.1.0, omega (arith, c.requires.few, c.in_ok-of.ensures.counted))))

pub part_term-alone-requires-3 : goal.part_term-alone-requires-3
part_term-alone-requires-3 t c =
    let s = sound_part (binding_of c.args.scope.now) c.args.around.place (expr_view c.args.of.now) (expr_view c.args.high.now) (expr_view c.args.low.now) c.args.bracket c.requires.sound in
    (search rules, (c.requires.base, (s.1.1, omega (arith, c.requires.few, c.in_ok-of.ensures.counted, c.in_ok-high.ensures.counted))))

pub slide_term-alone-requires-2 : goal.slide_term-alone-requires-2
slide_term-alone-requires-2 t c =
    let s = sound_slide (binding_of c.args.scope.now) c.args.around.place (expr_view c.args.of.now) (expr_view c.args.from.now) (expr_view c.args.width.now) c.args.up c.args.bracket c.requires.sound in
    (search rules, (c.requires.base, (s.1.0, omega (arith, c.requires.few, c.in_ok-of.ensures.counted))))

pub slide_term-alone-requires-3 : goal.slide_term-alone-requires-3
slide_term-alone-requires-3 t c =
    let s = sound_slide (binding_of c.args.scope.now) c.args.around.place (expr_view c.args.of.now) (expr_view c.args.from.now) (expr_view c.args.width.now) c.args.up c.args.bracket c.requires.sound in
    (search rules, (c.requires.base, (s.1.1, omega (arith, c.requires.few, c.in_ok-of.ensures.counted, c.in_ok-from.ensures.counted))))

pub bit_term-alone-requires-2 : goal.bit_term-alone-requires-2
bit_term-alone-requires-2 t c =
    let g = binding_of c.args.scope.now in
    let of = expr_view c.args.of.now in
    let other = no_choice (is_memory_name g of) (thing_number c.args.base (thing_of (look_up g (base_name of).name))) c.memory_of.result c.memory_of.ensures c.in_default.is in
    let s = sound_bit g c.args.around.place of (expr_view c.args.index.now) other c.requires.sound in
    (search rules, (c.requires.base, (s.0, omega (arith, c.requires.few))))

pub bit_term-alone-requires-3 : goal.bit_term-alone-requires-3
bit_term-alone-requires-3 t c =
    let g = binding_of c.args.scope.now in
    let of = expr_view c.args.of.now in
    let other = no_choice (is_memory_name g of) (thing_number c.args.base (thing_of (look_up g (base_name of).name))) c.memory_of.result c.memory_of.ensures c.in_default.is in
    let s = sound_bit g c.args.around.place of (expr_view c.args.index.now) other c.requires.sound in
    (search rules, (c.requires.base, (s.1, omega (arith, c.requires.few, c.in_ok-of.ensures.counted))))

pub concat_term-terms-requires : goal.concat_term-terms-requires
concat_term-terms-requires t c =
    (search rules, (c.requires.base, (sound_concat (binding_of c.args.scope.now) c.args.around.place (exprs_of (exprs_view c.args.parts.now)) c.requires.sound, omega (arith, c.requires.few))))

pub repeat_term-alone-requires : goal.repeat_term-alone-requires
repeat_term-alone-requires t c =
    (search rules, (c.requires.base, ((sound_repeat (binding_of c.args.scope.now) c.args.around.place (expr_view c.args.times.now) (exprs_of (exprs_view c.args.parts.now)) c.requires.sound).0, omega (arith, c.requires.few))))

pub repeat_term-terms-requires : goal.repeat_term-terms-requires
repeat_term-terms-requires t c =
    (search rules, (c.requires.base, ((sound_repeat (binding_of c.args.scope.now) c.args.around.place (expr_view c.args.times.now) (exprs_of (exprs_view c.args.parts.now)) c.requires.sound).1, omega (arith, c.requires.few, c.in_ok-times.ensures.counted))))

pub terms-loop-part-preserved : goal.terms-loop-part-preserved
terms-loop-part-preserved t c =
    let g = binding_of c.args.scope.now in
    let i = c.loop-part.part-index in
    let rest = exprs_of (exprs_view (drop i c.args.parts.now)) in
    let later = exprs_of (exprs_view (drop (i + 1) c.args.parts.now)) in
    let e = expr_view c.part-item.result in
    let next : rest ≡ an_expr e later = next_part_is c.args.parts.now i _ c.part-item.result (omega arith) c.part-item.is in
    let sound : AreSound g (an_expr e later) = subst (λ es. AreSound g es) next c.loop-part.invariant.sound in
    let count : all_nodes g rest ≡ nodes g e + all_nodes g later = ap (all_nodes g) next in
    let after : c.alone.new.nodes ≡ c.loop-part.nodes + nodes g e = c.in_ok-alone.ensures.counted in
    record {
      built = next_terms c.args.base g c.loop-part.all.items c.push.new.self.items c.in_ok-alone.field-0 rest later e c.loop-part.nodes c.alone.new.nodes _ next c.in_ok-push.ensures.items c.in_ok-alone.ensures.built after c.loop-part.invariant.built;
      counted = omega (arith, count, after, c.loop-part.invariant.counted);
      sound = sound.1;
    }

pub terms-returns-clause-built : goal.terms-returns-clause-built
terms-returns-clause-built t c =
    let g = binding_of c.args.scope.now in
    let xs = map term_view c.loop-part.all.items in
    let end = at_drop_all (λ ps. terms_before xs (terms c.args.base g (exprs_of (exprs_view ps)) c.loop-part.nodes)) c.args.parts.now c.loop-part.part-index (omega arith) in
    sym (terms_before_none xs) ∙ sym end ∙ c.loop-part.invariant.built
