use Rattle.std.proofs.Common.{◌≡◌, ◌+◌, ◌<◌, ◌^◌, ◌∙◌, ◌∷◌, map, drop, subst, sym, ap, rules, arith}
use Rattle.std.proofs.lemmas.List.{at_drop_all}
use Rattle.four_state.specs.Vector.{Vector}
use Rattle.design_model.specs.Tree as flat
use Rattle.design_model.specs.View.{stmt_view, stmts_of, term_view, terms_of}
use Rattle.verilog_tree.specs.Tree.{exprs_of, statements_of, arms_of, a_statement, case_item}
use Rattle.verilog_tree.specs.View.{arms_view, exprs_view, statement_view, statements_view}
use Rattle.verilog_tree.specs.declared.statement.Arm.{out-Arm}
use Rattle.verilog_tree.specs.declared.statement.For.{out-For, the_lemmas}
use Rattle.flat_design.specs.Bodies.{statement, statements, arms, label_terms, turn_stmts}
use Rattle.flat_design.specs.Numbering.{all_nodes, lines, all_lines, item_lines, statement_nodes, all_statement_nodes, item_nodes}
use Rattle.flat_design.specs.Scope.{binding_of, with_turn}
use Rattle.flat_design.specs.declared.entry.Entry.TheVariants.{Turn}
use Rattle.elab_build.specs.Sound.{IsClear}
use Rattle.elab_checks.proofs.RestoredLemmas.{SameBut, same_itself, same_with, with_same, restored_same}
use Rattle.elab_bodies.specs.Sound.{IsSoundStatement, AreSoundStatements, AreSoundItems, InTurns}
use Rattle.elab_bodies.specs.View.{arm_view, else_view}
use Rattle.elab_bodies.proofs.ClearTurns.{clear_turn}
use Rattle.elab_bodies.proofs.FewerNodes.{turn_nodes}
use Rattle.elab_bodies.proofs.FlatLists.{values_from, stmts_before, stmts_before_none, next_stmts, next_turn, same_turns, arms_before, arms_before_none, next_arms}
use Rattle.elab_bodies.proofs.SoundLoops.{same_sound}
use Rattle.verilog_tree.proofs.StatementViews.{arms_from, body_view, statements_from}
use Rattle.elab_bodies.proofs.statements.+statement.Goals as goal

pub branch-otherwise-requires : goal.branch-otherwise-requires
branch-otherwise-requires t c =
    let kept = sym c.in_ok-yes.ensures.kept in
    let other = else_view c.args.no.now in
    let few_nodes = subst (λ g. c.statement.new.nodes + all_statement_nodes g other < 2 ^ 32) kept (omega (arith, c.requires.few_nodes, c.in_ok-test.ensures.counted, c.in_ok-yes.ensures.counted)) in
    (search rules, (c.requires.base, (subst (λ g. IsClear g) kept c.requires.clear, (subst (λ g. AreSoundStatements g other) kept c.requires.sound.2, (omega (arith, c.requires.few_lines, c.take-number.ensures.counted, c.in_ok-yes.ensures.lines), few_nodes)))))

pub select-case_arms-requires : goal.select-case_arms-requires
select-case_arms-requires t c =
    (search rules, (c.requires.base, (c.requires.clear, (c.requires.sound.1, (omega (arith, c.requires.few_lines, c.take-number.ensures.counted), omega (arith, c.requires.few_nodes, c.in_ok-on.ensures.counted))))))

pub statements-loop-part-preserved : goal.statements-loop-part-preserved
statements-loop-part-preserved t c =
    let g = binding_of c.args.scope.now in
    let i = c.loop-part.part-index in
    let l = c.loop-part.line in
    let n = c.loop-part.nodes in
    let s = statement_view c.part-item.result in
    let rest = statements_of (statements_view (drop i c.args.parts.now)) in
    let later = statements_of (statements_view (drop (i + 1) c.args.parts.now)) in
    let next : rest ≡ a_statement s later = statements_from c.args.parts.now i c.part-item.result (omega arith) c.part-item.is in
    let before = binding_of c.loop-part.scope in
    let sound : AreSoundStatements before (a_statement s later) = subst (λ ss. AreSoundStatements before ss) next c.loop-part.invariant.sound in
    let kept : before ≡ g = c.loop-part.invariant.kept in
    let same : before ≡ binding_of c.statement.new.scope = sym c.in_ok-statement.ensures.kept in
    let built = c.in_ok-statement.ensures.built ∙ ap (λ h. statement c.args.base h s l n) kept in
    let line : c.statement.new.line ≡ l + lines s = c.in_ok-statement.ensures.lines in
    let nodes : c.statement.new.nodes ≡ n + statement_nodes g s = c.in_ok-statement.ensures.counted ∙ ap (λ h. n + statement_nodes h s) kept in
    let more : all_lines rest ≡ lines s + all_lines later = ap all_lines next in
    let others : all_statement_nodes g rest ≡ statement_nodes g s + all_statement_nodes g later = ap (all_statement_nodes g) next in
    record {
      built = next_stmts c.args.base g c.loop-part.all.items c.push.new.self.items c.in_ok-statement.field-0 rest later s l n c.statement.new.line c.statement.new.nodes _ next c.in_ok-push.ensures.items built line nodes c.loop-part.invariant.built;
      lines = omega (arith, more, line, c.loop-part.invariant.lines);
      counted = omega (arith, others, nodes, c.loop-part.invariant.counted);
      kept = c.in_ok-statement.ensures.kept ∙ kept;
      clear = subst (λ h. IsClear h) same c.loop-part.invariant.clear;
      sound = subst (λ h. AreSoundStatements h later) same sound.1;
    }

pub statements-returns-clause-built : goal.statements-returns-clause-built
statements-returns-clause-built t c =
    let g = binding_of c.args.scope.now in
    let xs = map stmt_view c.loop-part.all.items in
    let end = at_drop_all (λ ps. stmts_before xs (statements c.args.base g (statements_of (statements_view ps)) c.loop-part.line c.loop-part.nodes)) c.args.parts.now c.loop-part.part-index (omega arith) in
    sym (stmts_before_none xs) ∙ sym end ∙ c.loop-part.invariant.built

pub case_arms-loop-arm-preserved : goal.case_arms-loop-arm-preserved
case_arms-loop-arm-preserved t c =
    let g = binding_of c.args.scope.now in
    let i = c.loop-arm.arm-index in
    let l = c.loop-arm.line in
    let n = c.loop-arm.nodes in
    let arm = out-Arm c.arm-item.result in
    let es = exprs_of (exprs_view arm.labels.items) in
    let s = statement_view arm.body in
    let rest = arms_of (arms_view (drop i c.args.arms.now)) in
    let later = arms_of (arms_view (drop (i + 1) c.args.arms.now)) in
    let next : rest ≡ case_item es s later = arms_from c.args.arms.now i c.arm-item.result (omega arith) c.arm-item.is in
    let before = binding_of c.loop-arm.scope in
    let sound : AreSoundItems before (case_item es s later) = subst (λ is. AreSoundItems before is) next c.loop-arm.invariant.sound in
    let kept : before ≡ g = c.loop-arm.invariant.kept in
    let same : before ≡ binding_of c.statement.new.scope = sym c.in_ok-body.ensures.kept in
    let here : exprs_of (exprs_view c.deref.result.now) ≡ es = ap (λ ls. exprs_of (exprs_view ls)) c.deref.ensures.value in
    let labels = c.in_ok-labels.ensures.built ∙ ap (λ h. label_terms c.args.base h c.args.shape (exprs_of (exprs_view c.deref.result.now)) n) kept ∙ ap (λ ls. label_terms c.args.base g c.args.shape ls n) here in
    let marks : c.label_terms.new.nodes ≡ n + all_nodes g es = c.in_ok-labels.ensures.counted ∙ ap (λ h. n + all_nodes h (exprs_of (exprs_view c.deref.result.now))) kept ∙ ap (λ ls. n + all_nodes g ls) here in
    let body = c.in_ok-body.ensures.built ∙ ap (λ h. statement c.args.base h s l c.label_terms.new.nodes) kept ∙ ap (statement c.args.base g s l) marks in
    let line : c.statement.new.line ≡ l + lines s = c.in_ok-body.ensures.lines in
    let nodes : c.statement.new.nodes ≡ n + all_nodes g es + statement_nodes g s = c.in_ok-body.ensures.counted ∙ ap (λ h. c.label_terms.new.nodes + statement_nodes h s) kept ∙ ap (λ m. m + statement_nodes g s) marks in
    let more : item_lines rest ≡ lines s + item_lines later = ap item_lines next in
    let others : item_nodes g rest ≡ all_nodes g es + statement_nodes g s + item_nodes g later = ap (item_nodes g) next in
    record {
      built = next_arms c.args.base g c.args.shape c.loop-arm.all.items c.push.new.self.items c.arm.result (terms_of (map term_view c.in_ok-labels.labels.items)) (stmt_view c.in_ok-body.body) rest later es s l n c.statement.new.line c.statement.new.nodes _ next c.in_ok-push.ensures.items c.arm.ensures labels body line nodes c.loop-arm.invariant.built;
      lines = omega (arith, more, line, c.loop-arm.invariant.lines);
      counted = omega (arith, others, nodes, c.loop-arm.invariant.counted);
      kept = c.in_ok-body.ensures.kept ∙ kept;
      clear = subst (λ h. IsClear h) same c.loop-arm.invariant.clear;
      sound = subst (λ h. AreSoundItems h later) same sound.2;
    }

pub case_arms-returns-clause-built : goal.case_arms-returns-clause-built
case_arms-returns-clause-built t c =
    let g = binding_of c.args.scope.now in
    let xs = map arm_view c.loop-arm.all.items in
    let end = at_drop_all (λ rows. arms_before xs (arms c.args.base g c.args.shape (arms_of (arms_view rows)) c.loop-arm.line c.loop-arm.nodes)) c.args.arms.now c.loop-arm.arm-index (omega arith) in
    sym (arms_before_none xs) ∙ sym end ∙ c.loop-arm.invariant.built

pub for_loop-turn_statements-requires : goal.for_loop-turn_statements-requires
for_loop-turn_statements-requires t c =
    let g = binding_of c.args.scope.now in
    let values = c.as_slice-values.ensures ∙ c.in_ok-values.ensures in
    let body = sym (body_view c.args.header.now) in
    (search (rules, the_lemmas), (c.requires.base, (c.requires.clear, (same_sound _ _ _ _ g _ _ values c.in_ok-variable.ensures body c.requires.sound.1, (omega (arith, ap lines body, c.requires.few_lines, c.take-number.ensures.counted), omega (arith, ap (statement_nodes g) body, c.requires.few_nodes))))))

pub for_loop-pass_lines-requires : goal.for_loop-pass_lines-requires
for_loop-pass_lines-requires t c =
    let body = sym (body_view c.args.header.now) in
    omega (arith, ap lines body, c.requires.few_lines, c.take-number.ensures.counted)

pub for_loop-pass_statement_nodes-requires : goal.for_loop-pass_statement_nodes-requires
for_loop-pass_statement_nodes-requires t c =
    let g = binding_of c.args.scope.now in
    let x = c.in_ok-variable.variable in
    let before = c.copied-before.ensures ∙ c.get.ensures.value ∙ ap g c.as_slice.ensures in
    let kept = c.in_ok-put_back.ensures ∙ restored_same x c.copied-before.result (binding_of c.turn_statements.new.scope) g c.in_ok-turns.ensures.kept (sym before) in
    let same = ap (λ h. statement_nodes h (statement_view (out-For c.args.header.now).body)) kept ∙ ap (statement_nodes g) (sym (body_view c.args.header.now)) in
    omega (arith, same, c.requires.few_nodes)

pub for_loop-returns-clause-built : goal.for_loop-returns-clause-built
for_loop-returns-clause-built t c =
    let g = binding_of c.args.scope.now in
    let values = c.as_slice-values.ensures ∙ c.in_ok-values.ensures in
    let body = sym (body_view c.args.header.now) in
    let turns = c.in_ok-turns.ensures.built ∙ same_turns c.args.base _ _ _ _ g _ _ _ _ c.args.nodes.now values c.in_ok-variable.ensures body c.take-number.ensures.counted in
    c.in_ok-unrolled.ensures ∙ ap (λ k. flat.turns c.args.place k (stmts_of (map stmt_view c.in_ok-turns.turns.items))) c.take-number.ensures.value ∙ ap (flat.turns c.args.place c.args.line.now) turns

pub for_loop-returns-clause-kept : goal.for_loop-returns-clause-kept
for_loop-returns-clause-kept t c =
    let g = binding_of c.args.scope.now in
    let x = c.in_ok-variable.variable in
    let before = c.copied-before.ensures ∙ c.get.ensures.value ∙ ap g c.as_slice.ensures in
    c.in_ok-put_back.ensures ∙ restored_same x c.copied-before.result (binding_of c.turn_statements.new.scope) g c.in_ok-turns.ensures.kept (sym before)

pub for_loop-returns-clause-counted : goal.for_loop-returns-clause-counted
for_loop-returns-clause-counted t c =
    let g = binding_of c.args.scope.now in
    let n = c.args.nodes.now in
    let kept = for_loop-returns-clause-kept t c in
    let body = sym (body_view c.args.header.now) in
    c.pass_statement_nodes.ensures ∙ ap (λ h. n + statement_nodes h (statement_view (out-For c.args.header.now).body)) kept ∙ ap (λ s. n + statement_nodes g s) body

pub turn_statements-statement-requires : goal.turn_statements-statement-requires
turn_statements-statement-requires t c =
    let g = binding_of c.args.scope.now in
    let x = c.args.variable.now in
    let v = c.value-item.result in
    let s = statement_view c.args.body.now in
    let i = c.loop-value.value-index in
    let next : drop i c.args.values.now ≡ v ∷ drop (i + 1) c.args.values.now = values_from c.args.values.now i v (omega arith) c.value-item.is in
    let sound : InTurns (v ∷ drop (i + 1) c.args.values.now) (λ v. IsSoundStatement (with_turn x v g) s) = subst (λ vs. InTurns vs (λ v. IsSoundStatement (with_turn x v g) s)) next c.loop-value.invariant.sound in
    let turn : with_turn x v g ≡ binding_of c.insert.new.self = sym (c.in_ok-insert.ensures ∙ with_same x (Turn v) (binding_of c.loop-value.scope) g c.loop-value.invariant.kept) in
    let few_nodes = subst (λ h. c.args.nodes + statement_nodes h s < 2 ^ 32) turn (omega (arith, turn_nodes x v g s, c.requires.few_nodes)) in
    (search rules, (c.requires.base, (subst (λ h. IsClear h) turn (clear_turn x v g c.requires.clear), (subst (λ h. IsSoundStatement h s) turn sound.0, (c.requires.few_lines, few_nodes)))))

pub turn_statements-loop-value-preserved : goal.turn_statements-loop-value-preserved
turn_statements-loop-value-preserved t c =
    let g = binding_of c.args.scope.now in
    let x = c.args.variable.now in
    let v = c.value-item.result in
    let s = statement_view c.args.body.now in
    let l = c.args.line in
    let n = c.args.nodes in
    let i = c.loop-value.value-index in
    let later = drop (i + 1) c.args.values.now in
    let next : drop i c.args.values.now ≡ v ∷ later = values_from c.args.values.now i v (omega arith) c.value-item.is in
    let sound : InTurns (v ∷ later) (λ v. IsSoundStatement (with_turn x v g) s) = subst (λ vs. InTurns vs (λ v. IsSoundStatement (with_turn x v g) s)) next c.loop-value.invariant.sound in
    let turn : binding_of c.insert.new.self ≡ with_turn x v g = c.in_ok-insert.ensures ∙ with_same x (Turn v) (binding_of c.loop-value.scope) g c.loop-value.invariant.kept in
    let after : with_turn x v g ≡ binding_of c.statement.new.scope = sym (c.in_ok-statement.ensures.kept ∙ turn) in
    let built = c.in_ok-statement.ensures.built ∙ ap (λ h. statement c.args.base h s l n) turn in
    record {
      built = next_turn (λ v. statement c.args.base (with_turn x v g) s l n) c.loop-value.all.items c.push.new.self.items c.in_ok-statement.field-0 v (drop i c.args.values.now) later _ next c.in_ok-push.ensures.items built c.loop-value.invariant.built;
      kept = subst (λ h. SameBut x h g) after (same_with x (Turn v) g g (same_itself x g));
      sound = sound.1;
    }

pub turn_statements-returns-clause-built : goal.turn_statements-returns-clause-built
turn_statements-returns-clause-built t c =
    let g = binding_of c.args.scope.now in
    let xs = map stmt_view c.loop-value.all.items in
    let f : Vector → flat.Stmt = λ v. statement c.args.base (with_turn c.args.variable.now v g) (statement_view c.args.body.now) c.args.line c.args.nodes in
    let end = at_drop_all (λ vs. stmts_before xs (turn_stmts vs f)) c.args.values.now c.loop-value.value-index (omega arith) in
    sym (stmts_before_none xs) ∙ sym end ∙ c.loop-value.invariant.built
