use Rattle.std.proofs.Common.{◌≡◌, ◌<◌, ◌-◌, Ok, refl, sym, arith, rules, subst, ◌∙◌}
use Rattle.std.proofs.lemmas.Result.{err_from_is_err_and}
use Rattle.grammar_rules.specs.Rule.{nest}
use Rattle.grammar_rules.specs.Grammar.{phrase, reads}
use Rattle.grammar_rules.proofs.Language.{phrase_down, falls}
use Rattle.verilog_grammar.specs.declared.kind.Kind.TheVariants as k
use Rattle.verilog_grammar.specs.declared.level.Level.{Level}
use Rattle.verilog_grammar.specs.declared.level.Level.TheVariants as level
use Rattle.verilog_grammar.specs.Language.{verilog, rank, expression, operand}
use Rattle.verilog_grammar.specs.Verilog.{grammar}
use Rattle.verilog_grammar.specs.Parts.{after}
use Rattle.verilog_grammar.specs.Expressions.{is_selected_once, level_rule, selects_rule}
use Rattle.verilog_grammar.proofs.Verilog.{tables, passes}
use Rattle.verilog_expressions.specs.Measured.{measured_view}
use Rattle.verilog_expressions.specs.Others.{others_view}
use Rattle.verilog_expressions.proofs.LevelRules.{operators_stop, operators_more, operators_fail, operator_takes_tokens, level_read, level_fails, no_tighter, same_rank}
use Rattle.verilog_expressions.proofs.Choices.{expr_alone, expr_chosen}
use Rattle.verilog_expressions.proofs.Lowness.{read_low}
use Rattle.verilog_expressions.proofs.Selects.{name_alone, name_fails, once_alone, twice_selected, once_read, name_once, twice}
use Rattle.verilog_expressions.proofs.Operators.{unary_read, operation_read, cast_read}
use Rattle.verilog_expressions.proofs.Others.{none_else, first_alone, one_else, one_behind, going_none, others_more, others_end, others_fail, item_read, no_token, no_phrase}
use Rattle.verilog_expressions.proofs.+expr.Goals as goal

pub expr::expression-returns-then-not-sees : goal.expr::expression-returns-then-not-sees
expr::expression-returns-then-not-sees t c =
    let q : 0 < c.args.depth = omega arith in
    phrase_down verilog grammar c.args.depth expression c.args.cursor.now q
    ∙ expr_alone (c.args.depth - 1) c.args.cursor.now (measured_view c.in_ok-test.test) c.operand.new.cursor
    (sym (phrase_down verilog grammar c.args.depth (operand level.LogicalOr) c.args.cursor.now q) ∙ c.in_ok-test.ensures) (sym c.sees.ensures ∙ c.if-not-sees.true)

pub expr::expression-returns : goal.expr::expression-returns
expr::expression-returns t c =
    let q : 0 < c.args.depth = omega arith in
    let test = expr_chosen (c.args.depth - 1) c.args.cursor.now (measured_view c.in_ok-test.test) c.operand.new.cursor
    (sym (phrase_down verilog grammar c.args.depth (operand level.LogicalOr) c.args.cursor.now q) ∙ c.in_ok-test.ensures) (sym c.sees.ensures ∙ c.if-not-sees.false) in
    rw (phrase_down verilog grammar c.args.depth expression c.args.cursor.now q ∙ test) c.choice.ensures

pub expr::operand-returns-then-depth-eq0 : goal.expr::operand-returns-then-depth-eq0
unfolding phrase
expr::operand-returns-then-depth-eq0 t c = rw c.if-depth-eq0.true c.too_deep.ensures

pub expr::operand-returns-in_err-left : goal.expr::operand-returns-in_err-left
expr::operand-returns-in_err-left t c =
    let p = err_from_is_err_and c.from_residual.result c.from_residual.ensures.1 in
    let q : 0 < c.args.depth = omega arith in
    rw (p.1, p.2, phrase_down verilog grammar c.args.depth (operand c.args.level) c.args.cursor.now q)
    (level_fails (c.args.depth - 1) level.Unary c.args.level c.args.cursor.now c.in_err-left.field-0.0 (omega arith) c.in_err-left.ensures)

pub expr::operand-returns-in_err-left-2 : goal.expr::operand-returns-in_err-left-2
expr::operand-returns-in_err-left-2 t c =
    let p = err_from_is_err_and c.from_residual-in_err-left-2.result c.from_residual-in_err-left-2.ensures.1 in
    let q : 0 < c.args.depth = omega arith in
    let h : rank c.levels.at < rank c.args.level = omega (arith, c.rank.ensures, c.rank-in-levels.ensures, c.levels-test.true) in
    let up = level_read (c.args.depth - 1) c.levels.at c.looser-at.result c.args.level c.args.cursor.now c.levels.cursor (measured_view c.levels.left) c.looser-at.ensures h c.levels.invariant.read in
    let tight = no_tighter c.levels.at c.looser-at.result c.args.level c.looser-at.ensures h in
    rw (p.1, p.2, phrase_down verilog grammar c.args.depth (operand c.args.level) c.args.cursor.now q)
    (level_fails (c.args.depth - 1) c.looser-at.result c.args.level c.args.cursor.now c.in_err-left-2.field-0.0 tight (rw up c.in_err-left-2.ensures))

pub expr::operand-levels-preserved : goal.expr::operand-levels-preserved
expr::operand-levels-preserved t c =
    let h : rank c.levels.at < rank c.args.level = omega (arith, c.rank.ensures, c.rank-in-levels.ensures, c.levels-test.true) in
    let up = level_read (c.args.depth - 1) c.levels.at c.looser-at.result c.args.level c.args.cursor.now c.levels.cursor (measured_view c.levels.left) c.looser-at.ensures h c.levels.invariant.read in
    record {
      read = up ∙ c.in_ok-left-2.ensures;
      tight = no_tighter c.levels.at c.looser-at.result c.args.level c.looser-at.ensures h;
    }

pub expr::operand-returns : goal.expr::operand-returns
expr::operand-returns t c =
    let q : 0 < c.args.depth = omega arith in
    let h : rank c.levels.at ≡ rank c.args.level = omega (arith, c.rank.ensures, c.rank-in-levels.ensures, c.levels-test.false, c.levels.invariant.tight) in
    phrase_down verilog grammar c.args.depth (operand c.args.level) c.args.cursor.now q
    ∙ subst (λ (l : Level). reads verilog grammar (c.args.depth - 1) (level_rule l) c.args.cursor.now ≡ Ok (measured_view c.levels.left, c.levels.cursor))
    (same_rank c.levels.at c.args.level h) c.levels.invariant.read

pub expr::grown-returns : goal.expr::grown-returns
expr::grown-returns t c =
    operators_stop c.args.depth c.args.level (measured_view c.more.left) c.more.cursor _ (sym c.sees_operator.ensures ∙ c.more-test.false) c.more.invariant

pub expr::grown-returns-in_err-left : goal.expr::grown-returns-in_err-left
expr::grown-returns-in_err-left t c =
    let p = err_from_is_err_and c.from_residual.result c.from_residual.ensures.1 in
    rw (p.1, p.2)
    (operators_fail c.args.depth c.args.level (measured_view c.more.left) c.more.cursor _ c.in_err-left.field-0.0
    (sym c.sees_operator.ensures ∙ c.more-test.true) c.in_err-left.ensures c.more.invariant)

pub expr::grown-more-preserved : goal.expr::grown-more-preserved
expr::grown-more-preserved t c =
    operators_more c.args.depth c.args.level (measured_view c.more.left) (measured_view c.in_ok-left.left) c.more.cursor c.operation.new.cursor _
    (sym c.sees_operator.ensures ∙ c.more-test.true) c.in_ok-left.ensures c.more.invariant

pub expr::grown-more-smaller : goal.expr::grown-more-smaller
expr::grown-more-smaller t c =
    operator_takes_tokens c.args.depth c.args.level (measured_view c.more.left) (measured_view c.in_ok-left.left) c.more.cursor c.operation.new.cursor c.in_ok-left.ensures

pub expr::operation-returns : goal.expr::operation-returns
expr::operation-returns t c =
    rw (c.in_ok-binary.ensures, c.binary_of-op.ensures, c.kind.ensures)
    (operation_read c.args.depth c.args.level (measured_view c.args.left) c.args.cursor.now _ c.operand.new.cursor _ (measured_view c.in_ok-right.right)
    c.in_ok-may_grow.ensures.fits c.in_ok-take_operator.ensures (rw c.tighter.ensures at c.in_ok-right.ensures))

pub expr::unary-returns : goal.expr::unary-returns
expr::unary-returns t c =
    rw (c.in_ok-unary.ensures, c.unary_of-op.ensures, c.kind.ensures)
    (unary_read c.args.depth c.args.cursor.now _ c.operand.new.cursor _ (measured_view c.in_ok-inner.inner)
    (sym c.sees_operator.ensures ∙ c.if-not-sees_operator.false) c.in_ok-token.ensures c.in_ok-inner.ensures)

pub expr::cast-returns : goal.expr::cast-returns
expr::cast-returns t c =
    rw (c.in_ok-sign.ensures, c.is_signed_cast-signed.ensures, c.kind.ensures)
    (cast_read c.args.depth c.args.cursor.now _ c.in_parentheses.new.cursor _ _ (measured_view c.in_ok-inner.inner) c.in_ok-word.ensures c.in_ok-inner.ensures.read)

pub expr::with_others-more-init : goal.expr::with_others-more-init
expr::with_others-more-init t c =
    let alone = first_alone c.in_ok-all.all (measured_view c.args.first) c.args.start c.in_ok-all.ensures in
    record {
      others = rw (none_else c.in_ok-all.all (measured_view c.args.first) c.args.start c.in_ok-all.ensures) (going_none _);
      exprs = alone.exprs;
      start = alone.start;
    }

pub expr::with_others-more-preserved : goal.expr::with_others-more-preserved
expr::with_others-more-preserved t c =
    let next = measured_view c.in_ok-next.next in
    let behind = one_behind c.more.all c.push.new.self (measured_view c.args.first) next c.args.start c.more.invariant.exprs c.more.invariant.start c.in_ok-push.ensures in
    record {
      others =
          others_more c.args.depth (after k.Comma (nest expression)) refl refl (others_view c.more.all) (others_view c.push.new.self) next c.more.cursor c.expression.new.cursor _
          (one_else c.more.all c.push.new.self (measured_view c.args.first) next c.more.invariant.exprs c.in_ok-push.ensures) (sym c.sees.ensures ∙ c.more-test.true)
          (item_read c.args.depth k.Comma expression c.more.cursor _ c.expression.new.cursor _ _ c.in_ok-take.ensures c.in_ok-next.ensures) c.more.invariant.others;
      exprs = behind.exprs;
      start = behind.start;
    }

pub expr::with_others-more-smaller : goal.expr::with_others-more-smaller
expr::with_others-more-smaller t c =
    falls verilog grammar tables passes c.args.depth (after k.Comma (nest expression)) refl c.more.cursor _ c.expression.new.cursor
    (item_read c.args.depth k.Comma expression c.more.cursor _ c.expression.new.cursor _ _ c.in_ok-take.ensures c.in_ok-next.ensures)

pub expr::with_others-returns-clause-others : goal.expr::with_others-returns-clause-others
expr::with_others-returns-clause-others t c =
    others_end c.args.depth (after k.Comma (nest expression)) refl refl (others_view c.more.all) c.more.cursor _ (sym c.sees.ensures ∙ c.more-test.false) c.more.invariant.others

pub expr::with_others-returns-in_err-take-clause-others : goal.expr::with_others-returns-in_err-take-clause-others
expr::with_others-returns-in_err-take-clause-others t c =
    let p = err_from_is_err_and c.from_residual-in_err-take.result c.from_residual-in_err-take.ensures.1 in
    rw (p.1, p.2)
    (others_fail c.args.depth (after k.Comma (nest expression)) refl refl (others_view c.more.all) c.more.cursor _ c.in_err-take.field-0.0 (sym c.sees.ensures ∙ c.more-test.true)
    (no_token c.args.depth k.Comma expression c.more.cursor c.in_err-take.field-0.0 c.in_err-take.ensures) c.more.invariant.others)

pub expr::with_others-returns-in_err-next-clause-others : goal.expr::with_others-returns-in_err-next-clause-others
expr::with_others-returns-in_err-next-clause-others t c =
    let p = err_from_is_err_and c.from_residual-in_err-next.result c.from_residual-in_err-next.ensures.1 in
    rw (p.1, p.2)
    (others_fail c.args.depth (after k.Comma (nest expression)) refl refl (others_view c.more.all) c.more.cursor _ c.in_err-next.field-0.0 (sym c.sees.ensures ∙ c.more-test.true)
    (no_phrase c.args.depth k.Comma expression c.more.cursor _ _ c.in_err-next.field-0.0 c.in_ok-take.ensures c.in_err-next.ensures) c.more.invariant.others)

pub select::selects-returns-then-not-sees : goal.select::selects-returns-then-not-sees
unfolding selects_rule
select::selects-returns-then-not-sees t c =
    name_alone c.args.depth is_selected_once name_once twice c.args.cursor.now (measured_view c.in_ok-name.name) c.identifier.new.cursor
    c.in_ok-name.ensures (sym c.sees.ensures ∙ c.if-not-sees.true)

pub select::selects-returns-in_err-part : goal.select::selects-returns-in_err-part
unfolding selects_rule
select::selects-returns-in_err-part t c =
    let p = err_from_is_err_and c.from_residual-in_err-part.result c.from_residual-in_err-part.ensures.1 in
    rw (p.1, p.2)
    (name_fails c.args.depth is_selected_once name_once twice c.args.cursor.now (measured_view c.in_ok-name.name) c.identifier.new.cursor c.in_err-part.field-0.0
    c.in_ok-name.ensures (sym c.sees.ensures ∙ c.if-not-sees.false) c.in_err-part.ensures)

pub select::selects-returns-then-not-sees-2 : goal.select::selects-returns-then-not-sees-2
unfolding selects_rule
select::selects-returns-then-not-sees-2 t c =
    once_alone c.args.depth is_selected_once name_once twice c.args.cursor.now (measured_view c.in_ok-name.name) c.identifier.new.cursor (measured_view c.in_ok-part.part) c.selected.new.cursor
    c.in_ok-name.ensures (sym c.sees.ensures ∙ c.if-not-sees.false) c.in_ok-part.ensures (sym c.sees-2.ensures ∙ c.if-not-sees-2.true)

pub select::selects-returns : goal.select::selects-returns
unfolding selects_rule
select::selects-returns t c =
    let name = measured_view c.in_ok-name.name in
    let part = measured_view c.in_ok-part.part in
    rw (twice_selected c.args.depth is_selected_once name_once twice c.args.cursor.now name c.identifier.new.cursor part c.selected.new.cursor
    c.in_ok-name.ensures (sym c.sees.ensures ∙ c.if-not-sees.false) c.in_ok-part.ensures (sym c.sees-2.ensures ∙ c.if-not-sees-2.false)
    (once_read c.args.depth c.args.cursor.now c.identifier.new.cursor c.selected.new.cursor name part c.in_ok-name.ensures c.in_ok-part.ensures))
    c.selected-2.ensures

pub expr::choice-choice-requires-clause-yes : goal.expr::choice-choice-requires-clause-yes
expr::choice-choice-requires-clause-yes t c = read_low c.args.depth expression _ _ _ (omega arith) c.in_ok-yes.ensures

pub expr::choice-choice-requires-clause-no : goal.expr::choice-choice-requires-clause-no
expr::choice-choice-requires-clause-no t c = read_low c.args.depth expression _ _ _ (omega arith) c.in_ok-no.ensures

pub expr::operation-binary-requires-clause-right : goal.expr::operation-binary-requires-clause-right
expr::operation-binary-requires-clause-right t c = read_low c.args.depth (operand c.tighter.result) _ _ _ (omega arith) c.in_ok-right.ensures

pub expr::unary-unary-requires : goal.expr::unary-unary-requires
expr::unary-unary-requires t c = read_low c.args.depth (operand level.Unary) _ _ _ (omega arith) c.in_ok-inner.ensures

pub expr::in_parentheses-returns-clause-low : goal.expr::in_parentheses-returns-clause-low
expr::in_parentheses-returns-clause-low t c = read_low c.args.depth expression _ _ _ (omega arith) c.in_ok-inner.ensures

pub expr::braced-with_others-requires : goal.expr::braced-with_others-requires
expr::braced-with_others-requires t c = (search rules, (omega (arith, c.none.ensures.height), read_low c.args.depth expression _ _ _ (omega arith) c.in_ok-head.ensures))

pub expr::braced-part_depth-requires : goal.expr::braced-part_depth-requires
expr::braced-part_depth-requires t c = read_low c.args.depth expression _ _ _ (omega arith) c.in_ok-head.ensures

pub expr::braced-with_others-requires-2 : goal.expr::braced-with_others-requires-2
expr::braced-with_others-requires-2 t c = (search rules, (c.part_depth.ensures.low, read_low c.args.depth expression _ _ _ (omega arith) c.in_ok-first.ensures))

pub expr::with_others-push-requires : goal.expr::with_others-push-requires
expr::with_others-push-requires t c = read_low c.args.depth expression _ _ _ (omega arith) c.in_ok-next.ensures

pub select::bound-returns-clause-low : goal.select::bound-returns-clause-low
select::bound-returns-clause-low t c = read_low c.args.depth expression _ _ _ (omega arith) c.in_ok-last.ensures

pub select::selected-bit-requires-clause-index : goal.select::selected-bit-requires-clause-index
select::selected-bit-requires-clause-index t c = read_low c.args.depth expression _ _ _ (omega arith) c.in_ok-head.ensures

pub select::selected-part-requires-clause-high : goal.select::selected-part-requires-clause-high
select::selected-part-requires-clause-high t c = read_low c.args.depth expression _ _ _ (omega arith) c.in_ok-head.ensures

pub select::selected-slide-requires-clause-base : goal.select::selected-slide-requires-clause-base
select::selected-slide-requires-clause-base t c = read_low c.args.depth expression _ _ _ (omega arith) c.in_ok-head.ensures

pub select::selected-slide-requires-else-sees-3-clause-base : goal.select::selected-slide-requires-else-sees-3-clause-base
select::selected-slide-requires-else-sees-3-clause-base t c = read_low c.args.depth expression _ _ _ (omega arith) c.in_ok-head.ensures
