use Rattle.std.proofs.Common.{◌≡◌, ◌∙◌, List, Bool, None, ap, get_or, length, subst, sym}
use Rattle.std.proofs.lemmas.Result.{IfErr-weaker, err_from_is_err_and, on_err_weaker, on_ok_weaker}
use Rattle.std.specs.Prelude.{All}
use Rattle.command_line.specs.RankWords.{rank_values}
use Rattle.cov_host.specs.Outside.{Appends, Told}
use Rattle.test_ranking.specs.Print.{ranking_text}
use Rattle.database_commands.specs.Ranking.{IsRankedText, ranked_files}
use Rattle.database_commands.proofs.Ranking.{good_rank, print_fault, ranking_of_text, sets_long}
use Rattle.database_commands.proofs.Reporting.{OnErr-intro, gives_since, leaves_all, leaves_front}
use Rattle.database_commands.proofs.rank.run_rank.Goals as goal

pub returns-in_err-sets-clause-complete : goal.returns-in_err-sets-clause-complete
returns-in_err-sets-clause-complete g c =
    let rank = rank_values c.args.words.now in
    let before = g.H.Host.outside c.args.host.now in
    let after = g.H.Host.outside c.read_sets.new.host in
    let fault = err_from_is_err_and c.from_residual.result c.from_residual.ensures.1 in
    rw (fault.1, fault.2) (λ good none. good_rank c.args.alloc rank before after good none _ c.in_err-sets.ensures.fault)

pub returns-in_err-sets-clause-left : goal.returns-in_err-sets-clause-left
returns-in_err-sets-clause-left g c =
    let before = g.H.Host.outside c.args.host.now in
    let after = g.H.Host.outside c.read_sets.new.host in
    OnErr-intro c.from_residual.result (leaves_all before after (IsRankedText (rank_values c.args.words.now) before) None c.read_sets.ensures.effects)

pub text_of-requires : goal.text_of-requires
text_of-requires g c =
    let sets = c.in_ok-sets.sets.items in
    let first = c.index.result.now in
    let points : length (get_or sets 0 first) ≡ c.points.result = sym (c.points.ensures ∙ ap length c.index.ensures) in
    let long = sets_long (rank_values c.args.words.now) (g.H.Host.outside c.args.host.now) sets c.in_ok-sets.ensures.hits first in
    subst (λ (tables : List (List Bool)). All (λ set. length set ≡ c.points.result) tables) (sym c.deref.ensures.value) (subst (λ n. All (λ set. length set ≡ n) sets) points long)

pub returns-in-Ok-clause-done : goal.returns-in-Ok-clause-done
returns-in-Ok-clause-done g c =
    let rank = rank_values c.args.words.now in
    let before = g.H.Host.outside c.args.host.now in
    let now = g.H.Host.outside c.read_sets.new.host in
    let after = g.H.Host.outside c.print.new.host in
    let first = c.index.result.now in
    let points : length (get_or c.in_ok-sets.sets.items 0 first) ≡ c.points.result = sym (c.points.ensures ∙ ap length c.index.ensures) in
    let text = ranking_of_text rank before c.in_ok-sets.sets.items c.in_ok-sets.ensures.hits first c.points.result _ c.in-Ok.text points c.deref.ensures.value c.in-Ok.ensures in
    on_ok_weaker c.print.result (λ printed. record {
      ranking = text.0;
      is = text.1;
      printed = gives_since None (ranking_text (ranked_files rank) text.0) before now after c.read_sets.ensures.effects (subst (λ text. Told (Appends text) now.printed after.printed) text.2 printed);
    }) c.print.ensures.printed

pub returns-in-Ok-clause-fault : goal.returns-in-Ok-clause-fault
returns-in-Ok-clause-fault g c =
    let rank = rank_values c.args.words.now in
    let before = g.H.Host.outside c.args.host.now in
    let now = g.H.Host.outside c.read_sets.new.host in
    let after = g.H.Host.outside c.print.new.host in
    let first = c.index.result.now in
    let points : length (get_or c.in_ok-sets.sets.items 0 first) ≡ c.points.result = sym (c.points.ensures ∙ ap length c.index.ensures) in
    let text = ranking_of_text rank before c.in_ok-sets.sets.items c.in_ok-sets.ensures.hits first c.points.result _ c.in-Ok.text points c.deref.ensures.value c.in-Ok.ensures in
    IfErr-weaker c.print.result _ _ (print_fault rank before now after (text.0, text.1) c.read_sets.ensures.effects c.print.ensures.counts) c.print.ensures.fault

pub returns-in-Ok-clause-complete : goal.returns-in-Ok-clause-complete
returns-in-Ok-clause-complete g c =
    let rank = rank_values c.args.words.now in
    let before = g.H.Host.outside c.args.host.now in
    let now = g.H.Host.outside c.read_sets.new.host in
    let after = g.H.Host.outside c.print.new.host in
    let first = c.index.result.now in
    let points : length (get_or c.in_ok-sets.sets.items 0 first) ≡ c.points.result = sym (c.points.ensures ∙ ap length c.index.ensures) in
    let text = ranking_of_text rank before c.in_ok-sets.sets.items c.in_ok-sets.ensures.hits first c.points.result _ c.in-Ok.text points c.deref.ensures.value c.in-Ok.ensures in
    IfErr-weaker c.print.result _ _ (λ fault is good none. good_rank c.args.alloc rank before after good none fault (print_fault rank before now after (text.0, text.1) c.read_sets.ensures.effects c.print.ensures.counts fault is)) c.print.ensures.fault

pub returns-in-Ok-clause-left : goal.returns-in-Ok-clause-left
returns-in-Ok-clause-left g c =
    let rank = rank_values c.args.words.now in
    let before = g.H.Host.outside c.args.host.now in
    let now = g.H.Host.outside c.read_sets.new.host in
    let after = g.H.Host.outside c.print.new.host in
    let first = c.index.result.now in
    let points : length (get_or c.in_ok-sets.sets.items 0 first) ≡ c.points.result = sym (c.points.ensures ∙ ap length c.index.ensures) in
    let text = ranking_of_text rank before c.in_ok-sets.sets.items c.in_ok-sets.ensures.hits first c.points.result _ c.in-Ok.text points c.deref.ensures.value c.in-Ok.ensures in
    on_err_weaker c.print.result (leaves_front before now after (IsRankedText rank before) None c.in-Ok.text text c.read_sets.ensures.effects) c.print.ensures.front
