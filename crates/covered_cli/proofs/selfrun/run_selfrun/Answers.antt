use Rattle.std.proofs.Common.{◌≡◌, ◌+◌, ◌*◌, None, inl, refl, subst}
use Rattle.std.proofs.lemmas.Result.{on_err_weaker, on_ok_weaker}
use Rattle.cov_host.specs.Outside.{Appends, Told}
use Rattle.database_commands.proofs.Reporting.{OnErr-intro, leaves_front}
use Rattle.whole_files.proofs.EffectLemmas.{KeepsFiles-refl, OnlyReads-refl}
use Rattle.covered_cli.specs.Selfrun.{IsSelfrunText}
use Rattle.selfrun_print.specs.Print.{print_text}
use Rattle.covered_cli.proofs.selfrun.run_selfrun.Goals as goal

pub returns-in_err-table-clause-left : goal.returns-in_err-table-clause-left
returns-in_err-table-clause-left g c = OnErr-intro c.from_residual.result (inl (KeepsFiles-refl (g.H.Host.outside c.args.host.now), refl))

pub returns-in_err-text-clause-left : goal.returns-in_err-text-clause-left
returns-in_err-text-clause-left g c = OnErr-intro c.from_residual-in_err-text.result (inl (KeepsFiles-refl (g.H.Host.outside c.args.host.now), refl))

pub returns-clause-done : goal.returns-clause-done
returns-clause-done g c =
    let before = g.H.Host.outside c.args.host.now in
    let after = g.H.Host.outside c.print.new.host in
    let is_text = subst (λ steps. c.in_ok-text.text ≡ print_text (2 * steps + 1) c.in_ok-table.table) c.from.ensures c.in_ok-text.ensures in
    on_ok_weaker c.print.result (λ printed. record {
      table = c.in_ok-table.table;
      is_table = c.in_ok-table.ensures;
      printed = subst (λ text. Told (Appends text) before.printed after.printed) is_text printed;
      files = c.print.ensures.files;
      warned = c.print.ensures.warned;
    }) c.print.ensures.printed

pub returns-clause-left : goal.returns-clause-left
returns-clause-left g c =
    let before = g.H.Host.outside c.args.host.now in
    let after = g.H.Host.outside c.print.new.host in
    let is_text = subst (λ steps. c.in_ok-text.text ≡ print_text (2 * steps + 1) c.in_ok-table.table) c.from.ensures c.in_ok-text.ensures in
    on_err_weaker c.print.result (leaves_front before before after (IsSelfrunText c.args.words.now) None c.in_ok-text.text (c.in_ok-table.table, c.in_ok-table.ensures, is_text) (OnlyReads-refl before)) c.print.ensures.front
