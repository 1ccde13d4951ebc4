use Rattle.std.proofs.Common.{ℕ, List, ◌∷◌, ◌++◌, ap}
use Rattle.whole_files.proofs.Lines.{WarnsLine-is}
use Rattle.covered_cli.specs.Contradiction.{contradiction_line}
use Rattle.covered_cli.proofs.ContradictionLine.{parts_line}
use Rattle.covered_cli.proofs.contradiction.Contradiction.warn.Goals as goal

pub returns-clause-line : goal.returns-clause-line
returns-clause-line g c =
    let before = g.H.Host.outside c.args.host.now in
    let after = g.H.Host.outside c.warn_parts.new.host in
    let line : List ℕ → List ℕ = λ path. contradiction_line (record c.args.self.now { path = path }) in
    let parts = parts_line c.args.self.now _ _ _ _ _ _ _ _ c.as_slice.ensures c.as_slice-2.ensures c.format.ensures.text c.write_digits.ensures c.whole-whole.ensures c.write_digits-2.ensures in
    WarnsLine-is (line (c.path.inside.instance ++ 46 ∷ c.path.inside.name)) (line c.args.self.now.path) before after (ap line c.path.view_is)
    (WarnsLine-is _ _ before after parts c.warn_parts.ensures.line)
