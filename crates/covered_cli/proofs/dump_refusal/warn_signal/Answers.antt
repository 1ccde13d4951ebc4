use Rattle.std.proofs.Common.{ℕ, List, ◌∷◌, ◌++◌, ap, append_assoc, codes, rules}
use Rattle.whole_files.proofs.Lines.{WarnsLine-is}
use Rattle.covered_cli.proofs.dump_refusal.warn_signal.Goals as goal

pub returns-clause-line : goal.returns-clause-line
returns-clause-line g c =
    let before = g.H.Host.outside c.args.host.now in
    let after = g.H.Host.outside c.warn_pieces.new.host in
    let line : List ℕ → List ℕ = λ path. codes "covered: dump: bind " ++ c.args.fault.now ++ path ++ codes "\n" in
    WarnsLine-is (line (c.path.inside.instance ++ 46 ∷ c.path.inside.name)) (line c.args.path.now) before after (ap line c.path.view_is)
    (WarnsLine-is _ _ before after (search (rules, append_assoc, c.as_bytes.ensures.value, c.as_bytes-2.ensures.value, c.as_slice.ensures, c.as_bytes-3.ensures.value, c.as_slice-2.ensures, c.as_bytes-4.ensures.value)) c.warn_pieces.ensures.line)
