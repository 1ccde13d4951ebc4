use Rattle.std.proofs.Common.{◌≡◌, ◌++◌, ◌∙◌, refl, rules}
use Rattle.std.specs.Prelude.{codes}
use Rattle.design_points.specs.cover_points.FaultText.{point_text}
use Rattle.design_points.specs.cover_points.declared.fault.PointFault.{PointFault}
use Rattle.design_points.specs.cover_points.declared.fault.PointFault.TheVariants.{NoMemory}
use Rattle.whole_files.proofs.Lines.{WarnsLine-is}
use Rattle.covered_cli.specs.PointsMessage.{points_line}
use Rattle.covered_cli.proofs.points_message.warn_points.Goals as goal

-- a fault that is not of memory
of_source : (f : PointFault) → (f ≡ NoMemory → ⊥) → codes "covered: source: " ++ point_text f ++ codes "\n" ≡ points_line f
of_source NoMemory apart = absurd (apart refl)
of_source other apart = refl

pub returns-in-NoMemory-clause-line : goal.returns-in-NoMemory-clause-line
returns-in-NoMemory-clause-line g c = rw c.in-NoMemory.is (WarnsLine-is _ _ (g.H.Host.outside c.args.host.now) (g.H.Host.outside c.warn_pieces.new.host) (search (rules, c.as_bytes.ensures.value)) c.warn_pieces.ensures.line)

pub returns-in_default-clause-line : goal.returns-in_default-clause-line
returns-in_default-clause-line g c =
    WarnsLine-is _ _ (g.H.Host.outside c.args.host.now) (g.H.Host.outside c.warn_pieces-in_default.new.host) (c.pieces_of.ensures ∙ of_source c.args.fault.now c.in_default.not-NoMemory) c.warn_pieces-in_default.ensures.line
