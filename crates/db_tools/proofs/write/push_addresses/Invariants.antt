use Rattle.std.proofs.Common.{◌≡◌, ◌++◌, drop, map}
use Rattle.coverage_db.specs.Text.{text_of_lines, address_text}
use Rattle.db_tools.specs.Excluded.{marked}
use Rattle.db_tools.proofs.write.push_addresses.Given as goal

abbrev pub invariant-loop-place : goal.invariant-loop-place
invariant-loop-place l = l.text ++ text_of_lines (map (λ p. address_text l.instances p.address) (marked (drop l.place l.points) (drop l.place l.marks))) ≡ l.fn.text ++ text_of_lines (map (λ p. address_text l.instances p.address) (marked l.points l.marks))
