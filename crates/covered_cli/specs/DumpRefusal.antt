-- What is warned of a refused dump.
use Rattle.std.specs.Prelude.{ℕ, List, ◌++◌, codes, decimal}
use Rattle.vcd_reader.specs.Kinds.{kind_text}
use Rattle.covered_cli.specs.declared.dump_refusal.DumpRefusal.{DumpRefusal}
use Rattle.covered_cli.specs.declared.dump_refusal.DumpRefusal.TheVariants.{At, NoInstance, NoBaseline}

-- the line that is warned of a refused dump
abbrev pub refusal_line : DumpRefusal → List ℕ
refusal_line (At kind byte) = codes "covered: dump: " ++ kind_text kind ++ codes " at byte " ++ decimal byte ++ codes "\n"
refusal_line (NoInstance path) = codes "covered: dump: bind 1 NoInstance " ++ path.now ++ codes "\n"
refusal_line (NoBaseline path) = codes "covered: dump: bind 3 NoBaseline " ++ path ++ codes "\n"
