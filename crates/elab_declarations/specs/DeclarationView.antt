-- The declarations of the definitions for those of the code.
use Rattle.std.specs.Prelude.{List, map}
use Rattle.flat_design.specs.Declarations as spec
use Rattle.elab_declarations.specs.declared.declaration.Declaration.{Declaration}
use Rattle.elab_declarations.specs.declared.declaration.Sort.{Sort}
use Rattle.elab_declarations.specs.declared.declaration.Sort.TheVariants.{Net, Variable, Memory, Integer, Parameter, Instance, Faulty, FaultyMemory}

-- what the declared name is
abbrev pub sort_view : Sort → spec.Sort
sort_view Net = spec.a_net
sort_view Variable = spec.a_variable
sort_view (Memory r) = spec.words_from r
sort_view Integer = spec.an_integer
sort_view Parameter = spec.a_parameter
sort_view Instance = spec.some_instance
sort_view Faulty = spec.faulty
sort_view FaultyMemory = spec.faulty_memory

-- the declared name
abbrev pub declaration_view : Declaration → spec.Declaration
declaration_view d =
    record {
      name = d.name.now;
      item = d.item;
      sort = sort_view d.sort;
      range = d.range;
      signed = d.signed;
      direction = d.direction;
      twice = d.twice;
    }

-- declared names in order
abbrev pub declarations_view : List Declaration → List spec.Declaration
declarations_view ds = map declaration_view ds
