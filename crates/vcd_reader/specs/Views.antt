-- What contracts see of the types of the code.
use Rattle.std.specs.Prelude.{ℕ, List, [], map, unwrap_or, Option, option_map}
use Rattle.vcd_reader.specs.Header.{Declared}
use Rattle.vcd_reader.specs.Reading.{HeaderReading, Section}
use Rattle.vcd_reader.specs.declared.declarations.Declarations.{Declarations}
use Rattle.vcd_reader.specs.declared.sections.Section.{Section as SectionRow}
use Rattle.vcd_reader.specs.declared.sections.Sections.{Sections}

-- the name of a scope, which is empty where there is no name
abbrev pub scope_text : Option (List ℕ) → List ℕ
scope_text name = unwrap_or name []

abbrev pub declared_of : Declarations → Declared
declared_of d = record { vars = d.vars; codes = d.codes; scopes = map scope_text d.scopes.items }

abbrev pub section_of : SectionRow → Section
section_of section = record { keyword = section.keyword; fields = section.fields.items }

abbrev pub reading_of : Sections → HeaderReading
reading_of sections = record { declared = declared_of sections.declared; section = option_map section_of sections.section }
