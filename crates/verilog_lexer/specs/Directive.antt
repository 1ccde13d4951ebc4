-- The compiler directives by their names (IEEE 1364-2001 clause 19).
use Rattle.std.specs.Prelude.{ℕ, Bool, true, false, ◌||◌, List, if◌then◌else◌, codes}
use Rattle.std.specs.Str.{bytes_eq}
use Rattle.verilog_lexer.specs.declared.directive.Directive.{Directive}
use Rattle.verilog_lexer.specs.declared.directive.Directive.TheVariants.{Define, Undef, Ifdef, Ifndef, Elsif, Else, Endif, Include, PassedOver, Refused, Use}

-- what is passed over to the end of its line
abbrev pub is_passed_over : List ℕ → Bool
is_passed_over word =
    bytes_eq word (codes "timescale") || bytes_eq word (codes "default_nettype") || bytes_eq word (codes "celldefine")
    || bytes_eq word (codes "endcelldefine") || bytes_eq word (codes "resetall") || bytes_eq word (codes "line")

-- what changes the meaning of open ports, and is refused
abbrev pub is_refused : List ℕ → Bool
is_refused word = bytes_eq word (codes "unconnected_drive") || bytes_eq word (codes "nounconnected_drive")

-- which directive has the name; any other name is a use of a macro
unfoldable pub directive_of : List ℕ → Directive
directive_of word =
    if bytes_eq word (codes "define") then Define
    else if bytes_eq word (codes "undef") then Undef
    else if bytes_eq word (codes "ifdef") then Ifdef
    else if bytes_eq word (codes "ifndef") then Ifndef
    else if bytes_eq word (codes "elsif") then Elsif
    else if bytes_eq word (codes "else") then Else
    else if bytes_eq word (codes "endif") then Endif
    else if bytes_eq word (codes "include") then Include
    else if is_passed_over word then PassedOver
    else if is_refused word then Refused
    else Use

-- whether it is the use of a macro
abbrev pub is_use : Directive → Bool
is_use Define = false
is_use Undef = false
is_use Ifdef = false
is_use Ifndef = false
is_use Elsif = false
is_use Else = false
is_use Endif = false
is_use Include = false
is_use PassedOver = false
is_use Refused = false
is_use Use = true
