-- The sources of a design: files to be read one after the other, and files that they include.
use Rattle.std.specs.Prelude.{ℕ, ◌≡◌, ◌≤◌, ◌+◌, ◌-◌, nat_lt, Bool, not, ◌&&◌, ◌==◌, List, Option, None, Some, if◌then◌else◌, length, slice_get, position, string_bytes, sum_by}
use Rattle.std.specs.Option.{option_map}
use Rattle.std.specs.Str.{bytes_eq}
use Rattle.verilog_lexer.specs.declared.sources.Source.{Source}
use Rattle.verilog_lexer.specs.declared.fault.LexFault.{LexFault}
use Rattle.verilog_lexer.specs.declared.fault.LexFault.TheVariants as lex_fault
use Rattle.verilog_lexer.specs.declared.fault.LexKind.TheVariants as lex_kind

-- a file with its name, and whether it is read by itself or only where it is included
pub record SourceText : Type 0 where
  pub name : List ℕ
  pub bytes : List ℕ
  pub root : Bool

abbrev pub source_view : Source → SourceText
source_view source = record { name = string_bytes source.name; bytes = source.bytes; root = source.root }

-- how many bytes the files have together
abbrev pub total_length : List SourceText → ℕ
total_length sources = sum_by (λ source. length source.bytes) sources

-- at most 256 files of at most 67,108,864 bytes together
pub record AreWithinLimits (sources : List SourceText) : Type 0 where
  pub count : length sources ≤ 256
  pub bytes : total_length sources ≤ 67108864

-- why a file of this name and length is not added, if it is not: it is one too many, or else makes the sources too long
abbrev pub refusal_of : List SourceText → (name : List ℕ) → (bytes : ℕ) → Option LexFault
refusal_of sources name bytes =
    if length sources == 256 then Some (lex_fault.At lex_kind.TooManySources None (Some name))
    else if nat_lt 67108864 (total_length sources + bytes) then Some (lex_fault.At lex_kind.SourcesTooLong None (Some name))
    else None

-- a fault is this one, if it is not want of memory
abbrev pub IsRefusal : Option LexFault → LexFault → Type 0
IsRefusal refusal lex_fault.NoMemory = Unit {0}
IsRefusal refusal (lex_fault.At kind place detail) = refusal ≡ Some (lex_fault.At kind place detail)

-- the name of the source with this number, counted from 1
abbrev pub name_of : List SourceText → ℕ → Option (List ℕ)
name_of sources number = if number == 0 then None else option_map (λ source. source.name) (slice_get sources (number - 1))

-- the source is included by this name
abbrev pub is_include : List ℕ → SourceText → Bool
is_include name source = not source.root && bytes_eq source.name name

-- the place of the first source that is included by this name
abbrev pub include_place : List SourceText → List ℕ → Option ℕ
include_place sources name = position (is_include name) sources
