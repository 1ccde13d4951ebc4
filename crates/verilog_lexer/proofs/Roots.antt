-- The sources one after the other.
use Rattle.std.proofs.Common.{◌≡◌, ◌<◌, ◌≤◌, ◌+◌, ℕ, zero, suc, List, [], ◌∷◌, Ok, length, drop, refl, arith, add-one}
use Rattle.std.proofs.lemmas.List.{drop_all}
use Rattle.std.specs.List.{slice_get}
use Rattle.std.specs.Option.{IfSome}
use Rattle.verilog_lexer.specs.Answer.{Answer, IsFault}
use Rattle.verilog_lexer.specs.Sources.{SourceText}
use Rattle.verilog_lexer.specs.Reading.{Reading, read_source, read_roots, tokens_of, beginning}
use Rattle.verilog_lexer.specs.Defines.{DefineText}
use Rattle.verilog_lexer.specs.declared.fault.LexFault.{LexFault}
use Rattle.verilog_lexer.proofs.Stands.{fault_through}

-- one source more
pub roots_go_on : (all left : List SourceText) (place number : ℕ) (reading next : Reading) → place < length left → IfSome (slice_get left place) (λ source. read_source all number source reading ≡ Ok next) → read_roots all number (drop place left) reading ≡ read_roots all (number + 1) (drop (place + 1) left) next
unfolding read_roots
roots_go_on all [] place number reading next within reads = absurd (omega arith)
roots_go_on all (source ∷ others) zero number reading next within reads = rw reads refl
roots_go_on all (source ∷ others) (suc place) number reading next within reads = rw (add-one (suc place)) (rw (add-one place) at (roots_go_on all others place number reading next (omega arith) reads))

-- a fault of one source is the fault of all
pub roots_faults : (all left : List SourceText) (place number : ℕ) (reading : Reading) (fault : LexFault) → place < length left → IfSome (slice_get left place) (λ source. IsFault (read_source all number source reading) fault) → IsFault (read_roots all number (drop place left) reading) fault
unfolding read_roots
roots_faults all [] place number reading fault within faults = absurd (omega arith)
roots_faults all (source ∷ others) zero number reading fault within faults = fault_through (read_source all number source reading) (read_roots all number (source ∷ others) reading) (λ f is. rw is refl) fault faults
roots_faults all (source ∷ others) (suc place) number reading fault within faults = roots_faults all others place number reading fault (omega arith) faults

-- when no source is left, the tokens are there
pub tokens_are : (sources : List SourceText) (defines : List DefineText) (place number : ℕ) (reading : Reading) → read_roots sources 1 sources (beginning defines) ≡ read_roots sources number (drop place sources) reading → length sources ≤ place → tokens_of sources defines ≡ Ok reading.tokens
unfolding tokens_of read_roots
tokens_are sources defines place number reading same all = rw same (rw (drop_all place sources all) refl)

pub tokens_fault : (sources : List SourceText) (defines : List DefineText) (given : Answer Reading) → read_roots sources 1 sources (beginning defines) ≡ given → (fault : LexFault) → IsFault given fault → IsFault (tokens_of sources defines) fault
unfolding tokens_of
tokens_fault sources defines given same = fault_through given (tokens_of sources defines) (λ fault is. rw (same, is) refl)
