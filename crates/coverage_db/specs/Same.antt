-- Whether two addresses are the same, part by part.
use Rattle.std.specs.Prelude.{ℕ, Bool, true, false, ◌&&◌, ◌==◌, Option, Some, None, bytes_eq}
use Rattle.coverage_db.specs.declared.address.Address.{Address}
use Rattle.coverage_db.specs.declared.address.SourceLine.{SourceLine}
use Rattle.coverage_db.specs.declared.address.Subject.{Subject}
use Rattle.coverage_db.specs.declared.address.Subject.TheVariants.{Line, Logic, Toggle, State, Arc, Word}
use Rattle.coverage_db.specs.declared.db.DbInstance.{DbInstance}
use Rattle.coverage_db.specs.declared.db.DbPoint.{DbPoint}
use Rattle.point_words.specs.Words.{line_word_rank, operator_rank, node_case_rank}

abbrev pub same_bit : Bool → Bool → Bool
same_bit true b = b
same_bit false true = false
same_bit false false = true

abbrev pub same_index : Option ℕ → Option ℕ → Bool
same_index None None = true
same_index None (Some b) = false
same_index (Some a) None = false
same_index (Some a) (Some b) = a == b

abbrev pub same_place : SourceLine → SourceLine → Bool
same_place a b = a.source == b.source && a.line == b.line

-- the same state, or the same arc
abbrev pub same_machine : Subject → Subject → Bool
same_machine (State x s) (State y t) = bytes_eq x y && bytes_eq s t
same_machine (Arc x a b) (Arc y c d) = bytes_eq x y && bytes_eq a c && bytes_eq b d
same_machine _ _ = false

abbrev pub same_subject : Subject → Subject → Bool
same_subject (Line m a v) (Line n b w) = m == n && same_place a b && line_word_rank v == line_word_rank w
same_subject (Logic m a o c) (Logic n b p d) = m == n && same_place a b && operator_rank o == operator_rank p && node_case_rank c == node_case_rank d
same_subject (Toggle x i r) (Toggle y j s) = bytes_eq x y && same_index i j && same_bit r s
same_subject (Word x i w) (Word y j v) = bytes_eq x y && i == j && same_bit w v
same_subject a b = same_machine a b

abbrev pub same_address : Address → Address → Bool
same_address a b = a.instance == b.instance && same_subject a.subject b.subject

abbrev pub same_instance : DbInstance → DbInstance → Bool
same_instance a b = bytes_eq a.path b.path && bytes_eq a.«module» b.«module»

-- the same point, however it came out
abbrev pub same_point : DbPoint → DbPoint → Bool
same_point a b = same_address a.address b.address
