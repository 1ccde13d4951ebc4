-- The order of points that may be of several instances of one module.
use Rattle.std.specs.declared.cmp.Ordering.{Ordering}
use Rattle.std.specs.declared.cmp.Ordering.TheVariants.{Equal}
use Rattle.std.specs.Ordering.{nat_cmp, ordering_then}
use Rattle.coverage_db.specs.declared.address.SourceLine.{SourceLine}
use Rattle.coverage_db.specs.declared.address.Subject.{Subject}
use Rattle.coverage_db.specs.declared.address.Subject.TheVariants.{Line, Logic}
use Rattle.coverage_db.specs.Order.{bytes_cmp, letter_rank, rule_cmp}
use Rattle.point_words.specs.Words.{line_word_text, operator_text}

-- by source, and then by line
abbrev pub place_cmp : SourceLine → SourceLine → Ordering
place_cmp a b = ordering_then (nat_cmp a.source b.source) (nat_cmp a.line b.line)

-- by what else is written of a statement or a node: its place, and then its word or operator
abbrev pub written_cmp : Subject → Subject → Ordering
written_cmp (Line m a v) (Line n b w) = ordering_then (place_cmp a b) (bytes_cmp (line_word_text v) (line_word_text w))
written_cmp (Logic m a o c) (Logic n b p d) = ordering_then (place_cmp a b) (bytes_cmp (operator_text o) (operator_text p))
written_cmp _ _ = Equal

-- the order of point lines without their instances; where that does not distinguish two points, by what else is written
abbrev pub subject_cmp : Subject → Subject → Ordering
subject_cmp a b = ordering_then (nat_cmp (letter_rank a) (letter_rank b)) (ordering_then (rule_cmp a b) (written_cmp a b))
