-- The order of the points of a database.
use Rattle.std.specs.Prelude.{ℕ, Bool, true, false, Option, Some, None, List}
use Rattle.std.specs.declared.cmp.Ordering.{Ordering}
use Rattle.std.specs.declared.cmp.Ordering.TheVariants.{Less, Equal, Greater}
use Rattle.std.specs.Ordering.{nat_cmp, ordering_then}
use Rattle.std.specs.Cmp.Lexicographic.{slice_cmp}
use Rattle.coverage_db.specs.declared.address.Address.{Address}
use Rattle.coverage_db.specs.declared.address.Subject.{Subject}
use Rattle.coverage_db.specs.declared.address.Subject.TheVariants.{Line, Logic, Toggle, State, Arc, Word}
use Rattle.point_words.specs.Words.{node_case_rank}

-- by the bytes
abbrev pub bytes_cmp : List ℕ → List ℕ → Ordering
bytes_cmp a b = slice_cmp nat_cmp a b

-- no index, and then by number
abbrev pub index_cmp : Option ℕ → Option ℕ → Ordering
index_cmp None None = Equal
index_cmp None (Some b) = Less
index_cmp (Some a) None = Greater
index_cmp (Some a) (Some b) = nat_cmp a b

-- `01` before `10`
abbrev pub rise_cmp : Bool → Bool → Ordering
rise_cmp true false = Less
rise_cmp false true = Greater
rise_cmp _ _ = Equal

-- `r` before `w`
abbrev pub write_cmp : Bool → Bool → Ordering
write_cmp false true = Less
write_cmp true false = Greater
write_cmp _ _ = Equal

-- `l`, `c`, `t`, `f`, `m`
abbrev pub letter_rank : Subject → ℕ
letter_rank (Line number at word) = 0
letter_rank (Logic number at operator case) = 1
letter_rank (Toggle name index rise) = 2
letter_rank (State name state) = 3
letter_rank (Arc name from to) = 3
letter_rank (Word name index write) = 4

-- two points of a machine: by its name, and then the states come first
abbrev pub machine_cmp : Subject → Subject → Ordering
machine_cmp (State x s) (State y t) = ordering_then (bytes_cmp x y) (bytes_cmp s t)
machine_cmp (State x s) (Arc y b c) = ordering_then (bytes_cmp x y) Less
machine_cmp (Arc x a b) (State y t) = ordering_then (bytes_cmp x y) Greater
machine_cmp (Arc x a b) (Arc y c d) = ordering_then (bytes_cmp x y) (ordering_then (bytes_cmp a c) (bytes_cmp b d))
machine_cmp _ _ = Equal

-- the rule of a letter
abbrev pub rule_cmp : Subject → Subject → Ordering
rule_cmp (Line m a v) (Line n b w) = nat_cmp m n
rule_cmp (Logic m a o c) (Logic n b p d) = ordering_then (nat_cmp m n) (nat_cmp (node_case_rank c) (node_case_rank d))
rule_cmp (Toggle x i r) (Toggle y j s) = ordering_then (bytes_cmp x y) (ordering_then (index_cmp i j) (rise_cmp r s))
rule_cmp (Word x i w) (Word y j v) = ordering_then (bytes_cmp x y) (ordering_then (nat_cmp i j) (write_cmp w v))
rule_cmp a b = machine_cmp a b

-- by letter, by instance, and by the rule of the letter
abbrev pub address_cmp : Address → Address → Ordering
address_cmp a b = ordering_then (nat_cmp (letter_rank a.subject) (letter_rank b.subject)) (ordering_then (nat_cmp a.instance b.instance) (rule_cmp a.subject b.subject))
