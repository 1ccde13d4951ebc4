-- What is read of the text of an address is what the order of the points looks at.
use Rattle.std.proofs.Common.{◌≡◌, ◌<◌, ◌^◌, ◌∙◌, ℕ, true, false, List, [], ◌∷◌, Option, Some, refl, arith}
use Rattle.coverage_db.specs.declared.address.Address.{Address}
use Rattle.coverage_db.specs.declared.address.SourceLine.{SourceLine}
use Rattle.coverage_db.specs.declared.address.Subject.{Subject}
use Rattle.coverage_db.specs.declared.address.Subject.TheVariants.{Line, Logic, Toggle, State, Arc, Word}
use Rattle.coverage_db.specs.declared.db.DbInstance.{DbInstance}
use Rattle.coverage_db.specs.Fields.{fields_of}
use Rattle.coverage_db.specs.Order.{address_cmp, letter_rank, rule_cmp}
use Rattle.coverage_db.specs.Table.{IsSubject, Rises}
use Rattle.coverage_db.specs.Text.{address_text, letter, place_text, rise_text, write_text}
use Rattle.point_words.specs.declared.line_word.LineWord.{LineWord}
use Rattle.point_words.specs.declared.line_word.LineWord.TheVariants as line
use Rattle.point_words.specs.declared.node_case.NodeCase.{NodeCase}
use Rattle.point_words.specs.declared.operator.Operator.{Operator}
use Rattle.point_words.specs.declared.operator.Operator.TheVariants as operator
use Rattle.point_words.specs.Words.{line_word_text, node_case_text, operator_text}
use Rattle.point_words.proofs.WordLaws.{node_case_again}
use Rattle.coverage_db.proofs.PathSearch.{by_path}
use Rattle.coverage_db.proofs.PointLaws.{instance_again}
use Rattle.coverage_db.proofs.SubjectLaws.{index_again, number_at_again, subject_words}
use Rattle.point_lookup.specs.Keys.{address_key, line_key, logic_key, machine_key, nowhere, subject_key, toggle_key, word_key}
use Rattle.point_lookup.proofs.AddressFields.{IsAddress, address_fields}

-- what was read is there, and is the same in the order as what a point counts
pub record HasSubjectKey (read : Option Subject) (s : Subject) : Type 0 where
  pub key : Subject
  pub is : read ≡ Some key
  pub rank : letter_rank key ≡ letter_rank s
  pub alike : (x : Subject) → rule_cmp x key ≡ rule_cmp x s

line_alike : (n : ℕ) (at : SourceLine) (word : LineWord) (x : Subject) → rule_cmp x (Line n nowhere line.If) ≡ rule_cmp x (Line n at word)
line_alike n at word (Line m b v) = refl
line_alike n at word (Logic m b o c) = refl
line_alike n at word (Toggle name index rise) = refl
line_alike n at word (State name state) = refl
line_alike n at word (Arc name from to) = refl
line_alike n at word (Word name index write) = refl

logic_alike : (n : ℕ) (at : SourceLine) (op : Operator) (c : NodeCase) (x : Subject) → rule_cmp x (Logic n nowhere operator.Value c) ≡ rule_cmp x (Logic n at op c)
logic_alike n at op c (Line m b v) = refl
logic_alike n at op c (Logic m b o d) = refl
logic_alike n at op c (Toggle name index rise) = refl
logic_alike n at op c (State name state) = refl
logic_alike n at op c (Arc name from to) = refl
logic_alike n at op c (Word name index write) = refl

pub subject_key_again : (sources : ℕ) (s : Subject) → IsSubject sources s → HasSubjectKey (subject_key (letter s ∷ []) (subject_words s)) s
unfolding subject_key line_key logic_key toggle_key machine_key word_key
subject_key_again sources (Line n at word) is =
    record { key = Line n nowhere line.If; is = rw (number_at_again 0 4294967295 n (place_text at ∷ line_word_text word ∷ []) (omega arith) (omega arith) (omega (arith, is.0.1))) refl; rank = refl; alike = line_alike n at word }
subject_key_again sources (Logic n at op c) is =
    record { key = Logic n nowhere operator.Value c; is = rw (number_at_again 0 4294967295 n (place_text at ∷ operator_text op ∷ node_case_text c ∷ []) (omega arith) (omega arith) (omega (arith, is.0.1)), node_case_again c) refl; rank = refl; alike = logic_alike n at op c }
subject_key_again sources (Toggle name index true) is = record { key = Toggle name index true; is = rw (index_again index (rise_text true ∷ []) is.1) refl; rank = refl; alike = λ x. refl }
subject_key_again sources (Toggle name index false) is = record { key = Toggle name index false; is = rw (index_again index (rise_text false ∷ []) is.1) refl; rank = refl; alike = λ x. refl }
subject_key_again sources (State name state) is = record { key = State name state; is = refl; rank = refl; alike = λ x. refl }
subject_key_again sources (Arc name from to) is = record { key = Arc name from to; is = refl; rank = refl; alike = λ x. refl }
subject_key_again sources (Word name index true) is = record { key = Word name index true; is = rw (number_at_again 0 4294967295 index (write_text true ∷ []) (omega arith) (omega arith) (omega (arith, is.1))) refl; rank = refl; alike = λ x. refl }
subject_key_again sources (Word name index false) is = record { key = Word name index false; is = rw (number_at_again 0 4294967295 index (write_text false ∷ []) (omega arith) (omega arith) (omega (arith, is.1))) refl; rank = refl; alike = λ x. refl }

-- the two are the same in the order
abbrev pub Alike : Address → Address → Type 0
Alike key a = (x : Address) → address_cmp x key ≡ address_cmp x a

-- what was read is there, and is the same in the order as the address
pub record HasKey (read : Option Address) (a : Address) : Type 0 where
  pub key : Address
  pub is : read ≡ Some key
  pub alike : Alike key a

pub address_key_again : (sources : ℕ) (instances : List DbInstance) (a : Address) → Rises by_path instances → IsAddress sources instances a → HasKey (address_key instances (fields_of (address_text instances a))) a
unfolding address_key
address_key_again sources instances a rises is =
    let s = subject_key_again sources a.subject is.subject in
    let key : Address = record { instance = a.instance; subject = s.key } in
    record {
      key = key;
      is = rw (address_fields sources instances a is, instance_again instances a.instance rises is.instance, s.is) refl;
      alike = λ x. rw (s.rank, s.alike x.subject) refl;
    }
