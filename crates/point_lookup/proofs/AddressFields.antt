-- The fields of the text of an address.
use Rattle.std.proofs.Common.{◌≡◌, eqb, ◌<◌, ◌^◌, ◌∙◌, ℕ, Bool, true, false, List, [], ◌∷◌, ◌++◌, Option, Some, None, length, refl, sym, ap, subst, append_assoc, arith}
use Rattle.std.specs.Prelude.{All, IfSome, codes, decimal}
use Rattle.std.specs.List.{list_all}
use Rattle.std.proofs.lemmas.List.{append-nil}
use Rattle.coverage_db.specs.declared.address.Address.{Address}
use Rattle.coverage_db.specs.declared.address.Subject.{Subject}
use Rattle.coverage_db.specs.declared.address.Subject.TheVariants.{Line, Logic, Toggle, State, Arc, Word}
use Rattle.coverage_db.specs.declared.db.DbInstance.{DbInstance}
use Rattle.coverage_db.specs.Fields.{fields_of}
use Rattle.coverage_db.specs.Table.{IsInstance, IsSubject}
use Rattle.coverage_db.specs.Text.{address_text, index_text, letter, path_at, rise_text, subject_fields, write_text}
use Rattle.point_words.specs.Words.{line_word_text, node_case_text, operator_text}
use Rattle.coverage_db.proofs.Lacking.{IsApart, is_visible, space_apart, feed_apart, word_lacks, lacks_append, lacks_more, decimal_lacks, name_lacks, state_lacks, path_lacks}
use Rattle.coverage_db.proofs.PointLaws.{NoneHas, path_at_is, spaced}
use Rattle.coverage_db.proofs.Splitting.{fields_more, fields_one, lacks}
use Rattle.coverage_db.proofs.SubjectLaws.{subject_words}
use Rattle.coverage_db.proofs.WordLaws.{line_word_visible, node_case_visible, operator_visible}

fields_again : (field : List ℕ) (fields : List (List ℕ)) → lacks 32 field ≡ true → NoneHas 32 fields → fields_of (field ++ spaced fields) ≡ field ∷ fields
fields_again field [] free each = ap fields_of (append-nil field) ∙ fields_one field free
fields_again field (next ∷ fields) free each = fields_more field (next ++ spaced fields) free ∙ ap (λ (fs : List (List ℕ)). field ∷ fs) (fields_again next fields each.0 each.1)

place_free : (v source line : ℕ) → IsApart v → source < 2 ^ 64 → line < 2 ^ 64 → lacks v (decimal source ++ 58 ∷ decimal line) ≡ true
place_free v source line apart a b = lacks_append v (decimal source) (58 ∷ decimal line) (decimal_lacks v source apart.digit a) (lacks_more v 58 (decimal line) apart.colon (decimal_lacks v line apart.digit b))

index_free : (v : ℕ) (index : Option ℕ) → IsApart v → IfSome index (λ i. i < 2 ^ 32) → lacks v (index_text index) ≡ true
index_free v None apart small = word_lacks v (codes "-") apart refl
index_free v (Some i) apart small = decimal_lacks v i apart.digit (omega arith)

rise_free : (v : ℕ) (rise : Bool) → IsApart v → lacks v (rise_text rise) ≡ true
rise_free v true apart = word_lacks v (codes "01") apart refl
rise_free v false apart = word_lacks v (codes "10") apart refl

write_free : (v : ℕ) (write : Bool) → IsApart v → lacks v (write_text write) ≡ true
write_free v true apart = word_lacks v (codes "w") apart refl
write_free v false apart = word_lacks v (codes "r") apart refl

subject_free : (v sources : ℕ) (subject : Subject) → IsApart v → sources < 2 ^ 32 → IsSubject sources subject → NoneHas v (subject_words subject)
subject_free v sources (Line n at word) apart few is =
    (decimal_lacks v n apart.digit (omega (arith, is.0.1)), (place_free v at.source at.line apart (omega (arith, is.1.source.1)) (omega (arith, is.1.line.1)), (word_lacks v (line_word_text word) apart (line_word_visible word), tt)))
subject_free v sources (Logic n at op c) apart few is =
    (decimal_lacks v n apart.digit (omega (arith, is.0.1)), (place_free v at.source at.line apart (omega (arith, is.1.source.1)) (omega (arith, is.1.line.1)), (word_lacks v (operator_text op) apart (operator_visible op), (word_lacks v (node_case_text c) apart (node_case_visible c), tt))))
subject_free v sources (Toggle name index rise) apart few is = (name_lacks v name apart.name is.0, (index_free v index apart is.1, (rise_free v rise apart, tt)))
subject_free v sources (State name state) apart few is = (name_lacks v name apart.name is.0, (state_lacks v state apart.name apart.digit is.1, tt))
subject_free v sources (Arc name from target) apart few is = (name_lacks v name apart.name is.0, (state_lacks v from apart.name apart.digit is.1, (state_lacks v target apart.name apart.digit is.2, tt)))
subject_free v sources (Word name index write) apart few is = (name_lacks v name apart.name is.0, (decimal_lacks v index apart.digit (omega (arith, is.1)), (write_free v write apart, tt)))

subject_spaced : (subject : Subject) → spaced (subject_words subject) ≡ 32 ∷ subject_fields subject
subject_spaced (Line n at word) = simp (append-nil, append_assoc)
subject_spaced (Logic n at op c) = simp (append-nil, append_assoc)
subject_spaced (Toggle name index rise) = simp (append-nil, append_assoc)
subject_spaced (State name state) = simp (append-nil, append_assoc)
subject_spaced (Arc name from target) = simp (append-nil, append_assoc)
subject_spaced (Word name index write) = simp (append-nil, append_assoc)

letter_visible : (subject : Subject) → list_all is_visible (letter subject ∷ []) ≡ true
letter_visible (Line n at word) = refl
letter_visible (Logic n at op c) = refl
letter_visible (Toggle name index rise) = refl
letter_visible (State name state) = refl
letter_visible (Arc name from target) = refl
letter_visible (Word name index write) = refl

spaced_lacks : (value : ℕ) (fields : List (List ℕ)) → eqb 32 value ≡ false → NoneHas value fields → lacks value (spaced fields) ≡ true
spaced_lacks value [] other each = refl
spaced_lacks value (field ∷ fields) other each = lacks_more value 32 (field ++ spaced fields) other (lacks_append value field (spaced fields) each.0 (spaced_lacks value fields other each.1))

-- the fields of an address after its letter
abbrev pub address_words : List DbInstance → Address → List (List ℕ)
address_words instances a = path_at instances a.instance ∷ subject_words a.subject

address_spelled : (instances : List DbInstance) (a : Address) → (letter a.subject ∷ []) ++ spaced (address_words instances a) ≡ address_text instances a
address_spelled instances a = ap (λ (t : List ℕ). letter a.subject ∷ 32 ∷ path_at instances a.instance ++ t) (subject_spaced a.subject)

pub record IsAddress (sources : ℕ) (instances : List DbInstance) (a : Address) : Type 0 where
  pub few : sources < 2 ^ 32
  pub each : All IsInstance instances
  pub instance : a.instance < length instances
  pub subject : IsSubject sources a.subject

words_free : (v sources : ℕ) (instances : List DbInstance) (a : Address) → IsApart v → IsAddress sources instances a → NoneHas v (address_words instances a)
words_free v sources instances a apart is = (path_lacks v (path_at instances a.instance) apart.dot apart.name (path_at_is instances a.instance is.each is.instance), subject_free v sources a.subject apart is.few is.subject)

pub address_fields : (sources : ℕ) (instances : List DbInstance) (a : Address) → IsAddress sources instances a → fields_of (address_text instances a) ≡ (letter a.subject ∷ []) ∷ address_words instances a
address_fields sources instances a is =
    ap fields_of (sym (address_spelled instances a)) ∙ fields_again (letter a.subject ∷ []) (address_words instances a) (word_lacks 32 (letter a.subject ∷ []) space_apart (letter_visible a.subject)) (words_free 32 sources instances a space_apart is)

-- the text of an address has no line feed
pub address_whole : (sources : ℕ) (instances : List DbInstance) (a : Address) → IsAddress sources instances a → lacks 10 (address_text instances a) ≡ true
address_whole sources instances a is =
    subst (λ (l : List ℕ). lacks 10 l ≡ true) (address_spelled instances a)
    (lacks_append 10 (letter a.subject ∷ []) (spaced (address_words instances a)) (word_lacks 10 (letter a.subject ∷ []) feed_apart (letter_visible a.subject)) (spaced_lacks 10 (address_words instances a) refl (words_free 10 sources instances a feed_apart is)))
