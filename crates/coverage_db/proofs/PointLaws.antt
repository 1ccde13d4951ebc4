-- The line of a point: what is read is spelled so, and what is spelled so is read.
use Rattle.std.proofs.Common.{◌≡◌, ℕ, zero, suc, ◌+◌, ◌^◌, ◌<◌, Bool, true, false, cond, eqb, List, [], ◌∷◌, ◌++◌, length, get_or, All, Option, Some, None, refl, sym, ap, subst, ◌∙◌, append_assoc, inl, inr, arith}
use Rattle.std.specs.Prelude.{bytes_eq, decimal, codes, IfSome, option_map}
use Rattle.std.specs.List.{join_with_byte, list_all, AllByRecursion}
use Rattle.std.specs.Option.{is_some}
use Rattle.std.proofs.lemmas.Bool.{cases_Bool}
use Rattle.std.proofs.lemmas.Option.{same_Some, cond_some}
use Rattle.std.proofs.lemmas.List.{append-nil}
use Rattle.std.proofs.lemmas.Slice.Eq.{bytes_eq-Decides}
use Rattle.cov_host.specs.Identifier.{is_identifier}
use Rattle.coverage_db.specs.declared.address.Subject.{Subject}
use Rattle.coverage_db.specs.declared.address.Subject.TheVariants.{Line, Logic, Toggle, State, Arc, Word}
use Rattle.coverage_db.specs.declared.db.DbInstance.{DbInstance}
use Rattle.coverage_db.specs.declared.db.DbPoint.{DbPoint}
use Rattle.coverage_db.specs.declared.verdict.DbVerdict.{DbVerdict}
use Rattle.coverage_db.specs.declared.verdict.DbVerdict.TheVariants.{Hit, Missed, Undetermined}
use Rattle.coverage_db.specs.Fields.{◌>>=◌, split_last, fields_of, field_at, end_at, number_at}
use Rattle.coverage_db.specs.Reading.{instance_of, is_thing, doubt_at, verdict_by, verdict_at, subject_at, point_of}
use Rattle.coverage_db.specs.Table.{Rises, IsInstance, IsSubject, IsThingIn, IsVerdict, IsPoint, is_path}
use Rattle.coverage_db.specs.Text.{index_text, rise_text, write_text, letter, subject_fields, path_at, verdict_text, point_line}
use Rattle.point_words.specs.Words.{line_word_text, node_case_text, operator_text}
use Rattle.coverage_db.proofs.Lacking.{is_visible, IsApart, space_apart, feed_apart, word_lacks, lacks_append, lacks_more, decimal_lacks, name_lacks, state_lacks, path_lacks}
use Rattle.coverage_db.proofs.PathSearch.{by_path, instance_found}
use Rattle.coverage_db.proofs.Splitting.{lacks, last_takes, last_again, fields_one, fields_more, fields_joined}
use Rattle.coverage_db.proofs.SubjectLaws.{field_takes, end_takes, number_at_takes, number_at_again, subject_words, subject_takes, subject_again}
use Rattle.coverage_db.proofs.WordLaws.{bind_some, line_word_visible, node_case_visible, operator_visible}

-- ---- instances

-- what the place of a path says
pub record HasPath (instances : List DbInstance) (path : List ℕ) (place : ℕ) : Type 0 where
  pub within : place < length instances
  pub path_is : path_at instances place ≡ path
  pub at : (d : DbInstance) → (get_or instances place d).path ≡ path

has_path_more : (x : DbInstance) (xs : List DbInstance) (path : List ℕ) (place : ℕ) → HasPath xs path place → HasPath (x ∷ xs) path (place + 1)
has_path_more x xs path place h =
    let more : place + 1 ≡ suc place = omega arith in
    rw more (record { within = omega (arith, h.within); path_is = h.path_is; at = h.at })

has_path_later : (x : DbInstance) (xs : List DbInstance) (path : List ℕ) (place : ℕ) (o : Option ℕ) → ((p : ℕ) → o ≡ Some p → HasPath xs path p) → option_map {U = ℕ} (λ p. p + 1) o ≡ Some place → HasPath (x ∷ xs) path place
has_path_later x xs path place None h e = absurd cc
has_path_later x xs path place (Some p) h e = subst (HasPath (x ∷ xs) path) (same_Some (p + 1) place e) (has_path_more x xs path p (h p refl))

pub instance_takes : (instances : List DbInstance) (path : List ℕ) (place : ℕ) → instance_of instances path ≡ Some place → HasPath instances path place
instance_takes [] path place e = absurd cc
instance_takes (x ∷ xs) path place e =
    elim (cases_Bool (bytes_eq x.path path)) [
      | inl is ↦
          let same : ◌≡◌ {A = Option ℕ} (Some 0) (Some place) = rw is at e in
          let path_is : x.path ≡ path = (bytes_eq-Decides x.path path).0 is in
          subst (HasPath (x ∷ xs) path) (same_Some 0 place same) (record { within = omega arith; path_is = path_is; at = λ d. path_is })
      | inr other ↦ has_path_later x xs path place (instance_of xs path) (λ p h. instance_takes xs path p h) (rw other at e)
    ]

path_at_get : (instances : List DbInstance) (place : ℕ) (d : DbInstance) → place < length instances → path_at instances place ≡ (get_or instances place d).path
path_at_get [] place d within = absurd (omega arith)
path_at_get (x ∷ xs) zero d within = refl
path_at_get (x ∷ xs) (suc place) d within = path_at_get xs place d (omega arith)

first_of : (instances : List DbInstance) (place : ℕ) → place < length instances → DbInstance
first_of [] place within = absurd (omega arith)
first_of (x ∷ xs) place within = x

pub instance_again : (instances : List DbInstance) (place : ℕ) → Rises by_path instances → place < length instances → instance_of instances (path_at instances place) ≡ Some place
instance_again instances place rises within =
    let d = first_of instances place within in
    instance_found instances (path_at instances place) place d rises within (sym (path_at_get instances place d within))

pub path_at_is : (instances : List DbInstance) (place : ℕ) → All IsInstance instances → place < length instances → is_path (path_at instances place) ≡ true
path_at_is instances place each within =
    let d = first_of instances place within in
    rw (path_at_get instances place d within) (each place d within).path

get_or_same : (instances : List DbInstance) (place : ℕ) (d e : DbInstance) → place < length instances → get_or instances place e ≡ get_or instances place d
get_or_same [] place d e within = absurd (omega arith)
get_or_same (x ∷ xs) zero d e within = refl
get_or_same (x ∷ xs) (suc place) d e within = get_or_same xs place d e (omega arith)

-- ---- things

thing_found : (instances : List DbInstance) (path front name : List ℕ) (o : Option ℕ) → path ≡ front ++ 46 ∷ name → is_identifier name ≡ true → instance_of instances front ≡ o → is_some o ≡ true → IsThingIn instances path
thing_found instances path front name None whole named e some = absurd cc
thing_found instances path front name (Some place) whole named e some =
    let h = instance_takes instances front place e in
    let d = first_of instances place h.within in
    let i = get_or instances place d in
    (i, name, (place, h.within, get_or_same instances place d i h.within), named, whole ∙ ap (λ (f : List ℕ). f ++ 46 ∷ name) (sym (h.at d)))

thing_by : (instances : List DbInstance) (path : List ℕ) (o : Option (List ℕ × List ℕ)) → split_last 46 path ≡ o → is_some (o >>= λ parts. cond (is_identifier parts.1) (instance_of instances parts.0) None) ≡ true → IsThingIn instances path
thing_by instances path None e some = absurd cc
thing_by instances path (Some parts) e some =
    let whole = last_takes 46 path parts.0 parts.1 e in
    elim (cases_Bool (is_identifier parts.1)) [
      | inl named ↦ thing_found instances path parts.0 parts.1 (instance_of instances parts.0) whole named refl (rw named at some)
      | inr other ↦ absurd (let bad : false ≡ true = rw other at some in cc)
    ]

pub thing_takes : (instances : List DbInstance) (path : List ℕ) → is_thing instances path ≡ true → IsThingIn instances path
unfolding is_thing
thing_takes instances path e = thing_by instances path (split_last 46 path) refl e

pub thing_again : (instances : List DbInstance) (path : List ℕ) → Rises by_path instances → IsThingIn instances path → is_thing instances path ≡ true
unfolding is_thing
thing_again instances path rises (i, name, (place, within, at), named, whole) =
    let found : instance_of instances i.path ≡ Some place = instance_found instances i.path place i rises within (ap (λ (x : DbInstance). x.path) at) in
    let split : split_last 46 path ≡ Some (i.path, name) = ap (split_last 46) whole ∙ last_again 46 i.path name (name_lacks 46 name refl named) in
    rw (split, named, found) refl

-- ---- verdicts

abbrev pub verdict_words : DbVerdict → List (List ℕ)
verdict_words Hit = codes "hit" ∷ []
verdict_words Missed = codes "missed" ∷ []
verdict_words (Undetermined time path) = codes "?" ∷ decimal time ∷ path ∷ []

-- what a verdict took
pub record TookVerdict (instances : List DbInstance) (fields : List (List ℕ)) (verdict : DbVerdict) : Type 0 where
  pub fields_are : fields ≡ verdict_words verdict
  pub is : IsVerdict instances verdict

doubt_takes : (instances : List DbInstance) (fields : List (List ℕ)) (v : DbVerdict) → doubt_at instances fields ≡ Some v → TookVerdict instances (codes "?" ∷ fields) v
unfolding doubt_at
doubt_takes instances fields v e =
    let x0 = bind_some (number_at 0 9223372036854775807 fields) (λ time. field_at time.1 >>= λ path. end_at path.1 >>= λ end. cond (is_thing instances path.0) (Some (Undetermined time.0 path.0)) None) v (e) in
    let x1 = bind_some (field_at x0.0.1) (λ path. end_at path.1 >>= λ end. cond (is_thing instances path.0) (Some (Undetermined x0.0.0 path.0)) None) v (x0.2) in
    let x2 = bind_some (end_at x1.0.1) (λ end. cond (is_thing instances x1.0.0) (Some (Undetermined x0.0.0 x1.0.0)) None) v (x1.2) in
    let taken = cond_some (is_thing instances x1.0.0) (Undetermined x0.0.0 x1.0.0) v x2.2 in
    let t0 = number_at_takes 0 9223372036854775807 fields x0.0 (omega arith) x0.1 in
    let t1 = field_takes x0.0.1 x1.0.0 x1.0.1 x1.1 in
    let t2 = end_takes x1.0.1 x2.0 x2.1 in
    let fields_are : codes "?" ∷ fields ≡ codes "?" ∷ decimal x0.0.0 ∷ x1.0.0 ∷ [] = cc (t0.fields_are, t1, t2) in
    subst (TookVerdict instances (codes "?" ∷ fields)) taken.1 (record { fields_are = fields_are; is = (omega (arith, t0.high), thing_takes instances x1.0.0 taken.0) })

plain_takes : (instances : List DbInstance) (word : List ℕ) (fields : List (List ℕ)) (made v : DbVerdict) → verdict_words made ≡ word ∷ [] → IsVerdict instances made → (end_at fields >>= λ end. Some made) ≡ Some v → TookVerdict instances (word ∷ fields) v
plain_takes instances word fields made v words is e =
    let x0 = bind_some (end_at fields) (λ end. Some made) v e in
    let t0 = end_takes fields x0.0 x0.1 in
    subst (TookVerdict instances (word ∷ fields)) (same_Some made v x0.2) (record { fields_are = ap (λ (fs : List (List ℕ)). word ∷ fs) t0 ∙ sym words; is = is })

verdict_by_takes : (instances : List DbInstance) (word : List ℕ) (fields : List (List ℕ)) (v : DbVerdict) → verdict_by instances word fields ≡ Some v → TookVerdict instances (word ∷ fields) v
unfolding verdict_by
verdict_by_takes instances word fields v e =
    elim (cases_Bool (bytes_eq word (codes "hit"))) [
      | inl is ↦ plain_takes instances word fields Hit v (ap (λ (w : List ℕ). w ∷ []) (sym ((bytes_eq-Decides word (codes "hit")).0 is))) tt (rw is at e)
      | inr no_hit ↦ elim (cases_Bool (bytes_eq word (codes "missed"))) [
        | inl is ↦ plain_takes instances word fields Missed v (ap (λ (w : List ℕ). w ∷ []) (sym ((bytes_eq-Decides word (codes "missed")).0 is))) tt (rw (no_hit, is) at e)
        | inr no_miss ↦ elim (cases_Bool (bytes_eq word (codes "?"))) [
          | inl is ↦ subst (λ (w : List ℕ). TookVerdict instances (w ∷ fields) v) (sym ((bytes_eq-Decides word (codes "?")).0 is)) (doubt_takes instances fields v (rw (no_hit, no_miss, is) at e))
          | inr none ↦ absurd (let bad : ◌≡◌ {A = Option DbVerdict} None (Some v) = rw (no_hit, no_miss, none) at e in cc)
        ]
      ]
    ]

pub verdict_takes : (instances : List DbInstance) (fields : List (List ℕ)) (v : DbVerdict) → verdict_at instances fields ≡ Some v → TookVerdict instances fields v
unfolding verdict_at
verdict_takes instances fields v e =
    let x0 = bind_some (field_at fields) (λ word. verdict_by instances word.0 word.1) v e in
    subst (λ (fs : List (List ℕ)). TookVerdict instances fs v) (sym (field_takes fields x0.0.0 x0.0.1 x0.1)) (verdict_by_takes instances x0.0.0 x0.0.1 v x0.2)

pub verdict_again : (instances : List DbInstance) (v : DbVerdict) → Rises by_path instances → IsVerdict instances v → verdict_at instances (verdict_words v) ≡ Some v
unfolding verdict_at verdict_by doubt_at
verdict_again instances Hit rises is = refl
verdict_again instances Missed rises is = refl
verdict_again instances (Undetermined time path) rises is = rw (number_at_again 0 9223372036854775807 time (path ∷ []) (omega arith) (omega arith) (omega (arith, is.0)), thing_again instances path rises is.1) refl

-- ---- fields and the line

-- fields after a first one, each with the space before it
abbrev pub spaced : List (List ℕ) → List ℕ
spaced [] = []
spaced (field ∷ fields) = 32 ∷ field ++ spaced fields

spaced_append : (a b : List (List ℕ)) → spaced (a ++ b) ≡ spaced a ++ spaced b
spaced_append [] b = refl
spaced_append (field ∷ a) b = ap (λ (t : List ℕ). 32 ∷ field ++ t) (spaced_append a b) ∙ ap (λ (t : List ℕ). 32 ∷ t) (sym (append_assoc field (spaced a) (spaced b)))

joined_spaced : (field : List ℕ) (fields : List (List ℕ)) → join_with_byte 32 (field ∷ fields) ≡ field ++ spaced fields
joined_spaced field [] = sym (append-nil field)
joined_spaced field (next ∷ fields) = ap (λ (t : List ℕ). field ++ 32 ∷ t) (joined_spaced next fields)

-- no field has the byte
abbrev pub NoneHas : ℕ → List (List ℕ) → Type 0
NoneHas value fields = AllByRecursion (λ field. lacks value field ≡ true) fields

fields_again : (field : List ℕ) (fields : List (List ℕ)) → lacks 32 field ≡ true → NoneHas 32 fields → fields_of (field ++ spaced fields) ≡ field ∷ fields
fields_again field [] free each = ap fields_of (append-nil field) ∙ fields_one field free
fields_again field (next ∷ fields) free each = fields_more field (next ++ spaced fields) free ∙ ap (λ (fs : List (List ℕ)). field ∷ fs) (fields_again next fields each.0 each.1)

none_has_append : (value : ℕ) (a b : List (List ℕ)) → NoneHas value a → NoneHas value b → NoneHas value (a ++ b)
none_has_append value [] b p q = q
none_has_append value (field ∷ a) b p q = (p.0, none_has_append value a b p.1 q)

spaced_lacks : (value : ℕ) (fields : List (List ℕ)) → eqb 32 value ≡ false → NoneHas value fields → lacks value (spaced fields) ≡ true
spaced_lacks value [] other each = refl
spaced_lacks value (field ∷ fields) other each = lacks_more value 32 (field ++ spaced fields) other (lacks_append value field (spaced fields) each.0 (spaced_lacks value fields other each.1))

place_free : (v source line : ℕ) → IsApart v → source < 2 ^ 64 → line < 2 ^ 64 → lacks v (decimal source ++ 58 ∷ decimal line) ≡ true
place_free v source line apart a b = lacks_append v (decimal source) (58 ∷ decimal line) (decimal_lacks v source apart.digit a) (lacks_more v 58 (decimal line) apart.colon (decimal_lacks v line apart.digit b))

index_free : (v : ℕ) (index : Option ℕ) → IsApart v → IfSome index (λ i. i < 2 ^ 32) → lacks v (index_text index) ≡ true
index_free v None apart small = word_lacks v (codes "-") apart refl
index_free v (Some i) apart small = decimal_lacks v i apart.digit (omega arith)

rise_free : (v : ℕ) (rise : Bool) → IsApart v → lacks v (rise_text rise) ≡ true
rise_free v true apart = word_lacks v (codes "01") apart refl
rise_free v false apart = word_lacks v (codes "10") apart refl

write_free : (v : ℕ) (write : Bool) → IsApart v → lacks v (write_text write) ≡ true
write_free v true apart = word_lacks v (codes "w") apart refl
write_free v false apart = word_lacks v (codes "r") apart refl

subject_free : (v sources : ℕ) (subject : Subject) → IsApart v → sources < 2 ^ 32 → IsSubject sources subject → NoneHas v (subject_words subject)
subject_free v sources (Line n at word) apart few is =
    (decimal_lacks v n apart.digit (omega (arith, is.0.1)), (place_free v at.source at.line apart (omega (arith, is.1.source.1)) (omega (arith, is.1.line.1)), (word_lacks v (line_word_text word) apart (line_word_visible word), tt)))
subject_free v sources (Logic n at op c) apart few is =
    (decimal_lacks v n apart.digit (omega (arith, is.0.1)), (place_free v at.source at.line apart (omega (arith, is.1.source.1)) (omega (arith, is.1.line.1)), (word_lacks v (operator_text op) apart (operator_visible op), (word_lacks v (node_case_text c) apart (node_case_visible c), tt))))
subject_free v sources (Toggle name index rise) apart few is = (name_lacks v name apart.name is.0, (index_free v index apart is.1, (rise_free v rise apart, tt)))
subject_free v sources (State name state) apart few is = (name_lacks v name apart.name is.0, (state_lacks v state apart.name apart.digit is.1, tt))
subject_free v sources (Arc name from target) apart few is = (name_lacks v name apart.name is.0, (state_lacks v from apart.name apart.digit is.1, (state_lacks v target apart.name apart.digit is.2, tt)))
subject_free v sources (Word name index write) apart few is = (name_lacks v name apart.name is.0, (decimal_lacks v index apart.digit (omega (arith, is.1)), (write_free v write apart, tt)))

thing_free : (v : ℕ) (instances : List DbInstance) (path : List ℕ) → IsApart v → All IsInstance instances → IsThingIn instances path → lacks v path ≡ true
thing_free v instances path apart each (i, name, (place, within, at), named, whole) =
    let inst : IsInstance i = subst IsInstance at (each place i within) in
    rw whole (lacks_append v i.path (46 ∷ name) (path_lacks v i.path apart.dot apart.name inst.path) (lacks_more v 46 name apart.dot (name_lacks v name apart.name named)))

verdict_free : (v : ℕ) (instances : List DbInstance) (verdict : DbVerdict) → IsApart v → All IsInstance instances → IsVerdict instances verdict → NoneHas v (verdict_words verdict)
verdict_free v instances Hit apart each is = (word_lacks v (codes "hit") apart refl, tt)
verdict_free v instances Missed apart each is = (word_lacks v (codes "missed") apart refl, tt)
verdict_free v instances (Undetermined time path) apart each is = (word_lacks v (codes "?") apart refl, (decimal_lacks v time apart.digit (omega (arith, is.0)), (thing_free v instances path apart each is.1, tt)))

subject_spaced : (subject : Subject) → spaced (subject_words subject) ≡ 32 ∷ subject_fields subject
subject_spaced (Line n at word) = simp (append-nil, append_assoc)
subject_spaced (Logic n at op c) = simp (append-nil, append_assoc)
subject_spaced (Toggle name index rise) = simp (append-nil, append_assoc)
subject_spaced (State name state) = simp (append-nil, append_assoc)
subject_spaced (Arc name from target) = simp (append-nil, append_assoc)
subject_spaced (Word name index write) = simp (append-nil, append_assoc)

verdict_spaced : (v : DbVerdict) → spaced (verdict_words v) ≡ 32 ∷ verdict_text v
verdict_spaced Hit = refl
verdict_spaced Missed = refl
verdict_spaced (Undetermined time path) = simp (append-nil, append_assoc)

-- the fields of the line of a point, after the first
abbrev pub point_words : List DbInstance → DbPoint → List (List ℕ)
point_words instances p = path_at instances p.address.instance ∷ subject_words p.address.subject ++ codes "=" ∷ verdict_words p.verdict

equals_spaced : (text words : List ℕ) → words ≡ 32 ∷ text → 32 ∷ codes "=" ++ words ≡ codes " = " ++ text
equals_spaced text words e = rw e refl

regrouped : (a b c d : List ℕ) → a ++ (b ++ (c ++ d)) ≡ ((a ++ b) ++ c) ++ d
regrouped a b c d = simp append_assoc

pub point_spelled : (instances : List DbInstance) (p : DbPoint) → (letter p.address.subject ∷ []) ++ spaced (point_words instances p) ≡ point_line instances p
point_spelled instances p =
    let s = p.address.subject in
    let path : List ℕ = path_at instances p.address.instance in
    let verdict : spaced (codes "=" ∷ verdict_words p.verdict) ≡ codes " = " ++ verdict_text p.verdict = equals_spaced (verdict_text p.verdict) (spaced (verdict_words p.verdict)) (verdict_spaced p.verdict) in
    let rest : spaced (subject_words s ++ codes "=" ∷ verdict_words p.verdict) ≡ (32 ∷ subject_fields s) ++ (codes " = " ++ verdict_text p.verdict) = rw (spaced_append (subject_words s) (codes "=" ∷ verdict_words p.verdict), subject_spaced s, verdict) refl in
    ap (λ (t : List ℕ). letter s ∷ 32 ∷ path ++ t) rest ∙ regrouped (letter s ∷ 32 ∷ path) (32 ∷ subject_fields s) (codes " = ") (verdict_text p.verdict)

letter_visible : (subject : Subject) → list_all is_visible (letter subject ∷ []) ≡ true
letter_visible (Line n at word) = refl
letter_visible (Logic n at op c) = refl
letter_visible (Toggle name index rise) = refl
letter_visible (State name state) = refl
letter_visible (Arc name from target) = refl
letter_visible (Word name index write) = refl

point_free : (v sources : ℕ) (instances : List DbInstance) (p : DbPoint) → IsApart v → sources < 2 ^ 32 → All IsInstance instances → IsPoint sources instances p → NoneHas v (point_words instances p)
point_free v sources instances p apart few each is =
    let s = p.address.subject in
    let path : List ℕ = path_at instances p.address.instance in
    (path_lacks v path apart.dot apart.name (path_at_is instances p.address.instance each is.instance), none_has_append v (subject_words s) (codes "=" ∷ verdict_words p.verdict) (subject_free v sources s apart few is.subject) (word_lacks v (codes "=") apart refl, verdict_free v instances p.verdict apart each is.verdict))

-- the line of a point has no line feed
pub point_line_whole : (sources : ℕ) (instances : List DbInstance) (p : DbPoint) → sources < 2 ^ 32 → All IsInstance instances → IsPoint sources instances p → lacks 10 (point_line instances p) ≡ true
point_line_whole sources instances p few each is =
    subst (λ (l : List ℕ). lacks 10 l ≡ true) (point_spelled instances p)
    (lacks_append 10 (letter p.address.subject ∷ []) (spaced (point_words instances p)) (word_lacks 10 (letter p.address.subject ∷ []) feed_apart (letter_visible p.address.subject)) (spaced_lacks 10 (point_words instances p) refl (point_free 10 sources instances p feed_apart few each is)))

-- ---- the line of a point

-- what the line of a point says
pub record TookPoint (sources : ℕ) (instances : List DbInstance) (line : List ℕ) (point : DbPoint) : Type 0 where
  pub spelled : line ≡ point_line instances point
  pub is : IsPoint sources instances point

point_fields : (s : List (List ℕ)) (equals : List ℕ) {f0 f1 f2 f3 words : List (List ℕ)} {first' first path path' : List ℕ} → f0 ≡ first' ∷ f1 → f1 ≡ path' ∷ f2 → first' ≡ first → path ≡ path' → f2 ≡ s ++ equals ∷ f3 → f3 ≡ words → f0 ≡ first ∷ path ∷ s ++ equals ∷ words
point_fields s equals p q r t u v = cc

pub point_takes : (sources : ℕ) (instances : List DbInstance) (line : List ℕ) (p : DbPoint) → sources < 2 ^ 32 → point_of sources instances line ≡ Some p → TookPoint sources instances line p
unfolding point_of
point_takes sources instances line p few e =
    let x0 = bind_some (field_at (fields_of line)) (λ letter. field_at letter.1 >>= λ path. instance_of instances path.0 >>= λ place. subject_at sources letter.0 path.1 >>= λ counted. verdict_at instances counted.1 >>= λ outcome. Some (record { address = record { instance = place; subject = counted.0 }; verdict = outcome })) p (e) in
    let x1 = bind_some (field_at x0.0.1) (λ path. instance_of instances path.0 >>= λ place. subject_at sources x0.0.0 path.1 >>= λ counted. verdict_at instances counted.1 >>= λ outcome. Some (record { address = record { instance = place; subject = counted.0 }; verdict = outcome })) p (x0.2) in
    let x2 = bind_some (instance_of instances x1.0.0) (λ place. subject_at sources x0.0.0 x1.0.1 >>= λ counted. verdict_at instances counted.1 >>= λ outcome. Some (record { address = record { instance = place; subject = counted.0 }; verdict = outcome })) p (x1.2) in
    let x3 = bind_some (subject_at sources x0.0.0 x1.0.1) (λ counted. verdict_at instances counted.1 >>= λ outcome. Some (record { address = record { instance = x2.0; subject = counted.0 }; verdict = outcome })) p (x2.2) in
    let x4 = bind_some (verdict_at instances x3.0.1) (λ outcome. Some (record { address = record { instance = x2.0; subject = x3.0.0 }; verdict = outcome })) p (x3.2) in
    let made : DbPoint = record { address = record { instance = x2.0; subject = x3.0.0 }; verdict = x4.0 } in
    let t0 = field_takes (fields_of line) x0.0.0 x0.0.1 x0.1 in
    let t1 = field_takes x0.0.1 x1.0.0 x1.0.1 x1.1 in
    let t2 = instance_takes instances x1.0.0 x2.0 x2.1 in
    let t3 = subject_takes sources x0.0.0 x1.0.1 x3.0 few x3.1 in
    let t4 = verdict_takes instances x3.0.1 x4.0 x4.1 in
    let fields_are : fields_of line ≡ (letter x3.0.0 ∷ []) ∷ point_words instances made = point_fields (subject_words x3.0.0) (codes "=") t0 t1 t3.word_is t2.path_is t3.fields_are t4.fields_are in
    let whole : line ≡ point_line instances made = sym (fields_joined line) ∙ ap (join_with_byte 32) fields_are ∙ joined_spaced (letter x3.0.0 ∷ []) (point_words instances made) ∙ point_spelled instances made in
    subst (TookPoint sources instances line) (same_Some made p x4.2) (record { spelled = whole; is = record { instance = t2.within; subject = t3.is; verdict = t4.is } })

pub point_again : (sources : ℕ) (instances : List DbInstance) (p : DbPoint) → sources < 2 ^ 32 → Rises by_path instances → All IsInstance instances → IsPoint sources instances p → point_of sources instances (point_line instances p) ≡ Some p
unfolding point_of
point_again sources instances p few rises each is =
    let s = p.address.subject in
    let free = point_free 32 sources instances p space_apart few each is in
    let fields : fields_of (point_line instances p) ≡ (letter s ∷ []) ∷ point_words instances p = ap fields_of (sym (point_spelled instances p)) ∙ fields_again (letter s ∷ []) (point_words instances p) (word_lacks 32 (letter s ∷ []) space_apart (letter_visible s)) free in
    rw (fields, instance_again instances p.address.instance rises is.instance, subject_again sources s (verdict_words p.verdict) few is.subject, verdict_again instances p.verdict rises is.verdict) refl
