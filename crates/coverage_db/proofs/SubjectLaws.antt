-- What a point counts, and its fields: what is read is spelled so, and what is spelled so is read.
use Rattle.std.proofs.Common.{◌≡◌, ◌≢◌, ℕ, ◌^◌, ◌<◌, ◌≤◌, Bool, true, false, not, cond, List, [], ◌∷◌, ◌++◌, Option, Some, None, refl, sym, ap, subst, ◌∙◌, inl, inr, arith}
use Rattle.std.specs.Prelude.{bytes_eq, decimal, codes, IfSome, ◌&&◌}
use Rattle.std.proofs.lemmas.Bool.{cases_Bool}
use Rattle.std.proofs.lemmas.Option.{same_Some, cond_some}
use Rattle.std.proofs.lemmas.Slice.Eq.{bytes_eq-Decides}
use Rattle.cov_host.specs.Identifier.{is_identifier}
use Rattle.coverage_db.specs.declared.address.SourceLine.{SourceLine}
use Rattle.coverage_db.specs.declared.address.Subject.{Subject}
use Rattle.coverage_db.specs.declared.address.Subject.TheVariants.{Line, Logic, Toggle, State, Arc, Word}
use Rattle.coverage_db.specs.Fields.{◌>>=◌, number_of, field_at, end_at, equals_at, number_at}
use Rattle.coverage_db.specs.Reading.{place_of, place_at, tested_at, index_at, choice_at, line_at, logic_at, toggle_at, arc_at, machine_at, word_at, subject_at}
use Rattle.coverage_db.specs.Table.{IsSubject, IsSourceLine, is_state}
use Rattle.coverage_db.specs.Text.{place_text, index_text, rise_text, write_text, letter}
use Rattle.point_words.specs.Words.{line_word_text, line_word_of, node_case_text, node_case_of, operator_text, operator_of, can_have}
use Rattle.coverage_db.proofs.Numbers.{number_takes, number_again, decimal_plain}
use Rattle.coverage_db.proofs.PathSearch.{same_path}
use Rattle.point_words.proofs.WordLaws.{line_word_takes, line_word_again, node_case_takes, node_case_again, operator_takes, operator_again}
use Rattle.coverage_db.proofs.WordLaws.{bind_some, place_takes, place_again}

-- ---- one field

pub field_takes : (fields : List (List ℕ)) (field : List ℕ) (left : List (List ℕ)) → field_at fields ≡ Some (field, left) → fields ≡ field ∷ left
field_takes [] field left e = absurd cc
field_takes (f ∷ fs) field left e = let same = same_Some (f, fs) (field, left) e in ap (λ (p : List ℕ × List (List ℕ)). p.0 ∷ p.1) same

pub equals_takes : (fields : List (List ℕ)) (x : Unit {0} × List (List ℕ)) → equals_at fields ≡ Some x → fields ≡ codes "=" ∷ x.1
equals_takes [] x e = absurd cc
equals_takes (f ∷ fs) x e =
    let taken = cond_some (bytes_eq f (codes "=")) (tt, fs) x e in
    let is : f ≡ codes "=" = (bytes_eq-Decides f (codes "=")).0 taken.0 in
    rw is (ap (λ (p : Unit {0} × List (List ℕ)). codes "=" ∷ p.1) taken.1)

pub end_takes : (fields : List (List ℕ)) (x : Unit {0} × List (List ℕ)) → end_at fields ≡ Some x → fields ≡ []
end_takes [] x e = refl
end_takes (f ∷ fs) x e = absurd cc

-- what a number took
pub record TookNumber (least greatest : ℕ) (fields : List (List ℕ)) (number : ℕ) (left : List (List ℕ)) : Type 0 where
  pub fields_are : fields ≡ decimal number ∷ left
  pub low : least ≤ number
  pub high : number ≤ greatest

pub number_at_takes : (least greatest : ℕ) (fields : List (List ℕ)) (x : ℕ × List (List ℕ)) → greatest < 2 ^ 64 → number_at least greatest fields ≡ Some x → TookNumber least greatest fields x.0 x.1
number_at_takes least greatest fields x fits e =
    let x0 = bind_some (field_at fields) (λ field. number_of least greatest field.0 >>= λ number. Some (number, field.1)) x (e) in
    let x1 = bind_some (number_of least greatest x0.0.0) (λ number. Some (number, x0.0.1)) x (x0.2) in
    let t = number_takes least greatest x1.0 x0.0.0 fits x1.1 in
    let fields_are : fields ≡ decimal x1.0 ∷ x0.0.1 = field_takes fields x0.0.0 x0.0.1 x0.1 ∙ ap (λ (w : List ℕ). w ∷ x0.0.1) t.spelled in
    subst (λ (y : ℕ × List (List ℕ)). TookNumber least greatest fields y.0 y.1) (same_Some (x1.0, x0.0.1) x x1.2) (record { fields_are = fields_are; low = t.low; high = t.high })

pub number_at_again : (least greatest number : ℕ) (left : List (List ℕ)) → greatest < 2 ^ 64 → least ≤ number → number ≤ greatest → number_at least greatest (decimal number ∷ left) ≡ Some (number, left)
number_at_again least greatest number left fits low high = rw (number_again least greatest number fits low high) refl

-- what a place took
pub record TookPlace (sources : ℕ) (fields : List (List ℕ)) (at : SourceLine) (left : List (List ℕ)) : Type 0 where
  pub fields_are : fields ≡ place_text at ∷ left
  pub place : IsSourceLine sources at

pub place_at_takes : (sources : ℕ) (fields : List (List ℕ)) (x : SourceLine × List (List ℕ)) → sources < 2 ^ 32 → place_at sources fields ≡ Some x → TookPlace sources fields x.0 x.1
unfolding place_at
place_at_takes sources fields x few e =
    let x0 = bind_some (field_at fields) (λ field. place_of sources field.0 >>= λ place. Some (place, field.1)) x (e) in
    let x1 = bind_some (place_of sources x0.0.0) (λ place. Some (place, x0.0.1)) x (x0.2) in
    let t = place_takes sources x0.0.0 x1.0 few x1.1 in
    let fields_are : fields ≡ place_text x1.0 ∷ x0.0.1 = field_takes fields x0.0.0 x0.0.1 x0.1 ∙ ap (λ (w : List ℕ). w ∷ x0.0.1) t.spelled in
    subst (λ (y : SourceLine × List (List ℕ)). TookPlace sources fields y.0 y.1) (same_Some (x1.0, x0.0.1) x x1.2) (record { fields_are = fields_are; place = t.place })

pub place_at_again : (sources : ℕ) (at : SourceLine) (left : List (List ℕ)) → sources < 2 ^ 32 → IsSourceLine sources at → place_at sources (place_text at ∷ left) ≡ Some (at, left)
unfolding place_at
place_at_again sources at left few place = rw (place_again sources at few place) refl

-- what a tested field took
pub tested_takes : (test : List ℕ → Bool) (fields : List (List ℕ)) (x : List ℕ × List (List ℕ)) → tested_at test fields ≡ Some x → (fields ≡ x.0 ∷ x.1) × (test x.0 ≡ true)
tested_takes test fields x e =
    let x0 = bind_some (field_at fields) (λ field. cond (test field.0) (Some field) None) x (e) in
    let taken = cond_some (test x0.0.0) x0.0 x x0.2 in
    subst (λ (y : List ℕ × List (List ℕ)). (fields ≡ y.0 ∷ y.1) × (test y.0 ≡ true)) taken.1 (field_takes fields x0.0.0 x0.0.1 x0.1, taken.0)

pub tested_again : (test : List ℕ → Bool) (field : List ℕ) (left : List (List ℕ)) → test field ≡ true → tested_at test (field ∷ left) ≡ Some (field, left)
tested_again test field left passes = rw passes refl

-- what an index took
pub index_takes : (fields : List (List ℕ)) (x : Option ℕ × List (List ℕ)) → index_at fields ≡ Some x → (fields ≡ index_text x.0 ∷ x.1) × IfSome x.0 (λ i. i < 2 ^ 32)
unfolding index_at
index_takes fields x e =
    let x0 = bind_some (field_at fields) (λ field. cond (bytes_eq field.0 (codes "-")) (Some (None, field.1)) (number_of 0 4294967295 field.0 >>= λ index. Some (Some index, field.1))) x (e) in
    let first = field_takes fields x0.0.0 x0.0.1 x0.1 in
    elim (cases_Bool (bytes_eq x0.0.0 (codes "-"))) [
      | inl is ↦
          let same : ◌≡◌ {A = Option (Option ℕ × List (List ℕ))} (Some (None, x0.0.1)) (Some x) = rw is at x0.2 in
          let word : x0.0.0 ≡ codes "-" = (bytes_eq-Decides x0.0.0 (codes "-")).0 is in
          subst (λ (y : Option ℕ × List (List ℕ)). (fields ≡ index_text y.0 ∷ y.1) × IfSome y.0 (λ i. i < 2 ^ 32)) (same_Some (None, x0.0.1) x same) (first ∙ ap (λ (w : List ℕ). w ∷ x0.0.1) word, tt)
      | inr other ↦
          let x1 = bind_some (number_of 0 4294967295 x0.0.0) (λ index. Some (Some index, x0.0.1)) x (rw other at x0.2) in
          let t = number_takes 0 4294967295 x1.0 x0.0.0 (omega arith) x1.1 in
          subst (λ (y : Option ℕ × List (List ℕ)). (fields ≡ index_text y.0 ∷ y.1) × IfSome y.0 (λ i. i < 2 ^ 32)) (same_Some (Some x1.0, x0.0.1) x x1.2) (first ∙ ap (λ (w : List ℕ). w ∷ x0.0.1) t.spelled, omega (arith, t.high))
    ]

minus_plain : (n : ℕ) → n < 2 ^ 64 → bytes_eq (decimal n) (codes "-") ≡ false
minus_plain n small =
    elim (cases_Bool (bytes_eq (decimal n) (codes "-"))) [
      | inl is ↦
          let same : decimal n ≡ codes "-" = (bytes_eq-Decides (decimal n) (codes "-")).0 is in
          absurd (let bad : false ≡ true = rw same at (decimal_plain n small) in cc)
      | inr other ↦ other
    ]

pub index_again : (index : Option ℕ) (left : List (List ℕ)) → IfSome index (λ i. i < 2 ^ 32) → index_at (index_text index ∷ left) ≡ Some (index, left)
unfolding index_at
index_again None left fits = refl
index_again (Some n) left fits = rw (minus_plain n (omega arith), number_again 0 4294967295 n (omega arith) (omega arith) (omega arith)) refl

-- what a choice took
pub choice_takes : (one two : List ℕ) (fields : List (List ℕ)) (x : Bool × List (List ℕ)) → choice_at one two fields ≡ Some x → fields ≡ cond x.0 one two ∷ x.1
choice_takes one two fields x e =
    let x0 = bind_some (field_at fields) (λ field. cond (bytes_eq field.0 one) (Some (true, field.1)) (cond (bytes_eq field.0 two) (Some (false, field.1)) None)) x (e) in
    let first = field_takes fields x0.0.0 x0.0.1 x0.1 in
    elim (cases_Bool (bytes_eq x0.0.0 one)) [
      | inl is ↦
          let same : ◌≡◌ {A = Option (Bool × List (List ℕ))} (Some (true, x0.0.1)) (Some x) = rw is at x0.2 in
          let word : x0.0.0 ≡ one = (bytes_eq-Decides x0.0.0 one).0 is in
          subst (λ (y : Bool × List (List ℕ)). fields ≡ cond y.0 one two ∷ y.1) (same_Some (true, x0.0.1) x same) (first ∙ ap (λ (w : List ℕ). w ∷ x0.0.1) word)
      | inr other ↦
          let taken = cond_some (bytes_eq x0.0.0 two) (false, x0.0.1) x (rw other at x0.2) in
          let word : x0.0.0 ≡ two = (bytes_eq-Decides x0.0.0 two).0 taken.0 in
          subst (λ (y : Bool × List (List ℕ)). fields ≡ cond y.0 one two ∷ y.1) taken.1 (first ∙ ap (λ (w : List ℕ). w ∷ x0.0.1) word)
    ]

-- ---- what a point counts

-- the fields of what a point counts
abbrev pub subject_words : Subject → List (List ℕ)
subject_words (Line number at word) = decimal number ∷ place_text at ∷ line_word_text word ∷ []
subject_words (Logic number at op c) = decimal number ∷ place_text at ∷ operator_text op ∷ node_case_text c ∷ []
subject_words (Toggle name index rise) = name ∷ index_text index ∷ rise_text rise ∷ []
subject_words (State name state) = name ∷ state ∷ []
subject_words (Arc name from to) = name ∷ from ∷ to ∷ []
subject_words (Word name index write) = name ∷ decimal index ∷ write_text write ∷ []

-- what a subject with this letter took
pub record TookSubject (sources l : ℕ) (fields : List (List ℕ)) (subject : Subject) (left : List (List ℕ)) : Type 0 where
  pub lettered : letter subject ≡ l
  pub fields_are : fields ≡ subject_words subject ++ codes "=" ∷ left
  pub is : IsSubject sources subject

took_same : (sources l : ℕ) (fields : List (List ℕ)) (made x : Subject × List (List ℕ)) → ◌≡◌ {A = Option (Subject × List (List ℕ))} (Some made) (Some x) → TookSubject sources l fields made.0 made.1 → TookSubject sources l fields x.0 x.1
took_same sources l fields made x e t = subst (λ (y : Subject × List (List ℕ)). TookSubject sources l fields y.0 y.1) (same_Some made x e) t

rise_is : (rise : Bool) → cond rise (codes "01") (codes "10") ≡ rise_text rise
rise_is true = refl
rise_is false = refl

write_is : (write : Bool) → cond write (codes "w") (codes "r") ≡ write_text write
write_is true = refl
write_is false = refl

-- what follows from the value of a step that gave something
then_some : {A B R : Type 0} (o : Option A) {f : A → Option B} {y : B} → (o >>= f) ≡ Some y → ((x : A) → o ≡ Some x → f x ≡ Some y → R) → R
then_some None e use_value = absurd cc
then_some (Some x) e use_value = use_value x refl e

pub line_takes : (sources : ℕ) (fields : List (List ℕ)) (x : Subject × List (List ℕ)) → sources < 2 ^ 32 → line_at sources fields ≡ Some x → TookSubject sources 108 fields x.0 x.1
unfolding line_at
line_takes sources fields x few e =
    then_some (number_at 1 4294967295 fields) e (λ number h0 r0. then_some (place_at sources number.1) r0 (λ place h1 r1. then_some (field_at place.1) r1 (λ field h2 r2. then_some (line_word_of field.0) r2 (λ word h3 r3. then_some (equals_at field.1) r3 (λ equals h4 r4.
    let t0 = number_at_takes 1 4294967295 fields number (omega arith) h0 in
    let t1 = place_at_takes sources number.1 place few h1 in
    let fields_are : fields ≡ decimal number.0 ∷ place_text place.0 ∷ line_word_text word ∷ codes "=" ∷ equals.1 =
    cc (t0.fields_are, t1.fields_are, field_takes place.1 field.0 field.1 h2, line_word_takes field.0 word h3, equals_takes field.1 equals h4) in
    took_same sources 108 fields (Line number.0 place.0 word, equals.1) x r4 (record { lettered = refl; fields_are = fields_are; is = ((t0.low, omega (arith, t0.high)), t1.place) }))))))

four_fields : {f0 f1 f2 f3 f4 f5 : List (List ℕ)} {a b c c' d d' equals : List ℕ} → f0 ≡ a ∷ f1 → f1 ≡ b ∷ f2 → f2 ≡ c' ∷ f3 → c' ≡ c → f3 ≡ d' ∷ f4 → d' ≡ d → f4 ≡ equals ∷ f5 → f0 ≡ a ∷ b ∷ c ∷ d ∷ equals ∷ f5
four_fields p q r s t u v = cc

pub logic_takes : (sources : ℕ) (fields : List (List ℕ)) (x : Subject × List (List ℕ)) → sources < 2 ^ 32 → logic_at sources fields ≡ Some x → TookSubject sources 99 fields x.0 x.1
unfolding logic_at
logic_takes sources fields x few e =
    then_some (number_at 1 4294967295 fields) e (λ number h0 r0. then_some (place_at sources number.1) r0 (λ place h1 r1. then_some (field_at place.1) r1 (λ op_field h2 r2. then_some (operator_of op_field.0) r2 (λ op h3 r3.
    then_some (field_at op_field.1) r3 (λ case_field h4 r4. then_some (node_case_of case_field.0) r4 (λ case h5 r5. then_some (equals_at case_field.1) r5 (λ equals h6 r6.
    let t0 = number_at_takes 1 4294967295 fields number (omega arith) h0 in
    let t1 = place_at_takes sources number.1 place few h1 in
    let fields_are : fields ≡ decimal number.0 ∷ place_text place.0 ∷ operator_text op ∷ node_case_text case ∷ codes "=" ∷ equals.1 =
    four_fields t0.fields_are t1.fields_are (field_takes place.1 op_field.0 op_field.1 h2) (operator_takes op_field.0 op h3)
    (field_takes op_field.1 case_field.0 case_field.1 h4) (node_case_takes case_field.0 case h5) (equals_takes case_field.1 equals h6) in
    let taken = cond_some (can_have op case) (Logic number.0 place.0 op case, equals.1) x r6 in
    took_same sources 99 fields (Logic number.0 place.0 op case, equals.1) x (ap (λ (y : Subject × List (List ℕ)). Some y) taken.1)
    (record { lettered = refl; fields_are = fields_are; is = ((t0.low, omega (arith, t0.high)), t1.place, taken.0) }))))))))

pub toggle_takes : (sources : ℕ) (fields : List (List ℕ)) (x : Subject × List (List ℕ)) → toggle_at fields ≡ Some x → TookSubject sources 116 fields x.0 x.1
unfolding toggle_at
toggle_takes sources fields x e =
    then_some (tested_at is_identifier fields) e (λ name h0 r0. then_some (index_at name.1) r0 (λ index h1 r1. then_some (choice_at (codes "01") (codes "10") index.1) r1 (λ rise h2 r2. then_some (equals_at rise.1) r2 (λ equals h3 r3.
    let t0 = tested_takes is_identifier fields name h0 in
    let t1 = index_takes name.1 index h1 in
    let fields_are : fields ≡ name.0 ∷ index_text index.0 ∷ rise_text rise.0 ∷ codes "=" ∷ equals.1 =
    cc (t0.0, t1.0, choice_takes (codes "01") (codes "10") index.1 rise h2, equals_takes rise.1 equals h3, rise_is rise.0) in
    took_same sources 116 fields (Toggle name.0 index.0 rise.0, equals.1) x r3 (record { lettered = refl; fields_are = fields_are; is = (t0.1, t1.1) })))))

pub word_takes : (sources : ℕ) (fields : List (List ℕ)) (x : Subject × List (List ℕ)) → word_at fields ≡ Some x → TookSubject sources 109 fields x.0 x.1
unfolding word_at
word_takes sources fields x e =
    then_some (tested_at is_identifier fields) e (λ name h0 r0. then_some (number_at 0 4294967295 name.1) r0 (λ index h1 r1. then_some (choice_at (codes "w") (codes "r") index.1) r1 (λ write h2 r2. then_some (equals_at write.1) r2 (λ equals h3 r3.
    let t0 = tested_takes is_identifier fields name h0 in
    let t1 = number_at_takes 0 4294967295 name.1 index (omega arith) h1 in
    let fields_are : fields ≡ name.0 ∷ decimal index.0 ∷ write_text write.0 ∷ codes "=" ∷ equals.1 =
    cc (t0.0, t1.fields_are, choice_takes (codes "w") (codes "r") index.1 write h2, equals_takes write.1 equals h3, write_is write.0) in
    took_same sources 109 fields (Word name.0 index.0 write.0, equals.1) x r3 (record { lettered = refl; fields_are = fields_are; is = (t0.1, omega (arith, t1.high)) })))))

not_both : (a b : Bool) → (a && not b) ≡ true → (a ≡ true) × (b ≡ false)
not_both true true e = absurd cc
not_both true false e = (refl, refl)
not_both false b e = absurd cc

arc_takes : (sources : ℕ) (fields : List (List ℕ)) (name from target : List ℕ) (left : List (List ℕ)) (x : Subject × List (List ℕ)) → fields ≡ name ∷ from ∷ target ∷ left → is_identifier name ≡ true → is_state from ≡ true
    → arc_at name from target left ≡ Some x → TookSubject sources 102 fields x.0 x.1
unfolding arc_at
arc_takes sources fields name from target left x whole named state e =
    elim (cases_Bool (is_state target && not (bytes_eq from target))) [
      | inl is ↦
          let parts = not_both (is_state target) (bytes_eq from target) is in
          let read : (equals_at left >>= λ equals. Some (Arc name from target, equals.1)) ≡ Some x = rw is at e in
          then_some (equals_at left) read (λ equals h0 r0.
          let fields_are : fields ≡ name ∷ from ∷ target ∷ codes "=" ∷ equals.1 = cc (whole, equals_takes left equals h0) in
          let differ : from ≢ target = λ same. let bad : true ≡ false = sym (same_path from target same) ∙ parts.1 in cc in
          took_same sources 102 fields (Arc name from target, equals.1) x r0 (record { lettered = refl; fields_are = fields_are; is = (named, state, parts.0, differ) }))
      | inr other ↦ absurd (let none : ◌≡◌ {A = Option (Subject × List (List ℕ))} None (Some x) = rw other at e in cc)
    ]

pub machine_takes : (sources : ℕ) (fields : List (List ℕ)) (x : Subject × List (List ℕ)) → machine_at fields ≡ Some x → TookSubject sources 102 fields x.0 x.1
unfolding machine_at
machine_takes sources fields x e =
    then_some (tested_at is_identifier fields) e (λ name h0 r0. then_some (tested_at is_state name.1) r0 (λ state h1 r1. then_some (field_at state.1) r1 (λ next h2 r2.
    let t0 = tested_takes is_identifier fields name h0 in
    let t1 = tested_takes is_state name.1 state h1 in
    let t2 = field_takes state.1 next.0 next.1 h2 in
    elim (cases_Bool (bytes_eq next.0 (codes "="))) [
      | inl is ↦
          let same : ◌≡◌ {A = Option (Subject × List (List ℕ))} (Some (State name.0 state.0, next.1)) (Some x) = rw is at r2 in
          let word : next.0 ≡ codes "=" = (bytes_eq-Decides next.0 (codes "=")).0 is in
          let fields_are : fields ≡ name.0 ∷ state.0 ∷ codes "=" ∷ next.1 = cc (t0.0, t1.0, t2, word) in
          took_same sources 102 fields (State name.0 state.0, next.1) x same (record { lettered = refl; fields_are = fields_are; is = (t0.1, t1.1) })
      | inr other ↦
          let whole : fields ≡ name.0 ∷ state.0 ∷ next.0 ∷ next.1 = cc (t0.0, t1.0, t2) in
          arc_takes sources fields name.0 state.0 next.0 next.1 x whole t0.1 t1.1 (rw other at r2)
    ])))

-- what a letter and a subject took
pub record TookLettered (sources : ℕ) (word : List ℕ) (fields : List (List ℕ)) (subject : Subject) (left : List (List ℕ)) : Type 0 where
  pub word_is : word ≡ letter subject ∷ []
  pub fields_are : fields ≡ subject_words subject ++ codes "=" ∷ left
  pub is : IsSubject sources subject

lettered : (sources : ℕ) (word : List ℕ) (l : ℕ) (fields : List (List ℕ)) (x : Subject × List (List ℕ)) → bytes_eq word (l ∷ []) ≡ true → TookSubject sources l fields x.0 x.1 → TookLettered sources word fields x.0 x.1
lettered sources word l fields x same t = record { word_is = (bytes_eq-Decides word (l ∷ [])).0 same ∙ ap (λ n. n ∷ []) (sym t.lettered); fields_are = t.fields_are; is = t.is }

pub subject_takes : (sources : ℕ) (word : List ℕ) (fields : List (List ℕ)) (x : Subject × List (List ℕ)) → sources < 2 ^ 32 → subject_at sources word fields ≡ Some x → TookLettered sources word fields x.0 x.1
unfolding subject_at
subject_takes sources word fields x few e =
    elim (cases_Bool (bytes_eq word (codes "l"))) [
      | inl l ↦ lettered sources word 108 fields x l (line_takes sources fields x few (rw l at e))
      | inr no_l ↦ elim (cases_Bool (bytes_eq word (codes "c"))) [
        | inl c ↦ lettered sources word 99 fields x c (logic_takes sources fields x few (rw (no_l, c) at e))
        | inr no_c ↦ elim (cases_Bool (bytes_eq word (codes "t"))) [
          | inl t ↦ lettered sources word 116 fields x t (toggle_takes sources fields x (rw (no_l, no_c, t) at e))
          | inr no_t ↦ elim (cases_Bool (bytes_eq word (codes "f"))) [
            | inl f ↦ lettered sources word 102 fields x f (machine_takes sources fields x (rw (no_l, no_c, no_t, f) at e))
            | inr no_f ↦ elim (cases_Bool (bytes_eq word (codes "m"))) [
              | inl m ↦ lettered sources word 109 fields x m (word_takes sources fields x (rw (no_l, no_c, no_t, no_f, m) at e))
              | inr no_m ↦ absurd (let none : ◌≡◌ {A = Option (Subject × List (List ℕ))} None (Some x) = rw (no_l, no_c, no_t, no_f, no_m) at e in cc)
            ]
          ]
        ]
      ]
    ]

-- ---- what is spelled is read again

bit_of : (rise : Bool) (left : List (List ℕ)) → choice_at (codes "01") (codes "10") (rise_text rise ∷ left) ≡ Some (rise, left)
bit_of true left = refl
bit_of false left = refl

way_of : (write : Bool) (left : List (List ℕ)) → choice_at (codes "w") (codes "r") (write_text write ∷ left) ≡ Some (write, left)
way_of true left = refl
way_of false left = refl

no_equals : (word : List ℕ) → is_state word ≡ true → bytes_eq word (codes "=") ≡ false
no_equals word state =
    elim (cases_Bool (bytes_eq word (codes "="))) [
      | inl is ↦
          let same : word ≡ codes "=" = (bytes_eq-Decides word (codes "=")).0 is in
          absurd (let bad : false ≡ true = rw same at state in cc)
      | inr other ↦ other
    ]

differs : (a b : List ℕ) → a ≢ b → bytes_eq a b ≡ false
differs a b ne =
    elim (cases_Bool (bytes_eq a b)) [
      | inl is ↦ absurd (ne ((bytes_eq-Decides a b).0 is))
      | inr other ↦ other
    ]

pub subject_again : (sources : ℕ) (subject : Subject) (left : List (List ℕ)) → sources < 2 ^ 32 → IsSubject sources subject → subject_at sources (letter subject ∷ []) (subject_words subject ++ codes "=" ∷ left) ≡ Some (subject, left)
unfolding subject_at line_at logic_at toggle_at machine_at arc_at word_at
subject_again sources (Line n at word) left few is =
    rw (number_at_again 1 4294967295 n (place_text at ∷ line_word_text word ∷ codes "=" ∷ left) (omega arith) is.0.0 (omega (arith, is.0.1)), place_at_again sources at (line_word_text word ∷ codes "=" ∷ left) few is.1, line_word_again word) refl
subject_again sources (Logic n at op c) left few is =
    rw (number_at_again 1 4294967295 n (place_text at ∷ operator_text op ∷ node_case_text c ∷ codes "=" ∷ left) (omega arith) is.0.0 (omega (arith, is.0.1)), place_at_again sources at (operator_text op ∷ node_case_text c ∷ codes "=" ∷ left) few is.1, operator_again op, node_case_again c, is.2) refl
subject_again sources (Toggle name index rise) left few is = rw (is.0, index_again index (rise_text rise ∷ codes "=" ∷ left) is.1, bit_of rise (codes "=" ∷ left)) refl
subject_again sources (State name state) left few is = rw (is.0, is.1) refl
subject_again sources (Arc name from target) left few is = rw (is.0, is.1, no_equals target is.2, is.2, differs from target is.3) refl
subject_again sources (Word name index write) left few is = rw (is.0, number_at_again 0 4294967295 index (write_text write ∷ codes "=" ∷ left) (omega arith) (omega arith) (omega (arith, is.1)), way_of write (codes "=" ∷ left)) refl
