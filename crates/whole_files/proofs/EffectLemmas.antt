-- What stages change outside, one after the other.
use Rattle.std.proofs.Common.{◌≡◌, ◌⊎◌, ℕ, ◌+◌, ◌≤◌, List, [], ◌++◌, length, take, drop, append_assoc, append-nil, Option, Some, None, sym, ap, subst, ◌∙◌, refl, inl, inr, arith}
use Rattle.std.proofs.Math.Seq.{take-add, take-length}
use Rattle.std.proofs.lemmas.Bool.{cases_order}
use Rattle.std.specs.Prelude.{IfSome, IsSome, IsSomeAnd}
use Rattle.cov_host.specs.Outside.{Outside, Files, Told, SameFiles, HasFile, AppendsTo, IsCounted, IsCreated, KeepsFiles, KeepsOutput, KeepsStreams, CountsFaults}
use Rattle.whole_files.specs.Effects.{CountsUp, OnlyReads, HasTarget, AppendsFront, HoldsFront}

pub Told-trans : {A : Type 0} {R S T : A → A → Type 0} (a b c : Option A) → ((x y z : A) → R x y → S y z → T x z) → Told R a b → Told S b c → Told T a c
Told-trans None None None join first second = tt
Told-trans None None (Some z) join first second = absurd second
Told-trans None (Some y) c join first second = absurd first
Told-trans (Some x) None c join first second = absurd first
Told-trans (Some x) (Some y) None join first second = absurd second
Told-trans (Some x) (Some y) (Some z) join first second = join x y z first second

pub Told-map : {A : Type 0} {R S : A → A → Type 0} (a b : Option A) → ((x y : A) → R x y → S x y) → Told R a b → Told S a b
Told-map None None step told = tt
Told-map None (Some y) step told = absurd told
Told-map (Some x) None step told = absurd told
Told-map (Some x) (Some y) step told = step x y told

pub Told-refl : {A : Type 0} (R : A → A → Type 0) (a : Option A) → ((x : A) → R x x) → Told R a a
Told-refl R None same = tt
Told-refl R (Some x) same = same x

pub KeepsFiles-refl : (a : Outside) → KeepsFiles a a
KeepsFiles-refl a = Told-refl SameFiles a.files (λ files name. refl)

pub KeepsFiles-trans : (a b c : Outside) → KeepsFiles a b → KeepsFiles b c → KeepsFiles a c
KeepsFiles-trans a b c first second = Told-trans {R = SameFiles} {S = SameFiles} {T = SameFiles} a.files b.files c.files (λ x y z xy yz name. yz name ∙ xy name) first second

pub KeepsOutput-trans : (a b c : Outside) → KeepsOutput a b → KeepsOutput b c → KeepsOutput a c
KeepsOutput-trans a b c first second = record { writing = second.writing ∙ first.writing; target = second.target ∙ first.target }

pub KeepsStreams-trans : (a b c : Outside) → KeepsStreams a b → KeepsStreams b c → KeepsStreams a c
KeepsStreams-trans a b c first second = record { printed = second.printed ∙ first.printed; warned = second.warned ∙ first.warned }

pub CountsUp-trans : (a b c : Outside) → CountsUp a b → CountsUp b c → CountsUp a c
CountsUp-trans a b c first second = record {
  faults = omega (arith, first.faults, second.faults);
  absences = omega (arith, first.absences, second.absences);
  mute = omega (arith, first.mute, second.mute);
}

pub OnlyReads-trans : (a b c : Outside) → OnlyReads a b → OnlyReads b c → OnlyReads a c
OnlyReads-trans a b c first second = record {
  files = KeepsFiles-trans a b c first.files second.files;
  output = KeepsOutput-trans a b c first.output second.output;
  streams = KeepsStreams-trans a b c first.streams second.streams;
  counts = CountsUp-trans a b c first.counts second.counts;
}

pub OnlyReads-refl : (a : Outside) → OnlyReads a a
OnlyReads-refl a = record {
  files = KeepsFiles-refl a;
  output = record { writing = refl; target = refl };
  streams = record { printed = refl; warned = refl };
  counts = record { faults = omega arith; absences = omega arith; mute = omega arith };
}

-- a count that rose stays risen
pub IsCounted-later : (a b c : ℕ) → a ≤ b → b ≤ c → IsCounted a b → IsCounted a c
IsCounted-later a b c ab bc (inl rose) = inl (omega arith)
IsCounted-later a b c ab bc (inr greatest) =
    elim (cases_order b c) [ inl same ↦ inr (sym same ∙ greatest) | inr apart ↦ inl (elim apart [ inl below ↦ omega arith | inr above ↦ absurd (omega arith) ]) ]

pub IsCounted-earlier : (a b c : ℕ) → a ≤ b → b ≤ c → IsCounted b c → IsCounted a c
IsCounted-earlier a b c ab bc (inl rose) = inl (omega arith)
IsCounted-earlier a b c ab bc (inr greatest) = inr greatest

pub HasFile-trans : (name first second : List ℕ) (a b c : Files) → HasFile name first a b → HasFile name second b c → HasFile name second a c
HasFile-trans name first second a b c ab bc = record { named = bc.named; others = λ other apart. bc.others other apart ∙ ab.others other apart }

-- nothing appended leaves the files as they are
AppendsTo-none_at : (name : List ℕ) (files : Files) (found : Option (List ℕ)) → files name ≡ found → IsSome found → IsSomeAnd found (λ bytes. HasFile name (bytes ++ []) files files)
AppendsTo-none_at name files None is some = absurd (cc)
AppendsTo-none_at name files (Some bytes) is some = record { named = is ∙ ap Some (sym (append-nil bytes)); others = λ other apart. refl }

pub AppendsTo-none : (target : Option (List ℕ)) (files : Files) → IsSomeAnd target (λ name. IsSome (files name)) → AppendsTo target [] files files
AppendsTo-none None files there = absurd there
AppendsTo-none (Some name) files there = AppendsTo-none_at name files (files name) refl there

-- one piece after another
AppendsTo-trans_at : (name first second : List ℕ) (a b c : Files) (found : Option (List ℕ)) → IsSomeAnd found (λ bytes. HasFile name (bytes ++ first) a b) → IsSomeAnd (b name) (λ bytes. HasFile name (bytes ++ second) b c) → IsSomeAnd found (λ bytes. HasFile name (bytes ++ (first ++ second)) a c)
AppendsTo-trans_at name first second a b c None ab bc = absurd ab
AppendsTo-trans_at name first second a b c (Some bytes) ab bc =
    let after : HasFile name ((bytes ++ first) ++ second) b c = subst (λ found. IsSomeAnd found (λ bytes. HasFile name (bytes ++ second) b c)) ab.named bc in
    subst (λ all. HasFile name all a c) (append_assoc bytes first second) (HasFile-trans name (bytes ++ first) ((bytes ++ first) ++ second) a b c ab after)

pub AppendsTo-trans : (target : Option (List ℕ)) (first second : List ℕ) (a b c : Files) → AppendsTo target first a b → AppendsTo target second b c → AppendsTo target (first ++ second) a c
AppendsTo-trans None first second a b c ab bc = tt
AppendsTo-trans (Some name) first second a b c ab bc = AppendsTo-trans_at name first second a b c (a name) ab bc

-- a front of a text, and then a front of what is left of it
pub AppendsTo-more : (target then_target : Option (List ℕ)) (text : List ℕ) (written count : ℕ) (a b c : Option Files) → then_target ≡ target → Told (AppendsTo target (take written text)) a b → Told (AppendsTo then_target (take count (drop written text))) b c → Told (AppendsTo target (take (written + count) text)) a c
AppendsTo-more target then_target text written count a b c same first second =
    let then : Told (AppendsTo target (take count (drop written text))) b c = subst (λ t. Told (AppendsTo t (take count (drop written text))) b c) same second in
    subst (λ piece. Told (AppendsTo target piece) a c) (sym (take-add written count text))
    (Told-trans {R = AppendsTo target (take written text)} {S = AppendsTo target (take count (drop written text))} {T = AppendsTo target (take written text ++ take count (drop written text))} a b c (λ x y z. AppendsTo-trans target (take written text) (take count (drop written text)) x y z) first then)

pub CountsUp-faults : (a b : Outside) → CountsFaults a b → CountsUp a b
CountsUp-faults a b counts = record { faults = counts.faults; absences = omega (arith, counts.absences); mute = omega (arith, counts.mute) }

-- the file was made empty, and then a text was appended to it
pub written_file : (name text : List ℕ) (a b c : Option Files) (target : Option (List ℕ)) → Told (HasFile name []) a b → IfSome a (λ files. target ≡ Some name) → Told (AppendsTo target text) b c → Told (HasFile name text) a c
written_file name text None None None target created is appended = tt
written_file name text None None (Some z) target created is appended = absurd appended
written_file name text None (Some y) c target created is appended = absurd created
written_file name text (Some x) None c target created is appended = absurd created
written_file name text (Some x) (Some y) None target created is appended = absurd appended
written_file name text (Some x) (Some y) (Some z) target created is appended =
    let to_name : AppendsTo (Some name) text y z = subst (λ t. AppendsTo t text y z) is appended in
    let after : HasFile name ([] ++ text) y z = subst (λ found. IsSomeAnd found (λ bytes. HasFile name (bytes ++ text) y z)) created.named to_name in
    HasFile-trans name [] text x y z created after

-- the same for a front of the text
pub front_of_file : (name text : List ℕ) (a b c : Option Files) (target : Option (List ℕ)) → Told (HasFile name []) a b → IfSome a (λ files. target ≡ Some name) → Told (AppendsFront target text) b c → Told (HoldsFront name text) a c
front_of_file name text None None None target created is appended = tt
front_of_file name text None None (Some z) target created is appended = absurd appended
front_of_file name text None (Some y) c target created is appended = absurd created
front_of_file name text (Some x) None c target created is appended = absurd created
front_of_file name text (Some x) (Some y) None target created is appended = absurd appended
front_of_file name text (Some x) (Some y) (Some z) target created is appended =
    inr (appended.0, written_file name (take appended.0 text) (Some x) (Some y) (Some z) target created is appended.1)

some_bytes : (bytes : List ℕ) → IsSome (Some bytes)
some_bytes bytes = refl

-- the file that was made empty is there to be written
created_target_at : (name : List ℕ) (a b : Option Files) (target : Option (List ℕ)) → Told (HasFile name []) a b → IfSome a (λ files. target ≡ Some name) → IfSome b (λ files. IsSomeAnd target (λ name. IsSome (files name)))
created_target_at name None None target created is = tt
created_target_at name None (Some y) target created is = absurd created
created_target_at name (Some x) None target created is = absurd created
created_target_at name (Some x) (Some y) target created is =
    subst (λ t. IsSomeAnd t (λ name. IsSome (y name))) (sym is) (subst IsSome (sym created.named) (some_bytes []))

pub created_target : (name : List ℕ) (a b : Outside) → IsCreated name a b → HasTarget b
created_target name a b created = created_target_at name a.files b.files b.target created.files created.target

-- a file that was not made is as before or empty
pub front_of_refused : (name text : List ℕ) (a b : Option Files) → Told (λ old new. SameFiles old new ⊎ HasFile name [] old new) a b → Told (HoldsFront name text) a b
front_of_refused name text a b told = Told-map a b (λ x y either. elim either [ inl same ↦ inl same | inr empty ↦ inr (0, empty) ]) told

-- what holds of the file stays where no file changes
pub front_then_same : (name text : List ℕ) (a b c : Option Files) → Told (HasFile name text) a b → Told SameFiles b c → Told (HasFile name text) a c
front_then_same name text a b c first second =
    Told-trans {R = HasFile name text} {S = SameFiles} {T = HasFile name text} a b c (λ x y z has same. record { named = same name ∙ has.named; others = λ other apart. same other ∙ has.others other apart }) first second

pub whole_is_front : (name text : List ℕ) (a b : Option Files) → Told (HasFile name text) a b → Told (HoldsFront name text) a b
whole_is_front name text a b told = Told-map a b (λ x y has. inr (length text, subst (λ all. HasFile name all x y) (sym (take-length text)) has)) told
