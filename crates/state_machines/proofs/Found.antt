-- What is found by an instance and a name.
use Rattle.std.proofs.Common.{◌≡◌, ◌<◌, ◌≤◌, ◌+◌, ℕ, zero, suc, true, take, inl, inr, List, [], ◌∷◌, ◌++◌, Option, Some, None, length, get_or, refl, sym, ap, subst, ◌∙◌, arith}
use Rattle.std.specs.Prelude.{IfNone}
use Rattle.std.specs.List.{AllZip}
use Rattle.std.proofs.lemmas.Bool.Decides.{nat_tests}
use Rattle.std.proofs.lemmas.List.{get_or_default, get_or_read}
use Rattle.four_state.specs.Parts.{extended_vector}
use Rattle.four_state.specs.Operators.{matches}
use Rattle.four_state.specs.Vector.{Vector, same_bits}
use Rattle.four_state.specs.declared.operator.CaseKind.TheVariants.{Exact}
use Rattle.four_state.proofs.MatchLaws.{exact_law}
use Rattle.state_machines.specs.Same.{bits_at, no_value}
use Rattle.design_model.specs.Design.{Design, In, no_signal, signal_at}
use Rattle.design_model.specs.Lawful.{IsLawfulDesign, is_alias}
use Rattle.design_model.specs.Points.{IsNameOf, IsStateValue}
use Rattle.design_model.specs.declared.design.Alias.{Alias}
use Rattle.design_model.specs.declared.design.Constant.{Constant}
use Rattle.design_model.specs.declared.design.Signal.{Signal}
use Rattle.state_machines.specs.Lookups.{IsAliasAt, IsConstantAt, IsSignalAt, no_alias, no_constant}
use Rattle.state_machines.specs.Values.{IsNamedSignal, IsNoParameter, IsParameter}
use Rattle.state_machines.proofs.Members.{in_at, place_of, test_at}

alias_signal : (d : Design) (a : Alias) → is_alias d a ≡ true → a.signal < length d.signals
alias_signal d a h = grind (arith, nat_tests)

-- an alias that is found names a signal
pub alias_named : (d : Design) → IsLawfulDesign d → (xs : List Alias) → xs ≡ d.aliases → (i : ℕ) (name : List ℕ) (k : ℕ) (e : Alias) → IsAliasAt xs i name k → IsNamedSignal d i name (get_or xs k e).signal
alias_named d lawful xs is i name k e h =
    let x = get_or xs k no_alias in
    let same : get_or xs k e ≡ x = get_or_default xs k e no_alias h.0 in
    let test = test_at (is_alias d) xs k no_alias (rw is lawful.aliases) h.0 in
    let there : In x d.aliases = subst (λ (ys : List Alias). In x ys) is (in_at xs k no_alias h.0) in
    subst (λ (a : Alias). IsNamedSignal d i name a.signal) (sym same) (alias_signal d x test, inr (x, there, h.1, h.2, refl))

-- where no signal and no alias has the name, it is no signal's
pub unnamed : (d : Design) (ss : List Signal) → ss ≡ d.signals → (i : ℕ) (name : List ℕ) → ((k : ℕ) → IsSignalAt ss i name k → ⊥) → ((k : ℕ) → IsAliasAt d.aliases i name k → ⊥) → (s : ℕ) → IsNameOf d i name s → ⊥
unnamed d ss is i name own other s (inl h) = own s (subst (λ (ys : List Signal). IsSignalAt ys i name s) (sym is) h)
unnamed d ss is i name own other s (inr h) =
    let p = place_of h.0 d.aliases no_alias h.1 in
    other p.0 (p.1, ap (λ (a : Alias). a.instance) p.2 ∙ h.2, ap (λ (a : Alias). a.name) p.2 ∙ h.3)

pub none_weaker : {A : Type 0} (P Q : Type 0) → (P → Q) → (r : Option A) → IfNone r P → IfNone r Q
none_weaker P Q f None h = f h
none_weaker P Q f (Some x) h = tt

-- the value of a parameter that is found
pub found_value : (d : Design) (cs : List Constant) → cs ≡ d.constants → (ss : List Signal) → ss ≡ d.signals → (i s : ℕ) (name : List ℕ) (k : ℕ) (e : Constant) (x : Signal) (v : Vector) → IsConstantAt cs i name k → s < length ss → x ≡ get_or ss s x → v ≡ extended_vector x.width x.signed (get_or cs k e).value → IsStateValue d i s name v
found_value d cs is ss are i s name k e x v h l seen value =
    let c = get_or cs k no_constant in
    let e_is : get_or cs k e ≡ c = get_or_default cs k e no_constant h.0 in
    let x_is : x ≡ signal_at d s = get_or_read ss s x l seen no_signal ∙ ap (λ ys. get_or ys s no_signal) are in
    let there : In c d.constants = subst (λ (ys : List Constant). In c ys) is (in_at cs k no_constant h.0) in
    (c, there, h.1, h.2, value ∙ ap (λ (y : Signal). extended_vector y.width y.signed (get_or cs k e).value) x_is ∙ ap (λ (f : Constant). extended_vector (signal_at d s).width (signal_at d s).signed f.value) e_is)

-- where no parameter is found there is no parameter
pub no_parameter : (d : Design) (cs : List Constant) → cs ≡ d.constants → (i : ℕ) (name : List ℕ) → ((k : ℕ) → IsConstantAt cs i name k → ⊥) → IsNoParameter d i name
no_parameter d cs is i name none c there instance named =
    let p = place_of c cs no_constant (subst (λ (ys : List Constant). In c ys) (sym is) there) in
    none p.0 (p.1, ap (λ (a : Constant). a.instance) p.2 ∙ instance, ap (λ (a : Constant). a.name) p.2 ∙ named)

-- two lists with one element more each
pub zip_push : {A B : Type 0} (R : A → B → Type 0) (xs : List A) (ys : List B) (x : A) (y : B) → AllZip R xs ys → R x y → AllZip R (xs ++ x ∷ []) (ys ++ y ∷ [])
zip_push R [] [] x y h r = (r, tt)
zip_push R [] (b ∷ ys) x y h r = absurd h
zip_push R (a ∷ xs) [] x y h r = absurd h
zip_push R (a ∷ xs) (b ∷ ys) x y h r = (h.0, zip_push R xs ys x y h.1 r)

-- two values of a list are compared bit by bit
pub alike : (vs : List Vector) (j k : ℕ) (x y : Vector) → j < length vs → k < length vs → x ≡ get_or vs j x → y ≡ get_or vs k y → matches Exact x.bits y.bits ≡ same_bits (bits_at vs j) (bits_at vs k)
alike vs j k x y l m p q =
    exact_law x.bits y.bits ∙ ap (λ (v : Vector). same_bits v.bits y.bits) (get_or_read vs j x l p no_value) ∙ ap (λ (v : Vector). same_bits (bits_at vs j) v.bits) (get_or_read vs k y m q no_value)

-- the names before a place that have values are parameters
pub parameters : (d : Design) (i s : ℕ) (names : List (List ℕ)) (vs : List Vector) (k j : ℕ) → AllZip (IsStateValue d i s) (take k names) vs → k ≤ length names → j < k → IsParameter d i (get_or names j [])
parameters d i s names vs zero j h l m = absurd (omega arith)
parameters d i s [] vs (suc k) j h l m = absurd (omega arith)
parameters d i s (n ∷ names) [] (suc k) j h l m = absurd h
parameters d i s (n ∷ names) (v ∷ vs) (suc k) zero h l m = (h.0.0, h.0.1, h.0.2, h.0.3)
parameters d i s (n ∷ names) (v ∷ vs) (suc k) (suc j) h l m = parameters d i s names vs k j h.1 (omega arith) (omega arith)
