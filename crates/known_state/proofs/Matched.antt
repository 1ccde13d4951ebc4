-- Whether labels match, for all vectors that are allowed.
use Rattle.std.proofs.Common.{◌≡◌, Bool, true, ◌||◌, List, [], ◌∷◌, length, Option, refl}
use Rattle.std.proofs.lemmas.Bool.{and_parts}
use Rattle.std.specs.Option.{unwrap_or}
use Rattle.four_state.specs.declared.bit.Bit.{Bit}
use Rattle.four_state.specs.declared.bit.Bit.TheVariants.{Zero, One}
use Rattle.four_state.specs.declared.operator.CaseKind.{CaseKind}
use Rattle.four_state.specs.declared.operator.CaseKind.TheVariants.{Exact, AnyZ, AnyXZ}
use Rattle.four_state.specs.Vector.{same_bit}
use Rattle.four_state.specs.Operators.{matches, is_any}
use Rattle.known_state.specs.Partly.{allows_bits, allows_bit, filled, filled_from}
use Rattle.known_state.proofs.Cases.{every, every_option, option_holds, every_holds, implies, implied, both_true}

abbrev match_bit : CaseKind → Bit → Bit → Bool
match_bit kind b c = is_any kind b || is_any kind c || same_bit b c

abbrev pub on_pairs : (Option Bit → Option Bit → Bit → Bit → Bool) → Bool
on_pairs t = every_option (λ p. every_option (λ q. every (λ b. every (λ c. implies (allows_bit p b) (implies (allows_bit q c) (t p q b c))))))

pub on_pair : (t : Option Bit → Option Bit → Bit → Bit → Bool) → on_pairs t ≡ true → (p q : Option Bit) (b c : Bit) → allows_bit p b ≡ true → allows_bit q c ≡ true → t p q b c ≡ true
on_pair t h p q b c k l =
    implied _ _ (implied _ _ (every_holds (λ c. implies (allows_bit p b) (implies (allows_bit q c) (t p q b c))) (every_holds (λ b. every (λ c. implies (allows_bit p b) (implies (allows_bit q c) (t p q b c)))) (option_holds (λ q. every (λ b. every (λ c. implies (allows_bit p b) (implies (allows_bit q c) (t p q b c))))) (option_holds (λ p. every_option (λ q. every (λ b. every (λ c. implies (allows_bit p b) (implies (allows_bit q c) (t p q b c)))))) h p) q) b) c) k) l

-- where two allowed bits match, so do those that take each other's value
abbrev crosses : CaseKind → Option Bit → Option Bit → Bit → Bit → Bool
crosses kind p q b c = implies (match_bit kind b c) (match_bit kind (unwrap_or p (unwrap_or q Zero)) (unwrap_or q (unwrap_or p Zero)))

cross_holds : (kind : CaseKind) → on_pairs (crosses kind) ≡ true
cross_holds Exact = refl
cross_holds AnyZ = refl
cross_holds AnyXZ = refl

-- where 0 with 0, 1 with 1 and 0 with 1 match, so do all
abbrev all_match : CaseKind → Option Bit → Option Bit → Bit → Bit → Bool
all_match kind p q b c =
    implies (match_bit kind (unwrap_or p Zero) (unwrap_or q Zero)) (implies (match_bit kind (unwrap_or p One) (unwrap_or q One)) (implies (match_bit kind (unwrap_or p Zero) (unwrap_or q One)) (match_bit kind b c)))

all_hold : (kind : CaseKind) → on_pairs (all_match kind) ≡ true
all_hold Exact = refl
all_hold AnyZ = refl
all_hold AnyXZ = refl

pub match_crossed : (kind : CaseKind) (ps qs : List (Option Bit)) (bs cs : List Bit) → allows_bits ps bs ≡ true → allows_bits qs cs ≡ true → matches kind bs cs ≡ true → matches kind (filled_from ps (filled Zero qs)) (filled_from qs (filled Zero ps)) ≡ true
match_crossed kind [] [] [] [] h k m = refl
match_crossed kind [] qs (b ∷ bs) cs h k m = cc
match_crossed kind (p ∷ ps) qs [] cs h k m = cc
match_crossed kind ps [] bs (c ∷ cs) h k m = cc
match_crossed kind ps (q ∷ qs) bs [] h k m = cc
match_crossed kind [] (q ∷ qs) [] (c ∷ cs) h k m = cc
match_crossed kind (p ∷ ps) [] (b ∷ bs) [] h k m = cc
match_crossed kind (p ∷ ps) (q ∷ qs) (b ∷ bs) (c ∷ cs) h k m =
    let left = and_parts (allows_bit p b) (allows_bits ps bs) h in
    let right = and_parts (allows_bit q c) (allows_bits qs cs) k in
    let both = and_parts (match_bit kind b c) (matches kind bs cs) m in
    both_true _ _ (implied _ _ (on_pair (crosses kind) (cross_holds kind) p q b c left.0 right.0) both.0) (match_crossed kind ps qs bs cs left.1 right.1 both.1)

pub match_all : (kind : CaseKind) (ps qs : List (Option Bit)) (bs cs : List Bit) → length ps ≡ length qs → allows_bits ps bs ≡ true → allows_bits qs cs ≡ true → matches kind (filled Zero ps) (filled Zero qs) ≡ true → matches kind (filled One ps) (filled One qs) ≡ true → matches kind (filled Zero ps) (filled One qs) ≡ true → matches kind bs cs ≡ true
match_all kind [] [] [] [] e h k u v w = refl
match_all kind [] [] (b ∷ bs) cs e h k u v w = cc
match_all kind [] [] [] (c ∷ cs) e h k u v w = cc
match_all kind [] (q ∷ qs) bs cs e h k u v w = cc
match_all kind (p ∷ ps) [] bs cs e h k u v w = cc
match_all kind (p ∷ ps) (q ∷ qs) [] cs e h k u v w = cc
match_all kind (p ∷ ps) (q ∷ qs) (b ∷ bs) [] e h k u v w = cc
match_all kind (p ∷ ps) (q ∷ qs) (b ∷ bs) (c ∷ cs) e h k u v w =
    let left = and_parts (allows_bit p b) (allows_bits ps bs) h in
    let right = and_parts (allows_bit q c) (allows_bits qs cs) k in
    let zeros = and_parts (match_bit kind (unwrap_or p Zero) (unwrap_or q Zero)) (matches kind (filled Zero ps) (filled Zero qs)) u in
    let ones = and_parts (match_bit kind (unwrap_or p One) (unwrap_or q One)) (matches kind (filled One ps) (filled One qs)) v in
    let mixed = and_parts (match_bit kind (unwrap_or p Zero) (unwrap_or q One)) (matches kind (filled Zero ps) (filled One qs)) w in
    both_true _ _ (implied _ _ (implied _ _ (implied _ _ (on_pair (all_match kind) (all_hold kind) p q b c left.0 right.0) zeros.0) ones.0) mixed.0) (match_all kind ps qs bs cs (cc) left.1 right.1 zeros.1 ones.1 mixed.1)
