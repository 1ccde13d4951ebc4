-- Rules of a grammar as data, what tokens they spell, and how they are read from left to right.
use Rattle.std.specs.Prelude.{◌≡◌, ◌⊎◌, ℕ, zero, suc, Bool, true, false, ◌&&◌, ◌||◌, if◌then◌else◌, nat_eq, List, [], ◌∷◌, ◌++◌, length, Option, Some, None, Result, Ok, Err}

-- what tokens are, which have kinds that are numbered from 1 and places, and the phrases that nest, with their values
pub record Language : Type 1 where
  pub Token : Type 0
  pub Place : Type 0
  pub Phrase : Type 0
  pub Value : Phrase → Type 0
  pub code : Token → ℕ
  pub place : Token → Place

abbrev pub Tokens : Language → Type 0
Tokens L = List L.Token

-- the kind of the next token, and 0 at the end
abbrev pub next : (L : Language) → Tokens L → ℕ
next L [] = 0
next L (t ∷ i) = L.code t

-- the number is in the list
abbrev pub member : ℕ → List ℕ → Bool
member x [] = false
member x (y ∷ []) = nat_eq x y
member x (y ∷ z ∷ ys) = nat_eq x y || member x (z ∷ ys)

-- What is known of a value that may become a part of a greater one.
pub record Growth (L : Language) (A : Type 0) : Type 0 where
  -- may it become a part of a greater one?
  pub may : A → Bool
  -- may it be more than once?
  pub again : Bool
  -- how many parts it nests
  pub height : A → ℕ
  -- where the first of its parts begins that has the most parts around it
  pub deepest : A → L.Place

-- where it may be once alone, what has grown may not grow
abbrev pub Ends : {L : Language} {A B : Type 0} → Bool → Growth L A → (A → B → A) → Type 0
Ends true w f = Unit {0}
Ends {A = A} {B = B} false w f = (a : A) (b : B) → w.may (f a b) ≡ false

-- A rule says which tokens spell a value of a type.
pub data Rule (L : Language) : Type 0 → Type 1 where
  -- a token of one of these kinds
  one : ℕ → List ℕ → Rule L L.Token
  empty : Rule L (Unit {0})
  both : {A B : Type 0} → Rule L A → Rule L B → Rule L (A × B)
  either : {A : Type 0} → Rule L A → Rule L A → Rule L A
  -- any number of times
  many : {A : Type 0} → Rule L A → Rule L (List A)
  -- after a token of this kind, and nothing where that does not come next
  maybe : {A : Type 0} → ℕ → Rule L A → Rule L (Option A)
  -- the first, and any number of the second, each of which makes the value before it a part of a greater one
  grow : {A B : Type 0} (w : Growth L A) (f : A → B → A) (ends : Ends w.again w f) → Rule L A → Rule L B → Rule L A
  made : {A B : Type 0} → (A → B) → Rule L A → Rule L B
  -- a phrase, one deeper
  nest : (p : L.Phrase) → Rule L (L.Value p)

-- may no token spell it?
abbrev pub nullable : {L : Language} {A : Type 0} → Rule L A → Bool
nullable (one x xs) = false
nullable empty = true
nullable (both g h) = nullable g && nullable h
nullable (either g h) = nullable g || nullable h
nullable (many g) = true
nullable (maybe x g) = true
nullable (grow w f ends g h) = nullable g
nullable (made f g) = nullable g
nullable (nest p) = false

module _ (L : Language) (begins : L.Phrase → List ℕ) where
  -- the kinds of tokens that may come first
  abbrev pub first : {A : Type 0} → Rule L A → List ℕ
  first (one x xs) = x ∷ xs
  first empty = []
  first (both g h) = if nullable g then first g ++ first h else first g
  first (either g h) = first g ++ first h
  first (many g) = first g
  first (maybe x g) = x ∷ []
  first (grow w f ends g h) = if nullable g then first g ++ first h else first g
  first (made f g) = first g
  first (nest p) = begins p

-- ---- what a rule spells: the tokens from the first list up to the second

-- a value after another, up to the end
abbrev pub Chain : {A T : Type 0} → (A → List T → List T → Type 0) → List A → List T → List T → Type 0
Chain S [] i o = i ≡ o
Chain {T = T} S (v ∷ vs) i o = (m : List T) × S v i m × Chain S vs m o

-- a value that grows by others, where each value that grows may grow and is not too high
abbrev pub Grown : {L : Language} {A B : Type 0} → (fits : ℕ → Bool) → Growth L A → (A → B → A) → A → List B → A → Type 0
Grown fits w f a [] v = a ≡ v
Grown fits w f a (b ∷ bs) v = (w.may a ≡ true) × (fits (w.height a) ≡ true) × Grown fits w f (f a b) bs v

module _ (L : Language) (fits : ℕ → Bool) (R : (p : L.Phrase) → L.Value p → Tokens L → Tokens L → Type 0) where
  abbrev pub Spells : {A : Type 0} → Rule L A → A → Tokens L → Tokens L → Type 0
  Spells (one x xs) t i o = (i ≡ t ∷ o) × (member (L.code t) (x ∷ xs) ≡ true)
  Spells empty v i o = i ≡ o
  Spells (both g h) v i o = (m : Tokens L) × Spells g v.0 i m × Spells h v.1 m o
  Spells (either g h) v i o = Spells g v i o ⊎ Spells h v i o
  Spells (many g) vs i o = Chain (Spells g) vs i o
  Spells (maybe x g) None i o = (i ≡ o) × (nat_eq (next L i) x ≡ false)
  Spells (maybe x g) (Some v) i o = (t : L.Token) × (m : Tokens L) × (i ≡ t ∷ m) × (nat_eq (L.code t) x ≡ true) × Spells g v m o
  Spells (grow {A} {B} w f ends g h) v i o = (a : A) × (bs : List B) × Grown fits w f a bs v × ((m : Tokens L) × Spells g a i m × Chain (Spells h) bs m o)
  Spells (made {A} f g) v i o = (a : A) × (f a ≡ v) × Spells g a i o
  Spells (nest p) v i o = R p v i o

-- ---- reading from left to right, with the first fault that is met

-- what is wrong at a token
pub data Wrong (L : Language) : Type 0 where
  -- no rule goes on with it
  unexpected : Wrong L
  -- with it a part is known to nest too deep, which begins at this place
  too_deep : L.Place → Wrong L

-- a fault, and how many tokens are left at it
pub record Fault (L : Language) : Type 0 where
  pub kind : Wrong L
  pub left : ℕ

infixl 10 ◌>>=◌
abbrev pub ◌>>=◌ : {A B F : Type 0} → Result A F → (A → Result B F) → Result B F
(Ok x) >>= f = f x
(Err e) >>= f = Err e

abbrev pub Outcome : Language → Type 0 → Type 0
Outcome L A = Result (A × Tokens L) (Fault L)

module _ (L : Language) where
  abbrev pub fault_at : {A : Type 0} → Wrong L → Tokens L → Outcome L A
  fault_at k i = Err (record { kind = k; left = length i })

  abbrev pub refuse : {A : Type 0} → Tokens L → Outcome L A
  refuse i = fault_at unexpected i

  -- the part that begins with the next token nests too deep
  abbrev pub deep : {A : Type 0} → Tokens L → Outcome L A
  deep [] = refuse []
  deep (t ∷ i) = fault_at (too_deep (L.place t)) (t ∷ i)

  unfoldable pub take_one : List ℕ → Tokens L → Outcome L L.Token
  take_one ks [] = refuse []
  take_one ks (t ∷ i) = if member (L.code t) ks then Ok (t, i) else refuse (t ∷ i)

  -- The number bounds the turns, and each takes a token.
  unfoldable pub repeat : {A : Type 0} → List ℕ → (Tokens L → Outcome L A) → ℕ → Tokens L → Outcome L (List A)
  repeat ks item zero i = Ok ([], i)
  repeat ks item (suc n) i = if member (next L i) ks then (item i >>= λ x. repeat ks item n x.1 >>= λ y. Ok (x.0 ∷ y.0, y.1)) else Ok ([], i)

  -- The number bounds the turns, and each takes a token.
  unfoldable pub grow_by : {A B : Type 0} → (fits : ℕ → Bool) → Growth L A → (A → B → A) → List ℕ → (Tokens L → Outcome L B) → ℕ → A → Tokens L → Outcome L A
  grow_by fits w f ks item zero a i = Ok (a, i)
  grow_by fits w f ks item (suc n) a i =
      if member (next L i) ks && w.may a
      then (if fits (w.height a) then (item i >>= λ x. grow_by fits w f ks item n (f a x.0) x.1) else fault_at (too_deep (w.deepest a)) i)
      else Ok (a, i)

module _ (L : Language) (begins : L.Phrase → List ℕ) (fits : ℕ → Bool) (r : (p : L.Phrase) → Tokens L → Outcome L (L.Value p)) where
  abbrev pub read : {A : Type 0} → Rule L A → Tokens L → Outcome L A
  read (one x xs) i = take_one L (x ∷ xs) i
  read empty i = Ok (tt, i)
  read (both g h) i = read g i >>= λ x. read h x.1 >>= λ y. Ok ((x.0, y.0), y.1)
  read (either g h) i = if member (next L i) (first L begins g) then read g i else read h i
  read (many g) i = repeat L (first L begins g) (read g) (length i) i
  read (maybe x g) i = if nat_eq (next L i) x then (take_one L (x ∷ []) i >>= λ t. read g t.1 >>= λ y. Ok (Some y.0, y.1)) else Ok (None, i)
  read (grow w f ends g h) i = read g i >>= λ x. grow_by L fits w f (first L begins h) (read h) (length x.1) x.0 x.1
  read (made f g) i = read g i >>= λ x. Ok (f x.0, x.1)
  read (nest p) i = r p i

-- what came so far, with what is still read
abbrev pub going : {L : Language} {S A B : Type 0} → (S → List A → B) → S → Outcome L (List A) → Outcome L B
going fin s o = o >>= λ x. Ok (fin s x.0, x.1)
