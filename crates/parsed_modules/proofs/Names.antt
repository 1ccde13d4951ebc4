-- The names that sound tokens spell are identifiers.
use Rattle.std.proofs.Common.{◌≡◌, ℕ, Bool, true, false, cond, nat_eq, nat_le, length, List, [], ◌∷◌, ◌++◌, refl, subst}
use Rattle.std.specs.Prelude.{not, ◌&&◌, ◌==◌}
use Rattle.std.specs.List.{list_all}
use Rattle.std.specs.Str.{bytes_eq}
use Rattle.std.proofs.lemmas.Bool.{eqb-true}
use Rattle.cov_host.specs.Identifier.{is_identifier, is_reserved, begins_name, continues_name, has_name_form}
use Rattle.verilog_lexer.specs.Tokens.{Lexeme}
use Rattle.verilog_lexer.specs.TokenTexts.{AreSound}
use Rattle.verilog_lexer.specs.declared.token.TokenKind.{TokenKind}
use Rattle.verilog_lexer.specs.declared.token.TokenKind.TheVariants as lexical
use Rattle.verilog_tree.specs.declared.item.Named.{Named}
use Rattle.grammar_rules.proofs.Holds.{AllOf}
use Rattle.grammar_rules.proofs.Members.{and_true, both_ways, not_true}
use Rattle.verilog_grammar.specs.declared.kind.Kind.TheVariants as k
use Rattle.verilog_grammar.specs.declared.kind.TheConstants.{KEYWORDS, OPERATORS, SYSTEM_NAMES}
use Rattle.verilog_grammar.specs.declared.kind.Kind.{Kind}
use Rattle.verilog_grammar.specs.Kind.{code, kind_of, kind_of_word, look_up}
use Rattle.verilog_grammar.specs.Language.{verilog}
use Rattle.verilog_grammar.specs.Parts.{name_rule}
use Rattle.flat_laws.specs.Tokens.{has_dot}
use Rattle.parsed_modules.proofs.TokensHold.{Spelling, Gives, one_gives, made_gives}

-- the kind is that of names
abbrev is_name_kind : Kind → Bool
is_name_kind x = nat_eq (code x) (code k.Identifier)

-- a token that the grammar takes for a name is an identifier
abbrev pub IsNameToken : Lexeme → Type 0
IsNameToken t = is_name_kind (kind_of t) ≡ true → is_identifier t.text ≡ true

-- the name is an identifier
abbrev pub IsName : Named → Type 0
IsName x = is_identifier x.name ≡ true

-- a name that a token spells is an identifier
pub name_gives : (S : Spelling verilog IsNameToken) → Gives S name_rule IsName
name_gives S = made_gives {Q = λ t. is_identifier t.text ≡ true} (one_gives (λ t h m. h m)) (λ t q. q)

-- no entry of the table has the kind of names
abbrev are_others : {A : Type 0} → List (A × Kind) → Bool
are_others [] = true
are_others (entry ∷ entries) = not (is_name_kind entry.1) && are_others entries

looked_up : {A : Type 0} (text : A → List ℕ) (entries : List (A × Kind)) (word : List ℕ) (other : Kind) → are_others entries ≡ true → is_name_kind other ≡ false → is_name_kind (look_up text entries word other) ≡ false
looked_up text [] word other h e = e
looked_up text (entry ∷ entries) word other h e =
    let p = and_true (not (is_name_kind entry.1)) (are_others entries) h in
    either_kind (bytes_eq (text entry.0) word) entry.1 (look_up text entries word other) (not_true (is_name_kind entry.1) p.0) (looked_up text entries word other p.1 e)
  where
    either_kind : (b : Bool) (x y : Kind) → is_name_kind x ≡ false → is_name_kind y ≡ false → is_name_kind (cond b x y) ≡ false
    either_kind true x y h k = h
    either_kind false x y h k = k

of_word : (kind : TokenKind) (text : List ℕ) → (kind ≡ lexical.Identifier → is_identifier text ≡ true) → is_name_kind (kind_of_word kind text) ≡ true → is_identifier text ≡ true
of_word lexical.Identifier text h e = h refl
of_word lexical.Keyword text h e = both_ways _ e (looked_up (λ t. t.now) KEYWORDS text k.Unknown refl refl)
of_word lexical.System text h e = both_ways _ e (looked_up (λ t. t.now) SYSTEM_NAMES text k.OtherSystem refl refl)
of_word lexical.Decimal text h e = absurd cc
of_word lexical.Based text h e = absurd cc
of_word lexical.Quoted text h e = absurd cc
of_word lexical.Operator text h e = both_ways _ e (looked_up (λ t. t.now) OPERATORS text k.Unknown refl refl)

name_token : (t : Lexeme) → (t.kind ≡ lexical.Identifier → is_identifier t.text ≡ true) → IsNameToken t
unfolding kind_of
name_token t h e = of_word t.kind t.text h e

-- so it is with sound tokens
pub sound_names : (earlier tokens : List Lexeme) → AreSound earlier tokens → AllOf IsNameToken tokens
sound_names earlier [] h = tt
sound_names earlier (t ∷ others) h = (name_token t h.0.name, sound_names (earlier ++ t ∷ []) others h.1)

-- ---- what identifiers are not

no_dot_byte : (b : ℕ) → continues_name b ≡ true → (b == 46) ≡ false
no_dot_byte b h = by_test (b == 46) refl
  where
    by_test : (c : Bool) → (b == 46) ≡ c → c ≡ false
    by_test true e = let refused : continues_name 46 ≡ true = subst (λ x. continues_name x ≡ true) (eqb-true b 46 e) h in both_ways false refused refl
    by_test false e = refl

no_dot_behind : (bytes : List ℕ) → list_all continues_name bytes ≡ true → has_dot bytes ≡ false
no_dot_behind [] h = refl
no_dot_behind (b ∷ bytes) h =
    let p = and_true (continues_name b) (list_all continues_name bytes) h in
    rw (no_dot_byte b p.0) (no_dot_behind bytes p.1)

continues : (b : ℕ) → begins_name b ≡ true → continues_name b ≡ true
continues b h = rw h refl

form_has_no_dot : (name : List ℕ) → has_name_form name ≡ true → has_dot name ≡ false
form_has_no_dot [] h = refl
form_has_no_dot (b ∷ bytes) h =
    let p = and_true (begins_name b) (list_all continues_name bytes) h in
    rw (no_dot_byte b (continues b p.0)) (no_dot_behind bytes p.1)

name_form : (name : List ℕ) → is_identifier name ≡ true → has_name_form name ≡ true
name_form name h = form_of (has_name_form name) (nat_le (length name) 255) (not (is_reserved name)) h
  where
    form_of : (x y z : Bool) → (x && y && z) ≡ true → x ≡ true
    form_of true y z e = refl
    form_of false y z e = e

pub identifier_has_no_dot : (name : List ℕ) → is_identifier name ≡ true → has_dot name ≡ false
identifier_has_no_dot name h = form_has_no_dot name (name_form name h)

pub identifier_not_empty : (name : List ℕ) → is_identifier name ≡ true → name ≡ [] → ⊥
identifier_not_empty [] h e = both_ways false (name_form [] h) refl
identifier_not_empty (b ∷ bytes) h e = absurd cc
