-- Names joined by dots, one more at the end.
use Rattle.std.proofs.Common.{◌≡◌, ℕ, zero, suc, ◌+◌, ◌<◌, ◌≤◌, List, [], ◌∷◌, ◌++◌, map, length, take, get_or, Option, refl, sym, ap, ◌∙◌, append_assoc, arith}
use Rattle.std.specs.List.{join_with_byte}
use Rattle.std.proofs.lemmas.List.{take_more, map_push, length-map, length-take}
use Rattle.vcd_reader.specs.Views.{scope_text}

join_with_byte-more : (byte : ℕ) (names : List (List ℕ)) (name : List ℕ) → 0 < length names → join_with_byte byte (names ++ name ∷ []) ≡ (join_with_byte byte names ++ byte ∷ []) ++ name
join_with_byte-more byte [] name some = absurd (omega arith)
join_with_byte-more byte (first ∷ []) name some = sym (append_assoc first (byte ∷ []) name)
join_with_byte-more byte (first ∷ second ∷ names) name some = ap (λ (rest : List ℕ). first ++ byte ∷ rest) (join_with_byte-more byte (second ∷ names) name (omega arith)) ∙ simp append_assoc

-- the path of scopes
abbrev pub path_to : ℕ → List (Option (List ℕ)) → List ℕ
path_to depth scopes = join_with_byte 46 (map scope_text (take depth scopes))

names_more : (scopes : List (Option (List ℕ))) (depth : ℕ) (d : Option (List ℕ)) → depth < length scopes → map scope_text (take (depth + 1) scopes) ≡ map scope_text (take depth scopes) ++ scope_text (get_or scopes depth d) ∷ []
names_more scopes depth d within = ap (λ (l : List (Option (List ℕ))). map scope_text l) (take_more scopes depth d within) ∙ map_push scope_text (take depth scopes) (get_or scopes depth d)

first_scope : (scopes : List (Option (List ℕ))) (depth : ℕ) (d : Option (List ℕ)) (path : List ℕ) → depth < length scopes → depth ≤ 0 → path ≡ path_to depth scopes → path ++ scope_text (get_or scopes depth d) ≡ path_to (depth + 1) scopes
first_scope [] depth d path within outermost is_path = absurd (omega arith)
first_scope (scope ∷ scopes) zero d path within outermost is_path = rw is_path refl
first_scope (scope ∷ scopes) (suc depth) d path within outermost is_path = absurd (omega arith)

next_scope : (scopes : List (Option (List ℕ))) (depth : ℕ) (d : Option (List ℕ)) (path : List ℕ) → depth < length scopes → 0 < depth → path ≡ path_to depth scopes → (path ++ 46 ∷ []) ++ scope_text (get_or scopes depth d) ≡ path_to (depth + 1) scopes
next_scope scopes depth d path within some is_path =
    let names = map scope_text (take depth scopes) in
    let long : 0 < length names = simp (length-map, length-take) (omega arith) in
    ap (λ (p : List ℕ). (p ++ 46 ∷ []) ++ scope_text (get_or scopes depth d)) is_path ∙ sym (join_with_byte-more 46 names (scope_text (get_or scopes depth d)) long) ∙ ap (join_with_byte 46) (sym (names_more scopes depth d within))

pub path_first : (scopes : List (Option (List ℕ))) (depth : ℕ) (scope : Option (List ℕ)) (path : List ℕ) → scope ≡ get_or scopes depth scope → depth < length scopes → depth ≤ 0 → path ≡ path_to depth scopes → path ++ scope_text scope ≡ path_to (depth + 1) scopes
path_first scopes depth scope path is within outermost is_path = ap (λ (s : Option (List ℕ)). path ++ scope_text s) is ∙ first_scope scopes depth scope path within outermost is_path

pub path_more : (scopes : List (Option (List ℕ))) (depth : ℕ) (scope : Option (List ℕ)) (path : List ℕ) → scope ≡ get_or scopes depth scope → depth < length scopes → 0 < depth → path ≡ path_to depth scopes → (path ++ 46 ∷ []) ++ scope_text scope ≡ path_to (depth + 1) scopes
path_more scopes depth scope path is within some is_path = ap (λ (s : Option (List ℕ)). (path ++ 46 ∷ []) ++ scope_text s) is ∙ next_scope scopes depth scope path within some is_path
