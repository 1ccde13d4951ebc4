-- Lists of words that are taken one by one.
use Rattle.std.proofs.Common.{◌≡◌, ℕ, ◌<◌, List, [], ◌∷◌, ◌++◌, length, map, append_assoc, append-nil, Option, ap, sym, ◌∙◌, arith}
use Rattle.std.proofs.lemmas.List.{map_push}
use Rattle.std.specs.Borrow.{Bor}
use Rattle.command_line.specs.Define.{Define}
use Rattle.verilog_lexer.specs.Defines.{DefineText}
use Rattle.source_design.specs.Words.{SourceValues}
use Rattle.covered_cli.specs.ScoreSources.{define_text}

pub files_more : (items new : List (Bor (List ℕ))) (file : Bor (List ℕ)) (left rest total : List (List ℕ)) → new ≡ items ++ file ∷ [] → left ≡ file.now ∷ rest → map (λ file. file.now) items ++ left ≡ total → map (λ file. file.now) new ++ rest ≡ total
files_more items new file left rest total pushed taken so_far =
    ap (λ (xs : List (Bor (List ℕ))). map (λ file. file.now) xs ++ rest) pushed ∙ ap (λ (ns : List (List ℕ)). ns ++ rest) (map_push (λ (file : Bor (List ℕ)). file.now) items file)
    ∙ append_assoc (map (λ file. file.now) items) (file.now ∷ []) rest ∙ ap (λ (ns : List (List ℕ)). map (λ file. file.now) items ++ ns) (sym taken) ∙ so_far

pub defines_more : (items new : List DefineText) (one : Define) (left rest : List Define) (total : List DefineText) → new ≡ items ++ define_text one ∷ [] → left ≡ one ∷ rest → items ++ map define_text left ≡ total → new ++ map define_text rest ≡ total
defines_more items new one left rest total pushed taken so_far =
    ap (λ (xs : List DefineText). xs ++ map define_text rest) pushed ∙ append_assoc items (define_text one ∷ []) (map define_text rest) ∙ ap (λ (ds : List Define). items ++ map define_text ds) (sym taken) ∙ so_far

-- nothing is left
pub none_left : {A : Type 0} (items left total : List A) → left ≡ [] → items ++ left ≡ total → items ≡ total
none_left items left total none so_far = sym (append-nil items) ∙ ap (λ xs. items ++ xs) (sym none) ∙ so_far

pub fewer_left : {A : Type 0} (x : A) (left rest : List A) → left ≡ x ∷ rest → length rest < length left
fewer_left x left rest taken = rw taken (omega arith)

-- sources with the same files and macros are the same
pub same_values : (top : List ℕ) (files others : List (List ℕ)) (folder : Option (List ℕ)) (defines more : List DefineText) → files ≡ others → defines ≡ more
    → (◌≡◌ {A = SourceValues}) (record { top = top; files = files; folder = folder; defines = defines }) (record { top = top; files = others; folder = folder; defines = more })
same_values top files others folder defines more same_files same_defines = cc
