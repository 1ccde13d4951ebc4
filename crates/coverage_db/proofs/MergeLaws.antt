-- The first difference of two tables, and their merge.
use Rattle.std.proofs.Common.{◌≡◌, ◌≢◌, ℕ, zero, suc, ◌+◌, ◌^◌, ◌<◌, ◌≤◌, Bool, true, false, cond, eqb, List, [], ◌∷◌, ◌++◌, map, length, All, Option, Some, None, refl, sym, ap, subst, ◌∙◌, inl, inr, arith}
use Rattle.std.specs.Prelude.{bytes_eq, codes, decimal, IsTrue}
use Rattle.std.specs.Ordering.{is_gt}
use Rattle.std.proofs.lemmas.Bool.{cases_Bool, eqb-true, eq-eqb}
use Rattle.std.proofs.lemmas.Fmt.{decimal_injective}
use Rattle.std.proofs.lemmas.List.Elements.{All-nil, All-cons, All-head, All-tail}
use Rattle.std.proofs.lemmas.Option.{same_Some}
use Rattle.std.proofs.lemmas.Slice.Eq.{bytes_eq-Decides}
use Rattle.coverage_db.specs.declared.address.Address.{Address}
use Rattle.coverage_db.specs.declared.address.Subject.{Subject}
use Rattle.coverage_db.specs.declared.address.Subject.TheVariants.{Line, Logic, Toggle, State, Arc, Word}
use Rattle.coverage_db.specs.declared.db.Db.{Db}
use Rattle.coverage_db.specs.declared.db.DbInstance.{DbInstance}
use Rattle.coverage_db.specs.declared.db.DbPoint.{DbPoint}
use Rattle.coverage_db.specs.declared.verdict.DbVerdict.{DbVerdict}
use Rattle.coverage_db.specs.declared.verdict.DbVerdict.TheVariants.{Hit, Missed, Undetermined}
use Rattle.coverage_db.specs.declared.version.Version.TheVariants.{Two}
use Rattle.coverage_db.specs.Drafting.{source_of, instance_at}
use Rattle.coverage_db.specs.Merge.{first_other, if_other, difference_of, bare_lines, line_at, lines_from_count, lines_from_instances, lines_from_sources, DiffersAt, doubt_cmp, joined, merged_points, merged}
use Rattle.coverage_db.specs.Reading.{point_of}
use Rattle.coverage_db.specs.Same.{same_address, same_instance, same_point}
use Rattle.coverage_db.specs.Table.{Rises, IsInstance, IsPoint, IsVerdict, IsTable, is_file_name}
use Rattle.coverage_db.specs.Text.{version_line, top_line, source_line, source_lines, instance_line, count_line, address_text, point_line, letter}
use Rattle.coverage_db.specs.Windows.{joined_windows}
use Rattle.coverage_db.proofs.Differing.{IsFirstOther, heads_differ, front_same, numbered, numbered_map, AreLines, items_differ, mapped_same, list_same}
use Rattle.coverage_db.proofs.DraftLaws.{by_address, source_again, instance_line_again}
use Rattle.coverage_db.proofs.PathSearch.{by_path, same_path}
use Rattle.coverage_db.proofs.PointLaws.{point_again}
use Rattle.coverage_db.proofs.WindowLaws.{joined_rises, joined_valid as windows_valid}
use Rattle.coverage_db.proofs.SameLaws.{address_same, instance_same, self_address, self_instance}

-- ---- tables of one design

-- the tables agree in all but verdicts
pub record Alike (left right : Db) : Type 0 where
  pub top : left.top ≡ right.top
  pub sources : left.sources ≡ right.sources
  pub instances : left.instances ≡ right.instances
  pub addresses : map (λ p. p.address) left.points ≡ map (λ p. p.address) right.points

record NoPart (b c : Bool) (o p q : Option ℕ) : Type 0 where
  top : b ≡ true
  sources : o ≡ None
  instances : p ≡ None
  count : c ≡ true
  points : q ≡ None

no_part : (b c : Bool) (o p q : Option ℕ) (m n k : ℕ) → cond b (if_other o 2 (if_other p m (cond c (if_other q n None) (Some k)))) (Some 1) ≡ None → NoPart b c o p q
no_part false c o p q m n k e = absurd cc
no_part true c (Some x) p q m n k e = absurd cc
no_part true c None (Some x) q m n k e = absurd cc
no_part true false None None q m n k e = absurd cc
no_part true true None None (Some x) m n k e = absurd cc
no_part true true None None None m n k e = record { top = refl; sources = refl; instances = refl; count = refl; points = refl }

name_is : (x y : List ℕ) → bytes_eq x y ≡ true → x ≡ y
name_is x y e = (bytes_eq-Decides x y).0 e

pub none_alike : (left right : Db) → difference_of left right ≡ None → Alike left right
none_alike left right e =
    let n = no_part (bytes_eq left.top right.top) (eqb (length left.points) (length right.points)) (first_other bytes_eq left.sources right.sources) (first_other same_instance left.instances right.instances) (first_other same_point left.points right.points) _ _ _ e in
    record {
      top = name_is left.top right.top n.top;
      sources = list_same bytes_eq left.sources right.sources name_is n.sources;
      instances = list_same same_instance left.instances right.instances instance_same n.instances;
      addresses = mapped_same same_point (λ (p : DbPoint). p.address) left.points right.points (λ x y s. address_same x.address y.address s) n.points;
    }

cons_is : {x y : List ℕ} {xs ys : List (List ℕ)} → x ≡ y → xs ≡ ys → x ∷ xs ≡ y ∷ ys
cons_is p q = cc

-- the lines of points of the same addresses
texts_same : (instances : List DbInstance) (ps qs : List DbPoint) → map (λ p. p.address) ps ≡ map (λ p. p.address) qs → map (λ p. address_text instances p.address) ps ≡ map (λ p. address_text instances p.address) qs
texts_same instances [] [] e = refl
texts_same instances [] (q ∷ qs) e = absurd cc
texts_same instances (p ∷ ps) [] e = absurd cc
texts_same instances (p ∷ ps) (q ∷ qs) e =
    let first : p.address ≡ q.address = cc in
    let rest : map (λ (x : DbPoint). x.address) ps ≡ map (λ (x : DbPoint). x.address) qs = cc in
    cons_is (ap (address_text instances) first) (texts_same instances ps qs rest)

pub long_same : (ps qs : List DbPoint) → map (λ p. p.address) ps ≡ map (λ p. p.address) qs → length ps ≡ length qs
long_same [] [] e = refl
long_same [] (q ∷ qs) e = absurd cc
long_same (p ∷ ps) [] e = absurd cc
long_same (p ∷ ps) (q ∷ qs) e =
    let rest : map (λ (x : DbPoint). x.address) ps ≡ map (λ (x : DbPoint). x.address) qs = cc in
    ap (λ (n : ℕ). suc n) (long_same ps qs rest)

pub alike_lines : (left right : Db) → Alike left right → bare_lines left ≡ bare_lines right
alike_lines left right a =
    let texts : map (λ (p : DbPoint). address_text left.instances p.address) left.points ≡ map (λ (p : DbPoint). address_text right.instances p.address) right.points = texts_same left.instances left.points right.points a.addresses ∙ ap (λ (is : List DbInstance). map (λ (p : DbPoint). address_text is p.address) right.points) a.instances in
    let long = long_same left.points right.points a.addresses in
    rw (a.top, a.sources, long, texts, a.instances) refl

-- ---- lines that differ

first_byte : List ℕ → ℕ
first_byte [] = 0
first_byte (byte ∷ bytes) = byte

apart : (a b : List ℕ) (m n : ℕ) → first_byte a ≡ m → first_byte b ≡ n → m ≢ n → a ≢ b
apart a b m n p q ne e = ne (sym p ∙ ap first_byte e ∙ q)

unlike : (x y : List ℕ) → bytes_eq x y ≡ false → x ≢ y
unlike x y e same = let bad : true ≡ false = sym (same_path x y same) ∙ e in cc

instance_no_source : (i : DbInstance) (k : ℕ) (name : List ℕ) → instance_line i ≢ source_line k name
unfolding first_byte
instance_no_source i k name = apart (instance_line i) (source_line k name) 105 115 refl refl (omega arith)

count_no_instance : (digits : List ℕ) (i : DbInstance) → count_line digits ≢ instance_line i
unfolding first_byte
count_no_instance digits i = apart (count_line digits) (instance_line i) 112 105 refl refl (omega arith)

letter_no_end : (s : Subject) → 101 ≢ letter s
letter_no_end (Line n at word) = omega arith
letter_no_end (Logic n at op c) = omega arith
letter_no_end (Toggle name index rise) = omega arith
letter_no_end (State name state) = omega arith
letter_no_end (Arc name from target) = omega arith
letter_no_end (Word name index write) = omega arith

end_no_point : (instances : List DbInstance) (a : Address) → codes "end" ≢ address_text instances a
unfolding first_byte
end_no_point instances a = apart (codes "end") (address_text instances a) 101 (letter a.subject) refl refl (letter_no_end a.subject)

numbered_sources : (k : ℕ) (names : List (List ℕ)) → source_lines k names ≡ numbered source_line k names
numbered_sources k [] = refl
numbered_sources k (name ∷ names) = ap (λ (ls : List (List ℕ)). source_line k name ∷ ls) (numbered_sources (k + 1) names)

source_lines_are : (i j : DbInstance) → AreLines bytes_eq (λ name. IsTrue (is_file_name name)) source_line (instance_line i) (instance_line j)
source_lines_are i j = record {
  unlike = λ k x y p q differ same. unlike x y differ (same_Some x y (sym (source_again k x p) ∙ ap (source_of k) same ∙ source_again k y q));
  alike = λ x y e k. ap (source_line k) (name_is x y e);
  left_end = λ k x. instance_no_source i k x;
  right_end = λ k x. instance_no_source j k x;
}

not_self : (x y : DbInstance) → same_instance x y ≡ false → x ≢ y
not_self x y differ same = let bad : true ≡ false = sym (self_instance x) ∙ ap (same_instance x) same ∙ differ in cc

not_self_address : (x y : Address) → same_address x y ≡ false → x ≢ y
not_self_address x y differ same = let bad : true ≡ false = sym (self_address x) ∙ ap (same_address x) same ∙ differ in cc

instance_lines_are : (m n : List ℕ) → AreLines same_instance IsInstance (λ k. instance_line) (count_line m) (count_line n)
instance_lines_are m n = record {
  unlike = λ k x y p q differ same. not_self x y differ (same_Some x y (sym (instance_line_again x p) ∙ ap instance_at same ∙ instance_line_again y q));
  alike = λ x y e k. ap instance_line (instance_same x y e);
  left_end = λ k x. count_no_instance m x;
  right_end = λ k x. count_no_instance n x;
}

-- a point whose line says that it is hit
hit_point : DbPoint → DbPoint
hit_point p = record p { verdict = Hit }

text_injective : (sources : ℕ) (instances : List DbInstance) (p q : DbPoint) → sources < 2 ^ 32 → Rises by_path instances → All IsInstance instances → IsPoint sources instances p → IsPoint sources instances q
    → address_text instances p.address ≡ address_text instances q.address → p.address ≡ q.address
unfolding hit_point
text_injective sources instances p q few rises each a b e =
    let one = point_again sources instances (hit_point p) few rises each (record { instance = a.instance; subject = a.subject; verdict = tt }) in
    let two = point_again sources instances (hit_point q) few rises each (record { instance = b.instance; subject = b.subject; verdict = tt }) in
    let lines : point_line instances (hit_point p) ≡ point_line instances (hit_point q) = ap (λ (t : List ℕ). t ++ codes " = " ++ codes "hit") e in
    ap (λ (x : DbPoint). x.address) (same_Some (hit_point p) (hit_point q) (sym one ∙ ap (point_of sources instances) lines ∙ two))

point_lines_are : (sources : ℕ) (instances : List DbInstance) → sources < 2 ^ 32 → Rises by_path instances → All IsInstance instances → AreLines same_point (IsPoint sources instances) (λ k p. address_text instances p.address) (codes "end") (codes "end")
point_lines_are sources instances few rises each = record {
  unlike = λ k x y p q differ same. not_self_address x.address y.address differ (text_injective sources instances x y few rises each p q same);
  alike = λ x y e k. ap (address_text instances) (address_same x.address y.address e);
  left_end = λ k x. end_no_point instances x.address;
  right_end = λ k x. end_no_point instances x.address;
}

-- ---- the first difference, part by part

-- the lines from the first instance on
record Starts (lines : List (List ℕ)) : Type 0 where
  first : DbInstance
  rest : List (List ℕ)
  is : lines ≡ instance_line first ∷ rest

starts : (instances : List DbInstance) (lines : List (List ℕ)) → instances ≢ [] → Starts (map instance_line instances ++ lines)
starts [] lines some = absurd (some refl)
starts (i ∷ instances) lines some = record { first = i; rest = map instance_line instances ++ lines; is = refl }

top_differs : (left right : Db) → bytes_eq left.top right.top ≡ false → IsFirstOther (bare_lines left) (bare_lines right) 1
top_differs left right e =
    let differ : top_line left.top ≢ top_line right.top = λ same. unlike left.top right.top e (let one : left.top ≡ right.top = cc in one) in
    front_same (version_line Two ∷ []) (top_line left.top ∷ lines_from_sources left) (top_line right.top ∷ lines_from_sources right) 0 (heads_differ (top_line left.top) (top_line right.top) (lines_from_sources left) (lines_from_sources right) differ)

sources_differ : (left right : Db) (place : ℕ) → IsTable left → IsTable right → left.top ≡ right.top → first_other bytes_eq left.sources right.sources ≡ Some place → IsFirstOther (bare_lines left) (bare_lines right) (2 + place)
sources_differ left right place p q top e =
    let a = starts left.instances (lines_from_count left) p.some_instance in
    let b = starts right.instances (lines_from_count right) q.some_instance in
    let items = items_differ bytes_eq (λ (name : List ℕ). IsTrue (is_file_name name)) source_line (instance_line a.first) (instance_line b.first) 1 left.sources right.sources a.rest b.rest place (source_lines_are a.first b.first) p.sources q.sources e in
    let named = subst (λ (ls : List (List ℕ)). IsFirstOther (ls ++ instance_line a.first ∷ a.rest) (numbered source_line 1 right.sources ++ instance_line b.first ∷ b.rest) place) (sym (numbered_sources 1 left.sources)) items in
    let both = subst (λ (ls : List (List ℕ)). IsFirstOther (source_lines 1 left.sources ++ instance_line a.first ∷ a.rest) (ls ++ instance_line b.first ∷ b.rest) place) (sym (numbered_sources 1 right.sources)) named in
    let one = subst (λ (ls : List (List ℕ)). IsFirstOther (source_lines 1 left.sources ++ ls) (source_lines 1 right.sources ++ instance_line b.first ∷ b.rest) place) (sym a.is) both in
    let two = subst (λ (ls : List (List ℕ)). IsFirstOther (lines_from_sources left) (source_lines 1 right.sources ++ ls) place) (sym b.is) one in
    subst (λ (t : List ℕ). IsFirstOther (bare_lines left) (version_line Two ∷ top_line t ∷ lines_from_sources right) (2 + place)) top (front_same (version_line Two ∷ top_line left.top ∷ []) (lines_from_sources left) (lines_from_sources right) place two)

-- the lines before the instances
front_of : Db → List (List ℕ)
front_of db = version_line Two ∷ top_line db.top ∷ source_lines 1 db.sources

front_is : (left right : Db) → left.top ≡ right.top → left.sources ≡ right.sources → front_of left ≡ front_of right
unfolding front_of
front_is left right t s = rw (t, s) refl

length_sources : (k : ℕ) (names : List (List ℕ)) → length (source_lines k names) ≡ length names
length_sources k [] = refl
length_sources k (name ∷ names) = ap (λ (n : ℕ). suc n) (length_sources (k + 1) names)

length_front : (db : Db) → length (front_of db) ≡ 2 + length db.sources
unfolding front_of
length_front db = omega (arith, length_sources 1 db.sources)

behind_front : (left right : Db) (place : ℕ) → left.top ≡ right.top → left.sources ≡ right.sources → IsFirstOther (lines_from_instances left) (lines_from_instances right) place → IsFirstOther (bare_lines left) (bare_lines right) (2 + length left.sources + place)
unfolding front_of
behind_front left right place t s d =
    let whole = front_same (front_of left) (lines_from_instances left) (lines_from_instances right) place d in
    let other = subst (λ (f : List (List ℕ)). IsFirstOther (bare_lines left) (f ++ lines_from_instances right) (length (front_of left) + place)) (front_is left right t s) whole in
    subst (λ (n : ℕ). IsFirstOther (bare_lines left) (bare_lines right) (n + place)) (length_front left) other

instances_differ : (left right : Db) (place : ℕ) → IsTable left → IsTable right → left.top ≡ right.top → left.sources ≡ right.sources → first_other same_instance left.instances right.instances ≡ Some place
    → IsFirstOther (bare_lines left) (bare_lines right) (2 + length left.sources + place)
instances_differ left right place p q t s e =
    let m : List ℕ = decimal (length left.points) in
    let n : List ℕ = decimal (length right.points) in
    let left_rest : List (List ℕ) = map (λ (x : DbPoint). address_text left.instances x.address) left.points ++ codes "end" ∷ [] in
    let right_rest : List (List ℕ) = map (λ (x : DbPoint). address_text right.instances x.address) right.points ++ codes "end" ∷ [] in
    let items = items_differ same_instance IsInstance (λ k. instance_line) (count_line m) (count_line n) 1 left.instances right.instances left_rest right_rest place (instance_lines_are m n) p.instances q.instances e in
    let one = subst (λ (ls : List (List ℕ)). IsFirstOther (ls ++ count_line m ∷ left_rest) (numbered (λ k. instance_line) 1 right.instances ++ count_line n ∷ right_rest) place) (sym (numbered_map instance_line 1 left.instances)) items in
    let two = subst (λ (ls : List (List ℕ)). IsFirstOther (lines_from_instances left) (ls ++ count_line n ∷ right_rest) place) (sym (numbered_map instance_line 1 right.instances)) one in
    behind_front left right place t s two

map_long : {X : Type 0} (f : X → List ℕ) (xs : List X) → length (map f xs) ≡ length xs
map_long f [] = refl
map_long f (x ∷ xs) = ap (λ (n : ℕ). suc n) (map_long f xs)

behind_instances : (left right : Db) (place : ℕ) → left.top ≡ right.top → left.sources ≡ right.sources → left.instances ≡ right.instances → IsFirstOther (lines_from_count left) (lines_from_count right) place
    → IsFirstOther (bare_lines left) (bare_lines right) (2 + length left.sources + length left.instances + place)
behind_instances left right place t s i d =
    let whole = front_same (map instance_line left.instances) (lines_from_count left) (lines_from_count right) place d in
    let other = subst (λ (is : List DbInstance). IsFirstOther (lines_from_instances left) (map instance_line is ++ lines_from_count right) (length (map instance_line left.instances) + place)) i whole in
    let same : 2 + length left.sources + (length (map instance_line left.instances) + place) ≡ 2 + length left.sources + length left.instances + place = omega (arith, map_long instance_line left.instances) in
    subst (λ (n : ℕ). IsFirstOther (bare_lines left) (bare_lines right) n) same (behind_front left right (length (map instance_line left.instances) + place) t s other)

count_differs : (left right : Db) → IsTable left → IsTable right → left.top ≡ right.top → left.sources ≡ right.sources → left.instances ≡ right.instances → eqb (length left.points) (length right.points) ≡ false
    → IsFirstOther (bare_lines left) (bare_lines right) (2 + length left.sources + length left.instances)
count_differs left right p q t s i e =
    let differ : count_line (decimal (length left.points)) ≢ count_line (decimal (length right.points)) = λ same.
    let digits : decimal (length left.points) ≡ decimal (length right.points) = cc in
    let one : length left.points ≡ length right.points = decimal_injective (length left.points) (length right.points) (omega (arith, p.lines)) (omega (arith, q.lines)) digits in
    let bad : true ≡ false = sym (eq-eqb (length left.points) (length right.points) one) ∙ e in
    cc in
    let here = heads_differ (count_line (decimal (length left.points))) (count_line (decimal (length right.points))) _ _ differ in
    let same : 2 + length left.sources + length left.instances + 0 ≡ 2 + length left.sources + length left.instances = omega arith in
    subst (λ (n : ℕ). IsFirstOther (bare_lines left) (bare_lines right) n) same (behind_instances left right 0 t s i here)

points_differ : (left right : Db) (place : ℕ) → IsTable left → IsTable right → left.top ≡ right.top → left.sources ≡ right.sources → left.instances ≡ right.instances → length left.points ≡ length right.points
    → first_other same_point left.points right.points ≡ Some place → IsFirstOther (bare_lines left) (bare_lines right) (2 + length left.sources + length left.instances + 1 + place)
points_differ left right place p q t s i long e =
    let text : DbPoint → List ℕ = λ x. address_text left.instances x.address in
    let points : All (IsPoint (length left.sources) left.instances) right.points = subst (λ (n : ℕ). All (IsPoint n left.instances) right.points) (ap (λ (ss : List (List ℕ)). length ss) (sym s)) (subst (λ (is : List DbInstance). All (IsPoint (length right.sources) is) right.points) (sym i) q.points) in
    let lines = point_lines_are (length left.sources) left.instances (omega (arith, p.lines)) p.instances_rise p.instances in
    let items = items_differ same_point (IsPoint (length left.sources) left.instances) (λ k. text) (codes "end") (codes "end") 1 left.points right.points [] [] place lines p.points points e in
    let one = subst (λ (ls : List (List ℕ)). IsFirstOther (ls ++ codes "end" ∷ []) (numbered (λ k. text) 1 right.points ++ codes "end" ∷ []) place) (sym (numbered_map text 1 left.points)) items in
    let two = subst (λ (ls : List (List ℕ)). IsFirstOther (map text left.points ++ codes "end" ∷ []) (ls ++ codes "end" ∷ []) place) (sym (numbered_map text 1 right.points)) one in
    let counted = front_same (count_line (decimal (length left.points)) ∷ []) (map text left.points ++ codes "end" ∷ []) (map text right.points ++ codes "end" ∷ []) place two in
    let right_is : count_line (decimal (length left.points)) ∷ map text right.points ++ codes "end" ∷ [] ≡ lines_from_count right =
    ap (λ (n : ℕ). count_line (decimal n) ∷ map text right.points ++ codes "end" ∷ []) long ∙ ap (λ (is : List DbInstance). count_line (decimal (length right.points)) ∷ map (λ (x : DbPoint). address_text is x.address) right.points ++ codes "end" ∷ []) i in
    let there = subst (λ (ls : List (List ℕ)). IsFirstOther (lines_from_count left) ls (1 + place)) right_is counted in
    let same : 2 + length left.sources + length left.instances + (1 + place) ≡ 2 + length left.sources + length left.instances + 1 + place = omega arith in
    subst (λ (n : ℕ). IsFirstOther (bare_lines left) (bare_lines right) n) same (behind_instances left right (1 + place) t s i there)

part_differs : (left right : Db) (place : ℕ) (b c : Bool) (o r q : Option ℕ) → IsTable left → IsTable right → bytes_eq left.top right.top ≡ b → eqb (length left.points) (length right.points) ≡ c → first_other bytes_eq left.sources right.sources ≡ o → first_other same_instance left.instances right.instances ≡ r → first_other same_point left.points right.points ≡ q
    → cond b (if_other o 2 (if_other r (2 + length left.sources) (cond c (if_other q (2 + length left.sources + length left.instances + 1) None) (Some (2 + length left.sources + length left.instances))))) (Some 1) ≡ Some place → IsFirstOther (bare_lines left) (bare_lines right) place
part_differs left right place false c o r q p w b_is c_is o_is r_is q_is e = subst (IsFirstOther (bare_lines left) (bare_lines right)) (same_Some 1 place e) (top_differs left right b_is)
part_differs left right place true c (Some x) r q p w b_is c_is o_is r_is q_is e = subst (IsFirstOther (bare_lines left) (bare_lines right)) (same_Some (2 + x) place e) (sources_differ left right x p w (name_is left.top right.top b_is) o_is)
part_differs left right place true c None (Some x) q p w b_is c_is o_is r_is q_is e =
    subst (IsFirstOther (bare_lines left) (bare_lines right)) (same_Some (2 + length left.sources + x) place e) (instances_differ left right x p w (name_is left.top right.top b_is) (list_same bytes_eq left.sources right.sources name_is o_is) r_is)
part_differs left right place true false None None q p w b_is c_is o_is r_is q_is e =
    subst (IsFirstOther (bare_lines left) (bare_lines right)) (same_Some (2 + length left.sources + length left.instances) place e)
    (count_differs left right p w (name_is left.top right.top b_is) (list_same bytes_eq left.sources right.sources name_is o_is) (list_same same_instance left.instances right.instances instance_same r_is) c_is)
part_differs left right place true true None None (Some x) p w b_is c_is o_is r_is q_is e =
    subst (IsFirstOther (bare_lines left) (bare_lines right)) (same_Some (2 + length left.sources + length left.instances + 1 + x) place e)
    (points_differ left right x p w (name_is left.top right.top b_is) (list_same bytes_eq left.sources right.sources name_is o_is) (list_same same_instance left.instances right.instances instance_same r_is) (eqb-true (length left.points) (length right.points) c_is) q_is)
part_differs left right place true true None None None p w b_is c_is o_is r_is q_is e = absurd cc

pub some_differs : (left right : Db) (place : ℕ) → IsTable left → IsTable right → difference_of left right ≡ Some place → IsFirstOther (bare_lines left) (bare_lines right) place
some_differs left right place p q e = part_differs left right place _ _ _ _ _ p q refl refl refl refl refl e

line_is : (lines before : List (List ℕ)) (line : List ℕ) (others : List (List ℕ)) (place : ℕ) → lines ≡ before ++ line ∷ others → place ≡ length before → line_at lines place ≡ line
line_is lines [] line others place e n = rw (e, n) refl
line_is [] (first ∷ before) line others place e n = absurd cc
line_is (l ∷ lines) (first ∷ before) line others zero e n = absurd (omega arith)
line_is (l ∷ lines) (first ∷ before) line others (suc place) e n =
    let rest : lines ≡ before ++ line ∷ others = cc in
    line_is lines before line others place rest (omega arith)

pub differs_at : (left right : Db) (place : ℕ) (a b : List ℕ) → IsFirstOther (bare_lines left) (bare_lines right) place → a ≡ line_at (bare_lines left) place → b ≡ line_at (bare_lines right) place → DiffersAt left right (place + 1) a b
differs_at left right place a b d p q =
    let one : a ≡ d.left_line = p ∙ line_is (bare_lines left) d.before d.left_line d.left_others place d.left_is d.place_is in
    let two : b ≡ d.right_line = q ∙ line_is (bare_lines right) d.before d.right_line d.right_others place d.right_is d.place_is in
    rw (one, two) (record { before = d.before; left_others = d.left_others; right_others = d.right_others; left_is = d.left_is; right_is = d.right_is; differ = d.differ; number_is = omega (arith, d.place_is) })

-- tables of the same bare lines are alike
alike_by : (left right : Db) (o : Option ℕ) → IsTable left → IsTable right → difference_of left right ≡ o → bare_lines left ≡ bare_lines right → Alike left right
alike_by left right None p q e same = none_alike left right e
alike_by left right (Some place) p q e same =
    let d = some_differs left right place p q e in
    let one = line_is (bare_lines left) d.before d.left_line d.left_others place d.left_is d.place_is in
    let two = line_is (bare_lines right) d.before d.right_line d.right_others place d.right_is d.place_is in
    absurd (d.differ (sym one ∙ ap (λ (ls : List (List ℕ)). line_at ls place) same ∙ two))

pub same_alike : (left right : Db) → IsTable left → IsTable right → bare_lines left ≡ bare_lines right → Alike left right
same_alike left right p q same = alike_by left right (difference_of left right) p q refl same

-- ---- the merge is a table

joined_valid : (instances : List DbInstance) (u v : DbVerdict) → IsVerdict instances u → IsVerdict instances v → IsVerdict instances (joined u v)
joined_valid instances Hit v p q = tt
joined_valid instances Missed v p q = q
joined_valid instances (Undetermined t a) Hit p q = tt
joined_valid instances (Undetermined t a) Missed p q = p
joined_valid instances (Undetermined t a) (Undetermined s b) p q =
    elim (cases_Bool (is_gt (doubt_cmp t a s b))) [
      | inl greater ↦ rw greater q
      | inr not_greater ↦ rw not_greater p
    ]

merged_valid : (sources : ℕ) (instances : List DbInstance) (ps qs : List DbPoint) → All (IsPoint sources instances) ps → All (IsPoint sources instances) qs → All (IsPoint sources instances) (merged_points ps qs)
merged_valid sources instances [] qs p q = All-nil (IsPoint sources instances)
merged_valid sources instances (a ∷ ps) [] p q = All-nil (IsPoint sources instances)
merged_valid sources instances (a ∷ ps) (b ∷ qs) p q =
    let x = All-head (IsPoint sources instances) a ps p in
    let y = All-head (IsPoint sources instances) b qs q in
    let first : IsPoint sources instances (record a { verdict = joined a.verdict b.verdict }) = record { instance = x.instance; subject = x.subject; verdict = joined_valid instances a.verdict b.verdict x.verdict y.verdict } in
    All-cons (IsPoint sources instances) (record a { verdict = joined a.verdict b.verdict }) (merged_points ps qs) first (merged_valid sources instances ps qs (All-tail (IsPoint sources instances) a ps p) (All-tail (IsPoint sources instances) b qs q))

merged_rise : (ps qs : List DbPoint) → Rises by_address ps → Rises by_address (merged_points ps qs)
merged_rise [] qs r = tt
merged_rise (a ∷ ps) [] r = tt
merged_rise (a ∷ []) (b ∷ qs) r = tt
merged_rise (a ∷ c ∷ ps) (b ∷ []) r = tt
merged_rise (a ∷ c ∷ ps) (b ∷ d ∷ qs) r = (r.0, merged_rise (c ∷ ps) (d ∷ qs) r.1)

merged_short : (ps qs : List DbPoint) → length (merged_points ps qs) ≤ length ps
merged_short [] qs = omega arith
merged_short (a ∷ ps) [] = omega arith
merged_short (a ∷ ps) (b ∷ qs) = omega (arith, merged_short ps qs)

pub merged_table : (left right : Db) → IsTable left → IsTable right → Alike left right → length (joined_windows left.windows right.windows) < 2 ^ 64 → IsTable (merged left right)
merged_table left right p q a few =
    let points : All (IsPoint (length left.sources) left.instances) right.points = subst (λ (n : ℕ). All (IsPoint n left.instances) right.points) (ap (λ (ss : List (List ℕ)). length ss) (sym a.sources)) (subst (λ (is : List DbInstance). All (IsPoint (length right.sources) is) right.points) (sym a.instances) q.points) in
    record {
      top = p.top;
      sources = p.sources;
      instances = p.instances;
      points = merged_valid (length left.sources) left.instances left.points right.points p.points points;
      some_source = p.some_source;
      some_instance = p.some_instance;
      instances_rise = p.instances_rise;
      points_rise = merged_rise left.points right.points p.points_rise;
      lines = omega (arith, p.lines, merged_short left.points right.points);
      windows = record { spans = windows_valid left.windows right.windows p.windows.spans q.windows.spans; rise = joined_rises left.windows right.windows; few = few };
    }
