-- The line points that are found are those of the design.
use Rattle.std.proofs.Common.{◌≡◌, ◌↔◌, ◌<◌, ◌≤◌, ℕ, inl, inr, List, [], length, map, refl, sym, ap, subst, ◌∙◌, arith}
use Rattle.std.specs.declared.cmp.Ordering.TheVariants.{Equal}
use Rattle.std.specs.Ordering.{nat_cmp}
use Rattle.std.proofs.lemmas.Bool.{cases_lt}
use Rattle.std.proofs.lemmas.List.{get_or_past}
use Rattle.cov_host.specs.declared.place.Place.{Place}
use Rattle.design_model.specs.Design.{Design, In, no_instance, no_process, process_at}
use Rattle.design_model.specs.Lawful.{IsLawfulDesign, instance_of}
use Rattle.design_model.specs.Points.{IsPoint}
use Rattle.design_model.specs.declared.point.Point.TheVariants.{Line as line_point}
use Rattle.design_model.specs.point_words.declared.line_word.LineWord.{LineWord}
use Rattle.design_model.specs.Numbered.{LineAt, line_at, lines_of}
use Rattle.text_points.specs.Lines.{line_with}
use Rattle.text_points.specs.declared.points.LinePoint.{LinePoint}
use Rattle.cover_points.specs.Order.{bytes_cmp, line_cmp, path_at}
use Rattle.cover_points.specs.Texts.{each_from, line_view, owner, process_lines}
use Rattle.cover_points.proofs.Pieces.{from_all, from_one, instance_there}
use Rattle.std.specs.List.{dedup}
use Rattle.std.specs.List.Sorted.{IsPermutation}
use Rattle.std.specs.Ordering.{eq_by_cmp}
use Rattle.cover_points.proofs.Orders.{line_total}
use Rattle.cover_points.proofs.Members.{once_from, once_keeps, both_equal, in_map, in_map_back, same_bytes, same_number, same_place}

-- the point is one of a statement of a process of the design
pub record IsLineOf (d : Design) (x : LinePoint) : Type 0 where
  pub instance_is : x.instance ≡ instance_of (process_at d x.process)
  pub stands : In (line_at x.line x.place x.word) (lines_of (process_at d x.process))

made_line : (d : Design) (j : ℕ) (a : LineAt) → In a (lines_of (process_at d j)) → IsLineOf d (line_with (owner j (process_at d j)) a)
made_line d j a h = record { instance_is = refl; stands = h }

pub line_is_of : (d : Design) (x : LinePoint) → In x (each_from process_lines 0 d.processes) → IsLineOf d x
line_is_of d x h =
    let r = from_one process_lines x d h in
    let a = in_map (line_with (owner r.0 (process_at d r.0))) x (lines_of (process_at d r.0)) r.2 in
    subst (IsLineOf d) a.2 (made_line d r.0 a.0 a.1)

-- a process that is not there has no line points
past_none : (d : Design) (p : ℕ) (a : LineAt) → length d.processes ≤ p → In a (lines_of (process_at d p)) → ⊥
past_none d p a l h = let k : In a (lines_of no_process) = rw (get_or_past d.processes p no_process l) at h in k

process_there : (d : Design) (p : ℕ) (a : LineAt) → In a (lines_of (process_at d p)) → p < length d.processes
process_there d p a h = elim (cases_lt p (length d.processes)) [ inl l ↦ l | inr m ↦ absurd (past_none d p a (omega arith) h) ]

pub line_is_from : (d : Design) (x : LinePoint) → IsLineOf d x → In x (each_from process_lines 0 d.processes)
line_is_from d x h =
    let j = x.process in
    let p = process_at d j in
    let a = line_at x.line x.place x.word in
    let make : ℕ → LinePoint = λ (i : ℕ). record { instance = i; line = x.line; process = x.process; place = x.place; word = x.word } in
    let is : line_with (owner j p) a ≡ x = ap make (sym h.instance_is) in
    from_all process_lines x d j (process_there d j a h.stands) (subst (λ y. In y (process_lines j p)) is (in_map_back (line_with (owner j p)) a (lines_of p) h.stands))

-- two line points that are equal in the order are the same
pub one_line : (d : Design) → IsLawfulDesign d → (x y : LinePoint) → IsLineOf d x → IsLineOf d y → line_cmp d.instances x y ≡ Equal → x ≡ y
one_line d lawful x y h k tied =
    let ends = both_equal (bytes_cmp (path_at d.instances x.instance) (path_at d.instances y.instance)) (nat_cmp x.line y.line) tied in
    let a = line_at x.line x.place x.word in
    let b = line_at y.line y.place y.word in
    let lx : x.instance < length d.instances = rw h.instance_is (instance_there d lawful x.process (process_there d x.process a h.stands)) in
    let ly : y.instance < length d.instances = rw k.instance_is (instance_there d lawful y.process (process_there d y.process b k.stands)) in
    let same : x.instance ≡ y.instance = same_place (λ i. i.path) d.instances x.instance y.instance no_instance lawful.instance_paths lx ly (same_bytes _ _ ends.0) in
    let lines = lawful.lines_once x.process y.process a b h.stands k.stands (sym h.instance_is ∙ same ∙ k.instance_is) (same_number x.line y.line ends.1) in
    let make : ℕ → ℕ → LineAt → LinePoint = λ (i : ℕ). λ (p : ℕ). λ (c : LineAt). record { instance = i; line = c.line; process = p; place = c.place; word = c.of_word } in
    ap (λ i. make i x.process a) same ∙ ap (λ p. make y.instance p a) lines.0 ∙ ap (λ c. make y.instance y.process c) lines.1

-- the points of a list of line points that has each of those found are those of the design
module _ (d : Design) (found kept : List LinePoint) (is : found ≡ each_from process_lines 0 d.processes) (from : (x : LinePoint) → In x kept → In x found) (keeps : (x : LinePoint) → In x found → In (line_view x) (map line_view kept)) where
  pub line_members : (p n : ℕ) (at : Place) (w : LineWord) → In (line_point p n at w) (map line_view kept) ↔ IsPoint d [] (line_point p n at w)
  line_members p n at w = (there, back)
    where
      there : In (line_point p n at w) (map line_view kept) → In (line_at n at w) (lines_of (process_at d p))
      there h =
          let y = in_map line_view (line_point p n at w) kept h in
          let k : IsLineOf d y.0 = line_is_of d y.0 (subst (In y.0) is (from y.0 y.1)) in
          let process_is : y.0.process ≡ p = cc in
          let line_is : line_at y.0.line y.0.place y.0.word ≡ line_at n at w = cc in
          rw (process_is, line_is) at k.stands

      back : In (line_at n at w) (lines_of (process_at d p)) → In (line_point p n at w) (map line_view kept)
      back h =
          let x : LinePoint = record { instance = instance_of (process_at d p); line = n; process = p; place = at; word = w } in
          keeps x (subst (In x) (sym is) (line_is_from d x (record { instance_is = refl; stands = h })))

-- each of those found, sorted and each once, is of the instance of its process
pub lines_owned : (d : Design) (found sorted kept : List LinePoint) → found ≡ each_from process_lines 0 d.processes → IsPermutation found sorted → kept ≡ dedup (eq_by_cmp (line_cmp d.instances)) sorted → (x : LinePoint) → In x kept → x.instance ≡ instance_of (process_at d x.process)
lines_owned d found sorted kept is moved kept_is x h =
    let k = line_is_of d x (subst (In x) is (once_from (line_total d.instances) found sorted moved x (subst (In x) kept_is h))) in
    k.instance_is

-- those found, sorted and each once, are the points of the design
pub lines_are : (d : Design) → IsLawfulDesign d → (found sorted kept : List LinePoint) → found ≡ each_from process_lines 0 d.processes → IsPermutation found sorted → kept ≡ dedup (eq_by_cmp (line_cmp d.instances)) sorted → (p n : ℕ) (at : Place) (w : LineWord) → In (line_point p n at w) (map line_view kept) ↔ IsPoint d [] (line_point p n at w)
lines_are d lawful found sorted kept is moved kept_is =
    let o = line_total d.instances in
    line_members d found kept is (λ x h. once_from o found sorted moved x (subst (In x) kept_is h)) (λ x h.
    subst (λ ks. In (line_view x) (map line_view ks)) (sym kept_is) (once_keeps o found sorted moved line_view (λ x y h k e. ap line_view (one_line d lawful x y (line_is_of d x (subst (In x) is h)) (line_is_of d y (subst (In y) is k)) e)) x h))
