-- The paths of a design that is answered are short.
use Rattle.std.proofs.Common.{◌≡◌, ◌⊎◌, inl, inr, ℕ, zero, suc, ◌+◌, ◌-◌, ◌<◌, ◌≤◌, ◌==◌, ◌||◌, Bool, true, false, cond, nat_lt, if◌then◌else◌, List, [], ◌∷◌, ◌++◌, Some, Ok, refl, sym, ap, subst, length, map, arith, length-append, slice_index_or}
use Rattle.std.specs.List.{list_all, list_any, filter, flat_map, find, count_by}
use Rattle.std.specs.Prelude.{bytes_eq}
use Rattle.std.proofs.lemmas.Bool.{false≢true, lt-ltb, ltb-true, ltb-false, le-leb}
use Rattle.std.proofs.lemmas.List.{get_or_append_left}
use Rattle.std.proofs.lemmas.List.Sums.{sum_by-cons, sum_by-append}
use Rattle.std.proofs.Math.Seq.{get_or-append_seam}
use Rattle.design_model.specs.Design.{Design, In, is_number, no_instance, no_signal, no_memory, signal_at, memory_at, path_in, path_of}
use Rattle.design_model.specs.Lawful.{is_instance, span}
use Rattle.design_model.specs.declared.design.Instance.{Instance}
use Rattle.design_model.specs.declared.design.Memory.{Memory}
use Rattle.design_model.specs.declared.design.Signal.{Signal}
use Rattle.cov_host.specs.declared.place.Place.{Place}
use Rattle.flat_design.specs.declared.fault.DesignLimit.TheVariants.{Path}
use Rattle.verilog_tree.specs.Tree.{Module, Item, InstanceItem, One}
use Rattle.flat_design.specs.Bodies.{met_faults, met_signal, met_words}
use Rattle.flat_design.specs.Declarations.{Declaration}
use Rattle.flat_design.specs.Fault.{Fault, limit_fault}
use Rattle.flat_design.specs.Faults.{answer}
use Rattle.flat_design.specs.Flat.{elaborated, module_of}
use Rattle.flat_design.specs.Instances.{Instantiation, Sofar, opened, opening_met, declared, declared_met, named_met, declaration_faults, path_faults, dotted, is_own, is_memory, signal_of, memory_of, words_of}
use Rattle.flat_laws.specs.Tokens.{has_dot, AreOfTokens}
use Rattle.flat_laws.proofs.Freedom.{IsFree, IsSound, answered_sound, both_empty, free_parts, free_faults, not_told}
use Rattle.flat_laws.proofs.LawfulLimits.{base_of, answered_keeps, answered_design}
use Rattle.flat_laws.proofs.LawfulScope.{same_bytes, found_passes}
use Rattle.flat_laws.proofs.Members.{in_append, in_map, in_filter, all_of_members}
use Rattle.flat_laws.proofs.Steps.{Steps, IsBelow}

-- the dots in a path
abbrev pub dots : List ℕ → ℕ
dots path = count_by (λ b. b == 46) path

no_dots : (x : List ℕ) → has_dot x ≡ false → dots x ≡ 0
no_dots [] h = refl
no_dots (b ∷ bs) h = by_test (b == 46) (list_any (λ c. c == 46) bs) refl h (no_dots bs)
  where
    by_test : (t u : Bool) → (b == 46) ≡ t → (t || u) ≡ false → (u ≡ false → dots bs ≡ 0) → dots (b ∷ bs) ≡ 0
    by_test true u is e rest = absurd (false≢true (sym e))
    by_test false u is e rest = omega (arith, sum_by-cons (λ c. cond (c == 46) 1 0) b bs, ap {B = ℕ} (λ t. cond t 1 0) is, rest e)

dotted_dots : (x y : List ℕ) → dots (dotted x y) ≡ dots x + 1 + dots y
dotted_dots x y = omega (arith, sum_by-append (λ c. cond (c == 46) 1 0) x (46 ∷ y), sum_by-cons (λ c. cond (c == 46) 1 0) 46 y)

-- the path of what is in this instance is short
pub record PathFits (is : List Instance) (n : ℕ) (x : List ℕ) : Type 0 where
  pub instance : n < length is
  pub short : length ((slice_index_or is n no_instance).path ++ 46 ∷ x) ≤ 256

pub record AreShort (st : Sofar) : Type 0 where
  pub instances : (x : Instance) → In x st.design.instances → is_instance x ≡ true
  pub signals : (s : Signal) → In s st.design.signals → PathFits st.design.instances s.instance s.name
  pub memories : (m : Memory) → In m st.design.memories → PathFits st.design.instances m.instance m.name

-- of an instance that is to be opened: the deeper, the more dots
abbrev pub Deep : List Module → ℕ → Instantiation → Sofar → Type 0
Deep ms depth i st = (dots i.path + depth ≤ 64) × In i.of_module ms

fits_more : (is : List Instance) (y : Instance) (n : ℕ) (x : List ℕ) → PathFits is n x → PathFits (is ++ y ∷ []) n x
fits_more is y n x h = record {
  instance = omega (arith, h.instance, length-append is (y ∷ []));
  short = subst (λ z. length (z.path ++ 46 ∷ x) ≤ 256) (sym (get_or_append_left is (y ∷ []) no_instance n h.instance)) h.short;
}

fits_here : (is : List Instance) (y : Instance) (x : List ℕ) → length (dotted y.path x) ≤ 256 → PathFits (is ++ y ∷ []) (length is) x
fits_here is y x h = record {
  instance = omega (arith, length-append is (y ∷ []));
  short = subst (λ z. length (z.path ++ 46 ∷ x) ≤ 256) (sym (get_or-append_seam is y [] no_instance)) h;
}

short_if : (p : Place) (path : List ℕ) → path_faults p path ≡ [] → length path ≤ 256
short_if p path h = ltb-false 256 (length path) (not_told (nat_lt 256 (length path)) (limit_fault Path p) h)

-- nothing is met that is a fault, so the paths of an instance's names are short
free_member : (i : Instantiation) (d : Declaration) (ds : List Declaration) → IsFree (flat_map (declared_met i) ds) → In d ds → IsFree (declared_met i d)
free_member i d [] h k = absurd k
free_member i d (c ∷ ds) h (inl e) = subst (λ z. IsFree (declared_met i z)) e (free_parts (declared_met i c) (flat_map (declared_met i) ds) h).0
free_member i d (c ∷ ds) h (inr k) = free_member i d ds (free_parts (declared_met i c) (flat_map (declared_met i) ds) h).1 k

pub opening_parts : (i : Instantiation) → IsFree (opening_met i) → (length i.path ≤ 256) × IsFree (flat_map (declared_met i) (declared i.overrides i.of_module)) × (declaration_faults i.overrides i.of_module ≡ [])
opening_parts i free =
    let fs : List Fault = path_faults i.item i.path ++ declaration_faults i.overrides i.of_module in
    let rest : IsFree (met_faults fs ++ flat_map (declared_met i) (declared i.overrides i.of_module)) = record { no_fault = free.no_fault } in
    let p = free_parts (met_faults fs) (flat_map (declared_met i) (declared i.overrides i.of_module)) rest in
    let q = both_empty (path_faults i.item i.path) (declaration_faults i.overrides i.of_module) (free_faults fs p.0) in
    (short_if i.item i.path q.0, p.1, q.1)

named_short : (i : Instantiation) (d : Declaration) (b c : Bool) → IsFree (if b then named_met i d (met_signal d.item) else (if c then named_met i d (met_words d.item (span (words_of d).high (words_of d).low)) else [])) → (b || c) ≡ true → length (dotted i.path d.name.name) ≤ 256
named_short i d true c free e = let rest : IsFree (met_faults (path_faults d.item (dotted i.path d.name.name))) = record { no_fault = free.no_fault } in short_if d.item (dotted i.path d.name.name) (free_faults _ rest)
named_short i d false true free e = let rest : IsFree (met_faults (path_faults d.item (dotted i.path d.name.name))) = record { no_fault = free.no_fault } in short_if d.item (dotted i.path d.name.name) (free_faults _ rest)
named_short i d false false free e = absurd (false≢true e)

short_opened : (ms : List Module) (depth : ℕ) (i : Instantiation) (st : Sofar) → IsFree (opening_met i) → dots i.path + suc depth ≤ 64 → AreShort st → AreShort (opened i st)
short_opened ms depth i st free deep h = record {
  instances = λ x k. by_instance x (in_append x st.design.instances (here ∷ []) k);
  signals = λ s k. by_signal s (in_append s st.design.signals _ k);
  memories = λ m k. by_memory m (in_append m st.design.memories _ k);
}
  where
    here : Instance
    here = record { path = i.path; «module» = i.of_module.name.name }

    ds : List Declaration
    ds = declared i.overrides i.of_module

    number : ℕ
    number = length st.design.instances

    parts : (length i.path ≤ 256) × IsFree (flat_map (declared_met i) ds) × (declaration_faults i.overrides i.of_module ≡ [])
    parts = opening_parts i free

    sound : is_instance here ≡ true
    sound = let short : length i.path ≤ 256 = parts.0 in rw (lt-ltb (dots i.path) 64 (omega arith), le-leb (length i.path) 256 short)

    by_instance : (x : Instance) → In x st.design.instances ⊎ In x (here ∷ []) → is_instance x ≡ true
    by_instance x (inl k) = h.instances x k
    by_instance x (inr (inl e)) = subst (λ z. is_instance z ≡ true) e sound
    by_instance x (inr (inr k)) = absurd k

    either : (a b : Bool) → (a ≡ true) ⊎ (b ≡ true) → (a || b) ≡ true
    either true b e = refl
    either false b (inl e) = absurd (false≢true e)
    either false b (inr e) = e

    fits : (d : Declaration) → In d ds → (is_own i.aliases i.of_module d ≡ true) ⊎ (is_memory d ≡ true) → PathFits (st.design.instances ++ here ∷ []) number d.name.name
    fits d k e = fits_here st.design.instances here d.name.name (named_short i d (is_own i.aliases i.of_module d) (is_memory d) (free_member i d ds parts.1 k) (either _ _ e))

    by_signal : (s : Signal) → In s st.design.signals ⊎ In s (map (signal_of number i.is_top) (filter (is_own i.aliases i.of_module) ds)) → PathFits (st.design.instances ++ here ∷ []) s.instance s.name
    by_signal s (inl k) = fits_more st.design.instances here s.instance s.name (h.signals s k)
    by_signal s (inr k) =
        let l = in_map (signal_of number i.is_top) s (filter (is_own i.aliases i.of_module) ds) k in
        let f = in_filter (is_own i.aliases i.of_module) l.0 ds l.1 in
        subst (λ z. PathFits (st.design.instances ++ here ∷ []) z.instance z.name) l.2 (fits l.0 f.0 (inl f.1))

    by_memory : (m : Memory) → In m st.design.memories ⊎ In m (map (memory_of number) (filter is_memory ds)) → PathFits (st.design.instances ++ here ∷ []) m.instance m.name
    by_memory m (inl k) = fits_more st.design.instances here m.instance m.name (h.memories m k)
    by_memory m (inr k) =
        let l = in_map (memory_of number) m (filter is_memory ds) k in
        let f = in_filter is_memory l.0 ds l.1 in
        subst (λ z. PathFits (st.design.instances ++ here ∷ []) z.instance z.name) l.2 (fits l.0 f.0 (inr f.1))

pub found_in : {A : Type 0} (p : A → Bool) (xs : List A) (x : A) → find p xs ≡ Some x → In x xs
found_in p [] x h = absurd cc
found_in p (y ∷ ys) x h = by_test (found_in p ys x) (p y) h
  where
    by_test : (find p ys ≡ Some x → In x ys) → (b : Bool) → cond b (Some y) (find p ys) ≡ Some x → In x (y ∷ ys)
    by_test rest true e = let same : y ≡ x = cc in inl same
    by_test rest false e = inr (rest e)

-- each instance has one dot more than the one around it
pub deep_below : (base : ℕ) (ms : List Module) → AreOfTokens ms → (depth : ℕ) (i : Instantiation) (before : Sofar) → Deep ms (suc depth) i before → (x : Item) (k : InstanceItem) (m : Module) (o : One) → IsBelow base ms i before x k m o →
    (dots (dotted i.path o.name.name) + depth ≤ 64) × In m ms
deep_below base ms tokens depth i before known x k m o under =
    let plain : dots o.name.name ≡ 0 = no_dots o.name.name (tokens.instances i.of_module known.1 x under.item_in k under.form o under.one_in) in
    let deep : dots i.path + suc depth ≤ 64 = known.0 in
    (omega (arith, dotted_dots i.path o.name.name), found_in (λ z. bytes_eq z.name.name k.of_module.name) ms m under.module_is)

short_steps : (base : ℕ) (ms : List Module) → AreOfTokens ms → Steps base ms AreShort (Deep ms)
short_steps base ms tokens = record {
  meets = λ st h. record { instances = h.instances; signals = h.signals; memories = h.memories };
  opens = λ depth i st free known h. short_opened ms depth i st free known.0 h;
  assigns = λ depth i before st here x x_in y v n assigned free h. record { instances = h.instances; signals = h.signals; memories = h.memories };
  runs = λ depth i before st here x x_in w s l n form free h. record { instances = h.instances; signals = h.signals; memories = h.memories };
  inputs = λ depth i before at st x k m o inside j s joined way free h. record { instances = h.instances; signals = h.signals; memories = h.memories };
  outputs = λ depth i before at st x k m o inside j s joined way free h. record { instances = h.instances; signals = h.signals; memories = h.memories };
  below = λ depth i before st here h x k m o under. deep_below base ms tokens depth i before here.known x k m o under;
}

pub deep_top : (ms : List Module) (top : List ℕ) (m : Module) → AreOfTokens ms → module_of ms top ≡ Some m → (dots top + 64 ≤ 64) × In m ms
deep_top ms top m tokens found =
    let m_in : In m ms = found_in (λ z. bytes_eq z.name.name top) ms m found in
    let same : m.name.name ≡ top = same_bytes m.name.name top (found_passes (λ z. bytes_eq z.name.name top) ms m found) in
    let plain : dots top ≡ 0 = no_dots top (subst (λ z. has_dot z ≡ false) same (tokens.modules m m_in)) in
    (omega arith, m_in)

answered_short : (ms : List Module) (top : List ℕ) → AreOfTokens ms → IsSound ms top → AreShort (elaborated ms top)
answered_short ms top tokens sound =
    answered_keeps ms top AreShort (Deep ms) (short_steps (base_of ms top) ms tokens) (λ m found. deep_top ms top m tokens found)
    (record { instances = λ x h. absurd h; signals = λ s h. absurd h; memories = λ m h. absurd h }) sound

-- the paths of instances, signals and memories are short
pub record HaveShortPaths (d : Design) : Type 0 where
  pub short_instances : list_all is_instance d.instances ≡ true
  pub short_paths : (x : ℕ) → is_number d x ≡ true → length (path_of d x) ≤ 256

-- an element of a list by its place
pub nth_in : {A : Type 0} (xs : List A) (n : ℕ) (d : A) → n < length xs → In (slice_index_or xs n d) xs
nth_in [] n d h = absurd (omega arith)
nth_in (x ∷ xs) zero d h = inl refl
nth_in (x ∷ xs) (suc n) d h = inr (nth_in xs n d (omega arith))

elaborated_short : (st : Sofar) → AreShort st → HaveShortPaths st.design
elaborated_short st h = record {
  short_instances = all_of_members is_instance st.design.instances h.instances;
  short_paths = λ x k. by_kind x k (nat_lt x (length st.design.signals)) refl;
}
  where
    d : Design
    d = st.design

    by_kind : (x : ℕ) → is_number d x ≡ true → (b : Bool) → nat_lt x (length d.signals) ≡ b → length (if b then path_in d (signal_at d x).instance (signal_at d x).name else path_in d (memory_at d x).instance (memory_at d x).name) ≤ 256
    by_kind x k true is = (h.signals (signal_at d x) (nth_in d.signals x no_signal (ltb-true x (length d.signals) is))).short
    by_kind x k false is =
        let above : length d.signals ≤ x = ltb-false x (length d.signals) is in
        let below : x < length d.signals + length d.memories = ltb-true x (length d.signals + length d.memories) k in
        let at : memory_at d x ≡ slice_index_or d.memories (x - length d.signals) no_memory = rw (le-leb (length d.signals) x above) refl in
        subst (λ m. length (path_in d m.instance m.name) ≤ 256) (sym at) (h.memories (slice_index_or d.memories (x - length d.signals) no_memory) (nth_in d.memories (x - length d.signals) no_memory (omega arith))).short

pub answered_paths : (ms : List Module) (top : List ℕ) (d : Design) → AreOfTokens ms → answer ms top ≡ Ok d → HaveShortPaths d
answered_paths ms top d tokens e = subst HaveShortPaths (answered_design ms top d e) (elaborated_short (elaborated ms top) (answered_short ms top tokens (answered_sound ms top d e)))
