-- The codes of a header: each has its place as its number, and the size of its variables.
use Rattle.std.proofs.Common.{◌≡◌, ◌⊎◌, ℕ, suc, ◌<◌, ◌≤◌, ◌==◌, Bool, true, false, cond, List, [], ◌∷◌, ◌++◌, ◌+◌, ◌-◌, length, map, Option, Some, None, refl, sym, ap, ◌∙◌, inl, inr, arith}
use Rattle.std.specs.Prelude.{bytes_eq, not, slice_index_or}
use Rattle.std.specs.List.{All}
use Rattle.std.specs.Option.{option_map_or}
use Rattle.std.proofs.lemmas.Bool.{cases_Bool, cases_lt, eqb-true, false≢true}
use Rattle.std.proofs.lemmas.List.{get_or_append_left, get_or-append_right, length-append, length-map, map-append}
use Rattle.std.proofs.lemmas.List.Elements.{All-append, All-cons, All-nil, All-weaker}
use Rattle.vcd_reader.specs.Codes.{Code, code_of, declared_code, entered, with_code}
use Rattle.vcd_reader.specs.Header.{has_other_size, number_of, size_in}
use Rattle.vcd_reader.specs.declared.vars.Var.{Var}

-- the numbers of codes
abbrev pub numbers_of : List Code → List ℕ
numbers_of table = map (λ c. c.number) table

-- the sizes of codes
abbrev pub sizes_of : List Code → List ℕ
sizes_of table = map (λ c. c.size) table

-- the code of the variable is of its size
abbrev pub IsSizedIn : List Code → Var → Type 0
IsSizedIn table x = (x.code < length table) × (slice_index_or (sizes_of table) x.code 0 ≡ x.size)

-- each code has its place as its number, and the size of each of its variables
pub record AreSized (vars : List Var) (table : List Code) : Type 0 where
  pub numbers : (k : ℕ) → k < length table → slice_index_or (numbers_of table) k 0 ≡ k
  pub sizes : All (IsSizedIn table) vars

-- the place of a code that is found
pub record IsFoundAt (table : List Code) (c : Code) : Type 0 where
  pub place : ℕ
  pub within : place < length table
  pub number : slice_index_or (numbers_of table) place 0 ≡ c.number
  pub size : slice_index_or (sizes_of table) place 0 ≡ c.size

pub found_at : (table : List Code) (text : List ℕ) (c : Code) → code_of table text ≡ Some c → IsFoundAt table c
found_at [] text c e = absurd cc
found_at (first ∷ table) text c e = go (cases_Bool (bytes_eq text first.text)) (λ f. found_at table text c f)
  where
    go : (bytes_eq text first.text ≡ true) ⊎ (bytes_eq text first.text ≡ false) → (code_of table text ≡ Some c → IsFoundAt table c) → IsFoundAt (first ∷ table) c
    go (inl same) later =
        let one : Some first ≡ Some c = sym (ap (λ b. cond b (Some first) (code_of table text)) same) ∙ e in
        let is : first ≡ c = cc in
        record { place = 0; within = omega arith; number = ap (λ (x : Code). x.number) is; size = ap (λ (x : Code). x.size) is }
    go (inr other) later =
        let rest = later (sym (ap (λ b. cond b (Some first) (code_of table text)) other) ∙ e) in
        record { place = suc rest.place; within = omega (arith, rest.within); number = rest.number; size = rest.size }

-- a code that is not there goes to the end
pub entered_new : (table : List Code) (new : Code) → code_of table new.text ≡ None → entered table new ≡ table ++ new ∷ []
entered_new [] new e = refl
entered_new (first ∷ table) new e = go (cases_Bool (bytes_eq new.text first.text)) (λ f. entered_new table new f)
  where
    replaced : List Code
    replaced = record { text = first.text; number = new.number; size = new.size; is_read = new.is_read } ∷ table

    go : (bytes_eq new.text first.text ≡ true) ⊎ (bytes_eq new.text first.text ≡ false) → (code_of table new.text ≡ None → entered table new ≡ table ++ new ∷ []) → entered (first ∷ table) new ≡ first ∷ table ++ new ∷ []
    go (inl same) later = let no : Some first ≡ None = sym (ap (λ b. cond b (Some first) (code_of table new.text)) same) ∙ e in absurd cc
    go (inr other) later =
        ap (λ b. cond b replaced (first ∷ entered table new)) other
        ∙ ap (λ cs. first ∷ cs) (later (sym (ap (λ b. cond b (Some first) (code_of table new.text)) other) ∙ e))

-- one that is there stays at its place
pub entered_known : (table : List Code) (new c : Code) → code_of table new.text ≡ Some c → new.number ≡ c.number → new.size ≡ c.size
    → (numbers_of (entered table new) ≡ numbers_of table) × (sizes_of (entered table new) ≡ sizes_of table)
entered_known [] new c e number size = absurd cc
entered_known (first ∷ table) new c e number size = go (cases_Bool (bytes_eq new.text first.text)) (λ f. entered_known table new c f number size)
  where
    replaced : Code
    replaced = record { text = first.text; number = new.number; size = new.size; is_read = new.is_read }

    go : (bytes_eq new.text first.text ≡ true) ⊎ (bytes_eq new.text first.text ≡ false)
        → (code_of table new.text ≡ Some c → (numbers_of (entered table new) ≡ numbers_of table) × (sizes_of (entered table new) ≡ sizes_of table))
        → (numbers_of (entered (first ∷ table) new) ≡ numbers_of (first ∷ table)) × (sizes_of (entered (first ∷ table) new) ≡ sizes_of (first ∷ table))
    go (inl same) later =
        let one : Some first ≡ Some c = sym (ap (λ b. cond b (Some first) (code_of table new.text)) same) ∙ e in
        let is : c ≡ first = cc in
        let table_is = ap (λ b. cond b (replaced ∷ table) (first ∷ entered table new)) same in (
          ap numbers_of table_is ∙ ap (λ n. n ∷ numbers_of table) (number ∙ ap (λ (x : Code). x.number) is),
          ap sizes_of table_is ∙ ap (λ n. n ∷ sizes_of table) (size ∙ ap (λ (x : Code). x.size) is),
        )
    go (inr other) later =
        let rest = later (sym (ap (λ b. cond b (Some first) (code_of table new.text)) other) ∙ e) in
        let table_is = ap (λ b. cond b (replaced ∷ table) (first ∷ entered table new)) other in (
          ap numbers_of table_is ∙ ap (λ ns. first.number ∷ ns) rest.0,
          ap sizes_of table_is ∙ ap (λ ns. first.size ∷ ns) rest.1,
        )

-- a number at the end of a list
pub at_end : (ns : List ℕ) (n k : ℕ) → k ≡ length ns → slice_index_or (ns ++ n ∷ []) k 0 ≡ n
at_end ns n k e = get_or-append_right ns (n ∷ []) (length ns) k 0 refl (omega (arith, e)) ∙ ap (λ j. slice_index_or (n ∷ []) j 0) (let z : k - length ns ≡ 0 = omega (arith, e) in z)

module _ (vars : List Var) (table : List Code) (text : List ℕ) (size : ℕ) (is_read : Bool) (sized : AreSized vars table) where
  -- the variable that is declared
  abbrev IsNext : Var → Type 0
  IsNext x = (x.code ≡ number_of table text) × (x.size ≡ size)

  abbrev after : List Code
  after = with_code table text size is_read

  is_new : code_of table text ≡ None → (x : Var) → IsNext x → AreSized (vars ++ x ∷ []) after
  is_new none x next =
      let new = declared_code (length table) text size is_read None in
      let parts : after ≡ table ++ new ∷ [] = ap (λ o. entered table (declared_code (length table) text size is_read o)) none ∙ entered_new table new none in
      let long : length after ≡ length table + 1 = ap length parts ∙ length-append table (new ∷ []) in
      let ns : numbers_of after ≡ numbers_of table ++ length table ∷ [] = ap numbers_of parts ∙ map-append (λ (c : Code). c.number) table (new ∷ []) in
      let ss : sizes_of after ≡ sizes_of table ++ size ∷ [] = ap sizes_of parts ∙ map-append (λ (c : Code). c.size) table (new ∷ []) in
      let code_is : x.code ≡ length table = next.0 ∙ ap (λ o. option_map_or (λ (known : Code). known.number) o (length table)) none in
      record {
        numbers = λ k l. go_number ns k (cases_lt k (length table)) (omega (arith, l, long));
        sizes =
            All-append (IsSizedIn after) vars (x ∷ [])
            (All-weaker (IsSizedIn table) (IsSizedIn after)
            (λ y is. (omega (arith, is.0, long), ap (λ l. slice_index_or l y.code 0) ss ∙ get_or_append_left (sizes_of table) (size ∷ []) 0 y.code (omega (arith, is.0, length-map table (λ (c : Code). c.size))) ∙ is.1)) vars sized.sizes)
            (All-cons (IsSizedIn after) x [] (omega (arith, long, code_is), ap (λ l. slice_index_or l x.code 0) ss ∙ at_end (sizes_of table) size x.code (code_is ∙ sym (length-map table (λ (c : Code). c.size))) ∙ sym next.1)
            (All-nil (IsSizedIn after)));
      }
    where
      go_number : numbers_of after ≡ numbers_of table ++ length table ∷ [] → (k : ℕ) → (k < length table) ⊎ (length table ≤ k) → k ≤ length table → slice_index_or (numbers_of after) k 0 ≡ k
      go_number ns k (inl before) l =
          ap (λ list. slice_index_or list k 0) ns ∙ get_or_append_left (numbers_of table) (length table ∷ []) 0 k (omega (arith, before, length-map table (λ (c : Code). c.number))) ∙ sized.numbers k before
      go_number ns k (inr past) l =
          let is : k ≡ length table = omega (arith, past, l) in
          ap (λ list. slice_index_or list k 0) ns ∙ at_end (numbers_of table) (length table) k (is ∙ sym (length-map table (λ (c : Code). c.number))) ∙ sym is

  is_known : (c : Code) → code_of table text ≡ Some c → c.size ≡ size → (x : Var) → IsNext x → AreSized (vars ++ x ∷ []) after
  is_known c known same x next =
      let new = declared_code (length table) text size is_read (Some c) in
      let parts : after ≡ entered table new = ap (λ o. entered table (declared_code (length table) text size is_read o)) known in
      let stays = entered_known table new c known refl refl in
      let ns : numbers_of after ≡ numbers_of table = ap numbers_of parts ∙ stays.0 in
      let ss : sizes_of after ≡ sizes_of table = ap sizes_of parts ∙ stays.1 in
      let long : length after ≡ length table = sym (length-map after (λ (d : Code). d.size)) ∙ ap length ss ∙ length-map table (λ (d : Code). d.size) in
      let at = found_at table text c known in
      let code_is : x.code ≡ at.place = next.0 ∙ ap (λ o. option_map_or (λ (d : Code). d.number) o (length table)) known ∙ sym at.number ∙ sized.numbers at.place at.within in
      record {
        numbers = λ k l. ap (λ list. slice_index_or list k 0) ns ∙ sized.numbers k (omega (arith, l, long));
        sizes =
            All-append (IsSizedIn after) vars (x ∷ [])
            (All-weaker (IsSizedIn table) (IsSizedIn after) (λ y is. (omega (arith, is.0, long), ap (λ l. slice_index_or l y.code 0) ss ∙ is.1)) vars sized.sizes)
            (All-cons (IsSizedIn after) x [] (omega (arith, at.within, long, code_is), ap (λ l. slice_index_or l x.code 0) ss ∙ ap (λ k. slice_index_or (sizes_of table) k 0) code_is ∙ at.size ∙ same ∙ sym next.1)
            (All-nil (IsSizedIn after)));
      }

  -- a code that was not declared with another size keeps all this with one variable more
  pub declared_more : has_other_size (Some size) (size_in table text) ≡ false → (x : Var) → IsNext x → AreSized (vars ++ x ∷ []) after
  declared_more fits x next = go (code_of table text) refl
    where
      go : (o : Option Code) → code_of table text ≡ o → AreSized (vars ++ x ∷ []) after
      go None e = is_new e x next
      go (Some c) e =
          let test : not (size == c.size) ≡ false = sym (ap (λ o. has_other_size (Some size) (option_size o)) e) ∙ fits in
          is_known c e (sym (eqb-true size c.size (not_not (size == c.size) test))) x next
        where
          option_size : Option Code → Option ℕ
          option_size None = None
          option_size (Some d) = Some d.size

          not_not : (b : Bool) → not b ≡ false → b ≡ true
          not_not true h = refl
          not_not false h = absurd (false≢true (sym h))
