-- The text is the dump.
use Rattle.std.proofs.Common.{◌≡◌, ℕ, zero, suc, ◌+◌, ◌*◌, ◌^◌, ◌<◌, ◌≤◌, ◌==◌, Bool, true, false, List, [], ◌∷◌, ◌++◌, length, map, Option, None, Some, refl, sym, ap, subst, ◌∙◌, arith, append_assoc, append-nil, length-append, lit≤, if◌then◌else◌}
use Rattle.std.specs.Fmt.{decimal}
use Rattle.std.specs.List.{flat_map}
use Rattle.vcd_reader.specs.Body.{nothing}
use Rattle.vcd_reader.specs.Codes.{code_of}
use Rattle.vcd_reader.specs.Dump.{later_stretches, steps_of}
use Rattle.vcd_reader.specs.Reading.{body}
use Rattle.vcd_reader.specs.Times.{IsLater}
use Rattle.vcd_reader.specs.Words.{is_white_space}
use Rattle.vcd_reader.specs.declared.entry.Entry.{Entry}
use Rattle.vcd_reader.specs.declared.entry.Entry.TheVariants.{Time}
use Rattle.selfrun_files.specs.Moments.{moment}
use Rattle.selfrun_files.specs.Samples.{Given, Sample, bit, first_values, high, last, low, samples, start, vector}
use Rattle.selfrun_files.specs.Text.{bit_digits, header_text, line_of, sample_text, time_line}
use Rattle.selfrun_runs.proofs.Registers.{steps_counted}
use Rattle.selfrun_dump.specs.Entries.{entries, entry_of, number_of, sample_entries}
use Rattle.selfrun_dump.specs.Laws.{TextLaw}
use Rattle.selfrun_dump.proofs.Digits.{count_bits, time_written}
use Rattle.selfrun_dump.proofs.Reading.{Reads, bit_read, body_saying, most, table, time_read, vector_read}

-- the code is one of the header, of this size, and a letter
pub record IsCode (code size : ℕ) : Type 0 where
  pub known : code_of table (code ∷ []) ≡ Some (record { text = code ∷ []; number = number_of code; size = size; is_read = true })
  pub black : is_white_space code ≡ false

-- what is given is of a code of the header
abbrev IsKnown : Given → Type 0
IsKnown (bit code b) = IsCode code 1
IsKnown (vector code width value) = IsCode code width × (0 < width) × (width ≤ 8)

abbrev AreKnown : List Given → Type 0
AreKnown [] = Unit {0}
AreKnown (g ∷ gs) = IsKnown g × AreKnown gs

given_read : (text : List ℕ) (items : List Entry) (before : Option ℕ) (g : Given) → Reads text items before nothing → length text + 24 ≤ most → IsKnown g → Reads (text ++ line_of g) (items ++ entry_of g ∷ []) before nothing
given_read text items before (bit code b) reads room is = bit_read text items before code (number_of code) b reads room is.known is.black
given_read text items before (vector code width value) reads room is = vector_read text items before code (number_of code) width value reads room is.1 is.2 is.0.known is.0.black

line_short : (g : Given) → IsKnown g → length (line_of g) ≤ 12
line_short (bit code b) is = omega arith
line_short (vector code width value) is = omega (arith, is.2, length-append (bit_digits width value) (32 ∷ code ∷ 10 ∷ []), count_bits width value)

all_short : (gs : List Given) → AreKnown gs → length (flat_map line_of gs) ≤ 12 * length gs
all_short [] are = omega arith
all_short (g ∷ gs) are = omega (arith, length-append (line_of g) (flat_map line_of gs), line_short g are.0, all_short gs are.1)

all_read : (gs : List Given) (text : List ℕ) (items : List Entry) (before : Option ℕ) → Reads text items before nothing → length text + (12 * length gs + 24) ≤ most → AreKnown gs
    → Reads (text ++ flat_map line_of gs) (items ++ map entry_of gs) before nothing
all_read [] text items before reads room are =
    subst (λ x. Reads x (items ++ []) before nothing) (sym (append-nil text)) (subst (λ es. Reads text es before nothing) (sym (append-nil items)) reads)
all_read (g ∷ gs) text items before reads room are =
    let one : Reads (text ++ line_of g) (items ++ entry_of g ∷ []) before nothing = given_read text items before g reads (omega (arith, room)) are.0 in
    let rest : Reads ((text ++ line_of g) ++ flat_map line_of gs) ((items ++ entry_of g ∷ []) ++ map entry_of gs) before nothing =
    all_read gs (text ++ line_of g) (items ++ entry_of g ∷ []) before one (omega (arith, room, length-append text (line_of g), line_short g are.0)) are.1 in
    subst (λ x. Reads x (items ++ map entry_of (g ∷ gs)) before nothing) (append_assoc text (line_of g) (flat_map line_of gs))
    (subst (λ es. Reads ((text ++ line_of g) ++ flat_map line_of gs) es before nothing) (append_assoc items (entry_of g ∷ []) (map entry_of gs)) rest)

-- a sample of at most 6 values, at a later time
pub record IsNext (before : Option ℕ) (s : Sample) : Type 0 where
  pub later : IsLater before s.time
  pub below : s.time < 2 ^ 63
  pub known : AreKnown s.given
  pub few : length s.given ≤ 6

time_short : (t : ℕ) → t < 2 ^ 63 → length (time_line t) ≤ 22
time_short t below = let is = time_written t below in omega (arith, is.short, length-append (decimal t) (10 ∷ []))

sample_short : (before : Option ℕ) (s : Sample) → IsNext before s → length (sample_text s) ≤ 94
sample_short before s is =
    omega (arith, length-append (time_line s.time) (flat_map line_of s.given), time_short s.time is.below, all_short s.given is.known, is.few)

sample_read : (s : Sample) (text : List ℕ) (items : List Entry) (before : Option ℕ) → Reads text items before nothing → length text + 200 ≤ most → IsNext before s
    → Reads (text ++ sample_text s) (items ++ sample_entries s) (Some s.time) nothing
sample_read s text items before reads room is =
    let timed : Reads (text ++ time_line s.time) (items ++ Time s.time ∷ []) (Some s.time) nothing = time_read text items before s.time reads is.later is.below (omega (arith, room)) in
    let rest : Reads ((text ++ time_line s.time) ++ flat_map line_of s.given) ((items ++ Time s.time ∷ []) ++ map entry_of s.given) (Some s.time) nothing =
    all_read s.given (text ++ time_line s.time) (items ++ Time s.time ∷ []) (Some s.time) timed (omega (arith, room, length-append text (time_line s.time), time_short s.time is.below, is.few)) is.known in
    subst (λ x. Reads x (items ++ sample_entries s) (Some s.time) nothing) (append_assoc text (time_line s.time) (flat_map line_of s.given))
    (subst (λ es. Reads ((text ++ time_line s.time) ++ flat_map line_of s.given) es (Some s.time) nothing) (append_assoc items (Time s.time ∷ []) (map entry_of s.given)) rest)

-- ---- the samples of a step

clk_code : IsCode 99 1
clk_code = record { known = refl; black = refl }

we_code : IsCode 119 1
we_code = record { known = refl; black = refl }

a_code : IsCode 97 4
a_code = record { known = refl; black = refl }

d_code : IsCode 100 8
d_code = record { known = refl; black = refl }

p_code : IsCode 112 8
p_code = record { known = refl; black = refl }

q_code : IsCode 113 8
q_code = record { known = refl; black = refl }

first_known : (b : Bool) → AreKnown (if b then first_values else [])
first_known true = ((p_code, omega arith, omega arith), ((q_code, omega arith, omega arith), tt))
first_known false = tt

first_few : (b : Bool) → length (if b then first_values else []) ≤ 2
first_few true = omega arith
first_few false = omega arith

module _ (number : ℕ) where
  low_next : (before : Option ℕ) (k : ℕ) → IsLater before (10 * k) → 10 * k < 2 ^ 63 → IsNext before (low (moment number k))
  low_next before k later below = record {
    later = subst (λ x. IsLater before (10 * x)) (sym (steps_counted number k)) later;
    below = omega (arith, below, steps_counted number k);
    known = (clk_code, (we_code, ((a_code, omega arith, omega arith), ((d_code, omega arith, omega arith), first_known ((moment number k).step == 0)))));
    few = omega (arith, first_few ((moment number k).step == 0));
  }

  high_next : (k : ℕ) → 10 * k + 5 < 2 ^ 63 → IsNext (Some (low (moment number k)).time) (high (moment number k))
  high_next k below = record {
    later = omega arith;
    below = omega (arith, below, steps_counted number k);
    known = (clk_code, ((p_code, omega arith, omega arith), ((q_code, omega arith, omega arith), tt)));
    few = omega arith;
  }

  last_next : (before : Option ℕ) (k : ℕ) → IsLater before (10 * k) → 10 * k < 2 ^ 63 → IsNext before (last (moment number k))
  last_next before k later below = record {
    later = subst (λ x. IsLater before (10 * x)) (sym (steps_counted number k)) later;
    below = omega (arith, below, steps_counted number k);
    known = (clk_code, tt);
    few = omega arith;
  }

  -- the text and what it says, up to some last time
  abbrev ReadsOn : List ℕ → List Entry → Type 0
  ReadsOn text items = (end : Option ℕ) × Reads text items end nothing

  samples_read : (n k : ℕ) (text : List ℕ) (items : List Entry) (before : Option ℕ) → Reads text items before nothing → IsLater before (10 * k) → 10 * (k + n) < 2 ^ 63 → length text + (200 * n + 400) ≤ most
      → ReadsOn (text ++ flat_map sample_text (samples n (moment number k))) (items ++ flat_map sample_entries (samples n (moment number k)))
  samples_read zero k text items before reads later below room =
      let s : Sample = last (moment number k) in
      let next = last_next before k later (omega (arith, below)) in
      let one : Reads (text ++ sample_text s) (items ++ sample_entries s) (Some s.time) nothing = sample_read s text items before reads (omega (arith, room)) next in (
        Some s.time,
        subst (λ x. Reads x (items ++ (sample_entries s ++ [])) (Some s.time) nothing) (ap (λ y. text ++ y) (sym (append-nil (sample_text s))))
            (subst (λ es. Reads (text ++ sample_text s) es (Some s.time) nothing) (ap (λ y. items ++ y) (sym (append-nil (sample_entries s)))) one),
      )
  samples_read (suc n) k text items before reads later below room =
      let s : Sample = low (moment number k) in
      let u : Sample = high (moment number k) in
      let s_next = low_next before k later (omega (arith, below)) in
      let u_next = high_next k (omega (arith, below)) in
      let one : Reads (text ++ sample_text s) (items ++ sample_entries s) (Some s.time) nothing = sample_read s text items before reads (omega (arith, room)) s_next in
      let s_long = length-append text (sample_text s) in
      let s_short = sample_short before s s_next in
      let two : Reads ((text ++ sample_text s) ++ sample_text u) ((items ++ sample_entries s) ++ sample_entries u) (Some u.time) nothing =
      sample_read u (text ++ sample_text s) (items ++ sample_entries s) (Some s.time) one (omega (arith, room, s_long, s_short)) u_next in
      let u_long = length-append (text ++ sample_text s) (sample_text u) in
      let u_short = sample_short (Some s.time) u u_next in
      let rest = samples_read n (suc k) ((text ++ sample_text s) ++ sample_text u) ((items ++ sample_entries s) ++ sample_entries u) (Some u.time) two
      (omega (arith, steps_counted number k)) (omega (arith, below)) (omega (arith, room, s_long, s_short, u_long, u_short)) in
      let later_text : List ℕ = flat_map sample_text (samples n (moment number (suc k))) in
      let later_items : List Entry = flat_map sample_entries (samples n (moment number (suc k))) in (
        rest.0,
        subst (λ x. Reads x (items ++ flat_map sample_entries (samples (suc n) (moment number k))) rest.0 nothing)
            (append_assoc (text ++ sample_text s) (sample_text u) later_text ∙ append_assoc text (sample_text s) (sample_text u ++ later_text))
            (subst (λ es. Reads (((text ++ sample_text s) ++ sample_text u) ++ later_text) es rest.0 nothing)
            (append_assoc (items ++ sample_entries s) (sample_entries u) later_items ∙ append_assoc items (sample_entries s) (sample_entries u ++ later_items)) rest.1),
      )

-- the dump goes off nowhere
none_given : (gs : List Given) (later : List Entry) → later_stretches (map entry_of gs ++ later) ≡ later_stretches later
none_given [] later = refl
none_given (g ∷ gs) later = none_given gs later

one_stretch : (ss : List Sample) → map steps_of (later_stretches (flat_map sample_entries ss)) ≡ []
one_stretch [] = refl
one_stretch (s ∷ ss) = ap (λ later. map steps_of later) (none_given s.given (flat_map sample_entries ss)) ∙ one_stretch ss

header_read : Reads header_text [] None nothing
header_read = record { front = header_text; split = refl; whole = refl; black = refl; meaning = refl; within = lit≤ tt }

pub text_law : TextLaw
text_law number steps few =
    let short : length header_text ≤ 400 = lit≤ tt in
    let reads = samples_read number steps 0 header_text [] None header_read tt (omega (arith, few)) (omega (arith, few, short)) in
    record {
      b = body_saying (entries number steps) reads.0 nothing;
      ends = record { word = []; means = body (body_saying (entries number steps) reads.0 nothing); stands = reads.1; whole = refl; meaning = refl; closed = refl };
      vars = refl;
      stretches = ap (λ later. steps_of (entries number steps) ∷ later) (sym (one_stretch (samples steps (start number))));
    }
