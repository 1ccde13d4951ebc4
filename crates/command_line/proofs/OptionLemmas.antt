-- Options are distinguished by how they are written.
use Rattle.std.proofs.Common.{◌≡◌, ℕ, true, false, List, [], ◌∷◌, length, refl, sym, arith}
use Rattle.std.proofs.lemmas.Bool.{eqb-true, false≢true}
use Rattle.command_line.specs.declared.score_option.ScoreOption.{ScoreOption}
use Rattle.command_line.specs.declared.score_option.ScoreOption.TheVariants.{Top, Instance, Source, Define, Folder, Dump, Output, States, Arcs, Late}
use Rattle.command_line.specs.ScoreOption.{accepts, is_same, takes_value}

-- options that are written alike are one
pub same_option : (a b : ScoreOption) → is_same a b ≡ true → a ≡ b
same_option Top Top h = refl
same_option Instance Instance h = refl
same_option Source Source h = refl
same_option Define Define h = refl
same_option Folder Folder h = refl
same_option Dump Dump h = refl
same_option Output Output h = refl
same_option States States h = refl
same_option Arcs Arcs h = refl
same_option Late Late h = refl
same_option a b h = absurd (false≢true h)

-- an option is the same as itself
pub is_same-self : (option : ScoreOption) → is_same option option ≡ true
is_same-self Top = refl
is_same-self Instance = refl
is_same-self Source = refl
is_same-self Define = refl
is_same-self Folder = refl
is_same-self Dump = refl
is_same-self Output = refl
is_same-self States = refl
is_same-self Arcs = refl
is_same-self Late = refl

-- one option alone takes no value
pub the_flag : (option : ScoreOption) → takes_value option ≡ false → option ≡ Late
the_flag Late none = refl
the_flag option none = absurd (false≢true (sym none))

-- its value is the empty one
pub flag_value : (option : ScoreOption) (value : List ℕ) → takes_value option ≡ false → accepts option value ≡ true → value ≡ []
flag_value Late [] none form = refl
flag_value Late (byte ∷ bytes) none form = absurd (omega (arith, eqb-true (length (byte ∷ bytes)) 0 form))
flag_value option value none form = absurd (false≢true (sym none))

-- which has its form
pub flag_accepted : (option : ScoreOption) → takes_value option ≡ false → accepts option [] ≡ true
flag_accepted Late none = refl
flag_accepted option none = absurd (false≢true (sym none))
