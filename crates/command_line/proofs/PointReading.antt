-- What was read of an `exclude` or a `restore` command.
use Rattle.std.proofs.Common.{◌≡◌, ◌∙◌, ℕ, Bool, true, ap, drop, sym, List, [], None, append-nil, is_some}
use Rattle.std.specs.List.{last_or}
use Rattle.std.specs.Prelude.{unwrap_or}
use Rattle.std.proofs.lemmas.Bool.{false≢true}
use Rattle.command_line.specs.declared.database_command.DatabaseCommand.{DatabaseCommand}
use Rattle.command_line.specs.declared.database_command.DatabaseCommand.TheVariants.{Exclude, Restore}
use Rattle.command_line.specs.declared.database_option.DatabaseOption.TheVariants.{Output, Point}
use Rattle.command_line.specs.declared.given_words.GivenWords.{GivenWords}
use Rattle.command_line.specs.declared.point_words.PointWords.{PointWords}
use Rattle.command_line.specs.DatabaseOption.{has_room}
use Rattle.command_line.specs.DatabaseWords.{spelled, values_in}
use Rattle.command_line.specs.GivenWords.{HasRead}
use Rattle.command_line.specs.PointAddresses.{addresses_among, addresses_of}
use Rattle.command_line.specs.PointWords.{ArePointValues, GivesPoints, IsExclude, IsRestore, point_values}
use Rattle.command_line.proofs.AddressesAmong.{addresses_among-spelled}
use Rattle.command_line.proofs.DatabaseItems.{the_one_file}
use Rattle.command_line.proofs.DatabaseReading.{files_are}

-- the values that the items give, where the command has room for one database
module _ (command : DatabaseCommand) (first_alone : (first : Bool) → has_room command first ≡ true → first ≡ true) (words : List (List ℕ)) (values : GivenWords) (points : PointWords) (read : HasRead command words [] values) (gives : GivesPoints values points) where
  all_addresses : values_in read.items Point ≡ addresses_of points.addresses
  all_addresses =
      sym (addresses_among-spelled command [] read.items read.up_to.are_items)
      ∙ ap addresses_among (sym (append-nil (spelled read.items)))
      ∙ ap (λ all. addresses_among (drop 1 all)) (sym read.up_to.spells ∙ read.all)
      ∙ sym gives.addresses

  some_address : addresses_of points.addresses ≡ [] → ⊥
  some_address none = false≢true (sym (ap is_some (sym (read.same Point) ∙ ap (last_or None) (all_addresses ∙ none))) ∙ gives.some)

  pub are_points : ArePointValues read.items (point_values points)
  are_points = record {
    output = read.same Output ∙ gives.output;
    addresses = all_addresses;
    some = some_address;
    file = the_one_file command first_alone read.items points.file.now gives.others read.up_to.are_items (files_are command words values read ∙ ap (λ found. unwrap_or found []) gives.files);
  }

pub exclude_stands : (words : List (List ℕ)) (values : GivenWords) (points : PointWords) → HasRead Exclude words [] values → GivesPoints values points → IsExclude words (point_values points)
exclude_stands words values points read gives = (read.items, read.up_to, are_points Exclude (λ first room. room) words values points read gives)

pub restore_stands : (words : List (List ℕ)) (values : GivenWords) (points : PointWords) → HasRead Restore words [] values → GivesPoints values points → IsRestore words (point_values points)
restore_stands words values points read gives = (read.items, read.up_to, are_points Restore (λ first room. room) words values points read gives)
