-- The forms of the values of options. A module's name is an identifier.
use Rattle.std.specs.Prelude.{ℕ, nat_le, nat_lt, Bool, not, ◌&&◌, ◌||◌, ◌==◌, List, length}
use Rattle.std.specs.List.{list_all, list_any, slice_split}

-- a space, or a tab, line feed, vertical tab, form feed or carriage return
abbrev pub is_white_space : ℕ → Bool
is_white_space byte = byte == 32 || nat_le 9 byte && nat_le byte 13

-- not empty, and without white space
abbrev pub is_path_part : List ℕ → Bool
is_path_part part = not (length part == 0) && not (list_any is_white_space part)

-- parts with dots between them
abbrev pub is_instance_path : List ℕ → Bool
is_instance_path path = list_all is_path_part (slice_split (λ byte. byte == 46) path)

-- a byte that no file's name has
abbrev pub is_control : ℕ → Bool
is_control byte = nat_lt byte 32

-- not empty, and no byte below 32
abbrev pub is_file_name : List ℕ → Bool
is_file_name name = not (length name == 0) && not (list_any is_control name)
