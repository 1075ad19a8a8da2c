-- The lines of the report on what is read of a library and left out (this project's format).
use Rattle.std.specs.Prelude.{ℕ, List, [], ◌++◌, codes, decimal, flat_map, slice_get}
use Rattle.std.specs.Option.{option_map_or}
use Rattle.cell_machine.specs.declared.pins.Pin.{Pin}
use Rattle.cell_reader.specs.declared.left_out.LeftOut.{LeftOut}

-- a timing group that makes nothing: the number of its cell from 1, the name of its pin, and its type
unfoldable pub left_out_line : ℕ → List ℕ → List ℕ → List ℕ
left_out_line number pin kind = codes "left-out "
    ++ (decimal number ++ (codes " " ++ (pin ++ (codes " " ++ (kind ++ codes "\n")))))

-- the name of the pin with this number, empty where there is none
abbrev pub pin_name : List Pin → ℕ → List ℕ
pin_name pins number = option_map_or (λ (pin : Pin). pin.name) (slice_get pins number) []

unfoldable pub left_out_group_line : ℕ → List Pin → LeftOut → List ℕ
left_out_group_line number pins group = left_out_line number (pin_name pins group.pin) group.kind

-- the timing groups that a cell leaves out, in order
abbrev pub left_out_lines : ℕ → List Pin → List LeftOut → List ℕ
left_out_lines number pins groups = flat_map (left_out_group_line number pins) groups

-- a statement `include_file`, which names a file that is not followed
unfoldable pub left_out_file_line : List ℕ
left_out_file_line = codes "left-out include_file\n"
