-- The scan enable of a test cell (Liberty Reference Manual, `signal_type` attribute).
use Rattle.std.specs.Prelude.{ℕ, Bool, true, false, List, [], ◌∷◌, codes, bytes_eq, Option, Some, None, if◌then◌else◌}
use Rattle.std.specs.Option.{option_map_or}
use Rattle.liberty_groups.specs.declared.tree.Group.{Group}
use Rattle.liberty_groups.specs.Attributes.{Attribute, attribute_of}
use Rattle.scan_cells.specs.declared.enables.Enable.{Enable}

-- The value at which a pin with this `signal_type` lets the cell scan, where it is a scan enable: 1 for
-- `test_scan_enable` and 0 for `test_scan_enable_inverted`. (Liberty Reference Manual, `signal_type`.)
abbrev pub active_named : List ℕ → Option Bool
active_named text =
    if bytes_eq text (codes "test_scan_enable") then Some true
    else (if bytes_eq text (codes "test_scan_enable_inverted") then Some false else None)

-- The same for the pins of a group. Of several `signal_type` attributes the last counts. (This project's rule.)
unfoldable pub active_of : Group → Option Bool
active_of pin = option_map_or (λ (attribute : Attribute). active_named attribute.text) (attribute_of pin (codes "signal_type"))
    None

abbrev pub enable_or : Option Bool → ℕ → Option Enable → Option Enable
enable_or None pin later = later
enable_or (Some active) pin later = Some (record { pin = pin; active = active })

-- The first scan enable among pins with these numbers, each made by the group at its place. (This project's rule.)
abbrev pub first_enable : List Group → List ℕ → Option Enable
first_enable [] pins = None
first_enable (owner ∷ owners) [] = None
first_enable (owner ∷ owners) (pin ∷ pins) = enable_or (active_of owner) pin (first_enable owners pins)
