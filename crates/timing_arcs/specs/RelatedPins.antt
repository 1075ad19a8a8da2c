-- The pins that a timing group relates its own pin to (Liberty Reference Manual, `related_pin`).
use Rattle.std.specs.Prelude.{ℕ, Bool, true, false, ◌&&◌, ◌||◌, not, ◌==◌, List, [], ◌∷◌, length, map, codes, Option, Some, None}
use Rattle.std.specs.Prelude.{if◌then◌else◌}
use Rattle.std.specs.Option.{option_map_or}
use Rattle.std.specs.List.{list_any, filter_map}
use Rattle.bool_functions.specs.NameList.{number_of}
use Rattle.liberty_groups.specs.declared.tree.Group.{Group}
use Rattle.cell_machine.specs.CellRules.{is_input_pin}
use Rattle.timing_arcs.specs.declared.timing_type.TimingType.{TimingType}
use Rattle.timing_arcs.specs.declared.timing_type.TimingType.TheVariants.{Delay, Setup, Hold, Recovery, Removal, Width, Period}
use Rattle.timing_arcs.specs.declared.timing_type.TimingType.TheVariants.{Other}
use Rattle.timing_arcs.specs.declared.related.Related.{Related}
use Rattle.timing_arcs.specs.declared.related.Related.TheVariants.{Input, Driven, Unknown}
use Rattle.timing_arcs.specs.declared.subject.Subject.{Subject}
use Rattle.liberty_groups.specs.Attributes.{Attribute, attribute_of, words_between}
use Rattle.timing_arcs.specs.TimingTypes.{type_of, is_used}

abbrev pub is_space : ℕ → Bool
is_space byte = byte == 32

-- The names in `related_pin`: what stands between spaces. (Liberty Reference Manual, `related_pin`.)
abbrev pub related_words : Group → List (List ℕ)
related_words group =
    option_map_or (λ (attribute : Attribute). words_between is_space attribute.text) (attribute_of group (codes "related_pin")) []

-- What a name is in the cell: an input pin, a pin that the cell drives, or no pin.
abbrev pub related_as : Subject → List ℕ → Related
related_as subject word =
    option_map_or (λ p. if is_input_pin subject.pins p then Input p else Driven) (number_of subject.names word) Unknown

-- What a group of this type is related to. The related pin of a pulse width or a period is not read: it is the pin itself.
-- (This project's rule.)
abbrev pub related_by : Subject → Group → TimingType → List Related
related_by subject group Width = Input subject.place ∷ []
related_by subject group Period = Input subject.place ∷ []
related_by subject group Delay = map (related_as subject) (related_words group)
related_by subject group (Setup edge) = map (related_as subject) (related_words group)
related_by subject group (Hold edge) = map (related_as subject) (related_words group)
related_by subject group (Recovery edge) = map (related_as subject) (related_words group)
related_by subject group (Removal edge) = map (related_as subject) (related_words group)
related_by subject group Other = map (related_as subject) (related_words group)

unfoldable pub related_of : Subject → Group → List Related
related_of subject group = related_by subject group (type_of group)

abbrev pub is_driven : Related → Bool
is_driven (Input p) = false
is_driven Driven = true
is_driven Unknown = false

abbrev pub is_unknown : Related → Bool
is_unknown (Input p) = false
is_unknown Driven = false
is_unknown Unknown = true

-- the number of an input pin
abbrev pub input_of : Related → Option ℕ
input_of (Input p) = Some p
input_of Driven = None
input_of Unknown = None

-- The input pins that the group is related to, in the order in which they are written.
abbrev pub inputs_of : Subject → Group → List ℕ
inputs_of subject group = filter_map input_of (related_of subject group)

-- Whether the condition and the tables of the group are read: it is used, and some name of its is no pin that the cell
-- drives. (This project's rule.)
abbrev pub is_read : Subject → Group → Bool
is_read subject group = is_used subject group && list_any (λ related. not (is_driven related)) (related_of subject group)

-- Whether the group is listed as left out: it is not used, it has no name in `related_pin`, or one of them is a pin
-- that the cell drives. (This project's rule.)
abbrev pub is_left_out : Subject → Group → Bool
is_left_out subject group =
    not (is_used subject group)
    || (length (related_of subject group) == 0 || list_any is_driven (related_of subject group))
