-- The types of timing groups: under which pins each stands, and which tables it uses (Liberty Reference Manual,
-- `timing` group, `timing_type`).
use Rattle.std.specs.Prelude.{ℕ, Bool, false, ◌&&◌, ◌||◌, not, ◌==◌, List, [], ◌∷◌, length, codes, find, bytes_eq, unwrap_or}
use Rattle.std.specs.Prelude.{slice_get, if◌then◌else◌}
use Rattle.std.specs.List.{list_any}
use Rattle.std.specs.Option.{option_map, option_map_or}
use Rattle.liberty_groups.specs.declared.tree.Group.{Group}
use Rattle.cell_machine.specs.declared.checks.Edge.TheVariants.{Rise, Fall}
use Rattle.cell_machine.specs.declared.pins.Direction.{Direction}
use Rattle.cell_machine.specs.declared.pins.Pin.{Pin}
use Rattle.cell_machine.specs.CellRules.{is_input, is_output}
use Rattle.timing_arcs.specs.declared.timing_type.TimingType.{TimingType}
use Rattle.timing_arcs.specs.declared.timing_type.TimingType.TheVariants.{Delay, Setup, Hold, Recovery, Removal, Width, Period}
use Rattle.timing_arcs.specs.declared.timing_type.TimingType.TheVariants.{Other}
use Rattle.timing_arcs.specs.declared.subject.Subject.{Subject}
use Rattle.liberty_groups.specs.Attributes.{Attribute, attribute_of, groups_named}

-- The words of `timing_type` that a delay has. (Liberty Reference Manual, `timing_type`.)
abbrev pub delay_words : List (List ℕ)
delay_words = codes "combinational" ∷ codes "combinational_rise" ∷ codes "combinational_fall" ∷ codes "rising_edge" ∷ codes
    "falling_edge" ∷ codes "clear" ∷ codes "preset" ∷ []

-- The words of `timing_type` that a check has, and what each stands for. (Liberty Reference Manual, `timing_type`.)
abbrev pub check_words : List (List ℕ × TimingType)
check_words = (codes "setup_rising", Setup Rise)
    ∷ (codes "setup_falling", Setup Fall)
    ∷ (codes "hold_rising", Hold Rise)
    ∷ (codes "hold_falling", Hold Fall)
    ∷ (codes "recovery_rising", Recovery Rise)
    ∷ (codes "recovery_falling", Recovery Fall)
    ∷ (codes "removal_rising", Removal Rise)
    ∷ (codes "removal_falling", Removal Fall)
    ∷ (codes "min_pulse_width", Width)
    ∷ (codes "minimum_period", Period)
    ∷ []

-- The type that a text stands for. Every other text is another type, of which nothing is made.
abbrev pub type_named : List ℕ → TimingType
type_named text =
    if list_any (λ word. bytes_eq word text) delay_words then Delay
    else unwrap_or (option_map (λ entry. entry.1) (find (λ entry. bytes_eq entry.0 text) check_words)) Other

-- The type of a timing group. One without `timing_type` is combinational. (Liberty Reference Manual, `timing_type`.)
abbrev pub type_of : Group → TimingType
type_of group = option_map_or (λ (attribute : Attribute). type_named attribute.text) (attribute_of group (codes "timing_type"))
    Delay

-- Whether a timing group of this type stands under pins of this direction: a delay where it ends, under an output, and
-- a check under an input. (Liberty Reference Manual, `timing` group.)
abbrev pub stands_under : TimingType → Direction → Bool
stands_under Delay direction = is_output direction
stands_under Other direction = false
stands_under _ direction = is_input direction

-- The table groups of the two edges: of a delay `cell_rise` and `cell_fall`, else `rise_constraint` and
-- `fall_constraint`. (Liberty Reference Manual, `timing` group.)
abbrev pub rise_table : TimingType → List ℕ
rise_table Delay = codes "cell_rise"
rise_table _ = codes "rise_constraint"

abbrev pub fall_table : TimingType → List ℕ
fall_table Delay = codes "cell_fall"
fall_table _ = codes "fall_constraint"

-- Whether the group has a table that its type uses.
abbrev pub has_table : Group → Bool
has_table group =
    not (length (groups_named (rise_table (type_of group)) group.items) == 0)
    || not (length (groups_named (fall_table (type_of group)) group.items) == 0)

-- Whether a timing group of the subject's pin can make something: its type stands under pins of this direction, and it
-- has a table that the type uses. Of any other group nothing is read. (This project's rule.)
unfoldable pub is_used : Subject → Group → Bool
is_used subject group =
    option_map_or (λ (pin : Pin). stands_under (type_of group) pin.direction) (slice_get subject.pins subject.place) false
    && has_table group
