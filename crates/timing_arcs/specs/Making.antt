-- The checks and arcs of a timing group (Liberty Reference Manual, `timing` group; IEEE 1364-2005, clauses 14 and 15).
use Rattle.std.specs.Prelude.{ℕ, max, Bool, not, ◌&&◌, ◌==◌, List, [], ◌∷◌, filter, flat_map, Option, if◌then◌else◌}
use Rattle.bool_functions.specs.declared.tree.Node.{Node}
use Rattle.liberty_groups.specs.declared.tree.Group.{Group}
use Rattle.cell_machine.specs.declared.checks.CheckKind.{CheckKind}
use Rattle.cell_machine.specs.declared.checks.CheckKind.TheVariants as kind
use Rattle.cell_machine.specs.declared.checks.Edge.{Edge}
use Rattle.cell_machine.specs.declared.checks.Edge.TheVariants.{Any, Rise, Fall}
use Rattle.cell_machine.specs.declared.checks.Event.{Event}
use Rattle.cell_machine.specs.declared.checks.Check.{Check}
use Rattle.cell_machine.specs.declared.arcs.Arc.{Arc}
use Rattle.timing_arcs.specs.declared.timing_type.TimingType.{TimingType}
use Rattle.timing_arcs.specs.declared.timing_type.TimingType.TheVariants.{Delay, Setup, Hold, Recovery, Removal, Width, Period}
use Rattle.timing_arcs.specs.declared.timing_type.TimingType.TheVariants.{Other}
use Rattle.timing_arcs.specs.declared.subject.Subject.{Subject}
use Rattle.timing_arcs.specs.TimingTypes.{type_of, rise_table, fall_table}
use Rattle.timing_arcs.specs.RelatedPins.{inputs_of, is_read}
use Rattle.timing_arcs.specs.Conditions.{condition_of, tree_of, may_hold}
use Rattle.timing_arcs.specs.Tables.{limit_of}

abbrev pub event : ℕ → Edge → Event
event pin edge = record { pin = pin; edge = edge }

abbrev pub check : CheckKind → Event → Event → ℕ → Option Node → Check
check k first second limit condition = record { kind = k; first = first; second = second; limit = limit; condition = condition }

-- A check with limit 0 is not made. (This project's rule.)
abbrev pub has_limit : Check → Bool
has_limit k = not (k.limit == 0)

-- The checks that a type makes of a pin and a pin that it is related to, with any limits. Setup and hold take the greater of both
-- limits for every event of the pin, and so does a period, which is between events of the pin itself; recovery, removal and the
-- pulse width have a check for each edge of the pin, with its own limit. (Liberty Reference Manual, `timing_type`.)
abbrev pub checks_with : TimingType → ℕ → ℕ → ℕ → ℕ → Option Node → List Check
checks_with Delay pin related rise fall condition = []
checks_with (Setup edge) pin related rise fall condition =
    check kind.Setup (event pin Any) (event related edge) (max rise fall) condition ∷ []
checks_with (Hold edge) pin related rise fall condition =
    check kind.Hold (event related edge) (event pin Any) (max rise fall) condition ∷ []
checks_with (Recovery edge) pin related rise fall condition =
    check kind.Recovery (event pin Rise) (event related edge) rise condition
    ∷ check kind.Recovery (event pin Fall) (event related edge) fall condition
    ∷ []
checks_with (Removal edge) pin related rise fall condition =
    check kind.Removal (event related edge) (event pin Rise) rise condition
    ∷ check kind.Removal (event related edge) (event pin Fall) fall condition
    ∷ []
checks_with Width pin related rise fall condition =
    check kind.Width (event pin Rise) (event pin Fall) rise condition
    ∷ check kind.Width (event pin Fall) (event pin Rise) fall condition
    ∷ []
checks_with Period pin related rise fall condition =
    check kind.Period (event pin Any) (event pin Any) (max rise fall) condition ∷ []
checks_with Other pin related rise fall condition = []

-- The delay arc that a type makes from a related pin to a pin. (Liberty Reference Manual, `timing_type`.)
abbrev pub arcs_with : TimingType → ℕ → ℕ → ℕ → ℕ → Option Node → List Arc
arcs_with Delay pin related rise fall condition =
    record { from = related; to = pin; rise = rise; fall = fall; condition = condition } ∷ []
arcs_with _ pin related rise fall condition = []

-- Whether the group makes something: it is read, and its condition is not always 0.
abbrev pub is_made : Subject → Group → Bool
is_made subject group = is_read subject group && may_hold (condition_of subject group)

-- The limit or delay for a rise and for a fall of the pin.
abbrev pub rise_of : Subject → Group → ℕ
rise_of subject group = limit_of subject.unit (rise_table (type_of group)) group

abbrev pub fall_of : Subject → Group → ℕ
fall_of subject group = limit_of subject.unit (fall_table (type_of group)) group

-- The checks of a group with one pin that it is related to.
abbrev pub checks_from : Subject → Group → ℕ → List Check
checks_from subject group related =
    checks_with (type_of group) subject.place related (rise_of subject group) (fall_of subject group)
    (tree_of (condition_of subject group))

abbrev pub arcs_from : Subject → Group → ℕ → List Arc
arcs_from subject group related =
    arcs_with (type_of group) subject.place related (rise_of subject group) (fall_of subject group)
    (tree_of (condition_of subject group))

-- The checks of a group that have a limit, and its arcs before they are merged: for each input pin that it is related
-- to, in order.
abbrev pub checks_in : Subject → Group → List Check
checks_in subject group = if is_made subject group
    then filter has_limit (flat_map (checks_from subject group) (inputs_of subject group)) else []

abbrev pub arcs_in : Subject → Group → List Arc
arcs_in subject group = if is_made subject group then flat_map (arcs_from subject group) (inputs_of subject group) else []
