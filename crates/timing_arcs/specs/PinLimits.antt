-- The limits that the attributes of a pin group give, and what they give under one of its pins (Liberty Reference Manual,
-- `min_pulse_width_high`, `min_pulse_width_low` and `min_period`).
use Rattle.std.specs.Prelude.{ℕ, List, codes, Option, Some, None, if◌then◌else◌}
use Rattle.std.specs.Option.{option_map}
use Rattle.liberty_text.specs.declared.time.Unit.{Unit as TimeUnit}
use Rattle.liberty_groups.specs.declared.tree.Group.{Group}
use Rattle.cell_machine.specs.declared.checks.CheckKind.{CheckKind}
use Rattle.cell_machine.specs.declared.checks.CheckKind.TheVariants as kind
use Rattle.cell_machine.specs.declared.checks.Edge.{Edge}
use Rattle.cell_machine.specs.declared.checks.Edge.TheVariants.{Any, Rise, Fall}
use Rattle.cell_machine.specs.CellRules.{is_input_pin}
use Rattle.timing_arcs.specs.declared.found.Found.{Found}
use Rattle.timing_arcs.specs.declared.pin_limits.PinLimit.{PinLimit}
use Rattle.timing_arcs.specs.declared.pin_limits.PinLimits.{PinLimits}
use Rattle.timing_arcs.specs.declared.subject.Subject.{Subject}
use Rattle.liberty_groups.specs.Attributes.{Attribute, attribute_of}
use Rattle.timing_arcs.specs.Times.{time_of}
use Rattle.timing_arcs.specs.Adding.{with_limit}

-- The limit that an attribute gives, where times have this unit.
abbrev pub limit_as : Option TimeUnit → Attribute → PinLimit
limit_as unit attribute = record { at = attribute.at; time = time_of unit attribute.text }

-- The one that the attribute of this name gives.
abbrev pub pin_limit : Option TimeUnit → Group → List ℕ → Option PinLimit
pin_limit unit pin name = option_map (limit_as unit) (attribute_of pin name)

abbrev pub pin_limits : Subject → Group → PinLimits
pin_limits subject pin = record {
  high = pin_limit subject.unit pin (codes "min_pulse_width_high");
  low = pin_limit subject.unit pin (codes "min_pulse_width_low");
  period = pin_limit subject.unit pin (codes "min_period");
}

-- A limit counts under an input pin.
abbrev pub limit_under : Subject → Option PinLimit → Option PinLimit
limit_under subject limit = if is_input_pin subject.pins subject.place then limit else None

-- What was found so far, with the check that a limit gives, and with those of all three.
abbrev pub with_pin_limit : Subject → CheckKind → Edge → Edge → Found → Option PinLimit → Found
with_pin_limit subject k first second found None = found
with_pin_limit subject k first second found (Some limit) = with_limit subject k first second found limit.at limit.time

abbrev pub with_pin_limits : Subject → Found → PinLimits → Found
with_pin_limits subject found limits =
    with_pin_limit subject kind.Period Any Any
    (with_pin_limit subject kind.Width Fall Rise
    (with_pin_limit subject kind.Width Rise Fall found (limit_under subject limits.high))
    (limit_under subject limits.low))
    (limit_under subject limits.period)
