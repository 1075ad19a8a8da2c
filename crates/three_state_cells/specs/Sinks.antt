-- What is held of the statements of a cell that were handed on so far.
use Rattle.std.specs.Prelude.{◌+◌, ◌-◌, ◌^◌, min, true, false, not, ◌&&◌, ◌||◌, [], ◌∷◌, ◌++◌, Option, None, if◌then◌else◌}
use Rattle.liberty_groups.specs.declared.tree.Item.{Item, out-Item}
use Rattle.liberty_groups.specs.declared.tree.Item.TheOpen.{Item-F}
use Rattle.liberty_groups.specs.declared.tree.Item.TheOpen as layer
use Rattle.liberty_groups.specs.declared.tree.Group.{Group}
use Rattle.timing_arcs.specs.declared.subject.Subject.{Subject}
use Rattle.timing_arcs.specs.Timing.{reading_answer}
use Rattle.cell_reader.specs.declared.refusal.Refusal.{Refusal}
use Rattle.cell_reader.specs.PinTimings.{subject_at}
use Rattle.core_groups.specs.Outputs.{is_three_state}
use Rattle.three_state_cells.specs.Refusals.{first_of_two, wrong_group as wrong_delays_of}
use Rattle.three_state_cells.specs.declared.trimmed_items.AllItems.{AllItems}
use Rattle.three_state_cells.specs.declared.trimmed_items.TrimmedItems.{TrimmedItems}
use Rattle.three_state_cells.specs.declared.wrong_timings.WrongTimings.{WrongTimings}
use Rattle.three_state_cells.specs.Trimmed.{is_trimmed_item, loses, has_apart_in, keeps_order_in, pins_in_item, trimmed_item}
use Rattle.three_state_cells.specs.Trimmed.{timing_told}

abbrev pub nothing_held : AllItems
nothing_held = record { items = [] }

-- one more statement, whole
abbrev pub after_all : AllItems → Item → AllItems
after_all held item = record { items = held.items ++ item ∷ [] }

abbrev pub nothing_trimmed : TrimmedItems
nothing_trimmed = record { items = []; pins = 0; is_whole = true; is_ordered = true; has_apart = false }

-- one more statement, trimmed
abbrev pub after_trimmed : TrimmedItems → Item → TrimmedItems
after_trimmed held item = record {
  items = held.items ++ trimmed_item held.pins (out-Item item) ∷ [];
  pins = min (held.pins + pins_in_item (out-Item item)) 64;
  is_whole = held.is_whole && not (is_trimmed_item held.pins (out-Item item));
  is_ordered = held.is_ordered && keeps_order_in held.pins (out-Item item);
  has_apart = held.has_apart || has_apart_in held.pins (out-Item item);
}

-- what is wrong in the timing that a statement loses in the core, where this is the next pin
abbrev pub wrong_group : Subject → Group → Option Refusal
wrong_group subject group =
    if is_three_state group then None
    else (if loses subject.place group then timing_told (reading_answer subject group) else None)

abbrev pub wrong_item : Subject → Item-F Item Group → Option Refusal
wrong_item subject (layer.Simple name value at) = None
wrong_item subject (layer.Complex name arguments at) = None
wrong_item subject (layer.Inner group) = wrong_group subject group

-- what is wrong in its delays, if it makes three-state outputs
abbrev pub wrong_delays : Subject → Item-F Item Group → Option Refusal
wrong_delays subject (layer.Simple name value at) = None
wrong_delays subject (layer.Complex name arguments at) = None
wrong_delays subject (layer.Inner group) = wrong_delays_of subject group

abbrev pub after_wrong : WrongTimings → Item → WrongTimings
after_wrong held item = record {
  subject = subject_at held.subject (min (held.subject.place + pins_in_item (out-Item item)) (2 ^ 64 - 1));
  found = first_of_two held.found (wrong_item held.subject (out-Item item));
  delays = first_of_two held.delays (wrong_delays held.subject (out-Item item));
}
