-- Why a cell is refused: fourteen reasons, of each the offsets at which it is met (this project's rules).
use Rattle.std.specs.Prelude.{ℕ, List, [], ◌∷◌, ◌++◌, length, map, flat_map, Option}
use Rattle.timing_arcs.specs.declared.subject.Subject.{Subject}
use Rattle.liberty_groups.specs.declared.tree.Group.{Group}
use Rattle.cell_machine.specs.declared.checks.Check.{Check}
use Rattle.cell_machine.specs.declared.arcs.Arc.{Arc}
use Rattle.timing_arcs.specs.Timing.{malformed_at as malformed_timing, unknown_names_at as unknown_timing}
use Rattle.timing_arcs.specs.Timing.{numbers_at as number_timing, check_at_of}
use Rattle.cell_refusals.specs.declared.refusal.Reason.TheVariants as reason
use Rattle.cell_refusals.specs.declared.refusal.Refusal.{Refusal}
pub use Rattle.cell_refusals.specs.Reasons.{Met, met, refused_or, first_refusal}
use Rattle.cell_timings.specs.declared.left_out.LeftOut.{LeftOut}
use Rattle.cell_attributes.specs.declared.texts.Text.{Text}
use Rattle.cell_attributes.specs.declared.state_readings.StateReading.{StateReading}
use Rattle.cell_attributes.specs.Groups.{state_groups}
use Rattle.cell_attributes.specs.Pins.{pins_of, owners_of}
use Rattle.cell_attributes.specs.Scans.{directions, three_states, banks, left_out_states, clear_presets, no_functions}
use Rattle.cell_attributes.specs.Declarations.{duplicates, bad_names}
use Rattle.cell_attributes.specs.Vocabulary.{vocabulary}
use Rattle.cell_attributes.specs.Texts.{malformed_at, unknown_at}
use Rattle.cell_attributes.specs.TextFaults.{malformed_in, unknown_in}
use Rattle.cell_timings.specs.PinTimings.{Answer, answers_from, places_from, arc_at_of, checks_in, arcs_in, left_out_from}
use Rattle.cell_attributes.specs.CellLaws.{readings_of, texts_of, numbers_of, groups_of}
use Rattle.cell_attributes.specs.Limits.{first_past, place_of_group, state_at, wide_output}
use Rattle.cell_reader.specs.Written.{coupled_of, own_conditions_of, wide_conditions_of, no_support_of, wide_support_of}

-- What reading the timing of each pin answers, where `pins` are the cell's pins with the time unit of the library.
abbrev pub timing_answers : Subject → Group → List Answer
timing_answers pins cell = answers_from pins 0 (owners_of cell)

-- The checks and the arcs of a cell stand in the order of its pins.
abbrev pub checks_of : Subject → Group → List Check
checks_of pins cell = flat_map checks_in (timing_answers pins cell)

abbrev pub arcs_of : Subject → Group → List Arc
arcs_of pins cell = flat_map arcs_in (timing_answers pins cell)

abbrev pub left_out_of : Subject → Group → List LeftOut
left_out_of pins cell = left_out_from 0 (owners_of cell) (timing_answers pins cell)

-- The offsets that are told of the timing of each pin, whatever else is wrong with it.
abbrev pub timing_places : (Subject → Group → List ℕ) → Subject → Group → List ℕ
timing_places places pins cell = places_from places pins 0 (owners_of cell)

-- The list of a reason holds each offset at which it is met, also where a reason before it is met at the same pin, group
-- or text.

-- the offsets of what is wrong in one way with the texts of states, with those of pins, and in the timing
abbrev pub wrong_texts : (StateReading → List ℕ) → (Text → List ℕ) → List ℕ → Group → List ℕ
wrong_texts in_states in_pins timing cell = flat_map in_states (readings_of cell) ++ (flat_map in_pins (texts_of cell) ++ timing)

-- A function text does not read or has more than 4,096 bytes, a table does not read, a needed attribute is absent, or
-- a group's arguments are not two names.
abbrev pub malformed : Subject → Group → List ℕ
malformed pins cell = wrong_texts malformed_in malformed_at (timing_places malformed_timing pins cell) cell

-- A text names nothing of the allowed kind.
abbrev pub unknown_names : Subject → Group → List ℕ
unknown_names pins cell = wrong_texts unknown_in unknown_at (timing_places unknown_timing pins cell) cell

-- A state text makes one state hang on another.
abbrev pub coupled : Group → List ℕ
coupled cell = flat_map (coupled_of (vocabulary cell) (length (pins_of cell))) (state_groups cell)

-- A check's condition names a pin of its events, or an arc's condition the pin where it starts.
abbrev pub own_conditions : Subject → Group → List ℕ
own_conditions pins cell = timing_places own_conditions_of pins cell

-- A time is no number within the limits, or the time unit is unknown and a time is used.
abbrev pub numbers : Subject → Group → List ℕ
numbers pins cell = timing_places number_timing pins cell

-- the offsets of what is over its limit, where these are those of the checks, of the arcs and of empty supports
abbrev pub limits_by : List ℕ → List ℕ → List ℕ → Group → List ℕ
limits_by checks arcs supports cell =
    bad_names cell
    ++ (first_past 64 (map place_of_group (owners_of cell))
    ++ (first_past 16 (flat_map state_at (state_groups cell)) ++ (first_past 256 checks ++ (first_past 1024 arcs ++ supports))))

-- A count or a name is over its limit, a name is empty or has a byte that may not stand in it, or the support of a state
-- group is empty. The limits are 64 pins, 16 states, 256 checks and 1,024 arcs.
abbrev pub limits : Subject → Group → List ℕ
limits pins cell =
    limits_by (timing_places check_at_of pins cell) (timing_places arc_at_of pins cell)
    (flat_map (no_support_of (vocabulary cell) (length (pins_of cell))) (state_groups cell)) cell

-- A state group has more than 8 pins in its support, or a condition or the function of an output more than 10 names. A text
-- that names nothing of the allowed kind is no function of an output.
abbrev pub udp_inputs : Subject → Group → List ℕ
udp_inputs pins cell =
    flat_map (wide_support_of (vocabulary cell) (length (pins_of cell))) (state_groups cell)
    ++ (flat_map (wide_output (vocabulary cell) (length (pins_of cell)) (groups_of cell) (numbers_of cell)) (owners_of cell)
    ++ timing_places wide_conditions_of pins cell)

-- The reasons that are tried before any text is read, each with the offsets at which the cell meets it.
abbrev pub early_reasons : List (List ℕ) → Group → List Met
early_reasons earlier cell =
    met reason.Direction (directions cell)
    ∷ met reason.ThreeState (three_states cell)
    ∷ met reason.Bank (banks cell)
    ∷ met reason.LeftOutState (left_out_states cell)
    ∷ met reason.ClearPreset (clear_presets cell)
    ∷ met reason.Duplicate (duplicates earlier cell)
    ∷ []

-- the reasons that are tried after them, but for the last, where these are the offsets at which each is met
abbrev pub middle_by : List ℕ → List ℕ → List ℕ → List ℕ → List ℕ → List ℕ → List ℕ → List Met
middle_by malformed unknown coupled without own numbers limits =
    met reason.Malformed malformed
    ∷ met reason.UnknownName unknown
    ∷ met reason.Coupled coupled
    ∷ met reason.NoFunction without
    ∷ met reason.OwnCondition own
    ∷ met reason.Number numbers
    ∷ met reason.Limit limits
    ∷ []

abbrev pub middle_reasons : Subject → Group → List Met
middle_reasons pins cell =
    middle_by (malformed pins cell) (unknown_names pins cell) (coupled cell) (no_functions cell) (own_conditions pins cell)
    (numbers pins cell) (limits pins cell)

-- the reasons that are tried after the texts are read
abbrev pub later_reasons : Subject → Group → List Met
later_reasons pins cell = middle_reasons pins cell ++ met reason.UdpInputs (udp_inputs pins cell) ∷ []

-- All fourteen reasons in their order.
abbrev pub reasons_of : Subject → List (List ℕ) → Group → List Met
reasons_of pins earlier cell = early_reasons earlier cell ++ later_reasons pins cell

-- Why a cell is refused, where it is.
abbrev pub refusal_of : Subject → List (List ℕ) → Group → Option Refusal
refusal_of pins earlier cell = first_refusal (reasons_of pins earlier cell)
