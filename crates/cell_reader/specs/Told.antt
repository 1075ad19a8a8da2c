-- What of a cell's refusals is known when its texts and the timing of its pins are read: of each text and of the timing of
-- each pin the kind that is wrong first, of the timing at its least offset. This decides as the lists of `Refusals` do.
use Rattle.std.specs.Prelude.{ℕ, List, [], ◌∷◌, ◌++◌, map, flat_map}
use Rattle.timing_arcs.specs.declared.subject.Subject.{Subject}
use Rattle.liberty_groups.specs.declared.tree.Group.{Group}
use Rattle.cell_reader.specs.declared.limits.WrongSupport.{WrongSupport}
use Rattle.cell_reader.specs.declared.limits.WrongSupport.TheVariants as support
use Rattle.cell_reader.specs.declared.text_faults.WrongText.{WrongText}
use Rattle.cell_reader.specs.declared.text_faults.WrongText.TheVariants as wrong
use Rattle.cell_attributes.specs.declared.texts.Text.{Text}
use Rattle.cell_attributes.specs.declared.state_readings.StateReading.{StateReading}
use Rattle.cell_attributes.specs.Groups.{state_groups}
use Rattle.cell_attributes.specs.Pins.{owners_of}
use Rattle.cell_attributes.specs.Scans.{no_functions}
use Rattle.cell_attributes.specs.Declarations.{bad_names}
use Rattle.cell_attributes.specs.Texts.{malformed_at, unknown_at, coupled_at}
use Rattle.cell_attributes.specs.TextFaults.{malformed_in, unknown_in, coupled_in}
use Rattle.cell_attributes.specs.CellLaws.{readings_of, texts_of}
use Rattle.cell_attributes.specs.Limits.{first_past, place_of_group, state_at, no_support_in, wide_support_in}
use Rattle.cell_refusals.specs.declared.refusal.Reason.TheVariants as reason
use Rattle.cell_timings.specs.PinTimings.{malformed_timing, unknown_timing, own_timing, number_timing, check_at_in}
use Rattle.cell_timings.specs.PinTimings.{arc_at_in}
use Rattle.cell_reader.specs.Refusals.{Met, met, timing_answers}

-- what is wrong in this way with the texts of a state group, and with a text
abbrev pub wrong_in : WrongText → StateReading → List ℕ
wrong_in wrong.Malformed = malformed_in
wrong_in wrong.Unknown = unknown_in
wrong_in wrong.Coupled = coupled_in

abbrev pub wrong_at : WrongText → Text → List ℕ
wrong_at wrong.Malformed = malformed_at
wrong_at wrong.Unknown = unknown_at
wrong_at wrong.Coupled = coupled_at

-- where the support of a state group is of this size
abbrev pub wrong_support_in : WrongSupport → StateReading → List ℕ
wrong_support_in support.Empty = no_support_in
wrong_support_in support.Wide = wide_support_in

abbrev pub malformed_told : Subject → Group → List ℕ
malformed_told pins cell =
    flat_map malformed_in (readings_of cell)
    ++ (flat_map malformed_at (texts_of cell) ++ flat_map malformed_timing (timing_answers pins cell))

abbrev pub unknown_told : Subject → Group → List ℕ
unknown_told pins cell =
    flat_map unknown_in (readings_of cell)
    ++ (flat_map unknown_at (texts_of cell) ++ flat_map unknown_timing (timing_answers pins cell))

abbrev pub coupled_told : Group → List ℕ
coupled_told cell = flat_map coupled_in (readings_of cell)

abbrev pub own_told : Subject → Group → List ℕ
own_told pins cell = flat_map own_timing (timing_answers pins cell)

abbrev pub number_told : Subject → Group → List ℕ
number_told pins cell = flat_map number_timing (timing_answers pins cell)

abbrev pub limits_told : Subject → Group → List ℕ
limits_told pins cell =
    bad_names cell
    ++ (first_past 64 (map place_of_group (owners_of cell))
    ++ (first_past 16 (flat_map state_at (state_groups cell))
    ++ (first_past 256 (flat_map check_at_in (timing_answers pins cell))
    ++ (first_past 1024 (flat_map arc_at_in (timing_answers pins cell))
    ++ flat_map no_support_in (readings_of cell)))))

-- the reasons that are tried after the texts are read, but for the last
abbrev pub told_reasons : Subject → Group → List Met
told_reasons pins cell =
    met reason.Malformed (malformed_told pins cell)
    ∷ met reason.UnknownName (unknown_told pins cell)
    ∷ met reason.Coupled (coupled_told cell)
    ∷ met reason.NoFunction (no_functions cell)
    ∷ met reason.OwnCondition (own_told pins cell)
    ∷ met reason.Number (number_told pins cell)
    ∷ met reason.Limit (limits_told pins cell)
    ∷ []
