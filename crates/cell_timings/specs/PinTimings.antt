-- The timing of the pins of a cell (Liberty Reference Manual, `timing` group).
use Rattle.std.specs.Prelude.{ℕ, ◌+◌, List, [], ◌∷◌, ◌++◌, map, codes, slice_get, Option, Some, None, Result, Ok, Err}
use Rattle.std.specs.Option.{option_map_or}
use Rattle.liberty_groups.specs.declared.tree.Item.{Item, out-Item}
use Rattle.liberty_groups.specs.declared.tree.Group.{Group}
use Rattle.cell_machine.specs.declared.checks.Check.{Check}
use Rattle.cell_machine.specs.declared.arcs.Arc.{Arc}
use Rattle.timing_arcs.specs.declared.fault.TimingFault.{TimingFault}
use Rattle.timing_arcs.specs.declared.fault.TimingFault.TheVariants as fault
use Rattle.timing_arcs.specs.declared.subject.Subject.{Subject}
use Rattle.timing_arcs.specs.declared.subject.PinTiming.{PinTiming}
use Rattle.liberty_groups.specs.Attributes.{Attribute, attribute_of, group_named}
use Rattle.timing_arcs.specs.Timing.{reading_answer, placed_arcs}
use Rattle.timing_arcs.specs.Merging.{merged_at}
use Rattle.cell_timings.specs.declared.left_out.LeftOut.{LeftOut}

-- the pin with this number, in the same cell
abbrev pub subject_at : Subject → ℕ → Subject
subject_at cell pin = record cell { place = pin }

-- What reading the timing of a pin answers.
abbrev pub Answer : Type 0
Answer = Result PinTiming TimingFault

-- For each pin, whose groups these are, what reading its timing answers, where the first has this number.
abbrev pub answers_from : Subject → ℕ → List Group → List Answer
answers_from cell pin [] = []
answers_from cell pin (owner ∷ owners) = reading_answer (subject_at cell pin) owner ∷ answers_from cell (pin + 1) owners

-- All offsets that are told of each pin's timing, one pin after another, whose groups these are, where the first has this
-- number.
abbrev pub places_from : (Subject → Group → List ℕ) → Subject → ℕ → List Group → List ℕ
places_from places cell pin [] = []
places_from places cell pin (owner ∷ owners) = places (subject_at cell pin) owner ++ places_from places cell (pin + 1) owners

-- For each arc of a pin the offset of the group that first makes it.
abbrev pub arc_at_of : Subject → Group → List ℕ
arc_at_of subject pin = merged_at (placed_arcs subject pin)

-- What an answer tells of what is wrong in a pin's timing in one way: of the kind that is wrong first, its least offset.
abbrev pub malformed_timing : Answer → List ℕ
malformed_timing (Err (fault.Malformed at)) = at ∷ []
malformed_timing _ = []

abbrev pub unknown_timing : Answer → List ℕ
unknown_timing (Err (fault.UnknownName at)) = at ∷ []
unknown_timing _ = []

abbrev pub own_timing : Answer → List ℕ
own_timing (Err (fault.OwnCondition at)) = at ∷ []
own_timing _ = []

abbrev pub number_timing : Answer → List ℕ
number_timing (Err (fault.Number at)) = at ∷ []
number_timing _ = []

-- what the timing of a pin has of one kind, where it is answered
abbrev pub in_timing : {A : Type 0} → (PinTiming → List A) → Answer → List A
in_timing part (Ok timing) = part timing
in_timing part (Err e) = []

abbrev pub checks_in : Answer → List Check
checks_in answer = in_timing (λ (timing : PinTiming). timing.checks) answer

abbrev pub arcs_in : Answer → List Arc
arcs_in answer = in_timing (λ (timing : PinTiming). timing.arcs) answer

abbrev pub check_at_in : Answer → List ℕ
check_at_in answer = in_timing (λ (timing : PinTiming). timing.check_at) answer

abbrev pub arc_at_in : Answer → List ℕ
arc_at_in answer = in_timing (λ (timing : PinTiming). timing.arc_at) answer

abbrev pub wide_in : Answer → List ℕ
wide_in answer = in_timing (λ (timing : PinTiming). option_map_or (λ at. at ∷ []) timing.wide []) answer

-- The type of the timing group that a statement is; one without `timing_type` is combinational.
abbrev pub type_text : Option Group → List ℕ
type_text None = codes "combinational"
type_text (Some group) = option_map_or (λ (a : Attribute). a.text) (attribute_of group (codes "timing_type"))
    (codes "combinational")

abbrev pub type_at : List Item → ℕ → List ℕ
type_at items place = option_map_or (λ item. type_text (group_named (codes "timing") (out-Item item))) (slice_get items place) []

-- the left-out timing group at this place among the statements of a pin
abbrev pub left_out_as : ℕ → Group → ℕ → LeftOut
left_out_as pin owner place = record { pin = pin; kind = type_at owner.items place }

-- The timing groups of a pin that are left out, by their places among its statements.
abbrev pub left_out_in : ℕ → Group → Answer → List LeftOut
left_out_in pin owner (Ok timing) = map (left_out_as pin owner) timing.left_out
left_out_in pin owner (Err e) = []

abbrev pub left_out_from : ℕ → List Group → List Answer → List LeftOut
left_out_from pin [] answers = []
left_out_from pin (owner ∷ owners) [] = []
left_out_from pin (owner ∷ owners) (answer ∷ answers) = left_out_in pin owner answer ++ left_out_from (pin + 1) owners answers
