-- How much of the timing of a cell's pins is held: what decides whether the cell is refused, and all of it where it is not.
use Rattle.std.specs.Prelude.{◌≡◌, ⊤, ℕ, ◌+◌, ◌-◌, nat_le, List, [], ◌∷◌, length, Option, Some, None}
use Rattle.liberty_groups.specs.declared.tree.Group.{Group}
use Rattle.timing_arcs.specs.declared.subject.Subject.{Subject}
use Rattle.timing_arcs.specs.declared.subject.Room.{Room}
use Rattle.timing_arcs.specs.declared.timing_texts.TimingTexts.{TimingTexts}
use Rattle.timing_arcs.specs.Timing.{reading_answer, held_answer}
use Rattle.timing_arcs.specs.TimingTexts.{AreTexts}
use Rattle.cell_timings.specs.PinTimings.{Answer, subject_at, checks_in, arcs_in}

-- the room for the timing of a cell with so many pins: one more than the limits
abbrev pub cell_room : ℕ → Room
cell_room pins = record { checks = 257; arcs = 1025; left_out = nat_le pins 64 }

-- what an answer leaves of it
abbrev pub left_room : Room → Answer → Room
left_room room answer =
    record room { checks = room.checks - length (checks_in answer); arcs = room.arcs - length (arcs_in answer) }

-- what is held of what reading the timing of a pin with this number answers
abbrev pub next_answer : Room → Subject → ℕ → Group → Answer
next_answer room cell pin owner = held_answer room (reading_answer (subject_at cell pin) owner)

-- the texts of a pin group in the cell of a pin, where they are read for all of its pins
abbrev pub AreSharedTexts : Subject → Group → Option TimingTexts → Type 0
AreSharedTexts subject owner None = ⊤
AreSharedTexts subject owner (Some texts) = AreTexts subject texts × (texts.pin.now ≡ owner)

-- what is held of what reading the timing of each pin answers, where the first has this number
abbrev pub held_from : Room → Subject → ℕ → List Group → List Answer
held_from room cell pin [] = []
held_from room cell pin (owner ∷ owners) =
    next_answer room cell pin owner ∷ held_from (left_room room (next_answer room cell pin owner)) cell (pin + 1) owners
