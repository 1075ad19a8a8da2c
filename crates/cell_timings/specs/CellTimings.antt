-- The timing of a cell: what the answers of reading the timing of its pins tell, and how much of them is held.
use Rattle.std.specs.Prelude.{◌≡◌, ℕ, ◌+◌, ◌≤◌, List, [], ◌++◌, length, flat_map}
use Rattle.liberty_groups.specs.declared.tree.Group.{Group}
use Rattle.cell_machine.specs.Delay.{lesser, least}
use Rattle.timing_arcs.specs.declared.subject.Subject.{Subject}
use Rattle.timing_arcs.specs.declared.subject.Room.{Room}
use Rattle.cell_attributes.specs.Limits.{first_past}
use Rattle.cell_timings.specs.declared.offsets.LeastOffsets.{LeastOffsets}
use Rattle.cell_timings.specs.declared.timings.CellTiming.{CellTiming}
use Rattle.cell_timings.specs.declared.answers.TimingSoFar.{TimingSoFar}
use Rattle.cell_timings.specs.PinTimings.{Answer, answers_from, malformed_timing, unknown_timing, own_timing, number_timing}
use Rattle.cell_timings.specs.PinTimings.{checks_in, arcs_in, check_at_in, arc_at_in, wide_in, left_out_in, left_out_from}
use Rattle.cell_timings.specs.Held.{left_room, next_answer, held_from}

-- The timing of pins, whose groups and whose answers these are, where the first has this number.
abbrev pub timing_told : ℕ → List Group → List Answer → CellTiming
timing_told pin owners answers = record {
  checks = flat_map checks_in answers;
  arcs = flat_map arcs_in answers;
  made_at = record { checks = flat_map check_at_in answers; arcs = flat_map arc_at_in answers };
  left_out = left_out_from pin owners answers;
  least = record {
    malformed = least (flat_map malformed_timing answers);
    names = record { unknown = least (flat_map unknown_timing answers); own = least (flat_map own_timing answers) };
    number = least (flat_map number_timing answers);
    wide = least (flat_map wide_in answers);
  };
}

-- Where the timing of one pin is wrong, by its answer.
abbrev pub offsets_in : Answer → LeastOffsets
offsets_in answer = record {
  malformed = least (malformed_timing answer);
  names = record { unknown = least (unknown_timing answer); own = least (own_timing answer) };
  number = least (number_timing answer);
  wide = least (wide_in answer);
}

-- of two offsets in each way in which timing may be wrong the lesser
abbrev pub lesser_offsets : LeastOffsets → LeastOffsets → LeastOffsets
lesser_offsets first rest = record {
  malformed = lesser first.malformed rest.malformed;
  names = record { unknown = lesser first.names.unknown rest.names.unknown; own = lesser first.names.own rest.names.own };
  number = lesser first.number rest.number;
  wide = lesser first.wide rest.wide;
}

-- the timing of pins and of those behind them
abbrev pub timing_and : CellTiming → CellTiming → CellTiming
timing_and first rest = record {
  checks = first.checks ++ rest.checks;
  arcs = first.arcs ++ rest.arcs;
  made_at = record {
    checks = first.made_at.checks ++ rest.made_at.checks;
    arcs = first.made_at.arcs ++ rest.made_at.arcs;
  };
  left_out = first.left_out ++ rest.left_out;
  least = lesser_offsets first.least rest.least;
}

-- the timing of one pin
abbrev pub pin_told : ℕ → Group → Answer → CellTiming
pin_told pin owner answer = record {
  checks = checks_in answer;
  arcs = arcs_in answer;
  made_at = record { checks = check_at_in answer; arcs = arc_at_in answer };
  left_out = left_out_in pin owner answer;
  least = offsets_in answer;
}

-- the timing so far, and that of the next pin of the cell, whose group this is, as far as there is room
abbrev pub with_pin : Subject → TimingSoFar → Group → TimingSoFar
with_pin cell before owner = record {
  timing = timing_and before.timing (pin_told before.pins owner (next_answer before.room cell before.pins owner));
  pins = before.pins + 1;
  room = left_room before.room (next_answer before.room cell before.pins owner);
}

-- the timing of pins of a cell, whose groups these are, as far as there is room
abbrev pub timing_held : Room → Subject → List Group → CellTiming
timing_held room cell owners = timing_told 0 owners (held_from room cell 0 owners)

-- What is held decides as all does, and is all where no limit is passed.
pub record IsHeld (subject : Subject) (owners : List Group) (timing : CellTiming) : Type 0 where
  pub malformed : timing.least.malformed ≡ least (flat_map malformed_timing (answers_from subject 0 owners))
  pub unknown_name : timing.least.names.unknown ≡ least (flat_map unknown_timing (answers_from subject 0 owners))
  pub own_condition : timing.least.names.own ≡ least (flat_map own_timing (answers_from subject 0 owners))
  pub number : timing.least.number ≡ least (flat_map number_timing (answers_from subject 0 owners))
  pub wide : timing.least.wide ≡ least (flat_map wide_in (answers_from subject 0 owners))
  pub check_at : first_past 256 timing.made_at.checks ≡ first_past 256 (flat_map check_at_in (answers_from subject 0 owners))
  pub arc_at : first_past 1024 timing.made_at.arcs ≡ first_past 1024 (flat_map arc_at_in (answers_from subject 0 owners))
  pub checks : first_past 256 (flat_map check_at_in (answers_from subject 0 owners)) ≡ []
      → timing.checks ≡ flat_map checks_in (answers_from subject 0 owners)
  pub arcs : first_past 1024 (flat_map arc_at_in (answers_from subject 0 owners)) ≡ []
      → timing.arcs ≡ flat_map arcs_in (answers_from subject 0 owners)
  pub left_out : length owners ≤ 64 → timing.left_out ≡ left_out_from 0 owners (answers_from subject 0 owners)
