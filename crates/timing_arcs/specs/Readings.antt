-- What is noted in a timing group before anything is made of it.
use Rattle.std.specs.Prelude.{ℕ, Bool, Option, None, if◌then◌else◌}
use Rattle.liberty_groups.specs.declared.tree.Group.{Group}
use Rattle.timing_arcs.specs.declared.offsets.Offsets.{Offsets}
use Rattle.timing_arcs.specs.declared.subject.Subject.{Subject}
use Rattle.cell_machine.specs.Delay.{lesser, least}
use Rattle.timing_arcs.specs.Timing.{malformed_in, unknown_in, own_in, wide_in, bad_numbers_in}

-- an offset, where something is so
abbrev pub where_so : Bool → Option ℕ → Option ℕ
where_so so at = if so then at else None

-- the least offsets of two parts
abbrev pub joined : Offsets → Offsets → Offsets
joined a b = record {
  malformed = lesser a.malformed b.malformed;
  unknown_name = lesser a.unknown_name b.unknown_name;
  own_condition = lesser a.own_condition b.own_condition;
  number = lesser a.number b.number;
  wide = lesser a.wide b.wide;
}

abbrev pub no_offsets : Offsets
no_offsets = record { malformed = None; unknown_name = None; own_condition = None; number = None; wide = None }

-- of a group
abbrev pub offsets_in : Subject → Group → Offsets
offsets_in subject group = record {
  malformed = least (malformed_in subject group);
  unknown_name = least (unknown_in subject group);
  own_condition = least (own_in subject group);
  number = least (bad_numbers_in subject group);
  wide = least (wide_in subject group);
}
