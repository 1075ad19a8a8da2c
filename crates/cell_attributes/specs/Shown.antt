-- What stands behind the references that the program holds.
use Rattle.std.specs.Prelude.{map}
use Rattle.std.specs.Option.{option_map}
use Rattle.cell_attributes.specs.declared.states.StateName.{StateName as HeldState}
use Rattle.cell_attributes.specs.declared.states.Arguments.{Arguments as HeldArguments}
use Rattle.cell_attributes.specs.declared.declarations.Declared.{Declared as HeldName}
use Rattle.cell_attributes.specs.declared.vocabulary.Entry.{Entry as HeldEntry}
use Rattle.cell_attributes.specs.declared.vocabulary.Vocabulary.{Vocabulary as HeldVocabulary}
use Rattle.cell_attributes.specs.States.{StateName, Arguments}
use Rattle.cell_attributes.specs.Declarations.{Declared}
use Rattle.cell_attributes.specs.Vocabulary.{Entry, Vocabulary}

abbrev pub shown_state : HeldState → StateName
shown_state state = record { first = state.first.now; second = option_map (λ name. name.now) state.second }

abbrev pub shown_name : HeldName → Declared
shown_name declared = record { name = declared.name.now; role = declared.role; at = declared.at }

abbrev pub shown_entry : HeldEntry → Entry
shown_entry entry = record { name = entry.name.now; class = entry.class; target = entry.target.now }

abbrev pub shown_vocabulary : HeldVocabulary → Vocabulary
shown_vocabulary v = record { names = v.names; classes = v.classes.items; targets = map (λ name. name.now) v.targets.items }

abbrev pub shown_arguments : HeldArguments → Arguments
shown_arguments arguments = record { first = arguments.first.now; second = arguments.second.now }
