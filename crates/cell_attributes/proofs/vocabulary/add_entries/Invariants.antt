use Rattle.std.proofs.Common.{◌≡◌, ◌++◌, map, drop}
use Rattle.cell_attributes.specs.Vocabulary.{firsts_after, entry_names, entry_classes, entry_targets}
use Rattle.cell_attributes.specs.Shown.{shown_entry}
use Rattle.cell_attributes.proofs.vocabulary.add_entries.Given as goal

-- what was added, with what the other entries add, is what all entries add
abbrev pub invariant-loop-entry : goal.invariant-loop-entry
invariant-loop-entry l = record {
  names_so_far : l.vocabulary.names ++ entry_names (firsts_after l.vocabulary.names (map shown_entry (drop l.entry-index l.entries))) ≡ l.initial.vocabulary.names ++ entry_names (firsts_after l.initial.vocabulary.names (map shown_entry l.entries));
  classes_so_far : l.vocabulary.classes.items ++ entry_classes (firsts_after l.vocabulary.names (map shown_entry (drop l.entry-index l.entries))) ≡ l.initial.vocabulary.classes.items ++ entry_classes (firsts_after l.initial.vocabulary.names (map shown_entry l.entries));
  targets_so_far : map (λ name. name.now) l.vocabulary.targets.items ++ entry_targets (firsts_after l.vocabulary.names (map shown_entry (drop l.entry-index l.entries))) ≡ map (λ name. name.now) l.initial.vocabulary.targets.items ++ entry_targets (firsts_after l.initial.vocabulary.names (map shown_entry l.entries));
}
