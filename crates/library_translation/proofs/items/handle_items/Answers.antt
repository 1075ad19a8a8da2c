use Rattle.library_reader.specs.Endings.{library_limit}
use Rattle.library_translation.proofs.ItemsLemmas.{all_bound, handles_items}
use Rattle.library_translation.proofs.items.handle_items.Goals as goal

pub fold_items-requires-clause-bound : goal.fold_items-requires-clause-bound
fold_items-requires-clause-bound g c = all_bound _ c.requires.models

pub returns-clause-text : goal.returns-clause-text
returns-clause-text g c = handles_items _ library_limit _ _ _ _ _ c.requires.fresh c.fold_items.ensures.items
