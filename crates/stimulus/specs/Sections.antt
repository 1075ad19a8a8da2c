-- The sections of a stimulus (this project's format).
use Rattle.std.specs.Prelude.{List, [], ◌∷◌, ◌++◌, Option, Some, None}
use Rattle.cell_machine.specs.declared.changes.Change.{Change}
use Rattle.stimulus.specs.declared.context.Said.{Said}
use Rattle.stimulus.specs.declared.context.Said.TheVariants.{Nothing, Begins, Changes}
use Rattle.stimulus.specs.declared.sections.Section.{Section}

-- the changes ahead of the next section
abbrev pub changes_ahead : List Said → List Change
changes_ahead [] = []
changes_ahead (Nothing ∷ more) = changes_ahead more
changes_ahead (Begins cell ∷ more) = []
changes_ahead (Changes change ∷ more) = change ∷ changes_ahead more

-- The sections that lines make by what they say: one for each beginning, with the changes up to the next beginning.
abbrev pub sections_of : List Said → List Section
sections_of [] = []
sections_of (Nothing ∷ more) = sections_of more
sections_of (Begins cell ∷ more) = record { cell = cell; changes = changes_ahead more } ∷ sections_of more
sections_of (Changes change ∷ more) = sections_of more

-- a section that has begun, with the changes that further lines give it
abbrev pub continued : Section → List Said → Section
continued section more = record { cell = section.cell; changes = section.changes ++ changes_ahead more }

-- the sections that have ended and the one that has begun last, with those that further lines make
abbrev pub gathered : List Section → Option Section → List Said → List Section
gathered ended None more = ended ++ sections_of more
gathered ended (Some section) more = ended ++ continued section more ∷ sections_of more
