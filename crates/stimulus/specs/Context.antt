-- What the lines before a line of a stimulus leave to be known (this project's format).
use Rattle.std.specs.Prelude.{◌+◌, Some, None}
use Rattle.stimulus.specs.declared.context.Context.{Context}
use Rattle.stimulus.specs.declared.context.Said.{Said}
use Rattle.stimulus.specs.declared.context.Said.TheVariants.{Nothing, Begins, Changes}

-- ahead of the first line no section has begun
abbrev pub start : Context
start = record { cell = None; last = None; changes = 0 }

-- What is known after a line: a section starts its cell anew, so its first change may have any time. The changes of all
-- sections are counted together.
abbrev pub after : Context → Said → Context
after context Nothing = context
after context (Begins cell) = record { cell = Some cell; last = None; changes = context.changes }
after context (Changes change) = record { cell = context.cell; last = Some change.at; changes = context.changes + 1 }
