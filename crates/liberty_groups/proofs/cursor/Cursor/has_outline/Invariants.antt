use Rattle.std.proofs.Common.{◌≡◌, ◌+◌, length}
use Rattle.liberty_groups.specs.declared.outline.Standing.TheVariants.{Start}
use Rattle.liberty_groups.specs.Outline.{stands}
use Rattle.liberty_groups.proofs.cursor.Cursor.has_outline.Given as goal

abbrev pub invariant-loop-turn : goal.invariant-loop-turn
invariant-loop-turn l = record {
  left : l._turn + length l.self ≡ l._turn-end;
  stands : stands l.here l.self ≡ stands Start l.initial.self;
}
