use Rattle.std.proofs.Common.{◌∷◌, ◌++◌}
use Rattle.stimulus.proofs.Runs.{appended}
use Rattle.stimulus.proofs.waiting.put_tagged.Goals as goal

pub returns-then-has_room-clause-text : goal.returns-then-has_room-clause-text
returns-then-has_room-clause-text g c =
    appended _ c.args.waiting.now (c.args.tag ∷ (c.args.text.now ++ c.args.pieces.now)) _ _ c.put_behind.ensures
