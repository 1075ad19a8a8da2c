use Rattle.std.proofs.Common.{◌∙◌, ap, not}
use Rattle.model_files.proofs.KnownThings.{found-some}
use Rattle.model_replay.proofs.known.learn.Goals as goal

pub returns-else-is_none-clause-found : goal.returns-else-is_none-clause-found
returns-else-is_none-clause-found g c =
    found-some c.args.known.now.items c.args.number c.index.result.now c.requires.inside c.index.ensures (c.is_none.ensures ∙ ap not c.if-is_none.false)
