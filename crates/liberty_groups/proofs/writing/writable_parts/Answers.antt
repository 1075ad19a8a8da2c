use Rattle.liberty_groups.proofs.WritesBack.{writable_parts}
use Rattle.liberty_groups.proofs.writing.writable_parts.Goals as goal

pub returns : goal.returns
returns c = writable_parts
