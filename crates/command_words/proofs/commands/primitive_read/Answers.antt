use Rattle.command_words.proofs.Bounds.{has_below}
use Rattle.command_words.proofs.commands.primitive_read.Goals as goal

pub function_udp-requires-clause-numbered : goal.function_udp-requires-clause-numbered
function_udp-requires-clause-numbered c = has_below c.args.function.now c.args.count c.requires
