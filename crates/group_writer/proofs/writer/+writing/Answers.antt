use Rattle.std.proofs.Common.{arith}
use Rattle.std.proofs.lemmas.Grind.{common_steps}
use Rattle.liberty_groups.proofs.Texts.{group_text_is}
use Rattle.group_writer.proofs.writer.+writing.Goals as goal

pub push_group-returns : goal.push_group-returns
push_group-returns t c = rw (group_text_is c.args.group.now) (grind (arith, common_steps))
