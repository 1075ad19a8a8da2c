use Rattle.bus_texts.proofs.RunningTexts.{running_unread}
use Rattle.bus_texts.proofs.laws.running_texts.Goals as goal

pub returns : goal.returns
returns c = running_unread
