use Rattle.liberty_text.proofs.Quoting.{quotes_read_back}
use Rattle.liberty_text.proofs.text.quotes_read_back.Goals as goal

pub returns : goal.returns
returns c = quotes_read_back c.args.value.now
