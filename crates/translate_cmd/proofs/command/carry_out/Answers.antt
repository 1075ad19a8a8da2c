use Rattle.std.proofs.Common.{sym, ◌∙◌}
use Rattle.translate_cmd.proofs.RunsLemmas.{udp_runs, usage_runs, nothing_runs}
use Rattle.translate_cmd.proofs.command.carry_out.Goals as goal

pub returns-in-Ok-Udp-clause-writes : goal.returns-in-Ok-Udp-clause-writes
returns-in-Ok-Udp-clause-writes g c =
    udp_runs _ _ c.in-Ok-Udp.udp c.write_udp.result _ (sym c.in-Ok-Udp.ensures ∙ c.in-Ok-Udp.field-0-is) c.write_udp.ensures.text c.ended.ensures

pub returns-in-Ok-Usage-clause-writes : goal.returns-in-Ok-Usage-clause-writes
returns-in-Ok-Usage-clause-writes g c =
    usage_runs _ _ c.write_whole.result _ (sym c.in-Ok-Usage.ensures ∙ c.in-Ok-Usage.field-0-is) c.write_whole.ensures.text c.ended-in-Ok-Usage.ensures

pub returns-in-Err-clause-writes : goal.returns-in-Err-clause-writes
returns-in-Err-clause-writes g c = nothing_runs _
