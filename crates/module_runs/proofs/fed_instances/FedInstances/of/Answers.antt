use Rattle.std.proofs.Common.{◌∙◌}
use Rattle.run_parts.proofs.NumberedListLemmas.{same-lists}
use Rattle.module_runs.proofs.FedLemmas.{inputs-feed, register-feeds, states-feed}
use Rattle.module_runs.proofs.fed_instances.FedInstances.of.Goals as goal

pub returns : goal.returns
returns c =
    let ports = c.args.ports.now.list.now in
    let instances = c.args.instances.now in
    record {
      each_input = c.in_ok-by_input.ensures.len;
      fed_by_input = same-lists c.in_ok-by_input.by_input _ _ (inputs-feed ports instances) c.in_ok-by_input.ensures.lists;
      fed_by_register = c.in_ok-by_register.ensures ∙ register-feeds ports instances;
      fed_by_states = c.in_ok-by_states.ensures ∙ states-feed instances;
    }
