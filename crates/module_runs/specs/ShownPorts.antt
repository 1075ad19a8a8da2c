-- What an output of a module shows after a change.
use Rattle.std.specs.Prelude.{ℕ, List, None}
use Rattle.trit_cubes.specs.declared.trits.Trit.{Trit}
use Rattle.specify_blocks.specs.declared.model.VNet.TheVariants as net
use Rattle.specify_blocks.specs.declared.model.VModule.{VModule}
use Rattle.run_parts.specs.declared.shown.ShownPort.{ShownPort}
use Rattle.model_traces.specs.NetValues.{net_value}
use Rattle.model_traces.specs.PathDelays.{delay_at}

-- the value of an output and its delay at a change of an input, by what it showed before
abbrev pub shown_step : VModule → List Trit → List Trit → ℕ → ShownPort → ShownPort
shown_step m inputs states input was =
    record {
      port = was.port;
      value = net_value m inputs states (net.Port was.port);
      delay = delay_at m inputs states input was.port was.value (net_value m inputs states (net.Port was.port));
    }

-- the value of an output, without a delay, at the start
abbrev pub shown_first : VModule → List Trit → List Trit → ℕ → ShownPort
shown_first m inputs states p = record { port = p; value = net_value m inputs states (net.Port p); delay = None }
