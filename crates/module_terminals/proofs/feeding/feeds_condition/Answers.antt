use Rattle.std.proofs.Common.{◌≡◌, map, ap, ◌∙◌}
use Rattle.bool_functions.specs.Support.{support_of}
use Rattle.specify_blocks.specs.declared.model.VNet.TheVariants as net
use Rattle.specify_blocks.specs.Generated.{pin_net}
use Rattle.module_terminals.specs.Terminals.{drives_value}
use Rattle.module_terminals.proofs.feeding.feeds_condition.Goals as goal

pub returns : goal.returns
returns c =
    let nets : c.as_slice-3.result.now ≡ map (pin_net c.args.cell.now.pins) (support_of c.args.condition.now)
    = c.as_slice-3.ensures ∙ c.pin_nets-nets.ensures
    ∙ (λ i. map (pin_net (c.as_slice.ensures i)) (c.as_slice-2.ensures i))
    ∙ ap (map (pin_net c.args.cell.now.pins)) c.support_of-names.ensures in
    c.drives_value.ensures ∙ ap (λ ns. drives_value c.args.model.now ns (net.Wire c.args.wire)) nets
