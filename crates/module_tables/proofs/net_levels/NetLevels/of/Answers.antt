use Rattle.std.proofs.Common.{◌≡◌, Some, sym, arith}
use Rattle.module_terminals.specs.Terminals.{driving}
use Rattle.module_terminals.proofs.SoundInstances.{driving-stands, driven-standing}
use Rattle.module_tables.proofs.net_levels.NetLevels.of.Goals as goal

pub of_instance-requires-clause-stands : goal.of_instance-requires-clause-stands
of_instance-requires-clause-stands c =
    let is : driving c.args.model.now c.args.net ≡ Some c.in-Some.instance.now = sym c.in-Some.ensures in
    driving-stands c.args.model.now c.args.net c.in-Some.instance.now c.requires.sound is

pub of_instance-requires-clause-few : goal.of_instance-requires-clause-few
of_instance-requires-clause-few c =
    let is : driving c.args.model.now c.args.net ≡ Some c.in-Some.instance.now = sym c.in-Some.ensures in
    omega (arith, (driven-standing c.args.model.now c.args.nets.now c.args.net c.in-Some.instance.now c.requires.driven is).0, c.requires.few)

pub of_instance-requires-clause-stateless : goal.of_instance-requires-clause-stateless
of_instance-requires-clause-stateless c =
    let is : driving c.args.model.now c.args.net ≡ Some c.in-Some.instance.now = sym c.in-Some.ensures in
    (driven-standing c.args.model.now c.args.nets.now c.args.net c.in-Some.instance.now c.requires.driven is).1
