use Rattle.std.proofs.Common.{◌≡◌, ◌≤◌, ◌<◌, ◌-◌, ◌∙◌, ap, subst, drop, get_or, length, arith}
use Rattle.specify_blocks.specs.Nets.{net_driven}
use Rattle.module_runs.specs.NetDrivers.{IsKnown, driver_from}
use Rattle.module_runs.proofs.DriverLemmas.{none-known, driver-before, all-seen}
use Rattle.module_runs.proofs.drivers.Drivers.of.Goals as goal

pub loop-i-init : goal.loop-i-init
loop-i-init c = λ n.
    let instances = c.args.model.now.instances in
    let few : length instances ≤ length c.as_slice-instances.result.now = omega (arith, ap length c.as_slice-instances.ensures) in
    none-known (record { ports = c.in_ok-ports.ports; wires = c.in_ok-wires.wires }) _ _ (length c.as_slice-instances.result.now) instances n
    c.in_ok-ports.ensures c.in_ok-wires.ensures few

pub loop-i-preserved : goal.loop-i-preserved
loop-i-preserved c = λ n.
    let instances = c.args.model.now.instances in
    let xs = c.as_slice-instances.result.now in
    let i = c.loop-i.i in
    let some : 0 < i = omega arith in
    let few : i ≤ length xs = omega arith in
    let driven : c.net_driven.result ≡ net_driven (get_or xs (i - 1) c.index-instances-i.result)
    = let e = c.net_driven.ensures in let f = c.index-instances-i.is in cc in
    subst (λ o. IsKnown c.note.new.self n o)
    (driver-before instances xs i c.index-instances-i.result c.net_driven.result n c.as_slice-instances.ensures some few driven)
    (c.note.ensures n _ (c.loop-i.invariant n))

pub returns : goal.returns
returns c = λ n.
    let instances = c.args.model.now.instances in
    let done : c.loop-i.i ≡ 0 = omega arith in
    subst (λ o. IsKnown c.loop-i.drivers n o)
    (ap (λ j. driver_from j (drop j instances) n) done ∙ all-seen instances n) (c.loop-i.invariant n)
