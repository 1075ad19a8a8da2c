use Rattle.std.proofs.Common.{◌≡◌, ◌++◌, map, drop}
use Rattle.module_runs.specs.Keys.{udp_keys}
use Rattle.module_runs.proofs.module_rows.keys_of_all.Given as goal

-- the keys so far and those of the primitives that are left are all keys
abbrev pub invariant-loop-udp : goal.invariant-loop-udp
invariant-loop-udp l = l.all ++ map udp_keys (drop l.udp-index l.udps) ≡ map udp_keys l.udps
