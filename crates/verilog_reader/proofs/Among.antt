-- Nets of lists that are joined.
use Rattle.std.proofs.Common.{◌≡◌, ◌&&◌, List, ◌++◌}
use Rattle.std.proofs.lemmas.List.Folds.{list_all-append}
use Rattle.std.specs.List.{list_all}
use Rattle.verilog_grammar.specs.specify_blocks.declared.model.VNet.{VNet}
use Rattle.verilog_grammar.specs.specify_blocks.declared.model.VModule.{VModule}
use Rattle.verilog_grammar.specs.VerilogModules.{is_driven_already}

pub all_appended : (m : VModule) (nets others : List VNet)
    → list_all (is_driven_already m)
    (nets ++ others) ≡ (list_all (is_driven_already m) nets && list_all (is_driven_already m) others)
all_appended m nets others = list_all-append (is_driven_already m) nets others
