use Rattle.std.proofs.Common.{bytes_eq}
use Rattle.bool_functions.specs.NameBytes.{bytes_of}
use Rattle.bool_functions.proofs.NameLists.{IsDistinct-map}
use Rattle.bool_functions.proofs.name_list.Names.new.Goals as goal

pub invariant_of-result : goal.invariant_of-result
invariant_of-result c = IsDistinct-map bytes_of bytes_eq _ c.new.ensures.unique
