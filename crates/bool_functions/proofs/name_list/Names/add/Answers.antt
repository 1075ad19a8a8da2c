use Rattle.std.proofs.Common.{bytes_eq}
use Rattle.bool_functions.specs.NameBytes.{bytes_of}
use Rattle.bool_functions.proofs.NameLists.{IsDistinct-map, adds_new, adds_none}
use Rattle.bool_functions.proofs.name_list.Names.add.Goals as goal

pub returns-then-is_new-clause-added : goal.returns-then-is_new-clause-added
returns-then-is_new-clause-added c =
    adds_new bytes_of c.self.inside.set.keys c.insert.new.self.keys c.in_ok-kept.kept c.args.self.now c.args.name.now c.len-number.result c.in_ok-is_new.is_new
    c.self.view_is c.in_ok-kept.ensures.items c.len-number.ensures.len c.in_ok-is_new.ensures.keys c.in_ok-is_new.ensures.added c.if-is_new.true

pub returns-clause-added : goal.returns-clause-added
returns-clause-added c =
    adds_none bytes_of c.self.inside.set.keys c.insert.new.self.keys c.in_ok-kept.kept c.args.self.now c.args.name.now c.in_ok-is_new.is_new
    c.self.view_is c.in_ok-kept.ensures.items c.in_ok-is_new.ensures.keys c.in_ok-is_new.ensures.added c.if-is_new.false

pub invariant_of-self-2 : goal.invariant_of-self-2
invariant_of-self-2 c = IsDistinct-map bytes_of bytes_eq _ c.insert.ensures.unique

pub returns-clause-distinct : goal.returns-clause-distinct
returns-clause-distinct c = IsDistinct-map bytes_of bytes_eq _ c.insert.ensures.unique

pub invariant_of-self-then-is_new : goal.invariant_of-self-then-is_new
invariant_of-self-then-is_new c = IsDistinct-map bytes_of bytes_eq _ c.insert.ensures.unique

pub returns-then-is_new-clause-distinct : goal.returns-then-is_new-clause-distinct
returns-then-is_new-clause-distinct c = IsDistinct-map bytes_of bytes_eq _ c.insert.ensures.unique
