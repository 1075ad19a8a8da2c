use Rattle.std.proofs.Common.{◌∙◌, sym, ap, position, bytes_eq}
use Rattle.bool_functions.specs.NameBytes.{bytes_of}
use Rattle.bool_functions.specs.NameList.{number_of}
use Rattle.bool_functions.proofs.NameLists.{position-map}
use Rattle.bool_functions.proofs.name_list.Names.number.Goals as goal

pub returns-then-names-le-FEW : goal.returns-then-names-le-FEW
returns-then-names-le-FEW c =
    c.compared.ensures
    ∙ ap (position (λ kept. bytes_eq c.args.name.now (bytes_of kept))) c.as_slice-names.ensures.keys
    ∙ sym (position-map bytes_of (bytes_eq c.args.name.now) c.self.inside.set.keys)
    ∙ ap (λ names. number_of names c.args.name.now) c.self.view_is

pub returns : goal.returns
returns c =
    c.get_index_of.ensures.index
    ∙ sym (position-map bytes_of (bytes_eq c.args.name.now) c.self.inside.set.keys)
    ∙ ap (λ names. number_of names c.args.name.now) c.self.view_is
