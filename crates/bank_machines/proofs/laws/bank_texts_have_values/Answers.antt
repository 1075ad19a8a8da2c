use Rattle.std.specs.Prelude.{false, slice_index_or}
use Rattle.bool_functions.proofs.Renamings.{value_by-renamed_by}
use Rattle.bank_machines.specs.BankTexts.{text_tree, numbers_at}
use Rattle.bank_machines.proofs.laws.bank_texts_have_values.Goals as goal

pub returns : goal.returns
returns c cell at text values = value_by-renamed_by (λ i. slice_index_or values i false) (numbers_at cell at text) (text_tree cell.vectors text)
