-- Why a cell is refused whose buses, bundles and banks are not expanded to single bits. This project's rules.
use Rattle.std.specs.Prelude.{Option, Some, None}
use Rattle.bank_cells.specs.declared.refusal.BankReason.{BankReason}
use Rattle.bank_cells.specs.declared.refusal.BankReason.TheVariants as bank
use Rattle.bank_cells.specs.declared.refusal.BankRefusal.{BankRefusal}
use Rattle.cell_reader.specs.declared.refusal.Reason.{Reason}
use Rattle.cell_reader.specs.declared.refusal.Reason.TheVariants as reason
use Rattle.cell_reader.specs.declared.refusal.Refusal.{Refusal}

-- a reason not to expand the group of a cell, as a reason to refuse the cell
abbrev pub cell_reason : BankReason → Reason
cell_reason bank.Bank = reason.Bank
cell_reason bank.Width = reason.Width

abbrev pub cell_refusal : BankRefusal → Refusal
cell_refusal refusal = record { reason = cell_reason refusal.reason; at = refusal.at }

-- A cell whose group is not expanded is refused for that, and another one as its expanded group is.
abbrev pub refusal_by : Option BankRefusal → Option Refusal → Option Refusal
refusal_by None of_bits = of_bits
refusal_by (Some refusal) of_bits = Some (cell_refusal refusal)
