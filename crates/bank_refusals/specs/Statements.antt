-- What the pins of a bus or bundle are made of.
use Rattle.std.specs.Prelude.{◌≡◌, map, filter}
use Rattle.bank_refusals.specs.declared.pin_faults.PinStatements.{PinStatements}
use Rattle.bank_refusals.specs.Members.{inner_pins}
use Rattle.bank_refusals.specs.Fixed.{varies}

-- What is held is of one group.
pub record AreOfOneGroup (statements : PinStatements) : Type 0 where
  pub pins : statements.pins ≡ inner_pins statements.group.now.items
  pub varying : map (λ item. item.now) statements.varying.items ≡ filter (varies statements.vectors.now) statements.group.now.items
