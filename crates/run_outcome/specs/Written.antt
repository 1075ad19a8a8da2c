-- What a command appends to its model files and to the report. This project's rule.
use Rattle.std.specs.Prelude.{◌≡◌, ℕ, List, [], ◌++◌, Result, OnOk, OnErr}
use Rattle.text_io.specs.declared.slots.OutSlot.TheVariants.{VerilogText, VitalText, Report}
use Rattle.text_io.specs.Desk.{DeskState, wrote, IsPrefix}

-- the bytes for each of the three
pub record Written : Type 0 where
  pub verilog : List ℕ
  pub vital : List ℕ
  pub report : List ℕ

abbrev pub nothing_written : Written
nothing_written = record { verilog = []; vital = []; report = [] }

-- Verilog text alone
abbrev pub in_verilog : List ℕ → Written
in_verilog text = record { verilog = text; vital = []; report = [] }

-- VHDL text alone
abbrev pub in_vital : List ℕ → Written
in_vital text = record { verilog = []; vital = text; report = [] }

-- lines of the report alone
abbrev pub in_report : List ℕ → Written
in_report text = record { verilog = []; vital = []; report = text }

-- one after the other
abbrev pub joined : Written → Written → Written
joined a b = record { verilog = a.verilog ++ b.verilog; vital = a.vital ++ b.vital; report = a.report ++ b.report }

-- a prefix of each
pub record IsPart (part whole : Written) : Type 0 where
  pub verilog : IsPrefix part.verilog whole.verilog
  pub vital : IsPrefix part.vital whole.vital
  pub report : IsPrefix part.report whole.report

-- after these were appended
unfoldable pub wrote_all : DeskState → Written → DeskState
wrote_all s text = wrote (wrote (wrote s VerilogText text.verilog) VitalText text.vital) Report text.report

-- a part of these was appended, and nothing else changed
pub record WritesPart (old new : DeskState) (text : Written) : Type 0 where
  pub part : Written
  pub is_part : IsPart part text
  pub state : new ≡ wrote_all old part

-- After a call that appends these: on `Ok` all of them were appended, else a part of them. Nothing else changed.
pub record Writes {T E : Type 0} (old new : DeskState) (text : Written) (result : Result T E) : Type 0 where
  pub whole : OnOk result (new ≡ wrote_all old text)
  pub part : OnErr result (WritesPart old new text)
