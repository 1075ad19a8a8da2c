-- The text of a check by its kind.
use Rattle.std.proofs.Common.{◌≡◌, ℕ, List, Result, sym, subst}
use Rattle.text_io.specs.declared.outside.Failed.{Failed}
use Rattle.text_io.specs.declared.slots.OutSlot.{OutSlot}
use Rattle.text_io.specs.Desk.{DeskState}
use Rattle.text_io.specs.Line.{PutsText}
use Rattle.cell_machine.specs.declared.checks.CheckKind.{CheckKind}
use Rattle.udp_tables.specs.declared.timing_checks.TimingCheck.{TimingCheck}
use Rattle.specify_blocks.specs.declared.model.VModule.{VModule}
use Rattle.verilog_writer.specs.Timing.{kind_text, check_text}

pub as_kind :
    {T : Type 0} (s t : DeskState) (slot : OutSlot) (l n : List ℕ) (m : VModule) (k : TimingCheck) (kind : CheckKind)
    (r : Result T Failed)
    → k.kind ≡ kind → PutsText s t slot l (kind_text m k kind) n r → PutsText s t slot l (check_text m k) n r
unfolding check_text
as_kind s t slot l n m k kind r e p = subst (λ x. PutsText s t slot l (kind_text m k x) n r) (sym e) p
