-- What the timing of a pin group says, whichever of its pins it is read for.
use Rattle.std.specs.Prelude.{◌≡◌}
use Rattle.timing_arcs.specs.declared.subject.Subject.{Subject}
use Rattle.timing_arcs.specs.declared.timing_texts.TimingTexts.{TimingTexts}
use Rattle.timing_arcs.specs.GroupTexts.{pin_texts}
use Rattle.timing_arcs.specs.PinLimits.{pin_limits}

-- It is what the group says in the cell of the subject's pin.
pub record AreTexts (subject : Subject) (texts : TimingTexts) : Type 0 where
  pub of_groups : texts.groups ≡ pin_texts subject texts.pin.now
  pub of_limits : texts.limits ≡ pin_limits subject texts.pin.now
