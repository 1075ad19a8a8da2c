-- What the words of a change say.
use Rattle.std.proofs.Common.{◌≡◌, ℕ, true, false, nat_le, if◌then◌else◌, List, ap, ◌∙◌}
use Rattle.std.specs.Prelude.{Some, Ok, Err, ok_or}
use Rattle.trit_cubes.specs.declared.trits.Trit.{Trit}
use Rattle.stimulus.specs.declared.faults.Cause.TheVariants as cause
use Rattle.stimulus.specs.declared.catalog.PinFound.TheVariants as pins
use Rattle.stimulus.specs.declared.context.Context.{Context}
use Rattle.stimulus.specs.declared.context.Said.TheVariants.{Changes}
use Rattle.stimulus.specs.declared.line_meanings.TheConstants.{MAX_CHANGES}
use Rattle.stimulus.specs.Catalog.{Listing, pin_found}
use Rattle.stimulus.specs.Times.{time_of}
use Rattle.stimulus.specs.LineMeanings.{and_then, input_of, value_of, is_later, changed_at, changed, written_meaning}
use Rattle.stimulus.specs.NextLine.{IsWordAhead, IsTimeAhead, IsByteAhead, IsChangeAhead}
use Rattle.stimulus.proofs.PlainLines.{plain_found}

says_change :
    (listing : Listing) (context : Context) (time name value : List ℕ) (cell at pin : ℕ) (to : Trit)
    → context.cell ≡ Some cell → time_of time ≡ Some at → nat_le MAX_CHANGES context.changes ≡ false
    → pin_found listing cell name ≡ pins.Input pin → value_of value ≡ Some to → is_later at context.last ≡ true
    → changed listing context time name value ≡ Ok (Changes (record { at = at; pin = pin; to = to }))
says_change listing context time name value cell at pin to in_cell timed fewer found valued later =
    (λ i. and_then (ok_or (in_cell i) cause.Form) (λ cell.
    and_then (ok_or (timed i) cause.Form) (λ at.
    if (fewer i) then Err cause.Count else
    and_then (input_of (pin_found listing cell name)) (λ number.
    and_then (ok_or (valued i) cause.Value) (λ to. changed_at context at number to)))))
    ∙ ap (λ answer. and_then (input_of answer) (λ number. changed_at context at number to)) found
    ∙ ap (λ is. if is then Ok (Changes (record { at = at; pin = pin; to = to })) else Err cause.Time) later

-- the words of a first line, and what they say
pub change_is :
    (listing : Listing) (context : Context) (text rest1 name rest2 value rest : List ℕ) (cell at pin : ℕ) (to : Trit)
    → IsTimeAhead text at rest1 → IsWordAhead rest1 name rest2 → IsByteAhead rest2 value rest
    → context.cell ≡ Some cell → nat_le MAX_CHANGES context.changes ≡ false → pin_found listing cell name ≡ pins.Input pin
    → value_of value ≡ Some to → is_later at context.last ≡ true
    → IsChangeAhead listing context text (record { at = at; pin = pin; to = to }) rest
change_is listing context text rest1 name rest2 value rest cell at pin to t p v in_cell fewer found valued later =
    let line = plain_found text t.word rest1 name rest2 value rest t.says t.ahead p v in
    record {
      lines = line.lines;
      says =
          ap (written_meaning listing context) line.written
          ∙ says_change listing context t.word name value cell at pin to in_cell t.is fewer found valued later;
      shorter = line.shorter;
    }
