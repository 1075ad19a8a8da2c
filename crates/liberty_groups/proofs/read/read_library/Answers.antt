use Rattle.std.proofs.Common.{◌≡◌, ◌∙◌, ℕ, Bool, List, Result, Ok, Err, IfOk, sym, subst}
use Rattle.liberty_groups.specs.declared.read.End.{End}
use Rattle.liberty_groups.specs.declared.read.Reading.{Reading}
use Rattle.liberty_groups.specs.Library.{Found, found_of}
use Rattle.liberty_groups.specs.Answer.{found_of_bytes, end_of_bytes, IsReading, Is}
use Rattle.liberty_groups.proofs.Exactly.{reads_so, found_one, ends_one}
use Rattle.liberty_groups.proofs.read.read_library.Goals as goal

is_reading : {F : Type 0} (bytes : List ℕ) (w : Bool) (r : Result Reading F) → IfOk r (λ r. found_of r.found ≡ found_of_bytes bytes) → IfOk r (λ r. r.end ≡ end_of_bytes bytes w) →
    IfOk r (λ r. IsReading bytes w (found_of r.found) r.end)
is_reading bytes w (Ok x) h i =
    subst (λ (f : Found). IsReading bytes w f x.end) (sym h) (subst (λ (e : End). IsReading bytes w (found_of_bytes bytes) e) (sym i) (reads_so bytes w))
is_reading bytes w (Err e) h i = tt

is_only : {F : Type 0} (bytes : List ℕ) (w : Bool) (r : Result Reading F) → IfOk r (λ r. found_of r.found ≡ found_of_bytes bytes) → IfOk r (λ r. r.end ≡ end_of_bytes bytes w) →
    (found : Found) (end : End) → IsReading bytes w found end → IfOk r (λ r. Is r found end)
is_only bytes w (Ok x) h i found end d =
    record { same_found = h ∙ sym (found_one bytes w found end d); same_end = i ∙ sym (ends_one bytes w found end d) }
is_only bytes w (Err e) h i found end d = tt

pub returns-clause-reading : goal.returns-clause-reading
returns-clause-reading c = is_reading c.args.bytes.now c.args.whole c.read_exactly.result c.read_exactly.ensures.found c.read_exactly.ensures.end

pub returns-clause-only : goal.returns-clause-only
returns-clause-only c = is_only c.args.bytes.now c.args.whole c.read_exactly.result c.read_exactly.ensures.found c.read_exactly.ensures.end
