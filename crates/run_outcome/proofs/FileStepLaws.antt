-- A file of a run at each exit of the call that reads it.
use Rattle.std.proofs.Common.{◌≡◌, ◌≤◌, ◌⊎◌, inl, inr, ℕ, ◌+◌, Bool, true, false, if◌then◌else◌, List, [], take, length, nat_lt}
use Rattle.std.proofs.Common.{Option, Some, None, Result, Ok, Err, IfOk, IfErr, MatchResult, IfSome, IsTrue, refl, sym, ap, subst}
use Rattle.std.proofs.Common.{◌∙◌, arith}
use Rattle.std.specs.Prelude.{Vec}
use Rattle.std.specs.Option.{option_map}
use Rattle.std.specs.Result.{IsErrAnd}
use Rattle.std.proofs.lemmas.List.{append-nil, take_all}
use Rattle.std.proofs.lemmas.Bool.Decides.{nat_tests}
use Rattle.text_io.specs.declared.outside.Failed.{Failed}
use Rattle.text_io.specs.declared.slots.InSlot.{InSlot}
use Rattle.text_io.specs.declared.slots.InSlot.TheVariants.{Library, Verilog, Vital, Stimulus}
use Rattle.text_io.specs.declared.slots.Slot.TheVariants.{Input}
use Rattle.text_io.specs.declared.slots.OutSlot.TheVariants.{Faults}
use Rattle.text_io.specs.declared.reading.Taken.{Taken}
use Rattle.text_io.specs.declared.stop.Stop.{Stop}
use Rattle.text_io.specs.declared.stop.Stop.TheVariants as stops
use Rattle.text_io.specs.Desk.{DeskState, is_bound, opened, took, wrote, IsFileAt, IsPrefix, WritesText}
use Rattle.text_io.specs.Read.{IsRead}
use Rattle.text_io.proofs.Took.{took-zero}
use Rattle.text_io.proofs.Wrote.{wrote-nil}
use Rattle.run_outcome.specs.declared.status.Status.{Status}
use Rattle.run_outcome.specs.declared.status.Status.TheVariants as status
use Rattle.run_outcome.specs.Status.{is_decided, stop_status}
use Rattle.run_outcome.specs.FileSteps.{FileStop, FileAnswer, answer_where, answer_within, FileIsTaken, FileEndsRun, TellsStop}
use Rattle.run_outcome.specs.FileSteps.{EndsBy}
use Rattle.run_outcome.proofs.BindingLaws.{left_opened}

-- what holds of the error that was made
pub err_is : {T E : Type 0} (r : Result T E) (P Q : E → Type 0) → IsErrAnd r Q → ((y : E) → Q y → P y) → IfErr r P
err_is (Ok x) P Q h f = absurd h
err_is (Err y) P Q h f = f y h

-- a run that stops is not decided
pub undecided_stop : (stop : Stop) → is_decided (stop_status stop) ≡ false
undecided_stop stops.Failed = refl
undecided_stop stops.Memory = refl

-- Telling how a file ends a run.

-- the line was written, and the run ended with its status, or the call failed
pub told_so : {T : Type 0} (old new : DeskState) (stop : FileStop) (written : Result T Failed) (result : Status)
    → WritesText old new Faults stop.line written
    → MatchResult written (λ _. result ≡ stop.status) (λ _. result ≡ status.Outside) → TellsStop stop old new result
told_so old new stop (Ok x) result w r = record {
  line = stop.line;
  state = w.whole;
  part = ([], append-nil stop.line);
  whole = λ d. (r, refl);
}
told_so old new stop (Err y) result w r = record {
  line = w.part.0;
  state = w.part.2;
  part = w.part.1;
  whole = λ d. absurd (let no = rw r at d in cc);
}

-- a stop that was told is how the run ends
pub ends_as_told : {T : Type 0} (answer : Result T FileStop) (stop : FileStop) (old new : DeskState) (end : Status)
    → answer ≡ Err stop → TellsStop stop old new end → EndsBy answer old new end
ends_as_told answer stop old new end e t = record {
  line = t.line;
  state = t.state;
  part = inr (stop, e, t.part);
  whole = λ d. e ∙ (λ i. Err (record { status = sym (t.whole d).0 i; line = sym (t.whole d).1 i }));
}

-- want of memory, of which nothing is told
pub wants_memory : {T : Type 0} (answer : Result T FileStop) (s : DeskState) → EndsBy answer s s status.Memory
wants_memory answer s = record { line = []; state = sym (wrote-nil s Faults); part = inl refl; whole = λ d. absurd cc }

-- A file that was bound.

-- its slot is bound then
pub bound_then : (old mid : DeskState) (slot : InSlot) (bytes : List ℕ) → mid ≡ opened old slot bytes
    → IsTrue (is_bound mid (Input slot))
unfolding opened
bound_then old mid Library bytes e = rw e refl
bound_then old mid Verilog bytes e = rw e refl
bound_then old mid Vital bytes e = rw e refl
bound_then old mid Stimulus bytes e = rw e refl

told_of : (o left : Option (List ℕ)) (bytes : List ℕ) (P : List ℕ → Type 0) → left ≡ option_map (λ _. bytes) o → IfSome left P
    → IfSome o (λ _. P bytes)
told_of None left bytes P e h = tt
told_of (Some x) left bytes P e h = rw e at h

-- what holds of the bytes that are left holds of the file's, where the desk tells them
file_told : (old mid : DeskState) (slot : InSlot) (bytes : List ℕ) (P : List ℕ → Type 0) → mid ≡ opened old slot bytes
    → IfSome (mid.left slot) P → IfSome (old.left slot) (λ _. P bytes)
file_told old mid slot bytes P e h =
    told_of (old.left slot) (mid.left slot) bytes P (ap (λ s. s.left slot) e ∙ left_opened old slot bytes) h

IfSome-map : {X : Type 0} (o : Option X) (P Q : Type 0) → (P → Q) → IfSome o (λ _. P) → IfSome o (λ _. Q)
IfSome-map None P Q f h = tt
IfSome-map (Some x) P Q f h = f h

-- The file could not be bound.
pub unbound_ends : {T : Type 0} (answer : FileAnswer T) (old new : DeskState) (slot : InSlot) (place : ℕ) (end : Status)
    → new ≡ old → is_decided end ≡ false
    → FileEndsRun answer old new slot place end
unbound_ends answer old new slot place end e undecided = record {
  bound = false;
  bytes = [];
  count = 0;
  line = [];
  named = λ b. absurd cc;
  state = e ∙ sym (took-zero old slot) ∙ sym (wrote-nil (took old slot 0) Faults);
  part = inl refl;
  whole = λ d. absurd (let no = rw undecided at d in cc);
}

-- Some bytes of the file were read, and nothing was told.
pub unread_ends : {T : Type 0} (answer : FileAnswer T) (old mid new : DeskState) (slot : InSlot) (place : ℕ) (bytes : List ℕ)
    (count : ℕ) (end : Status)
    → IsFileAt old place bytes → mid ≡ opened old slot bytes → new ≡ took mid slot count → is_decided end ≡ false
    → FileEndsRun answer old new slot place end
unread_ends answer old mid new slot place bytes count end named e read undecided = record {
  bound = true;
  bytes = bytes;
  count = count;
  line = [];
  named = λ _. named;
  state = read ∙ ap (λ s. took s slot count) e ∙ sym (wrote-nil (took (opened old slot bytes) slot count) Faults);
  part = inl refl;
  whole = λ d. absurd (let no = rw undecided at d in cc);
}

-- The bytes that are left are read as this.
pub read_as_value : {T : Type 0} (answer : FileAnswer T) (old mid new : DeskState) (slot : InSlot) (place : ℕ) (bytes : List ℕ)
    (count : ℕ) (value : T)
    → IsFileAt old place bytes → mid ≡ opened old slot bytes → new ≡ took mid slot count
    → IfSome (mid.left slot) (λ left. answer left ≡ Ok value)
    → FileIsTaken answer old new slot place value
read_as_value answer old mid new slot place bytes count value named e read told = record {
  bytes = bytes;
  count = count;
  named = named;
  state = read ∙ ap (λ s. took s slot count) e;
  told = file_told old mid slot bytes (λ left. answer left ≡ Ok value) e told;
}

-- The bytes that are left end the run, which was told.
pub read_ends : {T : Type 0} (answer : FileAnswer T) (old mid now new : DeskState) (slot : InSlot) (place : ℕ) (bytes : List ℕ)
    (count : ℕ) (found : Result T FileStop) (end : Status)
    → IsFileAt old place bytes → mid ≡ opened old slot bytes → now ≡ took mid slot count
    → IfSome (mid.left slot) (λ left. answer left ≡ found) → EndsBy found now new end
    → FileEndsRun answer old new slot place end
read_ends answer old mid now new slot place bytes count found end named e read told ends = record {
  bound = true;
  bytes = bytes;
  count = count;
  line = ends.line;
  named = λ _. named;
  state = ends.state ∙ ap (λ s. wrote s Faults ends.line) (read ∙ ap (λ s. took s slot count) e);
  part = by_part ends.part;
  whole = λ d. (
    refl,
    IfSome-map (old.left slot) (answer bytes ≡ found) (answer bytes ≡ Err (record { status = end; line = ends.line }))
        (λ h. h ∙ ends.whole d) answered,
  );
}
  where
    answered : IfSome (old.left slot) (λ _. answer bytes ≡ found)
    answered = file_told old mid slot bytes (λ left. answer left ≡ found) e told

    by_part : (ends.line ≡ []) ⊎ ((stop : FileStop) × (found ≡ Err stop) × IsPrefix ends.line stop.line)
        → (ends.line ≡ []) ⊎ ((true ≡ true)
        × IfSome (old.left slot) (λ _. (stop : FileStop) × (answer bytes ≡ Err stop) × IsPrefix ends.line stop.line))
    by_part (inl none) = inl none
    by_part (inr some) = inr (
      refl,
      IfSome-map (old.left slot) (answer bytes ≡ found) ((stop : FileStop) × (answer bytes ≡ Err stop)
          × IsPrefix ends.line stop.line)
          (λ h. (some.0, h ∙ some.1, some.2)) answered,
    )

-- A file of which the first bytes were taken, up to a limit.

first_is_whole : {T : Type 0} (limit : ℕ) (long : FileStop) (read : FileAnswer T) (bytes : List ℕ)
    → answer_where long read (nat_lt limit (length bytes)) (take limit bytes) ≡ answer_within limit long read bytes
first_is_whole limit long read bytes = by_length (nat_lt limit (length bytes)) refl
  where
    fits : nat_lt limit (length bytes) ≡ false → length bytes ≤ limit
    fits e = grind (arith, nat_tests)

    by_length : (b : Bool) → nat_lt limit (length bytes) ≡ b
        → answer_where long read b (take limit bytes) ≡ answer_where long read b bytes
    by_length true e = refl
    by_length false e = ap read (take_all limit bytes (fits e))

-- what the bytes that were left are read as within the limit is told by those that were taken
taken_told : {T : Type 0} (limit : ℕ) (long : FileStop) (read : FileAnswer T) (left : Option (List ℕ)) (taken : Taken)
    → IfSome left (λ bytes. taken.bytes.items ≡ take limit bytes)
    → IfSome left (λ bytes. taken.more ≡ nat_lt limit (length bytes))
    → IfSome left (λ bytes. answer_within limit long read bytes ≡ answer_where long read taken.more taken.bytes.items)
taken_told limit long read None taken text more = tt
taken_told limit long read (Some bytes) taken text more =
    sym (first_is_whole limit long read bytes) ∙ sym (ap (λ b. answer_where long read b (take limit bytes)) more)
    ∙ sym (ap (answer_where long read taken.more) text)

-- such a file was read, or ended the run
pub taken_as_values : {T A : Type 0} (limit : ℕ) (long : FileStop) (read : FileAnswer (List T)) (old mid now new : DeskState)
    (slot : InSlot) (place : ℕ) (bytes : List ℕ) (taken : Taken)
    (result : Result (Vec T A) Status) → IsFileAt old place bytes → mid ≡ opened old slot bytes → IsRead mid now slot limit taken
    → IfOk result (λ values. (answer_where long read taken.more taken.bytes.items ≡ Ok values.items) × (new ≡ now))
    → IfOk result (λ values. FileIsTaken (answer_within limit long read) old new slot place values.items)
taken_as_values limit long read old mid now new slot place bytes taken (Ok values) named e r h =
    read_as_value (answer_within limit long read) old mid new slot place bytes
    (length taken.bytes.items + (if taken.more then 1 else 0)) values.items named e (h.1 ∙ r.state)
    (subst (λ found. IfSome (mid.left slot) (λ left. answer_within limit long read left ≡ found)) h.0
    (taken_told limit long read (mid.left slot) taken r.bytes r.more))
taken_as_values limit long read old mid now new slot place bytes taken (Err end) named e r h = h

pub taken_ends : {T A : Type 0} (limit : ℕ) (long : FileStop) (read : FileAnswer (List T)) (old mid now new : DeskState)
    (slot : InSlot) (place : ℕ) (bytes : List ℕ) (taken : Taken)
    (result : Result (Vec T A) Status) → IsFileAt old place bytes → mid ≡ opened old slot bytes → IsRead mid now slot limit taken
    → IfErr result (EndsBy (answer_where long read taken.more taken.bytes.items) now new)
    → IfErr result (FileEndsRun (answer_within limit long read) old new slot place)
taken_ends limit long read old mid now new slot place bytes taken (Ok values) named e r h = h
taken_ends limit long read old mid now new slot place bytes taken (Err end) named e r h =
    read_ends (answer_within limit long read) old mid now new slot place bytes
    (length taken.bytes.items + (if taken.more then 1 else 0)) (answer_where long read taken.more taken.bytes.items) end
    named e r.state (taken_told limit long read (mid.left slot) taken r.bytes r.more) h
