-- Laws of what a command appends to its three outputs.
use Rattle.std.proofs.Common.{◌≡◌, ℕ, List, [], ◌++◌, Option, Some, None, Result, Ok, Err, IsErr, refl, sym, ap, ◌∙◌}
use Rattle.std.proofs.Common.{append_assoc, IsTrue}
use Rattle.std.specs.Option.{option_map}
use Rattle.std.proofs.lemmas.List.{append-nil}
use Rattle.text_io.specs.declared.outside.Failed.{Failed}
use Rattle.text_io.specs.declared.slots.InSlot.{InSlot}
use Rattle.text_io.specs.declared.slots.OutSlot.{OutSlot}
use Rattle.text_io.specs.declared.slots.OutSlot.TheVariants.{VerilogText, VitalText, Report, Faults}
use Rattle.text_io.specs.declared.slots.Slot.{Slot}
use Rattle.text_io.specs.Desk.{DeskState, is_bound, took, wrote, IsPrefix, WritesText}
use Rattle.text_io.proofs.Wrote.{wrote-nil, IsPrefix-append, IsPrefix-front}
use Rattle.run_outcome.specs.Written.{Written, nothing_written, in_verilog, in_vital, in_report, joined, IsPart, wrote_all}
use Rattle.run_outcome.specs.Written.{Writes}

appended-twice : (known : Option (List ℕ)) (a b : List ℕ)
    → option_map (λ before. before ++ b) (option_map (λ before. before ++ a) known) ≡ option_map (λ before. before ++ (a ++ b))
    known
appended-twice None a b = refl
appended-twice (Some before) a b = ap Some (append_assoc before a b)

-- nothing appended
pub wrote_all-nothing : (s : DeskState) → wrote_all s nothing_written ≡ s
unfolding wrote_all
wrote_all-nothing s = wrote-nil (wrote (wrote s VerilogText []) VitalText []) Report
    ∙ wrote-nil (wrote s VerilogText []) VitalText ∙ wrote-nil s VerilogText

twice_at : (s : DeskState) (a b : Written) (t : OutSlot)
    → (wrote_all (wrote_all s a) b).written t ≡ (wrote_all s (joined a b)).written t
unfolding wrote wrote_all
twice_at s a b VerilogText = appended-twice (s.written VerilogText) a.verilog b.verilog
twice_at s a b VitalText = appended-twice (s.written VitalText) a.vital b.vital
twice_at s a b Report = appended-twice (s.written Report) a.report b.report
twice_at s a b Faults = refl

-- some bytes, and then some more
pub wrote_all-joined : (s : DeskState) (a b : Written) → wrote_all (wrote_all s a) b ≡ wrote_all s (joined a b)
unfolding wrote wrote_all
wrote_all-joined s a b = λ i. record s { written = λ t. twice_at s a b t i }

-- Verilog text alone
pub wrote_all-verilog : (s : DeskState) (text : List ℕ) → wrote_all s (in_verilog text) ≡ wrote s VerilogText text
unfolding wrote_all
wrote_all-verilog s text = wrote-nil (wrote (wrote s VerilogText text) VitalText []) Report
    ∙ wrote-nil (wrote s VerilogText text) VitalText

-- VHDL text alone
wrote_all-vital : (s : DeskState) (text : List ℕ) → wrote_all s (in_vital text) ≡ wrote s VitalText text
unfolding wrote_all
wrote_all-vital s text = wrote-nil (wrote (wrote s VerilogText []) VitalText text) Report
    ∙ ap (λ t. wrote t VitalText text) (wrote-nil s VerilogText)

-- lines of the report alone
pub wrote_all-report : (s : DeskState) (text : List ℕ) → wrote_all s (in_report text) ≡ wrote s Report text
unfolding wrote_all
wrote_all-report s text = ap (λ t. wrote t Report text) (wrote-nil (wrote s VerilogText []) VitalText ∙ wrote-nil s VerilogText)

-- reading leaves alone what was written
pub took-wrote_all : (s : DeskState) (text : Written) (slot : InSlot) (n : ℕ)
    → took (wrote_all s text) slot n ≡ wrote_all (took s slot n) text
unfolding took wrote wrote_all
took-wrote_all s text slot n = refl

-- what is bound stays bound
pub is_bound-wrote_all : (s : DeskState) (text : Written) (slot : Slot) → is_bound (wrote_all s text) slot ≡ is_bound s slot
unfolding wrote wrote_all
is_bound-wrote_all s text slot = refl

pub still_bound_all : (s now : DeskState) (text : Written) (slot : Slot) → now ≡ wrote_all s text → IsTrue (is_bound s slot)
    → IsTrue (is_bound now slot)
still_bound_all s now text slot e h = rw (e, is_bound-wrote_all s text slot) h

-- some bytes, and then some more
pub wrote_on : (s now next : DeskState) (a b : Written) → now ≡ wrote_all s a → next ≡ wrote_all now b
    → next ≡ wrote_all s (joined a b)
wrote_on s now next a b first second = second ∙ ap (λ t. wrote_all t b) first ∙ wrote_all-joined s a b

prefix_all : (xs : List ℕ) → IsPrefix xs xs
prefix_all xs = ([], append-nil xs)

pub IsPart-all : (text : Written) → IsPart text text
IsPart-all text = record { verilog = prefix_all text.verilog; vital = prefix_all text.vital; report = prefix_all text.report }

pub IsPart-nothing : (text : Written) → IsPart nothing_written text
IsPart-nothing text = record { verilog = (text.verilog, refl); vital = (text.vital, refl); report = (text.report, refl) }

-- what comes before a part, with it
pub IsPart-after : (a part b : Written) → IsPart part b → IsPart (joined a part) (joined a b)
IsPart-after a part b p = record {
  verilog = IsPrefix-append a.verilog part.verilog b.verilog p.verilog;
  vital = IsPrefix-append a.vital part.vital b.vital p.vital;
  report = IsPrefix-append a.report part.report b.report p.report;
}

-- a part of what comes first
pub IsPart-front : (part a b : Written) → IsPart part a → IsPart part (joined a b)
IsPart-front part a b p = record {
  verilog = IsPrefix-front part.verilog a.verilog b.verilog p.verilog;
  vital = IsPrefix-front part.vital a.vital b.vital p.vital;
  report = IsPrefix-front part.report a.report b.report p.report;
}

-- a call that ends so after a part of what it appends
pub stopped : {T E : Type 0} (old new : DeskState) (text part : Written) (r : Result T E)
    → IsErr r → IsPart part text → new ≡ wrote_all old part → Writes old new text r
stopped old new text part (Ok x) e p h = absurd (cc)
stopped old new text part (Err y) e p h = record { whole = tt; part = record { part = part; is_part = p; state = h } }

-- before anything was appended
pub stopped_before : {T E : Type 0} (old : DeskState) (text : Written) (r : Result T E) → IsErr r → Writes old old text r
stopped_before old text r e = stopped old old text nothing_written r e (IsPart-nothing text) (sym (wrote_all-nothing old))

-- after some bytes, a call that appends more
pub all_goes_on : {T E : Type 0} (old now new : DeskState) (a b : Written) (r : Result T E)
    → now ≡ wrote_all old a → Writes now new b r → Writes old new (joined a b) r
all_goes_on old now new a b (Ok x) e w = record { whole = wrote_on old now new a b e w.whole; part = tt }
all_goes_on old now new a b (Err y) e w = record {
  whole = tt;
  part = record {
    part = joined a w.part.part;
    is_part = IsPart-after a w.part.part b w.part.is_part;
    state = wrote_on old now new a w.part.part e w.part.state;
  };
}

-- a stop within the first of two
pub all_stops : {S T E F : Type 0} (old new : DeskState) (a b : Written) (y : E) (r : Result T F)
    → Writes {T = S} {E = E} old new a (Err y) → IsErr r → Writes old new (joined a b) r
all_stops old new a b y r w e = stopped old new (joined a b) w.part.part r e (IsPart-front w.part.part a b w.part.is_part)
    w.part.state

-- a fault within Verilog text
pub verilog_stops : {S T E : Type 0} (old new : DeskState) (text : List ℕ) (y : Failed) (r : Result T E)
    → WritesText {T = S} old new VerilogText text (Err y) → IsErr r → Writes old new (in_verilog text) r
verilog_stops old new text y r w e =
    stopped old new (in_verilog text) (in_verilog w.part.0) r e
    (record { verilog = w.part.1; vital = ([], refl); report = ([], refl) })
    (w.part.2 ∙ sym (wrote_all-verilog old w.part.0))

-- a fault within VHDL text
pub vital_stops : {S T E : Type 0} (old new : DeskState) (text : List ℕ) (y : Failed) (r : Result T E)
    → WritesText {T = S} old new VitalText text (Err y) → IsErr r → Writes old new (in_vital text) r
vital_stops old new text y r w e =
    stopped old new (in_vital text) (in_vital w.part.0) r e
    (record { verilog = ([], refl); vital = w.part.1; report = ([], refl) })
    (w.part.2 ∙ sym (wrote_all-vital old w.part.0))

-- a fault within lines of the report
pub report_stops : {S T E : Type 0} (old new : DeskState) (text : List ℕ) (y : Failed) (r : Result T E)
    → WritesText {T = S} old new Report text (Err y) → IsErr r → Writes old new (in_report text) r
report_stops old new text y r w e =
    stopped old new (in_report text) (in_report w.part.0) r e
    (record { verilog = ([], refl); vital = ([], refl); report = w.part.1 })
    (w.part.2 ∙ sym (wrote_all-report old w.part.0))

-- all of the Verilog text, of the VHDL text, or of the lines
pub verilog_whole : (old new : DeskState) (text : List ℕ) → new ≡ wrote old VerilogText text
    → new ≡ wrote_all old (in_verilog text)
verilog_whole old new text e = e ∙ sym (wrote_all-verilog old text)

pub vital_whole : (old new : DeskState) (text : List ℕ) → new ≡ wrote old VitalText text → new ≡ wrote_all old (in_vital text)
vital_whole old new text e = e ∙ sym (wrote_all-vital old text)

pub report_whole : (old new : DeskState) (text : List ℕ) → new ≡ wrote old Report text → new ≡ wrote_all old (in_report text)
report_whole old new text e = e ∙ sym (wrote_all-report old text)

-- the same of another call that ends in a stop
pub all_ended : {S T E F : Type 0} (old new : DeskState) (text : Written) (y : E) (r : Result T F)
    → Writes {T = S} {E = E} old new text (Err y) → IsErr r → Writes old new text r
all_ended old new text y r w e = stopped old new text w.part.part r e w.part.is_part w.part.state
