-- One more turn of the loops over the pins, the groups and the three-state outputs of a cell.
use Rattle.std.proofs.Common.{◌≡◌, ℕ, ◌+◌, ◌<◌, List, [], ◌∷◌, ◌++◌, length, map, drop, sym, ap, ◌∙◌, arith, append_assoc}
use Rattle.std.proofs.Common.{length-append}
use Rattle.std.specs.Prelude.{Option, count_by, flat_map}
use Rattle.std.proofs.Math.Seq.{take-length}
use Rattle.std.proofs.lemmas.List.{drop_more, length-map}
use Rattle.liberty_groups.specs.declared.tree.Group.{Group}
use Rattle.cell_machine.specs.declared.pins.Pin.{Pin}
use Rattle.cell_machine.specs.Inputs.{is_input_at, input_number}
use Rattle.cell_attributes.specs.Pins.{owners_in}
use Rattle.timing_arcs.specs.declared.subject.Subject.{Subject}
use Rattle.cell_reader.specs.declared.left_out.LeftOut.{LeftOut}
use Rattle.cell_reader.specs.declared.refusal.Refusal.{Refusal}
use Rattle.cell_reader.specs.PinTimings.{Answer, subject_at, arcs_in}
use Rattle.driven_traces.specs.declared.delays.DrivePath.{DrivePath}
use Rattle.core_groups.specs.Outputs.{ThreeStateOutput}
use Rattle.three_state_cells.specs.Refusals.{first_of_two, wrong_group, refusal_with}
use Rattle.three_state_cells.specs.Timing.{is_output_at, output_number, driven_of, answer_of, path_of, paths_from, left_out_as}
use Rattle.three_state_cells.specs.Timing.{places_in, left_out_of, all_left_out, of_pin, in_pin_order}

pub pin_turn :
    (pins : List Pin) (i : ℕ) (one other found next last : List LeftOut)
    → i < length pins → next ≡ found ++ of_pin i one → last ≡ next ++ of_pin i other
    → last ++ in_pin_order (i + 1) (drop (i + 1) pins) one other ≡ found ++ in_pin_order i (drop i pins) one other
pin_turn [] i one other found next last within n l = absurd (omega arith)
pin_turn (pin ∷ pins) i one other found next last within n l =
    rw (drop_more (pin ∷ pins) i pin within)
    (rw l
    (rw n
    (append_assoc (found ++ of_pin i one) (of_pin i other) (in_pin_order (i + 1) (drop (i + 1) (pin ∷ pins)) one other)
    ∙ append_assoc found (of_pin i one) (of_pin i other ++ in_pin_order (i + 1) (drop (i + 1) (pin ∷ pins)) one other))))

-- one more pin group
pub refusal_turn :
    (core now : Subject) (found next wrong : Option Refusal) (place : ℕ) (group : Group) (rest all : List Group)
    → all ≡ group ∷ rest → now ≡ subject_at core now.place → wrong ≡ wrong_group now group → next ≡ first_of_two found wrong
    → place ≡ now.place + length group.arguments → refusal_with core next place rest ≡ refusal_with core found now.place all
refusal_turn core now found next wrong place group rest all a s w n p =
    let same : next ≡ first_of_two found (wrong_group (subject_at core now.place) group) =
    n ∙ ap (first_of_two found) (w ∙ ap (λ (subject : Subject). wrong_group subject group) s) in
    ap (λ (refusal : Option Refusal). refusal_with core refusal place rest) same
    ∙ (ap (λ (k : ℕ). refusal_with core (first_of_two found (wrong_group (subject_at core now.place) group)) k rest) p
    ∙ ap (refusal_with core found now.place) (sym a))

pub count_turn :
    (before place : ℕ) (group : Group) (rest all : List Group) → all ≡ group ∷ rest → place ≡ before + length group.arguments
    → place + length (flat_map owners_in rest) ≡ before + length (flat_map owners_in all)
count_turn before place group rest all a p = rw a (rw p (simp (length-append, length-map) (omega arith)))

-- one more three-state output

now_core : (core now : Subject) (output : ThreeStateOutput) → now ≡ subject_at core now.place
    → answer_of now output ≡ answer_of core output
now_core core now output s = ap (λ (subject : Subject). answer_of subject output) s

now_pins : (core now : Subject) → now ≡ subject_at core now.place → now.pins ≡ core.pins
now_pins core now s = ap (λ (subject : Subject). subject.pins) s

pub driven_turn :
    (core now : Subject) (output : ThreeStateOutput) (rest all : List ThreeStateOutput) (before after : List ℕ)
    → all ≡ output ∷ rest → now ≡ subject_at core now.place → after ≡ before ++ output_number now.pins output.pin ∷ []
    → after ++ driven_of core.pins rest ≡ before ++ driven_of core.pins all
driven_turn core now output rest all before after a s n =
    let same : after ≡ before ++ output_number core.pins output.pin ∷ [] =
    n ∙ ap (λ (pins : List Pin). before ++ output_number pins output.pin ∷ []) (now_pins core now s) in
    rw a (rw same (append_assoc before (output_number core.pins output.pin ∷ []) (driven_of core.pins rest)))

pub paths_turn :
    (core now : Subject) (output : ThreeStateOutput) (rest all : List ThreeStateOutput) (drive next : ℕ)
    (before after : List DrivePath)
    → all ≡ output ∷ rest → now ≡ subject_at core now.place → next ≡ drive + 1
    → after ≡ before ++ map (path_of now.pins drive) (arcs_in (answer_of now output))
    → after ++ paths_from core next rest ≡ before ++ paths_from core drive all
paths_turn core now output rest all drive next before after a s d n =
    let same : after ≡ before ++ map (path_of core.pins drive) (arcs_in (answer_of core output)) =
    n
    ∙ (ap (λ (pins : List Pin). before ++ map (path_of pins drive) (arcs_in (answer_of now output))) (now_pins core now s)
    ∙ ap (λ (answer : Answer). before ++ map (path_of core.pins drive) (arcs_in answer)) (now_core core now output s)) in
    rw a (rw d (rw same (append_assoc before (map (path_of core.pins drive) (arcs_in (answer_of core output)))
    (paths_from core (drive + 1) rest))))

pub left_out_turn :
    (core now : Subject) (output : ThreeStateOutput) (rest all : List ThreeStateOutput) (before after : List LeftOut)
    → all ≡ output ∷ rest → now ≡ subject_at core now.place → after ≡ before ++ left_out_of now output
    → after ++ all_left_out core rest ≡ before ++ all_left_out core all
left_out_turn core now output rest all before after a s n =
    let same : after ≡ before ++ left_out_of core output =
    n ∙ ap (λ (answer : Answer). before ++ map (left_out_as output) (places_in answer)) (now_core core now output s) in
    rw a (rw same (append_assoc before (left_out_of core output) (all_left_out core rest)))

pub one_longer : (before after : List ℕ) (x : ℕ) → after ≡ before ++ x ∷ [] → length after ≡ length before + 1
one_longer before after x e = rw e (simp length-append)

-- the pins of the core stay, whichever of them is looked at
pub same_turn :
    (core now next : Subject) (pin : ℕ) → now ≡ subject_at core now.place → next ≡ subject_at now pin
    → next ≡ subject_at core next.place
same_turn core now next pin s n =
    let same : next ≡ subject_at core pin = n ∙ ap (λ (subject : Subject). subject_at subject pin) s in
    same ∙ ap (subject_at core) (sym (ap (λ (subject : Subject). subject.place) same))

-- how many input pins there are, and how many output pins

pub all_inputs : (pins : List Pin) → input_number pins (length pins) ≡ count_by is_input_at pins
all_inputs pins = ap (count_by is_input_at) (take-length pins)

pub all_outputs : (pins : List Pin) → output_number pins (length pins) ≡ count_by is_output_at pins
all_outputs pins = ap (count_by is_output_at) (take-length pins)
