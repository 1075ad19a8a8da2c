-- The timing of one pin after another.
use Rattle.std.proofs.Common.{◌≡◌, ℕ, ◌+◌, ◌<◌, List, [], ◌∷◌, ◌++◌, length, map, drop, get_or, refl, sym, ap, ◌∙◌, arith}
use Rattle.std.proofs.Common.{append_assoc, Option, Some, None}
use Rattle.std.specs.Prelude.{flat_map}
use Rattle.std.specs.Option.{option_map_or}
use Rattle.std.specs.List.{fold}
use Rattle.std.proofs.lemmas.List.{drop_more, append-nil}
use Rattle.liberty_groups.specs.declared.tree.Value.{Value}
use Rattle.liberty_groups.specs.declared.tree.Group.{Group}
use Rattle.cell_machine.specs.Delay.{lesser, least}
use Rattle.cell_machine.proofs.LeastLemmas.{lesser_none, lesser_assoc, least_append}
use Rattle.timing_arcs.specs.declared.subject.Subject.{Subject}
use Rattle.timing_arcs.specs.declared.timing_texts.TimingTexts.{TimingTexts}
use Rattle.timing_arcs.specs.GroupTexts.{cell_of, texts_from}
use Rattle.timing_arcs.specs.PinLimits.{pin_limits}
use Rattle.timing_arcs.specs.TimingTexts.{AreTexts}
use Rattle.cell_attributes.specs.Pins.{owner_as, owners_in}
use Rattle.cell_timings.specs.declared.timings.CellTiming.{CellTiming}
use Rattle.cell_timings.specs.declared.answers.TimingSoFar.{TimingSoFar}
use Rattle.cell_timings.specs.PinTimings.{Answer, malformed_timing, unknown_timing, own_timing, number_timing, wide_in}
use Rattle.cell_timings.specs.Held.{next_answer, held_from, AreSharedTexts}
use Rattle.cell_timings.specs.CellTimings.{timing_told, timing_and, pin_told, with_pin}

texts_there : (a b : Subject) (texts : TimingTexts) → cell_of a ≡ cell_of b → AreTexts a texts → AreTexts b texts
texts_there a b texts e h = record {
  of_groups = h.of_groups ∙ ap (λ (cell : Subject). texts_from cell 0 (texts.pin.now).items) e;
  of_limits = h.of_limits ∙ ap (λ (cell : Subject). pin_limits cell texts.pin.now) e;
}

-- shared texts are those in the cell of any other of its pins
pub shared_there : (a b : Subject) (owner : Group) (texts : Option TimingTexts) → cell_of a ≡ cell_of b
    → AreSharedTexts a owner texts → AreSharedTexts b owner texts
shared_there a b owner None e h = tt
shared_there a b owner (Some texts) e h = (texts_there a b texts e h.0, h.1)

pub least_told : (o : Option ℕ) → least (option_map_or (λ at. at ∷ []) o []) ≡ o
least_told None = refl
least_told (Some at) = refl

and_nothing : (timing : CellTiming) (pin : ℕ) → timing_and timing (timing_told pin [] []) ≡ timing
and_nothing timing pin = λ i. record {
  checks = append-nil timing.checks i;
  arcs = append-nil timing.arcs i;
  made_at = record { checks = append-nil timing.made_at.checks i; arcs = append-nil timing.made_at.arcs i };
  left_out = append-nil timing.left_out i;
  least = record {
    malformed = lesser_none timing.least.malformed i;
    names = record { unknown = lesser_none timing.least.names.unknown i; own = lesser_none timing.least.names.own i };
    number = lesser_none timing.least.number i;
    wide = lesser_none timing.least.wide i;
  };
}

-- the least of what one pin, and those behind it, tell
least_of_next : (tells : Answer → List ℕ) (before : Option ℕ) (answer : Answer) (answers : List Answer)
    → lesser (lesser before (least (tells answer))) (least (flat_map tells answers))
    ≡ lesser before (least (flat_map tells (answer ∷ answers)))
least_of_next tells before answer answers =
    lesser_assoc before (least (tells answer)) (least (flat_map tells answers))
    ∙ ap (lesser before) (sym (least_append (tells answer) (flat_map tells answers)))

-- the timing of one pin, and then of those behind it
and_next : (timing : CellTiming) (pin : ℕ) (owner : Group) (answer : Answer) (owners : List Group) (answers : List Answer)
    → timing_and (timing_and timing (pin_told pin owner answer)) (timing_told (pin + 1) owners answers)
    ≡ timing_and timing (timing_told pin (owner ∷ owners) (answer ∷ answers))
and_next timing pin owner answer owners answers =
    let here : CellTiming = pin_told pin owner answer in
    let rest : CellTiming = timing_told (pin + 1) owners answers in
    λ i. record {
      checks = append_assoc timing.checks here.checks rest.checks i;
      arcs = append_assoc timing.arcs here.arcs rest.arcs i;
      made_at = record {
        checks = append_assoc timing.made_at.checks here.made_at.checks rest.made_at.checks i;
        arcs = append_assoc timing.made_at.arcs here.made_at.arcs rest.made_at.arcs i;
      };
      left_out = append_assoc timing.left_out here.left_out rest.left_out i;
      least = record {
        malformed = least_of_next malformed_timing timing.least.malformed answer answers i;
        names = record {
          unknown = least_of_next unknown_timing timing.least.names.unknown answer answers i;
          own = least_of_next own_timing timing.least.names.own answer answers i;
        };
        number = least_of_next number_timing timing.least.number answer answers i;
        wide = least_of_next wide_in timing.least.wide answer answers i;
      };
    }

-- one pin after another has the timing that all answers tell
pub pins_told : (cell : Subject) (before : TimingSoFar) (owners : List Group)
    → (fold (with_pin cell) before owners).timing
    ≡ timing_and before.timing (timing_told before.pins owners (held_from before.room cell before.pins owners))
pins_told cell before [] = sym (and_nothing before.timing before.pins)
pins_told cell before (owner ∷ owners) =
    let next : TimingSoFar = with_pin cell before owner in
    pins_told cell next owners
    ∙ and_next before.timing before.pins owner (next_answer before.room cell before.pins owner) owners
    (held_from next.room cell next.pins owners)

-- the names of a group, and groups, from one on
pub next_name : (owner : Group) (values : List Value) (i : ℕ) → i < length values
    → owner ∷ map (owner_as owner) (drop (i + 1) values) ≡ map (owner_as owner) (drop i values)
next_name owner [] i within = absurd (omega arith)
next_name owner (value ∷ values) i within = rw (drop_more (value ∷ values) i value within) refl

pub next_group : {A : Type 0} (shown : A → Group) (groups : List A) (i : ℕ) (group : A) → i < length groups
    → group ≡ get_or groups i group →
    owners_in (shown group) ++ flat_map owners_in (map shown (drop (i + 1) groups)) ≡ flat_map owners_in
    (map shown (drop i groups))
next_group shown groups i group within is =
    rw (drop_more groups i group within)
    (ap (λ g. owners_in (shown g) ++ flat_map owners_in (map shown (drop (i + 1) groups))) is)
