-- The checks and arcs of a group that is read keep the rules of a cell.
use Rattle.std.proofs.Common.{filter, ◌≡◌, ℕ, ◌≤◌, Bool, true, false, not, ◌&&◌, ◌||◌, ◌==◌, List, [], ◌∷◌, ◌++◌, map, length}
use Rattle.std.proofs.Common.{nat_eq, nat_le, nat_lt, refl, sym, ap, ◌∙◌, subst, arith}
use Rattle.std.specs.Prelude.{Option, Some, None, Result, Ok, Err, max, codes, bytes_eq, flat_map, find, unwrap_or, slice_get}
use Rattle.std.specs.Prelude.{◌⊎◌, if◌then◌else◌}
use Rattle.std.specs.Option.{option_map, option_map_or}
use Rattle.std.specs.List.{list_all, list_any, filter_map, cons_option}
use Rattle.std.proofs.lemmas.Bool.{cases_Bool, and_parts, and_from as both}
use Rattle.std.proofs.lemmas.Bool.Decides.{nat_tests}
use Rattle.std.proofs.Math.Logic.{inl, inr}
use Rattle.bool_functions.specs.declared.tree.Node.{Node}
use Rattle.bool_functions.specs.declared.faults.FunctionFault.{FunctionFault}
use Rattle.bool_functions.specs.declared.faults.FunctionFault.TheVariants as function_fault
use Rattle.bool_functions.specs.FunctionText.{reading_of}
use Rattle.bool_functions.specs.NameList.{number_of}
use Rattle.bool_functions.specs.Support.{support_of}
use Rattle.bool_functions.specs.Tree.{value_of}
use Rattle.liberty_text.specs.declared.decimal.Fixed.{Fixed}
use Rattle.liberty_text.specs.declared.decimal.NumberFault.{NumberFault}
use Rattle.liberty_text.specs.declared.time.Unit.{Unit as TimeUnit}
use Rattle.liberty_text.specs.Number.{fixed_of}
use Rattle.liberty_text.specs.Time.{bounded, rounded_up, time_exponent}
use Rattle.liberty_groups.specs.declared.tree.Group.{Group}
use Rattle.cell_machine.specs.declared.checks.CheckKind.TheVariants as kind
use Rattle.cell_machine.specs.declared.checks.Edge.TheVariants.{Any, Rise, Fall}
use Rattle.cell_machine.specs.declared.checks.Check.{Check}
use Rattle.cell_machine.specs.declared.pins.Pin.{Pin}
use Rattle.cell_machine.specs.CellRules.{longest_time, is_input_pin, is_condition, is_one_edge, has_events, is_check, is_arc}
use Rattle.cell_machine.specs.Names.{has}
use Rattle.timing_arcs.specs.declared.condition.Condition.{Condition}
use Rattle.timing_arcs.specs.declared.condition.Condition.TheVariants as condition
use Rattle.timing_arcs.specs.declared.related.Related.TheVariants as related
use Rattle.timing_arcs.specs.declared.subject.Subject.{Subject}
use Rattle.timing_arcs.specs.declared.timing_type.TimingType.{TimingType}
use Rattle.timing_arcs.specs.declared.timing_type.TimingType.TheVariants.{Delay, Setup, Hold, Recovery, Removal, Width, Period}
use Rattle.timing_arcs.specs.declared.timing_type.TimingType.TheVariants.{Other}
use Rattle.liberty_groups.specs.Attributes.{Attribute, attribute_of, place_of}
use Rattle.timing_arcs.specs.Times.{time_as, time_of}
use Rattle.timing_arcs.specs.TimingTypes.{delay_words, check_words, type_named, type_of, stands_under, rise_table, fall_table}
use Rattle.timing_arcs.specs.TimingTypes.{has_table, is_used}
use Rattle.timing_arcs.specs.RelatedPins.{related_words, related_as, related_by, related_of, is_driven, input_of, inputs_of}
use Rattle.timing_arcs.specs.RelatedPins.{is_read}
use Rattle.timing_arcs.specs.Conditions.{constant_or, condition_of_tree, condition_as, condition_in, condition_of, tree_of}
use Rattle.timing_arcs.specs.Conditions.{may_hold, names_one, is_wide}
use Rattle.timing_arcs.specs.Tables.{Values, values_named, greatest, times_of, limit_of}
use Rattle.timing_arcs.specs.Making.{event, check, has_limit, checks_with, arcs_with, is_made, rise_of, fall_of, checks_from}
use Rattle.timing_arcs.specs.Making.{arcs_from, checks_in, arcs_in}
use Rattle.timing_arcs.specs.Timing.{own_in, wide_in}
use Rattle.timing_arcs.proofs.AllLemmas.{implied, all-filter, all-find, all-weaker, all-both, all-flat_map, has-here}
use Rattle.timing_arcs.proofs.AllLemmas.{has-later, all-has, all-apart}
use Rattle.timing_arcs.proofs.SumLemmas.{greatest-append}

-- Times are not above the longest.
bounded-within : (n t : ℕ) → bounded n ≡ Some t → t ≤ longest_time
bounded-within n t e =
    elim (cases_Bool (nat_le n longest_time)) [
      | inl fits ↦ let is : Some n ≡ Some t = rw fits at e in let same : n ≡ t = cc
          in subst (λ m. m ≤ longest_time) same (grind (arith, nat_tests))
      | inr long ↦ let is : None ≡ Some t = rw long at e in absurd cc
    ]

time_as-within : (unit : TimeUnit) (number : Result Fixed NumberFault) (t : ℕ) → time_as unit number ≡ Some t → t ≤ longest_time
time_as-within unit (Ok number) t e = bounded-within (rounded_up number.mantissa (time_exponent number unit)) t e
time_as-within unit (Err fault) t e = absurd cc

pub time_of-within : (unit : Option TimeUnit) (text : List ℕ) (t : ℕ) → time_of unit text ≡ Some t → t ≤ longest_time
unfolding time_of
time_of-within None text t e = absurd cc
time_of-within (Some unit) text t e = time_as-within unit (fixed_of text) t e

option-within : (o : Option ℕ) (rest : List ℕ) → ((t : ℕ) → o ≡ Some t → t ≤ longest_time) → greatest rest ≤ longest_time
    → greatest (cons_option o rest) ≤ longest_time
option-within None rest f h = h
option-within (Some t) rest f h = let here : t ≤ longest_time = f t refl in omega arith

times-within : (unit : Option TimeUnit) (texts : List (List ℕ)) → greatest (filter_map (time_of unit) texts) ≤ longest_time
times-within unit [] = omega arith
times-within unit (text ∷ texts) = option-within (time_of unit text) (filter_map (time_of unit) texts) (time_of-within unit text)
    (times-within unit texts)

values-within : (unit : Option TimeUnit) (vs : List Values) → greatest (flat_map (times_of unit) vs) ≤ longest_time
values-within unit [] = omega arith
values-within unit (v ∷ vs) =
    let one : greatest (times_of unit v) ≤ longest_time = times-within unit v.entries in
    let others : greatest (flat_map (times_of unit) vs) ≤ longest_time = values-within unit vs in
    let whole : greatest (times_of unit v ++ flat_map (times_of unit) vs) ≡ max (greatest (times_of unit v))
    (greatest (flat_map (times_of unit) vs)) = greatest-append (times_of unit v) (flat_map (times_of unit) vs) in
    omega arith

pub limit_of-within : (unit : Option TimeUnit) (name : List ℕ) (group : Group) → limit_of unit name group ≤ longest_time
unfolding limit_of
limit_of-within unit name group = values-within unit (values_named name group)

-- The edges of a check's related pin are of one kind.
abbrev one_edge : TimingType → Bool
one_edge Delay = true
one_edge (Setup edge) = is_one_edge edge
one_edge (Hold edge) = is_one_edge edge
one_edge (Recovery edge) = is_one_edge edge
one_edge (Removal edge) = is_one_edge edge
one_edge Width = true
one_edge Period = true
one_edge Other = true

found-one_edge : (found : Option (List ℕ × TimingType))
    → ((entry : List ℕ × TimingType) → found ≡ Some entry → one_edge entry.1 ≡ true)
    → one_edge (unwrap_or (option_map (λ entry. entry.1) found) Other) ≡ true
found-one_edge None f = refl
found-one_edge (Some entry) f = f entry refl

abbrev entry_one_edge : List ℕ × TimingType → Bool
entry_one_edge entry = one_edge entry.1

named-one_edge : (text : List ℕ) → one_edge (type_named text) ≡ true
named-one_edge text =
    let checks : one_edge (unwrap_or (option_map (λ entry. entry.1) (find (λ entry. bytes_eq entry.0 text) check_words))
    Other) ≡ true =
    found-one_edge (find (λ entry. bytes_eq entry.0 text) check_words)
    (λ entry e. all-find entry_one_edge (λ entry. bytes_eq entry.0 text) check_words entry refl e) in
    elim (list_any (λ word. bytes_eq word text) delay_words) as
    (λ b. one_edge (if b then Delay
    else unwrap_or (option_map (λ entry. entry.1) (find (λ entry. bytes_eq entry.0 text) check_words)) Other) ≡ true) [
      | true ↦ refl
      | false ↦ checks
    ]

attribute-one_edge : (o : Option Attribute)
    → one_edge (option_map_or (λ (attribute : Attribute). type_named attribute.text) o Delay) ≡ true
attribute-one_edge None = refl
attribute-one_edge (Some attribute) = named-one_edge attribute.text

type-one_edge : (group : Group) → one_edge (type_of group) ≡ true
type-one_edge group = attribute-one_edge (attribute_of group (codes "timing_type"))

-- Where a group is used its type stands under the pin.
abbrev stands : Subject → TimingType → Bool
stands subject t = option_map_or (λ (pin : Pin). stands_under t pin.direction) (slice_get subject.pins subject.place) false

used-stands : (subject : Subject) (group : Group) → is_used subject group ≡ true → stands subject (type_of group) ≡ true
unfolding is_used
used-stands subject group h = (and_parts (stands subject (type_of group)) (has_table group) h).0

-- A condition with a tree names input pins, one at least.
abbrev SoundCondition : Subject → Condition → Type 0
SoundCondition subject condition.Always = Unit {0}
SoundCondition subject condition.Never = Unit {0}
SoundCondition subject (condition.Where f) = (list_all (is_input_pin subject.pins) (support_of f) ≡ true)
    × ((length (support_of f) == 0) ≡ false)
SoundCondition subject condition.Malformed = Unit {0}
SoundCondition subject condition.Unknown = Unit {0}

constant-sound : (subject : Subject) (f : Node) → list_all (is_input_pin subject.pins) (support_of f) ≡ true
    → SoundCondition subject (constant_or f)
constant-sound subject f h =
    elim (cases_Bool (length (support_of f) == 0)) [
      | inl none ↦ rw none (elim (value_of [] f) as
          (λ v. SoundCondition subject (if v then condition.Always else condition.Never)) [ true ↦ tt | false ↦ tt ])
      | inr some ↦ rw some (h, some)
    ]

tree-sound : (subject : Subject) (f : Node) → SoundCondition subject (condition_of_tree subject f)
tree-sound subject f =
    elim (cases_Bool (list_all (is_input_pin subject.pins) (support_of f))) [
      | inl inputs ↦ rw inputs (constant-sound subject f inputs)
      | inr others ↦ rw others tt
    ]

reading-sound : (subject : Subject) (reading : Result Node FunctionFault) → SoundCondition subject (condition_as subject reading)
reading-sound subject (Ok f) = tree-sound subject f
reading-sound subject (Err function_fault.TooLong) = tt
reading-sound subject (Err (function_fault.Malformed at)) = tt
reading-sound subject (Err (function_fault.UnknownName at)) = tt
reading-sound subject (Err function_fault.Memory) = tt

text-sound : (subject : Subject) (text : List ℕ) → SoundCondition subject (condition_in subject text)
unfolding condition_in
text-sound subject text = reading-sound subject (reading_of subject.names text)

attribute-sound : (subject : Subject) (o : Option Attribute)
    → SoundCondition subject (option_map_or (λ (attribute : Attribute). condition_in subject attribute.text) o condition.Always)
attribute-sound subject None = tt
attribute-sound subject (Some attribute) = text-sound subject attribute.text

group-sound : (subject : Subject) (group : Group) → SoundCondition subject (condition_of subject group)
unfolding condition_of
group-sound subject group = attribute-sound subject (attribute_of group (codes "when"))

above-none : (n : ℕ) → (n == 0) ≡ false → nat_lt 0 n ≡ true
above-none n h = grind (arith, nat_tests)

at_most-ten : (n : ℕ) → nat_lt 10 n ≡ false → nat_le n 10 ≡ true
at_most-ten n h = grind (arith, nat_tests)

condition-kept : (subject : Subject) (own apart : List ℕ) (c : Condition) → SoundCondition subject c → names_one own c ≡ false
    → is_wide c ≡ false → list_all (has own) apart ≡ true → is_condition subject.pins apart (tree_of c) ≡ true
condition-kept subject own apart condition.Always s n w h = refl
condition-kept subject own apart condition.Never s n w h = refl
condition-kept subject own apart (condition.Where f) s n w h =
    both _ _ (above-none (length (support_of f)) s.1)
    (both _ _ (at_most-ten (length (support_of f)) w)
    (all-apart (is_input_pin subject.pins) apart own (support_of f) h s.0 n))
condition-kept subject own apart condition.Malformed s n w h = refl
condition-kept subject own apart condition.Unknown s n w h = refl

-- What is so of the condition of a group that is read is noted at its statement.
not_placed : (o : Option Attribute) → place_of o ≡ [] → o ≡ None
not_placed None h = refl
not_placed (Some attribute) h = absurd cc

always-without : (subject : Subject) (group : Group) → attribute_of group (codes "when") ≡ None
    → condition_of subject group ≡ condition.Always
unfolding condition_of
always-without subject group h = rw h refl

test-false : (subject : Subject) (group : Group) (test : Condition → Bool) → test condition.Always ≡ false
    → is_read subject group ≡ true →
    (if is_read subject group && test (condition_of subject group) then place_of (attribute_of group (codes "when")) else []) ≡ []
    → test (condition_of subject group) ≡ false
test-false subject group test always read noted =
    elim (cases_Bool (test (condition_of subject group))) [
      | inl so ↦
          let at : place_of (attribute_of group (codes "when")) ≡ [] = rw (read, so) at noted in
          ap test (always-without subject group (not_placed (attribute_of group (codes "when")) at)) ∙ always
      | inr not_so ↦ not_so
    ]

-- The pins that a group is related to are input pins.
related-input : (subject : Subject) (o : Option ℕ) (rest : List ℕ) → list_all (is_input_pin subject.pins) rest ≡ true →
    list_all (is_input_pin subject.pins)
    (cons_option (input_of (option_map_or (λ p. if is_input_pin subject.pins p then related.Input p else related.Driven) o
    related.Unknown)) rest) ≡ true
related-input subject None rest h = h
related-input subject (Some p) rest h =
    elim (cases_Bool (is_input_pin subject.pins p)) [
      | inl input ↦ rw input (both _ _ input h)
      | inr other ↦ rw other h
    ]

words-inputs : (subject : Subject) (words : List (List ℕ))
    → list_all (is_input_pin subject.pins) (filter_map input_of (map (related_as subject) words)) ≡ true
words-inputs subject [] = refl
words-inputs subject (word ∷ words) =
    related-input subject (number_of subject.names word) (filter_map input_of (map (related_as subject) words))
    (words-inputs subject words)

typed-inputs : (subject : Subject) (group : Group) (t : TimingType) → stands subject t ≡ true
    → list_all (is_input_pin subject.pins) (filter_map input_of (related_by subject group t)) ≡ true
typed-inputs subject group Width h = both _ _ h refl
typed-inputs subject group Period h = both _ _ h refl
typed-inputs subject group Delay h = words-inputs subject (related_words group)
typed-inputs subject group (Setup edge) h = words-inputs subject (related_words group)
typed-inputs subject group (Hold edge) h = words-inputs subject (related_words group)
typed-inputs subject group (Recovery edge) h = words-inputs subject (related_words group)
typed-inputs subject group (Removal edge) h = words-inputs subject (related_words group)
typed-inputs subject group Other h = words-inputs subject (related_words group)

inputs-inputs : (subject : Subject) (group : Group) → is_used subject group ≡ true
    → list_all (is_input_pin subject.pins) (inputs_of subject group) ≡ true
unfolding related_of
inputs-inputs subject group h = typed-inputs subject group (type_of group) (used-stands subject group h)

-- A check with a limit keeps the rules where its events, its limit and its condition do.
pub check-kept : (pins : List Pin) (k : Check) → is_input_pin pins k.first.pin ≡ true → is_input_pin pins k.second.pin ≡ true
    → has_events k k.kind ≡ true → k.limit ≤ longest_time → is_condition pins (k.first.pin ∷ k.second.pin ∷ []) k.condition ≡ true
    → (not (has_limit k) || is_check pins k) ≡ true
check-kept pins k first second events limit condition =
    implied (has_limit k) (is_check pins k) (λ some.
    let above : nat_lt 0 k.limit ≡ true = limited k.limit some in
    let within : nat_le k.limit longest_time ≡ true = grind (arith, nat_tests) in
    both _ _ first (both _ _ second (both _ _ events (both _ _ above (both _ _ within condition)))))
  where
    limited : (n : ℕ) → not (n == 0) ≡ true → nat_lt 0 n ≡ true
    limited n h = grind (arith, nat_tests)

abbrev pub is_kept : List Pin → Check → Bool
is_kept pins k = not (has_limit k) || is_check pins k

max-within : (a b : ℕ) → a ≤ longest_time → b ≤ longest_time → max a b ≤ longest_time
max-within a b h k = omega arith

pub has-same : (n : ℕ) → nat_eq n n ≡ true
has-same n = grind (arith, nat_tests)

-- The checks that a type makes with an input pin keep the rules, and so do its arcs.
typed-checks : (subject : Subject) (t : TimingType) (p rise fall : ℕ) (c : Option Node) → one_edge t ≡ true
    → stands subject t ≡ true → is_input_pin subject.pins p ≡ true → rise ≤ longest_time → fall ≤ longest_time →
    ((first second : ℕ) → (first ≡ p) ⊎ (first ≡ subject.place) → (second ≡ p) ⊎ (second ≡ subject.place)
    → is_condition subject.pins (first ∷ second ∷ []) c ≡ true) →
    list_all (is_kept subject.pins) (checks_with t subject.place p rise fall c) ≡ true
typed-checks subject Delay p rise fall c e s i r f k = refl
typed-checks subject Other p rise fall c e s i r f k = refl
typed-checks subject (Setup edge) p rise fall c e s i r f k =
    both _ _ (check-kept subject.pins (check kind.Setup (event subject.place Any) (event p edge) (max rise fall) c) s i e
    (max-within rise fall r f) (k subject.place p (inr refl) (inl refl))) refl
typed-checks subject (Hold edge) p rise fall c e s i r f k =
    both _ _ (check-kept subject.pins (check kind.Hold (event p edge) (event subject.place Any) (max rise fall) c) i s
    (both _ _ e refl) (max-within rise fall r f) (k p subject.place (inl refl) (inr refl))) refl
typed-checks subject (Recovery edge) p rise fall c e s i r f k =
    both _ _ (check-kept subject.pins (check kind.Recovery (event subject.place Rise) (event p edge) rise c) s i e r
    (k subject.place p (inr refl) (inl refl)))
    (both _ _ (check-kept subject.pins (check kind.Recovery (event subject.place Fall) (event p edge) fall c) s i e f
    (k subject.place p (inr refl) (inl refl))) refl)
typed-checks subject (Removal edge) p rise fall c e s i r f k =
    both _ _ (check-kept subject.pins (check kind.Removal (event p edge) (event subject.place Rise) rise c) i s
    (both _ _ e refl) r (k p subject.place (inl refl) (inr refl)))
    (both _ _ (check-kept subject.pins (check kind.Removal (event p edge) (event subject.place Fall) fall c) i s
    (both _ _ e refl) f (k p subject.place (inl refl) (inr refl))) refl)
typed-checks subject Width p rise fall c e s i r f k =
    both _ _ (check-kept subject.pins (check kind.Width (event subject.place Rise) (event subject.place Fall) rise c) s s
    (both _ _ (has-same subject.place) refl) r (k subject.place subject.place (inr refl) (inr refl)))
    (both _ _ (check-kept subject.pins (check kind.Width (event subject.place Fall) (event subject.place Rise) fall c) s s
    (both _ _ (has-same subject.place) refl) f (k subject.place subject.place (inr refl) (inr refl))) refl)
typed-checks subject Period p rise fall c e s i r f k =
    both _ _ (check-kept subject.pins (check kind.Period (event subject.place Any) (event subject.place Any) (max rise fall) c) s
    s (both _ _ (has-same subject.place) refl) (max-within rise fall r f)
    (k subject.place subject.place (inr refl) (inr refl))) refl

typed-arcs : (subject : Subject) (t : TimingType) (p rise fall : ℕ) (c : Option Node) → stands subject t ≡ true
    → is_input_pin subject.pins p ≡ true → rise ≤ longest_time → fall ≤ longest_time →
    is_condition subject.pins (p ∷ []) c ≡ true → list_all (is_arc subject.pins) (arcs_with t subject.place p rise fall c) ≡ true
typed-arcs subject Delay p rise fall c s i r f k =
    let up : nat_le rise longest_time ≡ true = grind (arith, nat_tests) in
    let down : nat_le fall longest_time ≡ true = grind (arith, nat_tests) in
    both _ _ (both _ _ i (both _ _ s (both _ _ up (both _ _ down k)))) refl
typed-arcs subject (Setup edge) p rise fall c s i r f k = refl
typed-arcs subject (Hold edge) p rise fall c s i r f k = refl
typed-arcs subject (Recovery edge) p rise fall c s i r f k = refl
typed-arcs subject (Removal edge) p rise fall c s i r f k = refl
typed-arcs subject Width p rise fall c s i r f k = refl
typed-arcs subject Period p rise fall c s i r f k = refl
typed-arcs subject Other p rise fall c s i r f k = refl

-- those of a group
abbrev is_related : Subject → Group → ℕ → Bool
is_related subject group p = is_input_pin subject.pins p && has (subject.place ∷ inputs_of subject group) p

inputs-related : (subject : Subject) (group : Group) → is_used subject group ≡ true
    → list_all (is_related subject group) (inputs_of subject group) ≡ true
inputs-related subject group h =
    all-both (is_input_pin subject.pins) (has (subject.place ∷ inputs_of subject group)) (inputs_of subject group)
    (inputs-inputs subject group h)
    (all-weaker (has (inputs_of subject group)) (has (subject.place ∷ inputs_of subject group)) (inputs_of subject group)
    (λ p h. has-later subject.place p (inputs_of subject group) h) (all-has (inputs_of subject group)))

one_of : (all : List ℕ) (place p x : ℕ) → has all p ≡ true → has all place ≡ true → (x ≡ p) ⊎ (x ≡ place) → has all x ≡ true
one_of all place p x h k (inl e) = subst (λ y. has all y ≡ true) (sym e) h
one_of all place p x h k (inr e) = subst (λ y. has all y ≡ true) (sym e) k

-- what holds of a group of which something is made, where nothing is noted in its condition
record IsQuiet (subject : Subject) (group : Group) : Type 0 where
  used : is_used subject group ≡ true
  own : names_one (subject.place ∷ inputs_of subject group) (condition_of subject group) ≡ false
  wide : is_wide (condition_of subject group) ≡ false

quiet : (subject : Subject) (group : Group) → is_made subject group ≡ true → own_in subject group ≡ []
    → wide_in subject group ≡ [] → IsQuiet subject group
quiet subject group made own wide =
    let read : is_read subject group ≡ true = (and_parts (is_read subject group) (may_hold (condition_of subject group)) made).0
    in record {
      used = (and_parts (is_used subject group) (list_any (λ r. not (is_driven r)) (related_of subject group)) read).0;
      own = test-false subject group (names_one (subject.place ∷ inputs_of subject group)) refl read own;
      wide = test-false subject group is_wide refl read wide;
    }

checks_from-kept : (subject : Subject) (group : Group) → IsQuiet subject group → (p : ℕ) → is_related subject group p ≡ true
    → list_all (is_kept subject.pins) (checks_from subject group p) ≡ true
checks_from-kept subject group q p h =
    let all : List ℕ = subject.place ∷ inputs_of subject group in
    let parts = and_parts (is_input_pin subject.pins p) (has all p) h in
    typed-checks subject (type_of group) p (rise_of subject group) (fall_of subject group) (tree_of (condition_of subject group))
    (type-one_edge group)
    (used-stands subject group q.used)
    parts.0
    (limit_of-within subject.unit (rise_table (type_of group)) group)
    (limit_of-within subject.unit (fall_table (type_of group)) group)
    (λ first second f s.
    let here : has all subject.place ≡ true = has-here subject.place (inputs_of subject group) in
    condition-kept subject all (first ∷ second ∷ []) (condition_of subject group) (group-sound subject group) q.own q.wide
    (both _ _ (one_of all subject.place p first parts.1 here f)
    (both _ _ (one_of all subject.place p second parts.1 here s) refl)))

arcs_from-kept : (subject : Subject) (group : Group) → IsQuiet subject group → (p : ℕ) → is_related subject group p ≡ true
    → list_all (is_arc subject.pins) (arcs_from subject group p) ≡ true
arcs_from-kept subject group q p h =
    let all : List ℕ = subject.place ∷ inputs_of subject group in
    let parts = and_parts (is_input_pin subject.pins p) (has all p) h in
    let rise = limit_of-within subject.unit (rise_table (type_of group)) group in
    let fall = limit_of-within subject.unit (fall_table (type_of group)) group in
    let kept = condition-kept subject all (p ∷ []) (condition_of subject group) (group-sound subject group) q.own q.wide
    (both _ _ parts.1 refl) in
    typed-arcs subject (type_of group) p (rise_of subject group) (fall_of subject group) (tree_of (condition_of subject group))
    (used-stands subject group q.used) parts.0 rise fall kept

-- what a group makes keeps a rule, where what it would make does and nothing is wrong with its condition
when-made : {A : Type 0} (t : A → Bool) (subject : Subject) (group : Group) (xs : List A) → own_in subject group ≡ []
    → wide_in subject group ≡ []
    → (IsQuiet subject group → list_all t xs ≡ true) → list_all t (if is_made subject group then xs else []) ≡ true
when-made t subject group xs own wide kept =
    elim (cases_Bool (is_made subject group)) [
      | inl made ↦ rw made (kept (quiet subject group made own wide))
      | inr not_made ↦ rw not_made refl
    ]

pub group-checks : (subject : Subject) (group : Group) → own_in subject group ≡ [] → wide_in subject group ≡ []
    → list_all (is_check subject.pins) (checks_in subject group) ≡ true
group-checks subject group own wide =
    when-made (is_check subject.pins) subject group
    (filter has_limit (flat_map (checks_from subject group) (inputs_of subject group))) own wide
    (λ q. all-filter (is_check subject.pins) has_limit (flat_map (checks_from subject group) (inputs_of subject group))
    (all-flat_map (is_kept subject.pins) (checks_from subject group) (is_related subject group) (inputs_of subject group)
    (checks_from-kept subject group q) (inputs-related subject group q.used)))

pub group-arcs : (subject : Subject) (group : Group) → own_in subject group ≡ [] → wide_in subject group ≡ []
    → list_all (is_arc subject.pins) (arcs_in subject group) ≡ true
group-arcs subject group own wide =
    when-made (is_arc subject.pins) subject group (flat_map (arcs_from subject group) (inputs_of subject group)) own wide
    (λ q. all-flat_map (is_arc subject.pins) (arcs_from subject group) (is_related subject group) (inputs_of subject group)
    (arcs_from-kept subject group q) (inputs-related subject group q.used))
