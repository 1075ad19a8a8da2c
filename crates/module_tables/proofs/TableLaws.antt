-- No argument gives two values exactly where the tables give the cell's values.
use Rattle.std.proofs.Common.{◌≡◌, ◌≢◌, ℕ, zero, suc, ◌+◌, ◌<◌, Bool, true, false, not, cond, List, [], ◌∷◌, ◌++◌, map, find}
use Rattle.std.proofs.Common.{length, Option, None, Some, slice_index_or, slice_get, if◌then◌else◌, refl, sym, ◌∙◌, ap, subst}
use Rattle.std.proofs.Common.{arith, inl, inr}
use Rattle.std.specs.List.{range_with_len}
use Rattle.std.proofs.lemmas.Bool.{true≢false}
use Rattle.trit_cubes.specs.declared.trits.Trit.{Trit}
use Rattle.trit_cubes.specs.declared.trits.Trit.TheVariants.{Zero, One, Unknown}
use Rattle.trit_cubes.specs.Filling.{same}
use Rattle.trit_cubes.specs.Prime.{cubes_of}
use Rattle.trit_cubes.proofs.ListLemmas.{Among, map-among, append-among_left, append-among_right}
use Rattle.trit_cubes.proofs.SplitLemmas.{cubes_of-length}
use Rattle.bool_functions.specs.Support.{support_of}
use Rattle.cell_machine.specs.declared.checks.Check.{Check}
use Rattle.cell_machine.specs.declared.arcs.Arc.{Arc}
use Rattle.cell_machine.specs.CellData.{CellData}
use Rattle.cell_machine.specs.CellTrace.{support_at, sources_at}
use Rattle.cell_machine.proofs.StillLemmas.{same-self, same-is, same-equal as alike}
use Rattle.udp_tables.specs.Sequential.{noted}
use Rattle.udp_tables.specs.CellPrimitives.{has_notifier}
use Rattle.udp_tables.specs.declared.timing_checks.TimingCheck.{TimingCheck}
use Rattle.specify_blocks.specs.declared.model.VPath.{VPath}
use Rattle.specify_blocks.specs.declared.model.VModule.{VModule}
use Rattle.module_tables.specs.declared.differences.AuditPart.{AuditPart}
use Rattle.module_tables.specs.declared.differences.AuditPart.TheVariants as part
use Rattle.module_terminals.specs.Feeding.{Gating, gate_wire, check_gating, path_gating}
use Rattle.module_tables.specs.Tables.{group_next, place_net, cell_step, model_step, cell_forced, model_notified, cell_condition}
use Rattle.module_tables.specs.Tables.{model_condition, cell_output, model_output, all_trits, notes, notes_before, note_after}
use Rattle.module_tables.specs.Tables.{changes_at, step_compared, steps_by_note, steps_by_state, steps_where_changed}
use Rattle.module_tables.specs.Tables.{steps_by_list, steps_by_old, steps_compared, note_compared, notes_by_list, notes_by_old}
use Rattle.module_tables.specs.Tables.{notes_compared, value_compared, conditions_compared, compared_count, compared_at}
use Rattle.module_tables.specs.Tables.{part_compared, compared_parts, compared, is_unlike, first_difference}
use Rattle.module_tables.specs.SameValues.{HasValues}
use Rattle.module_terminals.proofs.Searches.{flat-none, none-flat, map-none, none-map, in-range, range-in, in-trits}
use Rattle.module_terminals.proofs.Searches.{in-trits-from-x}
use Rattle.module_terminals.proofs.Gatings.{gating-below}

-- each list of n trits is among them
all-lists : (n : ℕ) (c : List Trit) → length c ≡ n → Among c (cubes_of n)
all-lists zero [] e = inl refl
all-lists zero (t ∷ c) e = absurd (omega arith)
all-lists (suc n) [] e = absurd (omega arith)
all-lists (suc n) (Zero ∷ c) e =
    append-among_left (Zero ∷ c) (map (λ d. Zero ∷ d) (cubes_of n) ++ map (λ d. One ∷ d) (cubes_of n))
    (map (λ d. Unknown ∷ d) (cubes_of n))
    (append-among_left (Zero ∷ c) (map (λ d. Zero ∷ d) (cubes_of n)) (map (λ d. One ∷ d) (cubes_of n))
    (map-among (λ d. Zero ∷ d) c (cubes_of n) (all-lists n c (omega arith))))
all-lists (suc n) (One ∷ c) e =
    append-among_left (One ∷ c) (map (λ d. Zero ∷ d) (cubes_of n) ++ map (λ d. One ∷ d) (cubes_of n))
    (map (λ d. Unknown ∷ d) (cubes_of n))
    (append-among_right (One ∷ c) (map (λ d. Zero ∷ d) (cubes_of n)) (map (λ d. One ∷ d) (cubes_of n))
    (map-among (λ d. One ∷ d) c (cubes_of n) (all-lists n c (omega arith))))
all-lists (suc n) (Unknown ∷ c) e =
    append-among_right (Unknown ∷ c) (map (λ d. Zero ∷ d) (cubes_of n) ++ map (λ d. One ∷ d) (cubes_of n))
    (map (λ d. Unknown ∷ d) (cubes_of n))
    (map-among (λ d. Unknown ∷ d) c (cubes_of n) (all-lists n c (omega arith)))

likeness : (cell model : Trit) → model ≡ cell → not (same cell model) ≡ false
likeness cell model h = ap not (subst (λ x. same cell x ≡ true) (sym h) (same-self cell))

-- a place that changes
changes : (p : ℕ) (old : Trit) (values : List Trit) → old ≢ slice_index_or values p Unknown → changes_at p old values ≡ true
changes p old values h = by (same old (slice_index_or values p Unknown))
    (λ e. h (same-is old (slice_index_or values p Unknown) e))
  where
    by : (b : Bool) → (b ≡ true → ⊥) → not b ≡ true
    by true k = absurd (k refl)
    by false k = refl

changed : (p : ℕ) (old : Trit) (values : List Trit) → changes_at p old values ≡ true → old ≢ slice_index_or values p Unknown
changed p old values h e =
    true≢false (sym h ∙ ap not (subst (λ x. same old x ≡ true) e (same-self old)))

guarded : {X : Type 0} (p : X → Bool) (b : Bool) (xs : List X) → find p (cond b xs []) ≡ None → b ≡ true → find p xs ≡ None
guarded p b xs h e = subst (λ c. find p (cond c xs []) ≡ None) e h

guard : {X : Type 0} (p : X → Bool) (b : Bool) (xs : List X) → (b ≡ true → find p xs ≡ None) → find p (cond b xs []) ≡ None
guard p true xs h = h refl
guard p false xs h = refl

-- at every value of the register, by those that are compared
every-note :
    (d : CellData) (m : VModule) (g p : ℕ) (old : Trit) (values : List Trit) (s : Trit) (b : Bool)
    → has_notifier d ≡ b → find is_unlike (map (step_compared d m g p old values s) (notes b)) ≡ None
    → (note : Trit) → model_step d m g p old values note s ≡ cell_step d g p old values s
every-note d m g p old values s true e h note =
    alike (cell_step d g p old values s) (model_step d m g p old values note s)
    (map-none is_unlike (step_compared d m g p old values s) (notes true) h (Some note) (some-note note))
  where
    some-note : (t : Trit) → Among (Some t) (notes true)
    some-note Zero = inl refl
    some-note One = inr (inl refl)
    some-note Unknown = inr (inr (inl refl))
every-note d m g p old values s false e h note =
    ap (λ b. group_next d m g (noted b note values) (place_net d g p) old s) e
    ∙ sym (ap (λ b. group_next d m g (noted b Unknown values) (place_net d g p) old s) e)
    ∙ alike (cell_step d g p old values s) (model_step d m g p old values Unknown s)
    (map-none is_unlike (step_compared d m g p old values s) (notes false) h None (inl refl))

compared-notes :
    (d : CellData) (m : VModule) (g p : ℕ) (old : Trit) (values : List Trit) (s : Trit)
    → ((note : Trit) → model_step d m g p old values note s ≡ cell_step d g p old values s)
    → find is_unlike (steps_by_note d m g p old values s) ≡ None
compared-notes d m g p old values s h =
    none-map is_unlike (step_compared d m g p old values s) (notes (has_notifier d))
    (λ note a. by note)
  where
    by : (note : Option Trit) → is_unlike (step_compared d m g p old values s note) ≡ false
    by None = likeness (cell_step d g p old values s) (model_step d m g p old values Unknown s) (h Unknown)
    by (Some note) = likeness (cell_step d g p old values s) (model_step d m g p old values note s) (h note)

-- no difference where the module gives the cell's value from each state, at each value of the register
pub states-agree :
    (d : CellData) (m : VModule) (g p : ℕ) (old : Trit) (values : List Trit)
    → ((note s : Trit) → model_step d m g p old values note s ≡ cell_step d g p old values s)
    → find is_unlike (steps_by_state d m g p old values) ≡ None
states-agree d m g p old values h =
    none-flat is_unlike (steps_by_note d m g p old values) all_trits
    (λ s a. compared-notes d m g p old values s (λ note. h note s))

steps-from :
    (d : CellData) (m : VModule) (g : ℕ) → find is_unlike (steps_compared d m g) ≡ None
    → (p : ℕ) (old : Trit) (values : List Trit) (note s : Trit)
    → length values ≡ length (support_at d g) → p < length values → old ≢ slice_index_or values p Unknown
    → model_step d m g p old values note s ≡ cell_step d g p old values s
steps-from d m g h p old values note s long inside apart =
    let n = length (support_at d g) in
    let at_place = flat-none is_unlike (steps_by_old d m g) (range_with_len 0 n) h p
    (in-range 0 n p (omega arith) (omega (arith, inside, long))) in
    let at_old = flat-none is_unlike (steps_by_list d m g p) all_trits at_place old (in-trits old) in
    let at_list = flat-none is_unlike (steps_where_changed d m g p old) (cubes_of n) at_old values (all-lists n values long) in
    let at_change = guarded is_unlike (changes_at p old values) (steps_by_state d m g p old values) at_list
    (changes p old values apart) in
    every-note d m g p old values s (has_notifier d) refl
    (flat-none is_unlike (steps_by_note d m g p old values) all_trits at_change s (in-trits s)) note

from-steps :
    (d : CellData) (m : VModule) (g : ℕ)
    → ((p : ℕ) (old : Trit) (values : List Trit) (note s : Trit)
    → length values ≡ length (support_at d g) → p < length values → old ≢ slice_index_or values p Unknown
    → model_step d m g p old values note s ≡ cell_step d g p old values s)
    → find is_unlike (steps_compared d m g) ≡ None
from-steps d m g h =
    let n = length (support_at d g) in
    none-flat is_unlike (steps_by_old d m g) (range_with_len 0 n) (λ p at_place.
    none-flat is_unlike (steps_by_list d m g p) all_trits (λ old at_old.
    none-flat is_unlike (steps_where_changed d m g p old) (cubes_of n) (λ values at_list.
    guard is_unlike (changes_at p old values) (steps_by_state d m g p old values) (λ change.
    none-flat is_unlike (steps_by_note d m g p old values) all_trits (λ s at_state.
    compared-notes d m g p old values s (λ note.
    h p old values note s (cubes_of-length n values at_list)
    (omega (arith, range-in 0 n p at_place, cubes_of-length n values at_list)) (changed p old values change)))))))

notes-from :
    (d : CellData) (m : VModule) (g : ℕ) → find is_unlike (notes_compared d m g) ≡ None
    → (old : Trit) (values : List Trit) (s : Trit)
    → length values ≡ length (support_at d g) → model_notified d m g old (note_after old) values s ≡ cell_forced d g values
notes-from d m g h old values s long =
    let n = length (support_at d g) in
    let at_old = flat-none is_unlike (notes_by_old d m g) notes_before h old (in-trits-from-x old) in
    let at_list = flat-none is_unlike (notes_by_list d m g old) (cubes_of n) at_old values (all-lists n values long) in
    alike (cell_forced d g values) (model_notified d m g old (note_after old) values s)
    (map-none is_unlike (note_compared d m g old values) all_trits at_list s (in-trits s))

from-notes :
    (d : CellData) (m : VModule) (g : ℕ)
    → ((old : Trit) (values : List Trit) (s : Trit)
    → length values ≡ length (support_at d g) → model_notified d m g old (note_after old) values s ≡ cell_forced d g values)
    → find is_unlike (notes_compared d m g) ≡ None
from-notes d m g h =
    let n = length (support_at d g) in
    none-flat is_unlike (notes_by_old d m g) notes_before (λ old at_old.
    none-flat is_unlike (notes_by_list d m g old) (cubes_of n) (λ values at_list.
    none-map is_unlike (note_compared d m g old values) all_trits (λ s at_state.
    likeness (cell_forced d g values) (model_notified d m g old (note_after old) values s)
    (h old values s (cubes_of-length n values at_list)))))

values-from :
    (p : AuditPart) (number n : ℕ) (of_cell of_model : List Trit → Trit)
    → find is_unlike (map (value_compared p number of_cell of_model) (cubes_of n)) ≡ None
    → (values : List Trit) → length values ≡ n → of_model values ≡ of_cell values
values-from p number n of_cell of_model h values long =
    alike (of_cell values) (of_model values)
    (map-none is_unlike (value_compared p number of_cell of_model) (cubes_of n) h values (all-lists n values long))

from-values :
    (p : AuditPart) (number n : ℕ) (of_cell of_model : List Trit → Trit)
    → ((values : List Trit) → length values ≡ n → of_model values ≡ of_cell values)
    → find is_unlike (map (value_compared p number of_cell of_model) (cubes_of n)) ≡ None
from-values p number n of_cell of_model h =
    none-map is_unlike (value_compared p number of_cell of_model) (cubes_of n)
    (λ values a. likeness (of_cell values) (of_model values) (h values (cubes_of-length n values a)))

gating-from :
    (d : CellData) (m : VModule) (p : AuditPart) (number : ℕ) (o : Option Gating) (u : Gating)
    → find is_unlike (conditions_compared d m p number o) ≡ None → o ≡ Some u
    → (values : List Trit) → length values ≡ length (support_of u.condition)
    → model_condition d m u values ≡ cell_condition u.condition values
gating-from d m p number o u h e =
    values-from p number (length (support_of u.condition)) (cell_condition u.condition) (model_condition d m u)
    (subst (λ x. find is_unlike (conditions_compared d m p number x) ≡ None) e h)

from-gating :
    (d : CellData) (m : VModule) (p : AuditPart) (number : ℕ) (o : Option Gating)
    → ((u : Gating) (values : List Trit) → o ≡ Some u → length values ≡ length (support_of u.condition)
    → model_condition d m u values ≡ cell_condition u.condition values)
    → find is_unlike (conditions_compared d m p number o) ≡ None
from-gating d m p number None h = refl
from-gating d m p number (Some u) h =
    from-values p number (length (support_of u.condition)) (cell_condition u.condition) (model_condition d m u)
    (λ values. h u values refl)

-- the numbers of checks and arcs with conditions
check-below : (d : CellData) (m : VModule) (i : ℕ) (u : Gating) → check_gating d m i ≡ Some u → i < length d.checks
check-below d m i u e = gating-below (λ (k : Check). k.condition) (λ (k : TimingCheck). k.condition) d.checks
    (slice_get m.checks i) i u e

path-below : (d : CellData) (m : VModule) (i : ℕ) (u : Gating) → path_gating d m i ≡ Some u → i < length d.arcs
path-below d m i u e = gating-below (λ (arc : Arc). arc.condition) (λ (path : VPath). gate_wire path.gate) d.arcs
    (slice_get m.paths i) i u e

-- the groups whose changes of the register are compared
below-notified : (b : Bool) (n k : ℕ) → k < (if b then n else 0) → (b ≡ true) × (k < n)
below-notified true n k l = (refl, l)
below-notified false n k l = absurd (omega (arith, l))

pub notified_group : (d : CellData) (k : ℕ) → k < compared_count d part.Notifier → k < length d.groups
notified_group d k l = (below-notified (has_notifier d) (length d.groups) k l).1

-- no difference of one that is compared
none-of-part :
    (d : CellData) (m : VModule) → first_difference (compared d m) ≡ None
    → (p : AuditPart) → Among p compared_parts → (k : ℕ) → k < compared_count d p → find is_unlike (compared_at d m p k) ≡ None
none-of-part d m h p among k l =
    flat-none is_unlike (compared_at d m p) (range_with_len 0 (compared_count d p))
    (flat-none is_unlike (part_compared d m) compared_parts h p among) k
    (in-range 0 (compared_count d p) k (omega arith) (omega (arith, l)))

-- Where no argument gives two values the tables give the cell's.
pub tables-from : (d : CellData) (m : VModule) → first_difference (compared d m) ≡ None → HasValues d m
tables-from d m h =
    record {
      steps = λ g p old values note s inside.
          steps-from d m g (none-of-part d m h part.State (inl refl) g inside) p old values note s;
      forces = λ g old values s has inside.
          notes-from d m g
          (none-of-part d m h part.Notifier (inr (inl refl)) g
          (subst (λ b. g < (if b then length d.groups else 0)) (sym has) inside))
          old values s;
      checks = λ i u values e.
          gating-from d m part.Check (i + 1) (check_gating d m i) u
          (none-of-part d m h part.Check (inr (inr (inl refl))) i (check-below d m i u e)) e values;
      paths = λ i u values e.
          gating-from d m part.Path (i + 1) (path_gating d m i) u
          (none-of-part d m h part.Path (inr (inr (inr (inl refl)))) i (path-below d m i u e)) e values;
      outputs = λ o values inside.
          values-from part.Output (o + 1) (length (sources_at d o)) (cell_output d o) (model_output d m o)
          (none-of-part d m h part.Output (inr (inr (inr (inr (inl refl))))) o inside) values;
    }

-- Where they give the cell's values no argument gives two.
pub from-tables : (d : CellData) (m : VModule) → HasValues d m → first_difference (compared d m) ≡ None
from-tables d m v =
    none-flat is_unlike (part_compared d m) compared_parts (λ p among.
    none-flat is_unlike (compared_at d m p) (range_with_len 0 (compared_count d p)) (λ k within.
    let below : k < compared_count d p = omega (arith, range-in 0 (compared_count d p) k within) in
    by p k below))
  where
    by : (p : AuditPart) (k : ℕ) → k < compared_count d p → find is_unlike (compared_at d m p k) ≡ None
    by part.State g l = from-steps d m g (λ p old values note s. v.steps g p old values note s l)
    by part.Notifier g l =
        let notified = below-notified (has_notifier d) (length d.groups) g l in
        from-notes d m g (λ old values s. v.forces g old values s notified.0 notified.1)
    by part.Check j l = from-gating d m part.Check (j + 1) (check_gating d m j) (λ u values e. v.checks j u values e)
    by part.Path j l = from-gating d m part.Path (j + 1) (path_gating d m j) (λ u values e. v.paths j u values e)
    by part.Output o l =
        from-values part.Output (o + 1) (length (sources_at d o)) (cell_output d o) (model_output d m o)
        (λ values. v.outputs o values l)
