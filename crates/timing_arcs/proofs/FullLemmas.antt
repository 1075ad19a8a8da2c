-- Where there is no room, what a group makes changes nothing.
use Rattle.std.proofs.Common.{◌≡◌, ℕ, suc, Bool, true, false, not, ◌||◌, ◌==◌, List, [], ◌∷◌, ◌++◌, map, length, refl, sym, ap}
use Rattle.std.proofs.Common.{◌∙◌, arith}
use Rattle.std.specs.Prelude.{Option, nat_lt, if◌then◌else◌}
use Rattle.std.specs.List.{list_any}
use Rattle.std.proofs.lemmas.Bool.{and_parts, eqb-true}
use Rattle.bool_functions.specs.declared.tree.Node.{Node}
use Rattle.cell_machine.specs.declared.checks.Check.{Check}
use Rattle.cell_machine.specs.declared.arcs.Arc.{Arc}
use Rattle.timing_arcs.specs.declared.found.Found.{Found}
use Rattle.timing_arcs.specs.declared.subject.Subject.{Subject}
use Rattle.timing_arcs.specs.declared.group_text.GroupText.{GroupText}
use Rattle.timing_arcs.specs.declared.timing_type.TimingType.{TimingType}
use Rattle.timing_arcs.specs.declared.timing_type.TimingType.TheVariants.{Delay, Setup, Hold, Recovery, Removal, Width, Period}
use Rattle.timing_arcs.specs.declared.timing_type.TimingType.TheVariants.{Other}
use Rattle.timing_arcs.specs.Conditions.{tree_of}
use Rattle.timing_arcs.specs.Making.{checks_with, arcs_with}
use Rattle.timing_arcs.specs.Merging.{same_path}
use Rattle.timing_arcs.specs.Adding.{joined_with, pushed, with_check, with_own, with_placed, with_checks, with_arcs}
use Rattle.timing_arcs.specs.GroupTexts.{made_under, inputs_under, with_all_made, with_text_noted, with_text, checks_full}
use Rattle.timing_arcs.specs.GroupTexts.{arcs_full, is_full}

neither : (a b : Bool) → not (a || b) ≡ true → (a ≡ false) × (b ≡ false)
neither true b h = absurd cc
neither false true h = absurd cc
neither false false h = (refl, refl)

pushed_full : {A : Type 0} (room : ℕ) (xs : List A) (x : A) → nat_lt (length xs) room ≡ false → pushed room xs x ≡ xs
pushed_full room xs x h = ap (λ b. if b then xs ++ x ∷ [] else xs) h

unless : (b : Bool) (found other : Found) → other ≡ found → (if b then found else other) ≡ found
unless true found other e = refl
unless false found other e = e

check_full : (at : ℕ) (found : Found) (k : Check) → checks_full found ≡ true → with_check at found k ≡ found
check_full at found k h =
    let room : ℕ = found.room.checks in
    let none = neither (nat_lt (length found.checks) room) (nat_lt (length found.check_at) room) h in
    unless (k.limit == 0) found (record found { checks = pushed room found.checks k; check_at = pushed room found.check_at at })
    (λ i. record found {
      checks = pushed_full room found.checks k none.0 i;
      check_at =
          pushed_full room found.check_at at none.1 i;
    })

checks_same : (at : ℕ) (found : Found) (ks : List Check) → checks_full found ≡ true → with_checks at found ks ≡ found
checks_same at found [] h = refl
checks_same at found (k ∷ ks) h = ap (λ (found : Found). with_checks at found ks) (check_full at found k h)
    ∙ checks_same at found ks h

no_arcs : (arcs : List Arc) → (length arcs == 0) ≡ true → arcs ≡ []
no_arcs [] h = refl
no_arcs (arc ∷ arcs) h = let e : suc (length arcs) ≡ 0 = eqb-true (suc (length arcs)) 0 h in absurd (omega arith)

own_full : (at : ℕ) (found : Found) (arc : Arc) → nat_lt (length found.arcs) found.room.arcs ≡ false
    → nat_lt (length found.arc_at) found.room.arcs ≡ false → with_own at found arc ≡ found
own_full at found arc h k = rw (h, k) refl

placed_none : (at : ℕ) (found : Found) (arc : Arc) (arcs : List Arc) → arcs ≡ [] → found.arcs ≡ arcs →
    (if list_any (same_path arc) arcs then record found { arcs = map (joined_with arc) arcs }
    else with_own at (record found { arcs = map (joined_with arc) arcs }) arc) ≡ with_own at found arc
placed_none at found arc [] none e = ap (λ (xs : List Arc). with_own at (record found { arcs = xs }) arc) (sym e)
placed_none at found arc (x ∷ xs) none e = absurd cc

arc_full : (at : ℕ) (found : Found) (arc : Arc) → arcs_full found ≡ true → with_placed at found arc ≡ found
arc_full at found arc h =
    let parts = and_parts (length found.arcs == 0)
    (not (nat_lt (length found.arcs) found.room.arcs || nat_lt (length found.arc_at) found.room.arcs)) h in
    let none = neither (nat_lt (length found.arcs) found.room.arcs) (nat_lt (length found.arc_at) found.room.arcs) parts.1 in
    placed_none at found arc found.arcs (no_arcs found.arcs parts.0) refl ∙ own_full at found arc none.0 none.1

arcs_same : (at : ℕ) (found : Found) (arcs : List Arc) → arcs_full found ≡ true → with_arcs at found arcs ≡ found
arcs_same at found [] h = refl
arcs_same at found (arc ∷ arcs) h = ap (λ (found : Found). with_arcs at found arcs) (arc_full at found arc h)
    ∙ arcs_same at found arcs h

made_same :
    (at : ℕ) (found : Found) (t : TimingType) (pin related rise fall : ℕ) (condition : Option Node) → is_full found t ≡ true
    → with_arcs at (with_checks at found (checks_with t pin related rise fall condition))
    (arcs_with t pin related rise fall condition) ≡ found
made_same at found Delay pin related rise fall condition h =
    arcs_same at found (arcs_with Delay pin related rise fall condition) h
made_same at found (Setup edge) pin related rise fall condition h =
    checks_same at found (checks_with (Setup edge) pin related rise fall condition) h
made_same at found (Hold edge) pin related rise fall condition h =
    checks_same at found (checks_with (Hold edge) pin related rise fall condition) h
made_same at found (Recovery edge) pin related rise fall condition h =
    checks_same at found (checks_with (Recovery edge) pin related rise fall condition) h
made_same at found (Removal edge) pin related rise fall condition h =
    checks_same at found (checks_with (Removal edge) pin related rise fall condition) h
made_same at found Width pin related rise fall condition h =
    checks_same at found (checks_with Width pin related rise fall condition) h
made_same at found Period pin related rise fall condition h =
    checks_same at found (checks_with Period pin related rise fall condition) h
made_same at found Other pin related rise fall condition h = refl

full_same : (subject : Subject) (text : GroupText) (found : Found) (inputs : List ℕ) → is_full found text.timing_type ≡ true
    → with_all_made subject text found inputs ≡ found
full_same subject text found [] h = refl
full_same subject text found (related ∷ inputs) h =
    ap (λ (found : Found). with_all_made subject text found inputs)
    (made_same text.at found text.timing_type subject.place related text.rise text.fall (tree_of text.when.condition) h)
    ∙ full_same subject text found inputs h

chosen : (b : Bool) (x y : Found) → x ≡ y → x ≡ (if b then y else x)
chosen true x y e = e
chosen false x y e = refl

-- so what is noted in a group is all that it gives
pub full_text : (subject : Subject) (text : GroupText) (found noted : Found) → noted ≡ with_text_noted subject found text
    → is_full noted text.timing_type ≡ true → noted ≡ with_text subject found text
full_text subject text found noted e h =
    let before : Found = with_text_noted subject found text in
    let full : is_full before text.timing_type ≡ true = ap (λ (f : Found). is_full f text.timing_type) (sym e) ∙ h in
    e
    ∙ chosen (made_under subject text) before (with_all_made subject text before (inputs_under subject text))
    (sym (full_same subject text before (inputs_under subject text) full))
