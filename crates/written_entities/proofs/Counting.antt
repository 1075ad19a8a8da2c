-- Numbered items: their tokens, and their reading one behind the other.
use Rattle.std.proofs.Common.{◌≡◌, ℕ, ◌+◌, ◌<◌, ◌≤◌, Bool, false, nat_eq, List, [], ◌∷◌, ◌++◌, length, Option, refl, sym, ap, ◌∙◌}
use Rattle.std.proofs.Common.{arith, subst, append_assoc}
use Rattle.std.proofs.lemmas.List.{append-nil}
use Rattle.std.proofs.lemmas.Bool.Decides.{nat_tests}
use Rattle.grammar_rules.specs.Rule.{Verdict}
use Rattle.grammar_rules.specs.Rule as r
use Rattle.grammar_reader.specs.declared.refusal.Refusal.{Refusal}
use Rattle.grammar_reader.specs.Words.{Grammar}
use Rattle.vhdl_writer.specs.Joined.{numbered_texts, apart_text}
use Rattle.grammar_reader.proofs.Fronts.{Front, Anything}
use Rattle.grammar_reader.proofs.Derivations.{Reads}
use Rattle.grammar_reader.proofs.ItemPlaces.{one_longer}
use Rattle.grammar_reader.proofs.Spelling.{joins, behind, nothing}
use Rattle.written_entities.proofs.Spelling.{Spells}

-- the tokens of items that are numbered from this number on
abbrev pub counted : {A : Type 0} → (ℕ → A → Front) → ℕ → List A → Front
counted f n [] s = s
counted f n (x ∷ xs) s = f n x (counted f (n + 1) xs s)

pub begins_at : {A : Type 0} (P : List ℕ → Type 0) (text : ℕ → A → List ℕ) (least : ℕ)
    → ((n : ℕ) (x : A) (r : List ℕ) → least < n → P r → P (text n x ++ r)) → (n : ℕ) (xs : List A) (r : List ℕ)
    → least < n → P r → P (numbered_texts text n xs ++ r)
begins_at P text least h n [] r l p = p
begins_at P text least h n (x ∷ xs) r l p =
    subst P (sym (append_assoc (text n x) (numbered_texts text (n + 1) xs) r))
    (h n x (numbered_texts text (n + 1) xs ++ r) l (begins_at P text least h (n + 1) xs r (omega (arith, l)) p))

-- Items that are spelled, each by its number, which is one more than there are items before it.
pub counted_spelled : {A : Type 0} {P : List ℕ → Type 0} {t : Bool} (text : ℕ → A → List ℕ) (f : ℕ → A
    → Front) (least : ℕ) (done todo : List A) → least ≤ length done
    → ((before : List A) (x : A) (after : List A) → before ++ x ∷ after ≡ done ++ todo → least ≤ length before
    → Spells P t (text (length before + 1) x) (f (length before + 1) x) t)
    → ((n : ℕ) (x : A) (r : List ℕ) → least < n → P r → P (text n x ++ r))
    → Spells P t (numbered_texts text (length done + 1) todo) (counted f (length done + 1) todo) t
counted_spelled text f least done [] l h k = nothing
counted_spelled {A = A} {P = P} {t = t} text f least done (x ∷ todo) l h k =
    let same : (done ++ x ∷ []) ++ todo ≡ done ++ x ∷ todo = append_assoc done (x ∷ []) todo in
    let more : least ≤ length (done ++ x ∷ []) = omega (arith, l, one_longer done x) in
    let rest : Spells P t (numbered_texts text (length done + 1 + 1) todo) (counted f (length done + 1 + 1) todo) t =
    subst (λ (n : ℕ). Spells P t (numbered_texts text (n + 1) todo) (counted f (n + 1) todo) t) (sym (one_longer done x))
    (counted_spelled text f least (done ++ x ∷ []) todo more (λ before y after e m. h before y after (e ∙ same) m) k) in
    joins (h done x todo refl l) (λ r p. begins_at P text least k (length done + 1 + 1) todo r (omega (arith, l)) p) rest

-- the same, where anything may follow each
pub counted_anywhere : {A : Type 0} {t : Bool} (text : ℕ → A → List ℕ) (f : ℕ → A → Front) (all : List A)
    → ((before : List A) (x : A) (after : List A) → before ++ x ∷ after ≡ all
    → Spells Anything t (text (length before + 1) x) (f (length before + 1) x) t)
    → Spells Anything t (numbered_texts text 1 all) (counted f 1 all) t
counted_anywhere text f all h = counted_spelled text f 0 [] all (omega arith) (λ before x after e m. h before x after e)
    (λ n x r l p. tt)

-- the tokens of items of which all but the first have a separator before them
abbrev pub apart_front : {A : Type 0} → Front → (ℕ → A → Front) → List A → Front
apart_front sep f [] s = s
apart_front sep f (x ∷ xs) s = f 1 x (counted (λ n y q. sep (f n y q)) 2 xs s)

later : (n : ℕ) → 1 < n → nat_eq n 1 ≡ false
later n h = grind (arith, nat_tests)

apart_is : (separator : List ℕ) (n : ℕ) → 1 < n → apart_text separator n ≡ separator
apart_is separator n h = rw (later n h) refl

-- items of which all but the first stand behind a separator
pub apart_spelled : {A : Type 0} {P : List ℕ → Type 0} {u : Bool} (separator : List ℕ) (sep : Front) (text : ℕ → A
    → List ℕ) (item : ℕ → A → List ℕ) (f : ℕ → A → Front)
    → ((n : ℕ) (x : A) → text n x ≡ apart_text separator n ++ item n x) → Spells Anything u separator sep false
    → ((r : List ℕ) → P (separator ++ r)) → (first : A) (others : List A)
    → ((before : List A) (x : A) (after : List A) → before ++ x ∷ after ≡ first ∷ others
    → Spells P false (item (length before + 1) x) (f (length before + 1) x) u)
    → Spells P false (numbered_texts text 1 (first ∷ others)) (apart_front sep f (first ∷ others)) u
apart_spelled {A = A} {P = P} {u = u} separator sep text item f e h k first others i =
    let parts : (n : ℕ) (x : A) → 1 < n
    → text n x ≡ separator ++ item n x = (λ n x l. e n x ∙ ap (λ (w : List ℕ). w ++ item n x) (apart_is separator n l)) in
    let step : (before : List A) (x : A) (after : List A) → before ++ x ∷ after ≡ (first ∷ []) ++ others → 1 ≤ length before
    → Spells P u (text (length before + 1) x) (λ q. sep (f (length before + 1) x q)) u =
    (λ before x after same l.
    subst (λ (w : List ℕ). Spells P u w (λ q. sep (f (length before + 1) x q)) u)
    (sym (parts (length before + 1) x (omega (arith, l)))) (behind h (i before x after same))) in
    let start : (n : ℕ) (x : A) (r : List ℕ) → 1 < n → P r → P (text n x ++ r) =
    (λ n x r l p. subst (λ (w : List ℕ). P (w ++ r)) (sym (parts n x l))
    (subst P (sym (append_assoc separator (item n x) r)) (k (item n x ++ r)))) in
    let rest : Spells P u (numbered_texts text 2 others) (counted (λ n y q. sep (f n y q)) 2 others) u =
    counted_spelled text (λ n y q. sep (f n y q)) 1 (first ∷ []) others (omega arith) step start in
    rw (e 1 first) (joins (i [] first others refl) (λ r p. begins_at P text 1 start 2 others r (omega arith) p) rest)

-- Items that are read in turns of a repeated part, from the state of the items before each to that with it. What follows is read
-- from the state of all.
pub over : {X A S : Type 0} {f : S → List ℕ → Option (Verdict A Refusal)} {g : S → A → Grammar S} {v : S} {left : List (List ℕ)}
    (state : List X → S) (tokens : ℕ → X → Front) (done todo : List X)
    → ((before : List X) (x : X) (after : List X) (q : List (List ℕ)) → before ++ x ∷ after ≡ done ++ todo
    → Reads (r.Many f g (state (before ++ x ∷ []))) q v left
    → Reads (r.Many f g (state before)) (tokens (length before + 1) x q) v left)
    → (s : List (List ℕ)) → Reads (r.Many f g (state (done ++ todo))) s v left
    → Reads (r.Many f g (state done)) (counted tokens (length done + 1) todo s) v left
over {f = f} {g = g} {v = v} {left = left} state tokens done [] step s last =
    subst (λ (d : List _). Reads (r.Many f g (state d)) s v left) (append-nil done) last
over {f = f} {g = g} {v = v} {left = left} state tokens done (x ∷ todo) step s last =
    let same : (done ++ x ∷ []) ++ todo ≡ done ++ x ∷ todo = append_assoc done (x ∷ []) todo in
    let rest : Reads (r.Many f g (state (done ++ x ∷ []))) (counted tokens (length (done ++ x ∷ []) + 1) todo s) v left =
    over state tokens (done ++ x ∷ []) todo (λ before y after q e. step before y after q (e ∙ same)) s
    (subst (λ (d : List _). Reads (r.Many f g (state d)) s v left) (sym same) last) in
    step done x todo (counted tokens (length done + 1 + 1) todo s) refl
    (subst (λ (n : ℕ). Reads (r.Many f g (state (done ++ x ∷ []))) (counted tokens (n + 1) todo s) v left)
    (sym (one_longer done x)) rest)
