-- The names of a text by their first appearances.
use Rattle.std.proofs.Common.{◌≡◌, ℕ, Bool, true, false, cond, not, ◌&&◌, ◌||◌, List, [], ◌∷◌, ◌++◌, map, filter, bytes_eq}
use Rattle.std.proofs.Common.{Option, None, Some, is_none, if◌then◌else◌, refl, sym, ap, subst, ◌∙◌, append_assoc, ◌+◌, ◌<◌}
use Rattle.std.proofs.Common.{length, drop, slice_index_or, add-one, drop-cons, Contains, ◌↔◌, inl, inr}
use Rattle.std.specs.List.{list_any, AllByRecursion, IsDistinct}
use Rattle.std.proofs.lemmas.List.Folds.{list_any-append}
use Rattle.std.proofs.lemmas.Slice.Eq.{bytes_eq-Decides}
use Rattle.std.proofs.lemmas.Bool.{not-true, or_right as either}
use Rattle.bool_functions.specs.declared.tokens.Span.{Span}
use Rattle.bool_functions.specs.NameList.{number_of, Adds, AreDistinct}
use Rattle.bool_functions.specs.Token.{is_name, bytes_at, words_of, words, spans}
use Rattle.bool_functions.specs.FunctionText.{first_appearances, first_unknown, unknown_in, free_names}
use Rattle.bool_functions.proofs.Elements.{contains_here, contains_later, contains_cases, contains_none}
use Rattle.bool_functions.proofs.NameLists.{position-none, position-some}

-- the names that are not in a list
abbrev pub fresh : List (List ℕ) → List (List ℕ) → List (List ℕ)
fresh names ws = filter (λ w. is_none (number_of names w)) ws

-- the names other than one
abbrev without : List ℕ → List (List ℕ) → List (List ℕ)
without w ws = filter (λ v. not (bytes_eq v w)) ws

keeps : {X : Type 0} (p : X → Bool) (x : X) (xs : List X) → p x ≡ true → filter p (x ∷ xs) ≡ x ∷ filter p xs
keeps p x xs e = ap (λ b. cond b (x ∷ filter p xs) (filter p xs)) e

drops : {X : Type 0} (p : X → Bool) (x : X) (xs : List X) → p x ≡ false → filter p (x ∷ xs) ≡ filter p xs
drops p x xs e = ap (λ b. cond b (x ∷ filter p xs) (filter p xs)) e

none_of : (o : Option ℕ) → (o ≡ None → ⊥) → is_none o ≡ false
none_of None h = absurd (h refl)
none_of (Some i) h = refl

absent_by : (names : List (List ℕ)) (w : List ℕ) (b : Bool) → list_any (bytes_eq w) names ≡ b
    → is_none (number_of names w) ≡ not b
absent_by names w true e = none_of (number_of names w) (position-some (bytes_eq w) names e)
absent_by names w false e = ap is_none (position-none (bytes_eq w) names e)

-- a name is absent where no name of the list is equal to it
absent : (names : List (List ℕ)) (w : List ℕ) → is_none (number_of names w) ≡ not (list_any (bytes_eq w) names)
absent names w = absent_by names w (list_any (bytes_eq w) names) refl

fresh_nothing : (ws : List (List ℕ)) → fresh [] ws ≡ ws
fresh_nothing [] = refl
fresh_nothing (w ∷ ws) = ap (λ vs. w ∷ vs) (fresh_nothing ws)

module _ (names : List (List ℕ)) (w : List ℕ) where
  absent_push : (x : List ℕ) (a b : Bool) → list_any (bytes_eq x) names ≡ a → bytes_eq x w ≡ b
      → is_none (number_of (names ++ w ∷ []) x) ≡ not (a || (b || false))
  absent_push x a b e f =
      absent (names ++ w ∷ []) x ∙ ap not (list_any-append (bytes_eq x) names (w ∷ []) ∙ ap (λ c. c || (bytes_eq x w || false)) e
      ∙ ap (λ c. a || (c || false)) f)

  push_at : (x : List ℕ) (xs : List (List ℕ)) (a b : Bool) → list_any (bytes_eq x) names ≡ a → bytes_eq x w ≡ b
      → fresh (names ++ w ∷ []) xs ≡ fresh names (without w xs)
      → fresh (names ++ w ∷ []) (x ∷ xs) ≡ fresh names (without w (x ∷ xs))
  push_at x xs true true e f h =
      drops _ x xs (absent_push x true true e f) ∙ h ∙ ap (fresh names) (sym (drops (λ v. not (bytes_eq v w)) x xs (ap not f)))
  push_at x xs false true e f h =
      drops _ x xs (absent_push x false true e f) ∙ h ∙ ap (fresh names) (sym (drops (λ v. not (bytes_eq v w)) x xs (ap not f)))
  push_at x xs true false e f h =
      drops _ x xs (absent_push x true false e f) ∙ h ∙ sym (drops _ x (without w xs) (absent_by names x true e))
      ∙ ap (fresh names) (sym (keeps (λ v. not (bytes_eq v w)) x xs (ap not f)))
  push_at x xs false false e f h =
      keeps _ x xs (absent_push x false false e f) ∙ ap (λ ys. x ∷ ys) h
      ∙ sym (keeps _ x (without w xs) (absent_by names x false e))
      ∙ ap (fresh names) (sym (keeps (λ v. not (bytes_eq v w)) x xs (ap not f)))

  fresh-push : (xs : List (List ℕ)) → fresh (names ++ w ∷ []) xs ≡ fresh names (without w xs)
  fresh-push [] = refl
  fresh-push (x ∷ xs) = push_at x xs (list_any (bytes_eq x) names) (bytes_eq x w) refl refl (fresh-push xs)

  there_at : (x : List ℕ) (xs : List (List ℕ)) (a b : Bool) → list_any (bytes_eq x) names ≡ a → bytes_eq x w ≡ b
      → list_any (bytes_eq w) names ≡ true
      → fresh names (without w xs) ≡ fresh names xs → fresh names (without w (x ∷ xs)) ≡ fresh names (x ∷ xs)
  there_at x xs a true e f known h =
      let same : x ≡ w = (bytes_eq-Decides x w).0 f in
      let found : list_any (bytes_eq x) names ≡ true = ap (λ v. list_any (bytes_eq v) names) same ∙ known in
      ap (fresh names) (drops (λ v. not (bytes_eq v w)) x xs (ap not f)) ∙ h ∙ sym (drops _ x xs (absent_by names x true found))
  there_at x xs true false e f known h =
      ap (fresh names) (keeps (λ v. not (bytes_eq v w)) x xs (ap not f)) ∙ drops _ x (without w xs) (absent_by names x true e) ∙ h
      ∙ sym (drops _ x xs (absent_by names x true e))
  there_at x xs false false e f known h =
      ap (fresh names) (keeps (λ v. not (bytes_eq v w)) x xs (ap not f)) ∙ keeps _ x (without w xs) (absent_by names x false e)
      ∙ ap (λ ys. x ∷ ys) h ∙ sym (keeps _ x xs (absent_by names x false e))

  fresh-there : (xs : List (List ℕ)) → list_any (bytes_eq w) names ≡ true → fresh names (without w xs) ≡ fresh names xs
  fresh-there [] known = refl
  fresh-there (x ∷ xs) known = there_at x xs (list_any (bytes_eq x) names) (bytes_eq x w) refl refl known (fresh-there xs known)

found_by : (names : List (List ℕ)) (w : List ℕ) (b : Bool) → list_any (bytes_eq w) names ≡ b → (number_of names w ≡ None → ⊥)
    → list_any (bytes_eq w) names ≡ true
found_by names w true e h = e
found_by names w false e h = absurd (h (position-none (bytes_eq w) names e))

-- adding the next name leaves what the names and the rest come to
pub adds_word : (old new : List (List ℕ)) (w : List ℕ) (ws : List (List ℕ)) (number : Option ℕ) → Adds old w number new
    → new ++ fresh new (first_appearances ws) ≡ old ++ fresh old (first_appearances (w ∷ ws))
adds_word old new w ws (Some i) (absent_now, _, is) =
    ap (λ l. l ++ fresh l (first_appearances ws)) is ∙ append_assoc old (w ∷ []) (fresh (old ++ w ∷ []) (first_appearances ws))
    ∙ ap (λ l. old ++ w ∷ l) (fresh-push old w (first_appearances ws))
    ∙ ap (λ l. old ++ l) (sym (keeps (λ v. is_none (number_of old v)) w (without w (first_appearances ws))
    (ap is_none absent_now)))
adds_word old new w ws None (there, is) =
    ap (λ l. l ++ fresh l (first_appearances ws)) is
    ∙ ap (λ l. old ++ l) (sym (fresh-there old w (first_appearances ws) (found_by old w (list_any (bytes_eq w) old) refl there))
    ∙ sym (drops (λ v. is_none (number_of old v)) w (without w (first_appearances ws)) (none_of (number_of old w) there)))

-- at the beginning nothing is in the list
pub begins_fresh : (names ws : List (List ℕ)) → names ≡ [] → names ++ fresh names ws ≡ ws
begins_fresh names ws e = ap (λ l. l ++ fresh l ws) e ∙ fresh_nothing ws

kept_at : (w v x : List ℕ) (xs : List (List ℕ)) (b c : Bool) → bytes_eq w x ≡ b → bytes_eq x v ≡ c → bytes_eq w v ≡ false
    → (list_any (bytes_eq w) xs ≡ true → list_any (bytes_eq w) (without v xs) ≡ true) → (b || list_any (bytes_eq w) xs) ≡ true
    → list_any (bytes_eq w) (without v (x ∷ xs)) ≡ true
kept_at w v x xs true true e f other h k = let same : w ≡ x = (bytes_eq-Decides w x).0 e
    in absurd (let g : bytes_eq w v ≡ true = ap (λ u. bytes_eq u v) same ∙ f in cc)
kept_at w v x xs true false e f other h k =
    ap (list_any (bytes_eq w)) (keeps (λ u. not (bytes_eq u v)) x xs (ap not f))
    ∙ ap (λ d. d || list_any (bytes_eq w) (without v xs)) e
kept_at w v x xs false true e f other h k = ap (list_any (bytes_eq w)) (drops (λ u. not (bytes_eq u v)) x xs (ap not f)) ∙ h k
kept_at w v x xs false false e f other h k =
    ap (list_any (bytes_eq w)) (keeps (λ u. not (bytes_eq u v)) x xs (ap not f))
    ∙ ap (λ d. d || list_any (bytes_eq w) (without v xs)) e ∙ h k

kept : (w v : List ℕ) (xs : List (List ℕ)) → bytes_eq w v ≡ false → list_any (bytes_eq w) xs ≡ true
    → list_any (bytes_eq w) (without v xs) ≡ true
kept w v [] other h = h
kept w v (x ∷ xs) other h = kept_at w v x xs (bytes_eq w x) (bytes_eq x v) refl refl other (kept w v xs other) h

appears_at : (w v : List ℕ) (ws : List (List ℕ)) (b : Bool) → bytes_eq w v ≡ b
    → (list_any (bytes_eq w) ws ≡ true → list_any (bytes_eq w) (first_appearances ws) ≡ true)
    → (b || list_any (bytes_eq w) ws) ≡ true → (b || list_any (bytes_eq w) (without v (first_appearances ws))) ≡ true
appears_at w v ws true e h k = refl
appears_at w v ws false e h k = kept w v (first_appearances ws) e (h k)

-- each name appears among the first appearances
appears : (w : List ℕ) (ws : List (List ℕ)) → list_any (bytes_eq w) ws ≡ true
    → list_any (bytes_eq w) (first_appearances ws) ≡ true
appears w [] h = h
appears w (v ∷ ws) h = appears_at w v ws (bytes_eq w v) refl (appears w ws) h

Known : List (List ℕ) → List (List ℕ) → Type 0
Known names ws = (w : List ℕ) → list_any (bytes_eq w) ws ≡ true → list_any (bytes_eq w) names ≡ true

known_at : (names : List (List ℕ)) (text : List ℕ) (t : Span) (ts : List Span) (b : Bool) → is_name (bytes_at text t) ≡ b
    → Known names (words_of text (t ∷ ts))
    → (Known names (words_of text ts) → first_unknown names text ts ≡ None) → first_unknown names text (t ∷ ts) ≡ None
unfolding Known
known_at names text t ts true e h k =
    let w = bytes_at text t in
    let all : words_of text (t ∷ ts) ≡ w ∷ words_of text ts = keeps is_name w (map (bytes_at text) ts) e in
    let itself : bytes_eq w w ≡ true = (bytes_eq-Decides w w).1 refl in
    let found : list_any (bytes_eq w) names ≡ true =
    h w (ap (list_any (bytes_eq w)) all ∙ ap (λ d. d || list_any (bytes_eq w) (words_of text ts)) itself) in
    ap (λ d. if d then Some t.start else first_unknown names text ts)
    (ap (λ d. d && is_none (number_of names w)) e ∙ absent_by names w true found)
    ∙ k (λ v in_rest. h v (ap (list_any (bytes_eq v)) all ∙ either (bytes_eq v w) _ in_rest))
known_at names text t ts false e h k =
    ap (λ d. if d then Some t.start else first_unknown names text ts)
    (ap (λ d. d && is_none (number_of names (bytes_at text t))) e)
    ∙ k (λ v in_rest. h v (ap (list_any (bytes_eq v)) (drops is_name (bytes_at text t) (map (bytes_at text) ts) e) ∙ in_rest))

all_known : (names : List (List ℕ)) (text : List ℕ) (ts : List Span) → Known names (words_of text ts)
    → first_unknown names text ts ≡ None
all_known names text [] h = refl
all_known names text (t ∷ ts) h = known_at names text t ts (is_name (bytes_at text t)) refl h (all_known names text ts)

-- over a text's own names none is unknown
pub own_names_known : (text : List ℕ) → unknown_in (free_names text) text ≡ None
unfolding Known
own_names_known text = all_known (free_names text) text (spans text) (λ w h. appears w (words text) h)

first_of_drop : (tokens : List Span) (i : ℕ) (d : Span) → i < length tokens
    → drop i tokens ≡ slice_index_or tokens i d ∷ drop (i + 1) tokens
first_of_drop tokens i d lt = rw (add-one, drop-cons tokens i d)

-- a token further, where what it adds is known for all tokens after it
pub moved_names : (text : List ℕ) (tokens : List Span) (i : ℕ) (d : Span) (old new all : List (List ℕ)) → i < length tokens
    → old ++ fresh old (first_appearances (words_of text (drop i tokens))) ≡ all
    → ((ts : List Span) → new ++ fresh new (first_appearances (words_of text ts)) ≡ old
    ++ fresh old (first_appearances (words_of text (slice_index_or tokens i d ∷ ts))))
    → new ++ fresh new (first_appearances (words_of text (drop (i + 1) tokens))) ≡ all
moved_names text tokens i d old new all lt inv step =
    step (drop (i + 1) tokens) ∙ ap (λ ts. old ++ fresh old (first_appearances (words_of text ts)))
    (sym (first_of_drop tokens i d lt)) ∙ inv

-- what one token adds
pub by_name : (text : List ℕ) (t : Span) (old new : List (List ℕ)) (number : Option ℕ) → is_name (bytes_at text t) ≡ true
    → Adds old (bytes_at text t) number new
    → (ts : List Span) → new ++ fresh new (first_appearances (words_of text ts)) ≡ old
    ++ fresh old (first_appearances (words_of text (t ∷ ts)))
by_name text t old new number e adds ts =
    adds_word old new (bytes_at text t) (words_of text ts) number adds
    ∙ ap (λ ws. old ++ fresh old (first_appearances ws)) (sym (keeps is_name (bytes_at text t) (map (bytes_at text) ts) e))

pub by_other : (text : List ℕ) (t : Span) (old new : List (List ℕ)) → is_name (bytes_at text t) ≡ false → new ≡ old
    → (ts : List Span) → new ++ fresh new (first_appearances (words_of text ts)) ≡ old
    ++ fresh old (first_appearances (words_of text (t ∷ ts)))
by_other text t old new e same ts =
    ap (λ l. l ++ fresh l (first_appearances (words_of text ts))) same
    ∙ ap (λ ws. old ++ fresh old (first_appearances ws)) (sym (drops is_name (bytes_at text t) (map (bytes_at text) ts) e))

-- a name of a list, and the test that finds it
found_at : (w x : List ℕ) (ws : List (List ℕ)) (b : Bool) → bytes_eq w x ≡ b → (list_any (bytes_eq w) ws ≡ true → Contains ws w)
    → (b || list_any (bytes_eq w) ws) ≡ true → Contains (x ∷ ws) w
found_at w x ws true e k h = subst (λ v. Contains (x ∷ ws) v) (sym ((bytes_eq-Decides w x).0 e)) (contains_here x ws)
found_at w x ws false e k h = contains_later x ws w (k h)

contains_found : (w : List ℕ) (ws : List (List ℕ)) → list_any (bytes_eq w) ws ≡ true → Contains ws w
contains_found w [] h = absurd cc
contains_found w (x ∷ ws) h = found_at w x ws (bytes_eq w x) refl (contains_found w ws) h

found_contained : (w : List ℕ) (ws : List (List ℕ)) → Contains ws w → list_any (bytes_eq w) ws ≡ true
found_contained w [] h = absurd (contains_none w h)
found_contained w (x ∷ ws) h =
    elim (contains_cases x ws w h) [
      | inl same ↦ ap (λ b. b || list_any (bytes_eq w) ws) ((bytes_eq-Decides w x).1 (sym same))
      | inr later ↦ either (bytes_eq w x) (list_any (bytes_eq w) ws) (found_contained w ws later)
    ]

whole_at : (w v x : List ℕ) (xs : List (List ℕ)) (b c : Bool) → bytes_eq w x ≡ b → not (bytes_eq x v) ≡ c
    → (list_any (bytes_eq w) (without v xs) ≡ true → list_any (bytes_eq w) xs ≡ true)
    → list_any (bytes_eq w) (without v (x ∷ xs)) ≡ true → (b || list_any (bytes_eq w) xs) ≡ true
whole_at w v x xs true c e f k h = refl
whole_at w v x xs false true e f k h =
    k (ap (λ d. d || list_any (bytes_eq w) (without v xs)) (sym e)
    ∙ sym (ap (list_any (bytes_eq w)) (keeps (λ u. not (bytes_eq u v)) x xs f)) ∙ h)
whole_at w v x xs false false e f k h = k (sym (ap (list_any (bytes_eq w)) (drops (λ u. not (bytes_eq u v)) x xs f)) ∙ h)

in_whole : (w v : List ℕ) (xs : List (List ℕ)) → list_any (bytes_eq w) (without v xs) ≡ true → list_any (bytes_eq w) xs ≡ true
in_whole w v [] h = h
in_whole w v (x ∷ xs) h = whole_at w v x xs (bytes_eq w x) (not (bytes_eq x v)) refl refl (in_whole w v xs) h

appeared_at : (w v : List ℕ) (ws : List (List ℕ)) (b : Bool)
    → (list_any (bytes_eq w) (first_appearances ws) ≡ true → list_any (bytes_eq w) ws ≡ true)
    → (b || list_any (bytes_eq w) (without v (first_appearances ws))) ≡ true → (b || list_any (bytes_eq w) ws) ≡ true
appeared_at w v ws true k h = refl
appeared_at w v ws false k h = k (in_whole w v (first_appearances ws) h)

appeared : (w : List ℕ) (ws : List (List ℕ)) → list_any (bytes_eq w) (first_appearances ws) ≡ true
    → list_any (bytes_eq w) ws ≡ true
appeared w [] h = h
appeared w (v ∷ ws) h = appeared_at w v ws (bytes_eq w v) (appeared w ws) h

-- the first appearances are those of the names, and of no others
pub same_names : (ws : List (List ℕ)) (w : List ℕ) → Contains (first_appearances ws) w ↔ Contains ws w
same_names ws w = (
  λ h. contains_found w ws (appeared w ws (found_contained w (first_appearances ws) h)),
  λ h. contains_found w
      (first_appearances ws) (appears w ws (found_contained w ws h)),
)

other_way : (w x : List ℕ) (b : Bool) → bytes_eq w x ≡ b → bytes_eq x w ≡ false → bytes_eq w x ≡ false
other_way w x true e f = absurd (let g : bytes_eq x w ≡ true = (bytes_eq-Decides x w).1 (sym ((bytes_eq-Decides w x).0 e)) in cc)
other_way w x false e f = e

module _ (P : List ℕ → Type 0) where
  all_kept_at : (q : List ℕ → Bool) (x : List ℕ) (xs : List (List ℕ)) (b : Bool) → q x ≡ b → (b ≡ true → P x)
      → AllByRecursion P (filter q xs) → AllByRecursion P (filter q (x ∷ xs))
  all_kept_at q x xs true e p h = subst (AllByRecursion P) (sym (keeps q x xs e)) (p refl, h)
  all_kept_at q x xs false e p h = subst (AllByRecursion P) (sym (drops q x xs e)) h

  all_kept : (q : List ℕ → Bool) (xs : List (List ℕ)) → AllByRecursion P xs → AllByRecursion P (filter q xs)
  all_kept q [] h = h
  all_kept q (x ∷ xs) h = all_kept_at q x xs (q x) refl (λ _. h.0) (all_kept q xs h.1)

others_differ : (w : List ℕ) (xs : List (List ℕ)) → AllByRecursion (λ y. bytes_eq w y ≡ false) (without w xs)
others_differ w [] = tt
others_differ w (x ∷ xs) =
    all_kept_at (λ y. bytes_eq w y ≡ false) (λ v. not (bytes_eq v w)) x xs (not (bytes_eq x w)) refl
    (λ e. other_way w x (bytes_eq w x) refl (not-true (bytes_eq x w) e)) (others_differ w xs)

distinct_at : (q : List ℕ → Bool) (x : List ℕ) (xs : List (List ℕ)) (b : Bool) → q x ≡ b
    → AllByRecursion (λ y. bytes_eq x y ≡ false) xs → IsDistinct bytes_eq (filter q xs)
    → IsDistinct bytes_eq (filter q (x ∷ xs))
unfolding IsDistinct
distinct_at q x xs true e all h =
    subst (IsDistinct bytes_eq) (sym (keeps q x xs e)) (all_kept (λ y. bytes_eq x y ≡ false) q xs all, h)
distinct_at q x xs false e all h = subst (IsDistinct bytes_eq) (sym (drops q x xs e)) h

distinct_kept : (q : List ℕ → Bool) (xs : List (List ℕ)) → IsDistinct bytes_eq xs → IsDistinct bytes_eq (filter q xs)
unfolding IsDistinct
distinct_kept q [] h = h
distinct_kept q (x ∷ xs) h = distinct_at q x xs (q x) refl h.0 (distinct_kept q xs h.1)

-- and each is there once
pub distinct_appearances : (ws : List (List ℕ)) → AreDistinct (first_appearances ws)
unfolding IsDistinct
distinct_appearances [] = tt
distinct_appearances (w ∷ ws) = (
  others_differ w (first_appearances ws),
  distinct_kept (λ v. not (bytes_eq v w))
      (first_appearances ws) (distinct_appearances ws),
)
