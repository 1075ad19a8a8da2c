-- Texts of which the sections are known, and the tokens outside of them: put together from their pieces.
use Rattle.std.proofs.Common.{◌≡◌, ℕ, zero, suc, Bool, true, false, List, [], ◌∷◌, ◌++◌, map, length, replicate, refl, sym, ap}
use Rattle.std.proofs.Common.{◌∙◌, flat_map, append_assoc}
use Rattle.std.proofs.lemmas.List.{append-nil}
use Rattle.std.specs.List.{AllByRecursion}
use Rattle.lexer.specs.Tokens.{Lexis, scan_of}
use Rattle.lexer.specs.Separators as separators
use Rattle.driver_sections.specs.Marks.{Vocabulary, Marks}
use Rattle.driver_sections.specs.Sections.{section_length, begins_section, sections, blanked, text_of}
use Rattle.grammar_reader.proofs.Fronts.{Front, Anything, each}
use Rattle.grammar_reader.proofs.Passages.{Barred, Passes, at_end, separator}
use Rattle.grammar_reader.proofs.Spelling.{SpellsBy, all_found, barred_less, behind}
use Rattle.grammar_reader.proofs.Spelling as spelling
use Rattle.section_outlines.specs.Marked.{begins}
use Rattle.section_outlines.specs.Outline.{Outline, outline}
use Rattle.section_outlines.proofs.SectionsOutline.{outline_is}
use Rattle.section_outlines.proofs.Passing.{kept_whole, over_section}

-- no token is barred
abbrev pub none : Barred
none t x s = false

-- Before any bytes these tokens stand in a text outside its sections, which are these.
pub record Outlined (v : Vocabulary) (m : Marks) (t : Bool) (text : List ℕ) (f : Front) (found : List (List ℕ)) (u : Bool) :
    Type 0 where
  pub rest : List ℕ
  pub drawn : (r : List ℕ) → outline v m t 0 (text ++ r) ≡ (rest ++ (outline v m u 0 r).0, found ++ (outline v m u 0 r).1)
  pub spells : SpellsBy v.lexis none Anything t rest f u

-- a text in which no section begins
pub plain : {v : Vocabulary} {m : Marks} {t u : Bool} {text : List ℕ} {f : Front}
    → SpellsBy v.lexis (begins v m) Anything t text f u → Outlined v m t text f [] u
plain {v} {m} {text = text} h = record {
  rest = text;
  drawn = λ r. kept_whole v m (h.passes r tt);
  spells =
      barred_less (λ t x s e. refl) h;
}

-- What makes a text a section before other bytes: its first token has so many bytes and one more, and begins a section, which is
-- of its length.
pub record IsSection (v : Vocabulary) (m : Marks) (t : Bool) (b : ℕ) (w : List ℕ) (r : List ℕ) : Type 0 where
  pub less : ℕ
  pub alone : v.lexis.separator_length (b ∷ w ++ r) ≡ 0
  pub token : v.lexis.token_length t (b ∷ w ++ r) ≡ suc less
  pub begun : begins_section v m t 0 (b ∷ w ++ r) ≡ true
  pub size : section_length v m (b ∷ w ++ r) ≡ suc (length w)

-- spaces are passed over, where each is a separator
spaces_pass : (l : Lexis) → ((s : List ℕ) → l.separator_length (32 ∷ s) ≡ 1) → (t : Bool) (n : ℕ) (r : List ℕ)
    → Passes l none t (replicate n 32) r (λ s. s) t
spaces_pass l one t zero r = at_end
spaces_pass l one t (suc n) r = separator 32 [] (replicate n 32) refl (one (replicate n 32 ++ r)) (spaces_pass l one t n r)

-- a section
pub section : {v : Vocabulary} {m : Marks} {t : Bool} → ((s : List ℕ) → v.lexis.separator_length (32 ∷ s) ≡ 1)
    → (b : ℕ) (w : List ℕ) → ((r : List ℕ) → IsSection v m t b w r)
    → Outlined v m t (b ∷ w) (λ s. s) ((b ∷ w) ∷ []) t
section {v} {m} {t} one b w h = record {
  rest = replicate (suc (length w)) 32;
  drawn = λ r. over_section v m t b (h r).less w r (h r).alone (h r).token (h r).begun (h r).size;
  spells = record { passes = λ r p. spaces_pass v.lexis one t (suc (length w)) r };
}

-- a section where these bytes follow, in which none begins
pub section_before : {v : Vocabulary} {m : Marks} {t u : Bool} {c : List ℕ} {f : Front}
    → ((s : List ℕ) → v.lexis.separator_length (32 ∷ s) ≡ 1) → (b : ℕ) (w : List ℕ)
    → ((r : List ℕ) → IsSection v m t b w (c ++ r)) → Outlined v m t c f [] u → Outlined v m t ((b ∷ w) ++ c) f ((b ∷ w) ∷ []) u
section_before {v = v} {m = m} {t = t} {u = u} {c = c} one b w h k =
    let spaces : List ℕ = replicate (suc (length w)) 32 in
    record {
      rest = spaces ++ k.rest;
      drawn = λ r. ap (outline v m t 0) (append_assoc (b ∷ w) c r)
          ∙ over_section v m t b (h r).less w (c ++ r) (h r).alone (h r).token (h r).begun (h r).size
          ∙ ap (λ (o : Outline). (spaces ++ o.0, (b ∷ w) ∷ o.1)) (k.drawn r)
          ∙ ap (λ (s : List ℕ). (s, (b ∷ w) ∷ (outline v m u 0 r).1)) (sym (append_assoc spaces k.rest (outline v m u 0 r).0));
      spells = behind (record { passes = λ r p. spaces_pass v.lexis one t (suc (length w)) r }) k.spells;
    }

both : (a c : List ℕ) (xs ys : List (List ℕ)) (o : Outline)
    → ◌≡◌ {A = Outline} (a ++ (c ++ o.0), xs ++ (ys ++ o.1)) ((a ++ c) ++ o.0, (xs ++ ys) ++ o.1)
both a c xs ys o =
    ap (λ (s : List ℕ). (s, xs ++ (ys ++ o.1))) (sym (append_assoc a c o.0))
    ∙ ap (λ (found : List (List ℕ)). ((a ++ c) ++ o.0, found)) (sym (append_assoc xs ys o.1))

-- one text behind another
pub one_behind : {v : Vocabulary} {m : Marks} {t u w : Bool} {a c : List ℕ} {f g : Front} {xs ys : List (List ℕ)}
    → Outlined v m t a f xs u → Outlined v m u c g ys w
    → Outlined v m t (a ++ c) (λ s. f (g s)) (xs ++ ys) w
one_behind {v = v} {m = m} {t = t} {w = w} {a = a} {c = c} {xs = xs} {ys = ys} h k = record {
  rest = h.rest ++ k.rest;
  drawn = λ r. ap (outline v m t 0) (append_assoc a c r) ∙ h.drawn (c ++ r)
      ∙ ap (λ (o : Outline). (h.rest ++ o.0, xs ++ o.1)) (k.drawn r)
      ∙ both h.rest k.rest xs ys (outline v m w 0 r);
  spells = behind h.spells k.spells;
}

-- no text
pub nothing : {v : Vocabulary} {m : Marks} {t : Bool} → Outlined v m t [] (λ s. s) [] t
nothing = record { rest = []; drawn = λ r. refl; spells = spelling.nothing }

-- texts one behind the other
pub each_outlined : {v : Vocabulary} {m : Marks} {A : Type 0} {t : Bool} {text : A → List ℕ} {f : A → Front} {found : A
    → List (List ℕ)} (Q : A → Type 0)
    → ((x : A) → Q x → Outlined v m t (text x) (f x) (found x) t) → (xs : List A) → AllByRecursion Q xs
    → Outlined v m t (flat_map text xs) (each f xs) (flat_map found xs) t
each_outlined Q h [] all = nothing
each_outlined Q h (x ∷ xs) all = one_behind (h x all.0) (each_outlined Q h xs all.1)

-- What is known of a text by its sections: they are these texts, and the tokens around them are these, without a lexical fault.
pub record IsOutlined (v : Vocabulary) (m : Marks) (text : List ℕ) (tokens : List (List ℕ)) (found : List (List ℕ)) : Type 0 where
  pub texts : map (text_of text) (sections v m text) ≡ found
  pub tokens_around : separators.spelled (scan_of v.lexis (blanked text (sections v m text))) ≡ (tokens, false)

-- the sections of a text, and the tokens around them
pub outlined_is : {v : Vocabulary} {m : Marks} {u : Bool} {text : List ℕ} {f : Front} {found : List (List ℕ)}
    → Outlined v m false text f found u → IsOutlined v m text (f []) found
outlined_is {v} {m} {u} {text} {f} {found} h =
    let all : ◌≡◌ {A = Outline} (blanked text (sections v m text), map (text_of text) (sections v m text)) (h.rest, found) =
    outline_is v m text ∙ ap (outline v m false 0) (sym (append-nil text)) ∙ h.drawn []
    ∙ ap (λ (s : List ℕ). (s, found ++ [])) (append-nil h.rest) ∙ ap (λ (xs : List (List ℕ)). (h.rest, xs)) (append-nil found) in
    record {
      texts = ap (λ (o : Outline). o.1) all;
      tokens_around = ap (λ (o : Outline). separators.spelled (scan_of v.lexis o.0)) all ∙ all_found h.spells;
    }
