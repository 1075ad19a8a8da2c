-- One call of a cursor, step after step.
use Rattle.std.proofs.Common.{◌≡◌, ℕ, true, List, [], ◌∷◌, ◌++◌, Some, Result, refl, sym, ap, subst, ◌∙◌}
use Rattle.std.specs.Option.{option_to_list}
use Rattle.std.proofs.lemmas.List.{append_assoc, append-nil}
use Rattle.text_io.specs.declared.stop.Stop.{Stop}
use Rattle.text_io.specs.Desk.{DeskState}
use Rattle.cell_cursor.specs.declared.cursor.Answer.{Answer}
use Rattle.cell_cursor.specs.declared.cursor.Answer.TheVariants as answer
use Rattle.cell_cursor.specs.declared.cursor.CellCursor.{CellCursor}
use Rattle.cell_cursor.specs.declared.item.LibraryItem.{LibraryItem}
use Rattle.cell_cursor.specs.Given.{HasGiven}
use Rattle.cell_cursor.specs.declared.item.Next.{Next}
use Rattle.cell_cursor.specs.Stands.{answered, given_by, is_going, is_ended, Stands, Moves}
use Rattle.cell_cursor.proofs.TakingLemmas.{takes_none, takes_more}
use Rattle.cell_cursor.proofs.StandsLemmas.{stands_same, stands_popped}
use Rattle.cell_cursor.proofs.AdvanceLemmas.{going_on}

pub moves_nothing : (o : CellCursor) (s : DeskState) → Moves o o s s []
moves_nothing o s = record {
  taken = [];
  takes = takes_none s;
  limit = refl;
  stands = λ bytes items st. subst (λ (b : List ℕ). Stands o b (items ++ [])) (sym (append-nil bytes))
      (subst (λ (l : List LibraryItem). Stands o bytes l) (sym (append-nil items)) st);
  given_before = λ bytes items st. subst (λ (b : List ℕ). HasGiven b items) (sym (append-nil bytes)) st.given;
  ended = going_on o.answer;
}

-- two moves, where the cursor keeps between them what it knows
pub moves_through : (o m m' n : CellCursor) (s t u : DeskState) (given : List LibraryItem) → m'.limit ≡ m.limit
    → m'.place ≡ m.place → m'.piece ≡ m.piece → m'.part ≡ m.part → m'.answer ≡ m.answer → m'.waiting.items ≡ m.waiting.items
    → is_going m'.answer ≡ true →
    Moves o m s t [] → Moves m' n t u given → Moves o n s u given
moves_through o m m' n s t u given a b c d e f going h i = record {
  taken = h.taken ++ i.taken;
  takes = takes_more s t u h.taken i.taken h.takes i.takes;
  limit = i.limit ∙ a ∙ h.limit;
  stands = λ bytes items st.
      (let there : Stands m (bytes ++ h.taken) items =
      subst (λ (l : List LibraryItem). Stands m (bytes ++ h.taken) l) (append-nil items) (h.stands bytes items st) in
      subst (λ (b : List ℕ). Stands n b (items ++ given)) (append_assoc bytes h.taken i.taken)
      (i.stands (bytes ++ h.taken) items (stands_same m m' (bytes ++ h.taken) items a b c d e f there)));
  given_before = λ bytes items st.
      (let there : Stands m (bytes ++ h.taken) items =
      subst (λ (l : List LibraryItem). Stands m (bytes ++ h.taken) l) (append-nil items) (h.stands bytes items st) in
      subst (λ (b : List ℕ). HasGiven b items) (append_assoc bytes h.taken i.taken)
      (i.given_before (bytes ++ h.taken) items (stands_same m m' (bytes ++ h.taken) items a b c d e f there)));
  ended = λ _ end. i.ended going end;
}

-- the answer of a settled cursor gives no item
given_answer : (a : Answer) → given_by (answered a) ≡ []
given_answer answer.Over = refl
given_answer answer.End = refl
given_answer (answer.Refused f) = refl
given_answer (answer.Fault f) = refl
given_answer (answer.Stopped stop) = refl

pub moves_answered : (o m n : CellCursor) (s t : DeskState) (a : Answer) (r : Result Next Stop) → r ≡ answered a
    → n.limit ≡ m.limit → n.place ≡ m.place → n.piece ≡ m.piece → n.part ≡ m.part → n.answer ≡ m.answer
    → n.waiting.items ≡ m.waiting.items →
    Moves o m s t [] → Moves o n s t (given_by r)
moves_answered o m n s t a r e b c d f g w h =
    subst (λ (l : List LibraryItem). Moves o n s t l) (sym (ap given_by e ∙ given_answer a)) (record {
      taken = h.taken;
      takes = h.takes;
      limit = b ∙ h.limit;
      stands = λ bytes items st. stands_same m n (bytes ++ h.taken) (items ++ []) b c d f g w (h.stands bytes items st);
      given_before = h.given_before;
      ended = λ first end. h.ended first (sym (ap is_ended g) ∙ end);
    })

pub moves_given : (o m n : CellCursor) (s t : DeskState) (x : LibraryItem)
    → m.waiting.items ≡ n.waiting.items ++ option_to_list (Some x) → n.limit ≡ m.limit → n.answer ≡ m.answer → n.place ≡ m.place
    → n.piece ≡ m.piece → n.part ≡ m.part →
    Moves o m s t [] → Moves o n s t (x ∷ [])
moves_given o m n s t x popped a b c d f h = record {
  taken = h.taken;
  takes = h.takes;
  limit = a ∙ h.limit;
  stands = λ bytes items st.
      stands_popped m n x popped a b c d f (bytes ++ h.taken) items
      (subst (λ (l : List LibraryItem). Stands m (bytes ++ h.taken) l) (append-nil items) (h.stands bytes items st));
  given_before = h.given_before;
  ended = λ first end. h.ended first (sym (ap is_ended b) ∙ end);
}
