-- Reason by reason: where each but those that are told of timing is met alike, and a limit is passed at the same place, the
-- refusal of a trimmed cell and what is wrong in the timing of trimmed pins decide together.
use Rattle.std.proofs.Common.{◌≡◌, ℕ, ◌<◌, ap, ◌∙◌, arith, Option, Some, None}
use Rattle.cell_machine.specs.Delay.{lesser}
use Rattle.cell_reader.specs.declared.refusal.Reason.TheVariants as reason
use Rattle.cell_reader.specs.declared.refusal.Refusal.{Refusal}
use Rattle.cell_reader.specs.Refusals.{refused_or}
use Rattle.three_state_cells.specs.Refusals.{first_of_two}
use Rattle.three_state_cells.proofs.JoinedReasons.{IsAbove, above_or, joined, kept}
use Rattle.three_state_cells.proofs.Places.{by_kinds}

-- the reasons from texts on, where something is wrong in timing in these ways
abbrev pub later_by : Option ℕ → Option ℕ → Option ℕ → Option ℕ → Option ℕ → Option ℕ → ℕ → Option Refusal
later_by m u c k o n at =
    refused_or reason.Malformed m
    (refused_or reason.UnknownName u
    (refused_or reason.Coupled c
    (refused_or reason.NoFunction k
    (refused_or reason.OwnCondition o
    (refused_or reason.Number n (Some (record { reason = reason.Limit; at = at })))))))

module _ (m u c k o n m2 u2 o2 n2 : Option ℕ) (at : ℕ) where
  abbrev x12 : Option Refusal
  x12 = refused_or reason.Number n (Some (record { reason = reason.Limit; at = at }))

  abbrev x11 : Option Refusal
  x11 = refused_or reason.OwnCondition o x12

  abbrev x10 : Option Refusal
  x10 = refused_or reason.NoFunction k x11

  abbrev x9 : Option Refusal
  x9 = refused_or reason.Coupled c x10

  abbrev x8 : Option Refusal
  x8 = refused_or reason.UnknownName u x9

  abbrev y12 : Option Refusal
  y12 = refused_or reason.Number n2 None

  abbrev y11 : Option Refusal
  y11 = refused_or reason.OwnCondition o2 y12

  abbrev y8 : Option Refusal
  y8 = refused_or reason.UnknownName u2 y11

  above_x12 : IsAbove 11 x12
  above_x12 = above_or 11 reason.Number n (Some (record { reason = reason.Limit; at = at })) (omega arith) (omega arith)

  above_x11 : IsAbove 10 x11
  above_x11 = above_or 10 reason.OwnCondition o x12 (omega arith) above_x12

  above_x10 : IsAbove 9 x10
  above_x10 = above_or 9 reason.NoFunction k x11 (omega arith) above_x11

  above_x9 : IsAbove 8 x9
  above_x9 = above_or 8 reason.Coupled c x10 (omega arith) above_x10

  above_x8 : IsAbove 7 x8
  above_x8 = above_or 7 reason.UnknownName u x9 (omega arith) above_x9

  above_y12 : IsAbove 11 y12
  above_y12 = above_or 11 reason.Number n2 None (omega arith) tt

  above_y11 : (b : ℕ) → b < 11 → IsAbove b y11
  above_y11 b h = above_or b reason.OwnCondition o2 y12 h above_y12

  above_y8 : IsAbove 7 y8
  above_y8 = above_or 7 reason.UnknownName u2 y11 (omega arith) (above_y11 8 (omega arith))

  pub later_joined : later_by (lesser m m2) (lesser u u2) c k (lesser o o2) (lesser n n2) at
      ≡ first_of_two (later_by m u c k o n at) (by_kinds m2 u2 o2 n2)
  later_joined =
      ap (refused_or reason.Malformed (lesser m m2))
      (ap (refused_or reason.UnknownName (lesser u u2))
      (ap (refused_or reason.Coupled c)
      (ap (refused_or reason.NoFunction k)
      (ap (refused_or reason.OwnCondition (lesser o o2))
      (joined reason.Number n n2 (Some (record { reason = reason.Limit; at = at })) None (omega arith) tt)
      ∙ joined reason.OwnCondition o o2 x12 y12 above_x12 above_y12)
      ∙ kept reason.NoFunction k x11 y11 above_x11 (above_y11 10 (omega arith)))
      ∙ kept reason.Coupled c x10 y11 above_x10 (above_y11 9 (omega arith)))
      ∙ joined reason.UnknownName u u2 x9 y11 above_x9 (above_y11 8 (omega arith)))
      ∙ joined reason.Malformed m m2 x8 y8 above_x8 above_y8

  abbrev x7 : Option Refusal
  x7 = later_by m u c k o n at

  abbrev y7 : Option Refusal
  y7 = by_kinds m2 u2 o2 n2

  above_x7 : (b : ℕ) → b < 7 → IsAbove b x7
  above_x7 b h = above_or b reason.Malformed m x8 h above_x8

  above_y7 : (b : ℕ) → b < 7 → IsAbove b y7
  above_y7 b h = above_or b reason.Malformed m2 y8 h above_y8

  -- and those before the texts
  pub all_joined : (d t b l p q : Option ℕ)
      → refused_or reason.Direction d (refused_or reason.ThreeState t (refused_or reason.Bank b
      (refused_or reason.LeftOutState l (refused_or reason.ClearPreset p (refused_or reason.Duplicate q
      (later_by (lesser m m2) (lesser u u2) c k (lesser o o2) (lesser n n2) at))))))
      ≡ first_of_two
      (refused_or reason.Direction d (refused_or reason.ThreeState t (refused_or reason.Bank b
      (refused_or reason.LeftOutState l (refused_or reason.ClearPreset p (refused_or reason.Duplicate q
      (later_by m u c k o n at))))))) (by_kinds m2 u2 o2 n2)
  all_joined d t b l p q =
      let x6 : Option Refusal = refused_or reason.Duplicate q x7 in
      let x5 : Option Refusal = refused_or reason.ClearPreset p x6 in
      let x4 : Option Refusal = refused_or reason.LeftOutState l x5 in
      let x3 : Option Refusal = refused_or reason.Bank b x4 in
      let x2 : Option Refusal = refused_or reason.ThreeState t x3 in
      let above_x6 : IsAbove 5 x6 = above_or 5 reason.Duplicate q x7 (omega arith) (above_x7 6 (omega arith)) in
      let above_x5 : IsAbove 4 x5 = above_or 4 reason.ClearPreset p x6 (omega arith) above_x6 in
      let above_x4 : IsAbove 3 x4 = above_or 3 reason.LeftOutState l x5 (omega arith) above_x5 in
      let above_x3 : IsAbove 2 x3 = above_or 2 reason.Bank b x4 (omega arith) above_x4 in
      let above_x2 : IsAbove 1 x2 = above_or 1 reason.ThreeState t x3 (omega arith) above_x3 in
      ap (refused_or reason.Direction d)
      (ap (refused_or reason.ThreeState t)
      (ap (refused_or reason.Bank b)
      (ap (refused_or reason.LeftOutState l)
      (ap (refused_or reason.ClearPreset p)
      (ap (refused_or reason.Duplicate q) later_joined ∙ kept reason.Duplicate q x7 y7 (above_x7 6 (omega arith))
      (above_y7 6 (omega arith)))
      ∙ kept reason.ClearPreset p x6 y7 above_x6 (above_y7 5 (omega arith)))
      ∙ kept reason.LeftOutState l x5 y7 above_x5 (above_y7 4 (omega arith)))
      ∙ kept reason.Bank b x4 y7 above_x4 (above_y7 3 (omega arith)))
      ∙ kept reason.ThreeState t x3 y7 above_x3 (above_y7 2 (omega arith)))
      ∙ kept reason.Direction d x2 y7 above_x2 (above_y7 1 (omega arith))
