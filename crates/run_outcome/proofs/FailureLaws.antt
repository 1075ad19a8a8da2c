-- How many calls failed in a run, by its status.
use Rattle.std.proofs.Common.{◌≡◌, ℕ, ◌∙◌, Bool, true, false, Result, Ok, Err, MatchResult, IsTrue, if◌then◌else◌, refl, sym}
use Rattle.std.proofs.Common.{subst, arith}
use Rattle.text_io.specs.declared.outside.Failed.{Failed}
use Rattle.text_io.specs.declared.stop.Stop.{Stop}
use Rattle.text_io.specs.declared.stop.Stop.TheVariants as stops
use Rattle.text_io.specs.Desk.{Rose, HasCause, StopsWithCause}
use Rattle.run_outcome.specs.declared.status.Status.{Status}
use Rattle.run_outcome.specs.declared.status.Status.TheVariants as status
use Rattle.run_outcome.specs.Status.{is_decided, is_unfailed, status_by, status_where, compared_status}
use Rattle.run_outcome.specs.Runs.{StopsWithStatus}

-- where none had failed before, one failed in a run that ends so, or none
pub counted_once : (end : Status) (before now : ℕ) → before ≡ 0 → (IsTrue (is_unfailed end) → now ≡ before)
    → (end ≡ status.Outside → Rose before now)
    → now ≡ (if is_unfailed end then 0 else 1)
counted_once status.Outside before now none kept rose = omega (arith, none, rose refl)
counted_once status.Memory before now none kept rose = let same : now ≡ before = kept cc in same ∙ none
counted_once status.Done before now none kept rose = let same : now ≡ before = kept cc in same ∙ none
counted_once status.Usage before now none kept rose = let same : now ≡ before = kept cc in same ∙ none
counted_once status.Library before now none kept rose = let same : now ≡ before = kept cc in same ∙ none
counted_once status.Cells before now none kept rose = let same : now ≡ before = kept cc in same ∙ none
counted_once status.Stimulus before now none kept rose = let same : now ≡ before = kept cc in same ∙ none
counted_once status.Model before now none kept rose = let same : now ≡ before = kept cc in same ∙ none
counted_once status.Differ before now none kept rose = let same : now ≡ before = kept cc in same ∙ none
counted_once status.TooLong before now none kept rose = let same : now ≡ before = kept cc in same ∙ none

-- a status of a run in which no call failed, whose words have a reading
pub record IsPlain (end : Status) : Type 0 where
  pub no_failure : end ≡ status.Outside → ⊥
  pub has_reading : end ≡ status.Usage → ⊥

-- a run ends with what was written last, or where this failed
pub ends_by_writing : {T : Type 0} (before now : ℕ) (written : Result T Failed) (end result : Status) → IsPlain end
    → HasCause before now written
    → MatchResult written (λ _. result ≡ end) (λ _. result ≡ status.Outside) → StopsWithStatus before now result
ends_by_writing before now (Ok x) end result plain h is = subst (StopsWithStatus before now) (sym is) (record {
  counts = record { later = h.later; kept = λ u. h.kept; failed = λ e. absurd (plain.no_failure e) };
  usage = plain.has_reading;
})
ends_by_writing before now (Err y) end result plain h is = subst (StopsWithStatus before now) (sym is) (record {
  counts = record { later = h.later; kept = λ u. absurd (let no : false ≡ true = u in cc); failed = λ e. h.failed };
  usage = λ e. absurd cc;
})

by_call : {T : Type 0} (ends : T → Status) (before now : ℕ) (last : Result T Stop) → ((value : T) → IsPlain (ends value))
    → StopsWithCause before now last
    → StopsWithStatus before now (status_by ends last)
by_call ends before now (Ok value) plain h = record {
  counts = record { later = h.later; kept = λ u. h.kept; failed = λ e. absurd ((plain value).no_failure e) };
  usage = (plain value).has_reading;
}
by_call ends before now (Err stops.Failed) plain h = record {
  counts = record { later = h.later; kept = λ u. absurd (let no : false ≡ true = u in cc); failed = λ e. h.failed refl };
  usage = λ e. absurd cc;
}
by_call ends before now (Err stops.Memory) plain h = record {
  counts = record { later = h.later; kept = λ u. h.kept refl; failed = λ e. absurd cc };
  usage = λ e. absurd cc;
}

-- a run counts its failed calls as its last call does, before which none failed
pub ends_by_call : {T : Type 0} (ends : T → Status) (before now after : ℕ) (last : Result T Stop) (result : Status)
    → ((value : T) → IsPlain (ends value))
    → now ≡ before → StopsWithCause now after last → result ≡ status_by ends last → StopsWithStatus before after result
ends_by_call ends before now after last result plain kept h is =
    subst (λ count. StopsWithStatus count after result) kept
    (subst (StopsWithStatus now after) (sym is) (by_call ends now after last plain h))

where_plain : (some_differ : Bool) → IsPlain (status_where some_differ)
where_plain true = record { no_failure = λ e. absurd cc; has_reading = λ e. absurd cc }
where_plain false = record { no_failure = λ e. absurd cc; has_reading = λ e. absurd cc }

-- so does a run that compares
pub ends_by_comparing : (before now after : ℕ) (compared : Result Bool Stop) (result : Status) → now ≡ before
    → StopsWithCause now after compared → result ≡ compared_status compared → StopsWithStatus before after result
ends_by_comparing before now after compared result kept h is =
    ends_by_call status_where before now after compared result where_plain kept h is
