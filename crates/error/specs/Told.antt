-- Document 01: "When an answer is an enum, the promises use a definition that gives this paper's number and values for each case of the
-- enum." The one form of such a definition. Assumes nothing.
use Rattle.std.specs.Prelude.{ℕ, ◌≡◌, cond, eqb, Result, Ok, Err}
use Rattle.std.proofs.Math.Option.{Option, none, some}
use Rattle.error.specs.Numbers.{number_of}
use Rattle.error.specs.declared.AudioError.{AudioError}
use Rattle.error.specs.declared.AudioError.TheVariants as E

-- a value, or the number of a refusal
pub data Told (A : Type 0) : Type 0 where
  value : A → Told A
  refused : ℕ → Told A

-- what an answer tells
abbrev pub told : {A : Type 0} → Result A AudioError → Told A
told (Ok x) = value x
told (Err e) = refused (number_of e)

-- "A call passes its places in the table's order": a refusal stands, a value goes on to the next place
abbrev pub and_then : {A B : Type 0} → Told A → (A → Told B) → Told B
and_then (value x) next = next x
and_then (refused n) next = refused n

-- no refusal, where a call gives nothing more
abbrev pub passed : Told (Unit {0})
passed = value tt

-- 0, or the refusal's number
abbrev pub number_in : {A : Type 0} → Told A → ℕ
number_in (value x) = 0
number_in (refused n) = n

-- the value alone, whatever number a refusal has
abbrev pub value_in : {A : Type 0} → Told A → Option A
value_in (value x) = some x
value_in (refused n) = none

-- the refusal that has a number, as `number_of` gives it
abbrev pub refusal : ℕ → AudioError
refusal n =
    cond (eqb n 1) E.VoiceCount
    (cond (eqb n 2) E.BadRate
    (cond (eqb n 3) E.BadPeriod
    (cond (eqb n 4) E.TruncatedBank
    (cond (eqb n 5) E.VoiceBusy
    (cond (eqb n 6) E.NoBank
    (cond (eqb n 7) E.BankMismatch
    (cond (eqb n 8) E.EffectNotFound
    (cond (eqb n 9) E.InvalidEffectKind
    (cond (eqb n 10) E.NotCarried
    (cond (eqb n 11) E.BadSum
    (cond (eqb n 12) E.LowRate
    (cond (eqb n 13) E.BadEntries
    (cond (eqb n 14) E.ShortBuffer
    (cond (eqb n 15) E.BadOffset
    (cond (eqb n 16) E.BadLength
    (cond (eqb n 17) E.LineFull
    (cond (eqb n 18) E.LabelWaiting
    (cond (eqb n 19) E.NotWaiting E.NotCounted))))))))))))))))))

-- what holds of a value; of a refusal there is nothing to hold
abbrev pub ValidTold : {A : Type 0} → (A → Type 0) → Told A → Type 0
ValidTold Valid (value x) = Valid x
ValidTold Valid (refused n) = Unit {0}

-- What a call promises of an answer: what it tells, and that its value keeps what such values keep.
pub record Answered {A : Type 0} (Valid : A → Type 0) (t : Told A) (r : Result A AudioError) : Type 0 where
  pub same : told r ≡ t
  pub valid : ValidTold Valid (told r)
