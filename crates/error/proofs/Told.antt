-- A refusal and its number say the same; what a call tells. Assumes nothing.
use Prim.Native.Nat.{ℕ, zero, suc, ◌≤◌}
use mathlib.Core.Path.{◌≡◌, refl}
use native.Mathlib.Nat.{lt_irrefl}
use native.Mathlib.Omega.{arith}
use Rattle.std.specs.Prelude.{Result}
use Rattle.error.specs.Numbers.{number_of}
use Rattle.error.specs.Told.{Told, value, refused, told, and_then, value_in, refusal, ValidTold, Answered}
use Rattle.error.specs.declared.AudioError.{AudioError}
use Rattle.error.specs.declared.AudioError.TheVariants as E

pub refusal-number : (e : AudioError) → refusal (number_of e) ≡ e
refusal-number E.VoiceCount = refl
refusal-number E.BadRate = refl
refusal-number E.BadPeriod = refl
refusal-number E.TruncatedBank = refl
refusal-number E.VoiceBusy = refl
refusal-number E.NoBank = refl
refusal-number E.BankMismatch = refl
refusal-number E.EffectNotFound = refl
refusal-number E.InvalidEffectKind = refl
refusal-number E.NotCarried = refl
refusal-number E.BadSum = refl
refusal-number E.LowRate = refl
refusal-number E.BadEntries = refl
refusal-number E.ShortBuffer = refl
refusal-number E.BadOffset = refl
refusal-number E.BadLength = refl
refusal-number E.LineFull = refl
refusal-number E.LabelWaiting = refl
refusal-number E.NotWaiting = refl
refusal-number E.NotCounted = refl

pub number-refusal : (n : ℕ) → 1 ≤ n → n ≤ 19 → number_of (refusal n) ≡ n
number-refusal zero h k = absurd (lt_irrefl 0 (omega arith))
number-refusal (suc zero) h k = refl
number-refusal (suc (suc zero)) h k = refl
number-refusal (suc (suc (suc zero))) h k = refl
number-refusal (suc (suc (suc (suc zero)))) h k = refl
number-refusal (suc (suc (suc (suc (suc zero))))) h k = refl
number-refusal (suc (suc (suc (suc (suc (suc zero)))))) h k = refl
number-refusal (suc (suc (suc (suc (suc (suc (suc zero))))))) h k = refl
number-refusal (suc (suc (suc (suc (suc (suc (suc (suc zero)))))))) h k = refl
number-refusal (suc (suc (suc (suc (suc (suc (suc (suc (suc zero))))))))) h k = refl
number-refusal (suc (suc (suc (suc (suc (suc (suc (suc (suc (suc zero)))))))))) h k = refl
number-refusal (suc (suc (suc (suc (suc (suc (suc (suc (suc (suc (suc zero))))))))))) h k = refl
number-refusal (suc (suc (suc (suc (suc (suc (suc (suc (suc (suc (suc (suc zero)))))))))))) h k = refl
number-refusal (suc (suc (suc (suc (suc (suc (suc (suc (suc (suc (suc (suc (suc zero))))))))))))) h k = refl
number-refusal (suc (suc (suc (suc (suc (suc (suc (suc (suc (suc (suc (suc (suc (suc zero)))))))))))))) h k = refl
number-refusal (suc (suc (suc (suc (suc (suc (suc (suc (suc (suc (suc (suc (suc (suc (suc zero))))))))))))))) h k = refl
number-refusal (suc (suc (suc (suc (suc (suc (suc (suc (suc (suc (suc (suc (suc (suc (suc (suc zero)))))))))))))))) h k = refl
number-refusal (suc (suc (suc (suc (suc (suc (suc (suc (suc (suc (suc (suc (suc (suc (suc (suc (suc zero))))))))))))))))) h k = refl
number-refusal (suc (suc (suc (suc (suc (suc (suc (suc (suc (suc (suc (suc (suc (suc (suc (suc (suc (suc zero)))))))))))))))))) h k = refl
number-refusal (suc (suc (suc (suc (suc (suc (suc (suc (suc (suc (suc (suc (suc (suc (suc (suc (suc (suc (suc zero))))))))))))))))))) h k = refl
number-refusal (suc (suc (suc (suc (suc (suc (suc (suc (suc (suc (suc (suc (suc (suc (suc (suc (suc (suc (suc (suc n)))))))))))))))))))) h k = absurd (lt_irrefl 0 (omega arith))

-- an answer that tells a valid t
pub answered : {A : Type 0} {Valid : A → Type 0} {t : Told A} {r : Result A AudioError} → told r ≡ t → ValidTold Valid t → Answered Valid t r
answered e h = record { same = e; valid = rw e h }

-- what is told is one thing
pub value-is : {A : Type 0} {x y : A} → value x ≡ value y → x ≡ y
value-is e = cc

pub not-refused : {A X : Type 0} {x : A} {n : ℕ} → value x ≡ refused n → X
not-refused e = let z : ◌≡◌ {A = ℕ} 0 1 = cc in absurd (omega arith)

-- places that differ in numbers alone give the same value
pub then-value : {A B : Type 0} (t : Told A) (f g : A → Told B) → ((x : A) → value_in (f x) ≡ value_in (g x)) → value_in (and_then t f) ≡ value_in (and_then t g)
then-value (value x) f g h = h x
then-value (refused n) f g h = refl

pub start-value : {A B : Type 0} (s t : Told A) (f : A → Told B) → value_in s ≡ value_in t → value_in (and_then s f) ≡ value_in (and_then t f)
start-value (value x) (value y) f e = let same : x ≡ y = cc in rw same
start-value (value x) (refused n) f e = cc
start-value (refused m) (value y) f e = cc
start-value (refused m) (refused n) f e = refl
