-- Document 01, "Where a call is turned down": the number of each refusal. Assumes nothing.
use Rattle.std.specs.Prelude.{ℕ}
use Rattle.error.specs.declared.AudioError.{AudioError}
use Rattle.error.specs.declared.AudioError.TheVariants as E

abbrev pub number_of : AudioError → ℕ
number_of E.VoiceCount = 1
number_of E.BadRate = 2
number_of E.BadPeriod = 3
number_of E.TruncatedBank = 4
number_of E.VoiceBusy = 5
number_of E.NoBank = 6
number_of E.BankMismatch = 7
number_of E.EffectNotFound = 8
number_of E.InvalidEffectKind = 9
number_of E.NotCarried = 10
number_of E.BadSum = 11
-- document 02: "Numbers that requests add join 01's table"
number_of E.LowRate = 12
number_of E.BadEntries = 13
number_of E.ShortBuffer = 14
number_of E.BadOffset = 15
number_of E.BadLength = 16
number_of E.LineFull = 17
number_of E.LabelWaiting = 18
number_of E.NotWaiting = 19
number_of E.NotCounted = 22
