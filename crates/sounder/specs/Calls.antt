-- What each call makes of a state of the present rules: document 01's step of the mixer, and what then stands beside the voices. But for leaving and
-- withdrawing, requests wait as before: "A stop or a new bank leaves requests waiting." Assumes nothing.
use Rattle.std.specs.Prelude.{ℕ, Bool, true, false, List, map, Err, Ok, Result}
use Rattle.config.specs.Config.{default_duty}
use Rattle.config.specs.declared.AudioConfig.{AudioConfig}
use Rattle.entering.specs.Lined.{lined}
use Rattle.entering.specs.declared.Lined.{Lined}
use Rattle.envelope.specs.declared.AdsrSpec.{AdsrSpec}
use Rattle.marks.specs.Marks.{no_marks, started_mark, marked_at, settled, beside}
use Rattle.marks.specs.declared.Marks.{Marks}
use Rattle.mixer.specs.Mixers as M
use Rattle.mixer.specs.declared.Changed.{Changed}
use Rattle.mixer.specs.declared.VoiceStealingPolicy.{VoiceStealingPolicy}
use Rattle.play.specs.Fades as F
use Rattle.play.specs.Plays as P
use Rattle.polyblep.specs.declared.PolyBlepWaveform.{PolyBlepWaveform}
use Rattle.requests.specs.Presents.{played_present}
use Rattle.start.specs.declared.Request.{Request}
use Rattle.tone.specs.declared.Waveform.{Waveform}
use Rattle.waiting.specs.Lines as W
use Rattle.waiting.specs.Lines.{in_line}
use Rattle.waiting.specs.declared.LineChanged.{LineChanged}
use Rattle.sounder.specs.Sounders.{After, unwaited, with_present}
use Rattle.error.specs.declared.AudioError.{AudioError}

-- whether a call was refused, with the state after it
abbrev pub Outcome : Type 0
Outcome = Result (Unit {0}) AudioError

abbrev pub changed : Outcome → Lined → After Outcome
changed outcome s = record { gave = outcome; lined = s }

-- Nothing stands beside any voice, and "gain 255 shall hand the sample through": the master's too, also where opening is refused.
abbrev pub opened : ℕ → AudioConfig → VoiceStealingPolicy → After Outcome
opened n config policy = let c = M.opened n config policy in changed c.outcome (unwaited (beside c.mixer (no_marks true false)))

-- two voices, under the policy that stands where none is chosen; turned down as any opening is
abbrev pub opened_two : AudioConfig → After Outcome
opened_two config = opened 2 config M.default_policy

-- 16,000 Hz, a period of 1,000, first-order shaper, master gain 255
abbrev pub default_sounder : Lined
default_sounder = unwaited (beside (M.fresh 2 default_duty M.default_policy) (no_marks true false))

-- pan and master gain start and silence nothing: the marks stay
abbrev pub panned : Lined → ℕ → ℕ → Lined
panned s i pan = let p = s.present in with_present s (beside (M.panned p.mixer i pan) p.marks)

abbrev pub with_master_gain : Lined → ℕ → Lined
with_master_gain s gain = let p = s.present in with_present s (beside (M.with_master_gain p.mixer gain) p.marks)

-- A stop leaves no voice audible. "Voices ringing in such an image use the old gain rule .. and so does master gain until the next stop." Which call
-- began the last fade it leaves, as all but the two fade calls do.
abbrev pub stopped : Lined → Lined
stopped s = let p = s.present in with_present s (beside (M.stopped p.mixer) (no_marks true p.marks.sounds_on))

-- "Setting a bank makes .. all voices silent"; "A refusal changes nothing"
abbrev pub bank_marks : Outcome → Marks → Marks
bank_marks (Ok tt) k = no_marks k.master k.sounds_on
bank_marks (Err e) k = k

abbrev pub banked : Lined → ℕ → ℕ → ℕ → After Outcome
banked s rate count len =
    let c = M.banked s.present.mixer rate count len in
    changed c.outcome (with_present s (beside c.mixer (bank_marks c.outcome s.present.marks)))

-- The voice that a request got was started, and is the youngest; "A refusal changes nothing" (`requests`). A payload that fails is refused with 15 or 16,
-- document 02's numbers.
abbrev pub played : Lined → List ℕ → Request → After (Result ℕ AudioError)
played s bytes r = let q = played_present s.present bytes r in record { gave = q.outcome; lined = with_present s q.present }

-- the last fade was begun by this call, true for the second
abbrev pub begun_by : Bool → Marks → Marks
begun_by on k = record { voices = k.voices; master = k.master; sounds_on = on }

-- "A fade starts voice 1", and the last fade is this call's
abbrev pub fade_marks : Bool → Outcome → Marks → Marks
fade_marks on (Ok tt) k = begun_by on (marked_at 1 started_mark k)
fade_marks on (Err e) k = k

-- voice 0 was released, and may be inaudible
abbrev pub faded_by : Bool → Lined → Changed → After Outcome
faded_by on s c = changed c.outcome (with_present s (settled (beside c.mixer (fade_marks on c.outcome s.present.marks))))

-- The call of old: voice 0 is released also where the fade is refused at its entry start, with 10, 15 or 16: "The release of voice 0 by a fade now
-- goes with these."
abbrev pub faded : Lined → List ℕ → ℕ → ℕ → AdsrSpec → After Outcome
faded s bytes id ms adsr = faded_by false s (F.faded_under true s.present.mixer bytes id ms adsr)

-- "a second fade call, at whose end voice 0 also takes voice 1's envelope"; "being turned down changes nothing at all" (`sounder` on-refused)
abbrev pub faded_on : Lined → List ℕ → ℕ → ℕ → AdsrSpec → After Outcome
faded_on s bytes id ms adsr = faded_by true s (F.faded_on s.present.mixer bytes id ms adsr)

-- Tone and PolyBLEP start voice 0; "with N = 0 they do nothing", and settling leaves nothing beside the silent place.
abbrev pub toned : Lined → ℕ → ℕ → Waveform → Lined
toned s hz ms waveform =
    let p = s.present in with_present s (settled (beside (P.toned p.mixer hz ms waveform) (marked_at 0 started_mark p.marks)))

abbrev pub poly_bleped : Lined → ℕ → ℕ → PolyBlepWaveform → Lined
poly_bleped s hz ms waveform =
    let p = s.present in with_present s (settled (beside (P.poly_bleped p.mixer hz ms waveform) (marked_at 0 started_mark p.marks)))

-- the rank of each voice, 0 the oldest; 255 for one that has none
abbrev pub ranks_in : Lined → List ℕ
ranks_in s = map (λ k. k.rank) s.present.marks.voices

-- ---- requests that wait

-- what `waiting` makes of the line; nothing else changes, and nothing is tried
abbrev pub relined : Lined → LineChanged → After Outcome
relined s c = changed c.outcome (lined s.present s.kept c.line)

-- "A caller may leave a request under a 16-bit label of its choosing, and withdraw it"
abbrev pub left_in : Lined → ℕ → Request → After Outcome
left_in s label r = relined s (W.changed_line s.line (W.left (record { label = label; request = r }) (in_line s.line)))

abbrev pub withdrawn_in : Lined → ℕ → After Outcome
withdrawn_in s label = relined s (W.changed_line s.line (W.withdrawn label (in_line s.line)))
