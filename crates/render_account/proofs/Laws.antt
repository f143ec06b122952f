-- No line of the account is longer than a text holds. Assumes nothing.
use Rattle.std.specs.Prelude.{None, Option, Some}
use Prim.Native.Nat.{ℕ, ◌*◌, ◌-◌, ◌≤◌}
use mathlib.Core.Path.{refl}
use mathlib.Core.Bool.{Bool, true, false}
use mathlib.Core.List.{List, ◌++◌}
use native.Mathlib.Omega.{arith}
use borrow.Author.Tests.{leb-true}
use lib.Dec.{eqb, leb}
use lib.ListN.{length, length-append}
use Rattle.config.specs.Config.{rounded_up, fade_step}
use Rattle.frame.specs.Lasting.{fade_count}
use Rattle.render_texts.specs.Texts.{words, milliseconds_of}
use Rattle.render_texts.specs.declared.Clock.{Clock}
use Rattle.render_texts.proofs.Whole.{whole, either-within, words-within, decimal-within, things-within, seconds-within, tenths-within, time-within}
use Rattle.hex_digits.specs.Hex.{byte_at, wide_at, long_at}
use Rattle.voice.specs.Voices.{audible}
use Rattle.mixer.specs.Mixers.{voice_read}
use Rattle.replay_box.specs.Boxes.{is_present, mixer_of, kept_in}
use Rattle.replay_box.specs.declared.OpenBox.{OpenBox}
use Rattle.render_account.specs.Account as T
use Rattle.render_account.specs.Waits as W
use Rattle.error.specs.declared.AudioError.{AudioError}
use Rattle.replay_fields.specs.Read.{tone_waveform, poly_blep_waveform}
use Rattle.voice.specs.declared.Voice.{Voice}
use Rattle.tone.specs.declared.Waveform.{Waveform}
use Rattle.tone.specs.declared.Waveform.TheVariants as V
use Rattle.polyblep.specs.declared.PolyBlepWaveform.{PolyBlepWaveform}
use Rattle.polyblep.specs.declared.PolyBlepWaveform.TheVariants as B

added-within : (n : ℕ) → length (T.added_text n) ≤ 55
unfolding T.added_text
added-within n = search (words-within, leb-true) depth 13

why-within : (n : ℕ) → length (T.why_text n) ≤ 55
unfolding T.why_text
why-within n = search (words-within, added-within, leb-true) depth 13

end-within : (n : ℕ) → length (T.end_text n) ≤ 89
unfolding T.end_text
end-within n = either-within 89 (eqb n 0) _ _ (omega arith) (simp length-append (omega (arith, decimal-within n, why-within n)))

count-within : (head : List ℕ) (n : ℕ) (name : List ℕ) (hz : ℕ) (answer : List ℕ) (c : Clock) → length head ≤ 33 → length name ≤ 6
    → length (T.count_text head n name hz answer c) ≤ 256
unfolding T.count_text
count-within head n name hz answer c h k =
    simp length-append (omega (arith, h, k, time-within c, things-within n name, decimal-within hz, end-within (byte_at answer 0)))

from-within : (present : Bool) (priority : ℕ) → length (T.from_text present priority) ≤ 56
unfolding T.from_text
from-within true priority = simp length-append (omega (arith, decimal-within priority))
from-within false priority = simp length-append (omega (arith, decimal-within priority))

taken-within : (present : Bool) (v : Option Voice) → length (T.taken_text present v) ≤ 56
taken-within present None = omega arith
taken-within present (Some v) = either-within 56 (audible v) _ _ (from-within present v.priority) (omega arith)

voice-within : (e : OpenBox) (voice : ℕ) → length (T.voice_text e voice) ≤ 84
unfolding T.voice_text
voice-within e voice = simp length-append (omega (arith, decimal-within voice, taken-within (is_present e) (voice_read (mixer_of e) voice)))

outcome-within : (answer : List ℕ) (e : OpenBox) → length (T.outcome_text answer e) ≤ 89
outcome-within answer e =
    either-within 89 (eqb (byte_at answer 0) 0) _ _ (simp length-append (omega (arith, voice-within e (byte_at answer 1)))) (end-within (byte_at answer 0))

play-within : (l answer : List ℕ) (e : OpenBox) (c : Clock) → length (T.play_text l answer e c) ≤ 256
unfolding T.play_text
play-within l answer e c =
    simp length-append (omega (arith, time-within c, decimal-within (wide_at l 1), decimal-within (byte_at l 10), outcome-within answer e))

over-within : (ms rate : ℕ) → length (T.over_text ms rate) ≤ 35
unfolding T.over_text
over-within ms rate =
    words-within 35 (eqb rate 0) _ _ refl (simp length-append (omega (arith, tenths-within (rounded_up (10_000 * fade_count (fade_step ms rate)) rate))))

fade-within : (call l answer : List ℕ) (e : OpenBox) (c : Clock) → length call ≤ 23 → length (T.fade_text call l answer e c) ≤ 256
unfolding T.fade_text
fade-within call l answer e c h =
    let last = either-within 89 (eqb (byte_at answer 0) 0) (T.over_text (wide_at l 3) (mixer_of e).config.sample_rate_hz ++ words "\n") (T.end_text (byte_at answer 0))
    (simp length-append (omega (arith, over-within (wide_at l 3) (mixer_of e).config.sample_rate_hz))) (end-within (byte_at answer 0)) in
    simp length-append (omega (arith, h, time-within c, decimal-within (wide_at l 1), decimal-within (wide_at l 3), last))

lasting-within : (ms : ℕ) → length (T.lasting_text ms) ≤ 28
unfolding T.lasting_text
lasting-within ms = words-within 28 (eqb ms 0) _ _ refl (simp length-append (omega (arith, decimal-within ms)))

sounding-within : (l : List ℕ) (e : OpenBox) → length (T.sounding_text l e) ≤ 74
unfolding T.sounding_text
sounding-within l e =
    let last : length (T.voices_text (mixer_of e).n) ≤ 22 = search (words-within, leb-true) in
    simp length-append (omega (arith, decimal-within (long_at l 1), lasting-within (wide_at l 5), last))

tone_name-within : (w : Waveform) → length (T.tone_name w) ≤ 8
tone_name-within V.Square = omega arith
tone_name-within V.Sine = omega arith
tone_name-within V.Triangle = omega arith

tone-within : (l : List ℕ) (e : OpenBox) (c : Clock) → length (T.tone_text l e c) ≤ 256
unfolding T.tone_text
tone-within l e c =
    simp length-append (omega (arith, time-within c, tone_name-within (tone_waveform (byte_at l 7)), sounding-within l e))

polyblep_name-within : (w : PolyBlepWaveform) → length (T.polyblep_name w) ≤ 8
polyblep_name-within B.Sine = omega arith
polyblep_name-within B.Sawtooth = omega arith
polyblep_name-within B.Square = omega arith
polyblep_name-within B.Triangle = omega arith

polyblep-within : (l : List ℕ) (e : OpenBox) (c : Clock) → length (T.polyblep_text l e c) ≤ 256
unfolding T.polyblep_text
polyblep-within l e c =
    simp length-append (omega (arith, time-within c, polyblep_name-within (poly_blep_waveform (byte_at l 7)), sounding-within l e))

stop-within : (c : Clock) → length (T.stop_text c) ≤ 256
unfolding T.stop_text
stop-within c = simp length-append (omega (arith, time-within c))

ask-within : (question answer : List ℕ) (c : Clock) → length question ≤ 45 → length (T.ask_text question answer c) ≤ 256
unfolding T.ask_text
ask-within question answer c h =
    words-within 256 (eqb (byte_at answer 0) 0) _ _ refl (simp length-append (omega (arith, h, time-within c, end-within (byte_at answer 0))))

pub call-within : (l answer : List ℕ) (e : OpenBox) (c : Clock) → length (T.call_text l answer e c) ≤ 256
unfolding T.call_text
call-within l answer e c =
    let code = byte_at l 0 in
    either-within 256 (eqb code 0x11) _ _ (count-within (words "set a bank of ") (wide_at l 5) (words " sound") (long_at l 1) answer c (omega arith) (omega arith))
    (either-within 256 (eqb code 0x13) _ _ (play-within l answer e c)
    (either-within 256 (eqb code 0x14) _ _ (fade-within T.fade_words l answer e c (omega arith))
    (either-within 256 (eqb code 0x15) _ _ (tone-within l e c)
    (either-within 256 (eqb code 0x16) _ _ (polyblep-within l e c)
    (either-within 256 (eqb code 0x19) _ _ (stop-within c)
    (either-within 256 (eqb code 0x1A) _ _ (ask-within (T.search_question l) answer c (simp length-append (omega (arith, decimal-within (wide_at l 1)))))
    (either-within 256 (eqb code 0x1B) _ _ (ask-within T.payload_question answer c (omega arith))
    (either-within 256 (eqb code 0x1C) _ _ (ask-within (T.voice_question l) answer c (simp length-append (omega (arith, decimal-within (byte_at l 1)))))
    (either-within 256 (eqb code 0x73) _ _ (fade-within T.fade_on_words l answer e c (omega arith))
    (omega arith))))))))))

held-within : (l answer : List ℕ) (held : Option OpenBox) (c : Clock) → length (T.held_text l answer held c) ≤ 256
held-within l answer None c = omega arith
held-within l answer (Some e) c = call-within l answer e c

pub line-within : (l answer : List ℕ) (held : Option OpenBox) (c : Clock) → length (T.line_text l answer held c) ≤ 256
unfolding T.line_text
line-within l answer held c =
    let code = byte_at l 0 in
    either-within 256 (eqb code 0x10) _ _ (count-within (words "open ") (byte_at l 1) (words " voice") (long_at l 2) answer c (omega arith) (omega arith))
    (either-within 256 (eqb code 0x70) _ _ (count-within (words "open a box of the present rules, ") (byte_at l 1) (words " voice") (long_at l 2) answer c (omega arith) (omega arith))
    (held-within l answer held c))

pub total-within : (c : Clock) → length (T.total_text c) ≤ 256
unfolding T.total_text
total-within c = simp length-append (omega (arith, seconds-within (milliseconds_of c), decimal-within c.rate, decimal-within (4 * c.frames)))

-- ---- requests that wait
dropped-within : (before after : Option (AudioError × ℕ)) → length (W.dropped_text before after) ≤ 128
unfolding W.dropped_text
dropped-within before after =
    words-within 128 (eqb (W.kept_key before) (W.kept_key after)) _ _ refl
    (simp length-append (omega (arith, decimal-within (W.kept_label after), decimal-within (W.kept_number after), why-within (W.kept_number after))))

leave-within : (l answer : List ℕ) (c : Clock) → length (W.leave_text l answer c) ≤ 256
unfolding W.leave_text
leave-within l answer c =
    simp length-append (omega (arith, time-within c, decimal-within (wide_at l 4), decimal-within (byte_at l 13), decimal-within (wide_at l 1), end-within (byte_at answer 0)))

withdraw-within : (l answer : List ℕ) (c : Clock) → length (W.withdraw_text l answer c) ≤ 256
unfolding W.withdraw_text
withdraw-within l answer c = simp length-append (omega (arith, time-within c, decimal-within (wide_at l 1), end-within (byte_at answer 0)))

pub moved-within : (before after : OpenBox) (c : Clock) → length (W.moved_text before after c) ≤ 256
unfolding W.moved_text
moved-within before after c =
    let n = W.waiting_count before in
    let m = W.waiting_count after in
    words-within 256 (leb n m) _ _ refl
    (simp length-append (omega (arith, time-within c, things-within (n - m) (words " request"), decimal-within m, dropped-within (kept_in before) (kept_in after))))

pub wait-within : (l answer : List ℕ) (c : Clock) → length (W.wait_text l answer c) ≤ 256
unfolding W.wait_text
wait-within l answer c =
    let code = byte_at l 0 in
    either-within 256 (eqb code 0x74) _ _ (leave-within l answer c) (either-within 256 (eqb code 0x75) _ _ (withdraw-within l answer c) (omega arith))

-- a line of the account has room, so the text says all of it
pub ruleset whole_lines = (whole, call-within, line-within, total-within, moved-within, wait-within)
