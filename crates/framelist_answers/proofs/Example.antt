-- The definitions print the example, computed. Assumes nothing.
use mathlib.Core.Path.{◌≡◌, refl}
use Rattle.entering.specs.Entering.{entered}
use Rattle.envelope.specs.Adsrs as A
use Rattle.frame.specs.Fades.{advanced_by, marks_advanced}
use Rattle.frame.specs.Frames.{enveloped, sampled, total, given_count, averaged, mono_mix, mono_frame_by, duty_frame_by}
use Rattle.frame.specs.Places.{map_at}
use Rattle.hex_digits.specs.Hex.{between, all_digits, digit_of, hex_of}
use Rattle.laws.specs.Runs.{after, given}
use Rattle.laws.specs.Whole.{held_to}
use Rattle.marks.specs.Marks.{older, settled_by, settled}
use Rattle.mixer.specs.Mixers as M
use Rattle.output.specs.Duty.{duty, mapped}
use Rattle.play.specs.Plays as P
use Rattle.start.specs.Starts.{started_voice, tone_voice}
use Rattle.tone.specs.Duration.{duration_of, less_one}
use Rattle.tone.specs.Tones.{started_tone, stepped_tone}
use Rattle.voice.specs.Sources.{active_source, stepped_source}
use Rattle.voice.specs.Voices.{silent_voice, triggered_voice, audible, ticked_voice, stepped_voice, sample_by}
use Rattle.framelist_answers.specs.Example.{example_lines, example_text}
use Rattle.framelist_answers.specs.Lines.{started, line_answer, printed, framelist}

pub prints : framelist example_lines ≡ example_text
unfolding entered A.active A.began_decay A.triggered A.next_level A.advanced_toward A.ticked advanced_by marks_advanced enveloped sampled total given_count averaged mono_mix mono_frame_by duty_frame_by map_at between all_digits digit_of hex_of after given held_to older settled_by settled M.fresh M.opened duty mapped P.first_sounding P.toned started_voice tone_voice duration_of less_one started_tone stepped_tone active_source stepped_source silent_voice triggered_voice audible ticked_voice stepped_voice sample_by started line_answer printed
prints = refl
