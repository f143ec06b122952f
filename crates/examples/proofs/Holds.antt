-- The examples hold: all but the last are computed. Assumes nothing.
use mathlib.Core.Path.{◌≡◌, refl}
use Prim.Native.Nat.{ℕ}
use mathlib.Core.List.{[], ◌∷◌, map}
use lib.IntN.{ℤ, pos, negsuc}
use Rattle.laws.specs.Whole.{held_to}
use Rattle.envelope.specs.Adsrs.{idle_adsr, triggered, ticked, began_decay, advanced_toward, next_level}
use Rattle.fm.specs.Fm.{table_sine, table_sample, offset_of, started_fm, fm_sample}
use Rattle.output.specs.Duty.{duty}
use Rattle.output.proofs.Laws.{duty-of-2}
use mathlib.Core.Option.{or_else}
use Rattle.allocate.specs.Allocation.{allocated, with_ranks}
use Rattle.bank.specs.Banks.{bank_of, lent_bank, payload_under}
use Rattle.bank.specs.Entries.{fields_at, entry_at}
use Rattle.bank.specs.Search.{halving, count_from, decided, found_in}
use Rattle.engine.specs.Requests as E
use Rattle.envelope.specs.Adsrs.{active}
use Rattle.laws.specs.Lists.{only}
use Rattle.mixer.specs.Mixers as M
use Rattle.marks.specs.Marks.{older, settled_by, settled}
use Rattle.play.specs.Plays.{played, played_under}
use Rattle.ranking.specs.Falling.{inserted, falling}
use Rattle.requests.specs.Players.{played_all}
use Rattle.ranking.specs.Rule.{first_where, none_below, first_free, first_lowest, lowest_priority, lowest_oldest, oldest_lowest, none_older}
use Rattle.sounder.specs.Requests as S
use Rattle.start.specs.Starts.{started_voice, start_at, entry_start_under, request_start_under}
use Rattle.tier.specs.Kinds.{kind_of}
use Rattle.tone.specs.Tones.{started_tone}
use Rattle.voice.specs.Sources.{active_source, started_entry}
use Rattle.voice.specs.Voices.{silent_voice, triggered_voice, audible}
use Rattle.examples.specs.Examples.{Examples, levels, fours, two_voices, two_voices-of-01, four_requests, places, places-of-01, handings, remaining}

envelope : levels 8 (triggered (idle_adsr fours 1000)) ≡ 63 ∷ 159 ∷ 231 ∷ 255 ∷ 192 ∷ 96 ∷ 24 ∷ 0 ∷ []
unfolding ticked triggered began_decay advanced_toward next_level
envelope = refl

fm : (carrier ratio rate : ℕ) → fm_sample (started_fm carrier ratio 72 rate) ≡ pos 78
unfolding fm_sample started_fm offset_of table_sample table_sine
fm carrier ratio rate = refl

duties : map (λ (s : ℤ). duty s 1000) (pos 127 ∷ pos 0 ∷ negsuc 127 ∷ []) ≡ 999 ∷ 500 ∷ 1 ∷ []
unfolding duty held_to
duties = refl

handed : (handings S.player two_voices four_requests ≡ places) × (remaining S.player two_voices four_requests ≡ 7 ∷ 5 ∷ [])
unfolding M.opened M.fresh M.banked bank_of played_under played_all with_ranks lowest_oldest first_free oldest_lowest first_where none_below none_older or_else older settled_by settled request_start_under found_in lent_bank decided halving count_from entry_at fields_at kind_of entry_start_under payload_under start_at started_entry started_voice triggered_voice silent_voice audible active_source active triggered began_decay started_tone only falling inserted
handed = (refl, refl)

handed-of-01 : (handings E.player two_voices-of-01 four_requests ≡ places-of-01) × (remaining E.player two_voices-of-01 four_requests ≡ 7 ∷ 5 ∷ [])
unfolding M.opened M.fresh M.banked bank_of played played_all allocated lowest_priority first_free first_lowest first_where none_below or_else request_start_under found_in lent_bank decided halving count_from entry_at fields_at kind_of entry_start_under payload_under start_at started_entry started_voice triggered_voice silent_voice audible active_source active triggered began_decay started_tone only falling inserted
handed-of-01 = (refl, refl)

pub holds : Examples
holds =
    record {
      envelope = envelope;
      sines = refl;
      increments = refl;
      fm = fm;
      gain = refl;
      gain-of-01 = refl;
      limiter = refl;
      pan = refl;
      duties = duties;
      least = duty-of-2;
      handed = handed.0;
      remain = handed.1;
      handed-of-01 = handed-of-01.0;
      remain-of-01 = handed-of-01.1;
    }
