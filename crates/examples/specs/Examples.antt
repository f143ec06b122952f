-- Document 01, "Checked examples": "Those marked P are proved together." It grows with the layers. Where document 02 changes one, it stands
-- here as document 02 has it, and document 01's stays, of document 01's rule, with a name that ends in of-01. Assumes nothing.
use Rattle.std.specs.Prelude.{ℕ, zero, suc, ◌≡◌, true, List, [], ◌∷◌, map, ℤ, pos}
use Rattle.std.proofs.Math.Option.{Option, some}
use Rattle.envelope.specs.declared.AdsrSpec.{AdsrSpec}
use Rattle.envelope.specs.declared.Adsr.{Adsr}
use Rattle.envelope.specs.Adsrs.{idle_adsr, triggered, ticked}
use Rattle.entering.specs.declared.Lined.{Lined}
use Rattle.fixed.specs.declared.PanGains.{PanGains}
use Rattle.fixed.specs.Fixed.{increment, sine, gained, gained_by, pan_gains, limited}
use Rattle.fm.specs.Fm.{started_fm, fm_sample}
use Rattle.output.specs.Duty.{duty}
use Rattle.output.specs.declared.DutyMode.TheVariants as D
use Rattle.config.specs.Config.{configured}
use Rattle.envelope.specs.Adsrs.{click_spec}
use Rattle.laws.specs.Whole.{neg}
use Rattle.mixer.specs.Mixers as M
use Rattle.mixer.specs.declared.Mixer.{Mixer}
use Rattle.mixer.specs.declared.VoiceStealingPolicy.TheVariants as P
use Rattle.ranking.specs.Falling.{falling}
use Rattle.requests.specs.Players.{Player, handed_out, played_all, priorities}
use Rattle.start.specs.declared.Request.{Request}
use Rattle.engine.specs.Engines.{request_of}
use Rattle.engine.specs.Requests as E
use Rattle.sounder.specs.Calls.{opened, banked}
use Rattle.sounder.specs.Requests as S

-- the levels after each of n ticks
abbrev pub levels : ℕ → Adsr → List ℕ
levels zero a = []
levels (suc n) a = (ticked a).level_q8 ∷ levels n (ticked a)

-- at 1,000 Hz attack and decay have 4 samples each; sustain is 0
abbrev pub fours : AdsrSpec
fours = record { attack_ms = 4; decay_ms = 4; sustain_q8 = 0; release_ms = 4 }

abbrev pub gains : ℕ → ℕ → PanGains
gains l r = record { left = l; right = r }

-- a bank of one entry: ten bytes, then id 7, kind 0, gain 255, 440 Hz for 0 ms, no payload
abbrev pub bell : List ℕ
bell =
    0 ∷ 0 ∷ 0 ∷ 0 ∷ 0 ∷ 0 ∷ 0 ∷ 0 ∷ 0 ∷ 0
    ∷ 7 ∷ 0 ∷ 0 ∷ 0 ∷ 255 ∷ 0 ∷ 184 ∷ 1 ∷ 0 ∷ 0 ∷ 0 ∷ 0 ∷ 0 ∷ 0 ∷ 0 ∷ 0 ∷ []

-- two silent voices and that bank, in document 01's box and in one of the present rules
abbrev pub two_voices-of-01 : Mixer
two_voices-of-01 = (M.banked (M.opened 2 (configured 16000 1000 D.Linear) P.LowestPriorityOldest).mixer 8000 1 26).mixer

abbrev pub two_voices : Lined
two_voices = (banked (opened 2 (configured 16000 1000 D.Linear) P.LowestPriorityOldest).lined 8000 1 26).lined

-- "requests 3, 5, 5, 7", all for the bell
abbrev pub four_requests : List Request
four_requests = map (λ p. request_of 7 click_spec p) (3 ∷ 5 ∷ 5 ∷ 7 ∷ [])

-- whom they get by the present rules: "In 01's request example the last 7 goes to voice 1"
abbrev pub places : List (Option ℕ)
places = some 0 ∷ some 1 ∷ some 0 ∷ some 1 ∷ []

-- and by document 01's: "voices 0, 1, 0, 0"
abbrev pub places-of-01 : List (Option ℕ)
places-of-01 = some 0 ∷ some 1 ∷ some 0 ∷ some 0 ∷ []

module _ {State : Type 0} (b : Player State) where
  -- the voice that each is handed
  abbrev pub handings : State → List Request → List (Option ℕ)
  handings s [] = []
  handings s (r ∷ rs) = handed_out b s bell r ∷ handings (b.next s bell r) rs

  -- the priorities that remain after all, in falling order
  abbrev pub remaining : State → List Request → List ℕ
  remaining s rs = falling (priorities b (played_all b s bell rs))

pub record Examples : Type 0 where
  -- "attack of 4 samples: 63, 159, 231, 255", then "decay of 4 from 255 to 0: 192, 96, 24, 0"
  pub envelope : levels 8 (triggered (idle_adsr fours 1000)) ≡ 63 ∷ 159 ∷ 231 ∷ 255 ∷ 192 ∷ 96 ∷ 24 ∷ 0 ∷ []
  -- "sine 0, 64, 192, 255: 0, 63, −63, 0"
  pub sines : map sine (0 ∷ 64 ∷ 192 ∷ 255 ∷ []) ≡ pos 0 ∷ pos 63 ∷ neg 63 ∷ pos 0 ∷ []
  -- "increment 1,000 Hz at 8,000: 536,870,912"
  pub increments : increment 1000 8000 ≡ 536870912
  -- "first FM sample, depth 72: 78", whatever the carrier, the ratio and the rate
  pub fm : (carrier ratio rate : ℕ) → fm_sample (started_fm carrier ratio 72 rate) ≡ pos 78
  -- document 02, T-03: "01's gain example becomes 127 and −127"
  pub gain : map (λ (s : ℤ). gained_by true s 255) (pos 127 ∷ neg 127 ∷ []) ≡ pos 127 ∷ neg 127 ∷ []
  -- "gain 255 on 127 and −127: 126, −127"
  pub gain-of-01 : map (λ (s : ℤ). gained s 255) (pos 127 ∷ neg 127 ∷ []) ≡ pos 126 ∷ neg 127 ∷ []
  -- "limiter 96, 97, 127, −128: 96, 96, 111, −112"
  pub limiter : map limited (pos 96 ∷ pos 97 ∷ pos 127 ∷ neg 128 ∷ []) ≡ pos 96 ∷ pos 96 ∷ pos 111 ∷ neg 112 ∷ []
  -- "pan 0, 128, 129: (255, 0), (255, 255), (252, 255)"
  pub pan : map pan_gains (0 ∷ 128 ∷ 129 ∷ []) ≡ gains 255 0 ∷ gains 255 255 ∷ gains 252 255 ∷ []
  -- "duty, period 1,000, for 127, 0, −128: 999, 500, 1"
  pub duties : map (λ (s : ℤ). duty s 1000) (pos 127 ∷ pos 0 ∷ neg 128 ∷ []) ≡ 999 ∷ 500 ∷ 1 ∷ []
  -- "period 2: always 1"
  pub least : (s : ℤ) → duty s 2 ≡ 1
  -- "two silent voices, requests 3, 5, 5, 7: voices 0, 1, 0, 0; priorities 7 and 5 remain"; by the present rules the last gets voice 1, the older of
  -- the two of priority 5
  pub handed : handings S.player two_voices four_requests ≡ places
  pub remain : remaining S.player two_voices four_requests ≡ 7 ∷ 5 ∷ []
  pub handed-of-01 : handings E.player two_voices-of-01 four_requests ≡ places-of-01
  pub remain-of-01 : remaining E.player two_voices-of-01 four_requests ≡ 7 ∷ 5 ∷ []
