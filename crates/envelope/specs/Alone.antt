-- Document 01: "An envelope opened alone gets number 2 as an engine does." Assumes nothing.
use Rattle.std.specs.Prelude.{ℕ, cond, ltb}
use Rattle.error.specs.Told.{Told, value, refused}
use Rattle.envelope.specs.declared.AdsrSpec.{AdsrSpec}
use Rattle.envelope.specs.declared.Adsr.{Adsr}
use Rattle.envelope.specs.Adsrs.{idle_adsr}

-- "sample rate above 65,537 | 2"; else an idle envelope
unfoldable pub opened : AdsrSpec → ℕ → Told Adsr
opened spec rate = cond (ltb 65537 rate) (refused 2) (value (idle_adsr spec rate))
