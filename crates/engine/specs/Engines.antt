-- What the engine is asked. Assumes nothing.
use Rattle.std.specs.Prelude.{ℕ}
use Rattle.envelope.specs.declared.AdsrSpec.{AdsrSpec}
use Rattle.start.specs.declared.Request.{Request}

-- a play request's id, envelope and priority; `play` asks at priority 128
abbrev pub request_of : ℕ → AdsrSpec → ℕ → Request
request_of id adsr priority = record { id = id; adsr = adsr; priority = priority }
