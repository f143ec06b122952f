-- What a start gives: a voice that is valid and audible, of the priority asked. Assumes nothing.
use Rattle.std.specs.Prelude.{None, Option, Some}
use Prim.Native.Nat.{ℕ, ◌≤◌}
use mathlib.Core.Path.{◌≡◌, refl}
use mathlib.Core.Bool.{Bool, true}
use mathlib.Core.List.{List}
use borrow.Author.Tests.{le-ltb}
use Rattle.bank.specs.Banks.{payload_under}
use Rattle.bank.specs.declared.SoundBank.{SoundBank}
use Rattle.bank.specs.declared.EffectEntry.{EffectEntry}
use Rattle.bank.specs.Search.{found_given}
use Rattle.error.specs.Told.{Told, value, refused, and_then, passed, value_in, ValidTold}
use Rattle.error.proofs.Told.{then-value, start-value}
use Rattle.bank.proofs.Payloads.{payload-value}
use Rattle.envelope.specs.declared.AdsrSpec.{AdsrSpec}
use Rattle.voice.specs.Sources.{ValidSource, started_entry}
use Rattle.voice.specs.Voices.{Valid, silent_voice, audible}
use Rattle.voice.specs.declared.Voice.{Voice}
use Rattle.voice.specs.declared.source.VoiceSource.{VoiceSource}
use Rattle.voice.proofs.Laws as L
use Rattle.start.specs.declared.Request.{Request}
use Rattle.start.specs.Starts.{at_rate, started_voice, start_at, entry_start_under, request_start_under}

-- the voice before its envelope is triggered
pub valid-untriggered : (rate gain priority : ℕ) (source : VoiceSource) (v : Voice) → v ≡ silent_voice rate → rate ≤ 65537 → ValidSource source
    → Valid
    (record {
      source = source;
      adsr = v.adsr;
      gain_q8 = gain;
      priority = priority;
      pan_q8 = v.pan_q8;
      sample_rate_hz = v.sample_rate_hz;
    })
valid-untriggered rate gain priority source v e h k =
    let s : Valid v = rw e (L.valid-silent h) in
    record { rate = s.rate; source = k; adsr = s.adsr }

-- a start from a bank, by its payload
module _ (parted : Bool) (bank : Option SoundBank) (b : SoundBank) (bytes : List ℕ) (entry : EffectEntry) (adsr : AdsrSpec) (priority : ℕ) (h : bank ≡ Some b) where
  pub start-refused : (n : ℕ) → payload_under parted (Some b) bytes entry.offset entry.len ≡ refused n → entry_start_under parted bank bytes entry adsr priority ≡ refused n
  unfolding entry_start_under
  start-refused n k = rw (h, k)

  pub start-whole : payload_under parted (Some b) bytes entry.offset entry.len ≡ passed → entry_start_under parted bank bytes entry adsr priority ≡ start_at b.sample_rate_hz entry adsr priority
  unfolding entry_start_under
  start-whole k = rw (h, k)

-- the voice, at a rate that an engine can have
pub at-rate : (rate : ℕ) (v : Voice) → rate ≤ 65537 → at_rate rate v ≡ value v
unfolding at_rate
at-rate rate v h = rw (le-ltb 65537 rate h)

-- ---- what is heard: a voice that is given is audible and of the priority asked
abbrev pub Heard : ℕ → Told Voice → Type 0
Heard priority t = ValidTold (λ v. (audible v ≡ true) × (v.priority ≡ priority)) t

then-heard : {A : Type 0} (priority : ℕ) (t : Told A) (next : A → Told Voice) → ((x : A) → Heard priority (next x)) → Heard priority (and_then t next)
then-heard priority (value x) next h = h x
then-heard priority (refused n) next h = tt

voice-heard : (rate gain priority : ℕ) (source : VoiceSource) (adsr : AdsrSpec) → Heard priority (value (started_voice rate gain priority source adsr))
unfolding started_voice
voice-heard rate gain priority source adsr = (L.triggered-audible _ adsr, L.triggered-priority _ adsr)

at-heard : (rate : ℕ) (entry : EffectEntry) (adsr : AdsrSpec) (priority : ℕ) → Heard priority (start_at rate entry adsr priority)
unfolding start_at
at-heard rate entry adsr priority =
    then-heard priority (started_entry entry.kind entry.param0 entry.param1 rate) _
    (λ source. voice-heard rate entry.default_gain_q8 priority source adsr)

pub entry-heard : (parted : Bool) (bank : Option SoundBank) (bytes : List ℕ) (entry : EffectEntry) (adsr : AdsrSpec) (priority : ℕ) → Heard priority (entry_start_under parted bank bytes entry adsr priority)
unfolding entry_start_under
entry-heard parted None bytes entry adsr priority = tt
entry-heard parted (Some b) bytes entry adsr priority =
    then-heard priority (payload_under parted (Some b) bytes entry.offset entry.len) _ (λ _. at-heard b.sample_rate_hz entry adsr priority)

pub request-heard : (parted : Bool) (bank : Option SoundBank) (bytes : List ℕ) (r : Request) → Heard r.priority (request_start_under parted bank bytes r)
unfolding request_start_under
request-heard parted bank bytes r =
    then-heard r.priority (found_given bank bytes r.id) _ (λ entry. entry-heard parted bank bytes entry r.adsr r.priority)

-- ---- the two rules of a payload's refusal differ in its number alone
pub entry_value : (a b : Bool) (bank : Option SoundBank) (bytes : List ℕ) (entry : EffectEntry) (adsr : AdsrSpec) (priority : ℕ)
    → value_in (entry_start_under a bank bytes entry adsr priority) ≡ value_in (entry_start_under b bank bytes entry adsr priority)
unfolding entry_start_under
entry_value a b None bytes entry adsr priority = refl
entry_value a b (Some k) bytes entry adsr priority =
    start-value (payload_under a (Some k) bytes entry.offset entry.len) (payload_under b (Some k) bytes entry.offset entry.len) _
    (payload-value (Some k) bytes entry.offset entry.len a b)

pub request-value : (a b : Bool) (bank : Option SoundBank) (bytes : List ℕ) (r : Request)
    → value_in (request_start_under a bank bytes r) ≡ value_in (request_start_under b bank bytes r)
unfolding request_start_under
request-value a b bank bytes r = then-value (found_given bank bytes r.id) _ _ (λ entry. entry_value a b bank bytes entry r.adsr r.priority)
