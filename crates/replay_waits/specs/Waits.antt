-- The records 74 to 78, of requests that wait in a box of the present rules: each is a bad line on document 01's box. Fields count from byte 1 on. Assumes
-- nothing.
use Rattle.std.specs.Prelude.{ℕ, Bool, cond, ◌&&◌, List, eqb, None, Option, Some}
use Rattle.entering.specs.declared.Lined.{Lined}
use Rattle.error.specs.Numbers.{number_of}
use Rattle.hex_digits.specs.Hex.{byte_at, wide_at}
use Rattle.replay_box.specs.Boxes.{Gave, sounder_gave}
use Rattle.replay_box.specs.declared.OpenBox.{OpenBox}
use Rattle.replay_box.specs.declared.OpenBox.TheVariants.{Engine, Sounder}
use Rattle.replay_calls.specs.Calls.{sized_as, outcome_reply, replied, asked, record_of, called}
use Rattle.replay_calls.specs.declared.Record.{Record}
use Rattle.replay_calls.specs.declared.Reply.{Reply}
use Rattle.replay_calls.specs.declared.Reply.TheVariants as R
use Rattle.replay_fields.specs.Read.{spec_at}
use Rattle.sounder.specs.Calls.{left_in, withdrawn_in}
use Rattle.sounder.specs.Sounders.{request_of}
use Rattle.waiting.specs.Lines.{first_of, in_line}
use Rattle.error.specs.declared.AudioError.{AudioError}
use Rattle.waiting.specs.declared.Waiting.{Waiting}
use Rattle.replay_waits.specs.declared.Asked.{Asked}
use Rattle.replay_waits.specs.declared.Asked.TheVariants as A
use Rattle.replay_waits.specs.declared.Wait.{Wait}
use Rattle.replay_waits.specs.declared.Wait.TheVariants as W

-- the record of a code
unfoldable pub wait_of : ℕ → Option Wait
wait_of code =
    cond (eqb code 0x74) (Some W.Leave)
    (cond (eqb code 0x75) (Some W.Withdraw)
    (cond (eqb code 0x76) (Some W.Labels)
    (cond (eqb code 0x77) (Some W.Next)
    (cond (eqb code 0x78) (Some W.Kept) None))))

-- "In 74 building 0 is the only one .. until then it makes a bad line."
unfoldable pub allowed_wait : Wait → List ℕ → Bool
allowed_wait W.Leave l = sized_as 13 l && eqb (byte_at l 3) 0
allowed_wait W.Withdraw l = sized_as 2 l
allowed_wait W.Labels l = sized_as 0 l
allowed_wait W.Next l = sized_as 0 l
allowed_wait W.Kept l = sized_as 0 l

-- 74, leave a request: "label (2), building (1), id (2), E, priority (1) | number"
unfoldable pub leave_call : List ℕ → Lined → Gave Reply
leave_call l s = replied outcome_reply (sounder_gave (left_in s (wide_at l 1) (request_of (wide_at l 4) (spec_at l 6) (byte_at l 13))))

-- 75, withdraw: "label (2) | number"
unfoldable pub withdraw_call : List ℕ → Lined → Gave Reply
withdraw_call l s = replied outcome_reply (sounder_gave (withdrawn_in s (wide_at l 1)))

-- 77, next in line: "01 and its label (4 digits), or 00 where there is none"
abbrev pub next_reply : Option Waiting → Reply
next_reply None = R.Number 0
next_reply (Some w) = R.Labelled 1 w.label

-- 78, kept refusal: "its number and its label (4 digits), or 00 where there is none"
abbrev pub kept_reply : Option (AudioError × ℕ) → Reply
kept_reply None = R.Number 0
kept_reply (Some (error, label)) = R.Labelled (number_of error) label

-- by the record. 76 prints the labels that wait.
unfoldable pub wait_for : Wait → List ℕ → Lined → Gave Reply
wait_for W.Leave l s = leave_call l s
wait_for W.Withdraw l s = withdraw_call l s
wait_for W.Labels l s = asked R.Waiting (Sounder s)
wait_for W.Next l s = asked (next_reply (first_of (in_line s.line))) (Sounder s)
wait_for W.Kept l s = asked (kept_reply s.kept) (Sounder s)

unfoldable pub waited : Wait → List ℕ → OpenBox → Gave Reply
waited w l (Engine m) = asked R.Bad (Engine m)
waited w l (Sounder s) = cond (allowed_wait w l) (wait_for w l s) (asked R.Bad (Sounder s))

-- ---- every record of an open box

abbrev pub else_record : Option Wait → Option Record → Option Asked
else_record (Some w) r = Some (A.Wait w)
else_record None (Some r) = Some (A.Other r)
else_record None None = None

unfoldable pub asked_of : ℕ → Option Asked
asked_of code = else_record (wait_of code) (record_of code)

unfoldable pub called_any : Asked → List ℕ → List ℕ → OpenBox → Gave Reply
called_any (A.Wait w) l bytes e = waited w l e
called_any (A.Other r) l bytes e = called r l bytes e
