-- `wav::put` meets its contract: the bytes are laid over what stood there.
use native.Mathlib.Omega.{arith}
use Prim.Native.Nat.{ℕ, ◌+◌, ◌≤◌}
use mathlib.Core.Path.{◌≡◌}
use mathlib.Core.List.{List}
use lib.ListN.{length}
use lib.Seq.{sets, sets-eq}
use borrow.Rule.Slice.PartMut.{put_mid}
use Rattle.std.proofs.Common.{append_assoc}
use Rattle.std.proofs.lemmas.List.{drop-drop}
use Rattle.wav.proofs.put.Goals as goal

laid : (out bytes part : List ℕ) (at k : ℕ) → at + length bytes ≤ length out → part ≡ bytes → k ≡ length bytes → put_mid at k out part ≡ sets out at bytes
laid out bytes part at k h e n = rw (e, n, sets-eq bytes out at h, append_assoc, drop-drop)

pub returns : goal.returns
returns c = laid c.args.out.now c.args.bytes.now _ c.args.at _ c.requires c.copy_from_slice.ensures.after (omega arith)
