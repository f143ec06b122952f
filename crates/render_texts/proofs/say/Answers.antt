-- `render_texts::say` meets its contract: as many of the words as there is room for stand behind the text.
use borrow.Author.Rules.{rules}
use borrow.Rule.Slice.PartMut.{put_mid}
use mathlib.Core.Path.{◌≡◌, ◌∙◌}
use mathlib.Core.List.{List, ◌++◌}
use Prim.Native.Nat.{ℕ, ◌+◌, ◌-◌, min}
use native.Mathlib.Omega.{arith}
use lib.ListN.{length, take, length-take}
use lib.Seq.{take_all}
use Rattle.std.proofs.lemmas.List.{take_min}
use Rattle.std.proofs.lemmas.Slice.{take-put_mid}
use Rattle.render_texts.proofs.Cut.{take-append}
use Rattle.render_texts.proofs.say.Goals as goal

said : (bytes words part : List ℕ) (n len more k : ℕ) → length bytes ≡ 256 → len ≡ min n 256 → more ≡ min (length words) (256 - len) → part ≡ take more words
    → take (len + more) (put_mid len k bytes part) ≡ take 256 (take n bytes ++ words)
said bytes words part n len more k f l m p =
    let count : length part ≡ more = rw p (omega (arith, length-take more words)) in
    let old : take len bytes ≡ take n bytes = rw (l, ← f) (take_min n bytes) in
    let room : length (take n bytes) ≡ len = omega (arith, length-take n bytes) in
    let e : more ≡ min (256 - len) (length words) = omega arith in
    let new : take more words ≡ take (256 - len) words = rw e (take_min (256 - len) words) in
    take-put_mid len k bytes part (len + more) (omega arith) (omega arith)
    ∙ rw (p, old, new, take-append 256 (take n bytes) words, room, take_all 256 (take n bytes) (omega arith))

pub returns : goal.returns
returns c =
    let t = c.args.t in
    let full : length t.bytes ≡ 256 = search rules in
    record {
      text = said t.bytes c.args.words.now _ t.len _ _ _ full c.min-len.ensures c.min-more.ensures c.copy_from_slice.ensures.after;
      short = omega (arith, c.min-len.ensures, c.min-more.ensures);
    }
